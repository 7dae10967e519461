-- Which snapshot a host's store is asked for, to which place it switches, and what a call leaves of this.
use Rattle.std.proofs.Common.{◌≡◌, ℕ, ◌≤◌, ◌<◌, nat_lt, Bool, true, false, not, ◌&&◌, cond, List, [], ◌∷◌, ◌++◌, length, Option, Some, None, is_some, refl, sym, ap, ◌∙◌, subst, arith}
use Rattle.std.proofs.lemmas.Bool.{ltb-true}
use Rattle.smart_base.specs.Lists.{Each, or_else}
use Rattle.vote_book.specs.Books.{HasMade}
use Rattle.book_laws.proofs.Kept.{else_assoc, else_none}
use Rattle.vote_book.specs.declared.entry.LogEntry.{LogEntry}
use Rattle.store_laws.specs.States.{StoreState, greatest, is_torn, some, Close, Repair, Switch, AddGroup, of_group, of_asked, group_of, due_job, begins, advanced, ends, job_called, store_called}
use Rattle.store_laws.specs.declared.job.Tail.{Tail}
use Rattle.store_laws.specs.declared.job.Ending.{Ending}
use Rattle.store_laws.specs.declared.job.Ending.TheVariants.{Closes, Repairs, Adds, Switches}
use Rattle.store_laws.specs.declared.job.StoreCall.{StoreCall}
use Rattle.node_rules.specs.Marks.{last_taken}
use Rattle.node_rules.specs.declared.node.OwnSnapshot.{OwnSnapshot}
use Rattle.world_rules.specs.Fronts.{stated_place}
use Rattle.world_rules.specs.Worlds.{place_of_own, asking_for}
use Rattle.member_store.specs.Cuts.{asked_place, HoldsWritten}
use Rattle.member_store.proofs.BookCalled.{asked_book}

-- ---- snapshots that a node took

-- a snapshot of a place that what was written has made, not before that of the checkpoint with which this life began, 0 without one
pub record IsTaken (opening : ℕ) (book : List LogEntry) (own : OwnSnapshot) : Type 0 where
  pub some : 0 < own.place
  pub past : opening ≤ own.place
  pub made : HasMade book own.place
  pub states : stated_place own.snapshot ≡ own.place

put : (a b : OwnSnapshot) → Some a ≡ Some b → a ≡ b
put a b same = cc

last_by : (P : OwnSnapshot → Type 0) (s own : OwnSnapshot) (behind o : Option OwnSnapshot) → behind ≡ o → P s → or_else behind (Some s) ≡ Some own → (behind ≡ Some own → P own) → P own
last_by P s own behind None at here is later = subst P (put s own (sym (ap (λ (x : Option OwnSnapshot). or_else x (Some s)) at) ∙ is)) here
last_by P s own behind (Some x) at here is later = later (at ∙ (sym (ap (λ (y : Option OwnSnapshot). or_else y (Some s)) at) ∙ is))

-- what holds of each holds of the last
pub each_last : (P : OwnSnapshot → Type 0) (taken : List OwnSnapshot) (own : OwnSnapshot) → Each P taken → last_taken taken ≡ Some own → P own
each_last P [] own each is = absurd cc
each_last P (s ∷ ss) own each is = last_by P s own (last_taken ss) (last_taken ss) refl each.0 is (λ at. each_last P ss own each.1 at)

-- the last of both is that of the second, if there is one
pub last_both : (xs ys : List OwnSnapshot) → last_taken (xs ++ ys) ≡ or_else (last_taken ys) (last_taken xs)
last_both [] ys = sym (else_none (last_taken ys))
last_both (x ∷ xs) ys = ap (λ (o : Option OwnSnapshot). or_else o (Some x)) (last_both xs ys) ∙ sym (else_assoc (last_taken ys) (last_taken xs) (Some x))

-- the last is of no earlier place than before, if the new ones are of no earlier place than the others
pub last_rises : (low : ℕ) (xs ys : List OwnSnapshot) → Each (λ (x : OwnSnapshot). x.place ≤ low) xs → Each (λ (y : OwnSnapshot). low ≤ y.place) ys
    → place_of_own (last_taken xs) ≤ place_of_own (last_taken (xs ++ ys))
last_rises low xs ys old new =
    subst (λ (o : Option OwnSnapshot). place_of_own (last_taken xs) ≤ place_of_own o) (sym (last_both xs ys)) (by (last_taken ys) refl)
  where
    before : (o : Option OwnSnapshot) → last_taken xs ≡ o → place_of_own o ≤ low
    before None is = omega arith
    before (Some x) is = each_last (λ (y : OwnSnapshot). y.place ≤ low) xs x old is

    by : (o : Option OwnSnapshot) → last_taken ys ≡ o → place_of_own (last_taken xs) ≤ place_of_own (or_else o (last_taken xs))
    by None is = omega arith
    by (Some y) is =
        let least = before (last_taken xs) refl in
        let most = each_last (λ (x : OwnSnapshot). low ≤ x.place) ys y new is in
        omega (arith, least, most)

-- where there is no last one, there is none
pub none_taken : (taken : List OwnSnapshot) → last_taken taken ≡ None → length taken ≡ 0
none_taken [] is = refl
none_taken (s ∷ ss) is = absurd (some_last (last_taken ss) is)
  where
    some_last : (o : Option OwnSnapshot) → or_else o (Some s) ≡ None → ⊥
    some_last None same = cc
    some_last (Some x) same = cc

-- the place that a node wants was made, if there is one
pub wanted_made : (opening : ℕ) (book : List LogEntry) (taken : List OwnSnapshot) → Each (IsTaken opening book) taken → 0 < place_of_own (last_taken taken)
    → HasMade book (place_of_own (last_taken taken)) × (opening ≤ place_of_own (last_taken taken))
wanted_made opening book taken each some = by (last_taken taken) refl some
  where
    by : (o : Option OwnSnapshot) → last_taken taken ≡ o → 0 < place_of_own o → HasMade book (place_of_own o) × (opening ≤ place_of_own o)
    by None is low = absurd (omega (arith, low))
    by (Some own) is low = let t : IsTaken opening book own = each_last (IsTaken opening book) taken own each is in (t.made, t.past)

-- ---- a store that is asked

-- all snapshots that it was asked for then
abbrev pub all_with : Option OwnSnapshot → List (List ℕ) → List (List ℕ)
all_with None all = all
all_with (Some own) all = own.snapshot ∷ all

pub asking_firm : (o : Option OwnSnapshot) (s : StoreState) → (asking_for o s).firm ≡ s.firm
asking_firm None s = refl
asking_firm (Some own) s = refl

pub asking_restored : (o : Option OwnSnapshot) (s : StoreState) → (asking_for o s).restored ≡ s.restored
asking_restored None s = refl
asking_restored (Some own) s = refl

pub holds-asking : (all : List (List ℕ)) (s : StoreState) (past top place : ℕ) (book aside : List LogEntry) (o : Option OwnSnapshot) → HoldsWritten all s past top place book aside
    → HoldsWritten (all_with o all) (asking_for o s) past top place book aside
holds-asking all s past top place book aside None h = h
holds-asking all s past top place book aside (Some own) h = asked_book all s past top place book aside own.snapshot h

-- what waits then is what the node wants
pub asks-wanted : (opening : ℕ) (book : List LogEntry) (before taken : List OwnSnapshot) (s : StoreState) → Each (IsTaken opening book) taken
    → (is_some s.asked ≡ true → asked_place s.asked ≡ place_of_own (last_taken before)) → (nat_lt (length before) (length taken) ≡ false → last_taken taken ≡ last_taken before)
    → is_some (asking_for (cond (nat_lt (length before) (length taken)) (last_taken taken) None) s).asked ≡ true
    → asked_place (asking_for (cond (nat_lt (length before) (length taken)) (last_taken taken) None) s).asked ≡ place_of_own (last_taken taken)
asks-wanted opening book before taken s each old same = by (nat_lt (length before) (length taken)) refl (last_taken taken) refl
  where
    by : (b : Bool) → nat_lt (length before) (length taken) ≡ b → (o : Option OwnSnapshot) → last_taken taken ≡ o → is_some (asking_for (cond b o None) s).asked ≡ true
        → asked_place (asking_for (cond b o None) s).asked ≡ place_of_own o
    by true more None is some =
        let none = none_taken taken is in
        let low = ltb-true (length before) (length taken) more in
        absurd (omega (arith, none, low))
    by true more (Some own) is some = (each_last (IsTaken opening book) taken own each is).states
    by false less o is some = old some ∙ ap (λ (x : Option OwnSnapshot). place_of_own x) (sym (same less) ∙ is)

-- ---- a device call

ends_asked : (e : Ending) (q : StoreState) → (ends e q).asked ≡ q.asked
ends_asked (Closes odd) q = refl
ends_asked Repairs q = refl
ends_asked (Adds end) q = refl
ends_asked (Switches end last) q = refl

job_asked : (tail : Tail) (calls : List StoreCall) (q : StoreState) → (job_called tail calls q).asked ≡ q.asked
job_asked tail [] q = refl
job_asked tail (call ∷ []) q = ends_asked (advanced tail call [] q).ending (advanced tail call [] q)
job_asked tail (call ∷ (more ∷ left)) q = refl

ends_restored : (e : Ending) (q : StoreState) → (ends e q).restored ≡ q.restored
ends_restored (Closes odd) q = refl
ends_restored Repairs q = refl
ends_restored (Adds end) q = refl
ends_restored (Switches end last) q = refl

job_restored : (tail : Tail) (calls : List StoreCall) (q : StoreState) → (job_called tail calls q).restored ≡ q.restored
job_restored tail [] q = refl
job_restored tail (call ∷ []) q = ends_restored (advanced tail call [] q).ending (advanced tail call [] q)
job_restored tail (call ∷ (more ∷ left)) q = refl

module _ (stops : List ℕ → Bool) (tail : Tail) (s : StoreState) where
  abbrev Calls : StoreState → Type 0
  Calls q = ((job_called tail q.running q).restored ≡ s.restored) × (is_some (job_called tail q.running q).asked ≡ true → (job_called tail q.running q).asked ≡ s.asked)

  same : (q : StoreState) → q.restored ≡ s.restored → q.asked ≡ s.asked → Calls q
  same q restored asked = (job_restored tail q.running q ∙ restored, λ some. job_asked tail q.running q ∙ asked)

  switch : (snapshot : List ℕ) → Calls (begins (Switch snapshot) s)
  switch snapshot =
      let q : StoreState = begins (Switch snapshot) s in
      (job_restored tail q.running q, λ some. absurd (none (job_called tail q.running q).asked (job_asked tail q.running q) some))
    where
      none : (o : Option (List ℕ)) → o ≡ None → is_some o ≡ true → ⊥
      none None is some = cc
      none (Some x) is some = cc

  group : (entries : List (List ℕ)) → Calls (begins (of_group entries) s)
  group [] = same s refl refl
  group (entry ∷ entries) = same (begins (AddGroup (entry ∷ entries)) s) refl refl

  first_asked : (o : Option (List ℕ)) → Calls (begins (of_asked o (of_group (group_of stops s.waiting))) s)
  first_asked None = group (group_of stops s.waiting)
  first_asked (Some snapshot) = switch snapshot

  choose : (even odd torn : Bool) → Calls (begins (cond even (Close false) (cond odd (Close true) (cond torn Repair (of_asked (cond (nat_lt s.generation greatest) s.asked None) (of_group (group_of stops s.waiting)))))) s)
  choose true odd torn = same (begins (Close false) s) refl refl
  choose false true torn = same (begins (Close true) s) refl refl
  choose false false true = same (begins Repair s) refl refl
  choose false false false = first_asked (cond (nat_lt s.generation greatest) s.asked None)

  -- a call leaves the number of restored entries, and what waits to be switched to, unless that begins
  pub call_leaves : ((store_called stops tail s).restored ≡ s.restored) × (is_some (store_called stops tail s).asked ≡ true → (store_called stops tail s).asked ≡ s.asked)
  call_leaves = by (some s.running)
    where
      by : (t : Bool) → Calls (cond t s (begins (due_job stops s) s))
      by true = same s refl refl
      by false = choose (is_torn s.even) (is_torn s.odd) s.torn

-- what waited is what the node wants, if a switch waited
pub same_place : (a b : Bool) (x y z : ℕ) → (a ≡ true → x ≡ y) → cond (a && not b) x z ≡ cond (a && not b) y z
same_place true true x y z is = refl
same_place true false x y z is = is refl
same_place false b x y z is = refl
