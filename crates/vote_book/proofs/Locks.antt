-- What the last place and the lock are.
use Rattle.std.proofs.Common.{◌≡◌, inl, inr, ⊎_elim, ℕ, ◌+◌, ◌<◌, ◌≤◌, Bool, true, false, ◌&&◌, ◌||◌, ◌==◌, nat_lt, cond, List, [], ◌∷◌, Option, None, Some, refl, sym, ap, subst, ◌∙◌, arith}
use Rattle.std.specs.Prelude.{find}
use Rattle.std.specs.List.{list_any}
use Rattle.std.proofs.lemmas.Bool.{eqb-true, eq-eqb, ltb-true, ltb-false, and_parts, and_from}
use Rattle.vote_book.specs.declared.entry.LogEntry.{LogEntry}
use Rattle.vote_book.specs.declared.entry.LogEntry.TheVariants.{Opened, Wrote, Accepted, Promised, Synced, Decided, Installed, Marked}
use Rattle.vote_book.specs.declared.entry.Accept.{Accept}
use Rattle.vote_book.specs.Books.{place_made, latest_made, last_made, Among, HasMade}
use Rattle.vote_book.specs.Admission.{makes}
use Rattle.vote_book.specs.BookReports.{last_maker, accept_for, greater, greatest_accept, lock_of, IsGreatestAccept}
use Rattle.vote_book.proofs.Tested.{number_is, is_made, made_within, last_has, none_latest}

-- ---- the last place

pub record Found (p : LogEntry → Bool) (es : List LogEntry) (e : LogEntry) : Type 0 where
  pub there : Among e es
  pub passes : p e ≡ true

pub found : (p : LogEntry → Bool) (es : List LogEntry) (e : LogEntry) → find p es ≡ Some e → Found p es e
found p [] e is = absurd (cc)
found p (x ∷ xs) e is = by (p x) refl is (λ rest. found p xs e rest)
  where
    by : (t : Bool) → p x ≡ t → cond t (Some x) (find p xs) ≡ Some e → (find p xs ≡ Some e → Found p xs e) → Found p (x ∷ xs) e
    by true passes is rest = let same : x ≡ e = cc in record { there = inl (sym same); passes = subst (λ (y : LogEntry). p y ≡ true) same passes }
    by false passes is rest = let later = rest is in record { there = inr later.there; passes = later.passes }

pub not_found : (p : LogEntry → Bool) (es : List LogEntry) → find p es ≡ None → list_any p es ≡ false
not_found p [] is = refl
not_found p (x ∷ xs) is = by (p x) is (λ rest. not_found p xs rest)
  where
    by : (t : Bool) → cond t (Some x) (find p xs) ≡ None → (find p xs ≡ None → list_any p xs ≡ false) → (t || list_any p xs) ≡ false
    by true is rest = absurd (cc)
    by false is rest = rest is

pub made_most : (entries : List LogEntry) (place : ℕ) → HasMade entries place → place ≤ last_made entries
made_most entries place has = made_within has.entry entries place has.there has.made

pub maker_is : (entries : List LogEntry) (e : LogEntry) → last_maker entries ≡ Some e → Among e entries × (place_made e ≡ Some (last_made entries))
maker_is entries e is =
    let f = found (makes (last_made entries)) entries e is in
    (f.there, number_is (last_made entries) (place_made e) f.passes)

pub no_maker : (entries : List LogEntry) (place : ℕ) → last_maker entries ≡ None → HasMade entries place → ⊥
no_maker entries place none has = by (latest_made entries) refl
  where
    by : (latest : Option ℕ) → latest_made entries ≡ latest → ⊥
    by None is = none_latest has.entry entries place has.there has.made is
    by (Some latest) is =
        let some = is_made (last_made entries) entries (last_has entries latest is) in
        let other = not_found (makes (last_made entries)) entries none in
        cc

-- ---- the lock

-- which accept is the greatest so far, if there is one
abbrev IsGreatest : ℕ → ℕ → List LogEntry → Option Accept → Type 0
IsGreatest view place entries None = (a : Accept) → Among (Accepted a) entries → a.slot.view ≡ view → a.slot.place ≡ place → ⊥
IsGreatest view place entries (Some a) = IsGreatestAccept view place entries a

-- an entry as an accept for a place
abbrev IsFor : ℕ → ℕ → LogEntry → Option Accept → Type 0
IsFor view place e None = (a : Accept) → e ≡ Accepted a → a.slot.view ≡ view → a.slot.place ≡ place → ⊥
IsFor view place e (Some a) = (e ≡ Accepted a) × (a.slot.view ≡ view) × (a.slot.place ≡ place)

for_it : (view place : ℕ) (e : LogEntry) → IsFor view place e (accept_for view place e)
for_it view place (Accepted a) = by (a.slot.view == view && a.slot.place == place) refl
  where
    by : (t : Bool) → (a.slot.view == view && a.slot.place == place) ≡ t → IsFor view place (Accepted a) (cond t (Some a) None)
    by true is = let parts = and_parts (a.slot.view == view) (a.slot.place == place) is in (refl, eqb-true a.slot.view view parts.0, eqb-true a.slot.place place parts.1)
    by false is = λ other (same : Accepted a ≡ Accepted other) v p.
        let it : a ≡ other = cc in
        let test : (other.slot.view == view && other.slot.place == place) ≡ true = and_from (other.slot.view == view) (other.slot.place == place) (eq-eqb other.slot.view view v) (eq-eqb other.slot.place place p) in
        let here : (other.slot.view == view && other.slot.place == place) ≡ false = subst (λ (x : Accept). (x.slot.view == view && x.slot.place == place) ≡ false) it is in
        cc
for_it view place (Opened o) = λ a (same : Opened o ≡ Accepted a) v p. cc
for_it view place (Wrote w) = λ a (same : Wrote w ≡ Accepted a) v p. cc
for_it view place (Promised q) = λ a (same : Promised q ≡ Accepted a) v p. cc
for_it view place (Synced s) = λ a (same : Synced s ≡ Accepted a) v p. cc
for_it view place (Decided d) = λ a (same : Decided d ≡ Accepted a) v p. cc
for_it view place (Installed i) = λ a (same : Installed i ≡ Accepted a) v p. cc
for_it view place (Marked m) = λ a (same : Marked m ≡ Accepted a) v p. cc

one_more : (view place : ℕ) (e : LogEntry) (es : List LogEntry) (here rest : Option Accept) → IsFor view place e here → IsGreatest view place es rest
    → IsGreatest view place (e ∷ es) (greater here rest)
one_more view place e es None None first later = λ a there v p. ⊎_elim (λ (same : Accepted a ≡ e). first a (sym same) v p) (λ in_rest. later a in_rest v p) there
one_more view place e es None (Some b) first later = record {
  there = inr later.there;
  view_is = later.view_is;
  place_is = later.place_is;
  greatest = λ other there v p. ⊎_elim (λ (same : Accepted other ≡ e). absurd (first other (sym same) v p)) (λ in_rest. later.greatest other in_rest v p) there;
}
one_more view place e es (Some a) None first later = record {
  there = inl (sym first.0);
  view_is = first.1;
  place_is = first.2;
  greatest = λ other there v p. ⊎_elim
      (λ (same : Accepted other ≡ e). let it : Accepted other ≡ Accepted a = same ∙ first.0 in let is : other ≡ a = cc in let r : other.slot.regency ≡ a.slot.regency = ap (λ (x : Accept). x.slot.regency) is in omega arith)
      (λ in_rest. absurd (later other in_rest v p)) there;
}
one_more view place e es (Some a) (Some b) first later = by (nat_lt a.slot.regency b.slot.regency) refl
  where
    head : (other : Accept) → Accepted other ≡ e → other.slot.regency ≡ a.slot.regency
    head other same = let it : Accepted other ≡ Accepted a = same ∙ first.0 in let is : other ≡ a = cc in ap (λ (x : Accept). x.slot.regency) is

    by : (t : Bool) → nat_lt a.slot.regency b.slot.regency ≡ t → IsGreatest view place (e ∷ es) (cond t (Some b) (Some a))
    by true is = record {
      there = inr later.there;
      view_is = later.view_is;
      place_is = later.place_is;
      greatest = λ other there v p. ⊎_elim
          (λ (same : Accepted other ≡ e). let r = head other same in let less : a.slot.regency < b.slot.regency = ltb-true a.slot.regency b.slot.regency is in omega arith)
          (λ in_rest. later.greatest other in_rest v p) there;
    }
    by false is = record {
      there = inl (sym first.0);
      view_is = first.1;
      place_is = first.2;
      greatest = λ other there v p. ⊎_elim
          (λ (same : Accepted other ≡ e). let r = head other same in omega arith)
          (λ in_rest. let most : other.slot.regency ≤ b.slot.regency = later.greatest other in_rest v p in
          let less : b.slot.regency ≤ a.slot.regency = ltb-false a.slot.regency b.slot.regency is in omega arith) there;
    }

all_greatest : (view place : ℕ) (entries : List LogEntry) → IsGreatest view place entries (greatest_accept view place entries)
all_greatest view place [] = λ a there v p. there
all_greatest view place (e ∷ es) = one_more view place e es (accept_for view place e) (greatest_accept view place es) (for_it view place e) (all_greatest view place es)

pub lock_is : (view : ℕ) (entries : List LogEntry) (a : Accept) → lock_of view entries ≡ Some a → IsGreatestAccept view (last_made entries + 1) entries a
lock_is view entries a is = subst (λ (o : Option Accept). IsGreatest view (last_made entries + 1) entries o) is (all_greatest view (last_made entries + 1) entries)

pub no_lock : (view : ℕ) (entries : List LogEntry) (a : Accept) → lock_of view entries ≡ None → Among (Accepted a) entries → a.slot.view ≡ view → a.slot.place ≡ last_made entries + 1 → ⊥
no_lock view entries a is = let none = subst (λ (o : Option Accept). IsGreatest view (last_made entries + 1) entries o) is (all_greatest view (last_made entries + 1) entries) in none a
