-- What a node adopts, and what becomes of it.
use Rattle.std.proofs.Common.{◌≡◌, ℕ, ◌+◌, ◌<◌, ◌^◌, ◌==◌, ◌++◌, ◌&&◌, ◌||◌, not, nat_lt, nat_le, Bool, true, false, List, [], ◌∷◌, find, refl, ap, sym, ◌∙◌, cond, arith, Option, Some, None, Bor}
use Rattle.std.specs.Prelude.{IfSome}
use Rattle.std.specs.Option.{option_copied}
use Rattle.std.proofs.lemmas.Bool.{ltb-true, ltb-false, leb-true, eqb-true, eq-eqb, ne_eqb}
use Rattle.std.proofs.lemmas.List.{append-nil}
use Rattle.smart_base.proofs.SameLists.{and_true}
use Rattle.smart_statements.specs.Forms.{SignedBy}
use Rattle.smart_messages.specs.declared.regency.Sync.{Sync}
use Rattle.vote_book.specs.declared.entry.Promise.{Promise}
use Rattle.vote_book.specs.declared.entry.Start.{Start}
use Rattle.vote_book.specs.declared.entry.LogEntry.{LogEntry}
use Rattle.vote_book.specs.declared.entry.LogEntry.TheVariants.{Promised, Synced}
use Rattle.regency_sync.specs.Synchronizers.{Synchronizer, needs_sync}
use Rattle.node_rules.specs.Nodes.{Node, view_of, regency_of, start_of, is_begun, is_synced, synchronizer_of}
use Rattle.node_rules.specs.Changes.{is_pressed, timing, start_by_sync, adopts_by, is_adoptable, adoption, adopts}
use Rattle.node_state.specs.Following.{is_unbegun, promised_by, reached, begun_at}

found_step : {A : Type 0} (p : A → Bool) (x y : A) (rest : Option A) (t : Bool) → p y ≡ t → (rest ≡ Some x → p x ≡ true) → cond t (Some y) rest ≡ Some x → p x ≡ true
found_step p x y rest true is later here = let e : y ≡ x = cc in ap (λ z. p z) (sym e) ∙ is
found_step p x y rest false is later there = later there

found_is : {A : Type 0} (p : A → Bool) (xs : List A) (x : A) → find p xs ≡ Some x → p x ≡ true
found_is p [] x found = absurd (cc)
found_is p (y ∷ ys) x found = found_step p x y (find p ys) (p y) refl (λ there. found_is p ys x there) found

-- a node takes part in its regency where that has begun
begun_now : {S : Type 0} (n : Node S) (regency : ℕ) → regency ≡ regency_of n → is_begun n regency ≡ is_synced n
unfolding start_of
begun_now n regency same = ap (λ (r : ℕ). is_begun n r) same

unbegun_by : (later same begun synced : Bool) → (later ≡ false → same ≡ true) → (later ≡ false → begun ≡ synced) → not begun ≡ true → (later || (same && not synced)) ≡ true
unbegun_by true same begun synced close alike is = refl
unbegun_by false true false false close alike is = refl
unbegun_by false true false true close alike is = let wrong : false ≡ true = alike refl in absurd (cc)
unbegun_by false true true synced close alike is = absurd (cc)
unbegun_by false false begun synced close alike is = let wrong : false ≡ true = close refl in absurd (cc)

pub adoption_where : {S : Type 0} (n : Node S) (s : SignedBy Sync) → adoption n ≡ Some s → (s.statement.view ≡ (view_of n).number) × (is_unbegun n s.statement.regency ≡ true)
unfolding adoption
adoption_where n s is =
    let found = found_is (is_adoptable n) n.syncs s is in
    let r : ℕ = s.statement.regency in
    let needed = and_true (needs_sync (view_of n).number (regency_of n) s) (not (is_begun n r)) found in
    let here = and_true (s.statement.view == (view_of n).number) (nat_le (regency_of n) r) needed.0 in
    let now : nat_lt (regency_of n) r ≡ false → r ≡ regency_of n =
    λ not_later. omega (arith, ltb-false (regency_of n) r not_later, leb-true (regency_of n) r here.1) in (
      eqb-true s.statement.view (view_of n).number here.0,
      unbegun_by (nat_lt (regency_of n) r) (r == regency_of n) (is_begun n r) (is_synced n) (λ not_later. eq-eqb r (regency_of n) (now not_later))
          (λ not_later. begun_now n r (now not_later)) needed.1,
    )

same_with : {S : Type 0} (n : Node S) (some others : List LogEntry) (stop stop' sync sync' : Bool) → some ≡ others → stop ≡ stop' → sync ≡ sync'
    → record n { entries = some; stop_made = stop; sync_made = sync; impatient = false } ≡ record n { entries = others; stop_made = stop'; sync_made = sync'; impatient = false }
same_with n some others stop stop' sync sync' e0 e1 e2 = rw (e0, e1, e2) refl

and_no : (a b : Bool) → b ≡ false → false ≡ (a && b)
and_no true b is = sym is
and_no false b is = refl

and_yes : (a b : Bool) → b ≡ true → a ≡ (a && b)
and_yes true b is = sym is
and_yes false b is = refl

same_regency : (later same begun : Bool) → (later || (same && not begun)) ≡ true → later ≡ false → same ≡ true
same_regency true same begun is none = absurd (cc)
same_regency false true begun is none = refl
same_regency false false begun is none = absurd (cc)

-- what a node adopts it takes part in from where it begins
pub adopts_where : {S : Type 0} (n : Node S) (s : SignedBy Sync) (start : Start) → Some s ≡ adoption n → start ≡ start_by_sync s.statement
    → begun_at (reached n (record { view = start.view; regency = start.regency })) start ≡ adopts n
unfolding adopts adopts_by
adopts_where n s start is at =
    rw (at, ← is) (by (nat_lt (regency_of n) r) refl)
  where
    r : ℕ
    r = s.statement.regency

    p : Promise
    p = record { view = s.statement.view; regency = r }

    e : LogEntry
    e = Synced (start_by_sync s.statement)

    by : (t : Bool) → nat_lt (regency_of n) r ≡ t
        → begun_at (cond t (promised_by n p) n) (start_by_sync s.statement)
        ≡ record n { entries = (n.entries ++ cond t (Promised p ∷ []) []) ++ e ∷ []; stop_made = n.stop_made && (r == regency_of n); sync_made = n.sync_made && (r == regency_of n); impatient = false }
    by true lt =
        let later : regency_of n < r = ltb-true (regency_of n) r lt in
        let other : (r == regency_of n) ≡ false = ne_eqb r (regency_of n) (λ (same : r ≡ regency_of n). omega (arith, later, same)) in
        same_with n ((n.entries ++ Promised p ∷ []) ++ e ∷ []) ((n.entries ++ Promised p ∷ []) ++ e ∷ []) false (n.stop_made && (r == regency_of n)) false (n.sync_made && (r == regency_of n))
        refl (and_no n.stop_made (r == regency_of n) other) (and_no n.sync_made (r == regency_of n) other)
    by false lt =
        let same : (r == regency_of n) ≡ true = same_regency (nat_lt (regency_of n) r) (r == regency_of n) (is_synced n) (adoption_where n s (sym is)).1 lt in
        same_with n (n.entries ++ e ∷ []) ((n.entries ++ []) ++ e ∷ []) n.stop_made (n.stop_made && (r == regency_of n)) n.sync_made (n.sync_made && (r == regency_of n))
        (ap (λ (es : List LogEntry). es ++ e ∷ []) (sym (append-nil n.entries))) (and_yes n.stop_made (r == regency_of n) same) (and_yes n.sync_made (r == regency_of n) same)

-- the first of what the synchronizer keeps is the first of what the node keeps
pub adoption_at : {S : Type 0} (n : Node S) (turn : Synchronizer) (syncs : List (SignedBy Sync)) → syncs ≡ turn.syncs → turn ≡ synchronizer_of n → find (is_adoptable n) syncs ≡ adoption n
unfolding adoption
adoption_at n turn syncs kept same = ap (λ (xs : List (SignedBy Sync)). find (is_adoptable n) xs) (kept ∙ ap (λ (s : Synchronizer). s.syncs) same)

pub adoption_view : {S : Type 0} (n : Node S) (o : Option (Bor (SignedBy Sync))) → option_copied o ≡ adoption n → IfSome o (λ s. s.now.statement.view ≡ (view_of n).number)
adoption_view n None is = tt
adoption_view n (Some s) is = (adoption_where n s.now (sym is)).0

pub adoption_later : {S : Type 0} (n : Node S) (o : Option (Bor (SignedBy Sync))) → option_copied o ≡ adoption n → IfSome o (λ s. is_unbegun n s.now.statement.regency ≡ true)
adoption_later n None is = tt
adoption_later n (Some s) is = (adoption_where n s.now (sym is)).1
