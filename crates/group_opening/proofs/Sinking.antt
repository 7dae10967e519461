-- The sinks of trails that were taken from a room so far, and one more of them.
use Rattle.std.proofs.Common.{◌≡◌, ◌∙◌, ℕ, zero, suc, ◌+◌, ◌^◌, ◌<◌, ◌≤◌, ◌⊎◌, inl, inr, List, [], ◌∷◌, ◌++◌, length, get_or, Option, Some, sym, ap, subst, arith}
use Rattle.std.proofs.lemmas.Bool.{cases_lt}
use Rattle.std.proofs.lemmas.List.{get_or_append_left, get_or_push, get_or_default}
use Rattle.disk_model.specs.Rooms.{Address, address, KeepsOthers}
use Rattle.member_opening.specs.Devices.{IsHeld}
use Rattle.trail.specs.declared.opening.TrailOpening.{TrailOpening}
use Rattle.group_opening.specs.Berths.{IsHeaded}
use Rattle.group_opening.specs.declared.berth.Berth.{Berth}

-- ---- numbers

pub counted : (all items index : ℕ) → all ≡ index + 1 → all ≡ items → items ≡ index + 1
counted all items index many same = omega (arith, many, same)

pub one-counted : (before after index : ℕ) → before ≡ index + 1 → after ≡ before + 1 → after ≡ index + 1 + 1
one-counted before after index many more = omega (arith, many, more)

pub still-room : (count before after : ℕ) → count + 1 ≤ before → after ≡ before → count + 1 ≤ after
still-room count before after room same = omega (arith, room, same)

pub room-left-by : (count index made places : ℕ) → made ≡ index + 1 → count + 1 ≤ places → index < count → made < places
room-left-by count index made places many room less = omega (arith, many, room, less)

pub number-fits : (count index : ℕ) → count < 2 ^ 16 → index < count → index + 1 < 2 ^ 16
number-fits count index few less = omega (arith, few, less)

pub few-sinks : (count index made kept : ℕ) → kept ≡ made → made ≡ index + 1 → count < 2 ^ 16 → index < count → kept ≤ 2 ^ 16
few-sinks count index made kept same many few less = omega (arith, same, many, few, less)

pub later-by : (first mid last : ℕ) → first ≤ mid → mid ≤ last → first ≤ last
later-by first mid last one two = omega (arith, one, two)

pub from-zero : (n : ℕ) → 0 ≤ n
from-zero n = omega arith

-- ---- sinks

pub other-member : (dir : List ℕ) (a b : ℕ) → (a ≡ b → ⊥) → address dir a 0 ≡ address dir b 0 → ⊥
other-member dir a b apart same = apart (ap (λ (x : Address). x.member) same)

module _ {O : Type 0} (written : O → Option (List ℕ)) (faults : O → ℕ) (dir : List ℕ) where
  headed-same : (old new : Address → Option ℕ) (member : ℕ) (head : TrailOpening) (entries : List (List ℕ)) (sink : O) → new (address dir member 0) ≡ old (address dir member 0)
      → IsHeaded written faults old dir member head entries sink → IsHeaded written faults new dir member head entries sink
  headed-same old new member head entries sink same is = record {
    held = subst (λ (taken : Option ℕ). IsHeld taken (faults sink)) (sym same) is.held;
    begun = is.begun;
    empty = is.empty;
    text = is.text;
  }

  pub headed-along : (taken : Address → Option ℕ) (dir' : List ℕ) (member member' : ℕ) (head : TrailOpening) (entries entries' : List (List ℕ)) (sink : O) → dir' ≡ dir → member' ≡ member → entries' ≡ entries
      → IsHeaded written faults taken dir' member' head entries' sink → IsHeaded written faults taken dir member head entries sink
  headed-along taken dir' member member' head entries entries' sink same named told is =
      subst (λ (x : List (List ℕ)). IsHeaded written faults taken dir member head x sink) told
      (subst (λ (n : ℕ). IsHeaded written faults taken dir n head entries' sink) named (subst (λ (d : List ℕ). IsHeaded written faults taken d member' head entries' sink) same is))

  -- the client's stays when one is taken behind it
  pub client-more : (old new : Address → Option ℕ) (number : ℕ) (sinks sinks' : List O) (sink : O) (head : TrailOpening) (index : ℕ) → sinks' ≡ sinks ++ sink ∷ [] → length sinks ≡ index + 1 → number ≡ index + 1
      → KeepsOthers (address dir number 0) old new → ((d : O) → IsHeaded written faults old dir 0 head [] (get_or sinks 0 d)) → (d : O) → IsHeaded written faults new dir 0 head [] (get_or sinks' 0 d)
  client-more old new number sinks sinks' sink head index more many here keeps was d =
      subst (IsHeaded written faults new dir 0 head []) (sym (ap (λ (xs : List O). get_or xs 0 d) more ∙ get_or_append_left sinks (sink ∷ []) d 0 (omega (arith, many))))
      (headed-same old new 0 head [] (get_or sinks 0 d) (keeps (address dir 0 0) (other-member dir 0 number (λ (same : 0 ≡ number). omega (arith, same, here)))) (was d))

  module _ {S D : Type 0} (berths : List (Berth S D)) (old new : Address → Option ℕ) (number index : ℕ) (sinks sinks' : List O) (sink : O) (berth : Berth S D)
      (more : sinks' ≡ sinks ++ sink ∷ []) (many : length sinks ≡ index + 1) (here : number ≡ index + 1) (read : berth ≡ get_or berths index berth) (within : index < length berths)
      (keeps : KeepsOthers (address dir number 0) old new) (one : IsHeaded written faults new dir number berth.head berth.entries sink)
      (was : (i : ℕ) (d : O) (b : Berth S D) → i < index → IsHeaded written faults old dir (i + 1) (get_or berths i b).head (get_or berths i b).entries (get_or sinks (i + 1) d)) where
    same-one : (i : ℕ) (b : Berth S D) → i ≡ index → get_or berths i b ≡ berth
    same-one i b is = ap (λ (n : ℕ). get_or berths n b) is ∙ get_or_default berths index b berth within ∙ sym read

    last-one : (i : ℕ) (d : O) (b : Berth S D) → i ≡ index → IsHeaded written faults new dir (i + 1) (get_or berths i b).head (get_or berths i b).entries (get_or sinks' (i + 1) d)
    last-one i d b is =
        let at : number ≡ i + 1 = omega (arith, here, is) in
        let told : sink ≡ get_or sinks' (i + 1) d = sym (ap (λ (xs : List O). get_or xs (i + 1) d) more ∙ get_or_push sinks sink d (i + 1) (omega (arith, many, is))) in
        subst (IsHeaded written faults new dir (i + 1) (get_or berths i b).head (get_or berths i b).entries) told
        (subst (λ (x : Berth S D). IsHeaded written faults new dir (i + 1) x.head x.entries sink) (sym (same-one i b is))
        (subst (λ (n : ℕ). IsHeaded written faults new dir n berth.head berth.entries sink) at one))

    earlier : (i : ℕ) (d : O) (b : Berth S D) → i < index → IsHeaded written faults new dir (i + 1) (get_or berths i b).head (get_or berths i b).entries (get_or sinks' (i + 1) d)
    earlier i d b less =
        subst (IsHeaded written faults new dir (i + 1) (get_or berths i b).head (get_or berths i b).entries)
        (sym (ap (λ (xs : List O). get_or xs (i + 1) d) more ∙ get_or_append_left sinks (sink ∷ []) d (i + 1) (omega (arith, many, less))))
        (headed-same old new (i + 1) (get_or berths i b).head (get_or berths i b).entries (get_or sinks (i + 1) d)
        (keeps (address dir (i + 1) 0) (other-member dir (i + 1) number (λ (same : i + 1 ≡ number). omega (arith, same, here, less)))) (was i d b less))

    by-place : (i : ℕ) (d : O) (b : Berth S D) → i < index + 1 → (i < index) ⊎ (index ≤ i) → IsHeaded written faults new dir (i + 1) (get_or berths i b).head (get_or berths i b).entries (get_or sinks' (i + 1) d)
    by-place i d b upto (inl less) = earlier i d b less
    by-place i d b upto (inr more) = last-one i d b (omega (arith, upto, more))

    -- those of the members so far, and the next
    pub members-more : (i : ℕ) (d : O) (b : Berth S D) → i < index + 1 → IsHeaded written faults new dir (i + 1) (get_or berths i b).head (get_or berths i b).entries (get_or sinks' (i + 1) d)
    members-more i d b upto = by-place i d b upto (cases_lt i index)

  -- those that are taken stay so, while another one is not to be had
  pub taken-still : (old new : Address → Option ℕ) (dir' : List ℕ) (number count : ℕ) → dir' ≡ dir → number ≡ count → KeepsOthers (address dir' number 0) old new
      → ((place : ℕ) → place < count → (before : ℕ) × (old (address dir place 0) ≡ Some before)) → (place : ℕ) → place < count → (before : ℕ) × (new (address dir place 0) ≡ Some before)
  taken-still old new dir' number count same here keeps was place few =
      let one = was place few in
      let kept : KeepsOthers (address dir number 0) old new = subst (λ (d : List ℕ). KeepsOthers (address d number 0) old new) same keeps in
      (one.0, kept (address dir place 0) (other-member dir place number (λ (at : place ≡ number). omega (arith, at, here, few))) ∙ one.1)

  -- each of them is taken
  module _ {S D : Type 0} (berths : List (Berth S D)) (taken : Address → Option ℕ) (head : TrailOpening) (index : ℕ) (berth : Berth S D) where
    taken-at : (x : O) (sinks : List O) → ((d : O) → IsHeaded written faults taken dir 0 head [] (get_or sinks 0 d))
        → ((i : ℕ) (d : O) (b : Berth S D) → i < index → IsHeaded written faults taken dir (i + 1) (get_or berths i b).head (get_or berths i b).entries (get_or sinks (i + 1) d))
        → (place : ℕ) → place < index + 1 → (before : ℕ) × (taken (address dir place 0) ≡ Some before)
    taken-at x sinks client members zero upto = ((client x).held.before, (client x).held.is)
    taken-at x sinks client members (suc i) upto =
        let one = members i x berth (omega (arith, upto)) in
        let next : i + 1 ≡ suc i = omega arith in
        (one.held.before, subst (λ (n : ℕ). taken (address dir n 0) ≡ Some one.held.before) next one.held.is)

    pub all-taken : (sinks : List O) → length sinks ≡ index + 1 → ((d : O) → IsHeaded written faults taken dir 0 head [] (get_or sinks 0 d))
        → ((i : ℕ) (d : O) (b : Berth S D) → i < index → IsHeaded written faults taken dir (i + 1) (get_or berths i b).head (get_or berths i b).entries (get_or sinks (i + 1) d))
        → (place : ℕ) → place < index + 1 → (before : ℕ) × (taken (address dir place 0) ≡ Some before)
    all-taken [] many client members place upto = absurd (omega (arith, many))
    all-taken (x ∷ sinks) many client members place upto = taken-at x (x ∷ sinks) client members place upto
