-- The newest firm snapshot of a node, and one of a place.
use Rattle.std.proofs.Common.{◌≡◌, ℕ, zero, suc, ◌+◌, ◌<◌, ◌==◌, nat_le, Bool, true, false, ◌&&◌, cond, List, [], ◌∷◌, ◌++◌, length, drop, get_or, find, filter, Option, Some, None, is_some, refl, ap, sym, ◌∙◌, arith}
use Rattle.std.specs.Option.{option_or, option_to_list}
use Rattle.std.proofs.lemmas.List.Folds.{find-append}
use Rattle.smart_base.specs.Lists.{or_else}
use Rattle.smart_messages.specs.Messages.{kept_if}
use Rattle.node_rules.specs.Nodes.{Node}
use Rattle.node_rules.specs.Marks.{is_firm_snapshot, last_taken, own_snapshots, newest_firm, firm_at}
use Rattle.node_rules.specs.declared.node.OwnSnapshot.{OwnSnapshot}

or_none : {A : Type 0} (o : Option A) → or_else o None ≡ o
or_none None = refl
or_none (Some x) = refl

or_last : (o found : Option OwnSnapshot) (s : OwnSnapshot) → or_else (or_else o (Some s)) found ≡ or_else o (Some s)
or_last None found s = refl
or_last (Some x) found s = refl

-- ---- the last firm one, from the left

-- what the walk has found so far, and the last firm one of those left
abbrev pub Newer : ℕ → List OwnSnapshot → ℕ → Option OwnSnapshot → Type 0
Newer firm taken i found = or_else (last_taken (filter (λ (s : OwnSnapshot). nat_le s.needs firm) (drop i taken))) found ≡ last_taken (filter (λ (s : OwnSnapshot). nat_le s.needs firm) taken)

left_is : {A : Type 0} (p : A → Bool) (xs : List A) (i : ℕ) (x : A) → i < length xs → x ≡ get_or xs i x → filter p (drop i xs) ≡ cond (p x) (x ∷ filter p (drop (i + 1) xs)) (filter p (drop (i + 1) xs))
left_is p [] i x within is = absurd (omega arith)
left_is p (y ∷ ys) zero x within is = ap (λ z. cond (p z) (z ∷ filter p ys) (filter p ys)) (sym is)
left_is p (y ∷ ys) (suc i) x within is =
    let e : suc (i + 1) ≡ suc i + 1 = omega arith in
    left_is p ys i x (omega arith) is ∙ ap (λ k. cond (p x) (x ∷ filter p (drop k (y ∷ ys))) (filter p (drop k (y ∷ ys)))) e

pub newer_none : (firm : ℕ) (taken : List OwnSnapshot) → Newer firm taken 0 None
newer_none firm taken = or_none (last_taken (filter (λ (s : OwnSnapshot). nat_le s.needs firm) taken))

pub newer_kept : (firm : ℕ) (taken : List OwnSnapshot) (i : ℕ) (s : OwnSnapshot) (found now : Option OwnSnapshot) → i < length taken → s ≡ get_or taken i s → nat_le s.needs firm ≡ true → now ≡ Some s
    → Newer firm taken i found → Newer firm taken (i + 1) now
newer_kept firm taken i s found now within is holds at newer =
    let p : OwnSnapshot → Bool = λ (x : OwnSnapshot). nat_le x.needs firm in
    let rest : List OwnSnapshot = filter p (drop (i + 1) taken) in
    let left : filter p (drop i taken) ≡ s ∷ rest = left_is p taken i s within is ∙ ap (λ t. cond t (s ∷ rest) rest) holds in
    ap (λ (o : Option OwnSnapshot). or_else (last_taken rest) o) at
    ∙ (sym (or_last (last_taken rest) found s) ∙ (ap (λ (xs : List OwnSnapshot). or_else (last_taken xs) found) (sym left) ∙ newer))

pub newer_passed : (firm : ℕ) (taken : List OwnSnapshot) (i : ℕ) (s : OwnSnapshot) (found now : Option OwnSnapshot) → i < length taken → s ≡ get_or taken i s → nat_le s.needs firm ≡ false → now ≡ found
    → Newer firm taken i found → Newer firm taken (i + 1) now
newer_passed firm taken i s found now within is fails at newer =
    let p : OwnSnapshot → Bool = λ (x : OwnSnapshot). nat_le x.needs firm in
    let rest : List OwnSnapshot = filter p (drop (i + 1) taken) in
    let left : filter p (drop i taken) ≡ rest = left_is p taken i s within is ∙ ap (λ t. cond t (s ∷ rest) rest) fails in
    ap (λ (o : Option OwnSnapshot). or_else (last_taken rest) o) at ∙ (ap (λ (xs : List OwnSnapshot). or_else (last_taken xs) found) (sym left) ∙ newer)

-- ---- with that of the checkpoint

first_by : (p : OwnSnapshot → Bool) (s : OwnSnapshot) (taken : List OwnSnapshot) (t : Bool)
    → last_taken (cond t (s ∷ filter p taken) (filter p taken)) ≡ or_else (last_taken (filter p taken)) (cond t (Some s) None)
first_by p s taken true = refl
first_by p s taken false = sym (or_none (last_taken (filter p taken)))

parted : (p : OwnSnapshot → Bool) (checkpoint : Option OwnSnapshot) (taken : List OwnSnapshot)
    → last_taken (filter p (option_to_list checkpoint ++ taken)) ≡ or_else (last_taken (filter p taken)) (kept_if p checkpoint)
parted p None taken = sym (or_none (last_taken (filter p taken)))
parted p (Some s) taken = first_by p s taken (p s)

or_there : (o other : Option OwnSnapshot) → is_some o ≡ true → or_else o other ≡ o
or_there None other some = absurd (cc)
or_there (Some x) other some = refl

or_absent : (o other : Option OwnSnapshot) → is_some o ≡ false → or_else o other ≡ other
or_absent None other none = refl
or_absent (Some x) other none = absurd (cc)

-- one that the node took
pub newest_some : {S : Type 0} (n : Node S) (found : Option OwnSnapshot) → found ≡ last_taken (filter (is_firm_snapshot n) n.taken) → is_some found ≡ true → found ≡ newest_firm n
unfolding newest_firm
newest_some n found is some =
    sym (or_there found (kept_if (is_firm_snapshot n) n.checkpoint) some)
    ∙ (ap (λ (o : Option OwnSnapshot). or_else o (kept_if (is_firm_snapshot n) n.checkpoint)) is ∙ sym (parted (is_firm_snapshot n) n.checkpoint n.taken))

-- else that of the checkpoint
pub newest_none : {S : Type 0} (n : Node S) (found other : Option OwnSnapshot) → found ≡ last_taken (filter (is_firm_snapshot n) n.taken) → is_some found ≡ false
    → other ≡ kept_if (is_firm_snapshot n) n.checkpoint → other ≡ newest_firm n
unfolding newest_firm
newest_none n found other is none at =
    at
    ∙ (sym (or_absent found (kept_if (is_firm_snapshot n) n.checkpoint) none)
    ∙ (ap (λ (o : Option OwnSnapshot). or_else o (kept_if (is_firm_snapshot n) n.checkpoint)) is ∙ sym (parted (is_firm_snapshot n) n.checkpoint n.taken)))

-- ---- of a place

abbrev of_place : {S : Type 0} → Node S → ℕ → OwnSnapshot → Bool
of_place n place s = is_firm_snapshot n s && (s.place == place)

option_there : (o other : Option OwnSnapshot) → is_some o ≡ true → option_or o other ≡ o
option_there None other some = absurd (cc)
option_there (Some x) other some = refl

option_absent : (o other : Option OwnSnapshot) → is_some o ≡ false → option_or o other ≡ other
option_absent None other none = refl
option_absent (Some x) other none = absurd (cc)

pub at_checkpoint : {S : Type 0} (n : Node S) (place : ℕ) (found : Option OwnSnapshot) → found ≡ find (λ (s : OwnSnapshot). is_firm_snapshot n s && (s.place == place)) (option_to_list n.checkpoint)
    → is_some found ≡ true → found ≡ firm_at n place
unfolding firm_at
at_checkpoint n place found is some =
    sym (option_there found (find (of_place n place) n.taken) some)
    ∙ (ap (λ (o : Option OwnSnapshot). option_or o (find (of_place n place) n.taken)) is ∙ sym (find-append (of_place n place) (option_to_list n.checkpoint) n.taken))

pub at_taken : {S : Type 0} (n : Node S) (place : ℕ) (found other : Option OwnSnapshot)
    → found ≡ find (λ (s : OwnSnapshot). is_firm_snapshot n s && (s.place == place)) (option_to_list n.checkpoint) → is_some found ≡ false
    → other ≡ find (λ (s : OwnSnapshot). is_firm_snapshot n s && (s.place == place)) n.taken → other ≡ firm_at n place
unfolding firm_at
at_taken n place found other is none at =
    at
    ∙ (sym (option_absent found (find (of_place n place) n.taken) none)
    ∙ (ap (λ (o : Option OwnSnapshot). option_or o (find (of_place n place) n.taken)) is ∙ sym (find-append (of_place n place) (option_to_list n.checkpoint) n.taken)))
