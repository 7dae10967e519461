-- What was restored and is not damaged, and the first damage of what is.
use Rattle.std.proofs.Common.{Bool, List, None, Ok, Err, Option, Result, Some, ap, append-nil, append_assoc, arith, cond, false, inl, inr, length, length-append, refl, subst, sym, take, true, ℕ, ◌≡◌, ◌⊎◌, ◌≤◌, ◌<◌, ◌∙◌, ◌+◌, ◌-◌, ◌++◌, ◌∷◌, [], ◌&&◌}
use Rattle.std.proofs.lemmas.Bool.{both_ways, false_from_ne_true}
use Rattle.std.proofs.Math.Seq.{take-append_seam}
use Rattle.std.specs.List.{cons_option}
use Rattle.std.specs.Prelude.{map, ◌↔◌}
use Rattle.replica_rules.specs.Replicas.{Managed}
use Rattle.replica_rules.specs.Seals.{digest_of}
use Rattle.node_laws.proofs.Reopened.{some_place}
use Rattle.node_laws.specs.Sound.{IsBegun}
use Rattle.node_rules.specs.Reopening.{damage_at, damaged, damaged_from, entries_in, entry_of, is_opening, known_behind, may_restore, opens_first, rests}
use Rattle.node_laws.proofs.Resting.{all_three, certified, each_of_three, resting}
use Rattle.node_laws.proofs.InTurn.{decided_in_turn}
use Rattle.node_laws.specs.Restoring.{DecidesInTurn}
use Rattle.node_laws.specs.Restoring.{AreCertified, AreRested, IsDamage, IsFirstDamage}
use Rattle.smart_base.specs.Cuts.{IsBytes}
use Rattle.smart_base.specs.Lists.{Each}
use Rattle.smart_base.specs.Views.{View}
use Rattle.vote_book.proofs.Entries.{decoded_is, spelling_is}
use Rattle.vote_book.proofs.Growth.{grows, last_admitted, none_lawful, recounts}
use Rattle.vote_book.proofs.Tested.{admitted, admitting}
use Rattle.vote_book.proofs.Tidy.{front_lawful}
use Rattle.vote_book.specs.Admission.{admits}
use Rattle.vote_book.specs.Books.{Lawful}
use Rattle.vote_book.specs.Entries.{FitsEntry, entry_decoded, entry_text}
use Rattle.vote_book.specs.declared.entry.Decision.{Decision}
use Rattle.vote_book.specs.declared.entry.LogEntry.{LogEntry}
use Rattle.vote_book.specs.declared.entry.LogEntry.TheVariants.{Decided}

-- ---- entries that may be restored

-- entries may be restored one behind the other
abbrev Restores : List ℕ → ℕ → Managed → List LogEntry → List LogEntry → Type 0
Restores secret opening g before [] = Unit {0}
Restores secret opening g before (e ∷ es) = (may_restore secret opening g before e ≡ true) × Restores secret opening g (before ++ e ∷ []) es

-- the parts of the test of an entry
may_parts : (secret : List ℕ) (opening : ℕ) (g : Managed) (before : List LogEntry) (e : LogEntry) → may_restore secret opening g before e ≡ true
    → (opens_first before e ≡ true) × (admits opening (length before + 1) before e ≡ true) × (rests secret (known_behind opening g before) e ≡ true)
may_parts secret opening g before e may = each_of_three (opens_first before e) (admits opening (length before + 1) before e) (rests secret (known_behind opening g before) e) may

begun_on : (secret : List ℕ) (opening : ℕ) (g : Managed) (es : List LogEntry) → Restores secret opening g [] es → (es ≡ []) ⊎ IsBegun es
begun_on secret opening g [] all = inl refl
begun_on secret opening g (e ∷ es) all = inr (may_parts secret opening g [] e all.0).0

rest_on : (secret : List ℕ) (opening : ℕ) (g : Managed) (before es : List LogEntry) → Restores secret opening g before es → AreRested secret opening g before es
rest_on secret opening g before [] all = tt
rest_on secret opening g before (e ∷ es) all = ((may_parts secret opening g before e all.0).2, rest_on secret opening g (before ++ e ∷ []) es all.1)

one_on : (opening : ℕ) (before : List LogEntry) (e : LogEntry) → Lawful opening (length before) before → admits opening (length before + 1) before e ≡ true
    → Lawful opening (length (before ++ e ∷ [])) (before ++ e ∷ [])
one_on opening before e lawful may =
    let more : Lawful opening (length before + 1) before = recounts opening (length before) (length before + 1) before (λ n within less. within) lawful in
    let count : length before + 1 ≡ length (before ++ e ∷ []) = omega (arith, length-append before (e ∷ [])) in
    subst (λ (k : ℕ). Lawful opening k (before ++ e ∷ [])) count (grows opening (length before + 1) before e more (admitted opening (length before + 1) before e may))

lawful_on : (secret : List ℕ) (opening : ℕ) (g : Managed) (before es : List LogEntry) → Lawful opening (length before) before → Restores secret opening g before es
    → Lawful opening (length (before ++ es)) (before ++ es)
lawful_on secret opening g before [] lawful all = subst (λ (xs : List LogEntry). Lawful opening (length xs) xs) (sym (append-nil before)) lawful
lawful_on secret opening g before (e ∷ es) lawful all =
    subst (λ (xs : List LogEntry). Lawful opening (length xs) xs) (append_assoc before (e ∷ []) es)
    (lawful_on secret opening g (before ++ e ∷ []) es (one_on opening before e lawful (may_parts secret opening g before e all.0).1) all.1)

-- ---- and the other way round

first_opens : (before : List LogEntry) (e : LogEntry) (after : List LogEntry) → ((before ++ e ∷ after) ≡ []) ⊎ IsBegun (before ++ e ∷ after) → opens_first before e ≡ true
first_opens [] e after (inl none) = absurd (cc)
first_opens [] e after (inr begun) = begun
first_opens (x ∷ xs) e after begun = refl

-- an entry of lawful entries is admitted as the last that was restored
admits_there : (opening total : ℕ) (before : List LogEntry) (e : LogEntry) (after : List LogEntry) → length before < total → Lawful opening total (before ++ e ∷ after)
    → admits opening (length before + 1) before e ≡ true
admits_there opening total before e after few lawful =
    let front : Lawful opening total (before ++ e ∷ []) =
    front_lawful opening total (before ++ e ∷ []) after (subst (λ (xs : List LogEntry). Lawful opening total xs) (sym (append_assoc before (e ∷ []) after)) lawful) in
    admitting opening (length before + 1) before e
    (last_admitted opening (length before + 1) before e (recounts opening total (length before + 1) (before ++ e ∷ []) (λ n within less. omega (arith, few, less)) front))

restores_of : (secret : List ℕ) (opening : ℕ) (g : Managed) (total : ℕ) (before es : List LogEntry) → length before + length es ≤ total → ((before ++ es) ≡ []) ⊎ IsBegun (before ++ es)
    → Lawful opening total (before ++ es) → AreRested secret opening g before es → Restores secret opening g before es
restores_of secret opening g total before [] few begun lawful rest = tt
restores_of secret opening g total before (e ∷ es) few begun lawful rest =
    let whole : (before ++ e ∷ []) ++ es ≡ before ++ e ∷ es = append_assoc before (e ∷ []) es in
    let next : length (before ++ e ∷ []) + length es ≤ total = omega (arith, few, length-append before (e ∷ [])) in (
      all_three (opens_first before e) (admits opening (length before + 1) before e) (rests secret (known_behind opening g before) e) (first_opens before e es begun)
          (admits_there opening total before e es (omega (arith, few)) lawful) rest.0,
      restores_of secret opening g total (before ++ e ∷ []) es next (subst (λ (xs : List LogEntry). (xs ≡ []) ⊎ IsBegun xs) (sym whole) begun)
          (subst (λ (xs : List LogEntry). Lawful opening total xs) (sym whole) lawful) rest.1,
    )

-- ---- bytes that are not damaged

-- what comes of an entry that may be restored
passes_over : (secret : List ℕ) (opening : ℕ) (g : Managed) (before : List LogEntry) (e : LogEntry) (behind : LogEntry → Option ℕ) (read : Result LogEntry ℕ) → read ≡ Ok e
    → may_restore secret opening g before e ≡ true → damage_at secret opening g before behind read ≡ behind e
passes_over secret opening g before e behind read at may =
    ap (λ (r : Result LogEntry ℕ). damage_at secret opening g before behind r) at ∙ ap (λ (t : Bool). cond t (behind e) (Some (length before + 1))) may

undamaged_by : (secret : List ℕ) (opening : ℕ) (g : Managed) (before es : List LogEntry) → Each FitsEntry es → Restores secret opening g before es
    → damaged_from secret opening g before (map entry_text es) ≡ None
undamaged_by secret opening g before [] fit all = refl
undamaged_by secret opening g before (e ∷ es) fit all =
    passes_over secret opening g before e (λ entry. damaged_from secret opening g (before ++ entry ∷ []) (map entry_text es)) (entry_decoded (entry_text e)) (spelling_is e fit.0) all.0
    ∙ undamaged_by secret opening g (before ++ e ∷ []) es fit.1 all.1

if_none : (b : Bool) (o : Option ℕ) (k : ℕ) → cond b o (Some k) ≡ None → (b ≡ true) × (o ≡ None)
if_none true o k none = (refl, none)
if_none false o k none = absurd (cc)

-- the entry of bytes that are not damaged
record Taken (secret : List ℕ) (opening : ℕ) (g : Managed) (before : List LogEntry) (behind : LogEntry → Option ℕ) (read : Result LogEntry ℕ) : Type 0 where
  pub entry : LogEntry
  pub is : read ≡ Ok entry
  pub may : may_restore secret opening g before entry ≡ true
  pub rest : behind entry ≡ None

taken : (secret : List ℕ) (opening : ℕ) (g : Managed) (before : List LogEntry) (behind : LogEntry → Option ℕ) (read : Result LogEntry ℕ) → damage_at secret opening g before behind read ≡ None
    → Taken secret opening g before behind read
taken secret opening g before behind (Err at) none = absurd (cc)
taken secret opening g before behind (Ok e) none =
    let both = if_none (may_restore secret opening g before e) (behind e) (length before + 1) none in
    record { entry = e; is = refl; may = both.0; rest = both.1 }

-- entries, as they are read
abbrev AreRead : List (List ℕ) → List LogEntry → Type 0
AreRead restored es = map entry_decoded restored ≡ map (λ (e : LogEntry). Ok e) es

pub one_read : (e : LogEntry) (rest : List LogEntry) (read : Result LogEntry ℕ) → read ≡ Ok e → cons_option (entry_of read) rest ≡ e ∷ rest
one_read e rest read at = ap (λ (r : Result LogEntry ℕ). cons_option (entry_of r) rest) at

all_read : (bytes : List ℕ) (rest : List (List ℕ)) (e : LogEntry) (es all : List LogEntry) → entry_decoded bytes ≡ Ok e → AreRead rest es → all ≡ e ∷ es → AreRead (bytes ∷ rest) all
all_read bytes rest e es all here later is =
    ap (λ (r : Result LogEntry ℕ). r ∷ map entry_decoded rest) here
    ∙ (ap (λ (rs : List (Result LogEntry ℕ)). Ok e ∷ rs) later ∙ ap (λ (xs : List LogEntry). map (λ (x : LogEntry). Ok x) xs) (sym is))

record IsRestored (secret : List ℕ) (opening : ℕ) (g : Managed) (before : List LogEntry) (restored : List (List ℕ)) : Type 0 where
  pub decoded : AreRead restored (entries_in restored)
  pub all : Restores secret opening g before (entries_in restored)

undamaged_is : (secret : List ℕ) (opening : ℕ) (g : Managed) (before : List LogEntry) (restored : List (List ℕ)) → damaged_from secret opening g before restored ≡ None
    → IsRestored secret opening g before restored
undamaged_is secret opening g before [] none = record { decoded = refl; all = tt }
undamaged_is secret opening g before (bytes ∷ rest) none =
    let t = taken secret opening g before (λ entry. damaged_from secret opening g (before ++ entry ∷ []) rest) (entry_decoded bytes) none in
    let later = undamaged_is secret opening g (before ++ t.entry ∷ []) rest t.rest in
    let here : entries_in (bytes ∷ rest) ≡ t.entry ∷ entries_in rest = one_read t.entry (entries_in rest) (entry_decoded bytes) t.is in
    record {
      decoded = all_read bytes rest t.entry (entries_in rest) (entries_in (bytes ∷ rest)) t.is later.decoded here;
      all = subst (λ (es : List LogEntry). Restores secret opening g before es) (sym here) (t.may, later.all);
    }

-- the bytes of entries are their spellings
spelled : (restored : List (List ℕ)) (es : List LogEntry) → AreRead restored es → Each IsBytes restored → (map entry_text es ≡ restored) × Each FitsEntry es
spelled [] [] same bytes = (refl, tt)
spelled [] (e ∷ es) same bytes = absurd (cc)
spelled (b ∷ bs) [] same bytes = absurd (cc)
spelled (b ∷ bs) (e ∷ es) same bytes =
    let head : entry_decoded b ≡ Ok e = cc in
    let tail : AreRead bs es = cc in
    let here = decoded_is b e bytes.0 head in
    let later = spelled bs es tail bytes.1 in
    (ap (λ (x : List ℕ). x ∷ map entry_text es) (sym here.1) ∙ ap (λ (xs : List (List ℕ)). b ∷ xs) later.0, (here.0, later.1))

count_read : (restored : List (List ℕ)) (es : List LogEntry) → AreRead restored es → length es ≡ length restored
count_read [] [] same = refl
count_read [] (e ∷ es) same = absurd (cc)
count_read (b ∷ bs) [] same = absurd (cc)
count_read (b ∷ bs) (e ∷ es) same = let tail : AreRead bs es = cc in let rest = count_read bs es tail in omega (arith, rest)

-- ---- the clauses of what is not damaged

pub decoded : (secret : List ℕ) (opening : ℕ) (g : Managed) (restored : List (List ℕ)) → damaged secret opening g restored ≡ None
    → map entry_decoded restored ≡ map (λ (e : LogEntry). Ok e) (entries_in restored)
decoded secret opening g restored none = (undamaged_is secret opening g [] restored none).decoded

counted : (secret : List ℕ) (opening : ℕ) (g : Managed) (restored : List (List ℕ)) → damaged secret opening g restored ≡ None → length (entries_in restored) ≡ length restored
counted secret opening g restored none = count_read restored (entries_in restored) (decoded secret opening g restored none)

pub read : (secret : List ℕ) (opening : ℕ) (g : Managed) (restored : List (List ℕ)) → Each IsBytes restored → damaged secret opening g restored ≡ None
    → map entry_text (entries_in restored) ≡ restored
read secret opening g restored bytes none = (spelled restored (entries_in restored) (decoded secret opening g restored none) bytes).0

pub fits : (secret : List ℕ) (opening : ℕ) (g : Managed) (restored : List (List ℕ)) → Each IsBytes restored → damaged secret opening g restored ≡ None → Each FitsEntry (entries_in restored)
fits secret opening g restored bytes none = (spelled restored (entries_in restored) (decoded secret opening g restored none) bytes).1

pub begun : (secret : List ℕ) (opening : ℕ) (g : Managed) (restored : List (List ℕ)) → damaged secret opening g restored ≡ None
    → (entries_in restored ≡ []) ⊎ IsBegun (entries_in restored)
begun secret opening g restored none = begun_on secret opening g (entries_in restored) (undamaged_is secret opening g [] restored none).all

lawful_entries : (secret : List ℕ) (opening : ℕ) (g : Managed) (restored : List (List ℕ)) → damaged secret opening g restored ≡ None
    → Lawful opening (length (entries_in restored)) (entries_in restored)
lawful_entries secret opening g restored none =
    lawful_on secret opening g [] (entries_in restored) (none_lawful opening 0) (undamaged_is secret opening g [] restored none).all

pub lawful : (secret : List ℕ) (opening : ℕ) (g : Managed) (restored : List (List ℕ)) → damaged secret opening g restored ≡ None → Lawful opening (length restored) (entries_in restored)
lawful secret opening g restored none =
    subst (λ (k : ℕ). Lawful opening k (entries_in restored)) (counted secret opening g restored none) (lawful_entries secret opening g restored none)

pub rest : (secret : List ℕ) (opening : ℕ) (g : Managed) (restored : List (List ℕ)) → damaged secret opening g restored ≡ None → AreRested secret opening g [] (entries_in restored)
rest secret opening g restored none = rest_on secret opening g [] (entries_in restored) (undamaged_is secret opening g [] restored none).all

rested_certified : (secret : List ℕ) (opening : ℕ) (g : Managed) (before es : List LogEntry) → AreRested secret opening g before es → AreCertified secret opening g before es
rested_certified secret opening g before [] all = tt
rested_certified secret opening g before (e ∷ es) all =
    (certified secret (known_behind opening g before) e all.0, rested_certified secret opening g (before ++ e ∷ []) es all.1)

pub all_certified : (secret : List ℕ) (opening : ℕ) (g : Managed) (restored : List (List ℕ)) → damaged secret opening g restored ≡ None → AreCertified secret opening g [] (entries_in restored)
all_certified secret opening g restored none = rested_certified secret opening g [] (entries_in restored) (rest secret opening g restored none)

pub back : (secret : List ℕ) (opening : ℕ) (g : Managed) (entries : List LogEntry) → Each FitsEntry entries → (entries ≡ []) ⊎ IsBegun entries → Lawful opening (length entries) entries
    → AreRested secret opening g [] entries → damaged secret opening g (map entry_text entries) ≡ None
back secret opening g entries fit begins laws all =
    undamaged_by secret opening g [] entries fit (restores_of secret opening g (length entries) [] entries (omega arith) begins laws all)

-- a decision whose evidence holds has a place
pub placed : (secret : List ℕ) (views : List View) (d : Decision) → rests secret views (Decided d) ≡ true → 0 < d.slot.place
placed secret views d rest = some_place secret d.slot.place (digest_of d.batch) d.batch (certified secret views (Decided d) rest).certified.batch

-- they decide one place after the other
pub in_turn : (secret : List ℕ) (opening : ℕ) (g : Managed) (restored : List (List ℕ)) → damaged secret opening g restored ≡ None → DecidesInTurn opening (entries_in restored)
in_turn secret opening g restored none = decided_in_turn opening (entries_in restored) (lawful_entries secret opening g restored none)

-- ---- the first damage

-- which part of a test failed
one_fails : (a b c : Bool) → (a && b && c) ≡ false → (a ≡ false) ⊎ ((b ≡ false) ⊎ (c ≡ false))
one_fails false b c is = inl refl
one_fails true false c is = inr (inl refl)
one_fails true true false is = inr (inr refl)
one_fails true true true is = absurd (cc)

unopened : (before : List LogEntry) (e : LogEntry) → opens_first before e ≡ false → (before ≡ []) × (is_opening e ≡ false)
unopened [] e is = (refl, is)
unopened (x ∷ xs) e is = absurd (cc)

damage_of : (secret : List ℕ) (opening : ℕ) (g : Managed) (before : List LogEntry) (e : LogEntry) → may_restore secret opening g before e ≡ false → IsDamage secret opening g before (Ok e)
damage_of secret opening g before e may =
    elim (one_fails (opens_first before e) (admits opening (length before + 1) before e) (rests secret (known_behind opening g before) e) may) [
      | inl first ↦ inl (unopened before e first)
      | inr later ↦ elim later [
        | inl second ↦ inr (inl (λ is. both_ways (admits opening (length before + 1) before e) second (admitting opening (length before + 1) before e is)))
        | inr third ↦ inr (inr (λ is. both_ways (rests secret (known_behind opening g before) e) third (resting secret (known_behind opening g before) e is)))
      ]
    ]

-- damage forbids that an entry is restored
forbids : (secret : List ℕ) (opening : ℕ) (g : Managed) (before : List LogEntry) (e : LogEntry) → IsDamage secret opening g before (Ok e) → may_restore secret opening g before e ≡ true → ⊥
forbids secret opening g before e damage may =
    let parts = may_parts secret opening g before e may in
    elim damage [
      | inl first ↦ both_ways (is_opening e) first.1 (subst (λ (xs : List LogEntry). opens_first xs e ≡ true) first.0 parts.0)
      | inr later ↦ elim later [
        | inl second ↦ second (admitted opening (length before + 1) before e parts.1)
        | inr third ↦ third (certified secret (known_behind opening g before) e parts.2)
      ]
    ]

-- the first damage behind entries
record Damage (secret : List ℕ) (opening : ℕ) (g : Managed) (before : List LogEntry) (restored : List (List ℕ)) (number : ℕ) : Type 0 where
  pub front : List (List ℕ)
  pub bytes : List ℕ
  pub behind : List (List ℕ)
  pub split : restored ≡ front ++ bytes ∷ behind
  pub numbered : number ≡ length before + length front + 1
  pub undamaged : damaged_from secret opening g before front ≡ None
  pub damage : IsDamage secret opening g (before ++ entries_in front) (entry_decoded bytes)

-- it is the first of the bytes
damage_here : (secret : List ℕ) (opening : ℕ) (g : Managed) (before : List LogEntry) (bytes : List ℕ) (rest : List (List ℕ)) (number : ℕ) (read : Result LogEntry ℕ) → entry_decoded bytes ≡ read
    → number ≡ length before + 1 → IsDamage secret opening g before read → Damage secret opening g before (bytes ∷ rest) number
damage_here secret opening g before bytes rest number read is at damage = record {
  front = [];
  bytes = bytes;
  behind = rest;
  split = refl;
  numbered = omega (arith, at);
  undamaged = refl;
  damage = subst (λ (r : Result LogEntry ℕ). IsDamage secret opening g (before ++ []) r) (sym is)
      (subst (λ (xs : List LogEntry). IsDamage secret opening g xs read) (sym (append-nil before)) damage);
}

-- or it stands behind an entry that may be restored
damage_later : (secret : List ℕ) (opening : ℕ) (g : Managed) (before : List LogEntry) (bytes : List ℕ) (rest : List (List ℕ)) (number : ℕ) (e : LogEntry) → entry_decoded bytes ≡ Ok e
    → may_restore secret opening g before e ≡ true → Damage secret opening g (before ++ e ∷ []) rest number → Damage secret opening g before (bytes ∷ rest) number
damage_later secret opening g before bytes rest number e is may d =
    let whole : (before ++ e ∷ []) ++ entries_in d.front ≡ before ++ e ∷ entries_in d.front = append_assoc before (e ∷ []) (entries_in d.front) in
    let here : entries_in (bytes ∷ d.front) ≡ e ∷ entries_in d.front = one_read e (entries_in d.front) (entry_decoded bytes) is in
    record {
      front = bytes ∷ d.front;
      bytes = d.bytes;
      behind = d.behind;
      split = ap (λ (xs : List (List ℕ)). bytes ∷ xs) d.split;
      numbered = omega (arith, d.numbered, length-append before (e ∷ []));
      undamaged = passes_over secret opening g before e (λ entry. damaged_from secret opening g (before ++ entry ∷ []) d.front) (entry_decoded bytes) is may ∙ d.undamaged;
      damage = subst (λ (xs : List LogEntry). IsDamage secret opening g xs (entry_decoded d.bytes)) (whole ∙ ap (λ (xs : List LogEntry). before ++ xs) (sym here)) d.damage;
    }

-- what comes of the first of the bytes, by what is read of it and whether that may be restored
damage_by : (secret : List ℕ) (opening : ℕ) (g : Managed) (before : List LogEntry) (bytes : List ℕ) (rest : List (List ℕ)) (number : ℕ) (read : Result LogEntry ℕ) → entry_decoded bytes ≡ read
    → ((e : LogEntry) → damaged_from secret opening g (before ++ e ∷ []) rest ≡ Some number → Damage secret opening g (before ++ e ∷ []) rest number)
    → damage_at secret opening g before (λ entry. damaged_from secret opening g (before ++ entry ∷ []) rest) read ≡ Some number → Damage secret opening g before (bytes ∷ rest) number
damage_by secret opening g before bytes rest number (Err at) is later some =
    let place : number ≡ length before + 1 = cc in damage_here secret opening g before bytes rest number (Err at) is place tt
damage_by secret opening g before bytes rest number (Ok e) is later some = chosen (may_restore secret opening g before e) refl some
  where
    chosen : (b : Bool) → may_restore secret opening g before e ≡ b → cond b (damaged_from secret opening g (before ++ e ∷ []) rest) (Some (length before + 1)) ≡ Some number
        → Damage secret opening g before (bytes ∷ rest) number
    chosen true may found = damage_later secret opening g before bytes rest number e is may (later e found)
    chosen false may found =
        let place : number ≡ length before + 1 = cc in damage_here secret opening g before bytes rest number (Ok e) is place (damage_of secret opening g before e may)

damage_from : (secret : List ℕ) (opening : ℕ) (g : Managed) (before : List LogEntry) (restored : List (List ℕ)) (number : ℕ) → damaged_from secret opening g before restored ≡ Some number
    → Damage secret opening g before restored number
damage_from secret opening g before [] number some = absurd (cc)
damage_from secret opening g before (bytes ∷ rest) number some =
    damage_by secret opening g before bytes rest number (entry_decoded bytes) refl (λ e later. damage_from secret opening g (before ++ e ∷ []) rest number later) some

first_damage : (secret : List ℕ) (opening : ℕ) (g : Managed) (restored : List (List ℕ)) (number : ℕ) → damaged secret opening g restored ≡ Some number → IsFirstDamage secret opening g restored number
first_damage secret opening g restored number some =
    let d = damage_from secret opening g [] restored number some in
    record { front = d.front; bytes = d.bytes; behind = d.behind; split = d.split; numbered = omega (arith, d.numbered); undamaged = d.undamaged; damage = d.damage }

-- ---- and it is told

-- what stands behind bytes that are not damaged
damaged_behind : (secret : List ℕ) (opening : ℕ) (g : Managed) (before : List LogEntry) (front rest : List (List ℕ)) → damaged_from secret opening g before front ≡ None
    → damaged_from secret opening g before (front ++ rest) ≡ damaged_from secret opening g (before ++ entries_in front) rest
damaged_behind secret opening g before [] rest none = ap (λ (xs : List LogEntry). damaged_from secret opening g xs rest) (sym (append-nil before))
damaged_behind secret opening g before (bytes ∷ front) rest none =
    let t = taken secret opening g before (λ entry. damaged_from secret opening g (before ++ entry ∷ []) front) (entry_decoded bytes) none in
    let here : entries_in (bytes ∷ front) ≡ t.entry ∷ entries_in front = one_read t.entry (entries_in front) (entry_decoded bytes) t.is in
    passes_over secret opening g before t.entry (λ entry. damaged_from secret opening g (before ++ entry ∷ []) (front ++ rest)) (entry_decoded bytes) t.is t.may
    ∙ (damaged_behind secret opening g (before ++ t.entry ∷ []) front rest t.rest
    ∙ ap (λ (xs : List LogEntry). damaged_from secret opening g xs rest)
    (append_assoc before (t.entry ∷ []) (entries_in front) ∙ ap (λ (xs : List LogEntry). before ++ xs) (sym here)))

told : (secret : List ℕ) (opening : ℕ) (g : Managed) (before : List LogEntry) (behind : LogEntry → Option ℕ) (read : Result LogEntry ℕ) → IsDamage secret opening g before read
    → damage_at secret opening g before behind read ≡ Some (length before + 1)
told secret opening g before behind (Err at) damage = refl
told secret opening g before behind (Ok e) damage =
    ap (λ (t : Bool). cond t (behind e) (Some (length before + 1))) (false_from_ne_true (may_restore secret opening g before e) (λ may. forbids secret opening g before e damage may))

told_first : (secret : List ℕ) (opening : ℕ) (g : Managed) (restored : List (List ℕ)) (number : ℕ) → IsFirstDamage secret opening g restored number → damaged secret opening g restored ≡ Some number
told_first secret opening g restored number d =
    let count : length (entries_in d.front) ≡ length d.front = counted secret opening g d.front d.undamaged in
    let at : length (entries_in d.front) + 1 ≡ number = omega (arith, count, d.numbered) in
    ap (λ (xs : List (List ℕ)). damaged secret opening g xs) d.split
    ∙ (damaged_behind secret opening g [] d.front (d.bytes ∷ d.behind) d.undamaged
    ∙ (told secret opening g (entries_in d.front) (λ entry. damaged_from secret opening g (entries_in d.front ++ entry ∷ []) d.behind) (entry_decoded d.bytes) d.damage
    ∙ ap (λ (k : ℕ). Some k) at))

pub first_exact : (secret : List ℕ) (opening : ℕ) (g : Managed) (restored : List (List ℕ)) (number : ℕ)
    → (damaged secret opening g restored ≡ Some number) ↔ IsFirstDamage secret opening g restored number
first_exact secret opening g restored number =
    (λ some. first_damage secret opening g restored number some, λ d. told_first secret opening g restored number d)

pub within : (secret : List ℕ) (opening : ℕ) (g : Managed) (restored : List (List ℕ)) (number : ℕ) → damaged secret opening g restored ≡ Some number
    → (1 ≤ number) × (number ≤ length restored) × (damaged secret opening g (take (number - 1) restored) ≡ None)
within secret opening g restored number some =
    let d = first_damage secret opening g restored number some in
    let all : length restored ≡ length (d.front ++ d.bytes ∷ d.behind) = ap (λ (xs : List (List ℕ)). length xs) d.split in
    let count : length (d.front ++ d.bytes ∷ d.behind) ≡ length d.front + length (d.bytes ∷ d.behind) = length-append d.front (d.bytes ∷ d.behind) in
    let at : number - 1 ≡ length d.front = omega (arith, d.numbered) in
    let front : take (number - 1) restored ≡ d.front =
    ap (λ (k : ℕ). take k restored) at ∙ (ap (λ (xs : List (List ℕ)). take (length d.front) xs) d.split ∙ take-append_seam d.front (d.bytes ∷ d.behind)) in (
      omega (arith, d.numbered),
      omega (arith, d.numbered, all, count),
      ap (λ (xs : List (List ℕ)). damaged secret opening g xs) front ∙ d.undamaged,
    )
