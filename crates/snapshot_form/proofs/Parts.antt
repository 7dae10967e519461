-- The parts of a snapshot: what is read is what is spelled.
use Rattle.std.proofs.Common.{◌≡◌, ℕ, ◌^◌, ◌<◌, ◌≤◌, true, ltb, leb, List, [], ◌∷◌, length, refl, arith}
use Rattle.std.specs.Int.{w16, w32, w64, to_be_bytes}
use Rattle.std.specs.List.{flat_map, AllByRecursion}
use Rattle.std.proofs.lemmas.Bool.{ltb-true, lt-ltb, leb-true, le-leb}
use Rattle.smart_base.specs.Cuts.{Cut, Read, ◌>>=◌, number_at, times_at, contents, bytes_at, anything}
use Rattle.smart_base.specs.FieldLaws.{u16_law, u32_law, u64_law, count_law, items_law, payload_law}
use Rattle.smart_base.specs.Fields.{count_at, items_at, payload_at}
use Rattle.smart_base.specs.Laws.{then_law, last_law, refit, ranged_law, times_law, contents_law, text_field, wide32}
use Rattle.smart_base.specs.Lists.{Each}
use Rattle.smart_base.specs.Spelling.{behind, IsCount, IsPayload, Law}
use Rattle.smart_base.specs.Views.{View, is_view}
use Rattle.smart_base.specs.ViewBytes.{view_text, view_at}
use Rattle.smart_base.proofs.ViewLaws.{view_law}
use Rattle.smart_service.specs.declared.table.TableLine.{TableLine}
use Rattle.snapshot_form.specs.Snapshots.{line_text, counted, parts_text, place_at, client_at, index_at, line_at, views_at, lines_at, parts_at}
use Rattle.snapshot_form.specs.declared.reading.Parts.{Parts}

-- ---- numbers

pub place_law : Law (λ n. n < 2 ^ 63) (to_be_bytes w64) place_at
place_law =
    refit (λ n. (n < 2 ^ 64) × (ltb n (2 ^ 63) ≡ true)) (λ n. n < 2 ^ 63) (to_be_bytes w64) place_at
    (ranged_law (λ n. n < 2 ^ 64) (to_be_bytes w64) (number_at w64) (λ n. ltb n (2 ^ 63)) u64_law)
    (λ n h. ltb-true n (2 ^ 63) h.1) (λ n h. (omega (arith, h), lt-ltb n (2 ^ 63) h))

client_law : Law (λ n. n ≤ 1024) (to_be_bytes w16) client_at
client_law =
    refit (λ n. (n < 2 ^ 16) × (leb n 1024 ≡ true)) (λ n. n ≤ 1024) (to_be_bytes w16) client_at
    (ranged_law (λ n. n < 2 ^ 16) (to_be_bytes w16) (number_at w16) (λ n. leb n 1024) u16_law)
    (λ n h. leb-true n 1024 h.1) (λ n h. (omega (arith, h), le-leb n 1024 h))

index_law : Law (λ n. n < 64) (to_be_bytes w16) index_at
index_law =
    refit (λ n. (n < 2 ^ 16) × (ltb n 64 ≡ true)) (λ n. n < 64) (to_be_bytes w16) index_at
    (ranged_law (λ n. n < 2 ^ 16) (to_be_bytes w16) (number_at w16) (λ n. ltb n 64) u16_law)
    (λ n h. ltb-true n 64 h.1) (λ n h. (omega (arith, h), lt-ltb n 64 h))

-- ---- lines

-- a line by itself
abbrev pub IsLine : TableLine → Type 0
IsLine line =
    (line.last.client ≤ 1024) × (IsCount line.last.seq × (IsCount line.last.place × ((line.last.index < 64) × ((line.last.view < 2 ^ 32) × IsPayload line.last.reply))))

abbrev make_line : (client seq place index view : ℕ) → List ℕ → TableLine
make_line i s p n v r = record { last = record { client = i; seq = s; place = p; index = n; view = v; reply = r } }

line_is : (line : TableLine) (i s p n v : ℕ) → line.last.client ≡ i → line.last.seq ≡ s → line.last.place ≡ p → line.last.index ≡ n → line.last.view ≡ v
    → make_line i s p n v line.last.reply ≡ line
line_is line i s p n v a b c d e = rw (← a, ← b, ← c, ← d, ← e) refl

line_law : Law IsLine line_text line_at
unfolding line_at
line_law =
    refit _ IsLine line_text line_at
    (then_law (λ (l : TableLine). l.last.client) (λ l. Unit {0}) (λ n. n ≤ 1024) (to_be_bytes w16) client_at _ _ _ client_law λ i is_i.
    then_law (λ (l : TableLine). l.last.seq) (λ l. Unit {0} × (l.last.client ≡ i)) IsCount (to_be_bytes w64) count_at _ _ _ count_law λ s is_s.
    then_law (λ (l : TableLine). l.last.place) (λ l. (Unit {0} × (l.last.client ≡ i)) × (l.last.seq ≡ s)) IsCount (to_be_bytes w64) count_at _ _ _ count_law λ p is_p.
    then_law (λ (l : TableLine). l.last.index) (λ l. ((Unit {0} × (l.last.client ≡ i)) × (l.last.seq ≡ s)) × (l.last.place ≡ p)) (λ n. n < 64) (to_be_bytes w16) index_at _ _ _
    index_law λ n is_n.
    then_law (λ (l : TableLine). l.last.view) (λ l. (((Unit {0} × (l.last.client ≡ i)) × (l.last.seq ≡ s)) × (l.last.place ≡ p)) × (l.last.index ≡ n)) (λ n. n < 2 ^ 32)
    (to_be_bytes w32) (number_at w32) _ _ _ u32_law λ v is_v.
    last_law (λ (l : TableLine). l.last.reply) (λ l. ((((Unit {0} × (l.last.client ≡ i)) × (l.last.seq ≡ s)) × (l.last.place ≡ p)) × (l.last.index ≡ n)) × (l.last.view ≡ v))
    IsPayload (behind w32) payload_at (λ r. make_line i s p n v r) payload_law
    (λ r h. (((((tt, refl), refl), refl), refl), refl)) (λ r. refl) (λ l h. line_is l i s p n v h.0.0.0.0.1 h.0.0.0.1 h.0.0.1 h.0.1 h.1))
    (λ l h. h.1) (λ l h. (tt, h))

-- ---- lists

each_is : {A : Type 0} (fits : A → Type 0) (xs : List A) → AllByRecursion fits xs → Each fits xs
each_is fits [] h = tt
each_is fits (x ∷ xs) h = (h.0, each_is fits xs h.1)

all_is : {A : Type 0} (fits : A → Type 0) (xs : List A) → Each fits xs → AllByRecursion fits xs
all_is fits [] h = tt
all_is fits (x ∷ xs) h = (h.0, all_is fits xs h.1)

counted_law : {A : Type 0} (few : ℕ → Type 0) (count_at : Cut → Read ℕ) (fits : A → Type 0) (spell : A → List ℕ) (read : Cut → Read A)
    → Law few (to_be_bytes w16) count_at → Law fits spell read
    → Law (λ xs. few (length xs) × Each fits xs) (counted spell) (λ c. count_at c >>= λ n. times_at read n.0 n.1)
counted_law {A = A} few count_at fits spell read count_is read_is =
    refit (λ xs. Unit {0} × (few (length xs) × Each fits xs)) (λ xs. few (length xs) × Each fits xs) (counted spell)
    (λ c. count_at c >>= λ n. times_at read n.0 n.1)
    (then_law (λ (xs : List A). length xs) (λ xs. Unit {0}) few (to_be_bytes w16) count_at (Each fits) (flat_map spell) (λ n. times_at read n)
    count_is λ n is_n.
    refit (λ xs. (length xs ≡ n) × AllByRecursion fits xs) (λ xs. (Unit {0} × (length xs ≡ n)) × Each fits xs) (flat_map spell) (times_at read n)
    (times_law fits spell read read_is n)
    (λ xs h. ((tt, h.0), each_is fits xs h.1)) (λ xs h. (h.0.1, all_is fits xs h.1)))
    (λ xs h. h.1) (λ xs h. (tt, h))

abbrev pub AreViews : List View → Type 0
AreViews vs = ((0 < length vs) × (length vs ≤ 1024)) × Each (λ v. is_view v ≡ true) vs

abbrev pub AreLines : List TableLine → Type 0
AreLines ls = (length ls < 2 ^ 16) × Each IsLine ls

views_law : Law AreViews (counted view_text) views_at
unfolding views_at
views_law =
    counted_law (λ n. (0 < n) × (n ≤ 1024)) (items_at 1024) (λ v. is_view v ≡ true) view_text view_at (items_law 1024 (omega arith)) view_law

lines_law : Law AreLines (counted line_text) lines_at
unfolding lines_at
lines_law = counted_law (λ n. n < 2 ^ 16) (number_at w16) IsLine line_text line_at u16_law line_law

-- ---- all parts

abbrev IsPart : List ℕ → Type 0
IsPart t = (length t < 2 ^ 32) × (anything (length t) ≡ true)

part_law : Law IsPart (behind w32) (contents bytes_at)
part_law = contents_law IsPart (behind w32) bytes_at (text_field w32 (2 ^ 32) anything wide32)

-- parts by themselves
abbrev pub AreParts : Parts → Type 0
AreParts p = (p.place < 2 ^ 63) × (AreViews p.views × (AreLines p.lines × (length p.service < 2 ^ 32)))

abbrev make_parts : ℕ → List View → List TableLine → List ℕ → Parts
make_parts p v l s = record { place = p; views = v; lines = l; service = s }

parts_is : (x : Parts) (p : ℕ) (v : List View) (l : List TableLine) → x.place ≡ p → x.views ≡ v → x.lines ≡ l → make_parts p v l x.service ≡ x
parts_is x p v l a b c = rw (← a, ← b, ← c) refl

pub parts_law : Law AreParts parts_text parts_at
unfolding parts_at
parts_law =
    refit _ AreParts parts_text parts_at
    (then_law (λ (x : Parts). x.place) (λ x. Unit {0}) (λ n. n < 2 ^ 63) (to_be_bytes w64) place_at _ _ _ place_law λ p is_p.
    then_law (λ (x : Parts). x.views) (λ x. Unit {0} × (x.place ≡ p)) AreViews (counted view_text) views_at _ _ _ views_law λ v is_v.
    then_law (λ (x : Parts). x.lines) (λ x. (Unit {0} × (x.place ≡ p)) × (x.views ≡ v)) AreLines (counted line_text) lines_at _ _ _ lines_law λ l is_l.
    last_law (λ (x : Parts). x.service) (λ x. ((Unit {0} × (x.place ≡ p)) × (x.views ≡ v)) × (x.lines ≡ l)) IsPart (behind w32) (contents bytes_at)
    (λ s. make_parts p v l s) part_law
    (λ s h. (((tt, refl), refl), refl)) (λ s. refl) (λ x h. parts_is x p v l h.0.0.1 h.0.1 h.1))
    (λ x h. (h.1.0, (h.1.1.0, (h.1.1.1.0, h.1.1.1.1.0)))) (λ x h. (tt, (h.0, (h.1.0, (h.1.1.0, (h.1.1.1, refl))))))
