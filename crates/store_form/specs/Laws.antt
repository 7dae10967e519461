-- What is read is what is spelled, and what is spelled is read.
use Rattle.std.proofs.Common.{◌≡◌, ℕ, ◌<◌, ◌^◌, List, [], ◌∷◌, length, Ok, true, refl, subst, ◌∙◌}
use Rattle.std.specs.Int.{w32, w64, to_be_bytes}
use Rattle.std.specs.List.{flat_map, AllByRecursion}
use Rattle.smart_base.specs.Lists.{Each}
use Rattle.smart_base.specs.Cuts.{◌>>=◌, number_at, text_at, bytes_at, anything, whole, times_at}
use Rattle.smart_base.specs.Spelling.{Law, Spelled, behind}
use Rattle.smart_base.specs.Bytes.{bytes-after}
use Rattle.smart_base.specs.FieldLaws.{u64_law}
use Rattle.smart_base.specs.Laws.{bind_ok, bind_is, then_law, last_law, refit, contents_law, text_field, times_law, wide32, wide64, whole_takes, whole_again, spelled-own, ok_is, cut}
use Rattle.store_form.specs.declared.checkpoint.Checkpoint.{Checkpoint}
use Rattle.store_form.specs.Spelling.{Group, payload, group_text, checkpoint_text, IsEntry, IsGroup, IsCheckpoint}
use Rattle.store_form.specs.Reading.{entry_at, payload_at, group_at, checkpoint_at}

pub entry_law : Law IsEntry (λ entry. behind w32 entry) entry_at
entry_law =
    refit (λ t. (length t < 2 ^ 32) × (anything (length t) ≡ true)) IsEntry (λ entry. behind w32 entry) entry_at
    (contents_law _ (λ entry. behind w32 entry) bytes_at (text_field w32 (2 ^ 32) anything wide32))
    (λ t h. h.0) (λ t h. (h, refl))

each_is : (g : Group) → AllByRecursion IsEntry g → Each IsEntry g
each_is [] h = tt
each_is (e ∷ es) h = (h.0, each_is es h.1)

all_is : (g : Group) → Each IsEntry g → AllByRecursion IsEntry g
all_is [] h = tt
all_is (e ∷ es) h = (h.0, all_is es h.1)

abbrev AreEntries : Group → Type 0
AreEntries g = (length g < 2 ^ 64) × Each IsEntry g

payload_law : Law AreEntries payload payload_at
unfolding payload payload_at
payload_law =
    refit (λ g. Unit {0} × ((length g < 2 ^ 64) × Each IsEntry g)) AreEntries payload payload_at
    (then_law (λ (g : Group). length g) (λ g. Unit {0}) (λ n. n < 2 ^ 64) (to_be_bytes w64) (number_at w64) (Each IsEntry) (flat_map (λ entry. behind w32 entry)) (λ n. times_at entry_at n)
    u64_law λ n few.
    refit (λ g. (length g ≡ n) × AllByRecursion IsEntry g) (λ g. (Unit {0} × (length g ≡ n)) × Each IsEntry g) (flat_map (λ entry. behind w32 entry)) (times_at entry_at n)
    (times_law IsEntry (λ entry. behind w32 entry) entry_at entry_law n)
    (λ g h. ((tt, h.0), each_is g h.1)) (λ g h. (h.0.1, all_is g h.1)))
    (λ g h. h.1) (λ g h. (tt, h))

pub group_law : Law IsGroup group_text group_at
unfolding group_text group_at
group_law = record {
  takes = λ c y bs e.
      let b = bind_ok (text_at w64 anything c) (λ b. whole payload_at b.0 >>= λ g. Ok (g, b.1)) y e in
      let x = bind_ok (whole payload_at b.0.0) (λ g. Ok (g, b.0.1)) y b.2 in
      let t = (text_field w64 (2 ^ 64) anything wide64).takes c b.0 bs b.1 in
      let own = bytes-after (to_be_bytes w64 (length b.0.0.left)) b.0.0.left (spelled-own c (behind w64 b.0.0.left) b.0.1 bs t.1) in
      let u = whole_takes AreEntries payload payload_at payload_law b.0.0 x.0 own x.1 in
      let fits : IsGroup x.0 = record { few = u.0.0; each = u.0.1; small = subst (λ (t : List ℕ). length t < 2 ^ 64) u.1 t.0.0 } in
      subst (λ y. IsGroup y.0 × Spelled c (behind w64 (payload y.0)) y.1) (ok_is (x.0, b.0.1) y x.2)
      (fits, subst (λ (t : List ℕ). Spelled c (behind w64 t) b.0.1) u.1 t.1);
  again = λ c g d h s.
      let p = (text_field w64 (2 ^ 64) anything wide64).again c (payload g) d (h.small, refl) s in
      bind_is (text_at w64 anything c) (λ b. whole payload_at b.0 >>= λ x. Ok (x, b.1)) (cut p.0 (payload g), d) p.1
      ∙ bind_is (whole payload_at (cut p.0 (payload g))) (λ x. Ok (x, d)) g (whole_again AreEntries payload payload_at payload_law (cut p.0 (payload g)) g (h.few, h.each) refl);
}

abbrev made : ℕ → List ℕ → Checkpoint
made generation snapshot = record { generation = generation; snapshot = snapshot }

made_is : (p : Checkpoint) (generation : ℕ) → p.generation ≡ generation → made generation p.snapshot ≡ p
made_is p generation same = rw (← same) refl

pub checkpoint_law : Law IsCheckpoint checkpoint_text checkpoint_at
unfolding checkpoint_text checkpoint_at
checkpoint_law =
    refit (λ p. Unit {0} × ((p.generation < 2 ^ 64) × (length p.snapshot < 2 ^ 32))) IsCheckpoint checkpoint_text checkpoint_at
    (then_law (λ (p : Checkpoint). p.generation) (λ p. Unit {0}) (λ n. n < 2 ^ 64) (to_be_bytes w64) (number_at w64) (λ p. length p.snapshot < 2 ^ 32) (λ p. behind w32 p.snapshot) _
    u64_law λ generation fits.
    last_law (λ (p : Checkpoint). p.snapshot) (λ p. Unit {0} × (p.generation ≡ generation)) IsEntry (λ entry. behind w32 entry) entry_at (λ snapshot. made generation snapshot)
    entry_law (λ snapshot h. (tt, refl)) (λ snapshot. refl) (λ p h. made_is p generation h.1))
    (λ p h. record { number = h.1.0; small = h.1.1 }) (λ p h. (tt, (h.number, h.small)))
