-- What a slot says before its snapshot is read.
use Rattle.std.proofs.Common.{◌≡◌, ℕ, ◌+◌, ◌^◌, ◌<◌, ◌≤◌, Bool, true, false, cond, List, ◌++◌, length, take, drop, Some, None, Ok, refl, sym, ap, subst, ◌∙◌, append_assoc, arith, length-take, take-append-drop}
use Rattle.std.specs.Int.{w32, w64, to_be_bytes}
use Rattle.smart_base.specs.Cuts.{Cut, Read, ◌>>=◌}
use Rattle.smart_base.specs.Spelling.{behind}
use Rattle.smart_base.specs.Laws.{cut}
use Rattle.smart_base.specs.FieldLaws.{u32_law, u64_law}
use Rattle.store_form.specs.Spelling.{checkpoint_text}
use Rattle.store_form.specs.Reading.{all_of, entry_at, checkpoint_at}
use Rattle.store_form.specs.Laws.{checkpoint_law}
use Rattle.store_form.specs.declared.checkpoint.Checkpoint.{Checkpoint}
use Rattle.checkpoint_store.specs.Slots.{counted, uses}
use Rattle.log_stream.specs.Windows.{IsAt}
use Rattle.log_stream.specs.Walks.{IsFault}
use Rattle.log_stream.specs.Heads.{with_head, uses_slot, CountsAfter}
use Rattle.log_stream.proofs.Faults.{number_fault, text_short, text_over, entry_fault}

module _ (odd : Bool) (bytes : List ℕ) where
  pub no_generation : IsAt w64 bytes 1 None → CountsAfter odd bytes None
  unfolding checkpoint_at
  no_generation is =
      let c = all_of (drop 1 bytes) in
      ap (λ (r : Read ℕ). counted odd (r >>= λ g. entry_at g.1 >>= λ s. Ok (record { generation = g.0; snapshot = s.0 }, s.1))) (number_fault w64 c is)

  no_entry : (generation : ℕ) → IsAt w64 bytes 1 (Some generation) → IsFault (entry_at (cut 8 (drop 9 bytes))) → CountsAfter odd bytes None
  unfolding checkpoint_at
  no_entry generation is fault =
      let c = all_of (drop 1 bytes) in
      ap (λ (r : Read ℕ). counted odd (r >>= λ g. entry_at g.1 >>= λ s. Ok (record { generation = g.0; snapshot = s.0 }, s.1)))
      (u64_law.again c generation (cut 8 (drop 9 bytes)) is.0 (record { left = is.1; at = refl }))
      ∙ ap (λ (r : Read (List ℕ)). counted odd (r >>= λ s. Ok (record { generation = generation; snapshot = s.0 }, s.1))) fault.1

  pub no_length : (generation : ℕ) → IsAt w64 bytes 1 (Some generation) → IsAt w32 bytes 9 None → CountsAfter odd bytes None
  no_length generation is none = no_entry generation is (entry_fault (cut 8 (drop 9 bytes)) (text_short w32 (cut 8 (drop 9 bytes)) none))

  pub no_snapshot : (generation size : ℕ) → IsAt w64 bytes 1 (Some generation) → IsAt w32 bytes 9 (Some size) → length (drop 13 bytes) < size → CountsAfter odd bytes None
  no_snapshot generation size is sized over =
      no_entry generation is (entry_fault (cut 8 (drop 9 bytes)) (text_over w32 (2 ^ 32) u32_law (cut 8 (drop 9 bytes)) size (cut 12 (drop 13 bytes)) sized.0 (record { left = sized.1; at = refl }) over))

module _ (odd : Bool) (bytes : List ℕ) (generation size : ℕ) (is : IsAt w64 bytes 1 (Some generation)) (sized : IsAt w32 bytes 9 (Some size)) (inside : size ≤ length (drop 13 bytes)) where
  checkpoint_there : counted odd (checkpoint_at (all_of (drop 1 bytes))) ≡ uses odd (with_head bytes (generation, size))
  unfolding checkpoint_text
  checkpoint_there =
      let s = take size (drop 13 bytes) in
      let p : Checkpoint = with_head bytes (generation, size) in
      let rest = drop size (drop 13 bytes) in
      let long : length s ≡ size = omega (arith, inside, length-take size (drop 13 bytes)) in
      let snapshot : drop 9 bytes ≡ behind w32 s ++ rest =
      sized.1 ∙ ap (λ (l : List ℕ). to_be_bytes w32 size ++ l) (sym (take-append-drop size (drop 13 bytes))) ∙ sym (append_assoc (to_be_bytes w32 size) s rest) ∙ ap (λ (n : ℕ). (to_be_bytes w32 n ++ s) ++ rest) (sym long) in
      let spelled : drop 1 bytes ≡ checkpoint_text p ++ rest = is.1 ∙ ap (λ (l : List ℕ). to_be_bytes w64 generation ++ l) snapshot ∙ sym (append_assoc (to_be_bytes w64 generation) (behind w32 s) rest) in
      let d : Cut = cut (0 + length (checkpoint_text p)) rest in
      ap (counted odd) (checkpoint_law.again (all_of (drop 1 bytes)) p d (record { number = is.0; small = subst (λ (n : ℕ). n < 2 ^ 32) (sym long) sized.0 }) (record { left = spelled; at = refl }))

  pub counts_found : uses_slot odd generation ≡ true → CountsAfter odd bytes (Some (generation, size))
  counts_found used = (checkpoint_there ∙ ap (λ (t : Bool). cond t (Some (with_head bytes (generation, size))) None) used, inside)

  pub counts_not : uses_slot odd generation ≡ false → CountsAfter odd bytes None
  counts_not unused = checkpoint_there ∙ ap (λ (t : Bool). cond t (Some (with_head bytes (generation, size))) None) unused
