-- What each call of a job may leave, and where the log stands after it.
use Rattle.std.proofs.Common.{◌≡◌, ◌≢◌, ◌⊎◌, inl, inr, ⊎_elim, ℕ, suc, ◌+◌, ◌≤◌, List, [], ◌∷◌, ◌++◌, length, get_or, take, drop, None, refl, sym, ◌∙◌, ap, append_assoc, arith, length-append, length-drop, take-append-drop}
use Rattle.std.proofs.lemmas.Bool.{cases_eq}
use Rattle.std.proofs.lemmas.List.{take_at, drop_at, drop_all}
use Rattle.disk_model.specs.Cells.{IsImage, settled, written, put}
use Rattle.batch_log.specs.Log.{log_bytes, AreGroups, first_group, restored}
use Rattle.batch_log.proofs.Restored.{restored_is, closed, log_push, groups_push}
use Rattle.disk_model.proofs.Images.{image_settled, image_front, image_byte}
use Rattle.smart_base.specs.Cuts.{text_at, ranged, number_at}
use Rattle.store_form.specs.Reading.{group_at}
use Rattle.store_form.specs.Spelling.{Group, group_text, IsGroup}

-- an open gate and nothing behind it
alone : first_group (1 ∷ []) ≡ None
unfolding group_at text_at ranged number_at
alone = refl

pub short : (l : List ℕ) → length l ≤ 1 → first_group l ≡ None
short [] le = refl
short (b ∷ []) le = ⊎_elim (λ (one : b ≡ 1). ap (λ (k : ℕ). first_group (k ∷ [])) one ∙ alone) (λ (shut : b ≢ 1). closed b [] shut) (cases_eq b 1)
short (b ∷ d ∷ l) le = absurd (omega arith)

module _ (gs : List Group) (end : ℕ) (ends : end ≡ length (log_bytes gs)) (fit : AreGroups gs) where
  front : (rest : List ℕ) → take end (log_bytes gs ++ rest) ≡ log_bytes gs
  front rest = take_at (log_bytes gs) rest end (sym ends)

  behind : (x : ℕ) (rest : List ℕ) → drop (suc end) (log_bytes gs ++ x ∷ rest) ≡ rest
  behind x rest =
      ap (λ (l : List ℕ). drop (suc end) l) (sym (append_assoc (log_bytes gs) (x ∷ []) rest))
      ∙ drop_at (log_bytes gs ++ x ∷ []) rest (suc end) (omega (arith, length-append (log_bytes gs) (x ∷ [])))

  -- whatever a crash makes of a byte behind the groups
  pub any_gate : (gate : ℕ) (rest : List ℕ) → (restored (log_bytes gs ++ gate ∷ rest) ≡ gs) ⊎ (gate ≡ 1)
  any_gate gate rest = ⊎_elim (λ (is : gate ≡ 1). inr is) (λ (shut : gate ≢ 1). inl (restored_is gs (gate ∷ rest) fit (closed gate rest shut))) (cases_eq gate 1)

  -- ---- a group

  pub clean_leaves : (tail c : List ℕ) → IsImage (settled (log_bytes gs ++ 0 ∷ tail)) c → restored c ≡ gs
  clean_leaves tail c is = ap restored (image_settled (log_bytes gs ++ 0 ∷ tail) c is) ∙ restored_is gs (0 ∷ tail) fit (closed 0 tail (omega arith))

  pub behind_leaves : (bytes tail c : List ℕ) → IsImage (written (end + 1) bytes (settled (log_bytes gs ++ 0 ∷ tail))) c → restored c ≡ gs
  behind_leaves bytes tail c is =
      let long = length-append (log_bytes gs) (0 ∷ tail) in
      let whole_front : take (end + 1) (log_bytes gs ++ 0 ∷ tail) ≡ log_bytes gs ++ 0 ∷ [] =
      ap (λ (l : List ℕ). take (end + 1) l) (sym (append_assoc (log_bytes gs) (0 ∷ []) tail)) ∙ take_at (log_bytes gs ++ 0 ∷ []) tail (end + 1) (omega (arith, length-append (log_bytes gs) (0 ∷ []))) in
      let same = image_front (end + 1) bytes (log_bytes gs ++ 0 ∷ tail) c (omega (arith, long)) is in
      let parts : c ≡ log_bytes gs ++ 0 ∷ drop (end + 1) c =
      sym (take-append-drop (end + 1) c) ∙ ap (λ (l : List ℕ). l ++ drop (end + 1) c) (same ∙ whole_front) ∙ append_assoc (log_bytes gs) (0 ∷ []) (drop (end + 1) c) in
      ap restored parts ∙ restored_is gs (0 ∷ drop (end + 1) c) fit (closed 0 (drop (end + 1) c) (omega arith))

  pub behind_after : (bytes tail : List ℕ) → put (end + 1) bytes (log_bytes gs ++ 0 ∷ tail) ≡ log_bytes gs ++ 0 ∷ (bytes ++ drop (end + 1 + length bytes) (log_bytes gs ++ 0 ∷ tail))
  behind_after bytes tail =
      let rest = bytes ++ drop (end + 1 + length bytes) (log_bytes gs ++ 0 ∷ tail) in
      ap (λ (l : List ℕ). take (end + 1) l ++ rest) (sym (append_assoc (log_bytes gs) (0 ∷ []) tail))
      ∙ ap (λ (l : List ℕ). l ++ rest) (take_at (log_bytes gs ++ 0 ∷ []) tail (end + 1) (omega (arith, length-append (log_bytes gs) (0 ∷ []))))
      ∙ append_assoc (log_bytes gs) (0 ∷ []) rest

  pub added : (g : Group) (tail : List ℕ) → IsGroup g → restored (log_bytes gs ++ 1 ∷ (group_text g ++ 0 ∷ tail)) ≡ gs ++ g ∷ []
  added g tail fits = ap restored (sym (log_push gs g (0 ∷ tail))) ∙ restored_is (gs ++ g ∷ []) (0 ∷ tail) (groups_push gs g fit fits) (closed 0 tail (omega arith))

  pub byte_over : (x y : ℕ) (rest c : List ℕ) → IsImage (written end (y ∷ []) (settled (log_bytes gs ++ x ∷ rest))) c → c ≡ log_bytes gs ++ get_or c end 0 ∷ rest
  byte_over x y rest c is =
      image_byte end y (log_bytes gs ++ x ∷ rest) c (omega (arith, length-append (log_bytes gs) (x ∷ rest))) is
      ∙ ap (λ (l : List ℕ). l ++ get_or c end 0 ∷ drop (suc end) (log_bytes gs ++ x ∷ rest)) (front (x ∷ rest))
      ∙ ap (λ (l : List ℕ). log_bytes gs ++ get_or c end 0 ∷ l) (behind x rest)

  pub gated_leaves : (g : Group) (tail c : List ℕ) → IsGroup g → IsImage (written end (1 ∷ []) (settled (log_bytes gs ++ 0 ∷ (group_text g ++ 0 ∷ tail)))) c → (restored c ≡ gs) ⊎ (restored c ≡ gs ++ g ∷ [])
  gated_leaves g tail c fits is =
      let rest = group_text g ++ 0 ∷ tail in
      let is_so = byte_over 0 1 rest c is in
      ⊎_elim (λ (none : restored (log_bytes gs ++ get_or c end 0 ∷ rest) ≡ gs). inl (ap restored is_so ∙ none))
      (λ (one : get_or c end 0 ≡ 1). inr (ap restored is_so ∙ ap (λ (b : ℕ). restored (log_bytes gs ++ b ∷ rest)) one ∙ added g tail fits))
      (any_gate (get_or c end 0) rest)

  pub byte_after : (x y : ℕ) (rest : List ℕ) → put end (y ∷ []) (log_bytes gs ++ x ∷ rest) ≡ log_bytes gs ++ y ∷ rest
  byte_after x y rest =
      ap (λ (l : List ℕ). l ++ (y ∷ drop (end + 1) (log_bytes gs ++ x ∷ rest))) (front (x ∷ rest))
      ∙ ap (λ (l : List ℕ). log_bytes gs ++ y ∷ l) (ap (λ (n : ℕ). drop n (log_bytes gs ++ x ∷ rest)) (let e : end + 1 ≡ suc end = omega arith in e) ∙ behind x rest)

  -- ---- a gate that is closed

  pub closing_leaves : (rest c : List ℕ) → first_group rest ≡ None → IsImage (written end (0 ∷ []) (settled (log_bytes gs ++ rest))) c
      → (restored c ≡ gs) ⊎ (restored c ≡ restored (log_bytes gs ++ 1 ∷ drop 1 rest))
  closing_leaves [] c none is =
      let at_end : length (log_bytes gs ++ []) ≡ end = omega (arith, length-append (log_bytes gs) []) in
      let same = image_front end (0 ∷ []) (log_bytes gs ++ []) c (omega (arith, at_end)) is in
      let parts : c ≡ log_bytes gs ++ drop end c = sym (take-append-drop end c) ∙ ap (λ (l : List ℕ). l ++ drop end c) (same ∙ front []) in
      inl (ap restored parts ∙ restored_is gs (drop end c) fit (short (drop end c) (omega (arith, length-drop end c, is.no_longer, at_end))))
  closing_leaves (x ∷ rest) c none is =
      let is_so = byte_over x 0 rest c is in
      ⊎_elim (λ (same : restored (log_bytes gs ++ get_or c end 0 ∷ rest) ≡ gs). inl (ap restored is_so ∙ same))
      (λ (one : get_or c end 0 ≡ 1). inr (ap restored is_so ∙ ap (λ (b : ℕ). restored (log_bytes gs ++ b ∷ rest)) one))
      (any_gate (get_or c end 0) rest)

  pub closed_after : (rest : List ℕ) → put end (0 ∷ []) (log_bytes gs ++ rest) ≡ log_bytes gs ++ 0 ∷ drop 1 rest
  closed_after [] =
      ap (λ (l : List ℕ). l ++ (0 ∷ drop (end + 1) (log_bytes gs ++ []))) (front [])
      ∙ ap (λ (l : List ℕ). log_bytes gs ++ 0 ∷ l) (drop_all (end + 1) (log_bytes gs ++ []) (omega (arith, length-append (log_bytes gs) [])))
  closed_after (x ∷ rest) = byte_after x 0 rest
