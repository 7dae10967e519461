-- A job goes on by one call.
use Rattle.std.proofs.Common.{◌≡◌, ◌⊎◌, inl, inr, ⊎_elim, ℕ, ◌+◌, List, [], ◌∷◌, ◌++◌, length, drop, Option, Some, None, refl, sym, ◌∙◌, ap, subst, append_assoc, arith, length-append}
use Rattle.disk_model.specs.Cells.{Cells, IsImage, Within, settled, written}
use Rattle.disk_model.proofs.Images.{image_settled}
use Rattle.store_form.specs.Spelling.{Group, group_text}
use Rattle.batch_log.specs.declared.job.Job.{Job}
use Rattle.batch_log.specs.declared.job.Job.TheVariants.{Rest, Torn, Close, SyncClose, Body, SyncBody, Gate, SyncGate}
use Rattle.batch_log.specs.Log.{log_bytes, restored}
use Rattle.batch_log.specs.Jobs.{Clean, IsBody, Behind, Staged, Gated, ToClose, Closing, Stands, LeavesEither, at_stake, called}
use Rattle.batch_log.proofs.Restored.{restored_is, log_push, groups_push, length-push}
use Rattle.batch_log.proofs.Steps.{clean_leaves, behind_leaves, behind_after, gated_leaves, byte_after, closing_leaves, closed_after}

on : (cells is : Cells) (gs other : List Group) → cells ≡ is → LeavesEither is gs other → LeavesEither cells gs other
on cells is gs other same each c image = each c (subst (λ (q : Cells). IsImage q c) same image)

leaves_clean : (cells : Cells) (end : ℕ) (gs other : List Group) → Clean cells end gs → LeavesEither cells gs other
leaves_clean cells end gs other s = on cells _ gs other s.are (λ c is. inl (clean_leaves gs end s.ends s.fit s.tail c is))

leaves_torn : (cells : Cells) (end : ℕ) (gs other : List Group) → ToClose cells end gs other → LeavesEither cells gs other
leaves_torn cells end gs other s = on cells _ gs other s.are (λ c is. inl (ap restored (image_settled _ c is) ∙ restored_is gs s.rest s.torn.fit s.torn.nothing))

leaves_closing : (cells : Cells) (end : ℕ) (gs other : List Group) → Closing cells end gs other → LeavesEither cells gs other
leaves_closing cells end gs other s =
    on cells _ gs other s.are
    (λ c is. ⊎_elim (λ (same : restored c ≡ gs). inl same) (λ (back : restored c ≡ restored (log_bytes gs ++ 1 ∷ drop 1 s.rest)). inr (back ∙ sym s.torn.is)) (closing_leaves gs end s.torn.ends s.torn.fit s.rest c s.torn.nothing is))

leaves_behind : (cells : Cells) (end next : ℕ) (g : Group) (gs other : List Group) → Behind cells end next g gs → LeavesEither cells gs other
leaves_behind cells end next g gs other s = on cells _ gs other s.are (λ c is. inl (behind_leaves gs end s.ends s.fit (group_text g ++ 0 ∷ []) s.tail c is))

leaves_staged : (cells : Cells) (end next : ℕ) (g : Group) (gs other : List Group) → Staged cells end next g gs → LeavesEither cells gs other
leaves_staged cells end next g gs other s = on cells _ gs other s.are (λ c is. inl (clean_leaves gs end s.ends s.fit (group_text g ++ 0 ∷ s.tail) c is))

leaves_gated : (cells : Cells) (end next : ℕ) (g : Group) (gs other : List Group) → Gated cells end next g gs → other ≡ gs ++ g ∷ [] → LeavesEither cells gs other
leaves_gated cells end next g gs other s more =
    on cells _ gs other s.are
    (λ c is. ⊎_elim (λ (same : restored c ≡ gs). inl same) (λ (added : restored c ≡ gs ++ g ∷ []). inr (added ∙ sym more)) (gated_leaves gs end s.ends s.fit g s.tail c s.fits is))

pub leaves : (cells : Cells) (end : ℕ) (job : Job) (g : Group) (gs other : List Group) → Stands cells end job g gs other → LeavesEither cells gs other
leaves cells end Rest g gs other s = leaves_clean cells end gs other s.0
leaves cells end Torn g gs other s = leaves_torn cells end gs other s
leaves cells end (Close waiting) g gs other s = leaves_torn cells end gs other s.0
leaves cells end (SyncClose waiting) g gs other s = leaves_closing cells end gs other s.0
leaves cells end (Body bytes) g gs other s = leaves_clean cells end gs other s.0
leaves cells end (SyncBody next) g gs other s = leaves_behind cells end next g gs other s.0
leaves cells end (Gate next) g gs other s = leaves_staged cells end next g gs other s.0
leaves cells end (SyncGate next) g gs other s = leaves_gated cells end next g gs other s.0 s.1

-- ---- the calls that go well

pub wrote_body : (cells new : Cells) (end next : ℕ) (bytes : List ℕ) (g : Group) (gs : List Group) → Clean cells end gs → IsBody bytes g → new ≡ written (end + 1) bytes cells → next ≡ end + length bytes → Behind new end next g gs
wrote_body cells new end next bytes g gs s b is to = record {
  tail = s.tail;
  are = is ∙ ap (λ (q : Cells). written (end + 1) bytes q) s.are ∙ ap (λ (l : List ℕ). written (end + 1) l (settled (log_bytes gs ++ 0 ∷ s.tail))) b.are;
  ends = s.ends;
  goes_to = omega (arith, to, ap length b.are, length-append (group_text g) (0 ∷ []));
  fit = s.fit;
  fits = b.fits;
}

pub synced_body : (cells new : Cells) (end next : ℕ) (g : Group) (gs : List Group) → Behind cells end next g gs → new ≡ settled cells.now → Staged new end next g gs
synced_body cells new end next g gs s is =
    let bytes = group_text g ++ 0 ∷ [] in
    let tail = drop (end + 1 + length bytes) (log_bytes gs ++ 0 ∷ s.tail) in
    record {
      tail = tail;
      are = is ∙ ap (λ (q : Cells). settled q.now) s.are ∙ ap settled (behind_after gs end s.ends s.fit bytes s.tail) ∙ ap (λ (l : List ℕ). settled (log_bytes gs ++ 0 ∷ l)) (append_assoc (group_text g) (0 ∷ []) tail);
      ends = s.ends;
      goes_to = s.goes_to;
      fit = s.fit;
      fits = s.fits;
    }

pub wrote_gate : (cells new : Cells) (end next : ℕ) (g : Group) (gs : List Group) → Staged cells end next g gs → new ≡ written end (1 ∷ []) cells → Gated new end next g gs
wrote_gate cells new end next g gs s is = record {
  tail = s.tail;
  are = is ∙ ap (λ (q : Cells). written end (1 ∷ []) q) s.are;
  ends = s.ends;
  goes_to = s.goes_to;
  fit = s.fit;
  fits = s.fits;
}

pub synced_gate : (cells new : Cells) (end next : ℕ) (g : Group) (gs : List Group) → Gated cells end next g gs → new ≡ settled cells.now → Clean new next (gs ++ g ∷ [])
synced_gate cells new end next g gs s is = record {
  tail = s.tail;
  are = is ∙ ap (λ (q : Cells). settled q.now) s.are ∙ ap settled (byte_after gs end s.ends s.fit 0 1 (group_text g ++ 0 ∷ s.tail) ∙ sym (log_push gs g (0 ∷ s.tail)));
  ends = s.goes_to ∙ ap (λ (n : ℕ). n + 1 + length (group_text g)) s.ends ∙ sym (length-push gs g);
  fit = groups_push gs g s.fit s.fits;
}

pub wrote_zero : (cells new : Cells) (end : ℕ) (gs other : List Group) → ToClose cells end gs other → new ≡ written end (0 ∷ []) cells → Closing new end gs other
wrote_zero cells new end gs other s is = record { rest = s.rest; are = is ∙ ap (λ (q : Cells). written end (0 ∷ []) q) s.are; torn = s.torn }

pub synced_zero : (cells new : Cells) (end : ℕ) (gs other : List Group) → Closing cells end gs other → new ≡ settled cells.now → Clean new end gs
synced_zero cells new end gs other s is = record {
  tail = drop 1 s.rest;
  are = is ∙ ap (λ (q : Cells). settled q.now) s.are ∙ ap settled (closed_after gs end s.torn.ends s.torn.fit s.rest);
  ends = s.torn.ends;
  fit = s.torn.fit;
}

-- ---- and as jobs

pub after_close : (cells new : Cells) (end : ℕ) (waiting : Option (List ℕ)) (g : Group) (gs other : List Group) → Stands cells end (Close waiting) g gs other → new ≡ written end (0 ∷ []) cells → Stands new end (SyncClose waiting) g gs other
after_close cells new end waiting g gs other s is = (wrote_zero cells new end gs other s.0 is, s.1)

pub after_closed : (cells new : Cells) (end : ℕ) (g : Group) (gs other : List Group) → Stands cells end (SyncClose None) g gs other → new ≡ settled cells.now → Stands new end Rest g gs gs
after_closed cells new end g gs other s is = (synced_zero cells new end gs other s.0 is, refl)

pub after_closed_then : (cells new : Cells) (end : ℕ) (bytes : List ℕ) (g : Group) (gs other : List Group) → Stands cells end (SyncClose (Some bytes)) g gs other → new ≡ settled cells.now → Stands new end (Body bytes) g gs gs
after_closed_then cells new end bytes g gs other s is = (synced_zero cells new end gs other s.0 is, (s.1, refl))

pub after_body : (cells new : Cells) (end next : ℕ) (bytes : List ℕ) (g : Group) (gs other : List Group) → Stands cells end (Body bytes) g gs other → new ≡ written (end + 1) bytes cells → next ≡ end + length bytes → Stands new end (SyncBody next) g gs other
after_body cells new end next bytes g gs other s is to = (wrote_body cells new end next bytes g gs s.0 s.1.0 is to, s.1.1)

pub after_body_sync : (cells new : Cells) (end next : ℕ) (g : Group) (gs other : List Group) → Stands cells end (SyncBody next) g gs other → new ≡ settled cells.now → Stands new end (Gate next) g gs other
after_body_sync cells new end next g gs other s is = (synced_body cells new end next g gs s.0 is, s.1)

pub after_gate : (cells new : Cells) (end next : ℕ) (g : Group) (gs other : List Group) → Stands cells end (Gate next) g gs other → new ≡ written end (1 ∷ []) cells → Stands new end (SyncGate next) g gs (gs ++ g ∷ [])
after_gate cells new end next g gs other s is = (wrote_gate cells new end next g gs s.0 is, refl)

pub after_gate_sync : (cells new : Cells) (end next : ℕ) (g : Group) (gs other : List Group) → Stands cells end (SyncGate next) g gs other → new ≡ settled cells.now → Stands new next Rest g (gs ++ g ∷ []) (gs ++ g ∷ [])
after_gate_sync cells new end next g gs other s is = (synced_gate cells new end next g gs s.0 is, refl)

-- what a call may leave, whether it goes well or not
pub call_leaves : (cells : Cells) (end : ℕ) (job : Job) (g : Group) (gs other : List Group) → Stands cells end job g gs other → LeavesEither (called job end cells) gs (at_stake job g gs other)
call_leaves cells end Rest g gs other s = leaves cells end Rest g gs other s
call_leaves cells end Torn g gs other s = leaves cells end Torn g gs other s
call_leaves cells end (Close waiting) g gs other s = leaves_closing (written end (0 ∷ []) cells) end gs other (wrote_zero cells _ end gs other s.0 refl)
call_leaves cells end (SyncClose waiting) g gs other s = leaves cells end (SyncClose waiting) g gs other s
call_leaves cells end (Body bytes) g gs other s = leaves_behind (written (end + 1) bytes cells) end (end + length bytes) g gs other (wrote_body cells _ end (end + length bytes) bytes g gs s.0 s.1.0 refl refl)
call_leaves cells end (SyncBody next) g gs other s = leaves cells end (SyncBody next) g gs other s
call_leaves cells end (Gate next) g gs other s = leaves_gated (written end (1 ∷ []) cells) end next g gs (gs ++ g ∷ []) (wrote_gate cells _ end next g gs s.0 refl) refl
call_leaves cells end (SyncGate next) g gs other s = leaves cells end (SyncGate next) g gs other s

pub fewer : (old new : Cells) (gs other : List Group) → Within new old → LeavesEither old gs other → LeavesEither new gs other
fewer old new gs other within each c is = each c (within c is)
