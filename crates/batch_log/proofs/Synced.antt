-- A call goes well: where the log stands then, and that what is sure is a log of its own lives.
use Rattle.std.proofs.Common.{◌≡◌, ℕ, ◌+◌, List, [], ◌∷◌, ◌++◌, length, Some, None, refl, sym, subst}
use Rattle.disk_model.specs.Cells.{Cells}
use Rattle.store_form.specs.Spelling.{Group}
use Rattle.batch_log.specs.declared.job.Job.{Job}
use Rattle.batch_log.specs.declared.job.Job.TheVariants.{Rest, Torn, Close, SyncClose, Body, SyncBody, Gate, SyncGate}
use Rattle.batch_log.specs.Jobs.{Stands, kept_after, other_after, code, code_after}
use Rattle.batch_log.specs.Exact.{log_called, job_called, end_called, HasRoom, IsNear}
use Rattle.batch_log.specs.Wires.{Wired}
use Rattle.batch_log.proofs.Phases.{synced_zero, after_close, after_closed, after_closed_then, after_body, after_body_sync, after_gate, after_gate_sync}
use Rattle.batch_log.proofs.Lives.{wired_written, wired_same, wired_clean, wired_staged}

pub called_goes : (cells new : Cells) (end : ℕ) (job : Job) (g : Group) (gs other : List Group) → new ≡ log_called job end cells → Stands cells end job g gs other
    → Stands new (end_called job end) (job_called job end) g (kept_after job g gs) (other_after job g gs other)
called_goes cells new end Rest g gs other is s = subst (λ (c : Cells). Stands c end Rest g gs other) (sym is) s
called_goes cells new end Torn g gs other is s = subst (λ (c : Cells). Stands c end Torn g gs other) (sym is) s
called_goes cells new end (Close waiting) g gs other is s = after_close cells new end waiting g gs other s is
called_goes cells new end (SyncClose None) g gs other is s = after_closed cells new end g gs other s is
called_goes cells new end (SyncClose (Some bytes)) g gs other is s = after_closed_then cells new end bytes g gs other s is
called_goes cells new end (Body bytes) g gs other is s = after_body cells new end (end + length bytes) bytes g gs other s is refl
called_goes cells new end (SyncBody next) g gs other is s = after_body_sync cells new end next g gs other s is
called_goes cells new end (Gate next) g gs other is s = after_gate cells new end next g gs other s is
called_goes cells new end (SyncGate next) g gs other is s = after_gate_sync cells new end next g gs other s is

pub called_wired : (cells new : Cells) (end : ℕ) (job : Job) (g : Group) (gs other : List Group) → new ≡ log_called job end cells → Stands cells end job g gs other
    → Wired cells gs → Wired new (kept_after job g gs)
called_wired cells new end Rest g gs other is s w = wired_same cells new gs is w
called_wired cells new end Torn g gs other is s w = wired_same cells new gs is w
called_wired cells new end (Close waiting) g gs other is s w = wired_written cells new end (0 ∷ []) gs is w
called_wired cells new end (SyncClose waiting) g gs other is s w = wired_clean new end gs (synced_zero cells new end gs other s.0 is)
called_wired cells new end (Body bytes) g gs other is s w = wired_written cells new (end + 1) bytes gs is w
called_wired cells new end (SyncBody next) g gs other is s w = wired_staged new end next g gs (after_body_sync cells new end next g gs other s is).0
called_wired cells new end (Gate next) g gs other is s w = wired_written cells new end (1 ∷ []) gs is w
called_wired cells new end (SyncGate next) g gs other is s w = wired_clean new next (gs ++ g ∷ []) (after_gate_sync cells new end next g gs other s is).0

pub called_code : (job : Job) (end : ℕ) → code (job_called job end) ≡ code_after job
called_code Rest end = refl
called_code Torn end = refl
called_code (Close None) end = refl
called_code (Close (Some bytes)) end = refl
called_code (SyncClose None) end = refl
called_code (SyncClose (Some bytes)) end = refl
called_code (Body bytes) end = refl
called_code (SyncBody next) end = refl
called_code (Gate next) end = refl
called_code (SyncGate next) end = refl

pub called_near : (job : Job) (end : ℕ) → IsNear job end → HasRoom job end → IsNear (job_called job end) (end_called job end)
called_near Rest end near room = near
called_near Torn end near room = near
called_near (Close waiting) end near room = near
called_near (SyncClose None) end near room = near
called_near (SyncClose (Some bytes)) end near room = near
called_near (Body bytes) end near room = (near.0, room)
called_near (SyncBody next) end near room = near
called_near (Gate next) end near room = near
called_near (SyncGate next) end near room = (near.1, near.1)
