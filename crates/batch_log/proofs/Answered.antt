-- What a crash leaves after a call of a log, whether it made its device call or not.
use Rattle.std.proofs.Common.{◌≡◌, ℕ, List, Result, Ok, Err, OnErr, sym, subst, refl}
use Rattle.disk_model.specs.Cells.{Cells, Within}
use Rattle.store_form.specs.Spelling.{Group}
use Rattle.batch_log.specs.declared.job.Job.{Job}
use Rattle.batch_log.specs.declared.job.Job.TheVariants.{Rest, Torn, Close, SyncClose, Body, SyncBody, Gate, SyncGate}
use Rattle.batch_log.specs.Jobs.{Stands, IsIdle, LeavesEither, at_stake, called}
use Rattle.batch_log.specs.Wires.{Wired, LeavesWire}
use Rattle.batch_log.proofs.Phases.{leaves, call_leaves, fewer}
use Rattle.batch_log.proofs.Lives.{lives, call_lives, fewer_wires}

pub on_err : {T E : Type 0} (r : Result T E) (X : Type 0) → X → OnErr r X
on_err (Ok x) X is = tt
on_err (Err e) X is = is

-- where no job runs, no more is at stake than before
idle_stake : (job : Job) (g : Group) (gs other : List Group) → IsIdle job → at_stake job g gs other ≡ other
idle_stake Rest g gs other idle = refl
idle_stake Torn g gs other idle = refl
idle_stake (Close waiting) g gs other idle = refl
idle_stake (SyncClose waiting) g gs other idle = refl
idle_stake (Body bytes) g gs other idle = refl
idle_stake (SyncBody next) g gs other idle = refl
idle_stake (Gate next) g gs other idle = absurd cc
idle_stake (SyncGate next) g gs other idle = refl

pub idle_leaves : (cells : Cells) (end : ℕ) (job : Job) (g : Group) (gs other : List Group) → IsIdle job → Stands cells end job g gs other → LeavesEither cells gs (at_stake job g gs other)
idle_leaves cells end job g gs other idle s = subst (λ (o : List Group). LeavesEither cells gs o) (sym (idle_stake job g gs other idle)) (leaves cells end job g gs other s)

pub idle_lives : (cells : Cells) (end : ℕ) (job : Job) (g : Group) (gs other : List Group) → IsIdle job → Stands cells end job g gs other → Wired cells gs → LeavesWire cells gs (at_stake job g gs other)
idle_lives cells end job g gs other idle s w = subst (λ (o : List Group). LeavesWire cells gs o) (sym (idle_stake job g gs other idle)) (lives cells end job g gs other s w)

within_job : (old new : Cells) (end : ℕ) (job given : Job) → given ≡ job → Within new (called given end old) → Within new (called job end old)
within_job old new end job given is within = subst (λ (j : Job). Within new (called j end old)) is within

pub made_leaves : (old new : Cells) (end : ℕ) (job given : Job) (g : Group) (gs other : List Group) → given ≡ job → Within new (called given end old) → Stands old end job g gs other → LeavesEither new gs (at_stake job g gs other)
made_leaves old new end job given g gs other is within s =
    fewer (called job end old) new gs (at_stake job g gs other) (within_job old new end job given is within) (call_leaves old end job g gs other s)

pub made_lives : (old new : Cells) (end : ℕ) (job given : Job) (g : Group) (gs other : List Group) → given ≡ job → Within new (called given end old) → Stands old end job g gs other → Wired old gs
    → LeavesWire new gs (at_stake job g gs other)
made_lives old new end job given g gs other is within s w =
    fewer_wires (called job end old) new gs (at_stake job g gs other) (within_job old new end job given is within) (call_lives old end job g gs other s w)
