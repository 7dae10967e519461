use Rattle.std.proofs.Common.{None, Some, sym, ◌∙◌, ap, not, subst, ℕ}
use Rattle.checkpoint_store.specs.Slots.{is_odd, slot_of, InEachImage, NoneAbove}
use Rattle.checkpoint_store.specs.Stores.{slot, beside}
use Rattle.checkpoint_store.proofs.Phases.{leaves}
use Rattle.checkpoint_store.proofs.Resting.{idle_settled, ready_full, full_gives}
use Rattle.checkpoint_store.proofs.Whole.{gated_leaves, gated_stands, gated_moments, gated_newest}
use Rattle.checkpoint_store.proofs.store.CheckpointStore.gate_slot.Goals as goal

pub run-requires-clause-stands : goal.run-requires-clause-stands
run-requires-clause-stands g c = λ told.
    let e = c.in_ok-gate_start.ensures in
    let own = slot c.args.generation c.args.self.now in
    let u = c.requires.stands e.closes.0 told in
    let f = ready_full c.args.generation (g.D.Disk.cells own.device)
    (idle_settled (is_odd c.args.generation) (g.D.Disk.cells own.device) own.job u.next u.has u.other c.requires.idle u.stands) (c.requires.ready e.closes.0 told) in
    record { next = f.0; has = None; other = None; stands = e.ok told f.0 f.1.0 }

pub returns-in_err-run-clause-any_moment : goal.returns-in_err-run-clause-any_moment
returns-in_err-run-clause-any_moment g c = λ told remembers next full.
    let e = c.in_ok-gate_start.ensures in
    let mid = slot c.args.generation c.gate_start.new.self in
    gated_moments g.D.Disk.moment g.D.Disk.left_since (is_odd c.args.generation) (slot c.args.generation c.args.self.now).device mid.device (slot c.args.generation c.run.new.self).device mid.job next
    e.job e.device (c.run.ensures.any_moment told remembers next None None (e.ok told next full))

pub returns-in_err-run-clause-crash : goal.returns-in_err-run-clause-crash
returns-in_err-run-clause-crash g c = λ told next full.
    let e = c.in_ok-gate_start.ensures in
    gated_leaves (is_odd c.args.generation) (g.D.Disk.cells (slot c.args.generation c.run.new.self).device) (slot c.args.generation c.gate_start.new.self).job next e.job
    (c.run.ensures.crash told next None None (e.ok told next full))

pub returns-clause-ok : goal.returns-clause-ok
returns-clause-ok g c = λ told next full.
    let e = c.in_ok-gate_start.ensures in
    let own = slot c.args.generation c.run.new.self in
    gated_stands (is_odd c.args.generation) (g.D.Disk.cells own.device) (slot c.args.generation c.gate_start.new.self).job own.job next e.job
    (c.in_ok-run.ensures.ok told next None None (e.ok told next full))

pub returns-clause-newest : goal.returns-clause-newest
returns-clause-newest g c = λ told even odd even_is odd_is.
    let e = c.in_ok-gate_start.ensures in
    let r = c.in_ok-run.ensures in
    let side = is_odd c.args.generation in
    let old = slot c.args.generation c.args.self.now in
    let own = slot c.args.generation c.run.new.self in
    let u = c.requires.stands e.closes.0 told in
    let f = ready_full c.args.generation (g.D.Disk.cells old.device)
    (idle_settled side (g.D.Disk.cells old.device) old.job u.next u.has u.other c.requires.idle u.stands) (c.requires.ready e.closes.0 told) in
    let stands = gated_stands side (g.D.Disk.cells own.device) (slot c.args.generation c.gate_start.new.self).job own.job f.0 e.job
    (r.ok told f.0 None None (e.ok told f.0 f.1.0)) in
    let above = subst (λ (s : _). InEachImage (g.D.Disk.cells s.device) (λ image. NoneAbove c.args.generation (slot_of (not side) image))) (sym (r.beside ∙ e.beside)) (c.requires.newest e.closes.0 told) in
    let above_it = subst (λ (n : ℕ). InEachImage (g.D.Disk.cells (beside c.args.generation c.run.new.self).device) (λ image. NoneAbove n (slot_of (not side) image))) (sym f.1.1) above in
    gated_newest g.D.Disk.cells side c.run.new.self f.0 even odd (ap is_odd f.1.1) (leaves side (g.D.Disk.cells own.device) own.job f.0 (Some f.0) (Some f.0) stands) above_it even_is odd_is
    ∙ sym (full_gives side (g.D.Disk.cells old.device) f.0 f.1.0)

pub returns-clause-any_moment : goal.returns-clause-any_moment
returns-clause-any_moment g c = λ told remembers next full.
    let e = c.in_ok-gate_start.ensures in
    let mid = slot c.args.generation c.gate_start.new.self in
    gated_moments g.D.Disk.moment g.D.Disk.left_since (is_odd c.args.generation) (slot c.args.generation c.args.self.now).device mid.device (slot c.args.generation c.run.new.self).device mid.job next
    e.job e.device (c.run.ensures.any_moment told remembers next None None (e.ok told next full))

pub returns-clause-crash : goal.returns-clause-crash
returns-clause-crash g c = λ told next full.
    let e = c.in_ok-gate_start.ensures in
    gated_leaves (is_odd c.args.generation) (g.D.Disk.cells (slot c.args.generation c.run.new.self).device) (slot c.args.generation c.gate_start.new.self).job next e.job
    (c.run.ensures.crash told next None None (e.ok told next full))
