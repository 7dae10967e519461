use Rattle.std.proofs.Common.{◌≡◌, ◌∙◌, ℕ, Some, sym, ap, subst, arith}
use Rattle.store_laws.specs.States.{StoreState}
use Rattle.durable_store.specs.Disks.{contents, DiskRose, NoneFell}
use Rattle.durable_store.specs.declared.disks.Disks.{Disks}
use Rattle.durable_store.specs.declared.store.Store.{Store}
use Rattle.member_opening.specs.Restorings.{parts_in, store_fault}
use Rattle.durable_store.proofs.Faults.{disk_failed, fell_none}
use Rattle.group_opening.specs.Berths.{IsRefusedBy}
use Rattle.group_opening.specs.declared.berth.Berth.{Berth}
use Rattle.group_opening.specs.declared.berth.OpeningEnd.{OpeningEnd}
use Rattle.group_opening.specs.declared.berth.OpeningEnd.TheVariants as ends
use Rattle.group_opening.proofs.Berthing.{if-err, if-ok, refused-by, same-contents}
use Rattle.group_opening.proofs.berth.berth_on.Goals as goal

pub berth_over-requires-clause-opened : goal.berth_over-requires-clause-opened
berth_over-requires-clause-opened g c =
    let e = c.in-Ok.ensures in record {
      few = omega (arith, e.firm.1, c.len-restored.ensures.value, c.len-restored.ensures.small);
      firm = e.firm.0 ∙ sym e.firm.1;
      idle = e.idle;
      unasked = e.waiting.1;
      is_open = e.open;
      none = λ told. ap (λ (s : StoreState). s.adding) (e.opened told);
      stands = e.stands;
    }

pub returns-in-Ok-clause-berth : goal.returns-in-Ok-clause-berth
returns-in-Ok-clause-berth g c =
    c.berth_over.ensures.berth (contents g.D.Disk.cells c.args.disks) c.in-Ok.ensures.kept
    (record {
      firm = c.in-Ok.ensures.firm.0;
      generation = c.in-Ok.ensures.generation;
      waiting = c.in-Ok.ensures.waiting.0;
      is_open = c.in-Ok.ensures.open;
      state = c.in-Ok.ensures.opened;
      stands = c.in-Ok.ensures.stands;
    })

pub returns-in-Ok-clause-refused : goal.returns-in-Ok-clause-refused
returns-in-Ok-clause-refused g c =
    if-err (λ (e : OpeningEnd × Disks g.row.D.Denot). (entry : ℕ) → e.0 ≡ ends.Store entry → store_fault g.S.Service.meaning c.args.settings (parts_in c.in-Ok.kept) ≡ Some entry)
    (λ (e : OpeningEnd × Disks g.row.D.Denot). (entry : ℕ) → e.0 ≡ ends.Store entry → IsRefusedBy g.S.Service.meaning g.D.Disk.told (contents g.D.Disk.cells c.args.disks) c.args.settings entry) c.berth_over.result
    (λ e was entry is. refused-by g.S.Service.meaning g.D.Disk.told (contents g.D.Disk.cells c.args.disks) c.args.settings c.in-Ok.kept entry c.in-Ok.ensures.kept (was entry is)) c.berth_over.ensures.refused

pub returns-in-Ok-clause-disk : goal.returns-in-Ok-clause-disk
returns-in-Ok-clause-disk g c =
    if-err (λ (e : OpeningEnd × Disks g.row.D.Denot). e.0 ≡ ends.Disk → ⊥) (λ (e : OpeningEnd × Disks g.row.D.Denot). e.0 ≡ ends.Disk → DiskRose g.D.Disk.faults c.args.disks e.1) c.berth_over.result
    (λ e none is. absurd (none is)) c.berth_over.ensures.disk

pub returns-in-Ok-clause-later : goal.returns-in-Ok-clause-later
returns-in-Ok-clause-later g c =
    if-ok (λ (b : Berth g.row.S.Denot g.row.D.Denot). b.store ≡ c.in-Ok.store) (λ (b : Berth g.row.S.Denot g.row.D.Denot). NoneFell g.D.Disk.faults c.args.disks b.store.disks) c.berth_over.result
    (λ b is. subst (λ (s : Store g.row.D.Denot). NoneFell g.D.Disk.faults c.args.disks s.disks) (sym is) c.in-Ok.ensures.later) c.berth_over.ensures.store

pub returns-in-Ok-clause-later_back : goal.returns-in-Ok-clause-later_back
returns-in-Ok-clause-later_back g c =
    if-err (λ (e : OpeningEnd × Disks g.row.D.Denot). e.1 ≡ c.in-Ok.store.disks) (λ (e : OpeningEnd × Disks g.row.D.Denot). NoneFell g.D.Disk.faults c.args.disks e.1) c.berth_over.result
    (λ e is. subst (λ (d : Disks g.row.D.Denot). NoneFell g.D.Disk.faults c.args.disks d) (sym is) c.in-Ok.ensures.later) c.berth_over.ensures.back

pub returns-in-Ok-clause-same : goal.returns-in-Ok-clause-same
returns-in-Ok-clause-same g c =
    let d = g.D.Disk in
    let same = λ (told : d.told). same-contents d.cells c.args.disks c.in-Ok.store.disks (c.in-Ok.ensures.same told) in
    if-ok (λ (b : Berth g.row.S.Denot g.row.D.Denot). b.store ≡ c.in-Ok.store) (λ (b : Berth g.row.S.Denot g.row.D.Denot). d.told → contents d.cells b.store.disks ≡ contents d.cells c.args.disks) c.berth_over.result
    (λ b is told. subst (λ (s : Store g.row.D.Denot). contents d.cells s.disks ≡ contents d.cells c.args.disks) (sym is) (same told)) c.berth_over.ensures.store

pub returns-in-Ok-clause-same_back : goal.returns-in-Ok-clause-same_back
returns-in-Ok-clause-same_back g c =
    let d = g.D.Disk in
    let same = λ (told : d.told). same-contents d.cells c.args.disks c.in-Ok.store.disks (c.in-Ok.ensures.same told) in
    if-err (λ (e : OpeningEnd × Disks g.row.D.Denot). e.1 ≡ c.in-Ok.store.disks) (λ (e : OpeningEnd × Disks g.row.D.Denot). d.told → contents d.cells e.1 ≡ contents d.cells c.args.disks) c.berth_over.result
    (λ e is told. subst (λ (x : Disks g.row.D.Denot). contents d.cells x ≡ contents d.cells c.args.disks) (sym is) (same told)) c.berth_over.ensures.back

pub returns-in-Err-clause-same_back : goal.returns-in-Err-clause-same_back
returns-in-Err-clause-same_back g c = λ told. same-contents g.D.Disk.cells c.args.disks c.in-Err.disks (c.in-Err.ensures.back told)

pub returns-in-Err-clause-disk : goal.returns-in-Err-clause-disk
returns-in-Err-clause-disk g c =
    λ is. disk_failed g.D.Disk.faults c.args.disks c.args.disks c.in-Err.disks c.in-Err.fault (fell_none g.D.Disk.faults c.args.disks) c.in-Err.ensures.cause c.in-Err.ensures.not_closed (c.end_of_store.ensures.disk is)
