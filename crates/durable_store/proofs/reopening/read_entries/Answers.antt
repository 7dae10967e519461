use Rattle.std.proofs.Common.{◌≡◌, ◌+◌, ◌++◌, ◌∷◌, [], length, List, ℕ, sym, ◌∙◌, ap, subst, arith, length-append}
use Rattle.std.specs.Option.{IfSome}
use Rattle.durable_store.specs.Streams.{entries_to_come}
use Rattle.durable_store.proofs.Runs.{fell_on}
use Rattle.durable_store.proofs.Streams.{same_on, time_on, one_more}
use Rattle.durable_store.proofs.reopening.read_entries.Goals as goal

pub loop-entries-preserved : goal.loop-entries-preserved
loop-entries-preserved g c =
    let i = c.loop-entries.invariant in
    let e = c.in_ok-entry.ensures in
    let before : List (List ℕ) = c.loop-entries.entries in
    let entry : List ℕ = c.in-Some.entry in
    let is : c.push.new.self ≡ before ++ entry ∷ [] = c.in_ok-push.ensures.ok in
    let comes = subst (λ o. IfSome o (λ x. g.D.Disk.told → entries_to_come g.D.Disk.cells c.loop-entries.opening ≡ x ∷ entries_to_come g.D.Disk.cells c.next.new.self)) c.in-Some.is e.entry in
    let counts = subst (λ o. IfSome o (λ x. c.next.new.self.reader.restored ≡ c.loop-entries.opening.reader.restored + 1)) c.in-Some.is e.some in
    record {
      is_open = e.closes.1;
      opens = e.opens;
      came = λ told. one_more (entries_to_come g.D.Disk.cells c.args.opening.now) before (entries_to_come g.D.Disk.cells c.loop-entries.opening) (entries_to_come g.D.Disk.cells c.next.new.self) entry (i.came told) (comes told)
          ∙ ap (λ (l : List (List ℕ)). l ++ entries_to_come g.D.Disk.cells c.next.new.self) (sym is);
      count = omega (arith, counts, i.count, ap (λ (l : List (List ℕ)). length l) is, length-append before (entry ∷ []));
      present = e.present ∙ i.present;
      same = λ told. same_on g.D.Disk.cells c.args.opening.now.disks c.loop-entries.opening.disks c.next.new.self.disks (i.same told) (e.same told);
      time = λ told. time_on g.D.Disk.cells g.D.Disk.moment g.D.Disk.left_since c.args.opening.now.disks c.loop-entries.opening.disks c.next.new.self.disks (i.same told) (e.same told) (i.time told) (e.time told);
      falls = fell_on g.D.Disk.faults c.args.opening.now.disks c.loop-entries.opening.disks c.next.new.self.disks i.falls e.later;
      wants = fell_on g.D.Disk.wants c.args.opening.now.disks c.loop-entries.opening.disks c.next.new.self.disks i.wants e.wants_later;
    }
