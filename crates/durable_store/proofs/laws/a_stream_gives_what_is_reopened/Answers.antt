use Rattle.std.proofs.Common.{ℕ, drop, ◌∙◌, ap}
use Rattle.store_laws.specs.Restored.{restores}
use Rattle.durable_store.specs.Disks.{contents}
use Rattle.durable_store.specs.Streams.{entries_to_come}
use Rattle.durable_store.proofs.Streams.{gives_all, no_more}
use Rattle.durable_store.proofs.laws.a_stream_gives_what_is_reopened.Goals as goal

pub returns-clause-all : goal.returns-clause-all
returns-clause-all g c = λ entries first last at_first gives none.
    no_more (entries_to_come g.D.Disk.cells first) entries (entries_to_come g.D.Disk.cells last) (gives_all g.D.Disk.cells entries first last gives) none
    ∙ ap (λ (n : ℕ). drop n (restores (contents g.D.Disk.cells first.disks)).entries) at_first

pub returns-clause-rest : goal.returns-clause-rest
returns-clause-rest g c = λ entries first last gives none. no_more (entries_to_come g.D.Disk.cells first) entries (entries_to_come g.D.Disk.cells last) (gives_all g.D.Disk.cells entries first last gives) none
