use Rattle.group_parties.specs.Crews.{names_of}
use Rattle.group_parties.proofs.course.run_crew.Given as goal

-- the name of the group, by what each party begins with
abbrev pub ghosts-run_named : goal.ghosts-run_named
ghosts-run_named g a =
    let names = names_of g.S.Service.meaning a.settings.now g.O.Sink.written g.O.Sink.faults a.crew in record {
      head = names.head;
      entries = names.entries;
      begun = names.begun;
      failures = names.failures;
      receivers = names.receivers;
      leaving = names.leaving;
      arriving = names.arriving;
      lane = names.lane;
      restored = names.restored;
      opening = λ m. names.opening;
    }
