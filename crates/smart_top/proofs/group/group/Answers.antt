use Rattle.std.proofs.Common.{refl, subst, sym, ◌∙◌, inl}
use Rattle.member_opening.specs.Devices.{images_at}
use Rattle.smart_top.specs.Groups.{IsPlayed}
use Rattle.smart_top.proofs.Grouping.{disk_failed, ended_well, group_agreed, group_is_played, never_read, never_words, rest_by, trail_failed, unread_group, write_failed}
use Rattle.smart_top.proofs.group.group.Goals as goal

pub returns-in-Ok-clause-ended : goal.returns-in-Ok-clause-ended
returns-in-Ok-clause-ended g c =
    inl
    (record {
      settings = c.in-Ok.settings;
      named = c.in-Ok.ensures;
      disks = rest_by c.args.words c.in-Ok.settings 1 4 _ c.in-Ok.ensures c.run_group-status.ensures.disks;
      sinks = rest_by c.args.words c.in-Ok.settings 0 1 _ c.in-Ok.ensures c.run_group-status.ensures.sinks;
      group = c.run_group-status.result;
      is = c.status_by.ensures;
      ended = c.run_group-status.ensures.ended;
    })

pub returns-in-Ok-clause-complete : goal.returns-in-Ok-clause-complete
returns-in-Ok-clause-complete g c = λ told sound write trail disk.
    subst IsPlayed (sym c.status_by.ensures)
    (group_is_played c.args.words _ refl c.in-Ok.ensures told (images_at (g.M.DiskRoom.cells c.args.room.now)) (λ member. refl) sound c.run_group-status.result c.run_group-status.ensures.ended (λ is. write (c.run_group-status.ensures.write is))
    (λ is. trail (c.run_group-status.ensures.trail is)) (λ is. disk (c.run_group-status.ensures.disk is)))

pub returns-in-Ok-clause-fresh : goal.returns-in-Ok-clause-fresh
returns-in-Ok-clause-fresh g c = λ ok.
    group_agreed c.args.words c.requires _ c.in-Ok.settings c.in-Ok.ensures refl refl c.run_group-status.result (ended_well c.run_group-status.result (sym c.status_by.ensures ∙ ok))
    c.run_group-status.ensures.ended

pub returns-in-Ok-clause-write : goal.returns-in-Ok-clause-write
returns-in-Ok-clause-write g c = λ is. c.run_group-status.ensures.write (write_failed _ (sym c.status_by.ensures ∙ is))

pub returns-in-Ok-clause-trail : goal.returns-in-Ok-clause-trail
returns-in-Ok-clause-trail g c = λ is. c.run_group-status.ensures.trail (trail_failed _ (sym c.status_by.ensures ∙ is))

pub returns-in-Ok-clause-disk : goal.returns-in-Ok-clause-disk
returns-in-Ok-clause-disk g c = λ is. c.run_group-status.ensures.disk (disk_failed _ (sym c.status_by.ensures ∙ is))

pub returns-in-Ok-clause-words : goal.returns-in-Ok-clause-words
returns-in-Ok-clause-words g c = λ is. never_words _ (sym c.status_by.ensures ∙ is)

pub returns-in-Ok-clause-read : goal.returns-in-Ok-clause-read
returns-in-Ok-clause-read g c = λ is. never_read _ (sym c.status_by.ensures ∙ is)

pub returns-in-Err-clause-ended : goal.returns-in-Err-clause-ended
returns-in-Err-clause-ended g c = unread_group _ _ _ (λ s. (record { kept = refl; taken = refl }, record { kept = refl; taken = refl }))
