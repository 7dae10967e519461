use Rattle.group_threads.proofs.member.work.Given as goal

-- the worker bears the member's number
abbrev pub ghosts-work_as : goal.ghosts-work_as
ghosts-work_as g a = record { number = a.member.now }
