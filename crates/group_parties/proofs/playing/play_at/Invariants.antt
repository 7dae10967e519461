use Rattle.group_parties.proofs.playing.play_at.Given as goal

-- the name bears the member's number
abbrev pub ghosts-play_as : goal.ghosts-play_as
ghosts-play_as g a = record { number = a.member.now }
