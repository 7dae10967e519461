use Rattle.group_parties.proofs.seating.desk_for.Given as goal

-- the name bears the member's number
abbrev pub ghosts-desk_as : goal.ghosts-desk_as
ghosts-desk_as g a = record { number = a.member.now }
