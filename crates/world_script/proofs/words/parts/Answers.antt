use Rattle.world_script.proofs.Spaces.{first_word, only_word, behind_first, behind_none}
use Rattle.world_script.proofs.words.parts.Goals as goal

pub returns-in_default-clause-words : goal.returns-in_default-clause-words
returns-in_default-clause-words c = only_word c.args.bytes.now (cc)

pub returns-in_default-clause-behind : goal.returns-in_default-clause-behind
returns-in_default-clause-behind c = behind_none c.args.bytes.now (cc)

pub returns-clause-words : goal.returns-clause-words
returns-clause-words c = rw (c.split_at.ensures.front, c.split_at-2.ensures.back) (first_word c.args.bytes.now c.in-Some.i (cc))

pub returns-clause-behind : goal.returns-clause-behind
returns-clause-behind c = rw c.split_at-2.ensures.back (behind_first c.args.bytes.now c.in-Some.i (cc))
