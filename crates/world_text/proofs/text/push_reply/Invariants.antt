use Rattle.std.proofs.Common.{◌≡◌, ◌++◌, drop}
use Rattle.std.specs.Prelude.{string_bytes}
use Rattle.std.specs.List.{flat_map}
use Rattle.world_rules.specs.Texts.{shown}
use Rattle.world_text.proofs.text.push_reply.Given as goal

abbrev pub invariant-loop-byte : goal.invariant-loop-byte
invariant-loop-byte l = string_bytes l.out ++ flat_map shown (drop l.byte-index l.reply) ≡ string_bytes l.fn.out ++ flat_map shown l.reply
