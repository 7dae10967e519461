use Rattle.std.proofs.Common.{◌∙◌, sym}
use Rattle.world_script.proofs.Values.{next_byte}
use Rattle.world_script.proofs.hex.hex_bytes.Goals as goal

pub loop-high-preserved : goal.loop-high-preserved
loop-high-preserved c =
    let high = c.in-Some.ensures.cases.0 in
    let low = c.in-Some-split_first.ensures.cases.0 in
    let byte = next_byte c.loop-high.bytes _ _ _ _ _ _ high low (sym c.in-Some-byte_by.ensures) in
    rw c.in_ok-push.ensures.ok (byte ∙ c.loop-high.invariant)
