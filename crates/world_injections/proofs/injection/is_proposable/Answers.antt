use Rattle.std.proofs.Common.{◌≡◌, ◌&&◌, false, nat_le, length, arith}
use Rattle.std.proofs.lemmas.Bool.Decides.{nat_tests}
use Rattle.world_rules.specs.Injections.{requests_at}
use Rattle.world_injections.proofs.InjectionLaws.{has_length, outside, within}
use Rattle.world_injections.proofs.injection.is_proposable.Goals.{then-asks-lt1-via-then-asks-lt1, then-asks-lt1-via-else-asks-lt1+then-asks}
use Rattle.world_injections.proofs.injection.is_proposable.Goals as goal

pub returns-then-asks-lt1 : goal.returns-then-asks-lt1
returns-then-asks-lt1 c =
    let asks = c.args.asks.now in
    let found = requests_at c.args.sent.now asks in
    let none : (nat_le 1 (length asks) && nat_le (length asks) 64) ≡ false = elim c.then-asks-lt1.branch [ then-asks-lt1-via-then-asks-lt1 w ↦ grind (arith, nat_tests, w.if-asks-lt1.true) | then-asks-lt1-via-else-asks-lt1+then-asks w ↦ grind (arith, nat_tests, w.if-asks.true) ] in
    outside (length asks) found (has_length c.args.sent.now asks) none

pub returns-in-Some : goal.returns-in-Some
returns-in-Some c =
    let asks = c.args.asks.now in
    let found = requests_at c.args.sent.now asks in
    within (length asks) c.in-Some.bytes found (has_length c.args.sent.now asks) (omega (arith, c.if-asks-lt1.false)) (omega (arith, c.if-asks.false)) c.in-Some.ensures.value
