use Rattle.std.proofs.Common.{arith, ap, ◌∙◌, sym}
use Rattle.std.proofs.lemmas.Bool.Decides.{nat_tests}
use Rattle.std.specs.Str.{bytes_eq}
use Rattle.app_kv.proofs.Places.{missing_past, missing_other}
use Rattle.app_kv.proofs.store.place_of.Goals as goal

pub returns-then-at-entries-clause-missing : goal.returns-then-at-entries-clause-missing
returns-then-at-entries-clause-missing c =
    missing_past c.args.entries.now c.args.key.now c.entries_before-at.result c.entries_before-at.ensures.place c.if-at-entries.true

pub returns-else-eq-clause-missing : goal.returns-else-eq-clause-missing
returns-else-eq-clause-missing c =
    missing_other c.args.entries.now c.args.key.now c.entries_before-at.result c.entries_before-at.ensures.place c.index-entries-at.result c.requires
    (grind (arith, nat_tests, c.entries_before-at.ensures.within, c.if-at-entries.false))
    (ap (bytes_eq c.args.key.now) (sym c.as_slice.ensures) ∙ sym c.eq.ensures ∙ c.if-eq.false)
