use Rattle.std.proofs.Common.{List, ◌∙◌, ap, subst}
use Rattle.std.specs.HashSet.{contains}
use Rattle.std.specs.List.{list_any}
use Rattle.world_rules.specs.Premises.{Claim, claims, is_forgery, is_forged}
use Rattle.world_rules.specs.declared.message.Sent.{Sent}
use Rattle.world_ledger.specs.declared.stated.Stated.{Stated}
use Rattle.world_ledger.specs.Ledgers.{LedgerState}
use Rattle.world_ledger.specs.Statements.{same_stated, is_unsent, IsStatedIndex}
use Rattle.world_ledger.proofs.StatedLaws.{any_unsent}
use Rattle.world_ledger.proofs.ledger.Ledger.is_forged.Goals as goal

pub returns-clause-is : goal.returns-clause-is
unfolding is_forged
returns-clause-is c =
    let has = contains same_stated c.read_rest.new.stated in
    let sent = c.self.inside.sent.items in
    let index : IsStatedIndex has sent = subst (λ (xs : List Sent). IsStatedIndex has xs) c.as_slice.ensures.value c.in_ok-read_rest.ensures.all in
    c.has_unsent.ensures
    ∙ (ap (λ (xs : List Stated). list_any (is_unsent has c.args.faulty.now c.args.rogue.now) xs) c.as_slice-2.ensures.value
    ∙ (any_unsent has c.args.faulty.now c.args.rogue.now sent c.in_ok-found.found.items index
    ∙ (ap (λ (ks : List Claim). list_any (is_forgery c.args.faulty.now c.args.rogue.now sent) ks) c.in_ok-found.ensures
    ∙ ap (λ (l : LedgerState). list_any (is_forgery c.args.faulty.now c.args.rogue.now l.sent) (claims c.args.content.now)) c.self.view_is)))
