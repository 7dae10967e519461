use Rattle.std.proofs.Common.{nat_eq}
use Rattle.std.specs.Cmp.Lexicographic.{pointwise}
use Rattle.std.specs.HashMap.{get}
use Rattle.world_rules.specs.Premises.{texts_met}
use Rattle.world_ledger.proofs.LedgerLaws.{index-same, index-more}
use Rattle.world_ledger.proofs.StatedLaws.{on_err, stated-front, few-more}
use Rattle.world_ledger.proofs.ledger.put_message.Goals as goal

pub returns-in_err-put_batch-clause-err : goal.returns-in_err-put_batch-clause-err
returns-in_err-put_batch-clause-err c =
    on_err c.from_residual.result _
    (λ has read before marked index. record {
      texts = index-same (get (pointwise nat_eq) c.args.texts.now) (get (pointwise nat_eq) c.put_batch.new.index) (texts_met before marked) index.texts c.in_err-put_batch.ensures.err;
      statements = index.statements;
      few = index.few;
    })

pub returns-clause-ok : goal.returns-clause-ok
returns-clause-ok c =
    λ has read before marked free index. record {
      texts = index-more (get (pointwise nat_eq) c.args.texts.now) (get (pointwise nat_eq) c.put_batch.new.index) before marked c.args.sent.now index.texts free c.in_ok-put_batch.ensures.ok;
      statements = stated-front has read before c.args.sent.now index.few index.statements;
      few = few-more read before c.args.sent.now index.few;
    }
