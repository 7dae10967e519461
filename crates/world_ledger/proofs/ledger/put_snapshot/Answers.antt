use Rattle.std.proofs.Common.{nat_eq}
use Rattle.std.specs.Cmp.Lexicographic.{pointwise}
use Rattle.std.specs.HashMap.{get}
use Rattle.world_rules.specs.Premises.{texts_met}
use Rattle.world_ledger.proofs.LedgerLaws.{index-same, index-snapshot}
use Rattle.world_ledger.proofs.StatedLaws.{on_err}
use Rattle.world_ledger.proofs.ledger.put_snapshot.Goals as goal

pub returns-in_err-put_text-clause-err : goal.returns-in_err-put_text-clause-err
returns-in_err-put_text-clause-err c =
    on_err c.from_residual.result _
    (λ has read sent marked index. record {
      texts = index-same (get (pointwise nat_eq) c.args.texts.now) (get (pointwise nat_eq) c.put_text.new.index) (texts_met sent marked) index.texts c.in_err-put_text.ensures.err;
      statements = index.statements;
      few = index.few;
    })

pub returns-clause-ok : goal.returns-clause-ok
returns-clause-ok c =
    λ has read sent marked new index. record {
      texts = index-snapshot (get (pointwise nat_eq) c.args.texts.now) (get (pointwise nat_eq) c.put_text.new.index) sent marked c.args.snapshot.now index.texts new c.in_ok-put_text.ensures.ok;
      statements = index.statements;
      few = index.few;
    }
