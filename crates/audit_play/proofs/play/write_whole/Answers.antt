use Rattle.std.proofs.Common.{Result, Ok, Err, length, sym, subst, List, ℕ}
use Rattle.std.specs.Prelude.{OnErr}
use Rattle.std.specs.Io.KnownBytes.{Appends}
use Rattle.audit_play.proofs.Consumed.{appends-keeps, take-whole}
use Rattle.audit_play.proofs.play.write_whole.Goals as goal

on_err : {T E : Type 0} (r : Result T E) (P : Type 0) → P → OnErr r P
on_err (Ok x) P p = tt
on_err (Err e) P p = p

pub returns-in-Ok-clause-err : goal.returns-in-Ok-clause-err
returns-in-Ok-clause-err g c =
    on_err c.flush.result _ (
      length c.args.bytes.now,
      subst (λ (text : List ℕ). Appends (g.O.Sink.written c.args.output.now) (g.O.Sink.written c.flush.new.self) text) (sym (take-whole c.args.bytes.now))
          (appends-keeps _ _ _ c.args.bytes.now c.in-Ok.ensures.ok c.flush.ensures.bytes),
    )
