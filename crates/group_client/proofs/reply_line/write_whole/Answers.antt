use Rattle.group_client.proofs.Told.{wrote-front}
use Rattle.group_client.proofs.reply_line.write_whole.Goals as goal

pub returns-in-Err-flush-clause-err : goal.returns-in-Err-flush-clause-err
returns-in-Err-flush-clause-err g c =
    let written = g.W.Sink.written in
    wrote-front (written c.args.output.now) (written c.write_all.new.sink) (written c.flush.new.self) c.args.bytes.now c.in_default.ensures.ok c.flush.ensures.bytes
