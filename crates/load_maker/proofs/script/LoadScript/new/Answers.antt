use Rattle.load_maker.proofs.Turning.{whole}
use Rattle.load_maker.proofs.script.LoadScript.new.Goals as goal

pub returns : goal.returns
returns c = whole c.args.count
