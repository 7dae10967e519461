use Rattle.std.proofs.Common.{◌++◌, List, ℕ, ap, sym}
use Rattle.log_stream.proofs.window.Window.new.Goals as goal

pub returns : goal.returns
returns c = λ bytes. record { rest = bytes; is = ap (λ (l : List ℕ). l ++ bytes) (sym c.new.ensures) }
