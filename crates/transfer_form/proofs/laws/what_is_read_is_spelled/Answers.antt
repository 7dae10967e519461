use Rattle.transfer_form.proofs.Transfers.{ask_law, offer_law, part_law, proven_law}
use Rattle.transfer_form.proofs.laws.what_is_read_is_spelled.Goals as goal

pub returns : goal.returns
returns c = record { asks = ask_law; offers = offer_law; parts = part_law; batches = proven_law }
