use Rattle.state_transfer.proofs.Whole.{kept_wanted, lacks_none}
use Rattle.state_transfer.proofs.laws.a_whole_fetch_lacks_no_part.Goals as goal

pub returns : goal.returns
returns c = record {
  begun = λ plan. record { wanted = tt; distinct = tt };
  kept = kept_wanted;
  whole = lacks_none;
}
