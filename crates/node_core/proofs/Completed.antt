-- The text that a part completes.
use Rattle.std.proofs.Common.{◌≡◌, ℕ, Bool, true, false, List, [], ◌∷◌, Option, Some, None, is_none, Result, Ok, Err, refl, ap, sym, ◌∙◌}
use Rattle.std.specs.Option.{option_to_list}
use Rattle.smart_messages.specs.declared.message.Message.{Message}
use Rattle.smart_messages.specs.declared.message.Message.TheVariants.{StatePart}
use Rattle.transfer_form.specs.declared.transfer.StatePart.{StatePart as Part}
use Rattle.state_transfer.specs.Fetches.{completed}
use Rattle.state_transfer.specs.declared.fetch.Fetch.{Fetch}
use Rattle.node_rules.specs.Nodes.{Node}
use Rattle.node_rules.specs.Transfers.{completed_for, completed_in}

pub fetch_same : {S : Type 0} (n : Node S) (f later : Fetch) → n.fetch ≡ Some f → later ≡ f → record n { fetch = Some later } ≡ n
fetch_same {S = S} n f later stands same =
    ap (λ (x : Fetch). record n { fetch = Some x }) same ∙ sym (ap (λ (o : Option Fetch). record n { fetch = o }) stands)

pub completed_some : {S : Type 0} (n : Node S) (f : Fetch) (p : Part) (text : Option (List ℕ)) → n.fetch ≡ Some f → text ≡ completed f p → option_to_list text ≡ completed_for n.fetch p
completed_some n f p text stands is = ap (λ (o : Option (List ℕ)). option_to_list o) is ∙ sym (ap (λ (o : Option Fetch). completed_for o p) stands)

none_is : {A : Type 0} (o : Option A) → is_none o ≡ true → o ≡ None
none_is None none = refl
none_is (Some x) none = absurd (cc)

-- without a plan nothing is completed
pub completed_none : {S : Type 0} (n : Node S) (r : Result Message ℕ) → is_none n.fetch ≡ true → [] ≡ completed_in n r
completed_none n (Err at) none = refl
completed_none n (Ok (StatePart p)) none = sym (ap (λ (o : Option Fetch). completed_for o p) (none_is n.fetch none))
completed_none n (Ok m) none = refl
