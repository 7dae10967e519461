-- What a node keeps of what members exchange to take over a replica.
use Rattle.std.proofs.Common.{◌≡◌, Bool, false, ◌||◌, refl, ap, sym, ◌∙◌, Option, Some, None, is_some, option_map}
use Rattle.std.proofs.Math.Bool.{or-false}
use Rattle.smart_messages.specs.declared.message.Message.{Message}
use Rattle.smart_messages.specs.declared.message.Message.TheVariants.{StateAsk, StatePart}
use Rattle.transfer_form.specs.declared.transfer.StateAsk.{StateAsk as Asking}
use Rattle.transfer_form.specs.declared.transfer.StatePart.{StatePart as Part}
use Rattle.state_transfer.specs.Fetches.{part_fault}
use Rattle.state_transfer.specs.Fetches as fetches
use Rattle.state_transfer.specs.declared.fetch.Fetch.{Fetch}
use Rattle.state_transfer.specs.declared.fetch.Ignored.{Ignored}
use Rattle.node_rules.specs.Nodes.{Node}
use Rattle.node_rules.specs.Arrivals.{why_ignored, part_why, why_part, noted, kept}
use Rattle.node_rules.specs.declared.node.Why.{Why}
use Rattle.node_judging.specs.Arriving.{kept_unless}

-- nothing of an ask is kept
pub ask_kept : {S : Type 0} (n : Node S) (a : Asking) (why : Option Why) → kept_unless why n (StateAsk a) ≡ n
unfolding kept
ask_kept n a None = refl
ask_kept n a (Some why) = refl

-- a part tells a node nothing of being behind
pub part_noted : {S : Type 0} (n : Node S) (p : Part) → noted n (StatePart p) ≡ n
unfolding noted
part_noted {S = S} n p = ap (λ (b : Bool). record n { behind = b }) (or-false n.behind)

none_mapped : (o : Option Ignored) → option_map why_ignored o ≡ None → o ≡ None
none_mapped None is = refl
none_mapped (Some x) is = absurd (cc)

no_fault : {S : Type 0} (n : Node S) (p : Part) (f : Fetch) → n.fetch ≡ Some f → why_part n p ≡ None → part_fault f p ≡ None
unfolding why_part
no_fault n p f stands none = none_mapped (part_fault f p) (sym (ap (λ (o : Option Fetch). part_why o p) stands) ∙ none)

-- a part that is not dropped is one more of the plan's
pub part_kept : {S : Type 0} (n : Node S) (p : Part) (f later : Fetch) (why : Option Why) → why ≡ why_part n p → why ≡ None → n.fetch ≡ Some f → later ≡ fetches.kept_unless (part_fault f p) f p
    → record n { fetch = Some later } ≡ kept n (StatePart p)
unfolding kept
part_kept {S = S} n p f later why is none stands same =
    let whole : later ≡ fetches.kept_unless None f p = same ∙ ap (λ (o : Option Ignored). fetches.kept_unless o f p) (no_fault n p f stands (sym is ∙ none)) in
    ap (λ (x : Fetch). record n { fetch = Some x }) whole
    ∙ sym (ap (λ (o : Option Fetch). record n { fetch = option_map (λ (x : Fetch). fetches.kept_unless None x p) o }) stands)

none_of : {A : Type 0} (o : Option A) → is_some o ≡ false → o ≡ None
none_of None none = refl
none_of (Some x) none = absurd (cc)

pub part_where : {S : Type 0} (n inside : Node S) (p : Part) (f later : Fetch) (why : Option Why) → inside ≡ n → inside.fetch ≡ Some f → why ≡ why_part n p → is_some why ≡ false
    → later ≡ fetches.kept_unless (part_fault f p) f p → record inside { fetch = Some later } ≡ kept (noted n (StatePart p)) (StatePart p)
part_where {S = S} n inside p f later why same stands is none grown =
    part_kept inside p f later why (is ∙ sym (ap (λ (x : Node S). why_part x p) same)) (none_of why none) stands grown
    ∙ (ap (λ (x : Node S). kept x (StatePart p)) same ∙ sym (ap (λ (x : Node S). kept x (StatePart p)) (part_noted n p)))

-- without a plan each part is dropped
pub part_absent : {S : Type 0} (n : Node S) (p : Part) (why : Option Why) → why ≡ why_part n p → why ≡ None → n.fetch ≡ None → ⊥
unfolding why_part
part_absent n p why is none absent = let no : part_why n.fetch p ≡ None = sym is ∙ none in let some = ap (λ (o : Option Fetch). part_why o p) absent in absurd (cc)
