-- What stands in a message, and of that what its signer has tagged.
use Rattle.std.specs.Prelude.{List, [], ◌∷◌, if◌then◌else◌}
use Rattle.std.specs.List.{flat_map}
use Rattle.smart_keys.specs.Keys.{is_tag}
use Rattle.smart_messages.specs.declared.message.Sealed.{Sealed}
use Rattle.world_rules.specs.Secrets.{group_secret}
use Rattle.world_rules.specs.Premises.{Claim}

-- a statement whose tag is the one that its signer makes. Any other is none
abbrev pub claims_of : Sealed → List Claim
claims_of s = if is_tag group_secret s.who s.text s.tag then record { signer = s.who; bytes = s.text } ∷ [] else []

abbrev pub claims_by : List Sealed → List Claim
claims_by items = flat_map claims_of items
