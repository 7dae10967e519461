-- An index of the statements that their signers have sent.
use Rattle.std.specs.Prelude.{◌≡◌, ℕ, Bool, not, ◌&&◌, List, if◌then◌else◌, nat_eq}
use Rattle.std.specs.Bool.{beq}
use Rattle.std.specs.Cmp.Lexicographic.{pointwise}
use Rattle.smart_base.specs.declared.party.Party.TheVariants.{Member, Client}
use Rattle.world_rules.specs.Premises.{Claim, is_from, is_stated, is_excused}
use Rattle.world_rules.specs.declared.message.Origin.{Origin}
use Rattle.world_rules.specs.declared.message.Sent.{Sent}
use Rattle.world_ledger.specs.declared.stated.Stated.{Stated}

-- a statement as the index keeps it
abbrev pub claim_of : Stated → Claim
claim_of s = record { signer = if s.is_member then Member s.number else Client s.number; bytes = s.bytes.items }

-- what `==` returns
abbrev pub same_stated : Stated → Stated → Bool
same_stated a b = beq a.is_member b.is_member && (nat_eq a.number b.number && pointwise nat_eq a.bytes.items b.bytes.items)

-- its sender has signed it
abbrev pub is_own : Origin → Claim → Bool
is_own origin c = is_from c.signer origin

-- An index has a statement where its signer has sent it, and no other.
pub record IsStatedIndex (has : Stated → Bool) (sent : List Sent) : Type 0 where
  pub exact : (s : Stated) → has s ≡ is_stated sent (claim_of s)

-- a statement that an index does not have, and for which its signer is not excused
abbrev pub is_unsent : (Stated → Bool) → List ℕ → List ℕ → Stated → Bool
is_unsent has faulty rogue s = not (is_excused faulty rogue (claim_of s).signer) && not (has s)
