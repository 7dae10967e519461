-- What a ledger has, and its indexes: of texts by their digests, and of the statements that their signers have sent.
use Rattle.std.specs.Prelude.{◌≡◌, ◌≤◌, ℕ, ◌⊎◌, Bool, List, [], ◌∷◌, Option, Some, cond, nat_eq, length, take}
use Rattle.std.specs.Cmp.Lexicographic.{pointwise}
use Rattle.smart_base.specs.Lists.{Each}
use Rattle.smart_keys.specs.Keys.{digest}
use Rattle.world_rules.specs.Premises.{texts_met}
use Rattle.world_rules.specs.declared.message.Sent.{Sent}
use Rattle.world_ledger.specs.declared.stated.Stated.{Stated}
use Rattle.world_ledger.specs.Statements.{IsStatedIndex}

-- what a ledger has: the messages that were sent, and the snapshots that were met
pub record LedgerState : Type 0 where
  pub sent : List Sent
  pub marked : List (List ℕ)

-- a text that is one of several, under its digest
abbrev pub IsTextOf : List ℕ → List ℕ → List (List ℕ) → Type 0
IsTextOf key text [] = ⊥
IsTextOf key text (t ∷ ts) = ((digest t ≡ key) × (t ≡ text)) ⊎ IsTextOf key text ts

-- An index of texts by their digests. So no two different ones have one digest.
pub record IsIndex (index : List ℕ → Option (List ℕ)) (texts : List (List ℕ)) : Type 0 where
  -- each text stands under its digest
  pub stands : Each (λ t. index (digest t) ≡ Some t) texts
  -- what stands under a digest is one of the texts
  pub comes : (key text : List ℕ) → index key ≡ Some text → IsTextOf key text texts

-- an index with more texts
abbrev pub indexed : (List ℕ → Option (List ℕ)) → List (List ℕ) → List ℕ → Option (List ℕ)
indexed index [] key = index key
indexed index (t ∷ ts) key = indexed (λ d. cond (pointwise nat_eq (digest t) d) (Some t) (index d)) ts key

-- The indexes of messages and snapshots. Statements are indexed of the messages that were read: the first ones.
pub record IsIndexed (index : List ℕ → Option (List ℕ)) (has : Stated → Bool) (read : ℕ) (sent : List Sent) (marked : List (List ℕ)) : Type 0 where
  pub texts : IsIndex index (texts_met sent marked)
  pub statements : IsStatedIndex has (take read sent)
  pub few : read ≤ length sent
