-- Kinds of statements, and statements with their signers and tags.
use Rattle.std.specs.Prelude.{ℕ, List, ◌==◌, if◌then◌else◌}
use Rattle.smart_base.specs.Cuts.{Cut, Read}
use Rattle.smart_base.specs.Spelling.{member_kind}
use Rattle.smart_base.specs.declared.party.Party.{Party}
use Rattle.smart_base.specs.declared.party.Party.TheVariants.{Member, Client}

-- A kind of statement: the kind of its signers, the bytes of a statement, and how one is read for a signer's number.
pub record Form (S : Type 0) : Type 0 where
  pub kind : ℕ
  pub spell : S → List ℕ
  pub read : ℕ → Cut → Read S

-- a signed statement: its signer's number, the statement, and the tag over its bytes
pub record SignedBy (S : Type 0) : Type 0 where
  pub signer : ℕ
  pub statement : S
  pub tag : List ℕ

-- the least number of a kind of signer: members count from 1, clients from 0
abbrev pub least_signer : ℕ → ℕ
least_signer kind = if kind == member_kind then 1 else 0

abbrev pub party_of : ℕ → ℕ → Party
party_of kind number = if kind == member_kind then Member number else Client number
