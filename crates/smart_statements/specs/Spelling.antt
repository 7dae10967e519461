-- The bytes of each statement, and which statements have bytes.
use Rattle.std.specs.Prelude.{◌≡◌, ℕ, ◌<◌, ◌≤◌, ◌^◌, List, ◌++◌, length}
use Rattle.std.specs.Int.{w16, w32}
use Rattle.smart_base.specs.Spelling.{u8, u16, u32, u64, behind, IsCount, IsTag, IsPayload}
use Rattle.smart_statements.specs.Forms.{Form, SignedBy, least_signer}
use Rattle.smart_statements.specs.declared.statement.Slot.{Slot}
use Rattle.smart_statements.specs.declared.statement.VoteKind.{VoteKind}
use Rattle.smart_statements.specs.declared.statement.VoteKind.TheVariants.{Write, Accept}
use Rattle.smart_statements.specs.declared.statement.Request.{Request}
use Rattle.smart_statements.specs.declared.statement.Proposal.{Proposal}
use Rattle.smart_statements.specs.declared.statement.Ballot.{Ballot}
use Rattle.smart_statements.specs.declared.statement.Answer.{Answer}

-- ---- the spelling

abbrev pub slot : Slot → List ℕ
slot s = u32 s.view ++ (u64 s.place ++ u32 s.regency)

abbrev pub proposal : Proposal → List ℕ
proposal p = u8 1 ++ (slot p.slot ++ p.digest)

abbrev pub vote_kind : VoteKind → ℕ
vote_kind Write = 2
vote_kind Accept = 3

abbrev pub ballot : Ballot → List ℕ
ballot b = u8 (vote_kind b.kind) ++ (slot b.slot ++ b.digest)

abbrev pub answer : Answer → List ℕ
answer a = u8 8 ++ (u32 a.view ++ (u64 a.place ++ (u16 a.index ++ (u16 a.client ++ (u64 a.seq ++ behind w32 a.reply)))))

abbrev pub request : Request → List ℕ
request r = u8 9 ++ (u16 r.client ++ (u64 r.seq ++ (u64 r.after ++ behind w32 r.op)))

abbrev pub signed : {S : Type 0} → Form S → SignedBy S → List ℕ
signed f s = u8 f.kind ++ (u16 s.signer ++ (behind w32 (f.spell s.statement) ++ behind w16 s.tag))

-- ---- which statements have one

pub record FitsSlot (s : Slot) : Type 0 where
  pub view_fits : s.view < 2 ^ 32
  pub place_fits : IsCount s.place
  pub regency_fits : s.regency < 2 ^ 32

pub record FitsProposal (p : Proposal) : Type 0 where
  pub slot_fits : FitsSlot p.slot
  pub digest_fits : length p.digest ≡ 32

pub record FitsBallot (b : Ballot) : Type 0 where
  pub slot_fits : FitsSlot b.slot
  pub digest_fits : length b.digest ≡ 32

pub record FitsAnswer (a : Answer) : Type 0 where
  pub view_fits : a.view < 2 ^ 32
  pub place_fits : IsCount a.place
  pub index_fits : a.index < 2 ^ 16
  pub client_fits : a.client < 2 ^ 16
  pub seq_fits : IsCount a.seq
  pub reply_fits : IsPayload a.reply

-- a request that has bytes; its client is its signer
pub record FitsRequest (signer : ℕ) (r : Request) : Type 0 where
  pub client_is : r.client ≡ signer
  pub client_fits : r.client < 2 ^ 16
  pub seq_fits : IsCount r.seq
  pub after_fits : r.after < 2 ^ 64
  pub op_fits : IsPayload r.op

abbrev pub IsSigner : ℕ → ℕ → Type 0
IsSigner kind number = (least_signer kind ≤ number) × (number < 2 ^ 16)

pub record FitsSigned {S : Type 0} (f : Form S) (fits : ℕ → S → Type 0) (s : SignedBy S) : Type 0 where
  pub signer_fits : IsSigner f.kind s.signer
  pub statement_fits : fits s.signer s.statement
  pub text_fits : length (f.spell s.statement) < 2 ^ 32
  pub tag_fits : IsTag s.tag
