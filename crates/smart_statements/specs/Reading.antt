-- The reading of each statement.
use Rattle.std.specs.Prelude.{ℕ, List, Ok, nat_le, ◌==◌, ◌||◌, if◌then◌else◌}
use Rattle.std.specs.Int.{w8, w16, w32, w64}
use Rattle.smart_base.specs.Cuts.{Cut, Read, ◌>>=◌, ranged, number_at, sized_at, times_at, limited}
use Rattle.smart_base.specs.Fields.{kind_at, same_at, count_at, items_at, digest_at, tag_at, payload_at}
use Rattle.smart_base.specs.declared.limits.TheConstants.{BATCH_BYTES, BATCH_REQUESTS}
use Rattle.smart_statements.specs.Forms.{Form, SignedBy, least_signer}
use Rattle.smart_statements.specs.declared.statement.Slot.{Slot}
use Rattle.smart_statements.specs.declared.statement.VoteKind.{VoteKind}
use Rattle.smart_statements.specs.declared.statement.VoteKind.TheVariants.{Write, Accept}
use Rattle.smart_statements.specs.declared.statement.Request.{Request}
use Rattle.smart_statements.specs.declared.statement.Proposal.{Proposal}
use Rattle.smart_statements.specs.declared.statement.Ballot.{Ballot}
use Rattle.smart_statements.specs.declared.statement.Answer.{Answer}

unfoldable pub slot_at : Cut → Read Slot
slot_at c = do
  v ← number_at w32 c
  p ← count_at v.1
  r ← number_at w32 p.1
  Ok (record { view = v.0; place = p.0; regency = r.0 }, r.1)

unfoldable pub proposal_at : ℕ → Cut → Read Proposal
proposal_at signer c = do
  k ← kind_at 1 c
  s ← slot_at k.1
  d ← digest_at s.1
  Ok (record { slot = s.0; digest = d.0 }, d.1)

abbrev pub vote_kind_of : ℕ → VoteKind
vote_kind_of k = if k == 2 then Write else Accept

abbrev pub vote_kind_at : Cut → Read ℕ
vote_kind_at = ranged (λ b. b == 2 || b == 3) (number_at w8)

unfoldable pub ballot_at : ℕ → Cut → Read Ballot
ballot_at signer c = do
  k ← vote_kind_at c
  s ← slot_at k.1
  d ← digest_at s.1
  Ok (record { kind = vote_kind_of k.0; slot = s.0; digest = d.0 }, d.1)

unfoldable pub answer_at : ℕ → Cut → Read Answer
answer_at signer c = do
  k ← kind_at 8 c
  v ← number_at w32 k.1
  p ← count_at v.1
  x ← number_at w16 p.1
  i ← number_at w16 x.1
  s ← count_at i.1
  r ← payload_at s.1
  Ok (record { view = v.0; place = p.0; index = x.0; client = i.0; seq = s.0; reply = r.0 }, r.1)

unfoldable pub request_at : ℕ → Cut → Read Request
request_at signer c = do
  k ← kind_at 9 c
  i ← same_at signer k.1
  s ← count_at i.1
  a ← number_at w64 s.1
  o ← payload_at a.1
  Ok (record { client = i.0; seq = s.0; after = a.0; op = o.0 }, o.1)

-- a signer's number is read
abbrev pub signer_at : ℕ → Cut → Read ℕ
signer_at kind = ranged (λ i. nat_le (least_signer kind) i) (number_at w16)

unfoldable pub signed_at : {S : Type 0} → Form S → Cut → Read (SignedBy S)
signed_at f c = do
  k ← kind_at f.kind c
  i ← signer_at f.kind k.1
  s ← sized_at (f.read i.0) i.1
  t ← tag_at s.1
  Ok (record { signer = i.0; statement = s.0; tag = t.0 }, t.1)

-- 1 to 64 requests are read
unfoldable pub requests_at : Form Request → Cut → Read (List (SignedBy Request))
requests_at f c = do
  n ← items_at BATCH_REQUESTS c
  times_at (signed_at f) n.0 n.1

unfoldable pub batch_at : Form Request → Cut → Read (List (SignedBy Request))
batch_at f = limited BATCH_BYTES (requests_at f)
