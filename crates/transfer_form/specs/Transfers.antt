-- What members exchange so that one takes over a replica: the bytes of each, and how they are read.
use Rattle.std.specs.Prelude.{◌≡◌, ℕ, ◌<◌, ◌≤◌, ◌^◌, nat_lt, nat_le, List, ◌++◌, length, Ok}
use Rattle.std.specs.List.{flat_map, AllByRecursion}
use Rattle.std.specs.Int.{w16, w32, w64}
use Rattle.smart_base.specs.Cuts.{Cut, Read, ◌>>=◌, ranged, number_at, times_at}
use Rattle.smart_base.specs.Fields.{count_at, text_to}
use Rattle.smart_base.specs.Spelling.{u16, u32, u64, behind, IsCount}
use Rattle.smart_base.specs.declared.limits.TheConstants.{MARKS, PIECE_BYTES}
use Rattle.smart_statements.specs.Forms.{SignedBy}
use Rattle.smart_statements.specs.Kinds.{requests}
use Rattle.smart_statements.specs.Batches.{batch_text, FitsBatch}
use Rattle.smart_statements.specs.Spelling.{FitsSigned}
use Rattle.smart_statements.specs.Reading.{signed_at, batch_at}
use Rattle.smart_statements.specs.SignedLists.{listed, FitsList, list_at}
use Rattle.smart_statements.specs.Reports.{votes_of, FitsVote, marks, FitsMark}
use Rattle.smart_statements.specs.declared.report.Mark.{Mark}
use Rattle.smart_statements.specs.declared.statement.VoteKind.TheVariants.{Accept}
use Rattle.transfer_form.specs.declared.transfer.StateAsk.{StateAsk}
use Rattle.transfer_form.specs.declared.transfer.StateOffer.{StateOffer}
use Rattle.transfer_form.specs.declared.transfer.StatePart.{StatePart}
use Rattle.transfer_form.specs.declared.transfer.ProvenBatch.{ProvenBatch}

-- ---- fields

-- the numbers of members: from 1
abbrev pub IsMember : ℕ → Type 0
IsMember n = (1 ≤ n) × (n < 2 ^ 16)

abbrev pub member_at : Cut → Read ℕ
member_at = ranged (λ n. nat_le 1 n) (number_at w16)

-- a place, or 0
abbrev pub IsPlace : ℕ → Type 0
IsPlace n = n < 2 ^ 63

abbrev pub place_at : Cut → Read ℕ
place_at = ranged (λ n. nat_lt n (2 ^ 63)) (number_at w64)

-- how many marks an offer has
abbrev pub few_at : Cut → Read ℕ
few_at = ranged (λ n. nat_le n MARKS) (number_at w16)

-- the marks of an offer: at most 64
abbrev pub FitsFew : List (SignedBy Mark) → Type 0
FitsFew ms = (length ms ≤ MARKS) × AllByRecursion (FitsSigned marks (λ signer. FitsMark)) ms

unfoldable pub few_marks_at : Cut → Read (List (SignedBy Mark))
few_marks_at c = do
  n ← few_at c
  times_at (signed_at marks) n.0 n.1

-- a piece of a snapshot
abbrev pub piece_at : Cut → Read (List ℕ)
piece_at = text_to PIECE_BYTES

-- ---- asks

-- the bytes of a member's ask for others' state
abbrev pub ask_text : StateAsk → List ℕ
ask_text a = u16 a.member ++ (u64 a.place ++ u64 a.fetch)

pub record FitsAsk (a : StateAsk) : Type 0 where
  pub member_fits : IsMember a.member
  pub place_fits : IsPlace a.place
  pub fetch_fits : IsPlace a.fetch

unfoldable pub ask_at : Cut → Read StateAsk
ask_at c = do
  m ← member_at c
  p ← place_at m.1
  f ← place_at p.1
  Ok (record { member = m.0; place = p.0; fetch = f.0 }, f.1)

-- ---- offers

-- the bytes of an offer
abbrev pub offer_text : StateOffer → List ℕ
offer_text o = u16 o.member ++ (u64 o.place ++ (u32 o.size ++ listed marks o.marks))

pub record FitsOffer (o : StateOffer) : Type 0 where
  pub member_fits : IsMember o.member
  pub place_fits : IsPlace o.place
  pub size_fits : o.size < 2 ^ 32
  pub marks_fit : FitsFew o.marks

unfoldable pub offer_at : Cut → Read StateOffer
offer_at c = do
  m ← member_at c
  p ← place_at m.1
  s ← number_at w32 p.1
  l ← few_marks_at s.1
  Ok (record { member = m.0; place = p.0; size = s.0; marks = l.0 }, l.1)

-- ---- parts

-- the bytes of a part of a snapshot
abbrev pub part_text : StatePart → List ℕ
part_text p = u64 p.place ++ (u32 p.index ++ (u32 p.total ++ behind w32 p.bytes))

pub record FitsPart (p : StatePart) : Type 0 where
  pub place_fits : IsCount p.place
  pub index_fits : p.index < 2 ^ 32
  pub total_fits : p.total < 2 ^ 32
  pub bytes_fit : length p.bytes ≤ PIECE_BYTES

unfoldable pub part_at : Cut → Read StatePart
part_at c = do
  p ← count_at c
  i ← number_at w32 p.1
  t ← number_at w32 i.1
  b ← piece_at t.1
  Ok (record { place = p.0; index = i.0; total = t.0; bytes = b.0 }, b.1)

-- ---- decided batches

-- the bytes of a decided batch with the ACCEPTs that prove it
abbrev pub proven_text : ProvenBatch → List ℕ
proven_text d = u64 d.place ++ (batch_text d.batch ++ listed (votes_of Accept) d.accepts)

pub record FitsProven (d : ProvenBatch) : Type 0 where
  pub place_fits : IsCount d.place
  pub batch_fits : FitsBatch d.batch
  pub accepts_fit : FitsList (votes_of Accept) (λ signer. FitsVote Accept) d.accepts

unfoldable pub proven_at : Cut → Read ProvenBatch
proven_at c = do
  p ← count_at c
  b ← batch_at requests p.1
  a ← list_at (votes_of Accept) b.1
  Ok (record { place = p.0; batch = b.0; accepts = a.0 }, a.1)
