-- Certificates: equal statements signed by enough distinct members of a view. Also the faults of signed statements that are none.
use Rattle.std.specs.Prelude.{◌≡◌, ℕ, ◌+◌, ◌==◌, ◌≤◌, nat_le, Bool, true, false, not, ◌&&◌, List, [], ◌∷◌, ◌++◌, map, length, slice_index_or, Option, Some, None, Result, Ok, Err, if◌then◌else◌}
use Rattle.std.specs.List.{list_any}
use Rattle.smart_base.specs.Lists.{or_else, same_bytes, Each, Distinct}
use Rattle.smart_base.specs.Views.{View, weight_of, quorum, is_member}
use Rattle.smart_keys.specs.Keys.{is_tag}
use Rattle.smart_statements.specs.Equality.{same_slot, same_kind}
use Rattle.smart_statements.specs.Forms.{Form, SignedBy, party_of}
use Rattle.smart_statements.specs.Kinds.{ballots}
use Rattle.smart_statements.specs.Reports.{marks}
use Rattle.smart_statements.specs.declared.statement.Ballot.{Ballot}
use Rattle.smart_statements.specs.declared.statement.Slot.{Slot}
use Rattle.smart_statements.specs.declared.statement.VoteKind.TheVariants.{Write, Accept}
use Rattle.smart_statements.specs.declared.report.Mark.{Mark}
use Rattle.smart_view.specs.Sizes.{index_of}
use Rattle.certificates.specs.declared.fault.CertFault.{CertFault}
use Rattle.certificates.specs.declared.fault.CertFault.TheVariants.{TooFew, Stranger, Twice, Unequal, BadTag}

-- ---- signed statements of members

-- a statement whose tag is the one that its signer makes
abbrev pub is_verified : {S : Type 0} → List ℕ → Form S → SignedBy S → Bool
is_verified secret form item = is_tag secret (party_of form.kind item.signer) (form.spell item.statement) item.tag

abbrev pub signers : {S : Type 0} → List (SignedBy S) → List ℕ
signers items = map (λ item. item.signer) items

-- statements that are as wanted, verify, and are signed by distinct members of a view
pub record AreSigned (S : Type 0) (secret : List ℕ) (form : Form S) (v : View) (Wanted : S → Type 0) (items : List (SignedBy S)) : Type 0 where
  pub members : Each (λ item. is_member v item.signer ≡ true) items
  pub distinct : Distinct (signers items)
  pub stated : Each (λ item. Wanted item.statement) items
  pub verified : Each (λ item. is_verified secret form item ≡ true) items

-- the fault of a signer after earlier ones, if it has one
abbrev pub signer_fault : View → List ℕ → ℕ → Option CertFault
signer_fault v earlier signer =
    if not (is_member v signer) then Some Stranger
    else (if list_any (λ m. m == signer) earlier then Some Twice
    else None)

-- the fault of a statement, whoever signed it, if it has one
abbrev pub item_fault : {S : Type 0} → List ℕ → Form S → (S → Bool) → SignedBy S → Option CertFault
item_fault secret form is_wanted item =
    if not (is_wanted item.statement) then Some Unequal
    else (if not (is_verified secret form item) then Some BadTag
    else None)

-- the first fault of statements after those of earlier signers
abbrev pub fault_behind : {S : Type 0} → View → (SignedBy S → Option CertFault) → List ℕ → List (SignedBy S) → Option CertFault
fault_behind v fault_of earlier [] = None
fault_behind v fault_of earlier (item ∷ items) =
    or_else (signer_fault v earlier item.signer) (or_else (fault_of item)
    (fault_behind v fault_of (earlier ++ item.signer ∷ []) items))

-- the first fault of signed statements; that they are too few is told last
unfoldable pub first_fault : {S : Type 0} → View → (SignedBy S → Option CertFault) → Bool → List (SignedBy S) → Option CertFault
first_fault v fault_of are_enough items = or_else (fault_behind v fault_of [] items) (if are_enough then None else Some TooFew)

-- the answer of a check
abbrev pub passed : Option CertFault → Result (Unit {0}) CertFault
passed None = Ok tt
passed (Some fault) = Err fault

-- the number of a fault
abbrev pub code_of : CertFault → ℕ
code_of TooFew = 1
code_of Stranger = 2
code_of Twice = 3
code_of Unequal = 4
code_of BadTag = 5

-- marks at the indices of earlier signers, and at no other member's
pub record Marks (v : View) (earlier : List ℕ) (marks : List Bool) : Type 0 where
  pub at : (m i : ℕ) → index_of v m ≡ Some i → slice_index_or marks i false ≡ list_any (λ x. x == m) earlier

-- ---- votes

-- votes of one kind for one digest in one slot
abbrev pub same_ballot : Ballot → Ballot → Bool
same_ballot a b = same_kind a.kind b.kind && same_slot a.slot b.slot && same_bytes a.digest b.digest

-- a certificate: the wanted vote, signed by a quorum
abbrev pub IsCertificate : List ℕ → View → Ballot → List (SignedBy Ballot) → Type 0
IsCertificate secret v wanted votes = AreSigned Ballot secret ballots v (λ b. b ≡ wanted) votes × (quorum v ≤ weight_of v (signers votes))

-- the first fault of votes that are no certificate of the wanted vote
abbrev pub votes_fault : List ℕ → View → Ballot → List (SignedBy Ballot) → Option CertFault
votes_fault secret v wanted votes =
    first_fault v (item_fault secret ballots (λ b. same_ballot b wanted)) (nat_le (quorum v) (weight_of v (signers votes))) votes

abbrev pub write_of : Slot → List ℕ → Ballot
write_of slot digest = record { kind = Write; slot = slot; digest = digest }

abbrev pub accept_of : Slot → List ℕ → Ballot
accept_of slot digest = record { kind = Accept; slot = slot; digest = digest }

-- a write certificate: a quorum's WRITEs for a digest in a slot (Mod-SMaRt, EDCC 2012)
abbrev pub IsWriteCertificate : List ℕ → View → Slot → List ℕ → List (SignedBy Ballot) → Type 0
IsWriteCertificate secret v slot digest votes = IsCertificate secret v (write_of slot digest) votes

-- a decision proof: a quorum's ACCEPTs for a digest in a slot (Mod-SMaRt, EDCC 2012)
abbrev pub IsDecisionProof : List ℕ → View → Slot → List ℕ → List (SignedBy Ballot) → Type 0
IsDecisionProof secret v slot digest votes = IsCertificate secret v (accept_of slot digest) votes

-- ---- marks

-- marks of one digest at one place
abbrev pub same_mark : Mark → Mark → Bool
same_mark a b = (a.place == b.place) && same_bytes a.digest b.digest

abbrev pub mark_of : ℕ → List ℕ → Mark
mark_of place digest = record { place = place; digest = digest }

-- a certificate of marks: more than f members marked a digest at a place
abbrev pub IsMarkCertificate : List ℕ → View → ℕ → List ℕ → List (SignedBy Mark) → Type 0
IsMarkCertificate secret v place digest items =
    AreSigned Mark secret marks v (λ m. m ≡ mark_of place digest) items × (v.f + 1 ≤ length items)

-- the first fault of marks that are no certificate of a digest at a place
abbrev pub marks_fault : List ℕ → View → ℕ → List ℕ → List (SignedBy Mark) → Option CertFault
marks_fault secret v place digest items =
    first_fault v (item_fault secret marks (λ m. same_mark m (mark_of place digest))) (nat_le (v.f + 1) (length items)) items
