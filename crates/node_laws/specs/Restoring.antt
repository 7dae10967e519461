-- What entries rest on, in terms of certificates, and what makes restored bytes damaged.
use Rattle.std.specs.Prelude.{◌≡◌, ℕ, ◌+◌, ◌<◌, ◌≤◌, ◌⊎◌, true, false, List, [], ◌∷◌, ◌++◌, length, take, Option, None, Some, Result, Ok, Err}
use Rattle.smart_base.specs.Views.{View}
use Rattle.certificates.specs.Certificates.{IsWriteCertificate, IsDecisionProof, IsMarkCertificate}
use Rattle.vote_book.specs.Books.{Admits, Among, last_made}
use Rattle.book_laws.specs.BookCuts.{cut_at}
use Rattle.vote_book.specs.Entries.{entry_decoded}
use Rattle.vote_book.specs.declared.entry.Accept.{Accept}
use Rattle.vote_book.specs.declared.entry.Decision.{Decision}
use Rattle.vote_book.specs.declared.entry.Installation.{Installation}
use Rattle.vote_book.specs.declared.entry.LogEntry.{LogEntry}
use Rattle.vote_book.specs.declared.entry.LogEntry.TheVariants.{Opened, Wrote, Accepted, Promised, Synced, Decided, Installed, Marked}
use Rattle.smart_statements.specs.Batches.{Batch}
use Rattle.smart_service.specs.Services.{Meaning}
use Rattle.replica_rules.specs.Replicas.{batch_at, Managed, state}
use Rattle.replica_rules.specs.Seals.{digest_of}
use Rattle.node_rules.specs.Arrivals.{is_batch_for}
use Rattle.node_rules.specs.Nodes.{Node}
use Rattle.node_rules.specs.Reopening.{is_opening, damaged, decided_of, entries_in, judging, known_behind, rests, stopped}
use Rattle.node_rules.specs.Steps.{Outset, outset}
use Rattle.node_rules.specs.declared.node.OwnSnapshot.{OwnSnapshot}

-- ---- what an entry rests on

-- an accept in a view with its write certificate, for a batch that may stand at its place
pub record IsWritten (secret : List ℕ) (view : View) (a : Accept) : Type 0 where
  pub of_view : a.slot.view ≡ view.number
  pub writes : IsWriteCertificate secret view a.slot a.digest a.writes
  pub batch : is_batch_for secret a.slot.place a.digest a.batch ≡ true

-- a decision in a view with a quorum's ACCEPTs, for a batch that may stand at its place
pub record IsProven (secret : List ℕ) (view : View) (d : Decision) : Type 0 where
  pub of_view : d.slot.view ≡ view.number
  pub accepts : IsDecisionProof secret view d.slot (digest_of d.batch) d.accepts
  pub batch : is_batch_for secret d.slot.place (digest_of d.batch) d.batch ≡ true

-- an installation in a view, which more than f members certify
pub record IsMarked (secret : List ℕ) (view : View) (i : Installation) : Type 0 where
  pub of_view : i.view ≡ view.number
  pub marks : IsMarkCertificate secret view i.place i.digest i.marks

-- an entry with its evidence: an accept has its write certificate, a decision its proof, and an installation its marks; others need none
abbrev pub IsCertified : List ℕ → View → LogEntry → Type 0
IsCertified secret view (Opened o) = Unit {0}
IsCertified secret view (Wrote w) = Unit {0}
IsCertified secret view (Accepted a) = IsWritten secret view a
IsCertified secret view (Promised p) = Unit {0}
IsCertified secret view (Synced s) = Unit {0}
IsCertified secret view (Decided d) = IsProven secret view d
IsCertified secret view (Installed i) = IsMarked secret view i
IsCertified secret view (Marked m) = Unit {0}

-- an entry with its evidence in the view of some known ones that has to judge it
pub record IsCertifiedIn (secret : List ℕ) (views : List View) (entry : LogEntry) : Type 0 where
  pub view : View
  pub judges : judging views entry ≡ Some view
  pub certified : IsCertified secret view entry

-- entries behind others, each with its evidence by the views that those before it make
abbrev pub AreCertified : List ℕ → ℕ → Managed → List LogEntry → List LogEntry → Type 0
AreCertified secret opening g before [] = Unit {0}
AreCertified secret opening g before (e ∷ es) = IsCertifiedIn secret (known_behind opening g before) e × AreCertified secret opening g (before ++ e ∷ []) es

-- the same by the test
abbrev pub AreRested : List ℕ → ℕ → Managed → List LogEntry → List LogEntry → Type 0
AreRested secret opening g before [] = Unit {0}
AreRested secret opening g before (e ∷ es) = (rests secret (known_behind opening g before) e ≡ true) × AreRested secret opening g (before ++ e ∷ []) es

-- ---- what is damaged

-- The reason for which bytes may not be restored after entries, by what they are read as. They are no entry. Or they are first and no
-- opening. Or the entry may not stand after those entries, in a book with this opening's place. Or it lacks its evidence.
abbrev pub IsDamage : List ℕ → ℕ → Managed → List LogEntry → Result LogEntry ℕ → Type 0
IsDamage secret opening g before (Err at) = Unit {0}
IsDamage secret opening g before (Ok e) =
    ((before ≡ []) × (is_opening e ≡ false)) ⊎ ((Admits opening (length before + 1) before e → ⊥) ⊎ (IsCertifiedIn secret (known_behind opening g before) e → ⊥))

-- the number, from 1, of the first damaged entry among restored bytes; none of those before it is damaged
pub record IsFirstDamage (secret : List ℕ) (opening : ℕ) (g : Managed) (restored : List (List ℕ)) (number : ℕ) : Type 0 where
  pub front : List (List ℕ)
  pub bytes : List ℕ
  pub behind : List (List ℕ)
  pub split : restored ≡ front ++ bytes ∷ behind
  pub numbered : number ≡ length front + 1
  pub undamaged : damaged secret opening g front ≡ None
  pub damage : IsDamage secret opening g (entries_in front) (entry_decoded bytes)

-- ---- the order of decisions

-- entries that decide one place after the other, from the place behind an opening's; decisions up to that place tell nothing
abbrev pub DecidesInTurn : ℕ → List LogEntry → Type 0
DecidesInTurn past entries =
    (before : List LogEntry) (d : Decision) (after : List LogEntry) → entries ≡ before ++ Decided d ∷ after → past < d.slot.place
    → d.slot.place ≡ past + length (decided_of past before) + 1

-- ---- a checkpoint

-- A list of batches along which entries decide: each decision is the list's at its place, and no place is made past its end.
pub record AreAlong (batches : List Batch) (entries : List LogEntry) : Type 0 where
  pub decided : (d : Decision) → Among (Decided d) entries → batch_at batches d.slot.place ≡ Some d.batch
  pub reached : last_made entries ≤ length batches

-- what a member begins from whose checkpoint is at a place of a list of batches, with the snapshot of it
abbrev pub outset_behind : {S : Type 0} → Meaning S → List ℕ → ℕ → View → ℕ → ℕ → List Batch → Option OwnSnapshot → Outset S
outset_behind m secret id view period place batches checkpoint =
    record { member = id; secret = secret; period = period; replica = state m view (take place batches); checkpoint = checkpoint }

-- The node that goes on over a checkpoint of a place and the cut of entries behind it. Its replica is the state after the list's batches up to
-- the last place that they make.
abbrev pub resumed_node : {S : Type 0} → Meaning S → List ℕ → ℕ → View → ℕ → ℕ → List Batch → Option OwnSnapshot → List LogEntry → Node S
resumed_node m secret id view period place batches checkpoint entries =
    record (stopped (outset m secret id view period)) {
      opening = place;
      checkpoint = checkpoint;
      entries = cut_at place entries;
      replica = state m view (take (last_made entries) batches);
      restored = length (cut_at place entries);
      firm = length (cut_at place entries);
    }
