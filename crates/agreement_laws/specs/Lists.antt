-- Lists of batches, each of which is decided at its place.
use Rattle.std.specs.Prelude.{◌≡◌, ℕ, ◌+◌, List, [], ◌∷◌, ◌++◌, length}
use Rattle.smart_base.specs.Views.{View}
use Rattle.smart_statements.specs.Forms.{SignedBy}
use Rattle.smart_statements.specs.Batches.{Batch}
use Rattle.smart_statements.specs.declared.statement.Ballot.{Ballot}
use Rattle.vote_book.specs.Books.{Among}
use Rattle.agreement_laws.specs.Statements.{Statement}
use Rattle.agreement_laws.specs.Certificates.{IsDecision}

-- a decision among what has been stated: a quorum of the view has accepted the batch of a digest at a place, in some regency
pub record Certified (secret : List ℕ) (stated : List Statement) (view : View) (place : ℕ) (digest : List ℕ) : Type 0 where
  pub regency : ℕ
  pub accepts : List (SignedBy Ballot)
  pub decision : IsDecision secret view stated place regency digest accepts

-- a digest that is certified for the place behind a front, in the view that the batches of the front make
abbrev pub IsNextOf : List ℕ → List Statement → (List Batch → View) → List ℕ → List Batch → Type 0
IsNextOf secret stated view_after digest front = Certified secret stated (view_after front) (length front + 1) digest

-- batches behind a front, each of which is certified for its place
abbrev pub AllCertified : List ℕ → (Batch → List ℕ) → List Statement → (List Batch → View) → List Batch → List Batch → Type 0
AllCertified secret digest_of stated view_after front [] = Unit {0}
AllCertified secret digest_of stated view_after front (batch ∷ batches) =
    IsNextOf secret stated view_after (digest_of batch) front × AllCertified secret digest_of stated view_after (front ++ batch ∷ []) batches

-- two lists in which batches of one digest are one batch
pub record Exact (digest_of : Batch → List ℕ) (left right : List Batch) : Type 0 where
  pub one : (a b : Batch) → Among a left → Among b right → digest_of a ≡ digest_of b → a ≡ b
