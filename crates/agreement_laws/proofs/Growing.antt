-- What is witnessed stays so as members turn faulty, as more is stated, and as diaries grow.
use Rattle.std.proofs.Common.{◌≡◌, ⊎_elim, ℕ, zero, suc, ◌≤◌, Bool, true, false, List, [], ◌∷◌, ◌++◌, take, refl, ap, ◌∙◌, append_assoc, arith}
use Rattle.smart_base.specs.Lists.{Each}
use Rattle.smart_base.specs.Views.{View}
use Rattle.smart_base.specs.declared.party.Party.TheVariants.{Member}
use Rattle.smart_statements.specs.Forms.{SignedBy}
use Rattle.smart_statements.specs.Batches.{Batch}
use Rattle.smart_statements.specs.declared.statement.Slot.{Slot}
use Rattle.smart_statements.specs.declared.statement.VoteKind.{VoteKind}
use Rattle.smart_statements.specs.declared.statement.VoteKind.TheVariants.{Write, Accept}
use Rattle.smart_statements.specs.declared.statement.Ballot.{Ballot}
use Rattle.vote_book.specs.declared.entry.Start.{Start}
use Rattle.vote_book.specs.declared.entry.Installation.{Installation}
use Rattle.vote_book.specs.declared.entry.LogEntry.{LogEntry}
use Rattle.vote_book.specs.declared.entry.LogEntry.TheVariants as entries
use Rattle.vote_book.specs.Books.{Among, last_made, Lawful}
use Rattle.regency_sync.proofs.Lists.{each_as}
use Rattle.agreement_laws.specs.Fronts.{IsFront}
use Rattle.agreement_laws.specs.Statements.{Statement, Voted, Reported, Marked, Replied, Informed, signer_of, within, verifies}
use Rattle.agreement_laws.specs.Diaries.{HasReached, HasVoted, IsShown}
use Rattle.agreement_laws.specs.Certificates.{IsDrawn, IsChosen, IsTaken, IsBacked}
use Rattle.agreement_laws.specs.Law.{IsCorrect, FewFaulty, Witnessed}
use Rattle.agreement_laws.proofs.Lists.{among_left, among_either}

-- ---- fronts

-- more of a list, be it longer
pub take-longer : {A : Type 0} (n k : ℕ) (xs more : List A) → n ≤ k → IsFront (take n xs) (take k (xs ++ more))
take-longer zero k xs more le = record { rest = take k (xs ++ more); is = refl }
take-longer (suc n) zero xs more le = absurd (omega (arith, le))
take-longer (suc n) (suc k) [] more le = record { rest = take (suc k) more; is = refl }
take-longer (suc n) (suc k) (x ∷ xs) more le =
    let longer = take-longer n k xs more (omega (arith, le)) in
    record { rest = longer.rest; is = ap (λ ys. x ∷ ys) longer.is }

-- ---- what a diary shows, a longer one shows

last-more : (book more : List LogEntry) → last_made book ≤ last_made (book ++ more)
last-more [] more = omega arith
last-more (e ∷ es) more = let rest = last-more es more in omega (arith, rest)

pub HasReached-more : (book more : List LogEntry) (place : ℕ) → HasReached book place → HasReached (book ++ more) place
HasReached-more book more place reached = let longer = last-more book more in omega (arith, reached, longer)

pub HasVoted-more : (book more : List LogEntry) (kind : VoteKind) (slot : Slot) (digest : List ℕ) → HasVoted book kind slot digest → HasVoted (book ++ more) kind slot digest
HasVoted-more book more Write slot digest voted = among_left (entries.Wrote (record { slot = slot; digest = digest })) book more voted
HasVoted-more book more Accept slot digest voted = record {
  entry = voted.entry;
  there = among_left (entries.Accepted voted.entry) book more voted.there;
  slot_is = voted.slot_is;
  digest_is = voted.digest_is;
}

pub IsShown-more : (digest_of : Batch → List ℕ) (book more : List LogEntry) (statement : Statement) → IsShown digest_of book statement
    → IsShown digest_of (book ++ more) statement
IsShown-more digest_of book more (Voted b) shown = HasVoted-more book more b.statement.kind b.statement.slot b.statement.digest shown
IsShown-more digest_of book more (Reported r) shown = record {
  before = shown.before;
  after = shown.after ++ more;
  split = ap (λ (es : List LogEntry). es ++ more) shown.split
      ∙ append_assoc shown.before (entries.Promised (record { view = r.statement.view; regency = r.statement.regency }) ∷ shown.after) more;
  reports = shown.reports;
}
IsShown-more digest_of book more (Marked m) shown = among_left (entries.Marked m.statement) book more shown
IsShown-more digest_of book more (Replied a) shown = HasReached-more book more a.statement.place shown
IsShown-more digest_of book more (Informed i) shown = let longer = last-more book more in omega (arith, shown, longer)
IsShown-more digest_of book more _ shown = tt

pub IsShown-front : (digest_of : Batch → List ℕ) (front whole : List LogEntry) (statement : Statement) → IsFront front whole → IsShown digest_of front statement
    → IsShown digest_of whole statement
IsShown-front digest_of front whole statement is shown = rw is.is (IsShown-more digest_of front is.rest statement shown)

-- ---- what has been stated stays so

pub IsDrawn-more : (secret : List ℕ) (view : View) (stated more : List Statement) (wanted : Ballot) (votes : List (SignedBy Ballot)) → IsDrawn secret view stated wanted votes
    → IsDrawn secret view (stated ++ more) wanted votes
IsDrawn-more secret view stated more wanted votes drawn = record {
  holds = drawn.holds;
  drawn = each_as (λ b. Among (Voted b) stated) (λ b. Among (Voted b) (stated ++ more)) (λ b there. among_left (Voted b) stated more there) votes drawn.drawn;
}

pub IsChosen-more : (secret : List ℕ) (view : View) (stated more : List Statement) (start : Start) → IsChosen secret view stated start
    → IsChosen secret view (stated ++ more) start
IsChosen-more secret view stated more start chosen = record {
  items = chosen.items;
  collect = chosen.collect;
  drawn = each_as (λ r. Among (Reported r) stated) (λ r. Among (Reported r) (stated ++ more)) (λ r there. among_left (Reported r) stated more there) chosen.items chosen.drawn;
  choice_is = chosen.choice_is;
}

pub IsTaken-more : (secret : List ℕ) (view : View) (stated more : List Statement) (i : Installation) → IsTaken secret view stated i → IsTaken secret view (stated ++ more) i
IsTaken-more secret view stated more i taken = record {
  holds = taken.holds;
  drawn = each_as (λ m. Among (Marked m) stated) (λ m. Among (Marked m) (stated ++ more)) (λ m there. among_left (Marked m) stated more there) i.marks taken.drawn;
}

pub IsBacked-more : (secret : List ℕ) (digest_of : Batch → List ℕ) (view : View) (stated more : List Statement) (entry : LogEntry)
    → IsBacked secret digest_of view stated entry → IsBacked secret digest_of view (stated ++ more) entry
IsBacked-more secret digest_of view stated more (entries.Accepted a) backed = λ of_view. IsDrawn-more secret view stated more _ a.writes (backed of_view)
IsBacked-more secret digest_of view stated more (entries.Synced s) backed = λ of_view some. IsChosen-more secret view stated more s (backed of_view some)
IsBacked-more secret digest_of view stated more (entries.Decided d) backed = λ of_view. IsDrawn-more secret view stated more _ d.accepts (backed of_view)
IsBacked-more secret digest_of view stated more (entries.Opened o) backed = tt
IsBacked-more secret digest_of view stated more (entries.Wrote w) backed = tt
IsBacked-more secret digest_of view stated more (entries.Promised p) backed = tt
IsBacked-more secret digest_of view stated more (entries.Installed i) backed = λ of_view. IsTaken-more secret view stated more i (backed of_view)
IsBacked-more secret digest_of view stated more (entries.Marked m) backed = tt

pub all_backed-more : (secret : List ℕ) (digest_of : Batch → List ℕ) (view : View) (stated more : List Statement) (book : List LogEntry)
    → Each (IsBacked secret digest_of view stated) book → Each (IsBacked secret digest_of view (stated ++ more)) book
all_backed-more secret digest_of view stated more book backed =
    each_as (IsBacked secret digest_of view stated) (IsBacked secret digest_of view (stated ++ more)) (IsBacked-more secret digest_of view stated more) book backed

-- ---- what is witnessed

module _ (secret : List ℕ) (digest_of : Batch → List ℕ) (view : View) (faulty : ℕ → Bool) (diary : ℕ → List LogEntry) where
  -- as long as nothing has been stated
  pub Witnessed-begun : FewFaulty view faulty → ((member : ℕ) → IsCorrect view faulty member → Lawful 0 0 (diary member))
      → ((member : ℕ) → IsCorrect view faulty member → Each (IsBacked secret digest_of view []) (diary member)) → Witnessed secret digest_of view faulty diary []
  Witnessed-begun few lawful backed = record {
    few = few;
    lawful = lawful;
    backed = backed;
    shown = λ member correct statement there signed. absurd there;
    closed = λ statement part there inside verified. absurd there;
  }

  -- more is stated: what correct members state is shown, and what stands in it is stated
  pub Witnessed-stated : (stated more : List Statement) → Witnessed secret digest_of view faulty diary stated
      → ((member : ℕ) → IsCorrect view faulty member → (statement : Statement) → Among statement more → signer_of statement ≡ Member member
      → IsShown digest_of (diary member) statement)
      → ((statement part : Statement) → Among statement more → Among part (within statement) → verifies secret part ≡ true → Among part (stated ++ more))
      → Witnessed secret digest_of view faulty diary (stated ++ more)
  Witnessed-stated stated more known shown closed = record {
    few = known.few;
    lawful = known.lawful;
    backed = λ member correct. all_backed-more secret digest_of view stated more (diary member) (known.backed member correct);
    shown = λ member correct statement there signed.
        ⊎_elim (λ old. known.shown member correct statement old signed) (λ new. shown member correct statement new signed) (among_either statement stated more there);
    closed = λ statement part there inside verified.
        ⊎_elim (λ old. among_left part stated more (known.closed statement part old inside verified)) (λ new. closed statement part new inside verified)
        (among_either statement stated more there);
  }

  -- diaries grow, and what they gain is lawful and backed
  pub Witnessed-diary : (longer : ℕ → List LogEntry) (stated : List Statement) → Witnessed secret digest_of view faulty diary stated
      → ((member : ℕ) → IsCorrect view faulty member → IsFront (diary member) (longer member))
      → ((member : ℕ) → IsCorrect view faulty member → Lawful 0 0 (longer member))
      → ((member : ℕ) → IsCorrect view faulty member → Each (IsBacked secret digest_of view stated) (longer member))
      → Witnessed secret digest_of view faulty longer stated
  Witnessed-diary longer stated known front lawful backed = record {
    few = known.few;
    lawful = lawful;
    backed = backed;
    shown = λ member correct statement there signed.
        IsShown-front digest_of (diary member) (longer member) statement (front member correct) (known.shown member correct statement there signed);
    closed = known.closed;
  }

  -- members turn faulty, no more than f
  pub Witnessed-faulty : (more : ℕ → Bool) (stated : List Statement) → Witnessed secret digest_of view faulty diary stated → FewFaulty view more
      → ((member : ℕ) → more member ≡ false → faulty member ≡ false) → Witnessed secret digest_of view more diary stated
  Witnessed-faulty more stated known few fewer = record {
    few = few;
    lawful = λ member correct. known.lawful member (was member correct);
    backed = λ member correct. known.backed member (was member correct);
    shown = λ member correct. known.shown member (was member correct);
    closed = known.closed;
  }
    where
      was : (member : ℕ) → IsCorrect view more member → IsCorrect view faulty member
      was member correct = record { within = correct.within; correct = fewer member correct.correct }
