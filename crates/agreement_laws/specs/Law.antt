-- The premises of agreement: what it asks of a view's members, and of everything that has been stated, by whomever.
use Rattle.std.specs.Prelude.{ℕ, ◌+◌, ◌*◌, ◌≡◌, ◌≤◌, Bool, true, false, List, length, filter}
use Rattle.smart_base.specs.Lists.{Each}
use Rattle.smart_base.specs.Views.{View, is_member}
use Rattle.smart_base.specs.declared.party.Party.TheVariants.{Member}
use Rattle.smart_statements.specs.Batches.{Batch}
use Rattle.vote_book.specs.declared.entry.LogEntry.{LogEntry}
use Rattle.vote_book.specs.Books.{Among, Lawful}
use Rattle.agreement_laws.specs.Statements.{Statement, signer_of, IsClosed}
use Rattle.agreement_laws.specs.Diaries.{IsShown}
use Rattle.agreement_laws.specs.Certificates.{IsBacked}

-- a correct member: a member of the view that is not faulty
pub record IsCorrect (view : View) (faulty : ℕ → Bool) (member : ℕ) : Type 0 where
  pub within : is_member view member ≡ true
  pub correct : faulty member ≡ false

-- a view with at least 3f+1 members, of which at most f are faulty
pub record FewFaulty (view : View) (faulty : ℕ → Bool) : Type 0 where
  pub room : 3 * view.f + 1 ≤ length view.members
  pub few : length (filter faulty view.members) ≤ view.f

-- Statements that diaries witness. At most f members of the view are faulty. The diary of each correct member is lawful: it is what no
-- crash takes from its book. It rests on what has been stated, and shows what the member has stated. What stands in a statement has been
-- stated too. Faulty members may state anything. Any function may name the batches.
pub record Witnessed (secret : List ℕ) (digest_of : Batch → List ℕ) (view : View) (faulty : ℕ → Bool) (diary : ℕ → List LogEntry) (stated : List Statement)
    : Type 0 where
  pub few : FewFaulty view faulty
  pub lawful : (member : ℕ) → IsCorrect view faulty member → Lawful 0 0 (diary member)
  pub backed : (member : ℕ) → IsCorrect view faulty member → Each (IsBacked secret digest_of view stated) (diary member)
  pub shown : (member : ℕ) → IsCorrect view faulty member →
      (statement : Statement) → Among statement stated → signer_of statement ≡ Member member → IsShown digest_of (diary member) statement
  pub closed : IsClosed secret stated
