-- A node along the list: its replica is the state at its place of the list, and what its member has written decides the list's batches.
use Rattle.std.proofs.Common.{◌≡◌, ℕ, zero, suc, ◌<◌, ◌≤◌, ◌∙◌, List, length, take, refl, ap, sym, arith, subst, Option, Some, None}
use Rattle.std.specs.Prelude.{IfSome}
use Rattle.smart_base.specs.Views.{View}
use Rattle.smart_statements.specs.Batches.{Batch}
use Rattle.smart_service.specs.Services.{Meaning}
use Rattle.vote_book.specs.Books.{Among, HasMade, last_made, latest_made}
use Rattle.vote_book.specs.declared.entry.LogEntry.{LogEntry}
use Rattle.vote_book.specs.declared.entry.LogEntry.TheVariants.{Decided}
use Rattle.book_laws.specs.BookCuts.{cut_at}
use Rattle.replica_rules.specs.Replicas.{batch_at, state}
use Rattle.agreement_laws.specs.Statements.{Statement}
use Rattle.node_rules.specs.Nodes.{Node, decided_place, next_place}
use Rattle.node_laws.specs.Restored.{IsSoundBook}
use Rattle.node_laws.specs.Restoring.{AreAlong}
use Rattle.node_laws.specs.Sound.{HasDecided, IsSound, place_if}
use Rattle.node_laws.proofs.Cuts.{cut_latest, place_low}
use Rattle.node_laws.proofs.Reopened.{latest_is}
use Rattle.book_laws.proofs.CutEntries.{cut_among}
use Rattle.world_laws.proofs.Fronts.{front-length, front-take}

-- a node whose replica is the state at its place of a list
pub record IsAt {S : Type 0} (m : Meaning S) (view : View) (chosen : List Batch) (n : Node S) : Type 0 where
  pub reached : n.replica.place ≤ length chosen
  pub replica : n.replica ≡ state m view (take n.replica.place chosen)

-- it is so along a longer list
pub at_longer : {S : Type 0} (m : Meaning S) (view : View) (chosen more : List Batch) (n : Node S) → take (length chosen) more ≡ chosen → IsAt m view chosen n → IsAt m view more n
at_longer m view chosen more n front is =
    let long = front-length chosen more front in
    let reached = is.reached in
    record {
      reached = omega (arith, long, reached);
      replica = is.replica ∙ ap (λ (bs : List Batch). state m view bs) (front-take chosen more n.replica.place front is.reached);
    }

-- ---- the last place

one_place : (a b : ℕ) → place_if a ≡ place_if b → a ≡ b
one_place zero zero same = refl
one_place zero (suc b) same = absurd (cc)
one_place (suc a) zero same = absurd (cc)
one_place (suc a) (suc b) same = cc

-- the last place that all that was written makes is the last that the node has decided
pub whole_last : {S : Type 0} (secret : List ℕ) (stated : List Statement) (view : View) (views : List View) (whole : List LogEntry) (n : Node S) → IsSoundBook secret stated views whole → IsSound stated view n
    → n.entries ≡ cut_at n.opening whole → last_made whole ≡ decided_place n
whole_last secret stated view views whole n book sound cut =
    one_place (last_made whole) (decided_place n)
    (sym (latest_is secret stated views whole book) ∙ (sym (cut_latest n.opening whole) ∙ (ap (λ (es : List LogEntry). latest_made es) (sym cut) ∙ sound.latest)))

-- a place that was made is no later than the last
pub made_low : (place : ℕ) (d : List LogEntry) → (0 < place → HasMade d place) → place ≤ last_made d
made_low place d made = place_low place d made

-- ---- what waits

-- a batch that waits is decided at the next place of what was written
waits_decided : (entries whole : List LogEntry) (opening place : ℕ) (waiting : Option Batch) (batch : Batch) → entries ≡ cut_at opening whole → waiting ≡ Some batch → IfSome waiting (HasDecided entries place)
    → HasDecided whole place batch
waits_decided entries whole opening place None batch cut at is = absurd (cc)
waits_decided entries whole opening place (Some x) batch cut at is = record {
  decision = is.decision;
  there = cut_among opening whole (Decided is.decision) (subst (λ (es : List LogEntry). Among (Decided is.decision) es) cut is.there);
  place_is = is.place_is;
  batch_is = is.batch_is ∙ cc;
}

pub waiting_decided : {S : Type 0} (stated : List Statement) (view : View) (whole : List LogEntry) (n : Node S) (batch : Batch) → IsSound stated view n → n.entries ≡ cut_at n.opening whole → n.waiting ≡ Some batch
    → HasDecided whole (next_place n) batch
waiting_decided stated view whole n batch sound cut at = waits_decided n.entries whole n.opening (next_place n) n.waiting batch cut at sound.waiting

-- what entries along a list decide at a place is the list's there
pub decided_at : (chosen : List Batch) (entries : List LogEntry) (place : ℕ) (batch : Batch) → AreAlong chosen entries → HasDecided entries place batch → batch_at chosen place ≡ Some batch
decided_at chosen entries place batch along is =
    ap (λ (k : ℕ). batch_at chosen k) (sym is.place_is) ∙ (along.decided is.decision is.there ∙ ap (λ (b : Batch). Some b) is.batch_is)
