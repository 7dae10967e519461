-- What names a batch that may stand at a place, and when two batches are one.
use Rattle.std.proofs.Common.{◌≡◌, ℕ, Bool, true, false, ◌&&◌, cond, List, Some, None, refl, ap, sym, ◌∙◌}
use Rattle.std.proofs.lemmas.Bool.{and_parts}
use Rattle.smart_base.specs.Lists.{same_bytes}
use Rattle.smart_statements.specs.Batches.{Batch, FitsBatch, batch_text}
use Rattle.smart_statements.proofs.Batches.{batch_is}
use Rattle.vote_book.specs.declared.entry.Accept.{Accept}
use Rattle.vote_book.proofs.Tested.{same_bytes_is, same_bytes_self}
use Rattle.replica_rules.specs.Seals.{digest_of, fits}
use Rattle.node_rules.specs.Arrivals.{is_batch_for}
use Rattle.node_restart.specs.Restarts.{named_for, IsSound}

and_as : (a b : Bool) → b ≡ true → (a && b) ≡ a
and_as true b is = is
and_as false b is = refl

-- a batch that may stand at a place is the one of its own digest
own : (secret : List ℕ) (place : ℕ) (batch : Batch) → is_batch_for secret place (digest_of batch) batch ≡ fits secret batch place
unfolding is_batch_for
own secret place batch = and_as (fits secret batch place) (same_bytes (digest_of batch) (digest_of batch)) (same_bytes_self (digest_of batch))

pub named : (secret : List ℕ) (place : ℕ) (batch : Batch) (digest : List ℕ) → Some digest ≡ named_for secret place batch → (digest ≡ digest_of batch) × (is_batch_for secret place (digest_of batch) batch ≡ true)
named secret place batch digest is = by (fits secret batch place) (own secret place batch) is
  where
    by : (t : Bool) → is_batch_for secret place (digest_of batch) batch ≡ t → Some digest ≡ cond t (Some (digest_of batch)) None → (digest ≡ digest_of batch) × (is_batch_for secret place (digest_of batch) batch ≡ true)
    by true stands is = (cc, stands)
    by false stands is = absurd (cc)

pub unnamed : (secret : List ℕ) (place : ℕ) (batch : Batch) → None ≡ named_for secret place batch → is_batch_for secret place (digest_of batch) batch ≡ false
unnamed secret place batch is = by (fits secret batch place) (own secret place batch) is
  where
    by : (t : Bool) → is_batch_for secret place (digest_of batch) batch ≡ t → None ≡ cond t (Some (digest_of batch)) None → is_batch_for secret place (digest_of batch) batch ≡ false
    by true stands is = absurd (cc)
    by false stands is = stands

-- batches are one by their bytes, and an accept names its own

pub is_one : (a b : Batch) → FitsBatch a → FitsBatch b → same_bytes (batch_text a) (batch_text b) ≡ true → a ≡ b
is_one a b fits_a fits_b same = batch_is a b fits_a fits_b (same_bytes_is (batch_text a) (batch_text b) same)

named_by : (secret : List ℕ) (a : Accept) → is_batch_for secret a.slot.place a.digest a.batch ≡ true → Some a.digest ≡ named_for secret a.slot.place a.batch
unfolding is_batch_for
named_by secret a stands =
    let parts = and_parts (fits secret a.batch a.slot.place) (same_bytes (digest_of a.batch) a.digest) stands in
    let digest : digest_of a.batch ≡ a.digest = same_bytes_is (digest_of a.batch) a.digest parts.1 in
    ap (λ (d : List ℕ). Some d) (sym digest) ∙ sym (ap (λ (t : Bool). cond t (Some (digest_of a.batch)) None) parts.0)

pub named_so : (secret : List ℕ) (a : Accept) (place : ℕ) (batch : Batch) → IsSound secret a → (a.slot.place ≡ place) × (a.batch ≡ batch) → Some a.digest ≡ named_for secret place batch
named_so secret a place batch sound is = rw (← is.0, ← is.1) (named_by secret a sound.stands)
