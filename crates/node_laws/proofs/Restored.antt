-- What a book shows without its node: a sound node's book does, each front of it, and where more has been stated.
use Rattle.std.proofs.Common.{Bool, List, None, Some, ap, append-nil, arith, cond, drop, false, inl, inr, length, max, nat_lt, refl, subst, suc, sym, take, zero, ℕ, ⊎_elim, ◌≡◌, ◌⊎◌, ◌<◌, ◌∙◌, ◌+◌, ◌++◌, ◌∷◌, [], append_assoc}
use Rattle.std.proofs.lemmas.Bool.{lt-ltb}
use Rattle.std.proofs.lemmas.List.Elements.{filter_map-append}
use Rattle.std.specs.List.{cons_option}
use Rattle.std.proofs.lemmas.List.{take-append-drop}
use Rattle.std.proofs.Math.Seq.{take-append_seam}
use Rattle.agreement_laws.specs.Statements.{Statement}
use Rattle.node_rules.specs.Nodes.{Node}
use Rattle.node_rules.specs.Reopening.{batch_past, decided_of}
use Rattle.agreement_laws.specs.Fronts.{IsFront}
use Rattle.smart_statements.specs.Batches.{Batch}
use Rattle.vote_book.specs.declared.entry.Decision.{Decision}
use Rattle.vote_book.specs.declared.entry.LogEntry.TheVariants.{Decided}
use Rattle.smart_base.specs.Views.{View}
use Rattle.vote_book.proofs.Growth.{recounts}
use Rattle.vote_book.proofs.Tidy.{front_lawful, front_tidy}
use Rattle.vote_book.specs.Books.{Lawful, last_made}
use Rattle.vote_book.specs.Tidy.{IsTidy}
use Rattle.vote_book.specs.declared.entry.LogEntry.{LogEntry}
use Rattle.node_laws.proofs.Books.{ranged_of}
use Rattle.node_laws.proofs.More.{backed_in_more, has_more}
use Rattle.node_laws.specs.Restored.{IsSoundBook}
use Rattle.node_laws.specs.Sound.{AreAmong, AreRanged, AreRangedPast, HasBatch, IsBackedIn, IsBegun, IsSound}
use Rattle.agreement_laws.proofs.Lists.{each_take}
use Rattle.smart_base.proofs.ViewFacts.{each-weaken}

pub ranged_first : (views : List View) (opening : ℕ) (entries : List LogEntry) → opening ≡ 0 → AreRangedPast opening views entries → AreRanged views entries
ranged_first views opening entries first ranged before e after split =
    ranged_of views (max opening (last_made before) + 1) (last_made before + 1) before before e (omega (arith, first)) (λ k upto. omega arith) (λ p there. there) (ranged before e after split)

-- a node that began with the empty replica
pub book_sound : {S : Type 0} (stated : List Statement) (view : View) (n : Node S) → IsSound stated view n → n.opening ≡ 0 → IsSoundBook n.secret stated n.replica.views n.entries
book_sound stated view n is first = record {
  begun = inr is.begun;
  lawful = subst (λ (k : ℕ). Lawful k 0 n.entries) first (recounts n.opening n.restored 0 n.entries (λ k within less. absurd (omega (arith, less))) is.lawful);
  tidy = is.tidy;
  ranged = ranged_first n.replica.views n.opening n.entries first is.ranged;
  backed = is.backed;
  batches = is.batches;
}

-- ---- fronts

front_ranged : (views : List View) (front rest : List LogEntry) → AreRanged views (front ++ rest) → AreRanged views front
front_ranged views front rest ranged before entry after split =
    ranged before entry (after ++ rest) (ap (λ (es : List LogEntry). es ++ rest) split ∙ append_assoc before (entry ∷ after) rest)

front_begun : (k : ℕ) (entries : List LogEntry) → (entries ≡ []) ⊎ IsBegun entries → (take k entries ≡ []) ⊎ IsBegun (take k entries)
front_begun zero entries begun = inl refl
front_begun (suc k) [] begun = inl refl
front_begun (suc k) (e ∷ es) begun = ⊎_elim (λ (none : e ∷ es ≡ []). absurd (cc)) (λ is. inr is) begun

pub front_sound : (secret : List ℕ) (stated : List Statement) (views : List View) (entries : List LogEntry) (k : ℕ) → IsSoundBook secret stated views entries
    → IsSoundBook secret stated views (take k entries)
front_sound secret stated views entries k is =
    let whole : entries ≡ take k entries ++ drop k entries = sym (take-append-drop k entries) in
    record {
      begun = front_begun k entries is.begun;
      lawful = front_lawful 0 0 (take k entries) (drop k entries) (subst (λ (es : List LogEntry). Lawful 0 0 es) whole is.lawful);
      tidy = front_tidy (take k entries) (drop k entries) (subst IsTidy whole is.tidy);
      ranged = front_ranged views (take k entries) (drop k entries) (subst (λ (es : List LogEntry). AreRanged views es) whole is.ranged);
      backed = each_take (IsBackedIn secret views stated) k entries is.backed;
      batches = each_take (HasBatch secret stated) k entries is.batches;
    }

-- a list is the front of itself and what stands behind it
pub front_of : (secret : List ℕ) (stated : List Statement) (views : List View) (front rest : List LogEntry) → IsSoundBook secret stated views (front ++ rest)
    → IsSoundBook secret stated views front
front_of secret stated views front rest is =
    subst (λ (es : List LogEntry). IsSoundBook secret stated views es) (take-append_seam front rest) (front_sound secret stated views (front ++ rest) (length front) is)

-- ---- what a front decides

pub decided_append : (past : ℕ) (front rest : List LogEntry) → decided_of past (front ++ rest) ≡ decided_of past front ++ decided_of past rest
decided_append past front rest = filter_map-append (batch_past past) front rest

pub front_decided : (past : ℕ) (entries : List LogEntry) (k : ℕ) → IsFront (decided_of past (take k entries)) (decided_of past entries)
front_decided past entries k = record {
  rest = decided_of past (drop k entries);
  is = ap (decided_of past) (sym (take-append-drop k entries)) ∙ decided_append past (take k entries) (drop k entries);
}

-- an entry that decides nothing leaves the decided batches
pub decided_none : (past : ℕ) (es : List LogEntry) (e : LogEntry) → decided_of past (e ∷ []) ≡ [] → decided_of past (es ++ e ∷ []) ≡ decided_of past es
decided_none past es e none =
    decided_append past es (e ∷ []) ∙ (ap (λ (bs : List Batch). decided_of past es ++ bs) none ∙ append-nil (decided_of past es))

-- a decision past the place gives its batch
pub decided_here : (past : ℕ) (d : Decision) (es : List LogEntry) → past < d.slot.place → decided_of past (Decided d ∷ es) ≡ d.batch ∷ decided_of past es
decided_here past d es more =
    ap (λ (b : Bool). cons_option (cond b (Some d.batch) None) (decided_of past es)) (lt-ltb past d.slot.place more)

-- a decision up to the place gives none
pub decided_low : (past : ℕ) (d : Decision) (es : List LogEntry) → nat_lt past d.slot.place ≡ false → decided_of past (Decided d ∷ es) ≡ decided_of past es
decided_low past d es low = ap (λ (b : Bool). cons_option (cond b (Some d.batch) None) (decided_of past es)) low

-- a decision past the place gives its batch at the end
pub decided_last : (past : ℕ) (es : List LogEntry) (d : Decision) → past < d.slot.place → decided_of past (es ++ Decided d ∷ []) ≡ decided_of past es ++ d.batch ∷ []
decided_last past es d more =
    decided_append past es (Decided d ∷ []) ∙ ap (λ (bs : List Batch). decided_of past es ++ bs) (decided_here past d [] more)

-- ---- more is stated

pub book_more : (stated more : List Statement) → AreAmong stated more → (secret : List ℕ) (views : List View) (entries : List LogEntry) → IsSoundBook secret stated views entries
    → IsSoundBook secret more views entries
book_more stated more grows_to secret views entries is = record {
  begun = is.begun;
  lawful = is.lawful;
  tidy = is.tidy;
  ranged = is.ranged;
  backed = each-weaken (IsBackedIn secret views stated) (IsBackedIn secret views more) (backed_in_more stated more grows_to secret views) entries is.backed;
  batches = each-weaken (HasBatch secret stated) (HasBatch secret more) (has_more stated more grows_to secret) entries is.batches;
}
