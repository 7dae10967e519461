-- Texts that a play meets, while it goes on, are among those that were met.
use Rattle.std.proofs.Common.{◌≡◌, ℕ, ◌++◌, ◌&&◌, Bool, true, false, not, cond, List, [], ◌∷◌, refl, sym, subst, inl, inr, Option, None, Some}
use Rattle.std.specs.List.{list_any}
use Rattle.std.proofs.lemmas.Bool.{or_parts}
use Rattle.smart_base.specs.Lists.{Each, same_bytes}
use Rattle.smart_keys.specs.Keys.{digest}
use Rattle.vote_book.specs.Books.{Among}
use Rattle.vote_book.proofs.Tested.{passing, same_bytes_is}
use Rattle.agreement_laws.proofs.Lists.{among_left, among_right, among_either, either, either_by, not_false}
use Rattle.smart_base.specs.Views.{View}
use Rattle.smart_statements.specs.Batches.{Batch}
use Rattle.replica_rules.specs.Replicas.{views_after}
use Rattle.world_rules.specs.Premises.{met, clash, texts_met, newly_met, marked_with, all_marked, too_many_in}
use Rattle.world_rules.specs.Worlds.{breaking, ending_few, ending_with, all_ending}
use Rattle.world_rules.specs.declared.message.Ending.{Ending}
use Rattle.world_rules.specs.declared.message.Ending.TheVariants.{Limit, Premise}
use Rattle.world_rules.specs.declared.message.Premise as premises
use Rattle.world_rules.specs.declared.message.Premise.TheVariants.{Collision, TooManyFaulty}
use Rattle.world_rules.specs.declared.message.Sent.{Sent}

-- a play in which a premise is broken has ended
pub broken : (premise : premises.Premise) (ending : Option Ending) → breaking premise ending ≡ None → ⊥
broken premise None none = cc
broken premise (Some Limit) none = cc
broken premise (Some (Premise first)) none = cc

unbroken : (t : Bool) (premise : premises.Premise) (ending : Option Ending) → cond t (breaking premise ending) ending ≡ None → (t ≡ false) × (ending ≡ None)
unbroken true premise ending none = absurd (broken premise ending none)
unbroken false premise ending none = (refl, none)

-- a play that goes on where a text is met has not clashed there, and went on before
unclashed : (clashes : Bool) (ending : Option Ending) → cond clashes (breaking Collision ending) ending ≡ None → (clashes ≡ false) × (ending ≡ None)
unclashed clashes ending none = unbroken clashes Collision ending none

-- a play that goes on where the chosen list grew went on before, and few of each of its views are faulty
pub few-goes_on : (view : View) (chosen : List Batch) (faulty : List ℕ) (ending : Option Ending) → ending_few view chosen faulty ending ≡ None → (too_many_in (views_after view chosen) faulty ≡ false) × (ending ≡ None)
few-goes_on view chosen faulty ending none = unbroken (too_many_in (views_after view chosen) faulty) TooManyFaulty ending none

-- a play that goes on where snapshots are met went on before
pub met-goes_on : (sent : List Sent) (marked : List (List ℕ)) (ending : Option Ending) (snapshots : List (List ℕ)) → all_ending sent marked ending snapshots ≡ None → ending ≡ None
met-goes_on sent marked ending [] on = on
met-goes_on sent marked ending (s ∷ ss) on =
    (unclashed (list_any (clash s) (texts_met sent marked)) ending (met-goes_on sent (marked_with sent marked s) (ending_with sent marked ending s) ss on)).1

-- a play that goes on behind a step went on before it
pub step-goes_on : (view : View) (chosen : List Batch) (faulty : List ℕ) (sent : List Sent) (marked : List (List ℕ)) (ending : Option Ending) (snapshots : List (List ℕ))
    → all_ending sent marked (ending_few view chosen faulty ending) snapshots ≡ None → ending ≡ None
step-goes_on view chosen faulty sent marked ending snapshots on =
    (few-goes_on view chosen faulty ending (met-goes_on sent marked (ending_few view chosen faulty ending) snapshots on)).1

-- what one of several passes not, none of them that is there does
none_passes : (p : List ℕ → Bool) (ts : List (List ℕ)) (t : List ℕ) → list_any p ts ≡ false → Among t ts → p t ≡ false
none_passes p [] t none there = absurd there
none_passes p (x ∷ xs) t none there =
    let parts = or_parts (p x) (list_any p xs) none in
    elim there [ inl here ↦ subst (λ (y : List ℕ). p y ≡ false) (sym here) parts.0 | inr later ↦ none_passes p xs t parts.1 later ]

-- a text that clashes with none of several and has the digest of one is that one
known : (before : List (List ℕ)) (text : List ℕ) → list_any (clash text) before ≡ false → list_any (λ other. same_bytes (digest text) (digest other)) before ≡ true → Among text before
known before text free old =
    let found = passing (λ (other : List ℕ). same_bytes (digest text) (digest other)) before old in
    let apart : clash text found.value ≡ false = none_passes (clash text) before found.value free found.there in
    let same = same_bytes_is text found.value (second (same_bytes (digest text) (digest found.value)) (same_bytes text found.value) found.passes apart) in
    subst (λ (t : List ℕ). Among t before) (sym same) found.there
  where
    second : (x y : Bool) → x ≡ true → (x && not y) ≡ false → y ≡ true
    second true true is none = refl
    second true false is none = absurd (cc)
    second false y is none = absurd (cc)

-- one more is met

one_more : (sent : List Sent) (marked : List (List ℕ)) (s text : List ℕ) → Among text (texts_met sent marked) → Among text (texts_met sent (marked ++ s ∷ []))
one_more sent marked s text is =
    elim (among_either text (met sent) marked is) [
      | inl front ↦ among_left text (met sent) (marked ++ s ∷ []) front
      | inr back ↦ among_right text (met sent) (marked ++ s ∷ []) (among_left text marked (s ∷ []) back)
    ]

more_with : (sent : List Sent) (marked : List (List ℕ)) (s text : List ℕ) → Among text (texts_met sent marked) → Among text (texts_met sent (marked_with sent marked s))
more_with sent marked s text is =
    either (λ (ts : List (List ℕ)). Among text (texts_met sent ts)) (newly_met (texts_met sent marked) s) (marked ++ s ∷ []) marked (one_more sent marked s text is) is

met_one : (sent : List Sent) (marked : List (List ℕ)) (s : List ℕ) → list_any (clash s) (texts_met sent marked) ≡ false → Among s (texts_met sent (marked_with sent marked s))
unfolding newly_met
met_one sent marked s free =
    either_by (λ (ts : List (List ℕ)). Among s (texts_met sent ts)) (newly_met (texts_met sent marked) s) (marked ++ s ∷ []) marked
    (λ new. among_right s (met sent) (marked ++ s ∷ []) (among_right s marked (s ∷ []) (inl refl)))
    (λ old. known (texts_met sent marked) s free (not_false (list_any (λ other. same_bytes (digest s) (digest other)) (texts_met sent marked)) old))

-- what was met stays so where more is
pub met-more : (sent : List Sent) (marked snapshots : List (List ℕ)) (text : List ℕ) → Among text (texts_met sent marked) → Among text (texts_met sent (all_marked sent marked snapshots))
met-more sent marked [] text is = is
met-more sent marked (s ∷ ss) text is = met-more sent (marked_with sent marked s) ss text (more_with sent marked s text is)

-- what is met while a play goes on was met then
pub all-met : (sent : List Sent) (marked : List (List ℕ)) (ending : Option Ending) (snapshots : List (List ℕ)) → all_ending sent marked ending snapshots ≡ None
    → Each (λ text. Among text (texts_met sent (all_marked sent marked snapshots))) snapshots
all-met sent marked ending [] on = tt
all-met sent marked ending (s ∷ ss) on =
    let next : List (List ℕ) = marked_with sent marked s in
    let free = (unclashed (list_any (clash s) (texts_met sent marked)) ending (met-goes_on sent next (ending_with sent marked ending s) ss on)).0 in
    (met-more sent next ss s (met_one sent marked s free), all-met sent next (ending_with sent marked ending s) ss on)
