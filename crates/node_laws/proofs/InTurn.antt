-- Entries that may be restored decide one place after the other.
use Rattle.std.proofs.Common.{Bool, List, None, Option, Some, ap, append-nil, append_assoc, arith, false, inl, inr, length, length-append, max, nat_le, nat_lt, not, refl, subst, sym, true, ℕ, ◌≡◌, ◌⊎◌, ◌≤◌, ◌<◌, ◌∙◌, ◌+◌, ◌++◌, ◌∷◌, [], ◌||◌}
use Rattle.std.proofs.lemmas.Bool.{ltb-false, ltb-true}
use Rattle.node_rules.specs.Reopening.{decided_of}
use Rattle.node_laws.proofs.Restored.{decided_last, decided_low, decided_none}
use Rattle.node_laws.specs.Restoring.{DecidesInTurn}
use Rattle.smart_base.specs.Lists.{or_else}
use Rattle.smart_statements.specs.Batches.{Batch}
use Rattle.vote_book.proofs.Last.{latest_push}
use Rattle.vote_book.proofs.Tested.{admitting}
use Rattle.vote_book.proofs.Tidy.{front_lawful}
use Rattle.vote_book.specs.Admission.{is_above}
use Rattle.vote_book.specs.Books.{Admits, Follows, Lawful, MayInstall, last_made, latest_made, number_or, place_made}
use Rattle.vote_book.specs.declared.entry.Decision.{Decision}
use Rattle.vote_book.specs.declared.entry.Installation.{Installation}
use Rattle.vote_book.specs.declared.entry.LogEntry.{LogEntry}
use Rattle.vote_book.specs.declared.entry.LogEntry.TheVariants.{Accepted, Decided, Installed, Marked, Opened, Promised, Synced, Wrote}
use Rattle.smart_base.proofs.SameLists.{and_true}

-- ---- one place after the other

-- the latest place that is made, by how many batches are decided past a place
abbrev pub TurnAt : ℕ → Option ℕ → ℕ → Type 0
TurnAt past None count = count ≡ 0
TurnAt past (Some latest) count = ((latest ≤ past) × (count ≡ 0)) ⊎ (latest ≡ past + count)

abbrev pub InTurn : ℕ → List LogEntry → Type 0
InTurn past es = TurnAt past (latest_made es) (length (decided_of past es))

turn_next : (past : ℕ) (latest : Option ℕ) (count place : ℕ) → Follows past latest place → TurnAt past latest count → past < place → place ≡ past + count + 1
turn_next past None count place follows turn some = omega (arith, follows, turn, some)
turn_next past (Some k) count place follows (inl low) some = let few = low.0 in let none = low.1 in omega (arith, follows, few, none, some)
turn_next past (Some k) count place follows (inr at) some = omega (arith, follows, at)

-- a decision up to the place stands before each past it
turn_low : (past : ℕ) (latest : Option ℕ) (count place : ℕ) → Follows past latest place → TurnAt past latest count → place ≤ past → count ≡ 0
turn_low past None count place follows turn few = turn
turn_low past (Some k) count place follows (inl low) few = low.1
turn_low past (Some k) count place follows (inr at) few = absurd (omega (arith, follows, at, few))

-- an installation up to the place stands before each decision past it
turn_same : (past : ℕ) (latest : Option ℕ) (count last place : ℕ) → TurnAt past latest count → number_or latest 0 ≤ last → is_above latest last place ≡ true → place ≤ past → count ≡ 0
turn_same past None count last place turn most above few = turn
turn_same past (Some k) count last place (inl low) most above few = low.1
turn_same past (Some k) count last place (inr at) most above few = let more = ltb-true last place above in absurd (omega (arith, at, most, more, few))

-- the latest place is at most the last
latest_most : (es : List LogEntry) → number_or (latest_made es) 0 ≤ last_made es
latest_most [] = omega arith
latest_most (e ∷ es) = by (latest_made es) (latest_most es)
  where
    by : (o : Option ℕ) → number_or o 0 ≤ last_made es → number_or (or_else o (place_made e)) 0 ≤ max (number_or (place_made e) 0) (last_made es)
    by None most = omega arith
    by (Some k) most = omega (arith, most)

keeps_turn : (past : ℕ) (xs ys : List LogEntry) → latest_made ys ≡ latest_made xs → decided_of past ys ≡ decided_of past xs → InTurn past xs → InTurn past ys
keeps_turn past xs ys latest decided is =
    subst (λ (o : Option ℕ). TurnAt past o (length (decided_of past ys))) (sym latest)
    (subst (λ (ds : List Batch). TurnAt past (latest_made xs) (length ds)) (sym decided) is)

turn_decided : (past : ℕ) (before : List LogEntry) (d : Decision) → Follows past (latest_made before) d.slot.place → InTurn past before → InTurn past (before ++ Decided d ∷ [])
turn_decided past before d follows is =
    subst (λ (o : Option ℕ). TurnAt past o (length (decided_of past (before ++ Decided d ∷ [])))) (sym (latest_push before (Decided d))) (by (nat_lt past d.slot.place) refl)
  where
    by : (b : Bool) → nat_lt past d.slot.place ≡ b → TurnAt past (Some d.slot.place) (length (decided_of past (before ++ Decided d ∷ [])))
    by true more =
        let some : past < d.slot.place = ltb-true past d.slot.place more in
        let place : d.slot.place ≡ past + length (decided_of past before) + 1 = turn_next past (latest_made before) (length (decided_of past before)) d.slot.place follows is some in
        let grown : length (decided_of past (before ++ Decided d ∷ [])) ≡ length (decided_of past before ++ d.batch ∷ []) =
        ap (λ (bs : List Batch). length bs) (decided_last past before d some) in
        inr (omega (arith, place, grown, length-append (decided_of past before) (d.batch ∷ [])))
    by false less =
        let low : d.slot.place ≤ past = ltb-false past d.slot.place less in
        let none : length (decided_of past before) ≡ 0 = turn_low past (latest_made before) (length (decided_of past before)) d.slot.place follows is low in
        inl (low, ap (λ (bs : List Batch). length bs) (decided_none past before (Decided d) (decided_low past d [] less)) ∙ none)

turn_installed : (past restored : ℕ) (before : List LogEntry) (i : Installation) → length before < restored → MayInstall past restored before i.place → InTurn past before
    → InTurn past (before ++ Installed i ∷ [])
turn_installed past restored before i few may is =
    let above = (and_true (is_above (latest_made before) (last_made before) i.place) (not (nat_lt (length before) restored) || nat_le i.place past)
    (admitting past restored before (Installed i) may)).0 in
    let low : i.place ≤ past = may.within few in
    let none : length (decided_of past before) ≡ 0 =
    turn_same past (latest_made before) (length (decided_of past before)) (last_made before) i.place is (latest_most before) above low in
    let all : length (decided_of past (before ++ Installed i ∷ [])) ≡ 0 = ap (λ (bs : List Batch). length bs) (decided_none past before (Installed i) refl) ∙ none in
    subst (λ (o : Option ℕ). TurnAt past o (length (decided_of past (before ++ Installed i ∷ [])))) (sym (latest_push before (Installed i))) (inl (low, all))

turn_step : (past restored : ℕ) (before : List LogEntry) (e : LogEntry) → length before < restored → Admits past restored before e → InTurn past before → InTurn past (before ++ e ∷ [])
turn_step past restored before (Opened o) few may is = keeps_turn past before (before ++ Opened o ∷ []) (latest_push before (Opened o)) (decided_none past before (Opened o) refl) is
turn_step past restored before (Wrote w) few may is = keeps_turn past before (before ++ Wrote w ∷ []) (latest_push before (Wrote w)) (decided_none past before (Wrote w) refl) is
turn_step past restored before (Accepted a) few may is = keeps_turn past before (before ++ Accepted a ∷ []) (latest_push before (Accepted a)) (decided_none past before (Accepted a) refl) is
turn_step past restored before (Promised p) few may is = keeps_turn past before (before ++ Promised p ∷ []) (latest_push before (Promised p)) (decided_none past before (Promised p) refl) is
turn_step past restored before (Synced s) few may is = keeps_turn past before (before ++ Synced s ∷ []) (latest_push before (Synced s)) (decided_none past before (Synced s) refl) is
turn_step past restored before (Decided d) few may is = turn_decided past before d may is
turn_step past restored before (Installed i) few may is = turn_installed past restored before i few may is
turn_step past restored before (Marked m) few may is = keeps_turn past before (before ++ Marked m ∷ []) (latest_push before (Marked m)) (decided_none past before (Marked m) refl) is

turns_on : (past restored : ℕ) (before es : List LogEntry) → length before + length es ≤ restored → Lawful past restored (before ++ es) → InTurn past before → InTurn past (before ++ es)
turns_on past restored before [] few lawful is = subst (InTurn past) (sym (append-nil before)) is
turns_on past restored before (e ∷ es) few lawful is =
    let whole : (before ++ e ∷ []) ++ es ≡ before ++ e ∷ es = append_assoc before (e ∷ []) es in
    let next : length (before ++ e ∷ []) + length es ≤ restored = omega (arith, few, length-append before (e ∷ [])) in
    subst (InTurn past) whole
    (turns_on past restored (before ++ e ∷ []) es next (subst (λ (xs : List LogEntry). Lawful past restored xs) (sym whole) lawful)
    (turn_step past restored before e (omega (arith, few)) (lawful before e es refl) is))

-- so do entries that may all be restored
pub all_in_turn : (past : ℕ) (es : List LogEntry) → Lawful past (length es) es → InTurn past es
all_in_turn past es lawful = turns_on past (length es) [] es (omega arith) lawful refl

turns_at : (past restored : ℕ) (before : List LogEntry) (d : Decision) (after : List LogEntry) → length (before ++ Decided d ∷ after) ≤ restored
    → Lawful past restored (before ++ Decided d ∷ after) → past < d.slot.place → d.slot.place ≡ past + length (decided_of past before) + 1
turns_at past restored before d after few lawful some =
    let short : 0 + length before ≤ restored = omega (arith, few, length-append before (Decided d ∷ after)) in
    let turn : InTurn past before = turns_on past restored [] before short (front_lawful past restored before (Decided d ∷ after) lawful) refl in
    turn_next past (latest_made before) (length (decided_of past before)) d.slot.place (lawful before (Decided d) after refl) turn some

pub decided_in_turn : (opening : ℕ) (entries : List LogEntry) → Lawful opening (length entries) entries → DecidesInTurn opening entries
decided_in_turn opening entries lawful before d after split some =
    turns_at opening (length (before ++ Decided d ∷ after)) before d after (omega arith) (subst (λ (xs : List LogEntry). Lawful opening (length xs) xs) split lawful) some
