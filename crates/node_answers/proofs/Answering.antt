-- What a node gives to a member that asks: its marks, its decisions and the parts of its snapshot.
use Rattle.std.proofs.Common.{◌≡◌, ℕ, zero, suc, ◌+◌, ◌-◌, ◌<◌, nat_lt, Bool, true, false, cond, List, [], ◌∷◌, ◌++◌, length, drop, get_or, filter, filter_map, Option, Some, None, is_some, Result, Ok, Err, OnOk, refl, ap, sym, ◌∙◌, arith, append_assoc, append-nil}
use Rattle.std.specs.List.{cons_option}
use Rattle.std.specs.Option.{option_to_list}
use Rattle.std.proofs.lemmas.List.Elements.{filter_map-append}
use Rattle.smart_messages.specs.Messages.{kept_if}
use Rattle.smart_messages.specs.declared.message.Message.{Message}
use Rattle.smart_messages.specs.declared.message.Message.TheVariants as changes
use Rattle.transfer_form.specs.declared.transfer.StateAsk.{StateAsk}
use Rattle.transfer_form.specs.declared.transfer.StateOffer.{StateOffer}
use Rattle.smart_statements.specs.declared.report.Mark.{Mark}
use Rattle.vote_book.specs.declared.entry.LogEntry.{LogEntry}
use Rattle.node_rules.specs.Nodes.{Node, holding, holding_all}
use Rattle.node_rules.specs.Marks.{newest_firm}
use Rattle.node_rules.specs.Transfers.{mark_made, marks_past, place_of_snapshot, offer_for, places_after, shown_at, shown_after, offers_state}
use Rattle.node_rules.specs.declared.node.Target.{Target}
use Rattle.node_rules.specs.declared.node.Target.TheVariants as targets
use Rattle.node_rules.proofs.Entries.{held_all_same}
use Rattle.node_answers.specs.Answering.{made_past, is_made_past}

-- ---- the marks of a book past a place

past_by : (p : Mark → Bool) (m : Mark) (rest : List Mark) (t : Bool) → cond t (m ∷ filter p rest) (filter p rest) ≡ option_to_list (cond t (Some m) None) ++ filter p rest
past_by p m rest true = refl
past_by p m rest false = refl

past_first : (p : Mark → Bool) (o : Option Mark) (rest : List Mark) → filter p (cons_option o rest) ≡ option_to_list (kept_if p o) ++ filter p rest
past_first p None rest = refl
past_first p (Some m) rest = past_by p m rest (p m)

marks_step : (place : ℕ) (e : LogEntry) (es : List LogEntry) → marks_past place (e ∷ es) ≡ option_to_list (made_past place e) ++ marks_past place es
marks_step place e es = past_first (λ (m : Mark). nat_lt place m.place) (mark_made e) (filter_map mark_made es)

counted_by : (o : Option Mark) (e : LogEntry) (some : List LogEntry) (made : List Mark) → length some ≡ length made → length (cond (is_some o) (e ∷ some) some) ≡ length (option_to_list o ++ made)
counted_by None e some made same = same
counted_by (Some m) e some made same = ap suc same

pub counted : (place : ℕ) (es : List LogEntry) → length (filter (is_made_past place) es) ≡ length (marks_past place es)
counted place [] = refl
counted place (e ∷ es) =
    counted_by (made_past place e) e (filter (is_made_past place) es) (marks_past place es) (counted place es) ∙ ap length (sym (marks_step place e es))

marks_at : (place : ℕ) (es : List LogEntry) (i : ℕ) (e : LogEntry) → i < length es → e ≡ get_or es i e
    → marks_past place (drop i es) ≡ option_to_list (made_past place e) ++ marks_past place (drop (i + 1) es)
marks_at place [] i e within is = absurd (omega arith)
marks_at place (x ∷ xs) zero e within is = marks_step place x xs ∙ ap (λ (y : LogEntry). option_to_list (made_past place y) ++ marks_past place xs) (sym is)
marks_at place (x ∷ xs) (suc i) e within is =
    let next : suc (i + 1) ≡ suc i + 1 = omega arith in
    marks_at place xs i e (omega arith) is ∙ ap (λ k. option_to_list (made_past place e) ++ marks_past place (drop k (x ∷ xs))) next

pub drop_none : {A : Type 0} (n : ℕ) → ◌≡◌ {A = List A} (drop n []) []
drop_none zero = refl
drop_none (suc n) = refl

pub drop_one : (n : ℕ) (m : Mark) → 0 < n → drop n (m ∷ []) ≡ []
drop_one zero m some = absurd (omega (arith, some))
drop_one (suc n) m some = drop_none n

pub added_none : (found : List Mark) (o : Option Mark) (m : Mark) (skipped : ℕ) → Some m ≡ o → 0 < skipped → found ≡ found ++ drop skipped (option_to_list o)
added_none found o m skipped is some =
    sym (ap (λ (x : Option Mark). found ++ drop skipped (option_to_list x)) (sym is) ∙ (ap (λ (xs : List Mark). found ++ xs) (drop_one skipped m some) ∙ append-nil found))

drop_parts : (o : Option Mark) (left : ℕ) (rest : List Mark) → drop left (option_to_list o ++ rest) ≡ drop left (option_to_list o) ++ drop (left - length (option_to_list o)) rest
drop_parts None left rest =
    let same : left ≡ left - 0 = omega arith in
    ap (λ k. drop k rest) same ∙ ap (λ (xs : List Mark). xs ++ drop (left - 0) rest) (sym (drop_none left))
drop_parts (Some m) zero rest = refl
drop_parts (Some m) (suc left) rest =
    let same : left ≡ suc left - 1 = omega arith in
    ap (λ k. drop k rest) same ∙ ap (λ (xs : List Mark). xs ++ drop (suc left - 1) rest) (sym (drop_none left))

-- one more entry was looked at
pub marks_on : (place : ℕ) (es : List LogEntry) (i left rest : ℕ) (e : LogEntry) (found now all : List Mark) → i < length es → e ≡ get_or es i e
    → now ≡ found ++ drop left (option_to_list (made_past place e)) → rest ≡ left - length (option_to_list (made_past place e))
    → found ++ drop left (marks_past place (drop i es)) ≡ all → now ++ drop rest (marks_past place (drop (i + 1) es)) ≡ all
marks_on place es i left rest e found now all within is grown fewer all_is =
    let o : Option Mark = made_past place e in
    let behind : List Mark = marks_past place (drop (i + 1) es) in
    ap (λ (xs : List Mark). xs ++ drop rest behind) grown
    ∙ (append_assoc found (drop left (option_to_list o)) (drop rest behind)
    ∙ (ap (λ k. found ++ (drop left (option_to_list o) ++ drop k behind)) fewer
    ∙ (ap (λ (xs : List Mark). found ++ xs) (sym (drop_parts o left behind))
    ∙ (ap (λ (xs : List Mark). found ++ drop left xs) (sym (marks_at place es i e within is)) ∙ all_is))))

-- ---- messages for one party

pub held_taken : {S : Type 0} (messages : List Message) (n : Node S) (to : Target) → (holding_all n to messages).taken ≡ n.taken
held_taken [] n to = refl
held_taken (m ∷ ms) n to = held_taken ms (holding n to m) to

held_append : {S : Type 0} (xs ys : List Message) (n : Node S) (to : Target) → holding_all n to (xs ++ ys) ≡ holding_all (holding_all n to xs) to ys
held_append [] ys n to = refl
held_append (x ∷ xs) ys n to = held_append xs ys (holding n to x) to

held_shown : {S : Type 0} (messages : List Message) (n : Node S) (to : Target) (k : ℕ) → shown_at (holding_all n to messages) k ≡ shown_at n k
unfolding newest_firm
held_shown [] n to k = refl
held_shown (m ∷ ms) n to k = held_shown ms (holding n to m) to k

held_newest : {S : Type 0} (messages : List Message) (n : Node S) (to : Target) → newest_firm (holding_all n to messages) ≡ newest_firm n
unfolding newest_firm
held_newest [] n to = refl
held_newest (m ∷ ms) n to = held_newest ms (holding n to m) to

option_last : {A : Type 0} (o : Option A) → cons_option o [] ≡ option_to_list o
option_last None = refl
option_last (Some x) = refl

places_more : (asked count : ℕ) → places_after asked (count + 1) ≡ places_after asked count ++ (asked + 1 + count) ∷ []
places_more asked count =
    let next : count + 1 ≡ suc count = omega arith in
    let place : asked + suc count ≡ asked + 1 + count = omega arith in
    ap (λ k. places_after asked k) next ∙ ap (λ k. places_after asked count ++ k ∷ []) place

-- the node behind the decisions of some places
abbrev pub Showed : {S : Type 0} → Node S → Target → ℕ → ℕ → Node S → Type 0
Showed n to asked count now = now ≡ holding_all n to (filter_map (shown_at n) (places_after asked count))

pub showed_more : {S : Type 0} (n : Node S) (to : Target) (asked count : ℕ) (before now : Node S) → Showed n to asked count before
    → now ≡ holding_all before to (option_to_list (shown_at before (asked + 1 + count))) → Showed n to asked (count + 1) now
showed_more {S = S} n to asked count before now showed more =
    let k : ℕ = asked + 1 + count in
    let first : List Message = filter_map (shown_at n) (places_after asked count) in
    let same : shown_at before k ≡ shown_at n k = ap (λ (x : Node S). shown_at x k) showed ∙ held_shown first n to k in
    more
    ∙ (ap (λ (o : Option Message). holding_all before to (option_to_list o)) same
    ∙ (ap (λ (x : Node S). holding_all x to (option_to_list (shown_at n k))) showed
    ∙ (sym (held_append first (option_to_list (shown_at n k)) n to)
    ∙ ap (λ (ms : List Message). holding_all n to ms)
    (ap (λ (ms : List Message). first ++ ms) (sym (option_last (shown_at n k)))
    ∙ (sym (filter_map-append (shown_at n) (places_after asked count) (k ∷ [])) ∙ ap (λ (ks : List ℕ). filter_map (shown_at n) ks) (sym (places_more asked count)))))))

pub showed_newest : {S : Type 0} (n : Node S) (to : Target) (asked count : ℕ) (now : Node S) → Showed n to asked count now → newest_firm now ≡ newest_firm n
showed_newest {S = S} n to asked count now showed = ap (λ (x : Node S). newest_firm x) showed ∙ held_newest (filter_map (shown_at n) (places_after asked count)) n to

pub showed_entries : {S : Type 0} (n : Node S) (to : Target) (asked count : ℕ) (now : Node S) → Showed n to asked count now → now.entries ≡ n.entries
showed_entries {S = S} n to asked count now showed = ap (λ (x : Node S). x.entries) showed ∙ held_all_same (filter_map (shown_at n) (places_after asked count)) n to

pub showed_taken : {S : Type 0} (n : Node S) (to : Target) (asked count : ℕ) (now : Node S) → Showed n to asked count now → now.taken ≡ n.taken
showed_taken {S = S} n to asked count now showed = ap (λ (x : Node S). x.taken) showed ∙ held_taken (filter_map (shown_at n) (places_after asked count)) n to

pub showed_all : {S : Type 0} (n : Node S) (to : Target) (asked count : ℕ) (now : Node S) → Showed n to asked count now → count ≡ 8 → now ≡ holding_all n to (shown_after n asked)
unfolding shown_after
showed_all n to asked count now showed all = showed ∙ ap (λ k. holding_all n to (filter_map (shown_at n) (places_after asked k))) all

-- ---- what a member that asks is given

-- what follows of a success, where it holds
pub on_ok_as : {A E P Q : Type 0} (r : Result A E) → OnOk r P → (P → Q) → OnOk r Q
on_ok_as (Ok x) holds as_well = as_well holds
on_ok_as (Err e) holds as_well = tt

pub offered_place : {S : Type 0} (n later : Node S) (asked : ℕ) (offer : StateOffer) (to : Target) (m : Message) → offer ≡ offer_for n asked → later ≡ holding n to m
    → offer.place ≡ place_of_snapshot (newest_firm later)
unfolding offer_for newest_firm
offered_place {S = S} n later asked offer to m is at =
    ap (λ (o : StateOffer). o.place) is ∙ sym (ap (λ (x : Node S). place_of_snapshot (newest_firm x)) at)

shown_same : {S : Type 0} (n : Node S) (to : Target) (m : Message) (place : ℕ) → shown_after (holding n to m) place ≡ shown_after n place
unfolding shown_after newest_firm
shown_same n to m place = refl

pub offered_all : {S : Type 0} (n later now : Node S) (a : StateAsk) (offer : StateOffer) → offer ≡ offer_for n a.place → later ≡ holding n (targets.Node a.member) (changes.StateOffer offer)
    → now ≡ holding_all later (targets.Node a.member) (shown_after later a.place) → now ≡ offers_state n a
unfolding offers_state
offered_all {S = S} n later now a offer is at shown =
    let to : Target = targets.Node a.member in
    let m : Message = changes.StateOffer (offer_for n a.place) in
    shown
    ∙ (ap (λ (x : Node S). holding_all x to (shown_after x a.place)) (at ∙ ap (λ (o : StateOffer). holding n to (changes.StateOffer o)) is)
    ∙ ap (λ (ms : List Message). holding_all (holding n to m) to ms) (shown_same n to m a.place))
