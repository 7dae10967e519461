-- A vote that is opened may stand in the book, and is tidy there.
use Rattle.std.proofs.Common.{Bool, List, None, Option, Some, ap, arith, cond, false, inl, inr, nat_lt, refl, subst, suc, sym, true, zero, ℕ, ◌≡◌, ◌+◌, ◌<◌, ◌&&◌, ◌∙◌, ◌==◌, ◌-◌, ◌≤◌, ◌++◌, ◌∷◌, []}
use Rattle.std.proofs.lemmas.Bool.{eq-eqb, eqb-true, leb-true, ltb-true}
use Rattle.std.specs.List.{list_any}
use Rattle.std.specs.Prelude.{is_none, is_some, ◌^◌}
use Rattle.agreement_laws.specs.Statements.{Statement}
use Rattle.node_rules.specs.Nodes.{Node, greatest_regency, bound_at, view_start, has_begun, is_free, is_open, is_within, next_place, open_slot, regency_of, start_at, start_of, view_of}
use Rattle.node_rules.specs.Steps.{opened}
use Rattle.smart_base.specs.Views.{View, is_member}
use Rattle.smart_statements.specs.Equality.{same_slot}
use Rattle.smart_statements.specs.declared.statement.Slot.{Slot}
use Rattle.vote_book.specs.Standing.{first_start}
use Rattle.vote_book.proofs.Tested.{same_bytes_is, same_slot_self, latest_has}
use Rattle.vote_book.specs.Admission.{accepts_in, writes_in}
use Rattle.vote_book.specs.Books.{Allows, Among, HasBegun, HasMade, IsBelow, MayVote, last_made, latest_made}
use Rattle.vote_book.specs.Tidy.{IsTidyVote}
use Rattle.vote_book.specs.declared.entry.Accept.{Accept}
use Rattle.vote_book.specs.declared.entry.LogEntry.{LogEntry}
use Rattle.vote_book.specs.declared.entry.LogEntry.TheVariants.{Accepted, Promised, Wrote}
use Rattle.vote_book.specs.declared.entry.Promise.{Promise}
use Rattle.vote_book.specs.declared.entry.Start.{Start}
use Rattle.vote_book.specs.declared.entry.Write.{Write}
use Rattle.node_laws.proofs.Books.{begins, promise_most, promised_greatest, promised_push}
use Rattle.node_laws.proofs.Lists.{none_of}
use Rattle.node_laws.proofs.Nodes.{number_newest, number_next}
use Rattle.node_laws.specs.Sound.{ArePromisedUpTo, IsSound, IsUpTo, place_if}
use Rattle.smart_base.proofs.SameLists.{and_true}

-- ---- where a node stands

pub free_place : {A : Type 0} (waiting : Option A) (place : ℕ) → is_none waiting ≡ true → cond (is_some waiting) (place + 1) place ≡ place
free_place None place is = refl
free_place (Some x) place is = absurd (cc)

pub place_of_some : (k : ℕ) → 0 < k → place_if k ≡ Some k
place_of_some zero some = absurd (omega (arith, some))
place_of_some (suc k) some = refl

-- what an open vote rests on
pub record Opens {S : Type 0} (n : Node S) : Type 0 where
  pub member : is_member (view_of n) n.id ≡ true
  pub free : is_none n.waiting ≡ true
  pub room : next_place n < 2 ^ 63
  pub begun : has_begun (next_place n) (start_of n) ≡ true

pub opens : {S : Type 0} (n : Node S) → is_open n ≡ true → Opens n
opens n is =
    let outer = and_true (is_member (view_of n) n.id && is_free n) (has_begun (next_place n) (start_of n)) is in
    let inner = and_true (is_member (view_of n) n.id) (is_free n) outer.0 in
    let free = and_true (is_none n.waiting) (nat_lt (next_place n) (2 ^ 63)) inner.1 in
    record { member = inner.0; free = free.0; room = ltb-true (next_place n) (2 ^ 63) free.1; begun = outer.1 }

-- where no batch waits, the last place is the replica's
pub made_last : {S : Type 0} (stated : List Statement) (view : View) (n : Node S) → IsSound stated view n → is_none n.waiting ≡ true → last_made n.entries ≡ n.replica.place
made_last stated view n is free = is.last ∙ free_place n.waiting n.replica.place free

pub made_latest : {S : Type 0} (stated : List Statement) (view : View) (n : Node S) → IsSound stated view n → is_none n.waiting ≡ true → latest_made n.entries ≡ place_if n.replica.place
made_latest stated view n is free = is.latest ∙ ap place_if (free_place n.waiting n.replica.place free)

-- ---- the regency has begun

within_allows : (bound : Option (List ℕ)) (digest : List ℕ) → is_within bound digest ≡ true → Allows bound digest
within_allows None digest is = tt
within_allows (Some bound) digest is = sym (same_bytes_is bound digest is)

not_first : (v : View) (r : ℕ) (es : List LogEntry) (t : Bool) → (r == 0) ≡ t → 0 < r → cond t (Some (view_start v)) (first_start v.number r es) ≡ first_start v.number r es
not_first v r es true is some = absurd (let zero_is : r ≡ 0 = eqb-true r 0 is in omega (arith, zero_is, some))
not_first v r es false is some = refl

bound_here : (s : Start) (place : ℕ) (digest : List ℕ) → is_within (cond (s.base == place) s.bound None) digest ≡ true → s.base ≡ place → Allows s.bound digest
bound_here s place digest is at = within_allows s.bound digest (rw (eq-eqb s.base place at) at is)

begun_by : (v : View) (r place : ℕ) (es : List LogEntry) (digest : List ℕ) (start : Option Start) → start_at v r es ≡ start → 0 < r → has_begun place start ≡ true
    → is_within (bound_at place start) digest ≡ true → HasBegun es (record { view = v.number; place = place; regency = r }) digest
begun_by v r place es digest None at some begun is = absurd (cc)
begun_by v r place es digest (Some s) at some begun is =
    let found = begins v.number r es s (sym (not_first v r es (r == 0) refl some) ∙ at) in
    record {
      start = s;
      there = found.there;
      view = found.view_is;
      regency = found.regency_is;
      reached = leb-true s.base place begun;
      kept = λ same. bound_here s place digest is same;
    }

-- ---- the vote

in_turn : (es : List LogEntry) (place : ℕ) → latest_made es ≡ place_if place → 1 < place + 1 → HasMade es (place + 1 - 1)
in_turn es place latest later =
    let same : place ≡ place + 1 - 1 = omega arith in
    subst (λ (k : ℕ). HasMade es k) same (latest_has es place (latest ∙ place_of_some place (omega (arith, later))))

pub no_promise : (es : List LogEntry) (slot : Slot) → ArePromisedUpTo slot.view es → greatest_regency slot.view es ≤ slot.regency
    → (promise : Promise) → Among (Promised promise) es → IsBelow slot promise → ⊥
no_promise es slot newest greatest promise there (inl less) = let most = newest promise there in absurd (omega (arith, less, most))
no_promise es slot newest greatest promise there (inr below) =
    let most = promise_most slot.view es promise (sym below.0) there in
    let less : slot.regency < promise.regency = below.1 in
    absurd (omega (arith, less, most, greatest))

pub may_vote : {S : Type 0} (stated : List Statement) (view : View) (n : Node S) (digest : List ℕ) → IsSound stated view n → is_open n ≡ true
    → is_within (bound_at (next_place n) (start_of n)) digest ≡ true → MayVote n.entries (open_slot n) digest
unfolding start_of regency_of
may_vote stated view n digest is opened within =
    let o = opens n opened in
    record {
      in_turn = λ later. in_turn n.entries n.replica.place (made_latest stated view n is o.free) later;
      promises = no_promise n.entries (open_slot n) (number_newest stated view n is) (omega arith);
      synced = λ some. begun_by (view_of n) (regency_of n) (next_place n) n.entries digest (start_of n) refl some o.begun within;
    }

pub tidy_vote : {S : Type 0} (stated : List Statement) (view : View) (n : Node S) → IsSound stated view n → is_none n.waiting ≡ true → IsTidyVote n.entries (open_slot n)
unfolding regency_of
tidy_vote stated view n is free =
    let last = made_last stated view n is free in
    record {
      above = omega (arith, last);
      promised = λ some. promised_greatest (view_of n).number n.entries some;
    }

pub open_within : {S : Type 0} (stated : List Statement) (view : View) (n : Node S) (e : LogEntry) → IsSound stated view n → IsUpTo n.replica.views (next_place n) (n.entries ++ e ∷ []) (open_slot n)
unfolding regency_of
open_within stated view n e is =
    let more = promised_push n.entries e (view_of n).number in
    record { of_view = number_next stated view n is; place_is = omega arith; regency_is = omega (arith, more) }

-- ---- nothing of the slot stands there

pub none_written : (slot : Slot) (es : List LogEntry) → list_any (writes_in slot) es ≡ false → (other : Write) → Among (Wrote other) es → other.slot ≡ slot → ⊥
none_written slot es none other there same =
    none_of (writes_in slot) es (Wrote other) none there (subst (λ (s : Slot). same_slot s slot ≡ true) (sym same) (same_slot_self slot))

pub none_accepted : (slot : Slot) (es : List LogEntry) → list_any (accepts_in slot) es ≡ false → (other : Accept) → Among (Accepted other) es → other.slot ≡ slot → ⊥
none_accepted slot es none other there same =
    none_of (accepts_in slot) es (Accepted other) none there (subst (λ (s : Slot). same_slot s slot ≡ true) (sym same) (same_slot_self slot))
