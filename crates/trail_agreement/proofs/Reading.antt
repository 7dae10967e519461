-- Recorded runs that are read from bytes have bytes.
use Rattle.std.proofs.Common.{◌≡◌, ℕ, zero, suc, ◌<◌, ◌^◌, ◌==◌, nat_lt, Bool, true, false, cond, not, ◌||◌, List, [], ◌∷◌, ◌++◌, length, refl, ap, sym, ◌∙◌, subst, Option, Some, None, Result, Ok, Err, eqb-true, eq-eqb, append-nil}
use Rattle.std.specs.Prelude.{map, option_map}
use Rattle.std.specs.Int.{w32, to_be_bytes}
use Rattle.std.specs.List.{list_any}
use Rattle.std.specs.Option.{option_and_then}
use Rattle.std.proofs.lemmas.Bool.{or_parts}
use Rattle.std.proofs.lemmas.List.{map-append}
use Rattle.smart_base.specs.Bytes.{bytes-after}
use Rattle.smart_base.specs.Cuts.{Cut, IsBytes, Read, anything, bytes_at}
use Rattle.smart_base.specs.Laws.{contents_law, refit, spelled-bytes, spelled-own, text_field, wide32}
use Rattle.smart_base.specs.Lists.{Distinct, Each}
use Rattle.smart_base.specs.Spelling.{Law, behind, u8}
use Rattle.smart_messages.specs.Messages.{Fits}
use Rattle.smart_statements.specs.declared.entry.NodeEvent.TheVariants.{Arrive, Tick, Deliver, Firm}
use Rattle.agreement_laws.proofs.Lists.{each_append, each_end, some_equal}
use Rattle.trail.specs.Events.{FitsEvent, event_decoded, event_text}
use Rattle.trail.specs.Openings.{FitsOpening, opening_decoded, text_field_at}
use Rattle.trail.specs.declared.event.Addressed.{Addressed}
use Rattle.trail.specs.declared.event.TrailEvent.{TrailEvent}
use Rattle.trail.specs.declared.event.TrailEvent.TheVariants.{Happens, Send, Lost, Polls, End}
use Rattle.trail.specs.declared.opening.TrailOpening.{TrailOpening}
use Rattle.trail.proofs.Opened.{decoded-is as opening-is}
use Rattle.trail.proofs.Spelled.{decoded-is as event-is}
use Rattle.trail_rules.specs.Replays.{arrivals, came_by, sends, sent_by}
use Rattle.trail_rules.proofs.Grows.{arrivals-more, sends-more}
use Rattle.audit_rules.specs.declared.recorded.Reading.{Reading}
use Rattle.audit_rules.specs.declared.recorded.Recorded.{Recorded}
use Rattle.audit_rules.specs.Audits.{is_client}
use Rattle.audit_rules.specs.Readings.{AreRead, Reached, after_parts, all_begun, beginning, entry_taken, event_added, event_taken, is_end, is_known, may_happen, next_part, opening_taken, part_taken, parts_read, reaches, takes, unread, with_event}
use Rattle.trail_agreement.specs.Deliveries.{AreSpelled, IsSpelled, number_of}
use Rattle.trail_agreement.proofs.Deliveries.{each-front}

-- ---- trails so far

-- trails that have bytes, of different numbers
record IsGood (ts : List Recorded) : Type 0 where
  once : Distinct (map number_of ts)
  each : Each IsSpelled ts

other_way : (a b : ℕ) → (a == b) ≡ false → (b == a) ≡ false
other_way a b apart = by (b == a) refl
  where
    by : (t : Bool) → (b == a) ≡ t → (b == a) ≡ false
    by true is = let same : true ≡ false = sym (eq-eqb a b (sym (eqb-true b a is))) ∙ apart in absurd (cc)
    by false is = is

neither : (a b : Bool) → a ≡ false → b ≡ false → (a || b) ≡ false
neither true b off other = absurd (cc)
neither false b off other = other

none-end : (x n : ℕ) (ns : List ℕ) → list_any (λ y. y == x) ns ≡ false → (n == x) ≡ false → list_any (λ y. y == x) (ns ++ n ∷ []) ≡ false
none-end x n [] none apart = neither (n == x) false apart refl
none-end x n (m ∷ ns) none apart =
    let parts = or_parts (m == x) (list_any (λ y. y == x) ns) none in
    neither (m == x) (list_any (λ y. y == x) (ns ++ n ∷ [])) parts.0 (none-end x n ns parts.1 apart)

distinct-end : (ns : List ℕ) (n : ℕ) → Distinct ns → list_any (λ y. y == n) ns ≡ false → Distinct (ns ++ n ∷ [])
distinct-end [] n once none = (refl, tt)
distinct-end (x ∷ xs) n once none =
    let parts = or_parts (x == n) (list_any (λ y. y == n) xs) none in
    (none-end x n xs once.0 (other_way x n parts.0), distinct-end xs n once.1 parts.1)

unknown : (ts : List Recorded) (member : ℕ) → is_known ts member ≡ false → list_any (λ y. y == member) (map number_of ts) ≡ false
unknown [] member none = refl
unknown (t ∷ ts) member none =
    let parts = or_parts (t.opening.member == member) (is_known ts member) none in
    neither (t.opening.member == member) (list_any (λ y. y == member) (map number_of ts)) parts.0 (unknown ts member parts.1)

good-end : (ts : List Recorded) (t : Recorded) → IsGood ts → IsSpelled t → is_known ts t.opening.member ≡ false → IsGood (ts ++ t ∷ [])
good-end ts t is spelled none = record {
  once = subst Distinct (sym (map-append number_of ts (t ∷ []))) (distinct-end (map number_of ts) t.opening.member is.once (unknown ts t.opening.member none));
  each = each_end IsSpelled ts t is.each spelled;
}

-- another trail of the same number in place of the last one
good-last : (ts : List Recorded) (t u : Recorded) → IsGood (ts ++ t ∷ []) → u.opening.member ≡ t.opening.member → IsSpelled u → IsGood (ts ++ u ∷ [])
good-last ts t u is same spelled =
    let numbers : map number_of (ts ++ t ∷ []) ≡ map number_of (ts ++ u ∷ []) =
    map-append number_of ts (t ∷ []) ∙ (ap (λ (n : ℕ). map number_of ts ++ n ∷ []) (sym same) ∙ sym (map-append number_of ts (u ∷ []))) in
    record { once = subst Distinct numbers is.once; each = each_end IsSpelled ts u (each-front IsSpelled ts (t ∷ []) is.each) spelled }

last_spelled : (ts : List Recorded) (t : Recorded) → Each IsSpelled (ts ++ t ∷ []) → IsSpelled t
last_spelled [] t each = each.0
last_spelled (u ∷ us) t each = last_spelled us t each.1

-- ---- one more event

event_sent : (e : TrailEvent) → FitsEvent e → Each (λ (a : Addressed). Fits a.message) (sent_by e)
event_sent (Happens event) fits = tt
event_sent (Send a) fits = (fits.message_fits, tt)
event_sent (Lost a) fits = tt
event_sent (Polls count) fits = tt
event_sent End fits = tt

event_came : (e : TrailEvent) → IsBytes (event_text e) → Each IsBytes (came_by e)
unfolding event_text
event_came (Happens (Arrive bytes)) are = (bytes-after (u8 1) bytes are, tt)
event_came (Happens Tick) are = tt
event_came (Happens Deliver) are = tt
event_came (Happens (Firm count)) are = tt
event_came (Send a) are = tt
event_came (Lost a) are = tt
event_came (Polls count) are = tt
event_came End are = tt

with-spelled : (t : Recorded) (e : TrailEvent) → IsSpelled t → FitsEvent e → IsBytes (event_text e) → IsSpelled (with_event t e)
with-spelled t e is fits are = record {
  member = is.member;
  view = is.view;
  came = subst (λ (bs : List (List ℕ)). Each IsBytes bs) (sym (arrivals-more t.events e)) (each_append IsBytes (arrivals t.events) (came_by e) is.came (event_came e are));
  sent = subst (λ (xs : List Addressed). Each (λ (a : Addressed). Fits a.message) xs) (sym (sends-more t.events e))
      (each_append (λ (a : Addressed). Fits a.message) (sends t.events) (sent_by e) is.sent (event_sent e fits));
}

-- ---- one more part

some_one : {A : Type 0} (x y : A) → Some x ≡ Some y → x ≡ y
some_one x y same = some_equal x y same

abbrev Good : Reading → Type 0
Good r = IsGood (all_begun r)

open-if : (ts : List Recorded) (known : Bool) (o : TrailOpening) (s : Reading) → is_known ts o.member ≡ known → cond known None (Some (record { trails = ts; begun = Some (beginning o) })) ≡ Some s → FitsOpening o
    → IsGood (ts ++ []) → Good s
open-if ts true o s known is fits good = absurd (cc)
open-if ts false o s known is fits good =
    subst Good (some_one _ s is)
    (good-end ts (beginning o) (subst IsGood (append-nil ts) good) (record { member = fits.member_fits; view = fits.view_fits; came = tt; sent = tt }) known)

open-step : (ts : List Recorded) (bytes : List ℕ) (read : Result TrailOpening ℕ) (s : Reading) → IsBytes bytes → opening_decoded bytes ≡ read → opening_taken (record { trails = ts; begun = None }) read ≡ Some s
    → IsGood (ts ++ []) → Good s
open-step ts bytes (Err at) s are read is good = absurd (cc)
open-step ts bytes (Ok o) s are read is good = open-if ts (is_known ts o.member) o s refl is (opening-is bytes o are read).0 good

entry-if : (ts : List Recorded) (t : Recorded) (client : Bool) (bytes : List ℕ) (s : Reading)
    → cond client None (Some (record { trails = ts; begun = Some (record t { entries = t.entries ++ bytes ∷ [] }) })) ≡ Some s → IsGood (ts ++ t ∷ []) → Good s
entry-if ts t true bytes s is good = absurd (cc)
entry-if ts t false bytes s is good =
    let of = last_spelled ts t good.each in
    subst Good (some_one _ s is)
    (good-last ts t (record t { entries = t.entries ++ bytes ∷ [] }) good refl (record { member = of.member; view = of.view; came = of.came; sent = of.sent }))

added-if : (ts : List Recorded) (t : Recorded) (e : TrailEvent) (end : Bool) → IsGood (ts ++ with_event t e ∷ [])
    → Good (cond end (record { trails = ts ++ with_event t e ∷ []; begun = None }) (record { trails = ts; begun = Some (with_event t e) }))
added-if ts t e true good = subst IsGood (sym (append-nil (ts ++ with_event t e ∷ []))) good
added-if ts t e false good = good

event-if : (ts : List Recorded) (t : Recorded) (e : TrailEvent) (may : Bool) (s : Reading) → cond may (Some (event_added (record { trails = ts; begun = Some t }) t e)) None ≡ Some s
    → IsGood (ts ++ with_event t e ∷ []) → Good s
event-if ts t e true s is good = subst Good (some_one _ s is) (added-if ts t e (is_end e) good)
event-if ts t e false s is good = absurd (cc)

event-step : (ts : List Recorded) (t : Recorded) (bytes : List ℕ) (read : Result TrailEvent ℕ) (s : Reading) → IsBytes bytes → event_decoded bytes ≡ read
    → event_taken (record { trails = ts; begun = Some t }) t read ≡ Some s → IsGood (ts ++ t ∷ []) → Good s
event-step ts t bytes (Err at) s are read is good = absurd (cc)
event-step ts t bytes (Ok e) s are read is good =
    let spelled = event-is bytes e are read in
    event-if ts t e (not (is_client t) || may_happen e) s is
    (good-last ts t (with_event t e) good refl
    (with-spelled t e (last_spelled ts t good.each) spelled.0 (subst IsBytes spelled.1 are)))

next-if : (ts : List Recorded) (t : Recorded) (more : Bool) (bytes : List ℕ) (s : Reading) → IsBytes bytes
    → cond more (entry_taken (record { trails = ts; begun = Some t }) t bytes) (event_taken (record { trails = ts; begun = Some t }) t (event_decoded bytes)) ≡ Some s → IsGood (ts ++ t ∷ []) → Good s
next-if ts t true bytes s are is good = entry-if ts t (is_client t) bytes s is good
next-if ts t false bytes s are is good = event-step ts t bytes (event_decoded bytes) s are refl is good

part-step : (ts : List Recorded) (begun : Option Recorded) (bytes : List ℕ) (s : Reading) → IsBytes bytes → part_taken (record { trails = ts; begun = begun }) begun bytes ≡ Some s
    → Good (record { trails = ts; begun = begun }) → Good s
part-step ts None bytes s are is good = open-step ts bytes (opening_decoded bytes) s are refl is good
part-step ts (Some t) bytes s are is good = next-if ts t (nat_lt (length t.entries) t.opening.entries) bytes s are is good

takes-step : (r : Reading) (bytes : List ℕ) (s : Reading) → IsBytes bytes → takes r bytes ≡ Some s → Good r → Good s
unfolding takes
takes-step r bytes s are is good = part-step r.trails r.begun bytes s are is good

-- ---- the parts of bytes

text_law : Law (λ (t : List ℕ). length t < 2 ^ 32) (behind w32) text_field_at
text_law =
    refit (λ t. (length t < 2 ^ 32) × (anything (length t) ≡ true)) (λ t. length t < 2 ^ 32) (behind w32) text_field_at
    (contents_law _ (behind w32) bytes_at (text_field w32 (2 ^ 32) anything wide32)) (λ t h. h.0) (λ t h. (h, refl))

-- what is read, and what is left
record Holds (x : Reached) : Type 0 where
  left : IsBytes x.cut.left
  good : Good x.reading

taken-step : (cut : Cut) (y : Reached) (taken : Option Reading) → IsBytes cut.left → ((s : Reading) → taken ≡ Some s → Good s) → option_map (λ (s : Reading). record { reading = s; cut = cut }) taken ≡ Some y → Holds y
taken-step cut y None left keeps is = absurd (cc)
taken-step cut y (Some s) left keeps is = subst Holds (some_one _ y is) (record { left = left; good = keeps s refl })

reach-step : (x : Reached) (read : Read (List ℕ)) (y : Reached) → text_field_at x.cut ≡ read → reaches x.reading read ≡ Some y → Holds x → Holds y
reach-step x (Err at) y found is holds = absurd (cc)
reach-step x (Ok p) y found is holds =
    let law = text_law.takes x.cut p holds.left found in
    let own : IsBytes p.0 = bytes-after (to_be_bytes w32 (length p.0)) p.0 (spelled-own x.cut (behind w32 p.0) p.1 holds.left law.1) in
    taken-step p.1 y (takes x.reading p.0) (spelled-bytes x.cut (behind w32 p.0) p.1 holds.left law.1) (λ s taken. takes-step x.reading p.0 s own taken holds.good) is

next-step : (x y : Reached) → next_part x ≡ Some y → Holds x → Holds y
unfolding next_part
next-step x y is holds = reach-step x (text_field_at x.cut) y refl is holds

then-step : (x : Option Reached) (y : Reached) → option_and_then next_part x ≡ Some y → ((z : Reached) → x ≡ Some z → Holds z) → Holds y
then-step None y is keeps = absurd (cc)
then-step (Some z) y is keeps = next-step z y is (keeps z refl)

after-step : (n : ℕ) (start x : Reached) → Holds start → after_parts n (Some start) ≡ Some x → Holds x
after-step zero start x holds is = subst Holds (some_one start x is) holds
after-step (suc n) start x holds is = then-step (after_parts n (Some start)) x is (λ z here. after-step n start z holds here)

-- ---- the whole

reached_holds : (bytes : List ℕ) (n : ℕ) (x : Reached) → IsBytes bytes → parts_read bytes n ≡ Some x → Holds x
unfolding parts_read
reached_holds bytes n x are is =
    after-step n (record { reading = unread; cut = record { at = 0; left = bytes } }) x (record { left = are; good = record { once = tt; each = tt } }) is

pub are_spelled : (bytes : List ℕ) (trails : List Recorded) → IsBytes bytes → AreRead bytes trails → AreSpelled trails
are_spelled bytes trails are read =
    let holds : Holds (record { reading = record { trails = trails; begun = None }; cut = read.last }) = reached_holds bytes read.count _ are read.reached in
    let good : IsGood trails = subst IsGood (append-nil trails) holds.good in
    record { once = good.once; each = good.each; begin = read.begin }
