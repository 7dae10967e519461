-- What the room of trails keeps of a group is read again as its trails.
use Rattle.std.proofs.Common.{◌≡◌, ◌∙◌, ℕ, suc, ◌+◌, ◌≤◌, ◌<◌, ◌==◌, ◌||◌, Bool, true, false, List, [], ◌∷◌, ◌++◌, length, Option, Some, None, refl, ap, sym, subst, arith}
use Rattle.std.proofs.lemmas.Bool.{ne_eqb}
use Rattle.std.specs.Prelude.{IfSome, IsSome}
use Rattle.std.specs.Io.KnownBytes.{Appends}
use Rattle.disk_model.specs.Rooms.{address}
use Rattle.smart_base.specs.Lists.{Each}
use Rattle.vote_book.proofs.Pushes.{any_push}
use Rattle.client_quorum.specs.Clients.{fresh}
use Rattle.client_quorum.specs.declared.client.Client.{Client}
use Rattle.client_seat.specs.Asks.{Asks, MayCome, client_after}
use Rattle.smart_statements.specs.declared.entry.NodeEvent.TheVariants.{Arrive, Tick, Deliver, Firm}
use Rattle.node_rooms.specs.Texts.{IsEmpty}
use Rattle.trail.specs.Events.{FitsEvent, event_text}
use Rattle.trail.specs.declared.event.TrailEvent.{TrailEvent}
use Rattle.trail.specs.declared.event.TrailEvent.TheVariants.{Happens, Send, Lost, Polls, End}
use Rattle.trail.specs.declared.opening.TrailOpening.{TrailOpening}
use Rattle.group_ends.specs.Journals.{IsEndLast, has_end}
use Rattle.group_ends.specs.Journals as journals
use Rattle.audit_rules.specs.Audits.{CanBegin, is_client}
use Rattle.audit_rules.specs.Readings.{AreRead, is_end, is_known, may_happen}
use Rattle.audit_rules.specs.declared.recorded.Recorded.{Recorded}
use Rattle.audit_laws.specs.Written.{AreApart, IsShort, IsWithin, IsWritten, text_of, texts_of}
use Rattle.audit_laws.proofs.Rereading.{written-read}
use Rattle.group_run.specs.Ends.{IsAccepted}
use Rattle.group_run.specs.Parties.{AreOver, ClientOver, GroupOver, IsKept, MemberOver, trails_of}
use Rattle.group_opening.specs.Runs.{GroupRun}
use Rattle.smart_top.specs.Groups.{AreReadAgain, HasParts, MayBeRead}
use Rattle.smart_top.proofs.OneReading.{finds-none}

-- ---- events that end once

-- events of which the last one, and no other, is an end
record EndsOnce (events : List TrailEvent) : Type 0 where
  before : List TrailEvent
  ends : events ≡ before ++ End ∷ []
  goes_on : Each (λ (e : TrailEvent). is_end e ≡ false) before

end-is : (e : TrailEvent) → journals.is_end e ≡ true → e ≡ End
end-is (Happens event) is = absurd (cc)
end-is (Send a) is = absurd (cc)
end-is (Lost a) is = absurd (cc)
end-is (Polls count) is = absurd (cc)
end-is End is = refl

goes-on : (e : TrailEvent) → journals.is_end e ≡ false → is_end e ≡ false
goes-on (Happens event) is = refl
goes-on (Send a) is = refl
goes-on (Lost a) is = refl
goes-on (Polls count) is = refl
goes-on End is = absurd (cc)

last-later : (e : TrailEvent) (events : List TrailEvent) → IsEndLast (e ∷ events) → IsEndLast events
last-later e events last = λ before behind is. last (e ∷ before) behind (ap (λ (es : List TrailEvent). e ∷ es) is)

once-by : (e : TrailEvent) (events : List TrailEvent) (end : Bool) → journals.is_end e ≡ end → (end || has_end events) ≡ true → IsEndLast (e ∷ events) → (has_end events ≡ true → EndsOnce events)
    → EndsOnce (e ∷ events)
once-by e events true is has last more =
    let same : e ∷ events ≡ End ∷ events = ap (λ (x : TrailEvent). x ∷ events) (end-is e is) in
    record { before = []; ends = same ∙ ap (λ (es : List TrailEvent). End ∷ es) (last [] events same); goes_on = tt }
once-by e events false is has last more =
    let rest = more has in
    record { before = e ∷ rest.before; ends = ap (λ (es : List TrailEvent). e ∷ es) rest.ends; goes_on = (goes-on e is, rest.goes_on) }

ends-once : (events : List TrailEvent) → has_end events ≡ true → IsEndLast events → EndsOnce events
ends-once [] has last = absurd (cc)
ends-once (e ∷ events) has last = once-by e events (journals.is_end e) refl has last (λ more. ends-once events more (last-later e events last))

-- ---- what may stand in a trail

each-front : {A : Type 0} (P : A → Type 0) (xs ys : List A) → Each P (xs ++ ys) → Each P xs
each-front P [] ys all = tt
each-front P (x ∷ xs) ys all = (all.0, each-front P xs ys all.1)

within-all : (events : List TrailEvent) → Each (λ (e : TrailEvent). is_end e ≡ false) events → Each (λ (e : TrailEvent). FitsEvent e × IsShort (event_text e)) events → Each IsWithin events
within-all [] on fit = tt
within-all (e ∷ events) on fit = (record { fits = fit.0.0; short = fit.0.1; goes_on = on.0 }, within-all events on.1 fit.1)

may-come : (secret : List ℕ) (c : Client) (e : TrailEvent) → MayCome secret c e → may_happen e ≡ true
may-come secret c (Happens (Arrive bytes)) may = refl
may-come secret c (Happens Tick) may = absurd may
may-come secret c (Happens Deliver) may = absurd may
may-come secret c (Happens (Firm count)) may = absurd may
may-come secret c (Send a) may = refl
may-come secret c (Lost a) may = refl
may-come secret c (Polls count) may = refl
may-come secret c End may = refl

asks-may : (secret : List ℕ) (c : Client) (events : List TrailEvent) → Asks secret c events → Each (λ (e : TrailEvent). may_happen e ≡ true) events
asks-may secret c [] asks = tt
asks-may secret c (e ∷ events) asks = (may-come secret c e asks.0, asks-may secret (client_after secret c e) events asks.1)

-- ---- a trail

written-by : (t : Recorded) → HasParts t → length t.entries ≡ t.opening.entries → has_end t.events ≡ true → IsEndLast t.events → (is_client t ≡ true → t.entries ≡ [])
    → (is_client t ≡ true → Each (λ (e : TrailEvent). may_happen e ≡ true) t.events) → CanBegin t → IsWritten t
written-by t parts many has last none may begins =
    let once = ends-once t.events has last in
    record {
      opening = parts.opening;
      short = parts.short;
      entries = many;
      texts = parts.entries;
      events = once.before;
      ends = once.ends;
      within = within-all once.before once.goes_on
          (each-front (λ (e : TrailEvent). FitsEvent e × IsShort (event_text e)) once.before (End ∷ [])
          (subst (λ (es : List TrailEvent). Each (λ (e : TrailEvent). FitsEvent e × IsShort (event_text e)) es) once.ends parts.events));
      none = none;
      may = λ client. each-front (λ (e : TrailEvent). may_happen e ≡ true) once.before (End ∷ [])
          (subst (λ (es : List TrailEvent). Each (λ (e : TrailEvent). may_happen e ≡ true) es) once.ends (may client));
      begins = begins;
    }

kept-as : (begun told kept : Option (List ℕ)) (text : List ℕ) → IsSome begun → IsSome told → IsEmpty begun → Appends begun told text → IfSome told (λ (x : List ℕ). kept ≡ Some x)
    → kept ≡ Some text
kept-as None told kept text some also empty wrote is = absurd (cc)
kept-as (Some b) None kept text some also empty wrote is = absurd (cc)
kept-as (Some b) (Some x) kept text some also empty wrote is = is ∙ ap (λ (y : List ℕ). Some y) (wrote ∙ ap (λ (y : List ℕ). y ++ text) empty)

or-none : (a b : Bool) → a ≡ false → b ≡ false → (a || b) ≡ false
or-none true b none other = absurd (cc)
or-none false b none other = other

other-number : (k n : ℕ) → n < k → (n == k) ≡ false
other-number k n low = ne_eqb n k (λ same. omega (arith, same, low))

-- ---- the trails of a group

module _ {S : Type 0} (r : GroupRun S) where
  abbrev KeptWhole : Recorded → Type 0
  KeptWhole t = r.trails.after (address r.settings.dir t.opening.member 0) ≡ Some (text_of t)

  abbrev Tell : Type 0
  Tell = (sink : r.sink) → IsSome (r.text_of sink)

  kept-whole : (t : Recorded) → Tell → IsKept r true t → KeptWhole t
  kept-whole t tell text =
      kept-as (r.text_of text.begun) (r.text_of text.told) (r.trails.after (address r.settings.dir t.opening.member 0)) (text_of t) (tell text.begun) (tell text.told) text.empty (text.all_text refl) text.kept

  all-kept : (first : ℕ) (members : List Recorded) → Tell → AreOver r true first members → Each KeptWhole members
  all-kept first [] tell over = tt
  all-kept first (t ∷ members) tell over = (kept-whole t tell over.0.text, all-kept (suc first) members tell over.1)

  number-at : (member : ℕ) (t : Recorded) → MemberOver r true member t → t.opening.member ≡ member
  number-at member t over = ap (λ (o : TrailOpening). o.member) over.opening.0

  no-client : (member : ℕ) (t : Recorded) → 0 < member → MemberOver r true member t → is_client t ≡ true → ⊥
  no-client member t some over client =
      let not : is_client t ≡ false = ne_eqb t.opening.member 0 (λ same. let is = number-at member t over in omega (arith, same, is, some)) in
      absurd (cc)

  member-written : (member : ℕ) (t : Recorded) → 0 < member → MemberOver r true member t → HasParts t → CanBegin t → IsWritten t
  member-written member t some over parts begins =
      written-by t parts (ap (λ (es : List (List ℕ)). length es) over.opening.1 ∙ sym (ap (λ (o : TrailOpening). o.entries) over.opening.0)) (over.text.ended refl) over.end_last
      (λ client. absurd (no-client member t some over client)) (λ client. absurd (no-client member t some over client)) begins

  all-written : (first : ℕ) (members : List Recorded) → 0 < first → AreOver r true first members → Each HasParts members → Each CanBegin members → Each IsWritten members
  all-written first [] some over parts begin = tt
  all-written first (t ∷ members) some over parts begin =
      (member-written first t some over.0 parts.0 begin.0, all-written (suc first) members (omega arith) over.1 parts.1 begin.1)

  client-written : (t : Recorded) → ClientOver r true t → HasParts t → CanBegin t → IsWritten t
  client-written t over parts begins =
      written-by t parts (ap (λ (es : List (List ℕ)). length es) over.opening.1 ∙ sym (ap (λ (o : TrailOpening). o.entries) over.opening.0)) (over.text.ended refl) over.end_last
      (λ client. over.opening.1) (λ client. asks-may r.settings.secret (fresh r.settings.view 1) t.events over.asks) begins

  -- members with the numbers from one on are apart from trails with lower numbers
  apart-from : (before : List Recorded) (first : ℕ) (members : List Recorded) → ((k : ℕ) → first ≤ k → is_known before k ≡ false) → AreOver r true first members → AreApart before members
  apart-from before first [] none over = tt
  apart-from before first (t ∷ members) none over = (
    none t.opening.member (let same = number-at first t over.0 in omega (arith, same)),
    apart-from (before ++ t ∷ []) (suc first) members
        (λ k high. any_push (λ (u : Recorded). u.opening.member == k) before t
        ∙ or-none (is_known before k) (t.opening.member == k) (none k (omega (arith, high))) (other-number k t.opening.member (let same = number-at first t over.0 in omega (arith, same, high)))) over.1,
  )

  pub read_again : (over : GroupOver r) → IsAccepted over → Each CanBegin (trails_of over) → MayBeRead over → AreReadAgain over
  read_again over accepted begin may =
      let each : AreOver r true 1 over.members = subst (λ (w : Bool). AreOver r w 1 over.members) accepted.whole over.each in
      let asked : ClientOver r true over.client = subst (λ (w : Bool). ClientOver r w over.client) accepted.whole over.asked in
      let number : over.client.opening.member ≡ 0 = ap (λ (o : TrailOpening). o.member) asked.opening.0 in
      let parts = may.parts in
      let read : AreRead (texts_of (trails_of over)) (trails_of over) =
      written-read (trails_of over)
      (record {
        each = (client-written over.client asked parts.0 begin.0, all-written 1 over.members (omega arith) each parts.1 begin.1);
        apart = (refl, apart-from (over.client ∷ []) 1 over.members (λ k high. or-none (over.client.opening.member == k) false (other-number k over.client.opening.member (omega (arith, number, high))) refl) each);
        some = omega arith;
        few = may.few;
      }) in record {
        kept = (kept-whole over.client may.tell asked.text, all-kept 1 over.members may.tell each);
        read = read;
        audited = finds-none (texts_of (trails_of over)) (trails_of over) read accepted.same;
      }
