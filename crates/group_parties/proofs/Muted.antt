-- A client's trail behind which only polls and its end are noted.
use Rattle.std.proofs.Common.{◌≡◌, ◌∙◌, ℕ, ◌+◌, ◌-◌, ◌^◌, ◌≤◌, min, Bool, true, false, List, [], ◌∷◌, ◌++◌, Option, Some, None, IfSome, is_some, refl, sym, ap, subst, append_assoc, append-nil, arith}
use Rattle.std.specs.Option.{option_to_list}
use Rattle.smart_base.specs.Views.{View}
use Rattle.client_quorum.specs.Clients.{fresh}
use Rattle.client_quorum.specs.declared.client.Acceptance.{Acceptance}
use Rattle.client_quorum.specs.declared.client.Client.{Client}
use Rattle.trail.specs.declared.event.Addressed.{Addressed}
use Rattle.trail.specs.declared.event.TrailEvent.{TrailEvent}
use Rattle.trail.specs.declared.event.TrailEvent.TheVariants.{Happens, Send, Lost, Polls, End}
use Rattle.trail.specs.declared.opening.TrailOpening.{TrailOpening}
use Rattle.trail_rules.specs.Replays.{sends, sent_by}
use Rattle.client_seat.specs.Asks.{acceptances, accepted_by, client_after, client_of, polls_since}
use Rattle.group_client.specs.Amounts.{asked_in, op_in, AsksUpTo}
use Rattle.group_client.specs.Lines.{accepted, IsTold, IsToldFirst, IsToldWhole}
use Rattle.group_client.specs.Loops.{Output}
use Rattle.group_client.proofs.Told.{told-all, told-lines, told-none}
use Rattle.std.specs.List.{flat_map}
use Rattle.group_parties.specs.Courses.{is_cut_off, is_line_cut, CourseMade}
use Rattle.group_parties.specs.Rests.{HasCourse}
use Rattle.group_opening.specs.Runs.{client_head}
use Rattle.group_parties.specs.Seated.{AreMute}
use Rattle.group_parties.specs.declared.ending.Lived.{Lived}
use Rattle.group_parties.specs.declared.running.CourseEnd.{CourseEnd}
use Rattle.group_parties.specs.declared.running.CourseEnd.TheVariants as courses
use Rattle.group_opening.specs.declared.settings.GroupSettings.{GroupSettings}

-- ---- nothing is sent, and nothing is accepted

sends-none : (more : List TrailEvent) → AreMute more → sends more ≡ []
sends-none [] mute = refl
sends-none (Happens event ∷ more) mute = absurd mute
sends-none (Send a ∷ more) mute = absurd mute
sends-none (Lost a ∷ more) mute = absurd mute
sends-none (Polls count ∷ more) mute = sends-none more mute
sends-none (End ∷ more) mute = sends-none more mute

sends-same : (events more : List TrailEvent) → AreMute more → sends (events ++ more) ≡ sends events
sends-same [] more mute = sends-none more mute
sends-same (e ∷ events) more mute = ap (λ (rest : List Addressed). sent_by e ++ rest) (sends-same events more mute)

accepted-none : (secret : List ℕ) (c : Client) (more : List TrailEvent) → AreMute more → acceptances secret c more ≡ []
accepted-none secret c [] mute = refl
accepted-none secret c (Happens event ∷ more) mute = absurd mute
accepted-none secret c (Send a ∷ more) mute = absurd mute
accepted-none secret c (Lost a ∷ more) mute = absurd mute
accepted-none secret c (Polls count ∷ more) mute = accepted-none secret c more mute
accepted-none secret c (End ∷ more) mute = accepted-none secret c more mute

accepted-same : (secret : List ℕ) (c : Client) (events more : List TrailEvent) → AreMute more → acceptances secret c (events ++ more) ≡ acceptances secret c events
accepted-same secret c [] more mute = accepted-none secret c more mute
accepted-same secret c (e ∷ events) more mute = ap (λ (rest : List Acceptance). option_to_list (accepted_by secret c e) ++ rest) (accepted-same secret (client_after secret c e) events more mute)

-- ---- the course

-- what a course has made is what the trail of the client says when it is taken apart
pub course-of : (s : GroupSettings) (polls : ℕ) (end : CourseEnd) (client : Client) (events more : List TrailEvent) (l : Lived) (before after : Output) → AreMute more → l.events ≡ events ++ more
    → (l.whole ≡ true → client_of s.secret (fresh s.view 1) l.events ≡ client) → (l.whole ≡ true → polls ≡ min (polls_since 0 l.events) (2 ^ 64 - 1))
    → CourseMade (client_head s) s.asks s.turns end client events before after → HasCourse s polls end l before after
course-of s polls end client events more l before after mute longer client-is polls-are made =
    let same : accepted (client_head s) events ≡ accepted (client_head s) l.events =
    sym (ap (λ (es : List TrailEvent). accepted (client_head s) es) longer ∙ accepted-same s.secret (fresh s.view 1) events more mute) in
    let asks : asked_in l.events ≡ asked_in events = ap (λ (es : List TrailEvent). asked_in es) longer ∙ ap (λ (xs : List Addressed). flat_map op_in xs) (sends-same events more mute) in record {
      asked = record { count = made.up_to.count; few = made.up_to.few; ops = asks ∙ made.up_to.ops };
      done = λ (is : end ≡ courses.Done) (whole : l.whole ≡ true).
          let found = made.done is in
          (ap (λ (c : Client). c.waiting) (client-is whole) ∙ found.0, ap (λ (c : Client). c.last) (client-is whole) ∙ found.1);
      still = λ (is : end ≡ courses.Still) (whole : l.whole ≡ true).
          let found = made.still is in
          let parts = found.1.1.1 in (
            ap (λ (c : Client). is_some c.waiting) (client-is whole) ∙ found.0,
            (found.1.0, (found.1.1.0 ++ more, (longer ∙ ap (λ (es : List TrailEvent). es ++ more) parts.0 ∙ append_assoc found.1.0 found.1.1.0 more, parts.1))),
          );
      polls_are = polls-are;
      told = λ (on : is_cut_off end ≡ false). subst (λ xs. IsTold [] xs before.written after.written) same (made.told on);
      told_first = subst (λ xs. IsToldFirst [] xs before.written after.written) same made.told_first;
      lines = λ (on : is_line_cut end ≡ false). subst (λ xs. IsToldWhole [] xs before.written after.written) same (made.lines on);
    }

-- a course that was not begun
pub course-none : (head : TrailOpening) (asks turns : ℕ) (client : Client) (events : List TrailEvent) (out : Output) → events ≡ [] → CourseMade head asks turns courses.Over client events out out
course-none head asks turns client events out none =
    let nothing : accepted head events ≡ [] = ap (λ (es : List TrailEvent). accepted head es) none in
    let same : out.faults ≤ out.faults = omega arith in
    let wants : out.wants ≤ out.wants = omega arith in
    let few : 0 ≤ asks = omega arith in
    let told = told-none [] (accepted head events) out.written out.written nothing refl in record {
      up_to = record { count = 0; few = few; ops = ap (λ (es : List TrailEvent). asked_in es) none };
      done = λ is. cc;
      still = λ is. cc;
      told = λ on. told;
      told_first = told-all [] (accepted head events) out.written out.written told;
      lines = λ on. told-lines [] (accepted head events) out.written out.written told;
      output = λ is. cc;
      want = λ is. cc;
      later = (same, wants);
    }

-- the client that is taken apart, and its course
pub client-ended : (P : Lived → Type 0) (s : GroupSettings) (polls : ℕ) (end : CourseEnd) (client : Client) (events : List TrailEvent) (before after : Output) (found : Option Lived) → IfSome found P
    → IfSome found (λ (l : Lived). (more : List TrailEvent) × (AreMute more × (l.events ≡ events ++ more)))
    → IfSome found (λ (l : Lived). l.whole ≡ true → client_of s.secret (fresh s.view 1) l.events ≡ client) → IfSome found (λ (l : Lived). l.whole ≡ true → polls ≡ min (polls_since 0 l.events) (2 ^ 64 - 1))
    → CourseMade (client_head s) s.asks s.turns end client events before after → IfSome found (λ (l : Lived). P l × HasCourse s polls end l before after)
client-ended P s polls end client events before after None left behind waits polls-are made = tt
client-ended P s polls end client events before after (Some l) left behind waits polls-are made = (left, course-of s polls end client events behind.0 l before after behind.1.0 behind.1.1 waits polls-are made)
