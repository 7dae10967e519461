-- How many replies a client accepts by its trail.
use Rattle.std.proofs.Common.{◌≡◌, ◌∙◌, ℕ, ◌+◌, nat_le, nat_lt, Bool, true, false, List, [], ◌∷◌, ◌++◌, length, length-append, Option, Some, None, refl, sym, ap, subst, arith, if◌then◌else◌}
use Rattle.std.specs.Option.{option_to_list}
use Rattle.smart_base.specs.Views.{View, present, quorum}
use Rattle.smart_statements.specs.Forms.{SignedBy}
use Rattle.smart_statements.specs.declared.entry.NodeEvent.TheVariants.{Arrive, Tick, Deliver, Firm}
use Rattle.smart_statements.specs.declared.statement.Answer.{Answer}
use Rattle.smart_statements.specs.declared.statement.Request.{Request}
use Rattle.smart_messages.specs.Messages.{decoded, request_in}
use Rattle.smart_messages.specs.declared.regency.ViewInfo.{ViewInfo}
use Rattle.client_quorum.specs.Clients.{acceptance, after_heard, have, heard, heard_unless, known, why_ignored}
use Rattle.client_quorum.specs.Quorums.{accepted_in}
use Rattle.client_quorum.specs.Readings.{after_read, heard_read, word_read}
use Rattle.client_quorum.specs.ViewWords.{after_told, stating, told, told_unless, why_untold, with_info}
use Rattle.client_quorum.specs.declared.client.Acceptance.{Acceptance}
use Rattle.client_quorum.specs.declared.client.Client.{Client}
use Rattle.client_quorum.specs.declared.client.Heard.{Heard}
use Rattle.client_quorum.specs.declared.client.Heard.TheVariants as hears
use Rattle.client_quorum.specs.declared.client.Ignored.{Ignored}
use Rattle.client_quorum.specs.declared.client.Word.{Word}
use Rattle.client_quorum.specs.declared.client.Word.TheVariants as words
use Rattle.node_rules.specs.declared.node.Target.{Target}
use Rattle.trail.specs.declared.event.Addressed.{Addressed}
use Rattle.trail.specs.declared.event.TrailEvent.{TrailEvent}
use Rattle.trail.specs.declared.event.TrailEvent.TheVariants.{Happens, Send, Lost, Polls, End}
use Rattle.client_seat.specs.Asks.{acceptances, accepted_by, after_sent, client_after, client_of, Asks, IsNextAsk}

-- how many requests wait
abbrev waits : Option Request → ℕ
waits None = 0
waits (Some q) = 1

-- A client was left by one of its events with so many acceptances: it asked, or one waits no more.
abbrev Counts : Client → Client → Option Acceptance → Type 0
Counts c now accepted = length (option_to_list accepted) + waits now.waiting + c.last ≡ now.last + waits c.waiting

same-counts : (c : Client) → Counts c c None
same-counts c = omega arith

-- ---- a reply

accepted-counts : (c : Client) (a : SignedBy Answer) (q : Request) (x : Acceptance) → c.waiting ≡ Some q → Counts c (after_heard c a (hears.Accepted x)) (Some x)
accepted-counts c a q x waiting = omega (arith, ap waits waiting)

counted : (c : Client) (a : SignedBy Answer) (q : Request) (enough : Bool) (count need : ℕ) (x : Acceptance) → c.waiting ≡ Some q
    → Counts c (after_heard c a (if enough then hears.Accepted x else hears.Counted count need)) (accepted_in (if enough then hears.Accepted x else hears.Counted count need))
counted c a q true count need x waiting = accepted-counts c a q x waiting
counted c a q false count need x waiting = omega arith

unless-counts : (c : Client) (a : SignedBy Answer) (why : Option Ignored) (waiting : Option Request) (found : Option View) → c.waiting ≡ waiting
    → Counts c (after_heard c a (heard_unless c a why waiting found)) (accepted_in (heard_unless c a why waiting found))
unless-counts c a (Some why) waiting found is = same-counts c
unless-counts c a None None found is = same-counts c
unless-counts c a None (Some q) None is = same-counts c
unless-counts c a None (Some q) (Some v) is =
    counted c a q (nat_le (quorum v) (have v (c.replies ++ a ∷ []) a.statement)) (have v (c.replies ++ a ∷ []) a.statement) (quorum v) (acceptance q a.statement) is

reply-counts : (secret : List ℕ) (c : Client) (a : SignedBy Answer) → Counts c (after_heard c a (heard secret c a)) (accepted_in (heard secret c a))
unfolding heard
reply-counts secret c a = unless-counts c a (why_ignored secret c a) c.waiting (known c a.statement.view) refl

-- ---- a view that is told

moved-counts : (c : Client) (i : SignedBy ViewInfo) (enough : Bool) (number count need : ℕ)
    → Counts c (after_told c i (if enough then hears.Moved number else hears.Viewed count need)) (accepted_in (if enough then hears.Moved number else hears.Viewed count need))
moved-counts c i true number count need = omega arith
moved-counts c i false number count need = omega arith

told-unless-counts : (c : Client) (i : SignedBy ViewInfo) (why : Option Ignored) → Counts c (after_told c i (told_unless c i why)) (accepted_in (told_unless c i why))
told-unless-counts c i (Some why) = same-counts c
told-unless-counts c i None =
    let count = stating (present c.views) (with_info c.infos i) i.statement.view in
    moved-counts c i (nat_lt (present c.views).f count) i.statement.view.number count ((present c.views).f + 1)

view-counts : (secret : List ℕ) (c : Client) (i : SignedBy ViewInfo) → Counts c (after_told c i (told secret c i)) (accepted_in (told secret c i))
unfolding told
view-counts secret c i = told-unless-counts c i (why_untold secret c i)

read-counts : (secret : List ℕ) (c : Client) (w : Option Word) → Counts c (after_read secret c w) (accepted_in (heard_read secret c w))
read-counts secret c None = same-counts c
read-counts secret c (Some (words.Reply a)) = reply-counts secret c a
read-counts secret c (Some (words.View i)) = view-counts secret c i

-- ---- a request

sent-counts : (secret : List ℕ) (c : Client) (to : Target) (q : Option (SignedBy Request)) → IsNextAsk secret c to q → Counts c (after_sent c q) None
sent-counts secret c to None next = absurd next
sent-counts secret c to (Some q) next = omega (arith, ap waits next.1, ap (λ (x : SignedBy Request). x.statement.seq) next.2)

-- ---- all events

event-counts : (secret : List ℕ) (c : Client) (e : TrailEvent) (events : List TrailEvent) → Asks secret c (e ∷ events) → Counts c (client_after secret c e) (accepted_by secret c e)
event-counts secret c (Happens (Arrive bytes)) events asks = read-counts secret c (word_read (decoded bytes))
event-counts secret c (Happens Tick) events asks = absurd asks.0
event-counts secret c (Happens Deliver) events asks = absurd asks.0
event-counts secret c (Happens (Firm count)) events asks = absurd asks.0
event-counts secret c (Send a) events asks = sent-counts secret c a.to (request_in a.message) asks.0
event-counts secret c (Lost a) events asks = same-counts c
event-counts secret c (Polls count) events asks = same-counts c
event-counts secret c End events asks = same-counts c

all-counts : (secret : List ℕ) (c : Client) (events : List TrailEvent) → Asks secret c events
    → length (acceptances secret c events) + waits (client_of secret c events).waiting + c.last ≡ (client_of secret c events).last + waits c.waiting
all-counts secret c [] asks = omega arith
all-counts secret c (e ∷ events) asks =
    let first = option_to_list (accepted_by secret c e) in
    let next = client_after secret c e in
    omega (arith, event-counts secret c e events asks, all-counts secret next events asks.1, length-append first (acceptances secret next events))

-- a client that had asked nothing, and waits for nothing, has accepted a reply to each request
pub accepted-all : (secret : List ℕ) (c : Client) (events : List TrailEvent) (count : ℕ) → Asks secret c events → c.last ≡ 0 → c.waiting ≡ None
    → (client_of secret c events).waiting ≡ None → (client_of secret c events).last ≡ count → length (acceptances secret c events) ≡ count
accepted-all secret c events count asks none fresh idle last =
    omega (arith, all-counts secret c events asks, none, ap waits fresh, ap waits idle, last)
