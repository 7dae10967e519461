-- A client accepts replies to its own requests.
use Rattle.std.proofs.Common.{◌≡◌, ◌∙◌, ℕ, List, [], ◌∷◌, refl, ap, sym, subst, Option, Some, None}
use Rattle.std.specs.Option.{option_to_list}
use Rattle.smart_base.specs.Lists.{Each}
use Rattle.smart_base.proofs.ViewFacts.{each-weaken}
use Rattle.smart_statements.specs.Forms.{SignedBy}
use Rattle.smart_statements.specs.declared.entry.NodeEvent.TheVariants.{Arrive, Tick, Deliver, Firm}
use Rattle.smart_statements.specs.declared.statement.Answer.{Answer}
use Rattle.smart_statements.specs.declared.statement.Request.{Request}
use Rattle.smart_messages.specs.Messages.{decoded, request_in}
use Rattle.smart_messages.specs.declared.regency.ViewInfo.{ViewInfo}
use Rattle.agreement_laws.proofs.Lists.{each_append, some_equal}
use Rattle.client_quorum.specs.Clients.{after_heard, heard}
use Rattle.client_quorum.specs.Readings.{after_read, word_read}
use Rattle.client_quorum.specs.ViewWords.{after_told, told}
use Rattle.client_quorum.specs.declared.client.Acceptance.{Acceptance}
use Rattle.client_quorum.specs.declared.client.Client.{Client}
use Rattle.client_quorum.specs.declared.client.Heard.{Heard}
use Rattle.client_quorum.specs.declared.client.Heard.TheVariants as hears
use Rattle.client_quorum.specs.declared.client.Word.{Word}
use Rattle.client_quorum.specs.declared.client.Word.TheVariants as words
use Rattle.node_rules.specs.declared.node.Target.{Target}
use Rattle.client_seat.specs.Asks.{acceptances, accepted_by, after_sent, client_after, Asks, IsNextAsk, MayCome}
use Rattle.trail.specs.declared.event.TrailEvent.{TrailEvent}
use Rattle.trail.specs.declared.event.TrailEvent.TheVariants.{Happens, Send, Lost, Polls, End}
use Rattle.trail_rules.specs.Replays.{came_by}
use Rattle.trail_replies.specs.Answers.{IsAskedOwn}
use Rattle.trail_replies.proofs.Accepted.{TakesBy, taken_by}

-- the client goes on, and what waits stays its own
record Goes (c next : Client) : Type 0 where
  own : IsAskedOwn next
  id_is : next.id ≡ c.id

none_waits : (q : Request) (id : ℕ) → None ≡ Some q → q.client ≡ id
none_waits q id is = absurd (cc)

goes_heard : (c : Client) (r : SignedBy Answer) (h : Heard) → IsAskedOwn c → Goes c (after_heard c r h)
goes_heard c r (hears.Counted count need) own = record { own = own; id_is = refl }
goes_heard c r (hears.Accepted a) own = record { own = λ q is. none_waits q c.id is; id_is = refl }
goes_heard c r (hears.Viewed count need) own = record { own = own; id_is = refl }
goes_heard c r (hears.Moved number) own = record { own = own; id_is = refl }
goes_heard c r (hears.Ignored why) own = record { own = own; id_is = refl }

goes_told : (c : Client) (i : SignedBy ViewInfo) (h : Heard) → IsAskedOwn c → Goes c (after_told c i h)
goes_told c i (hears.Counted count need) own = record { own = own; id_is = refl }
goes_told c i (hears.Accepted a) own = record { own = own; id_is = refl }
goes_told c i (hears.Viewed count need) own = record { own = own; id_is = refl }
goes_told c i (hears.Moved number) own = record { own = own; id_is = refl }
goes_told c i (hears.Ignored why) own = record { own = own; id_is = refl }

goes_read : (secret : List ℕ) (c : Client) (w : Option Word) → IsAskedOwn c → Goes c (after_read secret c w)
goes_read secret c None own = record { own = own; id_is = refl }
goes_read secret c (Some (words.Reply r)) own = goes_heard c r (heard secret c r) own
goes_read secret c (Some (words.View i)) own = goes_told c i (told secret c i) own

goes_sent : (secret : List ℕ) (c : Client) (to : Target) (q : Option (SignedBy Request)) → IsNextAsk secret c to q → Goes c (after_sent c q)
goes_sent secret c to None next = absurd next
goes_sent secret c to (Some q) next = record {
  own = λ p is. ap (λ (x : Request). x.client) (sym (some_equal q.statement p is)) ∙ ap (λ (x : SignedBy Request). x.statement.client) next.2;
  id_is = refl;
}

goes_by : (secret : List ℕ) (c : Client) (e : TrailEvent) → MayCome secret c e → IsAskedOwn c → Goes c (client_after secret c e)
goes_by secret c (Happens (Arrive bytes)) may own = goes_read secret c (word_read (decoded bytes)) own
goes_by secret c (Happens Tick) may own = absurd may
goes_by secret c (Happens Deliver) may own = absurd may
goes_by secret c (Happens (Firm count)) may own = absurd may
goes_by secret c (Send a) may own = goes_sent secret c a.to (request_in a.message) may
goes_by secret c (Lost a) may own = record { own = own; id_is = refl }
goes_by secret c (Polls count) may own = record { own = own; id_is = refl }
goes_by secret c End may own = record { own = own; id_is = refl }

-- what is accepted is a reply to the request that waited
of_own : (secret : List ℕ) (c : Client) (came : List (List ℕ)) (a : Acceptance) → IsAskedOwn c → TakesBy secret c came a → a.request.client ≡ c.id
of_own secret c came a own taken =
    let accepts = taken.takes.accepts in
    ap (λ (x : Acceptance). x.request.client) accepts.is ∙ own accepts.request accepts.waits

pub all_own : (secret : List ℕ) (c : Client) (events : List TrailEvent) → Asks secret c events → IsAskedOwn c → Each (λ (a : Acceptance). a.request.client ≡ c.id) (acceptances secret c events)
all_own secret c [] asks own = tt
all_own secret c (e ∷ events) asks own =
    let next : Client = client_after secret c e in
    let goes : Goes c next = goes_by secret c e asks.0 own in
    let first : List Acceptance = option_to_list (accepted_by secret c e) in
    let rest : List Acceptance = acceptances secret next events in
    each_append (λ (a : Acceptance). a.request.client ≡ c.id) first rest
    (each-weaken (TakesBy secret c (came_by e)) (λ (a : Acceptance). a.request.client ≡ c.id) (λ a taken. of_own secret c (came_by e) a own taken) first (taken_by secret c e))
    (subst (λ (id : ℕ). Each (λ (a : Acceptance). a.request.client ≡ id) rest) goes.id_is (all_own secret next events asks.1 goes.own))
