use Rattle.std.proofs.Common.{◌≡◌, ◌∙◌, ℕ, ◌+◌, ◌-◌, ◌^◌, min, List, [], Option, sym, ap, subst, arith}
use Rattle.client_quorum.specs.Clients.{fresh}
use Rattle.client_seat.specs.Asks.{client_of, polls_since}
use Rattle.group_links.specs.declared.outward.LinkOut.{LinkOut}
use Rattle.node_rules.specs.declared.node.Target.{Target}
use Rattle.trail.specs.declared.event.TrailEvent.{TrailEvent}
use Rattle.group_ends.specs.Carried.{DropsLate}
use Rattle.group_ends.specs.Facts.{HasCome, HasComeAtMost}
use Rattle.group_ends.specs.Journals.{has_end}
use Rattle.group_ends.specs.Ports.{inbox_links}
use Rattle.group_parties.specs.Seated.{IsClientLeft}
use Rattle.group_parties.proofs.ending.finish_client.Goals as goal

at-most : (events : List TrailEvent) (pending : Option (List ℕ)) (links : List (LinkOut (List ℕ))) → HasCome events pending links → HasComeAtMost events links
at-most events pending links come = λ bytes. omega (arith, come bytes)

pub returns-clause-left : goal.returns-clause-left
returns-clause-left g c =
    let o = g.P.Owner in
    let parts = c.into_parts-journal.ensures in
    let left = c.into_parts-journal.result in
    let events = left.journal.events.items in
    subst (λ (es : List TrailEvent). IsClientLeft (o.head 0) (o.entries 0) g.O.Sink.written (o.begun 0) (o.receivers 0) (o.leaving 0) (o.arriving 0) left.journal.sink (record { events = es; whole = c.end_client-ended.result; row = record { ports = left.ports }; inbox = c.new.result })) (sym c.from_vec.ensures)
    (record {
      asks = parts.asks;
      end_last = parts.end_last;
      late = subst (λ (ts : List Target). DropsLate ts [] events) parts.named.0 parts.late;
      left = parts.left;
      came = subst (λ links. HasComeAtMost events links.items) (sym c.new.ensures) (at-most events left.pending left.links.items parts.came);
      named = (parts.named.0, (parts.named.1, ap (λ links. inbox_links links.items) c.new.ensures ∙ parts.named.2));
      text = parts.text;
      all_text = λ whole. parts.all_text (parts.over.0 ∙ (c.end_client-ended.ensures.ended whole).0);
      ended = λ whole. ap has_end (ap (λ v. v.items) parts.events.0) ∙ (c.end_client-ended.ensures.ended whole).1.1.1;
    })

pub returns-clause-behind : goal.returns-clause-behind
returns-clause-behind g c =
    let b = c.end_client-ended.ensures.behind in
    (b.0, (b.1.0, c.from_vec.ensures ∙ ap (λ v. v.items) c.into_parts-journal.ensures.events.0 ∙ b.1.1))

pub returns-clause-waits : goal.returns-clause-waits
returns-clause-waits g c = λ whole.
    let o = g.P.Owner in
    let parts = c.into_parts-journal.ensures in
    let ended = c.end_client-ended.ensures.ended whole in
    ap (λ (es : List TrailEvent). client_of (o.head 0).secret (fresh (o.head 0).view 1) es) c.from_vec.ensures ∙ sym (parts.client (parts.over.0 ∙ ended.0)) ∙ parts.over.1 ∙ ended.1.1.0

pub returns-clause-polls : goal.returns-clause-polls
returns-clause-polls g c = λ whole.
    let ended = c.end_client-ended.ensures.ended whole in
    let seat = c.end_client-ended.new.seat in
    let same = c.from_vec.ensures ∙ ap (λ v. v.items) c.into_parts-journal.ensures.events.0 in
    let told : polls_since 0 c.from_vec.result ≡ polls_since 0 seat.journal.events.items = ap (λ (es : List TrailEvent). polls_since 0 es) same in
    let sum : polls_since 0 seat.journal.events.items + seat.idle ≡ polls_since 0 c.from_vec.result = omega (arith, ended.1.0, told) in
    c.polls-polls.ensures ∙ ap (λ (n : ℕ). min n (2 ^ 64 - 1)) sum
