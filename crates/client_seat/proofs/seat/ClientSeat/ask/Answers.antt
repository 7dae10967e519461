use Rattle.std.proofs.Common.{◌≡◌, ◌∙◌, ℕ, List, inr, refl, sym, ap, subst, true≢false}
use Rattle.smart_statements.specs.Forms.{SignedBy}
use Rattle.smart_statements.specs.Kinds.{requests}
use Rattle.smart_statements.specs.declared.statement.Request.{Request}
use Rattle.replica_rules.specs.Seals.{signed}
use Rattle.client_quorum.specs.Clients.{fresh, request_of}
use Rattle.node_rules.specs.declared.node.Target.{Target}
use Rattle.trail.specs.declared.event.Addressed.{Addressed}
use Rattle.group_ends.specs.Ports.{ends, AreApart, IsPosted}
use Rattle.group_ends.proofs.Leaving.{on-err}
use Rattle.group_ends.proofs.Offering.{carries-front}
use Rattle.group_ends.proofs.Seated.{come-same, same-posted}
use Rattle.client_seat.specs.Asks.{ask_by, to_all}
use Rattle.client_seat.proofs.Grown.{asks-asked, client-asked, polled-asked}
use Rattle.client_seat.proofs.seat.ClientSeat.ask.Goals as goal

pub invariant_of-self-2 : goal.invariant_of-self-2
invariant_of-self-2 g c =
    let s = c.args.self.now in
    let head = g.P.Owner.head 0 in
    let first = fresh head.view 1 in
    let es = s.journal.events.items in
    let new = c.post.new.journal.events.items in
    let kept = s.kept c.requires.whole in
    let op = c.args.op.now in
    let asked : c.in-Ok-of.parcel.sent ≡ ask_by head.secret s.client op =
    c.in-Ok-of.ensures ∙ c.ask_of.ensures ∙ ap (λ (q : SignedBy Request). to_all q) (c.in-Ok.ensures.request ∙ ap (λ (k : List ℕ). signed requests k s.client.id (request_of s.client op)) s.group) in
    let posted = subst (λ (a : Addressed). IsPosted a (ends s.ports.items) es new) asked c.post.ensures.posted in record {
      number = c.post.ensures.number ∙ s.number;
      whole = λ _. c.in_ok-post.ensures.whole;
      head = s.head;
      group = s.group;
      kept = λ _. c.in-Ok.ensures.client ∙ sym (client-asked head.secret first es new op (ends s.ports.items) s.client kept posted);
      asks = asks-asked head.secret first es new op (ends s.ports.items) s.client kept posted c.requires.waits s.asks;
      came = come-same es new s.pending s.inbox.links.items (same-posted es new (ask_by head.secret s.client op) (ends s.ports.items) posted) s.came;
      left = carries-front new c.post.new.ports.items c.in_ok-post.ensures.ok;
      all_left = λ _. c.in_ok-post.ensures.ok;
      late = c.post.ensures.late;
      apart = subst AreApart (sym c.post.ensures.ports.0) s.apart;
      named = (c.post.ensures.ports.0 ∙ s.named.0, c.post.ensures.ports.1 ∙ s.named.1, s.named.2);
      polled = polled-asked head.secret first es new op (ends s.ports.items) s.client kept posted;
    }

pub invariant_of-self-in-Break-1 : goal.invariant_of-self-in-Break-1
invariant_of-self-in-Break-1 g c =
    let s = c.args.self.now in
    let head = g.P.Owner.head 0 in
    let first = fresh head.view 1 in
    let es = s.journal.events.items in
    let new = c.post.new.journal.events.items in
    let kept = s.kept c.requires.whole in
    let op = c.args.op.now in
    let asked : c.in-Ok-of.parcel.sent ≡ ask_by head.secret s.client op =
    c.in-Ok-of.ensures ∙ c.ask_of.ensures ∙ ap (λ (q : SignedBy Request). to_all q) (c.in-Ok.ensures.request ∙ ap (λ (k : List ℕ). signed requests k s.client.id (request_of s.client op)) s.group) in
    let posted = subst (λ (a : Addressed). IsPosted a (ends s.ports.items) es new) asked c.post.ensures.posted in record {
      number = c.post.ensures.number ∙ s.number;
      whole = λ over. absurd (true≢false over);
      head = s.head;
      group = s.group;
      kept = λ over. absurd (true≢false over);
      asks = asks-asked head.secret first es new op (ends s.ports.items) s.client kept posted c.requires.waits s.asks;
      came = come-same es new s.pending s.inbox.links.items (same-posted es new (ask_by head.secret s.client op) (ends s.ports.items) posted) s.came;
      left = c.in_err-post.ensures.err;
      all_left = λ over. absurd (true≢false over);
      late = c.post.ensures.late;
      apart = subst AreApart (sym c.post.ensures.ports.0) s.apart;
      named = (c.post.ensures.ports.0 ∙ s.named.0, c.post.ensures.ports.1 ∙ s.named.1, s.named.2);
      polled = polled-asked head.secret first es new op (ends s.ports.items) s.client kept posted;
    }

pub returns-clause-ok : goal.returns-clause-ok
returns-clause-ok g c =
    let s = c.args.self.now in
    let head = g.P.Owner.head 0 in
    let es = s.journal.events.items in
    let new = c.post.new.journal.events.items in
    let op = c.args.op.now in
    let asked : c.in-Ok-of.parcel.sent ≡ ask_by head.secret s.client op =
    c.in-Ok-of.ensures ∙ c.ask_of.ensures ∙ ap (λ (q : SignedBy Request). to_all q) (c.in-Ok.ensures.request ∙ ap (λ (k : List ℕ). signed requests k s.client.id (request_of s.client op)) s.group) in
    let sent = subst (λ (a : Addressed). IsPosted a (ends s.ports.items) es new) asked c.post.ensures.posted in
    let posted = subst (λ (targets : List Target). IsPosted (ask_by head.secret s.client op) targets es new) s.named.0 sent in
    posted

pub returns-in_err-post-clause-err : goal.returns-in_err-post-clause-err
returns-in_err-post-clause-err g c =
    let s = c.args.self.now in
    let head = g.P.Owner.head 0 in
    let es = s.journal.events.items in
    let new = c.post.new.journal.events.items in
    let op = c.args.op.now in
    let asked : c.in-Ok-of.parcel.sent ≡ ask_by head.secret s.client op =
    c.in-Ok-of.ensures ∙ c.ask_of.ensures ∙ ap (λ (q : SignedBy Request). to_all q) (c.in-Ok.ensures.request ∙ ap (λ (k : List ℕ). signed requests k s.client.id (request_of s.client op)) s.group) in
    let sent = subst (λ (a : Addressed). IsPosted a (ends s.ports.items) es new) asked c.post.ensures.posted in
    let posted = subst (λ (targets : List Target). IsPosted (ask_by head.secret s.client op) targets es new) s.named.0 sent in
    on-err c.from_residual.result (refl, inr posted)
