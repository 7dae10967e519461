-- Each reply that a client accepted is the right one: the service's answer at its request's one place in the list.
use Rattle.std.proofs.Common.{◌≤◌, ◌&&◌, Bool, true, false, filter, eqb-true, inl, inr, ◌≡◌, ℕ, ◌+◌, ◌==◌, ◌++◌, List, [], ◌∷◌, length, ap, ◌∙◌, sym, Option, Some, None, subst, append-nil}
use Rattle.smart_base.specs.Lists.{Each, same_bytes}
use Rattle.smart_base.specs.Views.{View, weight_of, quorum}
use Rattle.smart_statements.specs.Forms.{SignedBy}
use Rattle.smart_statements.specs.Batches.{Batch}
use Rattle.smart_statements.specs.declared.statement.Request.{Request}
use Rattle.smart_statements.specs.declared.statement.Answer.{Answer}
use Rattle.smart_messages.specs.declared.message.Message.TheVariants.{Reply}
use Rattle.smart_service.specs.Services.{Meaning}
use Rattle.smart_service.specs.declared.table.Execution.{Execution}
use Rattle.replica_rules.specs.Replicas.{executions, views_after}
use Rattle.node_rules.specs.Nodes.{next_place, view_of}
use Rattle.node_rules.specs.Steps.{Outcome, step_of, leaving}
use Rattle.client_quorum.specs.Clients.{acceptance, same_answer, has_answer, have, is_waited_for}
use Rattle.world_rules.specs.Clients.{heard_word}
use Rattle.world_laws.specs.Promises.{HasAsked, IsRight, IsRightReply, IsRogue, answer_accepted, KnowsViews}
use Rattle.world_rules.specs.Worlds.{Course, course_of, Host, World, posts, chosen_with, stepped, acceptance_in, hearing, begun}
use Rattle.client_quorum.specs.declared.client.Client.{Client}
use Rattle.client_quorum.specs.declared.client.Word.{Word}
use Rattle.client_quorum.specs.declared.client.Acceptance.{Acceptance}
use Rattle.snapshot_form.specs.Replicas.{IsOfClients}
use Rattle.world_laws.proofs.Listed.{all_alone}
use Rattle.client_quorum.specs.declared.client.Heard.{Heard}
use Rattle.replica_laws.specs.Lines.{HasLine}
use Rattle.world_laws.proofs.Lists.{each_get}
use Rattle.std.proofs.lemmas.Bool.{leb-true}
use Rattle.std.specs.Prelude.{slice_get}
use Rattle.smart_statements.specs.Kinds.{answers}
use Rattle.replica_rules.specs.Seals.{is_verified}
use Rattle.world_rules.specs.Secrets.{group_secret}
use Rattle.world_rules.specs.Premises.{is_among}
use Rattle.agreement_laws.proofs.Groups.{quorums_share}
use Rattle.world_laws.proofs.Keeps.{HasMessage, ask_of, asked_by, by-posts, keeps-sends_all, KeepsAll, ReadsSent, signed_by, from_node, from_client, from_script, message_of, word_has}
use Rattle.replica_laws.specs.Lines.{line_told, IsExecuted}
use Rattle.replica_laws.proofs.OnePlace.{place_of-line, answer-line}
use Rattle.replica_laws.proofs.Executions.{executions-more, IsOfRequest, request-line, view-line}
use Rattle.world_laws.proofs.Given.{IsKept, ClientKeeps, kept_last}
use Rattle.world_laws.proofs.Replied.{WasSent}
use Rattle.world_laws.proofs.Asked.{RequestsAsked, StandsRight, stands_right}
use Rattle.world_laws.proofs.Hearing.{Accepts, Does, word_does, counts_has}
use Rattle.world_laws.proofs.Asking.{ClientsRight}
use Rattle.world_rules.specs.declared.message.Sent.{Sent}
use Rattle.smart_base.proofs.SameLists.{and_true}
use Rattle.agreement_laws.proofs.Lists.{either, each_end, each_both, or_true, each_among}
use Rattle.smart_base.proofs.ViewFacts.{each-weaken}
use Rattle.vote_book.proofs.Tested.{same_bytes_is}
use Rattle.world_rules.specs.declared.line.Header.{Header}
use Rattle.client_quorum.specs.Readings.{after_word}
use Rattle.vote_book.specs.Books.{Among}

-- the line of the execution that an accepted reply tells
abbrev pub line_accepted : Acceptance → Execution
line_accepted a = record { client = a.request.client; seq = a.request.seq; place = a.place; index = a.index; view = a.view; reply = a.reply }

-- an accepted reply tells an execution of the list
abbrev pub IsTold : {S : Type 0} → Meaning S → View → List Batch → Acceptance → Type 0
IsTold m view chosen a = HasLine (executions m view chosen) (line_accepted a)

-- all accepted replies tell executions of the chosen list
pub record AcceptedTold {S : Type 0} (m : Meaning S) (w : World S) : Type 0 where
  pub all : Each (IsTold m w.view w.chosen) w.accepted

-- messages that leave

-- what was accepted stays where a message leaves
told-posts : {S : Type 0} (m : Meaning S) (w : World S) (s : Sent) → AcceptedTold m w → AcceptedTold m (posts w s)
told-posts {S = S} m w s told = by-posts (λ (v : World S). AcceptedTold m v) w s (λ ending. record { all = told.all }) (λ free room. record { all = told.all })

-- a node's step

-- what is told of the list is told where a batch is chosen
told-chosen : {S : Type 0} (m : Meaning S) (v : View) (chosen : List Batch) (place : ℕ) (waiting : Option Batch) (a : Acceptance) → IsTold m v chosen a
    → IsTold m v (chosen_with chosen place waiting) a
told-chosen m v chosen place None a told = told
told-chosen m v chosen place (Some batch) a told =
    either (λ (list : List Batch). IsTold m v list a) (place == length chosen + 1) (chosen ++ batch ∷ []) chosen (executions-more m v chosen (batch ∷ []) (line_accepted a) told) told

-- a host's node steps
told-stepped : {S : Type 0} (course : Course S) (m : Meaning S) (w : World S) (i : ℕ) (h : Host S) (o : Outcome S) → AcceptedTold m w → AcceptedTold m (stepped course w i h o)
unfolding stepped
told-stepped course m w i h o told =
    let more : List Batch = chosen_with w.chosen (next_place o.node) o.node.waiting in
    keeps-sends_all (AcceptedTold m) h.node.id (view_of o.node) (λ v held is. told-posts m v (from_node v h.node.id (view_of o.node) held) is) _ (leaving o.node.firm o.node.held)
    (record { all = each-weaken (IsTold m w.view w.chosen) (IsTold m w.view more) (told-chosen m w.view w.chosen (next_place o.node) o.node.waiting) w.accepted told.all })

-- a client hears

-- what is known of replies: a client keeps those that were sent and knows views of the list alone, at most f members of each are faulty, and
-- what others state tells an execution
pub record Telling {S : Type 0} (m : Meaning S) (w : World S) : Type 0 where
  pub reads : ReadsSent w
  pub keeps : Each (ClientKeeps (WasSent w.sent)) w.clients
  pub knows : Each (KnowsViews w.view (views_after w.view w.chosen)) w.clients
  pub few : w.ending ≡ None → (v : View) → Among v (views_after w.view w.chosen) → length (filter (is_among w.faulty) v.members) ≤ v.f
  pub executed : (r : SignedBy Answer) → HasMessage w.sent (Reply r) → is_verified answers group_secret r ≡ true → is_among w.faulty r.signer ≡ false → IsExecuted m w.view w.chosen r.statement

-- lines of the same numbers are one
lines_one : (a b : Execution) → a.client ≡ b.client → a.seq ≡ b.seq → a.place ≡ b.place → a.index ≡ b.index → a.view ≡ b.view → a.reply ≡ b.reply → a ≡ b
lines_one a b client seq place index view reply =
    let make : ℕ → ℕ → ℕ → ℕ → ℕ → List ℕ → Execution = λ c s p i v r. record { client = c; seq = s; place = p; index = i; view = v; reply = r } in
    ap (λ c. make c a.seq a.place a.index a.view a.reply) client
    ∙ (ap (λ s. make b.client s a.place a.index a.view a.reply) seq
    ∙ (ap (λ p. make b.client b.seq p a.index a.view a.reply) place
    ∙ (ap (λ i. make b.client b.seq b.place i a.view a.reply) index
    ∙ (ap (λ v. make b.client b.seq b.place b.index v a.reply) view ∙ ap (λ r. make b.client b.seq b.place b.index b.view r) reply))))

-- a reply that is the same as another tells of the request that the other is accepted for
told_same : {S : Type 0} (m : Meaning S) (v : View) (chosen : List Batch) (q : Request) (r a : Answer) → is_waited_for (Some q) r ≡ true → same_answer r a ≡ true → IsExecuted m v chosen r
    → IsTold m v chosen (acceptance q a)
told_same m v chosen q r a waited same executed =
    let own = and_true (q.client == r.client) (q.seq == r.seq) waited in
    let three = and_true ((r.view == a.view) && (r.place == a.place) && (r.index == a.index)) (same_bytes r.reply a.reply) same in
    let two = and_true ((r.view == a.view) && (r.place == a.place)) (r.index == a.index) three.0 in
    let one = and_true (r.view == a.view) (r.place == a.place) two.0 in
    subst (HasLine (executions m v chosen))
    (lines_one (line_told r) (line_accepted (acceptance q a)) (sym (eqb-true q.client r.client own.0)) (sym (eqb-true q.seq r.seq own.1)) (eqb-true r.place a.place one.1)
    (eqb-true r.index a.index two.1) (eqb-true r.view a.view one.0) (same_bytes_is r.reply a.reply three.1)) executed

-- where a member that is not faulty gave a reply, the reply tells an execution
told_given : {S : Type 0} (m : Meaning S) (w : World S) (q : Request) (a : Answer) (member : ℕ) (replies : List (SignedBy Answer)) → Telling m w → is_among w.faulty member ≡ false
    → Each (IsKept (WasSent w.sent) (Some q)) replies → has_answer replies a member ≡ true → IsTold m w.view w.chosen (acceptance q a)
told_given m w q a member [] known correct kept is = absurd (cc)
told_given {S = S} m w q a member (r ∷ rs) known correct kept is =
    elim (or_true ((r.signer == member) && same_answer r.statement a) (has_answer rs a member) is) [
      | inl here ↦
          let parts = and_true (r.signer == member) (same_answer r.statement a) here in
          told_same m w.view w.chosen q r.statement a kept.0.waited_for parts.1
          (known.executed r kept.0.given kept.0.tagged (subst (λ (k : ℕ). is_among w.faulty k ≡ false) (sym (eqb-true r.signer member parts.0)) correct))
      | inr later ↦ told_given m w q a member rs known correct kept.1 later
    ]

-- of the members that gave the reply that a client accepts, one is not faulty
told_accepted : {S : Type 0} (m : Meaning S) (w : World S) (c : Client) (a : SignedBy Answer) (acc : Acceptance) → Telling m w → w.ending ≡ None → HasMessage w.sent (Reply a) → ClientKeeps (WasSent w.sent) c
    → KnowsViews w.view (views_after w.view w.chosen) c → Accepts c a acc → IsTold m w.view w.chosen acc
told_accepted {S = S} m w c a acc known on has kept knows taken =
    let q : Request = taken.request in
    let v : View = taken.view in
    let there : Among v (views_after w.view w.chosen) =
    each_among (λ (u : View). Among u (views_after w.view w.chosen)) c.views v knows.each (counts_has v c a q taken.counts).there in
    let replies : List (SignedBy Answer) = c.replies ++ a ∷ [] in
    let last : IsKept (WasSent w.sent) c.waiting a = kept_last (WasSent w.sent) v c a q has taken.counts in
    let all : Each (IsKept (WasSent w.sent) (Some q)) replies =
    subst (λ (waiting : Option Request). Each (IsKept (WasSent w.sent) waiting) replies) taken.counts.waits (each_end (IsKept (WasSent w.sent) c.waiting) c.replies a kept last) in
    let gave : ℕ → Bool = has_answer replies a.statement in
    let enough : quorum v ≤ weight_of v (filter gave v.members) = leb-true (quorum v) (have v replies a.statement) taken.enough in
    let met = quorums_share gave gave (is_among w.faulty) v (known.few on v there) enough enough in
    subst (IsTold m w.view w.chosen) (sym taken.is) (told_given m w q a.statement met.member replies known met.is.correct all met.left)

-- what a client makes of a word
told-heard : {S : Type 0} (m : Meaning S) (w : World S) (c : Client) (word : Word) (h : Heard) (after : Client) → Does c word h after → Telling m w → w.ending ≡ None → HasMessage w.sent (message_of word) → ClientKeeps (WasSent w.sent) c
    → KnowsViews w.view (views_after w.view w.chosen) c → Each (IsTold m w.view w.chosen) w.accepted → Each (IsTold m w.view w.chosen) (w.accepted ++ acceptance_in h)
told-heard m w c word h after (inl stays) known on has kept knows told =
    subst (λ (more : List Acceptance). Each (IsTold m w.view w.chosen) (w.accepted ++ more)) (sym stays.none) (rw append-nil told)
told-heard m w c word h after (inr takes) known on has kept knows told =
    let sent : HasMessage w.sent (Reply takes.reply) = subst (λ (x : Word). HasMessage w.sent (message_of x)) takes.word_is has in
    subst (λ (h : Heard). Each (IsTold m w.view w.chosen) (w.accepted ++ acceptance_in h)) (sym takes.heard_is)
    (each_end (IsTold m w.view w.chosen) w.accepted takes.acceptance told (told_accepted m w c takes.reply takes.acceptance known on sent kept knows takes.accepts))

-- a client hears a word
told-hearing : {S : Type 0} (m : Meaning S) (w : World S) (i : ℕ) (c : Client) (word : Word) → slice_get w.clients i ≡ Some c → Telling m w → w.ending ≡ None → HasMessage w.sent (message_of word) → AcceptedTold m w
    → AcceptedTold m (hearing w i c word (heard_word c word))
unfolding hearing
told-hearing m w i c word at known on has told =
    record {
      all = told-heard m w c word (heard_word c word) (after_word c word (heard_word c word)) (word_does c word) known on has (each_get (ClientKeeps (WasSent w.sent)) w.clients i c known.keeps at)
          (each_get (KnowsViews w.view (views_after w.view w.chosen)) w.clients i c known.knows at) told.all;
    }

-- where that is known of replies, each event keeps that the accepted ones tell executions
pub keeps-told : {S : Type 0} (m : Meaning S) (P : World S → Type 0) → ((w : World S) → P w → Telling m w) → KeepsAll (course_of m) P → KeepsAll (course_of m) (λ w. P w × AcceptedTold m w)
keeps-told m P telling k =
    record {
      kept = record {
        event = λ w i h event up at may p. (k.kept.event w i h event up at may p.0, told-stepped (course_of m) m w i h (step_of m h.node event) p.1);
        disk = λ w i h up at p. (k.kept.disk w i h up at p.0, record { all = p.1.all });
        crash = λ w i h left up at may p. (k.kept.crash w i h left up at may p.0, record { all = p.1.all });
        hear = λ w i c x a on at has read p. (
          k.kept.hear w i c x a on at has read p.0,
          (let known = telling w p.0 in told-hearing m w i c a at known on (word_has w x a known.reads has read) p.1),
        );
        ask = λ w i c op at free few brief p. (
          k.kept.ask w i c op at free few brief p.0,
          told-posts m (asked_by w i c op) (from_client c (ask_of c op)) (record { all = p.1.all }),
        );
        again = λ w i c q at waits p. (k.kept.again w i c q at waits p.0, told-posts m w (from_client c (signed_by c q)) p.1);
        learn = λ w i j c d at other p. (k.kept.learn w i j c d at other p.0, record { all = p.1.all });
        inject = λ w x read fine p. (k.kept.inject w x read fine p.0, told-posts m w (from_script x) p.1);
        declare = λ w faulty rogue ending how p. (k.kept.declare w faulty rogue ending how p.0, record { all = p.1.all });
        same = λ w mark told p. (k.kept.same w mark told p.0, record { all = p.1.all });
        meet = λ w texts on p. (k.kept.meet w texts on p.0, record { all = p.1.all });
      };
      resume = λ w i h down at p. (k.resume w i h down at p.0, record { all = p.1.all });
      add = λ w i member on new p. (k.add w i member on new p.0, record { all = p.1.all });
    }

-- in the beginning nothing is accepted
pub told-begun : {S : Type 0} (m : Meaning S) (g : Header) → AcceptedTold m (begun m g)
told-begun m g = record { all = tt }

-- what follows

-- a reply that tells an execution is right: its client asked the request that stands there, unless it is rogue, after earlier places alone
pub executed-right : {S : Type 0} (m : Meaning S) (w : World S) (a : Answer) → Each IsOfClients w.chosen → RequestsAsked w → IsExecuted m w.view w.chosen a → IsRightReply m w a
executed-right {S = S} m w a of requests executed =
    let q : IsOfRequest w.chosen (line_told a) = request-line m w.view w.chosen (line_told a) executed in
    let stands : StandsRight w.rogue w.sent a.place q.request = stands_right w a.place a.index q.request requests q.there in
    record {
      request = q.request;
      request_is = q.there;
      client_is = q.client;
      seq_is = q.seq;
      asked = stands.asked;
      above = stands.below;
      place_is = place_of-line m w.view w.chosen (line_told a) executed;
      reply_is = answer-line m w.view w.chosen (line_told a) executed;
      view_is = view-line m w.view w.chosen (line_told a) (all_alone w.chosen of) executed;
    }

-- an accepted reply that tells an execution is right. The request that stands there is the one that the client asked, for a client asks one request of a number
is_right : {S : Type 0} (m : Meaning S) (w : World S) (a : Acceptance) → Each IsOfClients w.chosen → RequestsAsked w → ClientsRight w → IsTold m w.view w.chosen a → HasAsked w.sent a.request → IsRight m w a
is_right {S = S} m w a of requests clients told asked =
    let right : IsRightReply m w (answer_accepted a) = executed-right m w (answer_accepted a) of requests told in
    record {
      asked = asked;
      right = right;
      own = elim right.asked [
        | inl breaks ↦ inl (subst (IsRogue w.rogue) right.client_is breaks)
        | inr sent ↦ inr (clients.all.one right.request a.request sent asked right.client_is right.seq_is)
      ];
    }

-- all accepted replies are
pub accepted-right : {S : Type 0} (m : Meaning S) (w : World S) → Each IsOfClients w.chosen → RequestsAsked w → ClientsRight w → AcceptedTold m w → Each (IsRight m w) w.accepted
accepted-right m w of requests clients told =
    each_both (IsTold m w.view w.chosen) (λ a. HasAsked w.sent a.request) (IsRight m w) (λ a is asked. is_right m w a of requests clients is asked) w.accepted told.all clients.all.asked
