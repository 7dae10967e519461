-- A client accepts a reply where a quorum of members has sent it, but for those that are faulty.
use Rattle.replica_rules.specs.Replicas.{views_after}
use Rattle.std.proofs.Common.{◌≡◌, ⊎_elim, ℕ, zero, suc, ◌+◌, ◌++◌, ◌==◌, Bool, true, false, ◌&&◌, ◌||◌, List, [], ◌∷◌, refl, sym, arith, Some, inl, inr, subst, eq-eqb, append-nil, ap, ◌∙◌}
use Rattle.smart_base.specs.declared.party.Party.{Party}
use Rattle.node_rules.specs.Nodes.{view_of, next_place}
use Rattle.std.specs.Prelude.{slice_get}
use Rattle.std.specs.List.{list_any}
use Rattle.smart_base.specs.Lists.{Each}
use Rattle.smart_base.specs.Views.{View}
use Rattle.smart_statements.specs.Forms.{SignedBy}
use Rattle.smart_statements.specs.Kinds.{answers}
use Rattle.smart_statements.specs.declared.statement.Answer.{Answer}
use Rattle.smart_messages.specs.declared.message.Message.TheVariants.{Reply}
use Rattle.smart_service.specs.Services.{Meaning}
use Rattle.replica_rules.specs.Seals.{is_verified}
use Rattle.node_rules.specs.Steps.{Outcome, step_of, leaving}
use Rattle.node_rules.specs.declared.node.Target.{Target}
use Rattle.agreement_laws.specs.Statements as statements
use Rattle.world_rules.specs.Secrets.{group_secret}
use Rattle.world_rules.specs.Premises.{is_among}
use Rattle.client_quorum.specs.Clients.{learning, acceptance}
use Rattle.world_rules.specs.Clients.{heard_word}
use Rattle.world_rules.specs.Worlds.{Course, course_of, Host, World, posts, stepped, acceptance_in, hearing, clients_from, begun, heard_by, chosen_with}
use Rattle.world_rules.specs.Plays.{world_after}
use Rattle.client_quorum.specs.declared.client.Client.{Client}
use Rattle.client_quorum.specs.declared.client.Word.{Word}
use Rattle.client_quorum.specs.declared.client.Acceptance.{Acceptance}
use Rattle.client_quorum.specs.declared.client.Heard.{Heard}
use Rattle.world_rules.specs.declared.line.Line.{Line}
use Rattle.world_rules.specs.declared.message.Content.{Content}
use Rattle.world_rules.specs.declared.message.Content.TheVariants as contents
use Rattle.world_rules.specs.declared.message.Origin.{Origin}
use Rattle.world_rules.specs.declared.message.Origin.TheVariants as origins
use Rattle.world_rules.specs.declared.message.Sent.{Sent}
use Rattle.world_laws.specs.Sending.{IsOwnSent, is_reply, is_of, is_for, is_reply_of, has_replied, QuorumReplied, QuorumsReplied}
use Rattle.world_laws.proofs.Lists.{each_set, each_get}
use Rattle.world_laws.proofs.Keeps.{HasContent, HasMessage, ask_of, asked_by, by-posts, keeps-sends_all, has_end, KeepsAll, keeps-world_after, signed_by, from_node, from_client, from_script, message_of, word_has}
use Rattle.replica_laws.proofs.Small.{IsBrief}
use Rattle.world_laws.proofs.Snapshots.{IsRestorable}
use Rattle.agreement_laws.proofs.Lists.{each_among, each_end, or_true}
use Rattle.world_laws.proofs.Given.{IsKept, ClientKeeps, filter_more, quorum_gave, GivenWord, keeps_word}
use Rattle.vote_book.specs.Books.{Among}
use Rattle.vote_book.proofs.Tested.{among_any}
use Rattle.world_rules.specs.Stated.{stated}
use Rattle.world_laws.proofs.Stating.{says_message}
use Rattle.world_laws.proofs.Witnessing.{content_stated}
use Rattle.world_laws.proofs.Borne.{right-borne, borne-begun, RightBorne}
use Rattle.world_laws.proofs.Unforged.{any_more, NodeStates, member_states, reply_content}
use Rattle.world_laws.proofs.ChosenKept.{right-reads}
use Rattle.smart_base.proofs.SameLists.{and_true}
use Rattle.smart_base.proofs.ViewFacts.{each-weaken}
use Rattle.std.proofs.lemmas.Bool.{or_left, or_right, and_from}
use Rattle.world_rules.specs.declared.line.Header.{Header}
use Rattle.world_laws.specs.Promises.{IsHeader, KnowsViews}
use Rattle.world_laws.proofs.Hearing.{Accepts, Does, word_does, counts_has}
use Rattle.world_laws.proofs.ClientViews.{known-begun}
use Rattle.world_laws.proofs.Chosen.{chosen_there}
use Rattle.client_quorum.specs.Readings.{after_word}
use Rattle.client_quorum.specs.declared.client.Word.TheVariants as words

-- a reply that was sent, with its signer's tag, has been stated
pub reply_there : (sent : List Sent) (r : SignedBy Answer) → HasMessage sent (Reply r) → is_verified answers group_secret r ≡ true → Among (statements.Replied r) (stated sent)
reply_there sent r has tagged =
    content_stated sent (contents.Message (Reply r)) (statements.Replied r) has
    (says_message (Reply r) (statements.Replied r) (statements.Replied r) (inl refl) (inl refl) tagged)

-- a reply that was sent
abbrev pub WasSent : List Sent → SignedBy Answer → Type 0
WasSent sent r = HasMessage sent (Reply r)

-- clients keep replies that were sent, and what they accepted a quorum has sent, but for those that are faulty
pub record Replied {S : Type 0} (w : World S) : Type 0 where
  pub clients : Each (ClientKeeps (WasSent w.sent)) w.clients
  pub accepted : Each (QuorumReplied (views_after w.view w.chosen) w.faulty w.sent) w.accepted

-- more are faulty, and more is sent

-- a test that passes where another does
any_where : (p q : Sent → Bool) → ((s : Sent) → p s ≡ true → q s ≡ true) → (sent : List Sent) → list_any p sent ≡ true → list_any q sent ≡ true
any_where p q more [] is = absurd (cc)
any_where p q more (s ∷ sent) is =
    elim (or_true (p s) (list_any p sent) is) [
      | inl here ↦ or_left (q s) (list_any q sent) (more s here)
      | inr later ↦ or_right (q s) (list_any q sent) (any_where p q more sent later)
    ]

-- who has replied has so where more are faulty
replied_faulty : (faulty more : List ℕ) (sent : List Sent) (a : Acceptance) → ((member : ℕ) → is_among faulty member ≡ true → is_among more member ≡ true) → (member : ℕ)
    → has_replied faulty sent a member ≡ true → has_replied more sent a member ≡ true
replied_faulty faulty more sent a grows member is =
    any_where _ _
    (λ s passes.
    let both = and_true (is_reply_of member a s.content) (is_among faulty member || (is_of member s.origin && is_for a.request.client s.to)) passes in
    and_from (is_reply_of member a s.content) (is_among more member || (is_of member s.origin && is_for a.request.client s.to)) both.0
    (⊎_elim (λ breaks. or_left (is_among more member) (is_of member s.origin && is_for a.request.client s.to) (grows member breaks))
    (λ own. or_right (is_among more member) (is_of member s.origin && is_for a.request.client s.to) own)
    (or_true (is_among faulty member) (is_of member s.origin && is_for a.request.client s.to) both.1))) sent is

-- so a quorum that has replied has
quorum_faulty : (views : List View) (faulty more : List ℕ) (sent : List Sent) → ((member : ℕ) → is_among faulty member ≡ true → is_among more member ≡ true) → (a : Acceptance) → QuorumReplied views faulty sent a
    → QuorumReplied views more sent a
quorum_faulty views faulty more sent grows a is = record {
  view = is.view;
  known = is.known;
  stated = is.stated;
  enough = omega (arith, is.enough, filter_more (has_replied faulty sent a) (has_replied more sent a) (replied_faulty faulty more sent a grows) is.view.members);
}

quorum_more : (views : List View) (faulty : List ℕ) (sent : List Sent) (s : Sent) (a : Acceptance) → QuorumReplied views faulty sent a → QuorumReplied views faulty (sent ++ s ∷ []) a
quorum_more views faulty sent s a is = record {
  view = is.view;
  known = is.known;
  stated = is.stated;
  enough = omega (arith, is.enough, filter_more (has_replied faulty sent a) (has_replied faulty (sent ++ s ∷ []) a) (λ member was. any_more _ sent s was) is.view.members);
}

-- and has in a list that knows these views
quorum_chosen : (views more : List View) → ((v : View) → Among v views → Among v more) → (faulty : List ℕ) (sent : List Sent) (a : Acceptance) → QuorumReplied views faulty sent a → QuorumReplied more faulty sent a
quorum_chosen views more grows faulty sent a is = record { view = is.view; known = grows is.view is.known; stated = is.stated; enough = is.enough }

-- something is sent
replied-posts : {S : Type 0} (w : World S) (s : Sent) → Replied w → Replied (posts w s)
replied-posts {S = S} w s is =
    by-posts (λ (v : World S). Replied v) w s
    (λ ending. record { clients = is.clients; accepted = is.accepted })
    (λ free room. record {
      clients = each-weaken (ClientKeeps (WasSent w.sent)) (ClientKeeps (WasSent (w.sent ++ s ∷ [])))
          (λ c kept. each-weaken (IsKept (WasSent w.sent) c.waiting) (IsKept (WasSent (w.sent ++ s ∷ [])) c.waiting)
          (λ r k. record { given = has_end w.sent s (contents.Message (Reply r)) k.given; tagged = k.tagged; waited_for = k.waited_for }) c.replies kept) w.clients is.clients;
      accepted = each-weaken (QuorumReplied (views_after w.view w.chosen) w.faulty w.sent) (QuorumReplied (views_after w.view w.chosen) w.faulty (w.sent ++ s ∷ []))
          (quorum_more (views_after w.view w.chosen) w.faulty w.sent s) w.accepted is.accepted;
    })

-- a node's step
replied-stepped : {S : Type 0} (course : Course S) (w : World S) (i : ℕ) (h : Host S) (o : Outcome S) → Replied w → Replied (stepped course w i h o)
unfolding stepped
replied-stepped course w i h o is =
    keeps-sends_all Replied h.node.id (view_of o.node) (λ v held right. replied-posts v (from_node v h.node.id (view_of o.node) held) right) _ (leaving o.node.firm o.node.held)
    (record {
      clients = is.clients;
      accepted = each-weaken (QuorumReplied (views_after w.view w.chosen) w.faulty w.sent) (QuorumReplied (views_after w.view (chosen_with w.chosen (next_place o.node) o.node.waiting)) w.faulty w.sent)
          (quorum_chosen (views_after w.view w.chosen) (views_after w.view (chosen_with w.chosen (next_place o.node) o.node.waiting)) (chosen_there w.view w.chosen (next_place o.node) o.node.waiting) w.faulty w.sent) w.accepted is.accepted;
    })

-- a client hears

-- what was sent stands in a message
record Holds (sent : List Sent) (x : Content) : Type 0 where
  message : Sent
  there : Among message sent
  is : message.content ≡ x

holds : (sent : List Sent) (x : Content) → HasContent sent x → Holds sent x
holds [] x has = absurd has
holds (s ∷ sent) x has =
    elim has [
      | inl here ↦ record { message = s; there = inl refl; is = here }
      | inr later ↦ let rest = holds sent x later in record { message = rest.message; there = inr rest.there; is = rest.is }
    ]

-- a reply of a member's own is for the client that it names
own_for : (views : List View) (id : ℕ) (to : List Party) (r : SignedBy Answer) (client : ℕ) → IsOwnSent views (origins.Node id) to (contents.Message (Reply r)) → r.statement.client ≡ client → is_for client to ≡ true
own_for views id to r client own same =
    subst (λ (ps : List Party). is_for client ps ≡ true) (sym own.addressed)
    (subst (λ (t : Target). is_for client (heard_by own.view own.asked t) ≡ true) (sym own.own.1) (or_left (client == r.statement.client) false (eq-eqb client r.statement.client (sym same))))

-- where what was sent is read, each one's own and not forged, a member whose reply was sent has sent it, or it is faulty
sent_reply : {S : Type 0} (m : Meaning S) (w : World S) (r : SignedBy Answer) (a : Acceptance) → RightBorne m w → HasMessage w.sent (Reply r) → is_verified answers group_secret r ≡ true
    → r.statement.client ≡ a.request.client → is_reply a r ≡ true → has_replied w.faulty w.sent a r.signer ≡ true
sent_reply {S = S} m w r a right has tagged client is = by (is_among w.faulty r.signer) refl
  where
    test : Sent → Bool
    test s = is_reply_of r.signer a s.content && (is_among w.faulty r.signer || (is_of r.signer s.origin && is_for a.request.client s.to))

    reply : is_reply_of r.signer a (contents.Message (Reply r)) ≡ true
    reply = and_from ((r.signer == r.signer) && is_verified answers group_secret r) (is_reply a r) (and_from (r.signer == r.signer) (is_verified answers group_secret r) (eq-eqb r.signer r.signer refl) tagged) is

    passes : (s : Sent) → s.content ≡ contents.Message (Reply r) → (is_among w.faulty r.signer || (is_of r.signer s.origin && is_for a.request.client s.to)) ≡ true → test s ≡ true
    passes s same fine =
        and_from (is_reply_of r.signer a s.content) (is_among w.faulty r.signer || (is_of r.signer s.origin && is_for a.request.client s.to))
        (subst (λ (x : Content). is_reply_of r.signer a x ≡ true) (sym same) reply) fine

    mine : NodeStates w.sent r.signer (statements.Replied r) → has_replied w.faulty w.sent a r.signer ≡ true
    mine source =
        let s : Sent = source.message in
        let same : s.content ≡ contents.Message (Reply r) = reply_content s.content r source.states in
        let own : IsOwnSent (views_after w.view w.chosen) s.origin s.to s.content = each_among (λ (t : Sent). IsOwnSent (views_after w.view w.chosen) t.origin t.to t.content) w.sent s right.1.sent.own source.there in
        let own_node : IsOwnSent (views_after w.view w.chosen) (origins.Node r.signer) s.to (contents.Message (Reply r)) =
        subst (λ (x : Content). IsOwnSent (views_after w.view w.chosen) (origins.Node r.signer) s.to x) same (subst (λ (o : Origin). IsOwnSent (views_after w.view w.chosen) o s.to s.content) source.from own) in
        among_any test s w.sent source.there
        (passes s same
        (or_right (is_among w.faulty r.signer) (is_of r.signer s.origin && is_for a.request.client s.to)
        (and_from (is_of r.signer s.origin) (is_for a.request.client s.to)
        (subst (λ (o : Origin). is_of r.signer o ≡ true) (sym source.from) (eq-eqb r.signer r.signer refl))
        (own_for (views_after w.view w.chosen) r.signer s.to r a.request.client own_node client))))

    by : (t : Bool) → is_among w.faulty r.signer ≡ t → has_replied w.faulty w.sent a r.signer ≡ true
    by true breaks =
        let held : Holds w.sent (contents.Message (Reply r)) = holds w.sent (contents.Message (Reply r)) has in
        among_any test held.message w.sent held.there
        (passes held.message held.is (or_left (is_among w.faulty r.signer) (is_of r.signer held.message.origin && is_for a.request.client held.message.to) breaks))
    by false correct =
        mine (member_states w r.signer r right.0.0.0.0.0.fit.sent right.1.sent.own right.0.0.0.0.1 correct refl (reply_there w.sent r has tagged))

-- so of what a client accepts, a quorum has
accepted_heard : {S : Type 0} (m : Meaning S) (w : World S) (c : Client) (word : Word) (h : Heard) (after : Client) → Does c word h after → RightBorne m w → HasMessage w.sent (message_of word)
    → ClientKeeps (WasSent w.sent) c → KnowsViews w.view (views_after w.view w.chosen) c
    → Each (QuorumReplied (views_after w.view w.chosen) w.faulty w.sent) w.accepted → Each (QuorumReplied (views_after w.view w.chosen) w.faulty w.sent) (w.accepted ++ acceptance_in h)
accepted_heard m w c word h after (inl stays) right has kept knows each =
    subst (λ (more : List Acceptance). Each (QuorumReplied (views_after w.view w.chosen) w.faulty w.sent) (w.accepted ++ more)) (sym stays.none) (rw append-nil each)
accepted_heard m w c word h after (inr takes) right has kept knows each =
    let a : SignedBy Answer = takes.reply in
    let taken : Accepts c a takes.acceptance = takes.accepts in
    let sent : HasMessage w.sent (Reply a) = subst (λ (x : Word). HasMessage w.sent (message_of x)) takes.word_is has in
    let of = counts_has taken.view c a taken.request taken.counts in
    subst (λ (h : Heard). Each (QuorumReplied (views_after w.view w.chosen) w.faulty w.sent) (w.accepted ++ acceptance_in h)) (sym takes.heard_is)
    (each_end (QuorumReplied (views_after w.view w.chosen) w.faulty w.sent) w.accepted takes.acceptance each
    (record {
      view = taken.view;
      known = each_among (λ (v : View). Among v (views_after w.view w.chosen)) c.views taken.view knows.each of.there;
      stated = ap (λ (b : Acceptance). b.view) taken.is ∙ sym of.number_is;
      enough = quorum_gave (WasSent w.sent) (has_replied w.faulty w.sent) (λ q' a' r was tagged client it. sent_reply m w r (acceptance q' a') right was tagged client it) c a takes.acceptance sent kept taken;
    }))

-- a word that was sent is a reply that was, if it is one
given_word : (sent : List Sent) (word : Word) → HasMessage sent (message_of word) → GivenWord (WasSent sent) word
given_word sent (words.Reply a) has = has
given_word sent (words.View i) has = tt

-- a client hears a word that was sent
replied-hearing : {S : Type 0} (m : Meaning S) (w : World S) (i : ℕ) (c : Client) (word : Word) → slice_get w.clients i ≡ Some c → HasMessage w.sent (message_of word) → RightBorne m w → Replied w
    → Replied (hearing w i c word (heard_word c word))
unfolding hearing
replied-hearing m w i c word at has right is =
    let kept : ClientKeeps (WasSent w.sent) c = each_get (ClientKeeps (WasSent w.sent)) w.clients i c is.clients at in
    let knows = each_get (KnowsViews w.view (views_after w.view w.chosen)) w.clients i c right.0.1.views at in
    record {
      clients = each_set (ClientKeeps (WasSent w.sent)) w.clients i _ is.clients (keeps_word (WasSent w.sent) c word (given_word w.sent word has) kept);
      accepted = accepted_heard m w c word (heard_word c word) (after_word c word (heard_word c word)) (word_does c word) right has kept knows is.accepted;
    }

-- each event keeps the list right, and what was sent each one's own
pub right-borne-kept : {S : Type 0} (m : Meaning S) → IsBrief m → IsRestorable m → KeepsAll (course_of m) (RightBorne m)
right-borne-kept m brief service = right-borne m brief service

-- where the list is right, each event keeps that
pub keeps-replied : {S : Type 0} (m : Meaning S) (P : World S → Type 0) → ((w : World S) → P w → RightBorne m w) → KeepsAll (course_of m) P → KeepsAll (course_of m) (λ w. P w × Replied w)
keeps-replied m P right k =
    record {
      kept = record {
        event = λ w i h event up at may p. (k.kept.event w i h event up at may p.0, replied-stepped (course_of m) w i h (step_of m h.node event) p.1);
        disk = λ w i h up at p. (k.kept.disk w i h up at p.0, record { clients = p.1.clients; accepted = p.1.accepted });
        crash = λ w i h left up at may p. (k.kept.crash w i h left up at may p.0, record { clients = p.1.clients; accepted = p.1.accepted });
        hear = λ w i c x a on at has read p. (
          k.kept.hear w i c x a on at has read p.0,
          replied-hearing m w i c a at (word_has w x a (right-reads m w (right w p.0).0.0.0) has read) (right w p.0) p.1,
        );
        ask = λ w i c op at free low brief p. (
          k.kept.ask w i c op at free low brief p.0,
          replied-posts (asked_by w i c op) (from_client c (ask_of c op))
              (record { clients = each_set (ClientKeeps (WasSent w.sent)) w.clients i _ p.1.clients tt; accepted = p.1.accepted }),
        );
        again = λ w i c q at waits p. (k.kept.again w i c q at waits p.0, replied-posts w (from_client c (signed_by c q)) p.1);
        learn = λ w i j c d at other p. (
          k.kept.learn w i j c d at other p.0,
          record {
            clients = each_set (ClientKeeps (WasSent w.sent)) w.clients i (learning c d.seen) p.1.clients (each_get (ClientKeeps (WasSent w.sent)) w.clients i c p.1.clients at);
            accepted = p.1.accepted;
          },
        );
        inject = λ w x read fine p. (k.kept.inject w x read fine p.0, replied-posts w (from_script x) p.1);
        declare = λ w faulty rogue ending how p. (
          k.kept.declare w faulty rogue ending how p.0,
          record {
            clients = p.1.clients;
            accepted = each-weaken (QuorumReplied (views_after w.view w.chosen) w.faulty w.sent) (QuorumReplied (views_after w.view w.chosen) faulty w.sent)
                (quorum_faulty (views_after w.view w.chosen) w.faulty faulty w.sent how.more_faulty) w.accepted p.1.accepted;
          },
        );
        same = λ w mark told p. (k.kept.same w mark told p.0, record { clients = p.1.clients; accepted = p.1.accepted });
        meet = λ w texts on p. (k.kept.meet w texts on p.0, record { clients = p.1.clients; accepted = p.1.accepted });
      };
      resume = λ w i h down at p. (k.resume w i h down at p.0, record { clients = p.1.clients; accepted = p.1.accepted });
      add = λ w i member on new p. (k.add w i member on new p.0, record { clients = p.1.clients; accepted = p.1.accepted });
    }

-- the beginning

-- clients that have not asked keep nothing
fresh_keep : (sent : List Sent) (view : View) (count i : ℕ) → Each (ClientKeeps (WasSent sent)) (clients_from view count i)
unfolding clients_from
fresh_keep sent view zero i = tt
fresh_keep sent view (suc count) i = (tt, fresh_keep sent view count (i + 1))

pub replied-begun : {S : Type 0} (m : Meaning S) (g : Header) → Replied (begun m g)
replied-begun m g = record { clients = fresh_keep [] g.view 1025 0; accepted = tt }

-- after the lines of any script, of each reply that a client accepted a quorum has sent it, but for those that are faulty
pub quorums_replied : {S : Type 0} (m : Meaning S) → IsBrief m → IsRestorable m → (g : Header) (ls : List Line) → IsHeader g → QuorumsReplied (world_after (course_of m) (begun m g) ls)
quorums_replied {S = S} m brief service g ls is =
    record {
      each = (keeps-world_after (course_of m) (λ (w : World S). RightBorne m w × Replied w) (keeps-replied m (RightBorne m) (λ w right. right) (right-borne-kept m brief service)) (begun m g) ls
          ((known-begun m g is, borne-begun m g is), replied-begun m g)).1.accepted;
    }
