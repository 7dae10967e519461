-- A client's requests state all that it knew before it asked.
use Rattle.std.proofs.Common.{◌≡◌, ℕ, zero, suc, ◌≤◌, ◌++◌, List, [], ◌∷◌, refl, ap, sym, Option, Some, None, inl, inr, ◌⊎◌, subst, arith, append-nil, take, ◌∙◌}
use Rattle.smart_statements.specs.Batches.{Batch}
use Rattle.node_rules.specs.Nodes.{view_of, next_place}
use Rattle.std.specs.Prelude.{slice_get, slice_set}
use Rattle.std.specs.List.{flat_map}
use Rattle.smart_base.specs.Lists.{Each}
use Rattle.smart_statements.specs.declared.statement.Request.{Request}
use Rattle.smart_service.specs.Services.{Meaning}
use Rattle.node_rules.specs.Steps.{Outcome, leaving}
use Rattle.client_quorum.specs.Clients.{request_of, asking, learning}
use Rattle.client_quorum.specs.declared.client.Client.{Client}
use Rattle.client_quorum.specs.declared.client.Word.{Word}
use Rattle.client_quorum.specs.declared.client.Acceptance.{Acceptance}
use Rattle.client_quorum.specs.declared.client.Heard.{Heard}
use Rattle.world_rules.specs.Clients.{heard_word}
use Rattle.world_rules.specs.Knowing.{known_by}
use Rattle.world_laws.specs.Promises.{HasAsked, IsPast, world_at}
use Rattle.world_rules.specs.Worlds.{Course, course_of, Host, World, posts, all_ending, snapshot_in, stepped, acceptance_in, hearing, begun, chosen_with, ending_few}
use Rattle.world_rules.specs.Plays.{rested, world_after, lines_told}
use Rattle.world_rules.specs.declared.line.Line.{Line}
use Rattle.world_rules.specs.declared.line.OutLine.{OutLine}
use Rattle.world_rules.specs.declared.message.Ending.{Ending}
use Rattle.world_rules.specs.declared.message.Sent.{Sent}
use Rattle.world_laws.proofs.Numbered.{EachAt, each_at_get, each_at_weaker, each_at_set, each_at_both}
use Rattle.world_laws.proofs.Meeting.{met-goes_on, step-goes_on}
use Rattle.world_laws.proofs.Keeps.{ask_of, asked_by, by-posts-ended, KeepsAll, KeepsLives, keeps-world_after, live-world_after, signed_by, from_node, from_client, from_script, keeps-sends_all}
use Rattle.world_laws.proofs.Hearing.{Accepts, Does, word_does}
use Rattle.world_laws.proofs.Asks.{asked_grows}
use Rattle.world_laws.proofs.Asking.{ClientRight, ClientsRight, keeps-right, rested-right, right-after}
use Rattle.world_laws.proofs.Grows.{world_after-append}
use Rattle.world_laws.proofs.Seen.{id_at, seen-told}
use Rattle.agreement_laws.proofs.Lists.{some_equal, each_end}
use Rattle.smart_base.proofs.ViewFacts.{each-weaken}
use Rattle.world_rules.specs.declared.line.Header.{Header}
use Rattle.client_quorum.specs.Readings.{after_word}

-- what was sent stays

-- a node takes an event
asked-stepped : {S : Type 0} (course : Course S) (w : World S) (i : ℕ) (h : Host S) (o : Outcome S) (q : Request) → HasAsked w.sent q → HasAsked (stepped course w i h o).sent q
unfolding stepped
asked-stepped {S = S} course w i h o q asked =
    keeps-sends_all (λ (v : World S). HasAsked v.sent q) h.node.id (view_of o.node) (λ v held asked. asked_grows v (from_node v h.node.id (view_of o.node) held) q asked) _ (leaving o.node.firm o.node.held) asked

-- a client hears
asked-hearing : {S : Type 0} (w : World S) (i : ℕ) (c : Client) (a : Word) (h : Heard) (q : Request) → HasAsked w.sent q → HasAsked (hearing w i c a h).sent q
unfolding hearing
asked-hearing w i c a h q asked = asked

-- each event keeps that a request was sent
keeps-sent : {S : Type 0} (course : Course S) (q : Request) → KeepsAll course (λ w. HasAsked w.sent q)
keeps-sent course q =
    record {
      kept = record {
        event = λ w i h event up at may asked. asked-stepped course w i h (course.step h.node event) q asked;
        disk = λ w i h up at asked. asked;
        crash = λ w i h left up at may asked. asked;
        hear = λ w i c x a on at has read asked. asked-hearing w i c a (heard_word c a) q asked;
        ask = λ w i c op at free few brief asked. asked_grows (asked_by w i c op) (from_client c (ask_of c op)) q asked;
        again = λ w i c r at waits asked. asked_grows w (from_client c (signed_by c r)) q asked;
        learn = λ w i j c d at other asked. asked;
        inject = λ w x read fine asked. asked_grows w (from_script x) q asked;
        declare = λ w faulty rogue ending how asked. asked;
        same = λ w mark told asked. asked;
        meet = λ w texts on asked. asked;
      };
      resume = λ w i h down at asked. asked;
      add = λ w i member on new asked. asked;
    }

-- what clients know

-- a request was sent before, or states no place below what its client knew
abbrev States : List Sent → (ℕ → ℕ) → Request → Type 0
States before known q = HasAsked before q ⊎ (known q.client ≤ q.after)

-- a client has seen what it knew, and its request that waits states that or was sent before, unless its message had no number any more
record ClientPast (before : List Sent) (known : ℕ → ℕ) (ending : Option Ending) (i : ℕ) (c : Client) : Type 0 where
  seen : known i ≤ c.seen
  waits : (q : Request) → c.waiting ≡ Some q → ending ≡ None → States before known q

-- all clients do, and so does each request whose reply was accepted
record AllPast {S : Type 0} (before : List Sent) (known : ℕ → ℕ) (w : World S) : Type 0 where
  each : EachAt (ClientPast before known w.ending) w.clients
  accepted : Each (λ a. States before known a.request) w.accepted

-- messages leave

past-posts : {S : Type 0} (before : List Sent) (known : ℕ → ℕ) (w : World S) (s : Sent) → AllPast before known w → AllPast before known (posts w s)
past-posts {S = S} before known w s is =
    by-posts-ended (λ (v : World S). AllPast before known v) w s
    (λ ending ended. record {
      each = each_at_weaker (ClientPast before known w.ending) (ClientPast before known ending) (λ i c past. record { seen = past.seen; waits = λ q waits on. absurd (ended on) }) w.clients is.each;
      accepted = is.accepted;
    })
    (λ free room. record { each = is.each; accepted = is.accepted })

-- a node's step

past-stepped : {S : Type 0} (course : Course S) (before : List Sent) (known : ℕ → ℕ) (w : World S) (i : ℕ) (h : Host S) (o : Outcome S) → AllPast before known w → AllPast before known (stepped course w i h o)
unfolding stepped
past-stepped {S = S} course before known w i h o is =
    let snapshots : List (List ℕ) = flat_map snapshot_in o.fired in
    let more : List Batch = chosen_with w.chosen (next_place o.node) o.node.waiting in
    let ended : Option Ending = all_ending w.sent w.marked (ending_few w.view more w.faulty w.ending) snapshots in
    keeps-sends_all (λ (v : World S). AllPast before known v) h.node.id (view_of o.node) (λ v held past. past-posts before known v (from_node v h.node.id (view_of o.node) held) past) _ (leaving o.node.firm o.node.held)
    (record {
      each = each_at_weaker (ClientPast before known w.ending) (ClientPast before known ended)
          (λ i c past. record { seen = past.seen; waits = λ q waits on. past.waits q waits (step-goes_on w.view more w.faulty w.sent w.marked w.ending snapshots on) }) w.clients is.each;
      accepted = is.accepted;
    })

-- one client changes

past-set : (before : List Sent) (known : ℕ → ℕ) (ending : Option Ending) (clients : List Client) (i : ℕ) (c' : Client) → EachAt (ClientPast before known ending) clients → ClientPast before known ending i c'
    → EachAt (ClientPast before known ending) (slice_set clients i c')
past-set before known ending clients i c' each is = each_at_set (ClientPast before known ending) (ClientPast before known ending) clients i c' (λ j y other past. past) each is

-- a client asks: its request states what it has seen

past-asked : {S : Type 0} (before : List Sent) (known : ℕ → ℕ) (w : World S) (i : ℕ) (c : Client) (op : List ℕ) → slice_get w.clients i ≡ Some c → c.id ≡ i → AllPast before known w → AllPast before known (asked_by w i c op)
past-asked before known w i c op at id is =
    let own : ClientPast before known w.ending i c = each_at_get (ClientPast before known w.ending) w.clients i c is.each at in
    record {
      each = past-set before known w.ending w.clients i (asking c (request_of c op)) is.each
          (record { seen = own.seen; waits = λ q waits on. subst (States before known) (some_equal (request_of c op) q waits) (inr (subst (λ (n : ℕ). known n ≤ c.seen) (sym id) own.seen)) });
      accepted = is.accepted;
    }

-- a client hears a reply: what it accepts is one to its request that waits

past-taken : (before : List Sent) (known : ℕ → ℕ) (accepted : List Acceptance) (i : ℕ) (c : Client) (word : Word) (h : Heard) (after : Client) (ending : Option Ending) → ending ≡ None → Does c word h after
    → ClientPast before known ending i c → Each (λ b. States before known b.request) accepted → Each (λ b. States before known b.request) (accepted ++ acceptance_in h)
past-taken before known accepted i c word h after ending on (inl stays) own is =
    subst (λ (more : List Acceptance). Each (λ b. States before known b.request) (accepted ++ more)) (sym stays.none) (rw append-nil is)
past-taken before known accepted i c word h after ending on (inr takes) own is =
    let taken : Accepts c takes.reply takes.acceptance = takes.accepts in
    subst (λ (h : Heard). Each (λ b. States before known b.request) (accepted ++ acceptance_in h)) (sym takes.heard_is)
    (each_end (λ (b : Acceptance). States before known b.request) accepted takes.acceptance is
    (subst (λ (b : Acceptance). States before known b.request) (sym taken.is) (own.waits taken.request taken.counts.waits on)))

past-client : (before : List Sent) (known : ℕ → ℕ) (ending : Option Ending) (i : ℕ) (c : Client) (word : Word) (h : Heard) (after : Client) → Does c word h after → ClientPast before known ending i c
    → ClientPast before known ending i after
past-client before known ending i c word h after (inl stays) own = subst (ClientPast before known ending i) (sym stays.next) (record { seen = own.seen; waits = own.waits })
past-client before known ending i c word h after (inr takes) own =
    subst (ClientPast before known ending i) (sym takes.next) (record { seen = omega (arith, own.seen); waits = λ q waits. absurd (no_request q waits) })
  where
    no_request : (r : Request) → None ≡ Some r → ⊥
    no_request r same = cc

past-hearing : {S : Type 0} (before : List Sent) (known : ℕ → ℕ) (w : World S) (i : ℕ) (c : Client) (a : Word) → w.ending ≡ None → slice_get w.clients i ≡ Some c → AllPast before known w
    → AllPast before known (hearing w i c a (heard_word c a))
unfolding hearing
past-hearing before known w i c a on at is =
    let own : ClientPast before known w.ending i c = each_at_get (ClientPast before known w.ending) w.clients i c is.each at in
    let after : Client = after_word c a (heard_word c a) in
    let does = word_does c a in
    record {
      each = past-set before known w.ending w.clients i after is.each (past-client before known w.ending i c a (heard_word c a) after does own);
      accepted = past-taken before known w.accepted i c a (heard_word c a) after w.ending on does own is.accepted;
    }

-- a client learns of a place

past-learned : {S : Type 0} (before : List Sent) (known : ℕ → ℕ) (w : World S) (i : ℕ) (c : Client) (place : ℕ) → slice_get w.clients i ≡ Some c → AllPast before known w
    → EachAt (ClientPast before known w.ending) (slice_set w.clients i (learning c place))
past-learned before known w i c place at is =
    let own : ClientPast before known w.ending i c = each_at_get (ClientPast before known w.ending) w.clients i c is.each at in
    past-set before known w.ending w.clients i (learning c place) is.each (record { seen = omega (arith, own.seen); waits = own.waits })

-- a play

-- clients are right, and what they asked since then states what they knew
abbrev Stating : {S : Type 0} → List Sent → (ℕ → ℕ) → World S → Type 0
Stating before known w = ClientsRight w × AllPast before known w

-- each event keeps that
keeps-stating : {S : Type 0} (course : Course S) (before : List Sent) (known : ℕ → ℕ) → KeepsLives course (Stating before known)
keeps-stating course before known =
    let k = keeps-right course in
    record {
      live = record {
        event = λ w i h event on up at may is. (k.live.event w i h event on up at may is.0, past-stepped course before known w i h (course.step h.node event) is.1);
        disk = λ w i h on up at is. (k.live.disk w i h on up at is.0, record { each = is.1.each; accepted = is.1.accepted });
        hear = λ w i c x a on at has read is. (k.live.hear w i c x a on at has read is.0, past-hearing before known w i c a on at is.1);
        ask = λ w i c op on at free few brief is. (
          k.live.ask w i c op on at free few brief is.0,
          past-posts before known (asked_by w i c op) (from_client c (ask_of c op)) (past-asked before known w i c op at (id_at w i c at is.0) is.1),
        );
        again = λ w i c q on at waits is. (k.live.again w i c q on at waits is.0, past-posts before known w (from_client c (signed_by c q)) is.1);
        learn = λ w i j c d on at other is. (k.live.learn w i j c d on at other is.0, record { each = past-learned before known w i c d.seen at is.1; accepted = is.1.accepted });
        inject = λ w x on read fine is. (k.live.inject w x on read fine is.0, past-posts before known w (from_script x) is.1);
        declare = λ w faulty rogue ending on how is. (
          k.live.declare w faulty rogue ending on how is.0,
          record {
            each = each_at_weaker (ClientPast before known w.ending) (ClientPast before known ending) (λ i c past. record { seen = past.seen; waits = λ q waits still. past.waits q waits (how.over still) }) w.clients is.1.each;
            accepted = is.1.accepted;
          },
        );
        mark = λ w s on at is. (k.live.mark w s on at is.0, record { each = is.1.each; accepted = is.1.accepted });
        meet = λ w texts on is. (
          k.live.meet w texts on is.0,
          record {
            each = each_at_weaker (ClientPast before known w.ending) (ClientPast before known (all_ending w.sent w.marked w.ending texts))
                (λ i c past. record { seen = past.seen; waits = λ q waits still. past.waits q waits (met-goes_on w.sent w.marked w.ending texts still) }) w.clients is.1.each;
            accepted = is.1.accepted;
          },
        );
        tell = λ w line aside is. (k.live.tell w line aside is.0, record { each = is.1.each; accepted = is.1.accepted });
      };
      crash = λ w i h left on up at may is. (k.crash w i h left on up at may is.0, record { each = is.1.each; accepted = is.1.accepted });
      resume = λ w i h on down at is. (k.resume w i h on down at is.0, record { each = is.1.each; accepted = is.1.accepted });
      add = λ w i member on new is. (k.add w i member on new is.0, record { each = is.1.each; accepted = is.1.accepted });
    }

-- between two lines
rested-stating : {S : Type 0} (before : List Sent) (known : ℕ → ℕ) (w : World S) → Stating before known w → Stating before known (rested w)
rested-stating before known w is = (rested-right w is.0, record { each = is.1.each; accepted = is.1.accepted })

-- what was sent by then, and what the transcript had told

-- where clients are right and have seen what they know, all is as it is now
stating-now : {S : Type 0} (known : ℕ → ℕ) (w : World S) → EachAt (λ i (c : Client). c.seen ≡ known i) w.clients → ClientsRight w → Stating w.sent known w
stating-now known w seen right = (
  right,
  record {
    each = each_at_both (λ i (c : Client). c.seen ≡ known i) (ClientRight w.sent w.ending w.accepted) (ClientPast w.sent known w.ending)
        (λ i c sees own. record { seen = omega (arith, sees); waits = λ q waits on. inl ((own.waits q waits).asked on) }) w.clients seen right.all.each;
    accepted = each-weaken (λ (a : Acceptance). HasAsked w.sent a.request) (λ (a : Acceptance). States w.sent known a.request) (λ a asked. inl asked) w.accepted right.all.asked;
  },
)

-- more lines

-- of two fronts of a script the longer is the shorter with more lines
front_more : (ls : List Line) (j k : ℕ) → j ≤ k → (more : List Line) × (take k ls ≡ take j ls ++ more)
front_more ls zero k le = (take k ls, refl)
front_more ls (suc j) zero le = absurd (omega (arith, le))
front_more [] (suc j) (suc k) le = ([], refl)
front_more (l ∷ ls) (suc j) (suc k) le =
    let later = front_more ls j k (omega (arith, le)) in
    (later.0, ap (λ (xs : List Line). l ∷ xs) later.1)

-- the world after the longer is the one after more lines behind the shorter
pub world-more : {S : Type 0} (m : Meaning S) (g : Header) (ls : List Line) (j k : ℕ) → j ≤ k → (more : List Line) × (world_at m g ls k ≡ world_after (course_of m) (world_at m g ls j) more)
world-more m g ls j k le =
    let front = front_more ls j k le in
    (front.0, ap (λ xs. world_after (course_of m) (begun m g) xs) front.1 ∙ world_after-append (course_of m) (begun m g) (take j ls) front.0)

-- all that was accepted in a world had been sent by then, or states what its client knew then
abbrev AllAccepted : {S : Type 0} → List Sent → List OutLine → World S → Type 0
AllAccepted sent told w = Each (λ a. IsPast sent told a.request) w.accepted

-- what is accepted later had been sent, or states what its client knew
past-later : {S : Type 0} (m : Meaning S) (g : Header) (ls : List Line) (j k : ℕ) → j ≤ k
    → AllAccepted (world_at m g ls j).sent (lines_told (course_of m) (begun m g) (take j ls)) (world_at m g ls k)
past-later {S = S} m g ls j k le =
    let before : World S = world_at m g ls j in
    let told : List OutLine = lines_told (course_of m) (begun m g) (take j ls) in
    let known : ℕ → ℕ = λ i. known_by i told in
    let later = world-more m g ls j k le in
    let now : Stating before.sent known before = stating-now known before (seen-told m (course_of m) g (take j ls)) (right-after m (course_of m) g (take j ls)) in
    let after : Stating before.sent known (world_after (course_of m) before later.0) =
    live-world_after (course_of m) (Stating before.sent known) (keeps-stating (course_of m) before.sent known) (rested-stating before.sent known) before later.0 now in
    subst (AllAccepted before.sent told) (sym later.1) after.1.accepted

-- what was accepted earlier had been sent
past-earlier : {S : Type 0} (m : Meaning S) (g : Header) (ls : List Line) (j k : ℕ) → k ≤ j
    → AllAccepted (world_at m g ls j).sent (lines_told (course_of m) (begun m g) (take j ls)) (world_at m g ls k)
past-earlier {S = S} m g ls j k le =
    let earlier : World S = world_at m g ls k in
    let told : List OutLine = lines_told (course_of m) (begun m g) (take j ls) in
    let later = world-more m g ls k j le in
    subst (λ (w : World S). AllAccepted w.sent told earlier) (sym later.1)
    (each-weaken (λ (a : Acceptance). HasAsked earlier.sent a.request) (λ (a : Acceptance). IsPast (world_after (course_of m) earlier later.0).sent told a.request)
    (λ a asked. inl (keeps-world_after (course_of m) (λ (w : World S). HasAsked w.sent a.request) (keeps-sent (course_of m) a.request) earlier later.0 asked))
    earlier.accepted (right-after m (course_of m) g (take k ls)).all.asked)

-- of two numbers one is no more than the other
in_order : (j k : ℕ) → (j ≤ k) ⊎ (k ≤ j)
in_order zero k = inl (omega arith)
in_order (suc j) zero = inr (omega arith)
in_order (suc j) (suc k) = elim (in_order j k) [ inl le ↦ inl (omega (arith, le)) | inr le ↦ inr (omega (arith, le)) ]

-- whatever was accepted and whenever, its request had been sent by a line, or it states what its client knew then
pub past-known : {S : Type 0} (m : Meaning S) (g : Header) (ls : List Line) (j k : ℕ)
    → Each (λ a. IsPast (world_at m g ls j).sent (lines_told (course_of m) (begun m g) (take j ls)) a.request) (world_at m g ls k).accepted
past-known m g ls j k = elim (in_order j k) [ inl le ↦ past-later m g ls j k le | inr le ↦ past-earlier m g ls j k le ]
