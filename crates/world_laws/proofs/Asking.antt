-- Clients number their requests, and accept one reply to each number.
use Rattle.std.proofs.Common.{◌≡◌, ℕ, zero, suc, ◌+◌, ◌++◌, ◌≤◌, List, [], ◌∷◌, refl, ap, ◌∙◌, sym, Option, Some, None, inl, inr, ◌⊎◌, subst, arith, max, append-nil}
use Rattle.smart_statements.specs.Batches.{Batch}
use Rattle.node_rules.specs.Nodes.{view_of, next_place}
use Rattle.std.specs.Prelude.{slice_get, slice_set}
use Rattle.std.specs.List.{flat_map}
use Rattle.smart_base.specs.Lists.{Each}
use Rattle.smart_base.specs.Views.{View}
use Rattle.smart_statements.specs.Forms.{SignedBy}
use Rattle.smart_statements.specs.declared.statement.Request.{Request}
use Rattle.smart_statements.specs.declared.statement.Answer.{Answer}
use Rattle.smart_messages.specs.declared.message.Message.TheVariants.{Ask}
use Rattle.smart_service.specs.Services.{Meaning}
use Rattle.node_rules.specs.Steps.{Outcome, leaving}
use Rattle.node_rules.specs.declared.node.Held.{Held}
use Rattle.client_quorum.specs.Clients.{fresh, request_of, asking, learning, acceptance}
use Rattle.world_rules.specs.Clients.{heard_word}
use Rattle.world_laws.specs.Promises.{HasAsked, AreApart, IsAskedIn}
use Rattle.world_rules.specs.Worlds.{Course, Host, World, posts, all_ending, snapshot_in, stepped, acceptance_in, hearing, clients_from, begun, chosen_with, ending_few}
use Rattle.world_rules.specs.Plays.{rested, world_after}
use Rattle.client_quorum.specs.declared.client.Client.{Client}
use Rattle.world_rules.specs.declared.line.Line.{Line}
use Rattle.client_quorum.specs.declared.client.Acceptance.{Acceptance}
use Rattle.client_quorum.specs.declared.client.Heard.{Heard}
use Rattle.world_rules.specs.declared.message.Ending.{Ending}
use Rattle.world_rules.specs.declared.message.Origin.TheVariants as origins
use Rattle.world_rules.specs.declared.message.Sent.{Sent}
use Rattle.world_laws.proofs.Numbered.{EachAt, each_at_get, each_at_weaker, each_at_set}
use Rattle.world_laws.proofs.Meeting.{met-goes_on, step-goes_on}
use Rattle.world_laws.proofs.Keeps.{ask_of, asked_by, by-posts-ended, KeepsLives, live-world_after, signed_by, from_node, from_client, from_script, keeps-sends_all}
use Rattle.world_laws.proofs.Asks.{asked_end, asked_now}
use Rattle.world_laws.proofs.Hearing.{Accepts, Does, word_does}
use Rattle.world_rules.specs.declared.message.Content.{Content}
use Rattle.world_rules.specs.declared.message.Content.TheVariants as contents
use Rattle.agreement_laws.proofs.Lists.{some_equal, each_end}
use Rattle.smart_base.proofs.ViewFacts.{each-weaken}
use Rattle.world_rules.specs.declared.line.Header.{Header}
use Rattle.client_quorum.specs.Readings.{after_word}
use Rattle.client_quorum.specs.declared.client.Word.{Word}

-- a request that waits is its client's last, no reply to its number was accepted, and it was asked, unless its message had no number any more
pub record Waits (sent : List Sent) (ending : Option Ending) (accepted : List Acceptance) (i last : ℕ) (q : Request) : Type 0 where
  pub client : q.client ≡ i
  pub seq : q.seq ≡ last
  pub new : Each (λ a. a.request.client ≡ i → a.request.seq ≡ q.seq → ⊥) accepted
  pub asked : ending ≡ None → HasAsked sent q

-- a client stands at its number, and has counted its requests
pub record ClientRight (sent : List Sent) (ending : Option Ending) (accepted : List Acceptance) (i : ℕ) (c : Client) : Type 0 where
  pub id : c.id ≡ i
  pub waits : (q : Request) → c.waiting ≡ Some q → Waits sent ending accepted i c.last q
  pub last : (q : Request) → HasAsked sent q → q.client ≡ i → q.seq ≤ c.last

-- all clients do, a client's request is known by its number, what was accepted was asked, and a client accepts one reply to each number
pub record Right (sent : List Sent) (ending : Option Ending) (clients : List Client) (accepted : List Acceptance) : Type 0 where
  pub each : EachAt (ClientRight sent ending accepted) clients
  pub one : (q r : Request) → HasAsked sent q → HasAsked sent r → q.client ≡ r.client → q.seq ≡ r.seq → q ≡ r
  pub asked : Each (λ a. HasAsked sent a.request) accepted
  pub apart : AreApart accepted

pub record ClientsRight {S : Type 0} (w : World S) : Type 0 where
  pub all : Right w.sent w.ending w.clients w.accepted

-- who asks

-- what was asked with one more sent, was asked before, or it is sent now
asks_one : (sent : List Sent) (s : Sent) (q : Request) → HasAsked (sent ++ s ∷ []) q → HasAsked sent q ⊎ IsAskedIn s q
asks_one [] s q asked = elim asked [ inl here ↦ inr here | inr later ↦ absurd later ]
asks_one (t ∷ sent) s q asked = elim asked [ inl here ↦ inl (inl here) | inr later ↦ elim (asks_one sent s q later) [ inl before ↦ inl (inr before) | inr now ↦ inr now ] ]

-- what is sent asks nothing
abbrev IsQuiet : Sent → Type 0
IsQuiet s = (q : Request) → IsAskedIn s q → ⊥

-- what a node sends
node_quiet : {S : Type 0} (w : World S) (id : ℕ) (view : View) (h : Held) → IsQuiet (from_node w id view h)
node_quiet w id view h q asks = other asks.origin
  where
    other : origins.Node id ≡ origins.Client q.client → ⊥
    other is = cc

-- and what a script injects
script_quiet : (x : Content) → IsQuiet (from_script x)
script_quiet x q asks = other asks.origin
  where
    other : origins.Script ≡ origins.Client q.client → ⊥
    other is = cc

-- so what was asked then, was asked before
quiet_asks : (sent : List Sent) (s : Sent) → IsQuiet s → (q : Request) → HasAsked (sent ++ s ∷ []) q → HasAsked sent q
quiet_asks sent s quiet q asked = elim (asks_one sent s q asked) [ inl before ↦ before | inr now ↦ absurd (quiet q now) ]

-- a client asks the request that it sends
client_asks_one : (sent : List Sent) (c : Client) (new q : Request) → HasAsked (sent ++ from_client c (signed_by c new) ∷ []) q → HasAsked sent q ⊎ (q ≡ new)
client_asks_one sent c new q asked =
    elim (asks_one sent (from_client c (signed_by c new)) q asked) [ inl before ↦ inl before | inr now ↦ inr (sym (ap (λ (x : Content). statement x new) now.content)) ]
  where
    statement : Content → Request → Request
    statement (contents.Message (Ask a)) r = a.statement
    statement (contents.Message _) r = r
    statement (contents.Raw bytes) r = r

-- messages leave

-- clients stay right where messages leave that ask nothing
right-sent : (sent sent' : List Sent) (ending ending' : Option Ending) (clients : List Client) (accepted : List Acceptance) → ((q : Request) → HasAsked sent q → HasAsked sent' q) → ((q : Request) → HasAsked sent' q → HasAsked sent q)
    → (ending' ≡ None → ending ≡ None) → Right sent ending clients accepted → Right sent' ending' clients accepted
right-sent sent sent' ending ending' clients accepted forth back on is =
    record {
      each = each_at_weaker (ClientRight sent ending accepted) (ClientRight sent' ending' accepted)
          (λ i c right. record {
            id = right.id;
            waits = λ q waits. let old = right.waits q waits in record { client = old.client; seq = old.seq; new = old.new; asked = λ goes_on. forth q (old.asked (on goes_on)) };
            last = λ q asked own. right.last q (back q asked) own;
          })
          clients is.each;
      one = λ q r asked_q asked_r. is.one q r (back q asked_q) (back r asked_r);
      asked = each-weaken (λ (a : Acceptance). HasAsked sent a.request) (λ (a : Acceptance). HasAsked sent' a.request) (λ a asked. forth a.request asked) accepted is.asked;
      apart = is.apart;
    }

-- what asks nothing leaves
right-posts : {S : Type 0} (w : World S) (s : Sent) → IsQuiet s → ClientsRight w → ClientsRight (posts w s)
right-posts {S = S} w s quiet is =
    by-posts-ended (λ (v : World S). ClientsRight v) w s
    (λ ending ended. record { all = right-sent w.sent w.sent w.ending ending w.clients w.accepted (λ q asked. asked) (λ q asked. asked) (λ on. absurd (ended on)) is.all })
    (λ free room. record { all = right-sent w.sent (w.sent ++ s ∷ []) w.ending w.ending w.clients w.accepted (asked_end w.sent s) (quiet_asks w.sent s quiet) (λ on. on) is.all })

-- a node takes an event
right-stepped : {S : Type 0} (course : Course S) (w : World S) (i : ℕ) (h : Host S) (o : Outcome S) → ClientsRight w → ClientsRight (stepped course w i h o)
unfolding stepped
right-stepped course w i h o is =
    let snapshots : List (List ℕ) = flat_map snapshot_in o.fired in
    let more : List Batch = chosen_with w.chosen (next_place o.node) o.node.waiting in
    keeps-sends_all ClientsRight h.node.id (view_of o.node) (λ v held right. right-posts v (from_node v h.node.id (view_of o.node) held) (node_quiet v h.node.id (view_of o.node) held) right) _ (leaving o.node.firm o.node.held)
    (record {
      all = right-sent w.sent w.sent w.ending (all_ending w.sent w.marked (ending_few w.view more w.faulty w.ending) snapshots) w.clients w.accepted (λ q asked. asked) (λ q asked. asked)
          (step-goes_on w.view more w.faulty w.sent w.marked w.ending snapshots) is.all;
    })

-- a client asks

-- clients stay right where one asks: its message has a number, or the play ends
right-ask : (sent sent' : List Sent) (ending ending' : Option Ending) (clients : List Client) (accepted : List Acceptance) (i : ℕ) (c : Client) (op : List ℕ)
    → slice_get clients i ≡ Some c → ((q : Request) → HasAsked sent q → HasAsked sent' q) → ((q : Request) → HasAsked sent' q → HasAsked sent q ⊎ (q ≡ request_of c op))
    → (ending' ≡ None → HasAsked sent' (request_of c op)) → (ending' ≡ None → ending ≡ None) → Right sent ending clients accepted
    → Right sent' ending' (slice_set clients i (asking c (request_of c op))) accepted
right-ask sent sent' ending ending' clients accepted i c op at forth back now on is =
    let new : Request = request_of c op in
    let own : ClientRight sent ending accepted i c = each_at_get (ClientRight sent ending accepted) clients i c is.each at in
    record {
      each = each_at_set (ClientRight sent ending accepted) (ClientRight sent' ending' accepted) clients i (asking c new)
          (λ j y other right. record {
            id = right.id;
            waits = λ q waits. let old = right.waits q waits in record { client = old.client; seq = old.seq; new = old.new; asked = λ goes_on. forth q (old.asked (on goes_on)) };
            last = λ q asked is_j. elim (back q asked) [ inl before ↦ right.last q before is_j | inr same ↦ absurd (other (sym is_j ∙ (ap (λ (r : Request). r.client) same ∙ own.id))) ];
          })
          is.each
          (record {
            id = own.id;
            waits = λ q waits. subst (Waits sent' ending' accepted i (c.last + 1)) (some_equal new q waits) (record { client = own.id; seq = refl; new = untouched; asked = now });
            last = λ q asked is_i. elim (back q asked) [ inl before ↦ more (own.last q before is_i) | inr same ↦ last_is (ap (λ (r : Request). r.seq) same) ];
          });
      one = λ q r asked_q asked_r client seq.
          elim (back q asked_q) [
            | inl q_before ↦ elim (back r asked_r) [
              | inl r_before ↦ is.one q r q_before r_before client seq
              | inr r_new ↦ absurd (past (own.last q q_before (client ∙ (ap (λ (x : Request). x.client) r_new ∙ own.id))) (seq ∙ ap (λ (x : Request). x.seq) r_new))
            ]
            | inr q_new ↦ elim (back r asked_r) [
              | inl r_before ↦ absurd (past (own.last r r_before (sym client ∙ (ap (λ (x : Request). x.client) q_new ∙ own.id))) (sym seq ∙ ap (λ (x : Request). x.seq) q_new))
              | inr r_new ↦ q_new ∙ sym r_new
            ]
          ];
      asked = each-weaken (λ (a : Acceptance). HasAsked sent a.request) (λ (a : Acceptance). HasAsked sent' a.request) (λ a asked. forth a.request asked) accepted is.asked;
      apart = is.apart;
    }
  where
    more : {s : ℕ} → s ≤ c.last → s ≤ c.last + 1
    more low = omega arith

    last_is : {s : ℕ} → s ≡ c.last + 1 → s ≤ c.last + 1
    last_is same = omega arith

    past : {s : ℕ} → s ≤ c.last → s ≡ c.last + 1 → ⊥
    past low same = omega arith

    untouched : Each (λ (a : Acceptance). a.request.client ≡ i → a.request.seq ≡ c.last + 1 → ⊥) accepted
    untouched =
        each-weaken (λ (a : Acceptance). HasAsked sent a.request) (λ (a : Acceptance). a.request.client ≡ i → a.request.seq ≡ c.last + 1 → ⊥)
        (λ a asked is_i same. past ((each_at_get (ClientRight sent ending accepted) clients i c is.each at).last a.request asked is_i) same) accepted is.asked

-- a client asks
right-asks : {S : Type 0} (w : World S) (i : ℕ) (c : Client) (op : List ℕ) → slice_get w.clients i ≡ Some c → ClientsRight w
    → ClientsRight (posts (asked_by w i c op) (from_client c (ask_of c op)))
right-asks {S = S} w i c op at is =
    let s : Sent = from_client c (ask_of c op) in
    by-posts-ended (λ (v : World S). ClientsRight v) (asked_by w i c op) s
    (λ ending ended. record {
      all = right-ask w.sent w.sent w.ending ending w.clients w.accepted i c op at (λ q asked. asked) (λ q asked. inl asked) (λ on. absurd (ended on)) (λ on. absurd (ended on)) is.all;
    })
    (λ free room. record {
      all = right-ask w.sent (w.sent ++ s ∷ []) w.ending w.ending w.clients w.accepted i c op at (asked_end w.sent s) (client_asks_one w.sent c (request_of c op))
          (λ on. asked_now w.sent s (request_of c op) (record { origin = refl; content = refl })) (λ on. on) is.all;
    })

-- a client hears

-- clients stay right where one hears a reply and accepts none
right-same : (sent : List Sent) (ending : Option Ending) (clients : List Client) (accepted : List Acceptance) (i : ℕ) (c' : Client) → ClientRight sent ending accepted i c' → Right sent ending clients accepted
    → Right sent ending (slice_set clients i c') (accepted ++ [])
right-same sent ending clients accepted i c' own is =
    subst (λ (xs : List Acceptance). Right sent ending (slice_set clients i c') xs) (sym (append-nil accepted))
    (record {
      each = each_at_set (ClientRight sent ending accepted) (ClientRight sent ending accepted) clients i c' (λ j y other right. right) is.each own;
      one = is.one;
      asked = is.asked;
      apart = is.apart;
    })

-- what is accepted last is of a number of which its client accepted no reply
apart_end : (accepted : List Acceptance) (b : Acceptance) → AreApart accepted → Each (λ a. b.request.client ≡ a.request.client → b.request.seq ≡ a.request.seq → ⊥) accepted
    → AreApart (accepted ++ b ∷ [])
apart_end [] b apart new = (tt, tt)
apart_end (a ∷ later) b apart new =
    (each_end (λ (x : Acceptance). x.request.client ≡ a.request.client → x.request.seq ≡ a.request.seq → ⊥) later b apart.0 new.0, apart_end later b apart.1 new.1)

-- the reply to the request that waits is accepted
right-accept : (sent : List Sent) (ending : Option Ending) (clients : List Client) (accepted : List Acceptance) (i : ℕ) (c : Client) (a : SignedBy Answer) (q : Request)
    → slice_get clients i ≡ Some c → c.waiting ≡ Some q → ending ≡ None → Right sent ending clients accepted
    → Right sent ending (slice_set clients i (record c { waiting = None; seen = max c.seen a.statement.place; replies = [] })) (accepted ++ acceptance q a.statement ∷ [])
right-accept sent ending clients accepted i c a q at waits on is =
    let own : ClientRight sent ending accepted i c = each_at_get (ClientRight sent ending accepted) clients i c is.each at in
    let old : Waits sent ending accepted i c.last q = own.waits q waits in
    record {
      each = each_at_set (ClientRight sent ending accepted) (ClientRight sent ending (accepted ++ acceptance q a.statement ∷ [])) clients i (record c { waiting = None; seen = max c.seen a.statement.place; replies = [] })
          (λ j y other right. record {
            id = right.id;
            waits = λ r waits. let own_r = right.waits r waits in record {
              client = own_r.client;
              seq = own_r.seq;
              new = each_end (λ (b : Acceptance). b.request.client ≡ j → b.request.seq ≡ r.seq → ⊥) accepted (acceptance q a.statement) own_r.new (λ is_j. absurd (other (sym is_j ∙ old.client)));
              asked = own_r.asked;
            };
            last = right.last;
          })
          is.each
          (record {
            id = own.id;
            waits = λ r none. absurd (no_request r none);
            last = own.last;
          });
      one = is.one;
      asked = each_end (λ (b : Acceptance). HasAsked sent b.request) accepted (acceptance q a.statement) is.asked (old.asked on);
      apart = apart_end accepted (acceptance q a.statement) is.apart
          (each-weaken (λ (b : Acceptance). b.request.client ≡ i → b.request.seq ≡ q.seq → ⊥) (λ (b : Acceptance). q.client ≡ b.request.client → q.seq ≡ b.request.seq → ⊥)
          (λ b new client seq. new (sym client ∙ old.client) (sym seq)) accepted old.new);
    }
  where
    no_request : (r : Request) → None ≡ Some r → ⊥
    no_request r same = cc

-- clients stay right where one hears a reply
right-heard : (sent : List Sent) (ending : Option Ending) (clients : List Client) (accepted : List Acceptance) (i : ℕ) (c : Client) (word : Word) (h : Heard) (after : Client)
    → slice_get clients i ≡ Some c → ending ≡ None → Does c word h after → Right sent ending clients accepted
    → Right sent ending (slice_set clients i after) (accepted ++ acceptance_in h)
right-heard sent ending clients accepted i c word h after at on (inl stays) is =
    let own : ClientRight sent ending accepted i c = each_at_get (ClientRight sent ending accepted) clients i c is.each at in
    let next : Client = record c { replies = stays.replies; views = stays.views; infos = stays.infos } in
    subst (λ (more : List Acceptance). Right sent ending (slice_set clients i after) (accepted ++ more)) (sym stays.none)
    (subst (λ (x : Client). Right sent ending (slice_set clients i x) (accepted ++ [])) (sym stays.next)
    (right-same sent ending clients accepted i next (record { id = own.id; waits = own.waits; last = own.last }) is))
right-heard sent ending clients accepted i c word h after at on (inr takes) is =
    let a : SignedBy Answer = takes.reply in
    let taken : Accepts c a takes.acceptance = takes.accepts in
    subst (λ (h : Heard). Right sent ending (slice_set clients i after) (accepted ++ acceptance_in h)) (sym takes.heard_is)
    (subst (λ (x : Client). Right sent ending (slice_set clients i x) (accepted ++ takes.acceptance ∷ [])) (sym takes.next)
    (subst (λ (b : Acceptance). Right sent ending (slice_set clients i (record c { waiting = None; seen = max c.seen a.statement.place; replies = [] })) (accepted ++ b ∷ [])) (sym taken.is)
    (right-accept sent ending clients accepted i c a taken.request at taken.counts.waits on is)))

-- a client sends its request once more

-- clients stay right where one sends once more what it asked
right-again : {S : Type 0} (w : World S) (i : ℕ) (c : Client) (q : Request) → w.ending ≡ None → slice_get w.clients i ≡ Some c → c.waiting ≡ Some q → ClientsRight w
    → ClientsRight (posts w (from_client c (signed_by c q)))
right-again {S = S} w i c q on at waits is =
    let s : Sent = from_client c (signed_by c q) in
    let own : ClientRight w.sent w.ending w.accepted i c = each_at_get (ClientRight w.sent w.ending w.accepted) w.clients i c is.all.each at in
    let before : HasAsked w.sent q = (own.waits q waits).asked on in
    by-posts-ended (λ (v : World S). ClientsRight v) w s
    (λ ending ended. record { all = right-sent w.sent w.sent w.ending ending w.clients w.accepted (λ r asked. asked) (λ r asked. asked) (λ on. absurd (ended on)) is.all })
    (λ free room. record {
      all = right-sent w.sent (w.sent ++ s ∷ []) w.ending w.ending w.clients w.accepted (asked_end w.sent s)
          (λ r asked. elim (client_asks_one w.sent c q r asked) [ inl old ↦ old | inr new ↦ subst (HasAsked w.sent) (sym new) before ])
          (λ on. on) is.all;
    })

-- a client is told of a place

-- clients stay right where one learns of a place
right-learn : (sent : List Sent) (ending : Option Ending) (clients : List Client) (accepted : List Acceptance) (i : ℕ) (c : Client) (place : ℕ) → slice_get clients i ≡ Some c → Right sent ending clients accepted
    → Right sent ending (slice_set clients i (learning c place)) accepted
right-learn sent ending clients accepted i c place at is =
    let own : ClientRight sent ending accepted i c = each_at_get (ClientRight sent ending accepted) clients i c is.each at in
    record {
      each = each_at_set (ClientRight sent ending accepted) (ClientRight sent ending accepted) clients i (learning c place) (λ j y other right. right) is.each
          (record { id = own.id; waits = own.waits; last = own.last });
      one = is.one;
      asked = is.asked;
      apart = is.apart;
    }

-- clients stay right, whatever the nodes do
pub keeps-right : {S : Type 0} (course : Course S) → KeepsLives course ClientsRight
unfolding hearing
keeps-right course =
    record {
      live = record {
        event = λ w i h event on up at may is. right-stepped course w i h (course.step h.node event) is;
        disk = λ w i h on up at is. record { all = is.all };
        hear = λ w i c x a on at has read is. record { all = right-heard w.sent w.ending w.clients w.accepted i c a (heard_word c a) (after_word c a (heard_word c a)) at on (word_does c a) is.all };
        ask = λ w i c op on at free few brief is. right-asks w i c op at is;
        again = λ w i c q on at waits is. right-again w i c q on at waits is;
        learn = λ w i j c d on at other is. record { all = right-learn w.sent w.ending w.clients w.accepted i c d.seen at is.all };
        inject = λ w x on read fine is. right-posts w (from_script x) (script_quiet x) is;
        declare = λ w faulty rogue ending on how is. record { all = right-sent w.sent w.sent w.ending ending w.clients w.accepted (λ q asked. asked) (λ q asked. asked) how.over is.all };
        mark = λ w s on at is. record { all = is.all };
        meet = λ w texts on is.
            record { all = right-sent w.sent w.sent w.ending (all_ending w.sent w.marked w.ending texts) w.clients w.accepted (λ q asked. asked) (λ q asked. asked) (met-goes_on w.sent w.marked w.ending texts) is.all };
        tell = λ w line aside is. record { all = is.all };
      };
      crash = λ w i h left on up at may is. record { all = is.all };
      resume = λ w i h on down at is. record { all = is.all };
      add = λ w i member on new is. record { all = is.all };
    }

-- between two lines
pub rested-right : {S : Type 0} (w : World S) → ClientsRight w → ClientsRight (rested w)
rested-right w is = record { all = is.all }

-- the beginning

-- what holds of each fresh client
pub each_fresh : (P : ℕ → Client → Type 0) (view : View) (count i : ℕ) → ((k : ℕ) → P k (fresh view (i + k))) → EachAt P (clients_from view count i)
unfolding clients_from
each_fresh P view zero i each = tt
each_fresh P view (suc count) i each = (
  subst (λ (n : ℕ). P zero (fresh view n)) (omega arith) (each zero),
  each_fresh (λ k. P (suc k)) view count (i + 1) (λ k. subst (λ (n : ℕ). P (suc k) (fresh view n)) (omega arith) (each (suc k))),
)

-- clients begin right
pub right-begun : {S : Type 0} (m : Meaning S) (g : Header) → ClientsRight (begun m g)
right-begun m g =
    record {
      all = record {
        each = each_fresh (ClientRight [] None []) g.view 1025 0 (λ k. record { id = omega arith; waits = λ q waits. absurd (no_request q waits); last = λ q asked own. absurd asked });
        one = λ q r asked_q. absurd asked_q;
        asked = tt;
        apart = tt;
      };
    }
  where
    no_request : (r : Request) → None ≡ Some r → ⊥
    no_request r same = cc

-- after any lines of any script, clients are right
pub right-after : {S : Type 0} (m : Meaning S) (course : Course S) (g : Header) (ls : List Line) → ClientsRight (world_after course (begun m g) ls)
right-after m course g ls = live-world_after course ClientsRight (keeps-right course) rested-right (begun m g) ls (right-begun m g)
