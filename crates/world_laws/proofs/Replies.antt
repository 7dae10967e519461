-- Each reply that a node holds, or has sent, tells an execution of the chosen list.
use Rattle.std.proofs.Common.{◌≡◌, ℕ, ◌+◌, ◌++◌, ◌∙◌, ◌==◌, List, [], ◌∷◌, length, take, refl, ap, sym, subst, Option, Some, None}
use Rattle.std.specs.Prelude.{slice_get, slice_set}
use Rattle.smart_base.specs.Lists.{Each}
use Rattle.smart_base.specs.Views.{View}
use Rattle.smart_statements.specs.Forms.{SignedBy}
use Rattle.smart_statements.specs.Batches.{Batch}
use Rattle.smart_statements.specs.declared.entry.NodeEvent.{NodeEvent}
use Rattle.smart_statements.specs.declared.statement.Answer.{Answer}
use Rattle.smart_messages.specs.declared.message.Message.{Message}
use Rattle.smart_service.specs.Services.{Meaning}
use Rattle.node_rules.specs.Nodes.{next_place, view_of}
use Rattle.node_rules.specs.Steps.{Outcome, step_of, leaving}
use Rattle.node_rules.specs.Reopening.{reopened_from}
use Rattle.node_rules.specs.declared.node.Held.{Held}
use Rattle.world_rules.specs.Secrets.{group_secret}
use Rattle.world_rules.specs.Clients.{heard_word}
use Rattle.world_rules.specs.Worlds.{Course, course_of, Host, World, posts, sends_all, chosen_with, host_after, host_crashed, host_resumed, stepped, hearing, hosts_from, begun, parts_held, new_host}
use Rattle.client_quorum.specs.declared.client.Client.{Client}
use Rattle.client_quorum.specs.declared.client.Word.{Word}
use Rattle.client_quorum.specs.declared.client.Heard.{Heard}
use Rattle.world_rules.specs.declared.message.Origin.{Origin}
use Rattle.world_rules.specs.declared.message.Origin.TheVariants as origins
use Rattle.world_rules.specs.declared.message.Content.{Content}
use Rattle.world_rules.specs.declared.message.Content.TheVariants as contents
use Rattle.world_rules.specs.declared.message.Sent.{Sent}
use Rattle.agreement_laws.specs.Statements.{Replied}
use Rattle.agreement_laws.proofs.Lists.{each_among, either, each_end}
use Rattle.replica_laws.proofs.Waiting.{each-leaving}
use Rattle.world_laws.proofs.Lists.{each_set, each_get, each_insert}
use Rattle.world_laws.proofs.Chosen.{chosen-front}
use Rattle.world_laws.proofs.Fronts.{front-take, front-batch_at}
use Rattle.replica_rules.specs.Replicas.{state}
use Rattle.world_laws.proofs.Keeps.{after_call, set_there, keeps-sends_all, with_host, node_resumed, ask_of, asked_by, by-posts, KeepsAll, signed_by, from_node, from_client, from_script}
use Rattle.world_laws.proofs.Unforged.{NodeStates, reply_content}
use Rattle.world_laws.proofs.Aligned.{Aligned, AllAligned}
use Rattle.replica_laws.specs.Lines.{ReplyRight, HeldRight, IsExecuted}
use Rattle.replica_laws.proofs.Telling.{Along, right-more, held-step, table_lines}
use Rattle.node_laws.proofs.Passes.{each_staying}
use Rattle.smart_base.proofs.ViewFacts.{each-weaken}
use Rattle.world_rules.specs.declared.line.Header.{Header}
use Rattle.world_laws.proofs.Reopens.{from_held}
use Rattle.node_rules.specs.declared.node.Parts.{Parts}

-- so does what a node sends. Of what clients send and scripts inject nothing is said
abbrev pub ContentRight : {S : Type 0} → Meaning S → View → List Batch → Content → Type 0
ContentRight m view chosen (contents.Message x) = ReplyRight m view chosen x
ContentRight m view chosen (contents.Raw bytes) = Unit {0}

abbrev pub RightFrom : {S : Type 0} → Meaning S → View → List Batch → Origin → Content → Type 0
RightFrom m view chosen (origins.Node id) x = ContentRight m view chosen x
RightFrom m view chosen (origins.Client id) x = Unit {0}
RightFrom m view chosen origins.Script x = Unit {0}

-- each reply that is held or that a node has sent tells an execution of the chosen list
pub record RepliesRight {S : Type 0} (m : Meaning S) (w : World S) : Type 0 where
  pub sent : Each (λ s. RightFrom m w.view w.chosen s.origin s.content) w.sent
  pub held : Each (λ h. HeldRight m w.view w.chosen h.node) w.hosts

-- a list that grows

-- what a reply tells stays told where a batch is chosen
right-chosen : {S : Type 0} (m : Meaning S) (v : View) (chosen : List Batch) (place : ℕ) (waiting : Option Batch) (x : Message) → ReplyRight m v chosen x
    → ReplyRight m v (chosen_with chosen place waiting) x
right-chosen m v chosen place None x right = right
right-chosen m v chosen place (Some batch) x right =
    either (λ (list : List Batch). ReplyRight m v list x) (place == length chosen + 1) (chosen ++ batch ∷ []) chosen (right-more m v chosen (batch ∷ []) x right) right

-- so does what was sent
from-chosen : {S : Type 0} (m : Meaning S) (v : View) (chosen : List Batch) (place : ℕ) (waiting : Option Batch) (o : Origin) (x : Content) → RightFrom m v chosen o x
    → RightFrom m v (chosen_with chosen place waiting) o x
from-chosen m v chosen place waiting (origins.Node id) (contents.Message x) right = right-chosen m v chosen place waiting x right
from-chosen m v chosen place waiting (origins.Node id) (contents.Raw bytes) right = tt
from-chosen m v chosen place waiting (origins.Client id) x right = tt
from-chosen m v chosen place waiting origins.Script x right = tt

-- a host along a list has a node along it
along-aligned : {S : Type 0} (m : Meaning S) (view : View) (chosen : List Batch) (h : Host S) → Aligned m view chosen h → Along m view chosen h.node
along-aligned m view chosen h a = record { replica = a.replica; waiting = a.waiting }

-- messages that leave

-- what is right is sent
right-posts : {S : Type 0} (m : Meaning S) (w : World S) (s : Sent) → RightFrom m w.view w.chosen s.origin s.content → RepliesRight m w → RepliesRight m (posts w s)
right-posts {S = S} m w s right r =
    by-posts (λ (v : World S). RepliesRight m v) w s (λ ending. record { sent = r.sent; held = r.held })
    (λ free room. record { sent = each_end (λ (t : Sent). RightFrom m w.view w.chosen t.origin t.content) w.sent s r.sent right; held = r.held })

-- the view and the list stay where more is sent
same_list-posts : {S : Type 0} (m : Meaning S) (w : World S) (s : Sent) (x : Message) → ReplyRight m w.view w.chosen x → ReplyRight m (posts w s).view (posts w s).chosen x
same_list-posts {S = S} m w s x right = by-posts (λ (v : World S). ReplyRight m v.view v.chosen x) w s (λ ending. right) (λ free room. right)

-- right messages leave
right-sends_all : {S : Type 0} (m : Meaning S) (id : ℕ) (view : View) (w : World S) (held : List Held) → Each (λ h. ReplyRight m w.view w.chosen h.message) held → RepliesRight m w → RepliesRight m (sends_all id view w held)
right-sends_all m id view w [] each r = r
right-sends_all {S = S} m id view w (h ∷ hs) each r =
    let next : World S = posts w (from_node w id view h) in
    right-sends_all m id view next hs
    (each-weaken (λ (x : Held). ReplyRight m w.view w.chosen x.message) (λ (x : Held). ReplyRight m next.view next.chosen x.message)
    (λ x. same_list-posts m w (from_node w id view h) x.message) hs each.1)
    (right-posts m w (from_node w id view h) each.0 r)

-- events of a world

-- the list behind a node's step
abbrev list_after : {S : Type 0} → World S → Outcome S → List Batch
list_after w o = chosen_with w.chosen (next_place o.node) o.node.waiting

-- what a node holds of right replies it holds by that list
held-longer : {S : Type 0} (m : Meaning S) (w : World S) (o : Outcome S) (held : List Held) → Each (λ h. ReplyRight m w.view w.chosen h.message) held → Each (λ h. ReplyRight m w.view (list_after w o) h.message) held
held-longer m w o held each =
    each-weaken (λ (x : Held). ReplyRight m w.view w.chosen x.message) (λ (x : Held). ReplyRight m w.view (list_after w o) x.message)
    (λ x. right-chosen m w.view w.chosen (next_place o.node) o.node.waiting x.message) held each

-- a node's step, whose held replies are right behind it
right-stepped : {S : Type 0} (course : Course S) (m : Meaning S) (w : World S) (i : ℕ) (h : Host S) (o : Outcome S) → HeldRight m w.view (list_after w o) o.node → RepliesRight m w → RepliesRight m (stepped course w i h o)
unfolding stepped
right-stepped {S = S} course m w i h o all r =
    let chosen : List Batch = list_after w o in
    right-sends_all m h.node.id (view_of o.node) _ (leaving o.node.firm o.node.held) (each-leaving (λ x. ReplyRight m w.view chosen x.message) o.node.firm o.node.held all)
    (record {
      sent = each-weaken (λ (s : Sent). RightFrom m w.view w.chosen s.origin s.content) (λ (s : Sent). RightFrom m w.view chosen s.origin s.content)
          (λ s. from-chosen m w.view w.chosen (next_place o.node) o.node.waiting s.origin s.content) w.sent r.sent;
      held = each_set (λ (g : Host S). HeldRight m w.view chosen g.node) w.hosts i (host_after course h o)
          (each-weaken (λ (g : Host S). HeldRight m w.view w.chosen g.node) (λ (g : Host S). HeldRight m w.view chosen g.node)
          (λ g. held-longer m w o g.node.held) w.hosts r.held)
          (each_staying (λ x. ReplyRight m w.view chosen x.message) o.node.firm o.node.held all);
    })

-- the hosts, the view and the list behind a step
step-world : {S : Type 0} (course : Course S) (w : World S) (i : ℕ) (h : Host S) (o : Outcome S)
    → ((stepped course w i h o).hosts ≡ slice_set w.hosts i (host_after course h o)) × ((stepped course w i h o).view ≡ w.view) × ((stepped course w i h o).chosen ≡ list_after w o)
unfolding stepped
step-world {S = S} course w i h o =
    keeps-sends_all (λ (v : World S). (v.hosts ≡ slice_set w.hosts i (host_after course h o)) × (v.view ≡ w.view) × (v.chosen ≡ list_after w o)) h.node.id (view_of o.node)
    (λ v held is. by-posts (λ (u : World S). (u.hosts ≡ slice_set w.hosts i (host_after course h o)) × (u.view ≡ w.view) × (u.chosen ≡ list_after w o)) v (from_node v h.node.id (view_of o.node) held) (λ ending. is) (λ free room. is))
    _ (leaving o.node.firm o.node.held) (refl, refl, refl)

-- the host that took the step stands along the list
stepped-aligned : {S : Type 0} (course : Course S) (m : Meaning S) (w : World S) (i : ℕ) (h : Host S) (o : Outcome S) → slice_get w.hosts i ≡ Some h → AllAligned m (stepped course w i h o)
    → Aligned m w.view (list_after w o) (host_after course h o)
stepped-aligned {S = S} course m w i h o at all =
    let v : World S = stepped course w i h o in
    let is = step-world course w i h o in
    let h' : Host S = host_after course h o in
    let each : Each (Aligned m v.view v.chosen) (slice_set w.hosts i h') = subst (λ (hosts : List (Host S)). Each (Aligned m v.view v.chosen) hosts) is.0 all.hosts in
    let own : Aligned m v.view v.chosen h' = each_get (Aligned m v.view v.chosen) (slice_set w.hosts i h') i h' each (set_there w.hosts i h h' at) in
    subst (λ (bs : List Batch). Aligned m w.view bs h') is.2 (subst (λ (view : View). Aligned m view v.chosen h') is.1 own)

-- a host along a list has a node along the longer list behind a step
along-after : {S : Type 0} (m : Meaning S) (w : World S) (h : Host S) (o : Outcome S) → Aligned m w.view w.chosen h → Along m w.view (list_after w o) h.node
along-after {S = S} m w h o a =
    let front : take (length w.chosen) (list_after w o) ≡ w.chosen = chosen-front w.chosen (next_place o.node) o.node.waiting in
    record {
      replica = a.replica ∙ ap (λ (bs : List Batch). state m w.view bs) (front-take w.chosen (list_after w o) h.node.replica.place front a.within);
      waiting = λ batch at. front-batch_at w.chosen (list_after w o) (h.node.replica.place + 1) batch front (a.waiting batch at);
    }

-- the replies that a node holds behind a step are right, if its host stands along the list then
held-after : {S : Type 0} (m : Meaning S) (w : World S) (i : ℕ) (h : Host S) (event : NodeEvent) → slice_get w.hosts i ≡ Some h → AllAligned m w → AllAligned m (stepped (course_of m) w i h (step_of m h.node event))
    → HeldRight m w.view w.chosen h.node → HeldRight m w.view (list_after w (step_of m h.node event)) (step_of m h.node event).node
held-after {S = S} m w i h event at before after held =
    let o : Outcome S = step_of m h.node event in
    let stands : Along m w.view (list_after w o) (host_after (course_of m) h o).node =
    along-aligned m w.view (list_after w o) (host_after (course_of m) h o) (stepped-aligned (course_of m) m w i h o at after) in
    held-step m w.view (list_after w o) h.node event (along-after m w h o (each_get (Aligned m w.view w.chosen) w.hosts i h before.hosts at))
    (table_lines m w.view (list_after w o) (host_after (course_of m) h o).node stands) (held-longer m w o h.node.held held)

-- a client that hears sends nothing
right-hearing : {S : Type 0} (m : Meaning S) (w : World S) (i : ℕ) (c : Client) (a : Word) (h : Heard) → RepliesRight m w → RepliesRight m (hearing w i c a h)
unfolding hearing
right-hearing m w i c a h r = record { sent = r.sent; held = r.held }

-- what the node of a host holds
held-at : {S : Type 0} (m : Meaning S) (w : World S) (i : ℕ) (h : Host S) → slice_get w.hosts i ≡ Some h → RepliesRight m w → HeldRight m w.view w.chosen h.node
held-at {S = S} m w i h at r = each_get (λ (g : Host S). HeldRight m w.view w.chosen g.node) w.hosts i h r.held at

-- another host in its place, whose node holds right replies
right-host : {S : Type 0} (m : Meaning S) (w : World S) (i : ℕ) (h : Host S) → HeldRight m w.view w.chosen h.node → RepliesRight m w → RepliesRight m (with_host w i h)
right-host {S = S} m w i h held r = record { sent = r.sent; held = each_set (λ (g : Host S). HeldRight m w.view w.chosen g.node) w.hosts i h r.held held }

-- a node that goes on after a crash holds nothing
held-reopened : {S : Type 0} (m : Meaning S) (v : View) (chosen : List Batch) (secret : List ℕ) (id : ℕ) (view : View) (period : ℕ) (parts : Parts) → HeldRight m v chosen (reopened_from m secret id view period parts)
held-reopened {S = S} m v chosen secret id view period parts =
    subst (λ (hs : List Held). Each (λ x. ReplyRight m v chosen x.message) hs) (sym (from_held m secret id view period parts)) tt

-- where hosts stand along the chosen list, each event keeps all replies right
pub keeps-replies : {S : Type 0} (m : Meaning S) (P : World S → Type 0) → KeepsAll (course_of m) P → ((w : World S) → P w → AllAligned m w) → KeepsAll (course_of m) (λ w. P w × RepliesRight m w)
keeps-replies {S = S} m P k aligned =
    record {
      kept = record {
        event = λ w i h event up at may p.
            let q = k.kept.event w i h event up at may p.0 in (
              q,
              right-stepped (course_of m) m w i h (step_of m h.node event)
                  (held-after m w i h event at (aligned w p.0) (aligned (stepped (course_of m) w i h (step_of m h.node event)) q) (held-at m w i h at p.1)) p.1,
            );
        disk = λ w i h up at p. (k.kept.disk w i h up at p.0, right-host m w i (after_call (course_of m) h) (held-at m w i h at p.1) p.1);
        crash = λ w i h left up at may p. (k.kept.crash w i h left up at may p.0, right-host m w i (host_crashed (course_of m) h left) (held-at m w i h at p.1) p.1);
        hear = λ w i c x a on at has read p. (k.kept.hear w i c x a on at has read p.0, right-hearing m w i c a (heard_word c a) p.1);
        ask = λ w i c op at free few brief p. (
          k.kept.ask w i c op at free few brief p.0,
          right-posts m (asked_by w i c op) (from_client c (ask_of c op)) tt
              (record { sent = p.1.sent; held = p.1.held }),
        );
        again = λ w i c q at waits p. (k.kept.again w i c q at waits p.0, right-posts m w (from_client c (signed_by c q)) tt p.1);
        learn = λ w i j c d at other p. (k.kept.learn w i j c d at other p.0, record { sent = p.1.sent; held = p.1.held });
        inject = λ w x read fine p. (k.kept.inject w x read fine p.0, right-posts m w (from_script x) tt p.1);
        declare = λ w faulty rogue ending how p. (k.kept.declare w faulty rogue ending how p.0, record { sent = p.1.sent; held = p.1.held });
        same = λ w mark told p. (k.kept.same w mark told p.0, record { sent = p.1.sent; held = p.1.held });
        meet = λ w texts on p. (k.kept.meet w texts on p.0, record { sent = p.1.sent; held = p.1.held });
      };
      resume = λ w i h down at p. (
        k.resume w i h down at p.0,
        right-host m w i (host_resumed h (node_resumed (course_of m) w h))
            (held-reopened m w.view w.chosen group_secret h.node.id w.view w.period (parts_held h)) p.1,
      );
      add = λ w i member on new p. (
        k.add w i member on new p.0,
        record { sent = p.1.sent; held = each_insert (λ (g : Host S). HeldRight m w.view w.chosen g.node) w.hosts i (new_host m w member) p.1.held tt },
      );
    }

-- opened nodes hold nothing
held-hosts_from : {S : Type 0} (m : Meaning S) (view : View) (period : ℕ) (v : View) (chosen : List Batch) (ids : List ℕ) → Each (λ h. HeldRight m v chosen h.node) (hosts_from m view period ids)
held-hosts_from m view period v chosen [] = tt
held-hosts_from m view period v chosen (id ∷ ids) = (tt, held-hosts_from m view period v chosen ids)

-- in the beginning there are no replies
pub replies-begun : {S : Type 0} (m : Meaning S) (g : Header) → RepliesRight m (begun m g)
replies-begun m g = record { sent = tt; held = held-hosts_from m g.view g.period g.view [] g.view.members }

-- replies that were sent

-- a reply that stands in a message that a node has sent tells an execution
pub reply_stated : {S : Type 0} (m : Meaning S) (w : World S) (id : ℕ) (a : SignedBy Answer) → RepliesRight m w → NodeStates w.sent id (Replied a) → IsExecuted m w.view w.chosen a.statement
reply_stated m w id a r source =
    let right : RightFrom m w.view w.chosen source.message.origin source.message.content =
    each_among (λ (s : Sent). RightFrom m w.view w.chosen s.origin s.content) w.sent source.message r.sent source.there in
    subst (ContentRight m w.view w.chosen) (reply_content source.message.content a source.states) (subst (λ (o : Origin). RightFrom m w.view w.chosen o source.message.content) source.from right)
