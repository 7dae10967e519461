-- What a node has sent went to those that hear it in the view in force where the node stood then.
use Rattle.std.proofs.Common.{◌≡◌, ⊎_elim, ℕ, zero, suc, ◌+◌, ◌-◌, ◌≤◌, nat_lt, ◌∙◌, Bool, true, false, cond, List, [], ◌∷◌, length, take, sym, subst, ap, refl, inl, inr, Some, arith}
use Rattle.std.proofs.lemmas.Bool.{lt-ltb}
use Rattle.std.proofs.lemmas.List.{take-take}
use Rattle.std.specs.Prelude.{slice_get, slice_set}
use Rattle.smart_base.specs.Lists.{Each}
use Rattle.smart_base.specs.Views.{View, present}
use Rattle.smart_base.specs.declared.party.Party.{Party}
use Rattle.smart_base.proofs.ViewFacts.{each-weaken}
use Rattle.smart_statements.specs.Batches.{Batch}
use Rattle.smart_statements.specs.declared.entry.NodeEvent.{NodeEvent}
use Rattle.smart_service.specs.Services.{Meaning}
use Rattle.vote_book.specs.Books.{Among}
use Rattle.replica_rules.specs.Replicas.{view_at, views_after}
use Rattle.replica_rules.proofs.Managed.{at_front}
use Rattle.node_rules.specs.Nodes.{Node, next_place, view_of}
use Rattle.node_rules.specs.Steps.{Outcome, step_of, leaving}
use Rattle.node_rules.specs.declared.node.Held.{Held}
use Rattle.agreement_laws.proofs.Lists.{among_either, among_left, among_right, each_end, each_from}
use Rattle.node_laws.proofs.ListedViews.{present_there}
use Rattle.node_laws.proofs.Passes.{each_staying}
use Rattle.node_laws.proofs.Views.{known_most, some_numbered}
use Rattle.replica_laws.specs.Sending.{IsOwn, HoldsUpTo, NamesUpTo}
use Rattle.replica_laws.proofs.Named.{names-more, names-step}
use Rattle.replica_laws.proofs.Onward.{HoldsRight, onward-step}
use Rattle.replica_laws.proofs.Small.{IsBrief}
use Rattle.replica_laws.proofs.Waiting.{each-leaving}
use Rattle.client_quorum.specs.Clients.{asking, learning, request_of}
use Rattle.client_quorum.specs.Readings.{after_word}
use Rattle.client_quorum.specs.declared.client.Client.{Client}
use Rattle.client_quorum.specs.declared.client.Heard.{Heard}
use Rattle.client_quorum.specs.declared.client.Heard.TheVariants as hears
use Rattle.client_quorum.specs.declared.client.Word.{Word}
use Rattle.client_quorum.specs.declared.client.Word.TheVariants as words
use Rattle.world_rules.specs.Secrets.{group_secret}
use Rattle.world_rules.specs.Clients.{heard_word}
use Rattle.world_rules.specs.Plays.{world_after}
use Rattle.world_rules.specs.Worlds.{Course, course_of, Host, World, posts, sends_all, chosen_with, heard_by, asked_in, asked_by as has_asked_by, has_asked, host_after, host_crashed, host_resumed, stepped, hearing, hosts_from, begun, parts_held, new_host}
use Rattle.world_rules.specs.declared.line.Header.{Header}
use Rattle.world_rules.specs.declared.line.Line.{Line}
use Rattle.world_rules.specs.declared.message.Content.{Content}
use Rattle.world_rules.specs.declared.message.Origin.{Origin}
use Rattle.world_rules.specs.declared.message.Origin.TheVariants as origins
use Rattle.world_rules.specs.declared.message.Sent.{Sent}
use Rattle.world_laws.specs.Promises.{IsHeader}
use Rattle.world_laws.specs.Sending.{IsAddressed, IsAddressedFrom, IsNamedUpTo}
use Rattle.world_laws.proofs.Borne.{HostRests, RightBorne, borne-begun, right-borne}
use Rattle.world_laws.proofs.Chosen.{ChosenRight, HostRight, chosen-front}
use Rattle.world_laws.proofs.ChosenKept.{event-right, host-right}
use Rattle.world_laws.proofs.ClientNames.{number-heard}
use Rattle.world_laws.proofs.ClientViews.{known-begun}
use Rattle.world_laws.proofs.Delivering.{named-step}
use Rattle.world_laws.proofs.Fronts.{front-length, front-same}
use Rattle.world_laws.proofs.Keeps.{after_call, with_host, node_resumed, ask_of, asked_by, by-posts, IsUp, KeepsAll, MayTake, signed_by, from_node, from_client, from_script, keeps-world_after}
use Rattle.world_laws.proofs.ListViews.{front_there, node_views}
use Rattle.world_laws.proofs.Lists.{each_set, each_get, each_insert}
use Rattle.world_laws.proofs.Reopens.{from_held}
use Rattle.world_laws.proofs.Snapshots.{IsRestorable}
use Rattle.world_laws.proofs.Views.{place-step}
use Rattle.world_laws.proofs.Wholes.{IsAt, at_longer}

-- what a node holds names nothing further than where the node stands
abbrev NamesOwn : {S : Type 0} → Node S → Type 0
NamesOwn n = HoldsUpTo (view_of n).number n.replica.place n

-- a world in which that holds of each node, and all that nodes have sent was addressed so
pub record AllAddressed {S : Type 0} (w : World S) : Type 0 where
  pub sent : Each (λ s. IsAddressedFrom w.view w.chosen (asked_in w.clients) s.origin s.to s.content) w.sent
  pub held : Each (λ h. NamesOwn h.node) w.hosts

-- ---- longer lists, and more clients that have asked

addressed-longer : (first : View) (list more : List Batch) (asked later : List ℕ) → take (length list) more ≡ list → ((client : ℕ) → Among client asked → Among client later) → (o : Origin) (to : List Party) (x : Content)
    → IsAddressedFrom first list asked o to x → IsAddressedFrom first more later o to x
addressed-longer first list more asked later front grows (origins.Node id) to x is =
    let reached = is.reached in
    let long = front-length list more front in
    let same : view_at first list (is.place + 1) ≡ view_at first more (is.place + 1) =
    ap (λ (bs : List Batch). view_at first bs (is.place + 1)) (sym front) ∙ at_front first (length list) more (is.place + 1) (omega (arith, reached)) in
    record {
      place = is.place;
      reached = omega (arith, reached, long);
      clients = is.clients;
      have_asked = each-weaken (λ (client : ℕ). Among client asked) (λ (client : ℕ). Among client later) grows is.clients is.have_asked;
      target = is.target;
      addressed = is.addressed ∙ ap (λ (v : View). heard_by v is.clients is.target) same;
      own = is.own;
      named = subst (λ (v : View). IsNamedUpTo v.number is.place x) same is.named;
    }
addressed-longer first list more asked later front grows (origins.Client id) to x is = tt
addressed-longer first list more asked later front grows origins.Script to x is = tt

-- ---- messages leave

addressed-posts : {S : Type 0} (w : World S) (s : Sent) → IsAddressedFrom w.view w.chosen (asked_in w.clients) s.origin s.to s.content → AllAddressed w → AllAddressed (posts w s)
addressed-posts {S = S} w s here is =
    by-posts (λ (v : World S). AllAddressed v) w s (λ ending. record { sent = is.sent; held = is.held })
    (λ free room. record { sent = each_end (λ (x : Sent). IsAddressedFrom w.view w.chosen (asked_in w.clients) x.origin x.to x.content) w.sent s is.sent here; held = is.held })

-- a message of a node's own that names nothing further than a view and a place
abbrev Leaves : ℕ → View → ℕ → Held → Type 0
Leaves id view place h = IsOwn id h.to h.message × NamesUpTo view.number place h.message

addressed-sends_all : {S : Type 0} (id place : ℕ) (view : View) (w : World S) (held : List Held) → view ≡ view_at w.view w.chosen (place + 1) → place ≤ length w.chosen → Each (Leaves id view place) held → AllAddressed w
    → AllAddressed (sends_all id view w held)
addressed-sends_all id place view w [] same reached each is = is
addressed-sends_all {S = S} id place view w (h ∷ hs) same reached each is =
    let s : Sent = from_node w id view h in
    let here : IsAddressed w.view w.chosen (asked_in w.clients) id s.to s.content = record {
      place = place;
      reached = reached;
      clients = asked_in w.clients;
      have_asked = each_from (λ (client : ℕ). Among client (asked_in w.clients)) (asked_in w.clients) (λ client there. there);
      target = h.to;
      addressed = ap (λ (v : View). heard_by v (asked_in w.clients) h.to) same;
      own = each.0.0;
      named = subst (λ (v : View). NamesUpTo v.number place h.message) same each.0.1;
    } in
    addressed-sends_all id place view (posts w s) hs
    (by-posts (λ (v : World S). view ≡ view_at v.view v.chosen (place + 1)) w s (λ ending. same) (λ free room. same))
    (by-posts (λ (v : World S). place ≤ length v.chosen) w s (λ ending. reached) (λ free room. reached)) each.1 (addressed-posts w s here is)

-- ---- a node's step

addressed-stepped : {S : Type 0} (course : Course S) (w : World S) (i : ℕ) (h : Host S) (o : Outcome S) → view_of o.node ≡ view_at w.view (chosen_with w.chosen (next_place o.node) o.node.waiting) (o.node.replica.place + 1)
    → o.node.replica.place ≤ length (chosen_with w.chosen (next_place o.node) o.node.waiting) → Each (λ x. IsOwn h.node.id x.to x.message) o.node.held → NamesOwn o.node → AllAddressed w
    → AllAddressed (stepped course w i h o)
unfolding stepped
addressed-stepped {S = S} course w i h o same reached own names is =
    let n : Node S = o.node in
    let more : List Batch = chosen_with w.chosen (next_place n) n.waiting in
    let place : ℕ = n.replica.place in
    addressed-sends_all h.node.id place (view_of n) _ (leaving n.firm n.held) same reached
    (each-leaving (Leaves h.node.id (view_of n) place) n.firm n.held (both n.held own names))
    (record {
      sent = each-weaken (λ (x : Sent). IsAddressedFrom w.view w.chosen (asked_in w.clients) x.origin x.to x.content) (λ (x : Sent). IsAddressedFrom w.view more (asked_in w.clients) x.origin x.to x.content)
          (λ x. addressed-longer w.view w.chosen more (asked_in w.clients) (asked_in w.clients) (chosen-front w.chosen (next_place n) n.waiting) (λ client there. there) x.origin x.to x.content) w.sent is.sent;
      held = each_set (λ (g : Host S). NamesOwn g.node) w.hosts i (host_after course h o) is.held (each_staying (λ x. NamesUpTo (view_of n).number place x.message) n.firm n.held names);
    })
  where
    both : (held : List Held) → Each (λ x. IsOwn h.node.id x.to x.message) held → Each (λ x. NamesUpTo (view_of o.node).number o.node.replica.place x.message) held → Each (Leaves h.node.id (view_of o.node) o.node.replica.place) held
    both [] mine named = tt
    both (x ∷ xs) mine named = ((mine.0, named.0), both xs mine.1 named.1)

-- where it stands then, by what is known of it
stands_at : {S : Type 0} (m : Meaning S) (first : View) (list : List Batch) (n : Node S) → IsAt m first list n → view_of n ≡ view_at first list (n.replica.place + 1)
stands_at m first list n at =
    ap (λ (vs : List View). present vs) (node_views m first list n at)
    ∙ (let same : n.replica.place ≡ n.replica.place + 1 - 1 = omega arith in ap (λ (k : ℕ). present (views_after first (take k list))) same)

-- no later than before
stands_later : {S : Type 0} (m : Meaning S) (sent : List Sent) (first : View) (list : List Batch) (n : Node S) (h : Host S) → IsAt m first list n → HostRight sent m first list h → n.replica.place ≤ h.node.replica.place
    → (view_of n).number ≤ (view_of h.node).number
stands_later {S = S} m sent first list n h at right later =
    let k : ℕ = h.node.replica.place in
    let front : List Batch = take k list in
    let here : view_of n ≡ present (views_after first (take n.replica.place front)) =
    ap (λ (vs : List View). present vs) (node_views m first list n at) ∙ ap (λ (bs : List Batch). present (views_after first bs)) (sym (take-take n.replica.place k list later)) in
    let there : Among (view_of n) (views_after first front) =
    front_there first n.replica.place front (view_of n) (subst (λ (v : View). Among v (views_after first (take n.replica.place front))) (sym here) (present_there first (take n.replica.place front))) in
    let known : Among (view_of n) h.node.replica.views =
    subst (λ (vs : List View). Among (view_of n) vs) (sym (node_views m first list h.node (record { reached = right.wrote.at.reached; replica = right.wrote.at.replica }))) there in
    known_most first k h.node.replica.views right.sound.views (view_of n).number (some_numbered h.node.replica.views (view_of n) known)

-- so its step keeps that
addressed-event : {S : Type 0} (m : Meaning S) → IsRestorable m → (w : World S) (i : ℕ) (h : Host S) (event : NodeEvent) → IsUp w h → slice_get w.hosts i ≡ Some h → MayTake w h event → RightBorne m w → AllAddressed w
    → AllAddressed (stepped (course_of m) w i h (step_of m h.node event))
addressed-event {S = S} m service w i h event up at may r is =
    let right : ChosenRight m w = r.0.0.0 in
    let n : Node S = (step_of m h.node event).node in
    let more : List Batch = chosen_with w.chosen (next_place n) n.waiting in
    let after : HostRight w.sent m w.view more (host_after (course_of m) h (step_of m h.node event)) = event-right m service w i h event up at may right in
    let now : IsAt m w.view more n = record { reached = after.wrote.at.reached; replica = after.wrote.at.replica } in
    let before : HostRight w.sent m w.view w.chosen h = host-right m w i h at right in
    let was : IsAt m w.view more h.node = at_longer m w.view w.chosen more h.node (chosen-front w.chosen (next_place n) n.waiting) (record { reached = before.wrote.at.reached; replica = before.wrote.at.replica }) in
    let past : h.node.replica.place ≤ n.replica.place = place-step m h.node event in
    let later : (view_of h.node).number ≤ (view_of n).number = stands_later m w.sent w.view more h.node (host_after (course_of m) h (step_of m h.node event)) was after past in
    let rests : HostRests w.view h = each_get (HostRests w.view) w.hosts i h r.1.hosts at in
    let onward = onward-step m h.node event rests.rests in
    let named : n.id ≡ h.node.id = named-step m h.node event in
    addressed-stepped (course_of m) w i h (step_of m h.node event) (stands_at m w.view more n now) now.reached
    (each-weaken (HoldsRight n.id n.entries) (λ x. IsOwn h.node.id x.to x.message) (λ x mine. subst (λ (k : ℕ). IsOwn k x.to x.message) named mine.own) n.held onward.rests.held)
    (names-step (view_of n).number n.replica.place m h.node event (omega arith, omega arith)
    (each-weaken (λ x. NamesUpTo (view_of h.node).number h.node.replica.place x.message) (λ x. NamesUpTo (view_of n).number n.replica.place x.message)
    (λ x. names-more (view_of h.node).number h.node.replica.place (view_of n).number n.replica.place later past x.message) h.node.held (each_get (λ (g : Host S). NamesOwn g.node) w.hosts i h is.held at))) is

-- ---- clients

asked-one : (c c' : Client) → c'.id ≡ c.id → (has_asked c ≡ true → has_asked c' ≡ true) → (id : ℕ) → Among id (has_asked_by c) → Among id (has_asked_by c')
asked-one c c' same more id there = by (has_asked c) refl there
  where
    by : (t : Bool) → has_asked c ≡ t → Among id (cond t (c.id ∷ []) []) → Among id (has_asked_by c')
    by true is (inl here) = subst (λ (t : Bool). Among id (cond t (c'.id ∷ []) [])) (sym (more is)) (inl (here ∙ sym same))
    by true is (inr none) = absurd none
    by false is none = absurd none

-- who has asked has asked also where another client of its number stands in its place, which has asked if it had
asked-set : (cs : List Client) (i : ℕ) (c c' : Client) → slice_get cs i ≡ Some c → c'.id ≡ c.id → (has_asked c ≡ true → has_asked c' ≡ true) → (id : ℕ) → Among id (asked_in cs) → Among id (asked_in (slice_set cs i c'))
asked-set [] i c c' at same more id there = absurd there
asked-set (d ∷ ds) zero c c' at same more id there =
    ⊎_elim {C = Among id (asked_in (c' ∷ ds))}
    (λ here. among_left id (has_asked_by c') (asked_in ds) (asked-one c c' same more id (subst (λ (x : Client). Among id (has_asked_by x)) (is at) here)))
    (λ later. among_right id (has_asked_by c') (asked_in ds) later) (among_either id (has_asked_by d) (asked_in ds) there)
  where
    is : slice_get (d ∷ ds) zero ≡ Some c → d ≡ c
    is said = cc
asked-set (d ∷ ds) (suc i) c c' at same more id there =
    ⊎_elim {C = Among id (asked_in (d ∷ slice_set ds i c'))} (λ here. among_left id (has_asked_by d) (asked_in (slice_set ds i c')) here)
    (λ later. among_right id (has_asked_by d) (asked_in (slice_set ds i c')) (asked-set ds i c c' at same more id later)) (among_either id (has_asked_by d) (asked_in ds) there)

last-heard : (c : Client) (word : Word) (h : Heard) → (after_word c word h).last ≡ c.last
last-heard c (words.Reply a) (hears.Counted count need) = refl
last-heard c (words.Reply a) (hears.Accepted acceptance) = refl
last-heard c (words.Reply a) (hears.Viewed count need) = refl
last-heard c (words.Reply a) (hears.Moved number) = refl
last-heard c (words.Reply a) (hears.Ignored why) = refl
last-heard c (words.View i) (hears.Counted count need) = refl
last-heard c (words.View i) (hears.Accepted acceptance) = refl
last-heard c (words.View i) (hears.Viewed count need) = refl
last-heard c (words.View i) (hears.Moved number) = refl
last-heard c (words.View i) (hears.Ignored why) = refl

-- another client in a client's place
addressed-client : {S : Type 0} (w : World S) (i : ℕ) (c c' : Client) → slice_get w.clients i ≡ Some c → c'.id ≡ c.id → (has_asked c ≡ true → has_asked c' ≡ true) → AllAddressed w
    → AllAddressed (record w { clients = slice_set w.clients i c' })
addressed-client {S = S} w i c c' at same more is = record {
  sent = each-weaken (λ (x : Sent). IsAddressedFrom w.view w.chosen (asked_in w.clients) x.origin x.to x.content) (λ (x : Sent). IsAddressedFrom w.view w.chosen (asked_in (slice_set w.clients i c')) x.origin x.to x.content)
      (λ x. addressed-longer w.view w.chosen w.chosen (asked_in w.clients) (asked_in (slice_set w.clients i c')) (front-same w.chosen) (asked-set w.clients i c c' at same more) x.origin x.to x.content) w.sent is.sent;
  held = is.held;
}

-- another host, whose node names nothing further
addressed-host : {S : Type 0} (w : World S) (i : ℕ) (h : Host S) → NamesOwn h.node → AllAddressed w → AllAddressed (with_host w i h)
addressed-host {S = S} w i h names is = record { sent = is.sent; held = each_set (λ (g : Host S). NamesOwn g.node) w.hosts i h is.held names }

names-at : {S : Type 0} (w : World S) (i : ℕ) (h : Host S) → slice_get w.hosts i ≡ Some h → AllAddressed w → NamesOwn h.node
names-at {S = S} w i h at is = each_get (λ (g : Host S). NamesOwn g.node) w.hosts i h is.held at

-- ---- each event keeps that

keeps-addressed : {S : Type 0} (m : Meaning S) → IsBrief m → IsRestorable m → KeepsAll (course_of m) (λ w. RightBorne m w × AllAddressed w)
unfolding hearing
keeps-addressed {S = S} m brief service =
    let k = right-borne m brief service in
    record {
      kept = record {
        event = λ w i h event up at may p. (k.kept.event w i h event up at may p.0, addressed-event m service w i h event up at may p.0 p.1);
        disk = λ w i h up at p. (k.kept.disk w i h up at p.0, addressed-host w i (after_call (course_of m) h) (names-at w i h at p.1) p.1);
        crash = λ w i h left up at may p. (k.kept.crash w i h left up at may p.0, addressed-host w i (host_crashed (course_of m) h left) (names-at w i h at p.1) p.1);
        hear = λ w i c x word on at has read p. (
          k.kept.hear w i c x word on at has read p.0,
          (let next = addressed-client w i c (after_word c word (heard_word c word)) at (number-heard c word (heard_word c word))
              (λ asked. subst (λ (last : ℕ). nat_lt 0 last ≡ true) (sym (last-heard c word (heard_word c word))) asked) p.1 in record { sent = next.sent; held = next.held }),
        );
        ask = λ w i c op at free few brief_op p. (
          k.kept.ask w i c op at free few brief_op p.0,
          addressed-posts (asked_by w i c op) (from_client c (ask_of c op)) tt
              (addressed-client w i c (asking c (request_of c op)) at refl (λ asked. lt-ltb 0 (c.last + 1) (omega arith)) p.1),
        );
        again = λ w i c q at waits p. (k.kept.again w i c q at waits p.0, addressed-posts w (from_client c (signed_by c q)) tt p.1);
        learn = λ w i j c d at other p. (k.kept.learn w i j c d at other p.0, addressed-client w i c (learning c d.seen) at refl (λ asked. asked) p.1);
        inject = λ w x read fine p. (k.kept.inject w x read fine p.0, addressed-posts w (from_script x) tt p.1);
        declare = λ w faulty rogue ending how p. (k.kept.declare w faulty rogue ending how p.0, record { sent = p.1.sent; held = p.1.held });
        same = λ w mark told p. (k.kept.same w mark told p.0, record { sent = p.1.sent; held = p.1.held });
        meet = λ w texts on p. (k.kept.meet w texts on p.0, record { sent = p.1.sent; held = p.1.held });
      };
      resume = λ w i h down at p. (
        k.resume w i h down at p.0,
        addressed-host w i (host_resumed h (node_resumed (course_of m) w h)) (held_none (node_resumed (course_of m) w h) (from_held m group_secret h.node.id w.view w.period (parts_held h))) p.1,
      );
      add = λ w i member on new p. (
        k.add w i member on new p.0,
        record { sent = p.1.sent; held = each_insert (λ (g : Host S). NamesOwn g.node) w.hosts i (new_host m w member) p.1.held tt },
      );
    }
  where
    held_none : (n : Node S) → n.held ≡ [] → NamesOwn n
    held_none n none = subst (λ (hs : List Held). Each (λ x. NamesUpTo (view_of n).number n.replica.place x.message) hs) (sym none) tt

hosts-addressed : {S : Type 0} (m : Meaning S) (view : View) (period : ℕ) (ids : List ℕ) → Each (λ h. NamesOwn h.node) (hosts_from m view period ids)
hosts-addressed m view period [] = tt
hosts-addressed m view period (id ∷ ids) = (tt, hosts-addressed m view period ids)

-- so it holds after each line of a script
pub addressed-after : {S : Type 0} (m : Meaning S) → IsBrief m → IsRestorable m → (g : Header) (ls : List Line) → IsHeader g → AllAddressed (world_after (course_of m) (begun m g) ls)
addressed-after {S = S} m brief service g ls is =
    (keeps-world_after (course_of m) (λ (w : World S). RightBorne m w × AllAddressed w) (keeps-addressed m brief service) (begun m g) ls
    ((known-begun m g is, borne-begun m g is), record { sent = tt; held = hosts-addressed m g.view g.period g.view.members })).1
