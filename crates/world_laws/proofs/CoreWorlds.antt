-- The play of cores, which keep no more than they need, is the play of the nodes that keep all.
use Rattle.std.proofs.Common.{◌≡◌, ℕ, zero, suc, ◌+◌, ◌^◌, ◌++◌, Bool, true, false, List, [], ◌∷◌, length, map, refl, ap, sym, ◌∙◌, cond, Option, Some, None, is_some, nat_lt, nat_le, ◌&&◌, ◌||◌, ◌==◌, ◌-◌, not}
use Rattle.std.specs.Prelude.{slice_get, slice_set, option_map, insert, filter}
use Rattle.std.specs.List.{flat_map, list_all, position_or_len}
use Rattle.smart_base.specs.Views.{View}
use Rattle.smart_messages.specs.Messages.{decoded}
use Rattle.smart_statements.specs.declared.statement.Request.{Request}
use Rattle.smart_statements.specs.declared.entry.NodeEvent.{NodeEvent}
use Rattle.smart_statements.specs.declared.entry.NodeEvent.TheVariants.{Arrive, Tick, Deliver, Firm}
use Rattle.smart_service.specs.Services.{Meaning}
use Rattle.node_rules.specs.Nodes.{Node, next_place, view_of}
use Rattle.node_rules.specs.Steps.{Outcome, Outset, step_of, leaving, opened}
use Rattle.node_rules.specs.declared.node.Held.{Held}
use Rattle.node_rules.specs.Kept.{trimmed, core_step}
use Rattle.node_rules.specs.Nodes as nodes
use Rattle.kept_arrivals.proofs.Steps.{core_step_trimmed, opened_stands}
use Rattle.store_laws.specs.States.{is_due}
use Rattle.store_laws.specs.Stops.{is_installed}
use Rattle.store_laws.specs.Restored.{Images}
use Rattle.world_rules.specs.Crashes.{images_left, wrong_images}
use Rattle.world_rules.specs.declared.crash.Image.{Image}
use Rattle.world_rules.specs.declared.crash.Patch.{Patch}
use Rattle.world_rules.specs.declared.crash.NotAnImage.{NotAnImage}
use Rattle.vote_book.specs.declared.entry.LogEntry.{LogEntry}
use Rattle.smart_service.specs.declared.replica.Replica.{Replica}
use Rattle.replica_rules.specs.Replicas.{after_batches, views_after}
use Rattle.node_rules.specs.Reopening.{stopped, reopened, entries_in, decided_of, damage_of, outset_from, reopened_from}
use Rattle.node_rules.specs.declared.node.Parts.{Parts}
use Rattle.node_rules.specs.Tails as tails
use Rattle.node_laws.proofs.Reopened.{reopened_is}
use Rattle.world_rules.specs.Repeats.{repeated, turns, until_rest, each_from}
use Rattle.world_rules.specs.Secrets.{group_secret}
use Rattle.world_rules.specs.Premises.{texts_in, collides, texts_met, is_forged, bytes_of, too_many_in}
use Rattle.world_rules.specs.Worlds.{Host, World, course_of, core_course, is_up, at_host, telling, host_crashed, crashes_with, host_crashes, crashes, crash_all, parts_held, host_resumed, resumes_from, host_resumes, resumes, restart_all, restart_at, restart_member, sends_all, told_drop, told_fired, chosen_with, host_after, stepped, host_takes, node_takes, disk_called, hears_firm, host_calls, calls_disk, takes_due, host_of_node, settle_once, settle, settle_all, gives, hearing, client_hears, hears_bytes, client_takes, client_asks, ask_found, asks, client_repeats, repeat_found, repeats, learns, learns_from, tells, goes, flow_sent, flow_once, flows, hosts_from, begun, is_listed, where_listed, at_listed, each_listed, host_index, at_index, at_member, arrives, arrives_at, sent_arrives, give_number, told_idle, telling_all, host_tries, tries_at, tries_each, give_one, shown_host, shown_client, shows, posts, is_gone, is_rogue, settle_present, declares_faulty, declares_rogue, injects_content, injects, is_halted, reaches, outset_of, meets, snapshot_in, steps_unless, takes_met, adds_node, adds_unless, hosts_below, is_name, new_host, with_new, ending_few}
use Rattle.node_rules.specs.Transfers.{completed_by}
use Rattle.world_rules.specs.Plays.{has_member, has_party, is_there, line_played, rested, world_after, lines_told}
use Rattle.client_quorum.specs.declared.client.Client.{Client}
use Rattle.world_rules.specs.declared.message.Sent.{Sent}
use Rattle.world_rules.specs.declared.line.Line.{Line}
use Rattle.world_rules.specs.declared.line.Line.TheVariants as lines
use Rattle.world_laws.specs.Cores.{trimmed_host, trimmed_world}
use Rattle.smart_base.specs.declared.party.Party.{Party}
use Rattle.smart_base.specs.declared.party.Party.TheVariants as parties
use Rattle.world_rules.specs.declared.line.OutLine.{OutLine}
use Rattle.world_rules.specs.declared.line.OutLine.TheVariants as outs
use Rattle.world_laws.proofs.Keeps.{from_node, from_client, from_script, signed_by, ask_of, asked_by}
use Rattle.world_rules.specs.Injections.{injected}
use Rattle.world_rules.specs.declared.line.Injection.{Injection}
use Rattle.world_rules.specs.declared.message.Content.{Content}
use Rattle.std.proofs.lemmas.List.{length-map}
use Rattle.world_rules.specs.declared.line.Header.{Header}
use Rattle.world_laws.proofs.Names.{map_insert}
use Rattle.client_quorum.specs.Readings.{word_read}
use Rattle.client_quorum.specs.declared.client.Word.{Word}

-- lists, choices and repeated steps

-- the value at an index of the mapped list
map_get : {A B : Type 0} (t : A → B) (xs : List A) (i : ℕ) → slice_get (map t xs) i ≡ option_map t (slice_get xs i)
map_get t [] i = refl
map_get t (x ∷ xs) zero = refl
map_get t (x ∷ xs) (suc i) = map_get t xs i

-- a value that is set in the mapped list
map_set : {A B : Type 0} (t : A → B) (xs : List A) (i : ℕ) (x : A) → slice_set (map t xs) i (t x) ≡ map t (slice_set xs i x)
map_set t [] i x = refl
map_set t (y ∷ xs) zero x = refl
map_set t (y ∷ xs) (suc i) x = ap (λ ys. t y ∷ ys) (map_set t xs i x)

-- a choice
pub choice_same : {A B : Type 0} (t : A → B) (b : Bool) (x y : A) (v w : B) → v ≡ t x → w ≡ t y → cond b v w ≡ t (cond b x y)
choice_same t true x y v w left right = left
choice_same t false x y v w left right = right

-- a step that is repeated
repeated_same : {A B : Type 0} (t : A → B) (f : B → B) (g : A → A) → ((x : A) → f (t x) ≡ t (g x)) → (k : ℕ) (x : A) → repeated f k (t x) ≡ t (repeated g k x)
unfolding repeated
repeated_same t f g same zero x = refl
repeated_same t f g same (suc k) x = ap (λ y. repeated f k y) (same x) ∙ repeated_same t f g same k (g x)

-- a step that is repeated until it rests
until_rest_same : {A B : Type 0} (t : A → B) (f : B → B) (g : A → A) → ((x : A) → f (t x) ≡ t (g x)) → (x : A) → until_rest f (t x) ≡ t (until_rest g x)
unfolding until_rest
until_rest_same t f g same x = repeated_same t f g same turns x

-- a step at each of several numbers
each_from_same : {A B : Type 0} (t : A → B) (f : ℕ → B → B) (g : ℕ → A → A) → ((i : ℕ) (x : A) → f i (t x) ≡ t (g i x)) → (k i : ℕ) (x : A) → each_from f k i (t x) ≡ t (each_from g k i x)
unfolding each_from
each_from_same t f g same zero i x = refl
each_from_same t f g same (suc k) i x = ap (λ y. each_from f k (i + 1) y) (same i x) ∙ each_from_same t f g same k (i + 1) (g i x)

-- what leaves

-- something is sent
posts_same : {S : Type 0} (w : World S) (s : Sent) → posts (trimmed_world w) s ≡ trimmed_world (posts w s)
unfolding posts trimmed_world
posts_same w s =
    choice_same trimmed_world (collides (texts_met w.sent w.marked) (texts_in s.content)) _ _ _ _ refl (choice_same trimmed_world (nat_lt (length w.sent) (2 ^ 24)) _ _ _ _ refl refl)

-- many messages leave
sends_all_same : {S : Type 0} (id : ℕ) (view : View) (w : World S) (held : List Held) → sends_all id view (trimmed_world w) held ≡ trimmed_world (sends_all id view w held)
unfolding trimmed_world
sends_all_same id view w [] = refl
sends_all_same id view w (h ∷ hs) =
    ap (λ v. sends_all id view v hs) (posts_same w (from_node w id view h)) ∙ sends_all_same id view (posts w (from_node w id view h)) hs

-- events of a node

-- what a node's step leaves and tells, with no more kept than is needed
abbrev trimmed_outcome : {S : Type 0} → Outcome S → Outcome S
trimmed_outcome o = record o { node = trimmed o.node }

-- a core's step
core_step_same : {S : Type 0} (m : Meaning S) (n : Node S) (event : NodeEvent) → core_step m (trimmed n) event ≡ trimmed_outcome (step_of m n event)
core_step_same m n event = let is = core_step_trimmed m n event in equal _ _ is.node.same is.fired is.dropped
  where
    equal : {S : Type 0} (a b : Outcome S) → a.node ≡ b.node → a.fired ≡ b.fired → a.dropped ≡ b.dropped → a ≡ b
    equal a b node fired dropped =
        ap (λ n. record a { node = n }) node ∙ (ap (λ f. record b { fired = f; dropped = a.dropped }) fired ∙ ap (λ d. record b { dropped = d }) dropped)

-- a node's step
stepped_same : {S : Type 0} (m : Meaning S) (w : World S) (i : ℕ) (h : Host S) (o : Outcome S)
    → stepped (core_course m) (trimmed_world w) i (trimmed_host h) (trimmed_outcome o) ≡ trimmed_world (stepped (course_of m) w i h o)
unfolding stepped trimmed_world trimmed_host trimmed nodes.regency_of
stepped_same {S} m w i h o =
    let behind : List (Host S) → World S = λ hosts.
    meets
    (record w {
      hosts = hosts;
      chosen = chosen_with w.chosen (next_place o.node) o.node.waiting;
      told = w.told ++ (told_drop h.node.id o.dropped ++ flat_map (told_fired h.node.id) o.fired);
      ending = ending_few w.view (chosen_with w.chosen (next_place o.node) o.node.waiting) w.faulty w.ending;
    })
    (flat_map snapshot_in o.fired) in
    ap (λ hosts. sends_all h.node.id (view_of o.node) (behind hosts) (leaving o.node.firm o.node.held)) (map_set trimmed_host w.hosts i (host_after (course_of m) h o))
    ∙ sends_all_same h.node.id (view_of o.node) (behind (slice_set w.hosts i (host_after (course_of m) h o))) (leaving o.node.firm o.node.held)

-- the text that an event completes is the same
completed_same : {S : Type 0} (n : Node S) (event : NodeEvent) → completed_by (trimmed n) event ≡ completed_by n event
unfolding completed_by trimmed
completed_same n (Arrive bytes) = refl
completed_same n Tick = refl
completed_same n Deliver = refl
completed_same n (Firm count) = refl

-- it is met, and then a host takes the event
takes_met_same : {S : Type 0} (m : Meaning S) (i : ℕ) (event : NodeEvent) (w : World S) (h : Host S)
    → takes_met (core_course m) i event (trimmed_world w) (trimmed_host h) ≡ trimmed_world (takes_met (course_of m) i event w h)
unfolding trimmed_host trimmed_world
takes_met_same {S} m i event w h =
    let v : World S = meets w (completed_by h.node event) in
    ap (λ (texts : List (List ℕ)). steps_unless (core_course m) i event (meets (trimmed_world w) texts) (trimmed_host h)) (completed_same h.node event)
    ∙ choice_same trimmed_world (is_halted v) _ _ _ _ refl
    (ap (λ o. stepped (core_course m) (trimmed_world v) i (trimmed_host h) o) (core_step_same m h.node event) ∙ stepped_same m v i h (step_of m h.node event))

-- a host that is found takes an event
host_takes_same : {S : Type 0} (m : Meaning S) (i : ℕ) (event : NodeEvent) (w : World S) (found : Option (Host S))
    → host_takes (core_course m) i event (trimmed_world w) (option_map trimmed_host found) ≡ trimmed_world (host_takes (course_of m) i event w found)
unfolding trimmed_host trimmed_world trimmed nodes.regency_of
host_takes_same m i event w None = refl
host_takes_same m i event w (Some h) =
    choice_same trimmed_world (not (is_up w h)) _ _ _ _ refl (takes_met_same m i event w h)

-- the node at an index takes an event
node_takes_same : {S : Type 0} (m : Meaning S) (i : ℕ) (event : NodeEvent) (w : World S)
    → node_takes (core_course m) i event (trimmed_world w) ≡ trimmed_world (node_takes (course_of m) i event w)
unfolding node_takes trimmed_world
node_takes_same m i event w =
    choice_same trimmed_world (is_halted w) _ _ _ _ refl
    (ap (λ found. host_takes (core_course m) i event (trimmed_world w) found) (map_get trimmed_host w.hosts i) ∙ host_takes_same m i event w (slice_get w.hosts i))

-- a node hears what is firm behind a call of its store
hears_firm_same : {S : Type 0} (m : Meaning S) (i : ℕ) (w : World S) (h : Host S)
    → hears_firm (core_course m) i (trimmed_world w) (trimmed_host h) ≡ trimmed_world (hears_firm (course_of m) i w h)
unfolding trimmed_host trimmed_world trimmed nodes.regency_of
hears_firm_same {S} m i w h =
    let event : NodeEvent = Firm (h.store.firm - h.node.restored) in
    choice_same trimmed_world (nat_lt h.node.firm h.store.firm) _ _ _ _
    (ap (λ o. stepped (core_course m) (trimmed_world w) i (trimmed_host h) o) (core_step_same m h.node event) ∙ stepped_same m w i h (step_of m h.node event))
    (ap (λ (hosts : List (Host S)). record w { hosts = hosts }) (map_set trimmed_host w.hosts i h))

-- the store of a host that is found makes a call, if there is one
host_calls_same : {S : Type 0} (m : Meaning S) (i : ℕ) (w : World S) (found : Option (Host S))
    → host_calls (core_course m) i (trimmed_world w) (option_map trimmed_host found) ≡ trimmed_world (host_calls (course_of m) i w found)
unfolding disk_called trimmed_host trimmed_world trimmed nodes.regency_of tails.tail_of
host_calls_same m i w None = refl
host_calls_same m i w (Some h) =
    choice_same trimmed_world (not (is_up w h)) _ _ _ _ refl
    (choice_same trimmed_world (is_due is_installed h.store) _ _ _ _ (hears_firm_same m i w (disk_called (course_of m) h)) refl)

-- the store at an index does
calls_disk_same : {S : Type 0} (m : Meaning S) (i : ℕ) (w : World S) → calls_disk (core_course m) i (trimmed_world w) ≡ trimmed_world (calls_disk (course_of m) i w)
unfolding calls_disk trimmed_world
calls_disk_same m i w =
    choice_same trimmed_world (is_halted w) _ _ _ _ refl
    (ap (λ found. host_calls (core_course m) i (trimmed_world w) found) (map_get trimmed_host w.hosts i) ∙ host_calls_same m i w (slice_get w.hosts i))

-- a host that is found takes what is due
takes_due_same : {S : Type 0} (m : Meaning S) (i : ℕ) (w : World S) (found : Option (Host S))
    → takes_due (core_course m) i (trimmed_world w) (option_map trimmed_host found) ≡ trimmed_world (takes_due (course_of m) i w found)
unfolding trimmed_host trimmed nodes.regency_of
takes_due_same m i w None = refl
takes_due_same m i w (Some h) =
    choice_same trimmed_world (is_due is_installed h.store) _ _ _ _ (calls_disk_same m i w) (choice_same trimmed_world (is_some h.node.waiting) _ _ _ _ (node_takes_same m i Deliver w) refl)

-- a node settles once
settle_once_same : {S : Type 0} (m : Meaning S) (i : ℕ) (w : World S) → settle_once (core_course m) i (trimmed_world w) ≡ trimmed_world (settle_once (course_of m) i w)
unfolding settle_once trimmed_world
settle_once_same m i w =
    ap (λ found. takes_due (core_course m) i (trimmed_world w) found) (map_get trimmed_host w.hosts i) ∙ takes_due_same m i w (slice_get w.hosts i)

-- a node settles
settle_same : {S : Type 0} (m : Meaning S) (i : ℕ) (w : World S) → settle (core_course m) i (trimmed_world w) ≡ trimmed_world (settle (course_of m) i w)
settle_same m i w = until_rest_same trimmed_world (settle_once (core_course m) i) (settle_once (course_of m) i) (settle_once_same m i) w

-- there are as many hosts
hosts_same : {S : Type 0} (w : World S) → length (trimmed_world w).hosts ≡ length w.hosts
unfolding trimmed_world
hosts_same w = length-map w.hosts trimmed_host

-- what happens at the host at an index happens alike
abbrev Alike : {S : Type 0} → (ℕ → World S → World S) → (ℕ → World S → World S) → Type 0
Alike {S} f g = (i : ℕ) (w : World S) → f i (trimmed_world w) ≡ trimmed_world (g i w)

-- if its member is listed
where_listed_same : {S : Type 0} (members : List ℕ) (f g : ℕ → World S → World S) → Alike f g → (i : ℕ) (w : World S) (found : Option (Host S))
    → where_listed members f i (trimmed_world w) (option_map trimmed_host found) ≡ trimmed_world (where_listed members g i w found)
unfolding trimmed_host trimmed nodes.regency_of
where_listed_same members f g same i w None = refl
where_listed_same members f g same i w (Some h) = choice_same trimmed_world (is_listed members h.node.id) (g i w) w (f i (trimmed_world w)) (trimmed_world w) (same i w) refl

at_listed_same : {S : Type 0} (members : List ℕ) (f g : ℕ → World S → World S) → Alike f g → (i : ℕ) (w : World S)
    → at_listed members f i (trimmed_world w) ≡ trimmed_world (at_listed members g i w)
unfolding trimmed_world
at_listed_same members f g same i w =
    ap (λ found. where_listed members f i (trimmed_world w) found) (map_get trimmed_host w.hosts i) ∙ where_listed_same members f g same i w (slice_get w.hosts i)

-- at each whose member is
each_listed_same : {S : Type 0} (members : List ℕ) (f g : ℕ → World S → World S) → Alike f g → (w : World S)
    → each_listed members f (trimmed_world w) ≡ trimmed_world (each_listed members g w)
each_listed_same members f g same w =
    ap (λ k. each_from (at_listed members f) k 0 (trimmed_world w)) (hosts_same w)
    ∙ each_from_same trimmed_world (at_listed members f) (at_listed members g) (at_listed_same members f g same) (length w.hosts) 0 w

-- at a member's host

-- it stands at the same index
position_same : {S : Type 0} (hosts : List (Host S)) (member : ℕ)
    → position_or_len (λ (h : Host S). h.node.id == member) (map trimmed_host hosts) ≡ position_or_len (λ (h : Host S). h.node.id == member) hosts
unfolding trimmed_host trimmed nodes.regency_of
position_same [] member = refl
position_same (h ∷ hs) member = ap (λ k. cond (not (h.node.id == member)) (1 + k) 0) (position_same hs member)

host_index_same : {S : Type 0} (hosts : List (Host S)) (member : ℕ) → host_index (map trimmed_host hosts) member ≡ host_index hosts member
host_index_same {S} hosts member =
    let p : Host S → Bool = λ h. h.node.id == member in
    ap (λ k. cond (nat_lt k (length (map trimmed_host hosts))) (Some k) None) (position_same hosts member)
    ∙ ap (λ l. cond (nat_lt (position_or_len p hosts) l) (Some (position_or_len p hosts)) None) (length-map hosts trimmed_host)

at_index_same : {S : Type 0} (f g : ℕ → World S → World S) → Alike f g → (w : World S) (found : Option ℕ) → at_index f (trimmed_world w) found ≡ trimmed_world (at_index g w found)
at_index_same f g same w None = refl
at_index_same f g same w (Some i) = same i w

at_host_same : {S : Type 0} (f g : ℕ → World S → World S) → Alike f g → (i : ℕ) (w : World S) (found : Option (Host S))
    → at_host f i (trimmed_world w) (option_map trimmed_host found) ≡ trimmed_world (at_host g i w found)
unfolding trimmed_host trimmed_world trimmed nodes.regency_of
at_host_same f g same i w None = refl
at_host_same f g same i w (Some h) = choice_same trimmed_world (is_up w h) _ _ _ _ (same i w) refl

at_found_same : {S : Type 0} (f g : ℕ → World S → World S) → Alike f g → (i : ℕ) (w : World S)
    → at_host f i (trimmed_world w) (slice_get (trimmed_world w).hosts i) ≡ trimmed_world (at_host g i w (slice_get w.hosts i))
unfolding trimmed_world
at_found_same f g same i w = ap (λ found. at_host f i (trimmed_world w) found) (map_get trimmed_host w.hosts i) ∙ at_host_same f g same i w (slice_get w.hosts i)

at_place_same : {S : Type 0} (f g : ℕ → World S → World S) → Alike f g → (member : ℕ) (w : World S)
    → at_index f (trimmed_world w) (host_index (trimmed_world w).hosts member) ≡ trimmed_world (at_index g w (host_index w.hosts member))
unfolding trimmed_world
at_place_same f g same member w = ap (λ found. at_index f (trimmed_world w) found) (host_index_same w.hosts member) ∙ at_index_same f g same w (host_index w.hosts member)

at_member_same : {S : Type 0} (f g : ℕ → World S → World S) → Alike f g → (member : ℕ) (w : World S) → at_member f member (trimmed_world w) ≡ trimmed_world (at_member g member w)
at_member_same f g same member w = at_place_same (λ i v. at_host f i v (slice_get v.hosts i)) (λ i v. at_host g i v (slice_get v.hosts i)) (at_found_same f g same) member w

-- a host that is found settles, if its node runs
settle_present_same : {S : Type 0} (m : Meaning S) (members : List ℕ) (i : ℕ) (w : World S) (found : Option (Host S))
    → settle_present (core_course m) members i (trimmed_world w) (option_map trimmed_host found) ≡ trimmed_world (settle_present (course_of m) members i w found)
unfolding trimmed_host trimmed_world trimmed nodes.regency_of
settle_present_same m members i w None = refl
settle_present_same m members i w (Some h) = choice_same trimmed_world (is_up w h) _ _ _ _ (settle_same m i w) refl

settles_present_same : {S : Type 0} (m : Meaning S) (members : List ℕ) (i : ℕ) (w : World S)
    → settle_present (core_course m) members i (trimmed_world w) (slice_get (trimmed_world w).hosts i) ≡ trimmed_world (settle_present (course_of m) members i w (slice_get w.hosts i))
unfolding trimmed_world
settles_present_same m members i w =
    ap (λ found. settle_present (core_course m) members i (trimmed_world w) found) (map_get trimmed_host w.hosts i) ∙ settle_present_same m members i w (slice_get w.hosts i)

-- all listed nodes settle
settle_all_same : {S : Type 0} (m : Meaning S) (members : List ℕ) (w : World S) → settle_all (core_course m) members (trimmed_world w) ≡ trimmed_world (settle_all (course_of m) members w)
settle_all_same m members w =
    each_listed_same members (λ i v. settle_present (core_course m) members i v (slice_get v.hosts i)) (λ i v. settle_present (course_of m) members i v (slice_get v.hosts i)) (settles_present_same m members) w

-- a node takes bytes and settles
gives_same : {S : Type 0} (m : Meaning S) (bytes : List ℕ) (i : ℕ) (w : World S) → gives (core_course m) bytes i (trimmed_world w) ≡ trimmed_world (gives (course_of m) bytes i w)
unfolding gives
gives_same m bytes i w =
    ap (λ v. settle (core_course m) i v) (node_takes_same m i (Arrive bytes) w) ∙ settle_same m i (node_takes (course_of m) i (Arrive bytes) w)

-- the node of a member does, if it is listed
give_one_same : {S : Type 0} (m : Meaning S) (members : List ℕ) (bytes : List ℕ) (member : ℕ) (w : World S)
    → give_one (core_course m) members bytes member (trimmed_world w) ≡ trimmed_world (give_one (course_of m) members bytes member w)
give_one_same m members bytes member w =
    at_place_same (at_listed members (gives (core_course m) bytes)) (at_listed members (gives (course_of m) bytes)) (at_listed_same members (gives (core_course m) bytes) (gives (course_of m) bytes) (gives_same m bytes)) member w

-- clients

-- a client hears a message, or bytes that are none
client_hears_same : {S : Type 0} (w : World S) (i : ℕ) (c : Client) (read : Option Word) → client_hears (trimmed_world w) i c read ≡ trimmed_world (client_hears w i c read)
unfolding hearing trimmed_world
client_hears_same w i c None = refl
client_hears_same w i c (Some word) = refl

-- a client that is found hears bytes
hears_bytes_same : {S : Type 0} (w : World S) (i : ℕ) (bytes : List ℕ) (found : Option Client) → hears_bytes (trimmed_world w) i bytes found ≡ trimmed_world (hears_bytes w i bytes found)
hears_bytes_same w i bytes None = refl
hears_bytes_same w i bytes (Some c) = client_hears_same w i c (word_read (decoded bytes))

-- the client at an index hears bytes
client_takes_same : {S : Type 0} (i : ℕ) (bytes : List ℕ) (w : World S) → client_takes i bytes (trimmed_world w) ≡ trimmed_world (client_takes i bytes w)
unfolding client_takes trimmed_world
client_takes_same i bytes w = choice_same trimmed_world (is_halted w) _ _ _ _ refl (hears_bytes_same w i bytes (slice_get w.clients i))

-- a client asks, or tells that it is busy
client_asks_same : {S : Type 0} (w : World S) (i : ℕ) (c : Client) (op : List ℕ) (waiting : Option Request)
    → client_asks (trimmed_world w) i c op waiting ≡ trimmed_world (client_asks w i c op waiting)
unfolding trimmed_world
client_asks_same w i c op (Some q) = refl
client_asks_same w i c op None =
    choice_same trimmed_world (nat_lt (c.last + 1) (2 ^ 63) && nat_le (length op) 4096) _ _ _ _
    (posts_same (asked_by w i c op) (from_client c (ask_of c op))) refl

-- a client that is found asks
ask_found_same : {S : Type 0} (w : World S) (i : ℕ) (op : List ℕ) (found : Option Client) → ask_found (trimmed_world w) i op found ≡ trimmed_world (ask_found w i op found)
unfolding trimmed_world
ask_found_same w i op None = refl
ask_found_same w i op (Some c) = choice_same trimmed_world (is_rogue w c.id) _ _ _ _ refl (client_asks_same w i c op c.waiting)

-- the client at an index asks
asks_same : {S : Type 0} (i : ℕ) (op : List ℕ) (w : World S) → asks i op (trimmed_world w) ≡ trimmed_world (asks i op w)
unfolding asks trimmed_world
asks_same i op w = choice_same trimmed_world (is_halted w) _ _ _ _ refl (ask_found_same w i op (slice_get w.clients i))

-- a client sends its request once more, or tells that it is idle
client_repeats_same : {S : Type 0} (w : World S) (c : Client) (waiting : Option Request) → client_repeats (trimmed_world w) c waiting ≡ trimmed_world (client_repeats w c waiting)
unfolding trimmed_world
client_repeats_same w c None = refl
client_repeats_same w c (Some q) = posts_same w (from_client c (signed_by c q))

-- a client that is found does
repeat_found_same : {S : Type 0} (w : World S) (found : Option Client) → repeat_found (trimmed_world w) found ≡ trimmed_world (repeat_found w found)
unfolding trimmed_world
repeat_found_same w None = refl
repeat_found_same w (Some c) = choice_same trimmed_world (is_rogue w c.id) _ _ _ _ refl (client_repeats_same w c c.waiting)

-- the client at an index does
repeats_same : {S : Type 0} (i : ℕ) (w : World S) → repeats i (trimmed_world w) ≡ trimmed_world (repeats i w)
unfolding repeats trimmed_world
repeats_same i w = choice_same trimmed_world (is_halted w) _ _ _ _ refl (repeat_found_same w (slice_get w.clients i))

-- a client that is found learns of a place
learns_same : {S : Type 0} (w : World S) (place i : ℕ) (found : Option Client) → learns (trimmed_world w) place i found ≡ trimmed_world (learns w place i found)
unfolding trimmed_world
learns_same w place i None = refl
learns_same w place i (Some c) = refl

-- if the client that knows it is found
learns_from_same : {S : Type 0} (w : World S) (found : Option Client) (i : ℕ) → learns_from (trimmed_world w) found i ≡ trimmed_world (learns_from w found i)
unfolding trimmed_world
learns_from_same w None i = refl
learns_from_same w (Some c) i = choice_same trimmed_world (is_rogue w c.id) _ _ _ _ refl (learns_same w c.seen i (slice_get w.clients i))

-- a client is told of the greatest place that another knows
tells_same : {S : Type 0} (from to : ℕ) (w : World S) → tells from to (trimmed_world w) ≡ trimmed_world (tells from to w)
unfolding tells trimmed_world
tells_same from to w = choice_same trimmed_world (is_halted w) _ _ _ _ refl (learns_from_same w (slice_get w.clients from) to)

-- flow

-- bytes reach an addressee
reaches_same : {S : Type 0} (m : Meaning S) (members : List ℕ) (bytes : List ℕ) (to : Party) (w : World S)
    → reaches (core_course m) members bytes to (trimmed_world w) ≡ trimmed_world (reaches (course_of m) members bytes to w)
reaches_same m members bytes (parties.Member id) w = give_one_same m members bytes id w
reaches_same m members bytes (parties.Client id) w = client_takes_same id bytes w

-- bytes go to their addressees
goes_same : {S : Type 0} (m : Meaning S) (members : List ℕ) (w : World S) (bytes : List ℕ) (tos : List Party)
    → goes (core_course m) members (trimmed_world w) bytes tos ≡ trimmed_world (goes (course_of m) members w bytes tos)
goes_same m members w bytes [] = refl
goes_same m members w bytes (to ∷ tos) =
    ap (λ v. goes (core_course m) members v bytes tos) (reaches_same m members bytes to w) ∙ goes_same m members (reaches (course_of m) members bytes to w) bytes tos

-- the message behind the mark goes, if there is one
flow_sent_same : {S : Type 0} (m : Meaning S) (members : List ℕ) (w : World S) (found : Option Sent)
    → flow_sent (core_course m) members (trimmed_world w) found ≡ trimmed_world (flow_sent (course_of m) members w found)
unfolding trimmed_world
flow_sent_same m members w None = refl
flow_sent_same m members w (Some s) = goes_same m members (record w { mark = w.mark + 1 }) (bytes_of s.content) s.to

-- one turn of a flow
flow_once_same : {S : Type 0} (m : Meaning S) (members : List ℕ) (w : World S) → flow_once (core_course m) members (trimmed_world w) ≡ trimmed_world (flow_once (course_of m) members w)
unfolding flow_once trimmed_world
flow_once_same m members w = choice_same trimmed_world (is_halted w) _ _ _ _ refl (flow_sent_same m members w (slice_get w.sent w.mark))

-- a flow
flows_same : {S : Type 0} (m : Meaning S) (members : List ℕ) (w : World S) → flows (core_course m) members (trimmed_world w) ≡ trimmed_world (flows (course_of m) members w)
flows_same m members w =
    ap (λ v. until_rest (flow_once (core_course m) members) v) (settle_all_same m members w)
    ∙ until_rest_same trimmed_world (flow_once (core_course m) members) (flow_once (course_of m) members) (flow_once_same m members) (settle_all (course_of m) members w)

-- deliveries one by one

-- bytes arrive at a member's node or at a client
arrives_same : {S : Type 0} (m : Meaning S) (bytes : List ℕ) (to : Party) (w : World S)
    → arrives (core_course m) bytes to (trimmed_world w) ≡ trimmed_world (arrives (course_of m) bytes to w)
arrives_same m bytes (parties.Member id) w =
    at_member_same (λ i v. node_takes (core_course m) i (Arrive bytes) v) (λ i v. node_takes (course_of m) i (Arrive bytes) v) (λ i v. node_takes_same m i (Arrive bytes) v) id w
arrives_same m bytes (parties.Client id) w = client_takes_same id bytes w

arrives_at_same : {S : Type 0} (m : Meaning S) (bytes : List ℕ) (tos : List Party) (w : World S)
    → arrives_at (core_course m) bytes tos (trimmed_world w) ≡ trimmed_world (arrives_at (course_of m) bytes tos w)
arrives_at_same m bytes [] w = refl
arrives_at_same m bytes (to ∷ tos) w = ap (λ v. arrives_at (core_course m) bytes tos v) (arrives_same m bytes to w) ∙ arrives_at_same m bytes tos (arrives (course_of m) bytes to w)

sent_arrives_same : {S : Type 0} (m : Meaning S) (tos : List Party) (w : World S) (found : Option Sent)
    → sent_arrives (core_course m) tos (trimmed_world w) found ≡ trimmed_world (sent_arrives (course_of m) tos w found)
sent_arrives_same m tos w None = refl
sent_arrives_same m tos w (Some s) = arrives_at_same m (bytes_of s.content) tos w

-- the message of a number does
give_number_same : {S : Type 0} (m : Meaning S) (number : ℕ) (tos : List Party) (w : World S)
    → give_number (core_course m) number tos (trimmed_world w) ≡ trimmed_world (give_number (course_of m) number tos w)
unfolding trimmed_world
give_number_same m number tos w = sent_arrives_same m tos w (slice_get w.sent (number - 1))

-- lines are told
telling_all_same : {S : Type 0} (w : World S) (lines : List OutLine) → telling_all (trimmed_world w) lines ≡ trimmed_world (telling_all w lines)
unfolding trimmed_world
telling_all_same w lines = refl

-- a host that is found delivers, or time passes there
host_tries_same : {S : Type 0} (m : Meaning S) (event : NodeEvent) (i : ℕ) (w : World S) (found : Option (Host S))
    → host_tries (core_course m) event i (trimmed_world w) (option_map trimmed_host found) ≡ trimmed_world (host_tries (course_of m) event i w found)
unfolding trimmed_host trimmed_world trimmed nodes.regency_of
host_tries_same m event i w None = refl
host_tries_same {S} m event i w (Some h) =
    let o : Outcome S = step_of m h.node event in
    choice_same trimmed_world (not (is_up w h)) _ _ _ _ refl
    (ap (λ (x : Outcome S). telling_all (stepped (core_course m) (trimmed_world w) i (trimmed_host h) x) (told_idle h.node.id x.fired)) (core_step_same m h.node event)
    ∙ (ap (λ (v : World S). telling_all v (told_idle h.node.id o.fired)) (stepped_same m w i h o) ∙ telling_all_same (stepped (course_of m) w i h o) (told_idle h.node.id o.fired)))

tries_at_same : {S : Type 0} (m : Meaning S) (event : NodeEvent) (i : ℕ) (w : World S) → tries_at (core_course m) event i (trimmed_world w) ≡ trimmed_world (tries_at (course_of m) event i w)
unfolding tries_at trimmed_world
tries_at_same m event i w =
    choice_same trimmed_world (is_halted w) _ _ _ _ refl
    (ap (λ found. host_tries (core_course m) event i (trimmed_world w) found) (map_get trimmed_host w.hosts i) ∙ host_tries_same m event i w (slice_get w.hosts i))

-- so it is at each of some members
tries_each_same : {S : Type 0} (m : Meaning S) (event : NodeEvent) (members : List ℕ) (w : World S)
    → tries_each (core_course m) event members (trimmed_world w) ≡ trimmed_world (tries_each (course_of m) event members w)
tries_each_same m event [] w = refl
tries_each_same m event (id ∷ ids) w =
    ap (λ v. tries_each (core_course m) event ids v) (at_member_same (tries_at (core_course m) event) (tries_at (course_of m) event) (tries_at_same m event) id w)
    ∙ tries_each_same m event ids (at_member (tries_at (course_of m) event) id w)

-- crashes

-- what a crash leaves of a host, or that no crash leaves such a thing
crashes_with_same : {S : Type 0} (m : Meaning S) (i : ℕ) (w : World S) (h : Host S) (left : Images) (wrong : Option NotAnImage)
    → crashes_with (core_course m) i (trimmed_world w) (trimmed_host h) left wrong ≡ trimmed_world (crashes_with (course_of m) i w h left wrong)
unfolding trimmed_host trimmed_world trimmed nodes.regency_of
crashes_with_same {S} m i w h left None =
    ap (λ (hosts : List (Host S)). telling (record w { hosts = hosts }) (outs.Crashed h.node.id)) (map_set trimmed_host w.hosts i (host_crashed (course_of m) h left))
crashes_with_same m i w h left (Some wrong) = refl

-- a host that is found stops, if its node runs
host_crashes_same : {S : Type 0} (m : Meaning S) (image : Image) (patches : List Patch) (i : ℕ) (w : World S) (found : Option (Host S))
    → host_crashes (core_course m) image patches i (trimmed_world w) (option_map trimmed_host found) ≡ trimmed_world (host_crashes (course_of m) image patches i w found)
unfolding trimmed_host trimmed_world trimmed nodes.regency_of
host_crashes_same m image patches i w None = refl
host_crashes_same m image patches i w (Some h) =
    let left : Images = images_left image patches h.store in
    choice_same trimmed_world (is_up w h) _ _ _ _ (crashes_with_same m i w h left (wrong_images h.store left)) refl

-- the node at an index does
crashes_same : {S : Type 0} (m : Meaning S) (image : Image) (patches : List Patch) (i : ℕ) (w : World S)
    → crashes (core_course m) image patches i (trimmed_world w) ≡ trimmed_world (crashes (course_of m) image patches i w)
unfolding crashes trimmed_world
crashes_same m image patches i w =
    choice_same trimmed_world (is_halted w) _ _ _ _ refl
    (ap (λ found. host_crashes (core_course m) image patches i (trimmed_world w) found) (map_get trimmed_host w.hosts i) ∙ host_crashes_same m image patches i w (slice_get w.hosts i))

-- what happens at each host
each_host_same : {S : Type 0} (f g : ℕ → World S → World S) → Alike f g → (w : World S)
    → each_from f (length (trimmed_world w).hosts) 0 (trimmed_world w) ≡ trimmed_world (each_from g (length w.hosts) 0 w)
each_host_same f g same w = ap (λ k. each_from f k 0 (trimmed_world w)) (hosts_same w) ∙ each_from_same trimmed_world f g same (length w.hosts) 0 w

-- each node that runs stops
crash_all_same : {S : Type 0} (m : Meaning S) (image : Image) (w : World S) → crash_all (core_course m) image (trimmed_world w) ≡ trimmed_world (crash_all (course_of m) image w)
crash_all_same m image w = each_host_same (crashes (core_course m) image []) (crashes (course_of m) image []) (crashes_same m image []) w

-- a node that goes on has nothing that it does not need: nothing but the book is left of the life before
trimmed-begins : {S : Type 0} (o : Outset S) → trimmed (record (opened o) { behind = true }) ≡ record (opened o) { behind = true }
unfolding trimmed
trimmed-begins o = refl

trimmed-goes_on : {S : Type 0} (o : Outset S) (es : List LogEntry) (r : Replica S) (count : ℕ)
    → trimmed (record (stopped o) { entries = es; replica = r; restored = count; firm = count }) ≡ record (stopped o) { entries = es; replica = r; restored = count; firm = count }
unfolding trimmed
trimmed-goes_on o es r count = refl

trimmed-reopened : {S : Type 0} (m : Meaning S) (o : Outset S) (es : List LogEntry) → trimmed (reopened m o es) ≡ reopened m o es
unfolding reopened
trimmed-reopened m o [] = trimmed-begins o
trimmed-reopened m o (e ∷ es) =
    let is = reopened_is m o e es in
    ap (λ n. trimmed n) is ∙ (trimmed-goes_on o (e ∷ es) (after_batches m o.replica (decided_of o.replica.place (e ∷ es))) (length (e ∷ es)) ∙ sym is)

-- from whatever its devices hold
trimmed-from : {S : Type 0} (m : Meaning S) (secret : List ℕ) (id : ℕ) (view : View) (period : ℕ) (parts : Parts)
    → trimmed (reopened_from m secret id view period parts) ≡ reopened_from m secret id view period parts
unfolding reopened_from
trimmed-from m secret id view period parts = trimmed-reopened m (outset_from m secret id view period parts.snapshot) (entries_in parts.entries)

-- the world in which a node goes on
abbrev going_on : {S : Type 0} → World S → ℕ → Host S → ℕ → Node S → World S
going_on w i h count n = telling (record w { hosts = slice_set w.hosts i (host_resumed h n) }) (outs.Restarted h.node.id n.replica.place count)

going_on_same : {S : Type 0} (w : World S) (i : ℕ) (h : Host S) (count : ℕ) (n : Node S) → trimmed n ≡ n
    → going_on (trimmed_world w) i (trimmed_host h) count n ≡ trimmed_world (going_on w i h count n)
unfolding trimmed_host trimmed_world trimmed nodes.regency_of
going_on_same {S} w i h count n same =
    let line : OutLine = outs.Restarted h.node.id n.replica.place count in
    let left : Node S → Host S = λ k. record (host_resumed h n) { node = k; life = record { diary = []; aside = [] } } in
    ap (λ k. telling (record w { hosts = slice_set (map trimmed_host w.hosts) i (left k) }) line) (sym same)
    ∙ ap (λ (hosts : List (Host S)). telling (record w { hosts = hosts }) line) (map_set trimmed_host w.hosts i (host_resumed h n))

resumes_from_same : {S : Type 0} (m : Meaning S) (i : ℕ) (w : World S) (h : Host S) (parts : Parts) (wrong : Option ℕ)
    → resumes_from (core_course m) i (trimmed_world w) (trimmed_host h) parts wrong ≡ trimmed_world (resumes_from (course_of m) i w h parts wrong)
unfolding trimmed_host trimmed_world trimmed nodes.regency_of
resumes_from_same m i w h parts None =
    let n : Node _ = reopened_from m group_secret h.node.id w.view w.period parts in
    going_on_same w i h (length parts.entries) n (trimmed-from m group_secret h.node.id w.view w.period parts)
resumes_from_same m i w h parts (Some part) = refl

-- a host that is found goes on, if its member has crashed
host_resumes_same : {S : Type 0} (m : Meaning S) (i : ℕ) (w : World S) (found : Option (Host S))
    → host_resumes (core_course m) i (trimmed_world w) (option_map trimmed_host found) ≡ trimmed_world (host_resumes (course_of m) i w found)
unfolding trimmed_host trimmed_world trimmed nodes.regency_of
host_resumes_same m i w None = refl
host_resumes_same m i w (Some h) =
    let parts : Parts = parts_held h in
    choice_same trimmed_world (h.up || is_gone w h.node.id) _ _ _ _ refl (resumes_from_same m i w h parts (damage_of m group_secret w.view parts))

resumes_same : {S : Type 0} (m : Meaning S) (i : ℕ) (w : World S) → resumes (core_course m) i (trimmed_world w) ≡ trimmed_world (resumes (course_of m) i w)
unfolding resumes trimmed_world
resumes_same m i w =
    choice_same trimmed_world (is_halted w) _ _ _ _ refl
    (ap (λ found. host_resumes (core_course m) i (trimmed_world w) found) (map_get trimmed_host w.hosts i) ∙ host_resumes_same m i w (slice_get w.hosts i))

restart_all_same : {S : Type 0} (m : Meaning S) (w : World S) → restart_all (core_course m) (trimmed_world w) ≡ trimmed_world (restart_all (course_of m) w)
restart_all_same m w = each_host_same (resumes (core_course m)) (resumes (course_of m)) (resumes_same m) w

-- one member is restarted
restart_at_same : {S : Type 0} (m : Meaning S) (i : ℕ) (w : World S) (found : Option (Host S))
    → restart_at (core_course m) i (trimmed_world w) (option_map trimmed_host found) ≡ trimmed_world (restart_at (course_of m) i w found)
unfolding trimmed_host trimmed_world trimmed nodes.regency_of
restart_at_same m i w None = refl
restart_at_same m i w (Some h) = choice_same trimmed_world (is_gone w h.node.id) _ _ _ _ refl (choice_same trimmed_world h.up _ _ _ _ refl (resumes_same m i w))

restart_found_same : {S : Type 0} (m : Meaning S) (i : ℕ) (w : World S)
    → restart_at (core_course m) i (trimmed_world w) (slice_get (trimmed_world w).hosts i) ≡ trimmed_world (restart_at (course_of m) i w (slice_get w.hosts i))
unfolding trimmed_world
restart_found_same m i w = ap (λ found. restart_at (core_course m) i (trimmed_world w) found) (map_get trimmed_host w.hosts i) ∙ restart_at_same m i w (slice_get w.hosts i)

restart_member_same : {S : Type 0} (m : Meaning S) (member : ℕ) (w : World S)
    → restart_member (core_course m) member (trimmed_world w) ≡ trimmed_world (restart_member (course_of m) member w)
restart_member_same m member w =
    at_place_same (λ i v. restart_at (core_course m) i v (slice_get v.hosts i)) (λ i v. restart_at (course_of m) i v (slice_get v.hosts i)) (restart_found_same m) member w

-- where hosts stand
shown_same : {S : Type 0} (faulty : List ℕ) (hosts : List (Host S)) → flat_map (shown_host faulty) (map trimmed_host hosts) ≡ flat_map (shown_host faulty) hosts
unfolding trimmed_host trimmed nodes.regency_of
shown_same faulty [] = refl
shown_same faulty (h ∷ hs) = ap (λ ls. shown_host faulty h ++ ls) (shown_same faulty hs)

-- what is shown
shows_same : {S : Type 0} (w : World S) → shows (trimmed_world w) ≡ trimmed_world (shows w)
unfolding trimmed_world
shows_same w =
    ap (λ ls. telling_all (trimmed_world w) (ls ++ flat_map shown_client w.clients)) (shown_same w.faulty w.hosts) ∙ telling_all_same w (flat_map (shown_host w.faulty) w.hosts ++ flat_map shown_client w.clients)

-- who breaks the rules

declares_faulty_same : {S : Type 0} (member : ℕ) (w : World S) → declares_faulty member (trimmed_world w) ≡ trimmed_world (declares_faulty member w)
unfolding declares_faulty trimmed_world
declares_faulty_same member w =
    choice_same trimmed_world (is_halted w) _ _ _ _ refl
    (choice_same trimmed_world (is_gone w member) _ _ _ _ refl (choice_same trimmed_world (too_many_in (views_after w.view w.chosen) (w.faulty ++ member ∷ [])) _ _ _ _ refl refl))

declares_rogue_same : {S : Type 0} (client : ℕ) (w : World S) → declares_rogue client (trimmed_world w) ≡ trimmed_world (declares_rogue client w)
unfolding declares_rogue trimmed_world
declares_rogue_same client w = choice_same trimmed_world (is_halted w) _ _ _ _ refl (choice_same trimmed_world (is_rogue w client) _ _ _ _ refl refl)

-- a content that is made is injected, unless it is forged
injects_content_same : {S : Type 0} (w : World S) (found : Option Content) → injects_content (trimmed_world w) found ≡ trimmed_world (injects_content w found)
unfolding trimmed_world
injects_content_same w None = refl
injects_content_same w (Some x) = choice_same trimmed_world (is_forged w.faulty w.rogue w.sent x) _ _ _ _ refl (posts_same w (from_script x))

injects_same : {S : Type 0} (form : Injection) (w : World S) → injects form (trimmed_world w) ≡ trimmed_world (injects form w)
unfolding injects trimmed_world
injects_same form w = choice_same trimmed_world (is_halted w) _ _ _ _ refl (injects_content_same w (injected w.sent form))

-- new nodes

-- a new node keeps nothing that could be dropped
opened_same : {S : Type 0} (m : Meaning S) (view : View) (period id : ℕ) → trimmed_host (host_of_node (opened (outset_of m view period id))) ≡ host_of_node (opened (outset_of m view period id))
unfolding trimmed_host
opened_same m view period id = ap (λ n. record (host_of_node (opened (outset_of m view period id))) { node = n }) (sym (opened_stands (outset_of m view period id)).same)

below_same : {S : Type 0} (hosts : List (Host S)) (member : ℕ) → hosts_below (map trimmed_host hosts) member ≡ hosts_below hosts member
unfolding trimmed_host trimmed
below_same [] member = refl
below_same {S = S} (h ∷ hs) member =
    by (nat_lt h.node.id member) (filter (λ (g : Host S). nat_lt g.node.id member) (map trimmed_host hs)) (filter (λ (g : Host S). nat_lt g.node.id member) hs) (below_same hs member)
  where
    by : (t : Bool) (xs ys : List (Host S)) → length xs ≡ length ys → length (cond t (trimmed_host h ∷ xs) xs) ≡ length (cond t (h ∷ ys) ys)
    by true xs ys same = ap suc same
    by false xs ys same = same

new_same : {S : Type 0} (hosts : List (Host S)) (h : Host S) → trimmed_host h ≡ h → with_new (map trimmed_host hosts) h ≡ map trimmed_host (with_new hosts h)
new_same {S = S} hosts h same =
    ap (λ (k : ℕ). insert (map trimmed_host hosts) k h) (below_same hosts h.node.id)
    ∙ (ap (λ (x : Host S). insert (map trimmed_host hosts) (hosts_below hosts h.node.id) x) (sym same) ∙ sym (map_insert trimmed_host hosts (hosts_below hosts h.node.id) h))

adds_unless_same : {S : Type 0} (m : Meaning S) (member : ℕ) (w : World S) (found : Option ℕ) → adds_unless (core_course m) member (trimmed_world w) found ≡ trimmed_world (adds_unless (course_of m) member w found)
unfolding trimmed_world
adds_unless_same m member w (Some i) = refl
adds_unless_same {S = S} m member w None =
    choice_same trimmed_world (is_name member) _ _ _ _
    (ap (λ (hosts : List (Host S)). record (trimmed_world w) { hosts = hosts }) (new_same w.hosts (new_host m w member) (opened_same m w.view w.period member))) refl

adds_node_same : {S : Type 0} (m : Meaning S) (member : ℕ) (w : World S) → adds_node (core_course m) member (trimmed_world w) ≡ trimmed_world (adds_node (course_of m) member w)
unfolding adds_node trimmed_world
adds_node_same m member w =
    choice_same trimmed_world (is_halted w) _ _ _ _ refl
    (ap (λ found. adds_unless (core_course m) member (trimmed_world w) found) (host_index_same w.hosts member) ∙ adds_unless_same m member w (host_index w.hosts member))

-- lines

-- a line of a script
pub core_line : {S : Type 0} (m : Meaning S) (w : World S) (line : Line) → line_played (core_course m) (trimmed_world w) line ≡ trimmed_world (line_played (course_of m) w line)
unfolding line_played
core_line m w lines.Nothing = refl
core_line m w (lines.Ask client op) = asks_same client op w
core_line m w (lines.Change op) = asks_same 0 op w
core_line m w (lines.Again client) = repeats_same client w
core_line m w (lines.Tell from to) = tells_same from to w
core_line m w (lines.Flow members) = flows_same m members w
core_line m w (lines.Give number to) = give_number_same m number to w
core_line m w (lines.Deliver members) = tries_each_same m Deliver members w
core_line m w (lines.Tick members) = tries_each_same m Tick members w
core_line m w (lines.Settle member) = at_member_same (settle (core_course m)) (settle (course_of m)) (settle_same m) member w
core_line m w (lines.Disk member count) =
    at_member_same (λ i v. repeated (calls_disk (core_course m) i) count v) (λ i v. repeated (calls_disk (course_of m) i) count v)
    (λ i v. repeated_same trimmed_world (calls_disk (core_course m) i) (calls_disk (course_of m) i) (calls_disk_same m i) count v) member w
core_line m w (lines.Crash member image patches) = at_member_same (crashes (core_course m) image patches) (crashes (course_of m) image patches) (crashes_same m image patches) member w
core_line m w (lines.CrashAll image) = crash_all_same m image w
core_line m w (lines.Restart member) = restart_member_same m member w
core_line m w lines.RestartAll = restart_all_same m w
core_line m w lines.SettleAll = settle_all_same m [] w
core_line m w lines.Show = shows_same w
core_line m w (lines.Node member) = adds_node_same m member w
core_line m w (lines.Faulty member) = declares_faulty_same member w
core_line m w (lines.Rogue client) = declares_rogue_same client w
core_line m w (lines.Inject form) = injects_same form w

-- all that a line names is there for cores where it is for the nodes

has_member_same : {S : Type 0} (w : World S) (member : ℕ) → has_member (trimmed_world w) member ≡ has_member w member
unfolding trimmed_world
has_member_same w member = ap (λ found. is_some found) (host_index_same w.hosts member)

has_party_same : {S : Type 0} (w : World S) (to : Party) → has_party (trimmed_world w) to ≡ has_party w to
has_party_same w (parties.Member id) = has_member_same w id
has_party_same w (parties.Client id) = refl

has_each_same : {A : Type 0} (p q : A → Bool) → ((x : A) → p x ≡ q x) → (xs : List A) → list_all p xs ≡ list_all q xs
has_each_same p q same [] = refl
has_each_same p q same (x ∷ xs) = ap (λ t. t && list_all p xs) (same x) ∙ ap (λ t. q x && t) (has_each_same p q same xs)

pub there_same : {S : Type 0} (w : World S) (line : Line) → is_there (trimmed_world w) line ≡ is_there w line
unfolding is_there trimmed_world
there_same w lines.Nothing = refl
there_same w (lines.Ask client op) = refl
there_same w (lines.Change op) = refl
there_same w (lines.Again client) = refl
there_same w (lines.Tell from to) = refl
there_same w (lines.Flow members) = has_each_same (has_member (trimmed_world w)) (has_member w) (has_member_same w) members
there_same w (lines.Give number to) =
    ap (λ t. nat_le 1 number && nat_le number (length w.sent) && t) (has_each_same (has_party (trimmed_world w)) (has_party w) (has_party_same w) to)
there_same w (lines.Deliver members) = has_each_same (has_member (trimmed_world w)) (has_member w) (has_member_same w) members
there_same w (lines.Tick members) = has_each_same (has_member (trimmed_world w)) (has_member w) (has_member_same w) members
there_same w (lines.Settle member) = has_member_same w member
there_same w (lines.Disk member count) = has_member_same w member
there_same w (lines.Crash member image patches) = has_member_same w member
there_same w (lines.CrashAll image) = refl
there_same w (lines.Restart member) = has_member_same w member
there_same w lines.RestartAll = refl
there_same w lines.SettleAll = refl
there_same w lines.Show = refl
there_same w (lines.Node member) = ap (λ t. not t) (has_member_same w member)
there_same w (lines.Faulty member) = has_member_same w member
there_same w (lines.Rogue client) = refl
there_same w (lines.Inject form) = refl

-- between two lines
pub rested_same : {S : Type 0} (w : World S) → rested (trimmed_world w) ≡ trimmed_world (rested w)
unfolding trimmed_world
rested_same w = refl

-- a line of a script, and the rest behind it
line_rested : {S : Type 0} (m : Meaning S) (w : World S) (line : Line)
    → rested (line_played (core_course m) (trimmed_world w) line) ≡ trimmed_world (rested (line_played (course_of m) w line))
line_rested m w line = ap (λ v. rested v) (core_line m w line) ∙ rested_same (line_played (course_of m) w line)

-- all lines of a script
world_after_same : {S : Type 0} (m : Meaning S) (w : World S) (ls : List Line) → world_after (core_course m) (trimmed_world w) ls ≡ trimmed_world (world_after (course_of m) w ls)
world_after_same m w [] = refl
world_after_same m w (l ∷ ls) = ap (λ v. world_after (core_course m) v ls) (line_rested m w l) ∙ world_after_same m (rested (line_played (course_of m) w l)) ls

-- what a world of cores has beside its hosts
pub record Beside {S : Type 0} (cores w : World S) : Type 0 where
  pub view : cores.view ≡ w.view
  pub clients : cores.clients ≡ w.clients
  pub sent : cores.sent ≡ w.sent
  pub marked : cores.marked ≡ w.marked
  pub mark : cores.mark ≡ w.mark
  pub chosen : cores.chosen ≡ w.chosen
  pub accepted : cores.accepted ≡ w.accepted
  pub told : cores.told ≡ w.told
  pub faulty : cores.faulty ≡ w.faulty
  pub rogue : cores.rogue ≡ w.rogue
  pub ending : cores.ending ≡ w.ending

-- it is what the world of the nodes has
pub trimmed_beside : {S : Type 0} (w : World S) → Beside (trimmed_world w) w
unfolding trimmed_world
trimmed_beside w = record { view = refl; clients = refl; sent = refl; marked = refl; mark = refl; chosen = refl; accepted = refl; told = refl; faulty = refl; rogue = refl; ending = refl }

-- what the lines of a script tell
lines_told_same : {S : Type 0} (m : Meaning S) (w : World S) (ls : List Line) → lines_told (core_course m) (trimmed_world w) ls ≡ lines_told (course_of m) w ls
lines_told_same m w [] = refl
lines_told_same m w (l ∷ ls) =
    let told = ap (λ v. v.told) (core_line m w l) ∙ (trimmed_beside (line_played (course_of m) w l)).told in
    let rest = ap (λ v. lines_told (core_course m) v ls) (line_rested m w l) ∙ lines_told_same m (rested (line_played (course_of m) w l)) ls in
    ap (λ ls'. ls' ++ lines_told (core_course m) (rested (line_played (core_course m) (trimmed_world w) l)) ls) told
    ∙ ap (λ ls'. (line_played (course_of m) w l).told ++ ls') rest

-- the beginning

-- nothing that was kept is dropped at the beginning
hosts_from_same : {S : Type 0} (m : Meaning S) (view : View) (period : ℕ) (ids : List ℕ) → map trimmed_host (hosts_from m view period ids) ≡ hosts_from m view period ids
unfolding trimmed_host
hosts_from_same m view period [] = refl
hosts_from_same m view period (id ∷ ids) =
    ap (λ n. record (host_of_node (opened (outset_of m view period id))) { node = n } ∷ map trimmed_host (hosts_from m view period ids)) (sym (opened_stands (outset_of m view period id)).same)
    ∙ ap (λ hosts. host_of_node (opened (outset_of m view period id)) ∷ hosts) (hosts_from_same m view period ids)

-- the first world is its own world of cores
pub begun_same : {S : Type 0} (m : Meaning S) (g : Header) → trimmed_world (begun m g) ≡ begun m g
unfolding trimmed_world
begun_same m g = ap (λ hosts. record (begun m g) { hosts = hosts }) (hosts_from_same m g.view g.period g.view.members)

-- all lines of a script, from the beginning
pub core_world : {S : Type 0} (m : Meaning S) (g : Header) (ls : List Line) → world_after (core_course m) (begun m g) ls ≡ trimmed_world (world_after (course_of m) (begun m g) ls)
core_world m g ls = ap (λ w. world_after (core_course m) w ls) (sym (begun_same m g)) ∙ world_after_same m (begun m g) ls

-- what all lines of a script tell, from the beginning
pub core_told : {S : Type 0} (m : Meaning S) (g : Header) (ls : List Line) → lines_told (core_course m) (begun m g) ls ≡ lines_told (course_of m) (begun m g) ls
core_told m g ls = ap (λ w. lines_told (core_course m) w ls) (sym (begun_same m g)) ∙ lines_told_same m (begun m g) ls
