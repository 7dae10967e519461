-- A transcript tells of all that members have delivered, through all their lives.
use Rattle.std.proofs.Common.{◌≡◌, ℕ, zero, suc, ◌++◌, ◌==◌, Bool, true, false, List, [], ◌∷◌, refl, ap, ◌∙◌, sym, Option, Some, None, subst, filter, cond, append-nil, append_assoc, eqb-true, eq-eqb, is_some}
use Rattle.std.specs.Prelude.{map, slice_get, slice_set, insert}
use Rattle.std.specs.List.{flat_map, list_any}
use Rattle.std.proofs.lemmas.Bool.{or_parts}
use Rattle.std.proofs.lemmas.List.{map-append}
use Rattle.std.proofs.lemmas.List.Elements.{filter-append}
use Rattle.smart_base.specs.Lists.{Each, Distinct}
use Rattle.smart_base.specs.Views.{View}
use Rattle.smart_base.proofs.ViewFacts.{each-weaken, view-distinct}
use Rattle.smart_statements.specs.declared.entry.NodeEvent.{NodeEvent}
use Rattle.smart_statements.specs.declared.entry.NodeEvent.TheVariants.{Arrive, Tick, Deliver, Firm}
use Rattle.smart_service.specs.Services.{Meaning}
use Rattle.node_rules.specs.Nodes.{Node, view_of}
use Rattle.node_rules.specs.Deliveries.{delivery_in}
use Rattle.node_rules.specs.Steps.{Outcome, step_of, leaving}
use Rattle.node_rules.specs.declared.node.Why.{Why}
use Rattle.node_rules.specs.declared.node.Delivery.{Delivery}
use Rattle.node_rules.specs.declared.node.Fired.{Fired}
use Rattle.node_rules.specs.declared.node.Fired.TheVariants as fires
use Rattle.world_rules.specs.Secrets.{group_secret}
use Rattle.world_rules.specs.Clients.{heard_word}
use Rattle.world_rules.specs.Worlds.{course_of, Host, World, posts, told_drop, told_fired, told_heard, segment_of, host_after, host_crashed, host_resumed, stepped, hearing, begun, hosts_from, parts_held, new_host}
use Rattle.world_rules.specs.Plays.{line_played, rested, world_after, lines_told}
use Rattle.client_quorum.specs.declared.client.Client.{Client}
use Rattle.client_quorum.specs.declared.client.Word.{Word}
use Rattle.client_quorum.specs.declared.client.Heard.{Heard}
use Rattle.client_quorum.specs.declared.client.Heard.TheVariants as hears
use Rattle.world_rules.specs.declared.line.Line.{Line}
use Rattle.world_rules.specs.declared.line.OutLine.{OutLine}
use Rattle.world_rules.specs.declared.line.OutLine.TheVariants as outs
use Rattle.world_rules.specs.declared.message.Sent.{Sent}
use Rattle.world_laws.specs.Promises.{IsHeader, is_delivery, delivered_line, HasTold}
use Rattle.world_laws.proofs.Keeps.{IsAside, ask_of, asked_by, by-posts, KeepsLives, live-line_played, signed_by, learned_line, resumed_line, after_call, with_host, node_resumed, from_node, from_client, from_script, keeps-sends_all, IsNew, added}
use Rattle.replica_laws.proofs.Longer.{told_firm, longer-step}
use Rattle.replica_laws.proofs.Segments.{segment_all}
use Rattle.world_laws.proofs.Reopens.{from_named}
use Rattle.world_laws.proofs.ChosenKept.{hosts_ids}
use Rattle.world_laws.proofs.Witnessing.{named_at, not_later, ids-set}
use Rattle.agreement_laws.proofs.Lists.{some_equal}
use Rattle.world_rules.specs.declared.line.Header.{Header}
use Rattle.world_laws.proofs.Lists.{each_insert}
use Rattle.world_laws.proofs.Names.{distinct_insert, map_insert, names, none_before, none_named}

-- a host of a name has delivered what was told of it before the present script line, and what that tells of
abbrev ToldOf : (ℕ → List OutLine) → List OutLine → ℕ → List Delivery → Type 0
ToldOf before told id delivered = map (delivered_line id) delivered ≡ before id ++ filter (is_delivery id) told

abbrev HostTold : {S : Type 0} → (ℕ → List OutLine) → List OutLine → Host S → Type 0
HostTold before told h = ToldOf before told h.node.id (h.earlier ++ h.delivered)

-- all hosts have, each of another member. Of a member without a host nothing was told.
record AllTold {S : Type 0} (before : ℕ → List OutLine) (w : World S) : Type 0 where
  hosts : Each (HostTold before w.told) w.hosts
  once : Distinct (names w.hosts)
  nobody : (id : ℕ) → list_any (λ k. k == id) (names w.hosts) ≡ false → ToldOf before w.told id []

-- lines that tell of no delivery at a member

none_more : (before : ℕ → List OutLine) (told lines : List OutLine) (id : ℕ) (delivered : List Delivery) → filter (is_delivery id) lines ≡ [] → ToldOf before told id delivered → ToldOf before (told ++ lines) id delivered
none_more before told lines id delivered none is =
    is ∙ ap (λ (xs : List OutLine). before id ++ xs)
    (sym (append-nil (filter (is_delivery id) told)) ∙ (ap (λ (xs : List OutLine). filter (is_delivery id) told ++ xs) (sym none) ∙ sym (filter-append (is_delivery id) told lines)))

all_more : {S : Type 0} (before : ℕ → List OutLine) (told lines : List OutLine) (hosts : List (Host S)) → ((id : ℕ) → filter (is_delivery id) lines ≡ []) → Each (HostTold before told) hosts
    → Each (HostTold before (told ++ lines)) hosts
all_more {S = S} before told lines hosts none each =
    each-weaken (λ (h : Host S). HostTold before told h) (λ (h : Host S). HostTold before (told ++ lines) h)
    (λ h is. none_more before told lines h.node.id (h.earlier ++ h.delivered) (none h.node.id) is) hosts each

-- a line aside tells of none
none_aside : (id : ℕ) (line : OutLine) → IsAside line → filter (is_delivery id) (line ∷ []) ≡ []
none_aside id (outs.Group members faulty app period) aside = refl
none_aside id (outs.Sent number origin summary) aside = refl
none_aside id (outs.Decided member place) aside = refl
none_aside id (outs.Installed member place) aside = absurd aside
none_aside id (outs.Delivered member place executed) aside = absurd aside
none_aside id (outs.View member number) aside = refl
none_aside id (outs.Promised member number regency) aside = refl
none_aside id (outs.Synced member number regency base bound) aside = refl
none_aside id (outs.Dropped member why) aside = refl
none_aside id (outs.Counted client have need) aside = refl
none_aside id (outs.Accepted client seq place index reply) aside = absurd aside
none_aside id (outs.Viewed client have need) aside = refl
none_aside id (outs.Moved client number) aside = refl
none_aside id (outs.Ignored client why) aside = refl
none_aside id (outs.Busy client seq) aside = refl
none_aside id (outs.Absent member) aside = refl
none_aside id (outs.Crashed member) aside = refl
none_aside id (outs.Restarted member place entries) aside = absurd aside
none_aside id (outs.Down member) aside = refl
none_aside id (outs.Idle member) aside = refl
none_aside id (outs.IdleClient client) aside = refl
none_aside id (outs.Learned client place) aside = absurd aside
none_aside id (outs.Stands member place number regency) aside = refl
none_aside id (outs.Seen client place) aside = refl
none_aside id (outs.End lines messages) aside = refl

-- nor does what a client tells of a reply that it hears
none_heard : (client : ℕ) (h : Heard) (id : ℕ) → filter (is_delivery id) (told_heard client h ∷ []) ≡ []
none_heard client (hears.Counted count need) id = refl
none_heard client (hears.Accepted acceptance) id = refl
none_heard client (hears.Viewed count need) id = refl
none_heard client (hears.Moved number) id = refl
none_heard client (hears.Ignored why) id = refl

-- messages that leave

told-posts : {S : Type 0} (before : ℕ → List OutLine) (w : World S) (s : Sent) → AllTold before w → AllTold before (posts w s)
told-posts {S = S} before w s is =
    by-posts (λ (v : World S). AllTold before v) w s (λ ending. record { hosts = is.hosts; once = is.once; nobody = is.nobody })
    (λ free room. record { hosts = all_more before w.told _ w.hosts (λ id. refl) is.hosts; once = is.once; nobody = λ id none. none_more before w.told _ id [] refl (is.nobody id none) })

-- a node's step

-- a member tells of its deliveries
one_fired : (id : ℕ) (f : Fired) → filter (is_delivery id) (told_fired id f) ≡ map (delivered_line id) (delivery_in f)
one_fired id (fires.Installed place) = refl
one_fired id fires.Spoiled = refl
one_fired id (fires.Delivered d) = ap (λ (t : Bool). cond t (delivered_line id d ∷ []) []) (eq-eqb id id refl)
one_fired id (fires.Marked snapshot) = refl
one_fired id (fires.Adopted s) = refl
one_fired id fires.Joined = refl
one_fired id (fires.Viewed number) = refl
one_fired id (fires.Promised p) = refl
one_fired id fires.Led = refl
one_fired id fires.Proposed = refl
one_fired id fires.Wrote = refl
one_fired id fires.Accepted = refl
one_fired id (fires.Decided place) = refl
one_fired id fires.Timed = refl
one_fired id fires.Answered = refl

own_fired : (id : ℕ) (fired : List Fired) → filter (is_delivery id) (flat_map (told_fired id) fired) ≡ map (delivered_line id) (flat_map delivery_in fired)
own_fired id [] = refl
own_fired id (f ∷ fs) =
    filter-append (is_delivery id) (told_fired id f) (flat_map (told_fired id) fs)
    ∙ (ap (λ (xs : List OutLine). xs ++ filter (is_delivery id) (flat_map (told_fired id) fs)) (one_fired id f)
    ∙ (ap (λ (xs : List OutLine). map (delivered_line id) (delivery_in f) ++ xs) (own_fired id fs) ∙ sym (map-append (delivered_line id) (delivery_in f) (flat_map delivery_in fs))))

own_told : (id : ℕ) (why : Option Why) (fired : List Fired) → filter (is_delivery id) (told_drop id why ++ flat_map (told_fired id) fired) ≡ map (delivered_line id) (flat_map delivery_in fired)
own_told id None fired = own_fired id fired
own_told id (Some why) fired = own_fired id fired

-- and of none of another
other_one : (id other : ℕ) (f : Fired) → (other ≡ id → ⊥) → filter (is_delivery other) (told_fired id f) ≡ []
other_one id other (fires.Delivered d) differ = by (id == other) refl
  where
    by : (t : Bool) → (id == other) ≡ t → cond t (delivered_line id d ∷ []) [] ≡ []
    by true is = absurd (differ (sym (eqb-true id other is)))
    by false is = refl
other_one id other (fires.Installed place) differ = refl
other_one id other fires.Spoiled differ = refl
other_one id other (fires.Marked snapshot) differ = refl
other_one id other (fires.Adopted s) differ = refl
other_one id other fires.Joined differ = refl
other_one id other (fires.Viewed number) differ = refl
other_one id other (fires.Promised p) differ = refl
other_one id other fires.Led differ = refl
other_one id other fires.Proposed differ = refl
other_one id other fires.Wrote differ = refl
other_one id other fires.Accepted differ = refl
other_one id other (fires.Decided place) differ = refl
other_one id other fires.Timed differ = refl
other_one id other fires.Answered differ = refl

other_fired : (id other : ℕ) (fired : List Fired) → (other ≡ id → ⊥) → filter (is_delivery other) (flat_map (told_fired id) fired) ≡ []
other_fired id other [] differ = refl
other_fired id other (f ∷ fs) differ =
    filter-append (is_delivery other) (told_fired id f) (flat_map (told_fired id) fs)
    ∙ (ap (λ (xs : List OutLine). xs ++ filter (is_delivery other) (flat_map (told_fired id) fs)) (other_one id other f differ) ∙ other_fired id other fs differ)

other_told : (id other : ℕ) (why : Option Why) (fired : List Fired) → (other ≡ id → ⊥) → filter (is_delivery other) (told_drop id why ++ flat_map (told_fired id) fired) ≡ []
other_told id other None fired differ = other_fired id other fired differ
other_told id other (Some why) fired differ = other_fired id other fired differ

-- a host that has delivered more
own_more : (before : ℕ → List OutLine) (told lines : List OutLine) (id : ℕ) (all more : List Delivery) → filter (is_delivery id) lines ≡ map (delivered_line id) more → ToldOf before told id all
    → ToldOf before (told ++ lines) id (all ++ more)
own_more before told lines id all more own is =
    let line : Delivery → OutLine = delivered_line id in
    let said : List OutLine = filter (is_delivery id) told in
    map-append line all more
    ∙ (ap (λ (xs : List OutLine). xs ++ map line more) is
    ∙ (append_assoc (before id) said (map line more)
    ∙ ap (λ (xs : List OutLine). before id ++ xs) (ap (λ (xs : List OutLine). said ++ xs) (sym own) ∙ sym (filter-append (is_delivery id) told lines))))

-- a node keeps its name
pub named-step : {S : Type 0} (m : Meaning S) (n : Node S) (event : NodeEvent) → (step_of m n event).node.id ≡ n.id
named-step {S} m n event = (longer-step m n event).named ∙ told n event
  where
    told : (x : Node S) (e : NodeEvent) → (told_firm x e).id ≡ x.id
    told x (Arrive bytes) = refl
    told x Tick = refl
    told x Deliver = refl
    told x (Firm count) = refl

-- another host stands at an index: what holds of the hosts of other names, and of it, holds of all

other_hosts : {S : Type 0} (P Q : Host S → Type 0) (id : ℕ) (hs : List (Host S)) → list_any (λ y. y == id) (map (λ (g : Host S). g.node.id) hs) ≡ false
    → ((g : Host S) → (g.node.id ≡ id → ⊥) → P g → Q g) → Each P hs → Each Q hs
other_hosts P Q id [] none others each = tt
other_hosts {S = S} P Q id (g ∷ hs) none others each =
    let parts = or_parts (g.node.id == id) (list_any (λ y. y == id) (map (λ (k : Host S). k.node.id) hs)) none in
    (others g (λ same. no_other (sym (eq-eqb g.node.id id same) ∙ parts.0)) each.0, other_hosts P Q id hs parts.1 others each.1)
  where
    no_other : true ≡ false → ⊥
    no_other is = cc

pub set_others : {S : Type 0} (P Q : Host S → Type 0) (hs : List (Host S)) (i : ℕ) (h h' : Host S) → Distinct (map (λ (g : Host S). g.node.id) hs) → slice_get hs i ≡ Some h
    → ((g : Host S) → (g.node.id ≡ h.node.id → ⊥) → P g → Q g) → (P h → Q h') → Each P hs → Each Q (slice_set hs i h')
set_others P Q [] i h h' once at others own each = absurd (cc)
set_others {S = S} P Q (g ∷ hs) zero h h' once at others own each =
    let same : g ≡ h = some_equal g h at in
    (own (subst P same each.0), other_hosts P Q h.node.id hs (subst (λ (k : Host S). list_any (λ y. y == k.node.id) (map (λ (x : Host S). x.node.id) hs) ≡ false) same once.0) others each.1)
set_others {S = S} P Q (g ∷ hs) (suc i) h h' once at others own each =
    (others g (λ same. not_later g.node.id h.node.id (map (λ (k : Host S). k.node.id) hs) same once.0 (named_at hs i h at)) each.0, set_others P Q hs i h h' once.1 at others own each.1)

-- a member without a host is another's
pub not_named : {S : Type 0} (hs : List (Host S)) (i : ℕ) (h : Host S) (id : ℕ) → slice_get hs i ≡ Some h → list_any (λ k. k == id) (names hs) ≡ false → id ≡ h.node.id → ⊥
not_named hs i h id at none same = both (sym (subst (λ (n : ℕ). list_any (λ k. k == n) (names hs) ≡ true) (sym same) (named_at hs i h at)) ∙ none)
  where
    both : true ≡ false → ⊥
    both is = cc

-- a host's node steps
told-stepped : {S : Type 0} (m : Meaning S) (before : ℕ → List OutLine) (w : World S) (i : ℕ) (h : Host S) (event : NodeEvent) → slice_get w.hosts i ≡ Some h → AllTold before w
    → AllTold before (stepped (course_of m) w i h (step_of m h.node event))
unfolding stepped
told-stepped {S = S} m before w i h event at is =
    let o : Outcome S = step_of m h.node event in
    let h' : Host S = host_after (course_of m) h o in
    let lines : List OutLine = told_drop h.node.id o.dropped ++ flat_map (told_fired h.node.id) o.fired in
    let name : h'.node.id ≡ h.node.id = named-step m h.node event in
    let stay : names (slice_set w.hosts i h') ≡ names w.hosts = ids-set w.hosts i h h' at name in
    keeps-sends_all (λ (v : World S). AllTold before v) h.node.id (view_of o.node) (λ v held all. told-posts before v (from_node v h.node.id (view_of o.node) held) all) _ (leaving o.node.firm o.node.held)
    (record {
      hosts = set_others (λ (g : Host S). HostTold before w.told g) (λ (g : Host S). HostTold before (w.told ++ lines) g) w.hosts i h h' is.once at
          (λ g differ all. none_more before w.told lines g.node.id (g.earlier ++ g.delivered) (other_told h.node.id g.node.id o.dropped o.fired differ) all)
          (λ all. subst (λ (id : ℕ). ToldOf before (w.told ++ lines) id (h'.earlier ++ h'.delivered)) (sym name)
          (subst (λ (ds : List Delivery). ToldOf before (w.told ++ lines) h.node.id ds) (sym (segment_all (segment_of h) o.fired))
          (own_more before w.told lines h.node.id (h.earlier ++ h.delivered) (flat_map delivery_in o.fired) (own_told h.node.id o.dropped o.fired) all))) is.hosts;
      once = subst Distinct (sym stay) is.once;
      nobody = λ id none.
          let before_it : list_any (λ k. k == id) (names w.hosts) ≡ false = subst (λ (ids : List ℕ). list_any (λ k. k == id) ids ≡ false) stay none in
          none_more before w.told lines id [] (other_told h.node.id id o.dropped o.fired (λ same. not_named w.hosts i h id at before_it same)) (is.nobody id before_it);
    })

-- another host of the same name, which has delivered the same
told-set : {S : Type 0} (before : ℕ → List OutLine) (w : World S) (i : ℕ) (h h' : Host S) → slice_get w.hosts i ≡ Some h → h'.node.id ≡ h.node.id
    → h'.earlier ++ h'.delivered ≡ h.earlier ++ h.delivered → AllTold before w → AllTold before (with_host w i h')
told-set {S = S} before w i h h' at name same is =
    let stay : names (slice_set w.hosts i h') ≡ names w.hosts = ids-set w.hosts i h h' at name in
    record {
      hosts = set_others (λ (g : Host S). HostTold before w.told g) (λ (g : Host S). HostTold before w.told g) w.hosts i h h' is.once at (λ g differ all. all)
          (λ all. subst (λ (id : ℕ). ToldOf before w.told id (h'.earlier ++ h'.delivered)) (sym name) (subst (λ (ds : List Delivery). ToldOf before w.told h.node.id ds) (sym same) all)) is.hosts;
      once = subst Distinct (sym stay) is.once;
      nobody = λ id none. is.nobody id (subst (λ (ids : List ℕ). list_any (λ k. k == id) ids ≡ false) stay none);
    }

-- a client that hears tells of no delivery
told-hearing : {S : Type 0} (before : ℕ → List OutLine) (w : World S) (i : ℕ) (c : Client) (a : Word) (h : Heard) → AllTold before w → AllTold before (hearing w i c a h)
unfolding hearing
told-hearing before w i c a h is = record {
  hosts = all_more before w.told (told_heard c.id h ∷ []) w.hosts (none_heard c.id h) is.hosts;
  once = is.once;
  nobody = λ id none. none_more before w.told (told_heard c.id h ∷ []) id [] (none_heard c.id h id) (is.nobody id none);
}

-- a line tells of no delivery
told-line : {S : Type 0} (before : ℕ → List OutLine) (w : World S) (line : OutLine) → ((id : ℕ) → filter (is_delivery id) (line ∷ []) ≡ []) → AllTold before w → AllTold before (record w { told = w.told ++ line ∷ [] })
told-line before w line none is = record {
  hosts = all_more before w.told (line ∷ []) w.hosts none is.hosts;
  once = is.once;
  nobody = λ id new. none_more before w.told (line ∷ []) id [] (none id) (is.nobody id new);
}

-- a new node has delivered nothing
told-added : {S : Type 0} (m : Meaning S) (before : ℕ → List OutLine) (w : World S) (i member : ℕ) → IsNew w member → AllTold before w → AllTold before (added (course_of m) w i member)
told-added {S = S} m before w i member new is =
    let h : Host S = new_host m w member in
    let none : list_any (λ k. k == member) (names w.hosts) ≡ false = none_named w.hosts member (ap (λ (found : Option ℕ). is_some found) new.none) in
    let more : names (insert w.hosts i h) ≡ insert (names w.hosts) i member = map_insert (λ (g : Host S). g.node.id) w.hosts i h in
    record {
      hosts = each_insert (λ (g : Host S). HostTold before w.told g) w.hosts i h is.hosts (is.nobody member none);
      once = subst Distinct (sym more) (distinct_insert (names w.hosts) i member none is.once);
      nobody = λ id other. is.nobody id (none_before (λ k. k == id) (names w.hosts) i member (subst (λ (ids : List ℕ). list_any (λ k. k == id) ids ≡ false) more other));
    }

-- each event keeps that
keeps-deliveries : {S : Type 0} (m : Meaning S) (before : ℕ → List OutLine) → KeepsLives (course_of m) (AllTold {S = S} before)
keeps-deliveries {S = S} m before =
    record {
      live = record {
        event = λ w i h event on up at may is. told-stepped m before w i h event at is;
        disk = λ w i h on up at is. told-set before w i h (after_call (course_of m) h) at refl refl is;
        hear = λ w i c x a on at has read is. told-hearing before w i c a (heard_word c a) is;
        ask = λ w i c op on at free few brief is. told-posts before (asked_by w i c op) (from_client c (ask_of c op)) (record { hosts = is.hosts; once = is.once; nobody = is.nobody });
        again = λ w i c q on at waits is. told-posts before w (from_client c (signed_by c q)) is;
        learn = λ w i j c d on at other is. let one = told-line before w (learned_line c d.seen) (λ id. refl) is in record { hosts = one.hosts; once = one.once; nobody = one.nobody };
        inject = λ w x on read fine is. told-posts before w (from_script x) is;
        declare = λ w faulty rogue ending on how is. record { hosts = is.hosts; once = is.once; nobody = is.nobody };
        mark = λ w s on at is. record { hosts = is.hosts; once = is.once; nobody = is.nobody };
        meet = λ w texts on is. record { hosts = is.hosts; once = is.once; nobody = is.nobody };
        tell = λ w line aside is. told-line before w line (λ id. none_aside id line aside) is;
      };
      crash = λ w i h left on up at may is. told-set before w i h (host_crashed (course_of m) h left) at refl refl is;
      resume = λ w i h on down at is.
          let again : Host S = host_resumed h (node_resumed (course_of m) w h) in
          told-line before (with_host w i again) (resumed_line (course_of m) w h) (λ id. refl)
          (told-set before w i h again at (from_named m group_secret h.node.id w.view w.period (parts_held h)) (append-nil (h.earlier ++ h.delivered)) is);
      add = λ w i member on new is. told-added m before w i member new is;
    }

-- behind lines

-- hosts have delivered what was told of them
abbrev HostToldBy : {S : Type 0} → (ℕ → List OutLine) → Host S → Type 0
HostToldBy before h = map (delivered_line h.node.id) (h.earlier ++ h.delivered) ≡ before h.node.id

after_lines : {S : Type 0} (m : Meaning S) (before : ℕ → List OutLine) (w : World S) (ls : List Line) → Distinct (names w.hosts) → w.told ≡ [] → Each (HostToldBy before) w.hosts
    → ((id : ℕ) → list_any (λ k. k == id) (names w.hosts) ≡ false → [] ≡ before id)
    → Each (HostToldBy (λ id. before id ++ filter (is_delivery id) (lines_told (course_of m) w ls))) (world_after (course_of m) w ls).hosts
after_lines {S = S} m before w [] once none each nobody =
    each-weaken (λ (h : Host S). HostToldBy before h) (λ (h : Host S). HostToldBy (λ id. before id ++ []) h) (λ h is. is ∙ sym (append-nil (before h.node.id))) w.hosts each
after_lines {S = S} m before w (l ∷ ls) once none each nobody =
    let played : World S = line_played (course_of m) w l in
    let first : ℕ → List OutLine = λ id. filter (is_delivery id) played.told in
    let later : List OutLine = lines_told (course_of m) (rested played) ls in
    let begins : AllTold before w =
    record {
      hosts = subst (λ (told : List OutLine). Each (λ (h : Host S). HostTold before told h) w.hosts) (sym none)
          (each-weaken (λ (h : Host S). HostToldBy before h) (λ (h : Host S). HostTold before [] h) (λ h is. is ∙ sym (append-nil (before h.node.id))) w.hosts each);
      once = once;
      nobody = λ id new. subst (λ (told : List OutLine). ToldOf before told id []) (sym none) (nobody id new ∙ sym (append-nil (before id)));
    } in
    let is : AllTold before played = live-line_played (course_of m) (λ (v : World S). AllTold before v) (keeps-deliveries m before) w l begins in
    let rest = after_lines m (λ id. before id ++ first id) (rested played) ls is.once refl is.hosts is.nobody in
    each-weaken (λ (h : Host S). HostToldBy (λ id. (before id ++ first id) ++ filter (is_delivery id) later) h) (λ (h : Host S). HostToldBy (λ id. before id ++ filter (is_delivery id) (played.told ++ later)) h)
    (λ h all. all ∙ (append_assoc (before h.node.id) (first h.node.id) (filter (is_delivery h.node.id) later)
    ∙ ap (λ (xs : List OutLine). before h.node.id ++ xs) (sym (filter-append (is_delivery h.node.id) played.told later)))) (world_after (course_of m) (rested played) ls).hosts rest

-- no host begins with a delivery
none_delivered : {S : Type 0} (m : Meaning S) (view : View) (period : ℕ) (members : List ℕ) → Each (HostToldBy (λ id. [])) (hosts_from m view period members)
none_delivered m view period [] = tt
none_delivered m view period (id ∷ ids) = (refl, none_delivered m view period ids)

-- after any lines of any script the transcript tells of all that each node has delivered, in order, and of no other delivery there
pub deliveries-told : {S : Type 0} (m : Meaning S) (g : Header) (ls : List Line) → IsHeader g → Each (HasTold (lines_told (course_of m) (begun m g) ls)) (world_after (course_of m) (begun m g) ls).hosts
deliveries-told {S = S} m g ls is =
    let told : List OutLine = lines_told (course_of m) (begun m g) ls in
    each-weaken (λ (h : Host S). HostToldBy (λ id. filter (is_delivery id) told) h) (λ (h : Host S). HasTold told h) (λ h all. sym all) (world_after (course_of m) (begun m g) ls).hosts
    (after_lines m (λ id. []) (begun m g) ls (subst Distinct (sym (hosts_ids m g.view g.period g.view.members)) (view-distinct g.view is.viewed)) refl
    (none_delivered m g.view g.period g.view.members) (λ id none. refl))
