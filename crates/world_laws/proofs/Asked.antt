-- Each request that has been stated was asked by its client, unless it is rogue, and the requests of a place were asked after earlier places alone.
use Rattle.std.proofs.Common.{◌≡◌, ap, ⊎_elim, ◌⊎◌, ◌∙◌, ℕ, nat_le, ◌<◌, ◌&&◌, sym, zero, suc, ◌+◌, ◌++◌, ◌==◌, Bool, true, false, List, [], ◌∷◌, length, refl, cond, Option, Some, None, nat_lt, inl, inr, subst, eqb-true, arith}
use Rattle.std.proofs.lemmas.Bool.{ltb-true}
use Rattle.std.specs.Prelude.{slice_get, option_map, IfSome}
use Rattle.std.specs.List.{list_all}
use Rattle.std.specs.Option.{option_and_then}
use Rattle.smart_base.specs.Lists.{Each}
use Rattle.smart_base.specs.Views.{View}
use Rattle.smart_base.specs.declared.party.Party.TheVariants as parties
use Rattle.smart_statements.specs.Forms.{SignedBy}
use Rattle.smart_statements.specs.Kinds.{requests}
use Rattle.smart_statements.specs.Batches.{Batch}
use Rattle.smart_statements.specs.declared.statement.Request.{Request}
use Rattle.smart_messages.specs.declared.message.Message.TheVariants.{Ask}
use Rattle.smart_statements.specs.declared.entry.NodeEvent.{NodeEvent}
use Rattle.smart_service.specs.Services.{Meaning}
use Rattle.vote_book.specs.Books.{Among}
use Rattle.vote_book.specs.declared.entry.Decision.{Decision}
use Rattle.vote_book.specs.declared.entry.LogEntry.{LogEntry}
use Rattle.vote_book.specs.declared.entry.LogEntry.TheVariants.{Decided}
use Rattle.replica_rules.specs.Replicas.{request_at, batch_at}
use Rattle.replica_rules.specs.Seals.{signed, is_verified, digest_of, request_fits}
use Rattle.node_rules.specs.Nodes.{Node, next_place, view_of}
use Rattle.node_rules.specs.Steps.{step_of, leaving}
use Rattle.node_rules.specs.declared.node.Held.{Held}
use Rattle.agreement_laws.specs.Statements.{Statement, Asked, statements}
use Rattle.agreement_laws.proofs.Lists.{each_among, some_equal, either, each_end}
use Rattle.node_laws.specs.Sound.{IsHeld, IsSound, IsBatchAt, AreAsked, HasBatch, HasDecided}
use Rattle.node_laws.proofs.Passes.{sound_step}
use Rattle.client_quorum.specs.Clients.{request_of}
use Rattle.client_quorum.specs.declared.client.Client.{Client}
use Rattle.world_rules.specs.Secrets.{group_secret}
use Rattle.world_rules.specs.Premises.{is_among, is_from, is_forged}
use Rattle.world_laws.specs.Promises.{IsHeader, HasAsked, IsRogue, IsAskedIn}
use Rattle.world_rules.specs.Worlds.{course_of, Host, World, posts, sends_all, chosen_with, stepped, hearing, begun}
use Rattle.world_rules.specs.Plays.{world_after}
use Rattle.world_rules.specs.declared.line.Line.{Line}
use Rattle.world_rules.specs.declared.message.Origin.{Origin}
use Rattle.world_rules.specs.declared.message.Origin.TheVariants as origins
use Rattle.world_rules.specs.declared.message.Content.{Content}
use Rattle.world_rules.specs.declared.message.Content.TheVariants as contents
use Rattle.world_rules.specs.declared.message.Sent.{Sent}
use Rattle.world_rules.specs.Stated.{stated_in, stated}
use Rattle.world_laws.specs.Stated.{StatedAsked}
use Rattle.world_laws.proofs.Lists.{each_get}
use Rattle.world_laws.proofs.Numbered.{EachAt, each_at_end, each_at_get, each_at_weaker}
use Rattle.world_laws.proofs.Keeps.{IsRead, asked_by, by-posts, MayRead, may_read, KeepsAll, keeps-world_after, signed_by, from_node, from_client, from_script}
use Rattle.world_laws.proofs.Asks.{asked_end, asked_now, asked_among}
use Rattle.replica_laws.proofs.Small.{IsBrief}
use Rattle.world_laws.proofs.Snapshots.{IsRestorable}
use Rattle.world_laws.proofs.Fitting.{fit-owns}
use Rattle.world_laws.proofs.Grounded.{grounded-reads}
use Rattle.world_laws.proofs.Stating.{Proper, says_message}
use Rattle.world_laws.proofs.Unforged.{content_proper, IsOwnStated, fine_own}
use Rattle.replica_laws.proofs.Longer.{secret-step}
use Rattle.world_laws.proofs.Witnessing.{stated_event, stated-grows, stated-either}
use Rattle.world_laws.proofs.Chosen.{HostRight, ChosenRight}
use Rattle.world_laws.proofs.ChosenKept.{asks_alone, chosen-kept, chosen-begun, may_fit, no_member}
use Rattle.smart_base.proofs.SameLists.{and_true}
use Rattle.smart_base.proofs.ViewFacts.{each-weaken}
use Rattle.world_rules.specs.declared.line.Header.{Header}

-- a request was asked, or its client is rogue
abbrev pub AskedUnlessRogue : List ℕ → List Sent → Request → Type 0
AskedUnlessRogue rogue sent q = IsRogue rogue q.client ⊎ HasAsked sent q

-- a request has been stated, and was asked after earlier places alone
abbrev pub Stands : List Statement → ℕ → SignedBy Request → Type 0
Stands T place q = Among (Asked q) T × (q.statement.after < place)

-- each request of each place does
abbrev pub ChosenGood : List Statement → List Batch → Type 0
ChosenGood T chosen = EachAt (λ i batch. Each (Stands T (suc i)) batch) chosen

-- a client asks a request
pub record IsAsk (s : Sent) : Type 0 where
  pub request : Request
  pub is : IsAskedIn s request

-- a client sends nothing else
abbrev pub IsAskFrom : Origin → Sent → Type 0
IsAskFrom (origins.Node id) s = Unit {0}
IsAskFrom (origins.Client id) s = IsAsk s
IsAskFrom origins.Script s = Unit {0}

-- each request that has been stated was asked by its client, unless it is rogue, and the requests of each place have been stated
pub record RequestsAsked {S : Type 0} (w : World S) : Type 0 where
  pub each : (q : SignedBy Request) → Among (Asked q) (stated w.sent) → AskedUnlessRogue w.rogue w.sent q.statement
  pub chosen : ChosenGood (stated w.sent) w.chosen
  pub clients : Each (λ s. IsAskFrom s.origin s) w.sent

-- what counts as asked counts so where more are rogue, or more is sent
asked-more : (rogue rogue' : List ℕ) (sent sent' : List Sent) → ((client : ℕ) → is_among rogue client ≡ true → is_among rogue' client ≡ true)
    → ((q : Request) → HasAsked sent q → HasAsked sent' q) → (q : Request) → AskedUnlessRogue rogue sent q → AskedUnlessRogue rogue' sent' q
asked-more rogue rogue' sent sent' rogues more q asked = ⊎_elim (λ is. inl (rogues q.client is)) (λ is. inr (more q is)) asked

asked-sent : (rogue : List ℕ) (sent : List Sent) (s : Sent) (q : Request) → AskedUnlessRogue rogue sent q → AskedUnlessRogue rogue (sent ++ s ∷ []) q
asked-sent rogue sent s q asked = asked-more rogue rogue sent (sent ++ s ∷ []) (λ client is. is) (asked_end sent s) q asked

good-more : (sent : List Sent) (s : Sent) (chosen : List Batch) → ChosenGood (stated sent) chosen → ChosenGood (stated (sent ++ s ∷ [])) chosen
good-more sent s chosen good =
    each_at_weaker (λ i batch. Each (Stands (stated sent) (suc i)) batch) (λ i batch. Each (Stands (stated (sent ++ s ∷ [])) (suc i)) batch)
    (λ i batch each. each-weaken (Stands (stated sent) (suc i)) (Stands (stated (sent ++ s ∷ [])) (suc i)) (λ q is. (stated-grows sent s (Asked q) is.0, is.1)) batch each) chosen good

-- messages leave

-- each request that a content states was asked, unless its client is rogue
abbrev pub StatesAsked : List ℕ → List Sent → Content → Type 0
StatesAsked rogue sent c = (q : SignedBy Request) → Among (Asked q) (stated_in c) → AskedUnlessRogue rogue sent q.statement

-- something is sent that states what was asked
asked-posts : {S : Type 0} (w : World S) (s : Sent) → StatesAsked w.rogue (w.sent ++ s ∷ []) s.content → IsAskFrom s.origin s → RequestsAsked w → RequestsAsked (posts w s)
asked-posts {S = S} w s asked own is =
    by-posts (λ (v : World S). RequestsAsked v) w s (λ ending. record { each = is.each; chosen = is.chosen; clients = is.clients })
    (λ free room. record {
      each = λ q there. ⊎_elim {C = AskedUnlessRogue w.rogue (w.sent ++ s ∷ []) q.statement} (λ old. asked-sent w.rogue w.sent s q.statement (is.each q old)) (λ new. asked q new) (stated-either w.sent s (Asked q) there);
      chosen = good-more w.sent s w.chosen is.chosen;
      clients = each_end (λ (t : Sent). IsAskFrom t.origin t) w.sent s is.clients own;
    })

-- what states what was asked does so where a message has left
states-posts : {S : Type 0} (w : World S) (s : Sent) (c : Content) → StatesAsked w.rogue w.sent c → StatesAsked (posts w s).rogue (posts w s).sent c
states-posts {S = S} w s c states =
    by-posts (λ (v : World S). StatesAsked v.rogue v.sent c) w s (λ ending. states) (λ free room. λ q there. asked-sent w.rogue w.sent s q.statement (states q there))

-- messages of a node leave
asked-sends_all : {S : Type 0} (id : ℕ) (view : View) (w : World S) (held : List Held) → Each (λ h. StatesAsked w.rogue w.sent (contents.Message h.message)) held → RequestsAsked w → RequestsAsked (sends_all id view w held)
asked-sends_all id view w [] each is = is
asked-sends_all {S = S} id view w (h ∷ hs) each is =
    let s : Sent = from_node w id view h in
    let after : World S = posts w s in
    asked-sends_all id view after hs
    (each-weaken (λ (x : Held). StatesAsked w.rogue w.sent (contents.Message x.message)) (λ (x : Held). StatesAsked after.rogue after.sent (contents.Message x.message))
    (λ x states. states-posts w s (contents.Message x.message) states) hs each.1)
    (asked-posts w s (λ q there. asked-sent w.rogue w.sent s q.statement (each.0 q there)) tt is)

-- what a node holds states requests that have been stated
held_asked : (id : ℕ) (T : List Statement) (es : List LogEntry) (h : Held) (q : SignedBy Request) → IsHeld group_secret id T es h → Among (Asked q) (statements group_secret h.message) → Among (Asked q) T
held_asked id T es h q is there =
    ⊎_elim {C = Among (Asked q) T} (λ old. old) (λ own. absurd (no_member q.signer id own.0)) (each_among _ (statements group_secret h.message) (Asked q) is.shown there)

leaving_asked : (rogue : List ℕ) (sent : List Sent) (id firm : ℕ) (T : List Statement) (es : List LogEntry) (held : List Held) → ((q : SignedBy Request) → Among (Asked q) T → AskedUnlessRogue rogue sent q.statement)
    → Each (IsHeld group_secret id T es) held → Each (λ h. StatesAsked rogue sent (contents.Message h.message)) (leaving firm held)
leaving_asked rogue sent id firm T es [] asked each = tt
leaving_asked rogue sent id firm T es (h ∷ hs) asked each =
    either (λ (xs : List Held). Each (λ x. StatesAsked rogue sent (contents.Message x.message)) xs) (nat_le h.needs firm) (h ∷ leaving firm hs) []
    (λ q there. asked q (held_asked id T es h q each.0 there), leaving_asked rogue sent id firm T es hs asked each.1) tt

-- a batch is chosen

-- each request of a batch that may stand at a place stands there
each_stands : (T : List Statement) (place : ℕ) (qs : Batch) → AreAsked group_secret T qs → list_all (request_fits group_secret place) qs ≡ true → Each (Stands T place) qs
each_stands T place [] each all = tt
each_stands T place (q ∷ qs) each all =
    let here = and_true (request_fits group_secret place q) (list_all (request_fits group_secret place) qs) all in
    let outer = and_true (nat_le q.statement.client 1024 && nat_lt q.statement.after place) (is_verified requests group_secret q) here.0 in
    let inner = and_true (nat_le q.statement.client 1024) (nat_lt q.statement.after place) outer.0 in
    let said : Among (Asked q) (statements group_secret (Ask q)) = says_message (Ask q) (Asked q) (Asked q) (inl refl) (inl refl) each.0.0 in
    ((each_among (λ s. Among s T) (statements group_secret (Ask q)) (Asked q) each.0.1 said, ltb-true q.statement.after place inner.1), each_stands T place qs each.1 here.1)

-- so each of the batch that waits at a sound node
waits-stand : {S : Type 0} (T : List Statement) (view : View) (n : Node S) (batch : Batch) → n.secret ≡ group_secret → IsSound T view n → n.waiting ≡ Some batch → Each (Stands T (next_place n)) batch
waits-stand {S = S} T view n batch shared is at = stand (by n.waiting at is.waiting)
  where
    by : (waiting : Option Batch) → waiting ≡ Some batch → IfSome waiting (HasDecided n.entries (next_place n)) → HasDecided n.entries (next_place n) batch
    by None at has = absurd (cc)
    by (Some b) at has = subst (λ (x : Batch). HasDecided n.entries (next_place n) x) (some_equal b batch at) has

    stand : HasDecided n.entries (next_place n) batch → Each (Stands T (next_place n)) batch
    stand has =
        let d : Decision = has.decision in
        let own : IsBatchAt n.secret T d.slot.place (digest_of d.batch) d.batch = each_among (HasBatch n.secret T) n.entries (Decided d) is.batches has.there in
        let mine : IsBatchAt group_secret T d.slot.place (digest_of d.batch) d.batch = subst (λ (k : List ℕ). IsBatchAt k T d.slot.place (digest_of d.batch) d.batch) shared own in
        subst (λ (k : ℕ). Each (Stands T k) batch) has.place_is
        (subst (λ (b : Batch). Each (Stands T d.slot.place) b) has.batch_is
        (each_stands T d.slot.place d.batch mine.asked (may_fit group_secret d.slot.place (digest_of d.batch) d.batch mine.may)))

-- the list with the batch that waits at a node
chosen-if : (T : List Statement) (chosen : List Batch) (place : ℕ) (batch : Batch) (b : Bool) → (place == length chosen + 1) ≡ b → ChosenGood T chosen → Each (Stands T place) batch
    → ChosenGood T (cond b (chosen ++ batch ∷ []) chosen)
chosen-if T chosen place batch true is each good =
    let e : suc (length chosen) ≡ length chosen + 1 = omega arith in
    each_at_end (λ i x. Each (Stands T (suc i)) x) chosen batch each (subst (λ (k : ℕ). Each (Stands T k) batch) (eqb-true place (length chosen + 1) is ∙ sym e) good)
chosen-if T chosen place batch false is each good = each

chosen-with : (T : List Statement) (chosen : List Batch) (place : ℕ) (waiting : Option Batch) → ChosenGood T chosen → ((batch : Batch) → waiting ≡ Some batch → Each (Stands T place) batch) → ChosenGood T (chosen_with chosen place waiting)
chosen-with T chosen place None each good = each
chosen-with T chosen place (Some batch) each good = chosen-if T chosen place batch (place == length chosen + 1) refl each (good batch refl)

-- events

-- a node takes an event
asked-stepped : {S : Type 0} (m : Meaning S) (w : World S) (i : ℕ) (h : Host S) (event : NodeEvent) → slice_get w.hosts i ≡ Some h → MayRead w h event → (step_of m h.node event).node.secret ≡ group_secret → ChosenRight m w → RequestsAsked w
    → RequestsAsked (stepped (course_of m) w i h (step_of m h.node event))
unfolding stepped
asked-stepped {S = S} m w i h event at may shared r is =
    let n : Node S = (step_of m h.node event).node in
    let hr : HostRight w.sent m w.view w.chosen h = each_get (HostRight w.sent m w.view w.chosen) w.hosts i h r.1.right at in
    let s : IsSound (stated w.sent) w.view n = sound_step m (stated w.sent) w.view h.node event hr.sound (stated_event w h h.node.secret event hr.shared may) in
    asked-sends_all h.node.id (view_of n) _ (leaving n.firm n.held)
    (leaving_asked w.rogue w.sent n.id n.firm (stated w.sent) n.entries n.held is.each (subst (λ (k : List ℕ). Each (IsHeld k n.id (stated w.sent) n.entries) n.held) shared s.held))
    (record {
      each = is.each;
      chosen = chosen-with (stated w.sent) w.chosen (next_place n) n.waiting is.chosen (λ batch at. waits-stand (stated w.sent) w.view n batch shared s at);
      clients = is.clients;
    })

-- what is injected

-- whom a client's statement is from, is that client
from_client_is : (id : ℕ) (o : Origin) → is_from (parties.Client id) o ≡ true → o ≡ origins.Client id
from_client_is id (origins.Node other) is = absurd (cc)
from_client_is id (origins.Client other) is = ap (λ (k : ℕ). origins.Client k) (sym (eqb-true id other is))
from_client_is id origins.Script is = absurd (cc)

-- a request that stands in what its client asks was asked
ask_states : (sent : List Sent) (s : Sent) (q : SignedBy Request) → IsAsk s → Among s sent → Among (Asked q) (stated_in s.content) → HasAsked sent q.statement
ask_states sent s q ask there states =
    let r : Request = ask.request in
    let mine : Among (Asked q) (stated_in (contents.Message (Ask (signed requests group_secret r.client r)))) = subst (λ (x : Content). Among (Asked q) (stated_in x)) ask.is.content states in
    let one : Asked q ≡ Asked (signed requests group_secret r.client r) = asks_alone (signed requests group_secret r.client r) (Asked q) mine in
    subst (HasAsked sent) (sym (same q (signed requests group_secret r.client r) one)) (asked_among sent s r ask.is there)
  where
    same : (a b : SignedBy Request) → Asked a ≡ Asked b → a.statement ≡ b.statement
    same a b is = cc

-- a client's request that stands in a message of its own was asked
pub own_asked : (sent : List Sent) (q : SignedBy Request) → Each (λ s. IsAskFrom s.origin s) sent → IsOwnStated sent (Asked q) → HasAsked sent q.statement
own_asked sent q clients own =
    let s : Sent = own.stands.message in
    ask_states sent s q
    (subst (λ (o : Origin). IsAskFrom o s) (from_client_is q.signer s.origin own.from) (each_among (λ (t : Sent). IsAskFrom t.origin t) sent s clients own.stands.there)) own.stands.there own.stands.states

-- so a request of what is injected was asked, or its client is rogue
request_asked : (faulty rogue : List ℕ) (sent : List Sent) (content : Content) (q : SignedBy Request) → is_forged faulty rogue sent content ≡ false → Each (λ s. IsRead s.content) sent → Each (λ s. IsAskFrom s.origin s) sent
    → IsRead content → Among (Asked q) (stated_in content) → AskedUnlessRogue rogue sent q.statement
request_asked faulty rogue sent content q fine reads clients read there =
    let proper : Proper (Asked q) = content_proper content (Asked q) read there in
    ⊎_elim (λ excused. inl (subst (λ (id : ℕ). is_among rogue id ≡ true) (sym proper.0.client_is) excused)) (λ own. inr (own_asked sent q clients own)) (fine_own faulty rogue sent content (Asked q) fine reads read there)

-- whatever happens

-- a client asks a request of its own
asked-ask : {S : Type 0} (w : World S) (c : Client) (q : Request) → q.client ≡ c.id → RequestsAsked w → RequestsAsked (posts w (from_client c (signed_by c q)))
asked-ask w c q own is =
    let s : Sent = from_client c (signed_by c q) in
    let asks : IsAskedIn s q = record {
      origin = ap (λ (id : ℕ). origins.Client id) (sym own);
      content = ap (λ (id : ℕ). contents.Message (Ask (signed requests group_secret id q))) (sym own);
    } in
    asked-posts w s
    (λ r there. inr (subst (HasAsked (w.sent ++ s ∷ [])) (sym (statement r (signed requests group_secret c.id q) (asks_alone (signed requests group_secret c.id q) (Asked r) there)))
    (asked_now w.sent s q asks)))
    (record { request = q; is = asks }) is
  where
    statement : (a b : SignedBy Request) → Asked a ≡ Asked b → a.statement ≡ b.statement
    statement a b is = cc

-- each request that has been stated was asked by its client, unless it is rogue
pub keeps-asked : {S : Type 0} (m : Meaning S) → IsBrief m → IsRestorable m → KeepsAll (course_of m) (λ w. ChosenRight m w × RequestsAsked w)
unfolding hearing
keeps-asked {S = S} m brief service =
    let k : KeepsAll (course_of m) (ChosenRight m) = chosen-kept m brief service in
    record {
      kept = record {
        event = λ w i h event up at may p.
            let read : MayRead w h event = may_read w h event (grounded-reads w p.0.0.0) may.come in
            let hr : HostRight w.sent m w.view w.chosen h = each_get (HostRight w.sent m w.view w.chosen) w.hosts i h p.0.1.right at in (
              k.kept.event w i h event up at may p.0,
              asked-stepped m w i h event at read (secret-step m h.node event ∙ hr.shared) p.0 p.1,
            );
        disk = λ w i h up at p. (k.kept.disk w i h up at p.0, record { each = p.1.each; chosen = p.1.chosen; clients = p.1.clients });
        crash = λ w i h left up at may p. (k.kept.crash w i h left up at may p.0, record { each = p.1.each; chosen = p.1.chosen; clients = p.1.clients });
        hear = λ w i c x a on at has read p. (k.kept.hear w i c x a on at has read p.0, record { each = p.1.each; chosen = p.1.chosen; clients = p.1.clients });
        ask = λ w i c op at free low brief p. (
          k.kept.ask w i c op at free low brief p.0,
          asked-ask (asked_by w i c op) c (request_of c op) refl (record { each = p.1.each; chosen = p.1.chosen; clients = p.1.clients }),
        );
        again = λ w i c q at waits p. (k.kept.again w i c q at waits p.0, asked-ask w c q (fit-owns w p.0.0.0.fit i c q at waits) p.1);
        learn = λ w i j c d at other p. (k.kept.learn w i j c d at other p.0, record { each = p.1.each; chosen = p.1.chosen; clients = p.1.clients });
        inject = λ w x read fine p. (
          k.kept.inject w x read fine p.0,
          asked-posts w (from_script x) (λ q there. asked-sent w.rogue w.sent (from_script x) q.statement (request_asked w.faulty w.rogue w.sent x q fine p.0.0.0.fit.sent p.1.clients read there)) tt p.1,
        );
        declare = λ w faulty rogue ending how p. (
          k.kept.declare w faulty rogue ending how p.0,
          record { each = λ q there. asked-more w.rogue rogue w.sent w.sent how.more_rogue (λ r asked. asked) q.statement (p.1.each q there); chosen = p.1.chosen; clients = p.1.clients },
        );
        same = λ w mark told p. (k.kept.same w mark told p.0, record { each = p.1.each; chosen = p.1.chosen; clients = p.1.clients });
        meet = λ w texts on p. (k.kept.meet w texts on p.0, record { each = p.1.each; chosen = p.1.chosen; clients = p.1.clients });
      };
      resume = λ w i h down at p. (k.resume w i h down at p.0, record { each = p.1.each; chosen = p.1.chosen; clients = p.1.clients });
      add = λ w i member on new p. (k.add w i member on new p.0, record { each = p.1.each; chosen = p.1.chosen; clients = p.1.clients });
    }

-- the beginning

-- a world begins with no request
pub asked-begun : {S : Type 0} (m : Meaning S) (g : Header) → RequestsAsked (begun m g)
asked-begun m g = record { each = λ q never. absurd never; chosen = tt; clients = tt }

-- after any lines of any script, each request was asked by its client, unless it is rogue
pub asked-after : {S : Type 0} (m : Meaning S) → IsBrief m → IsRestorable m → (g : Header) (ls : List Line) → IsHeader g → RequestsAsked (world_after (course_of m) (begun m g) ls)
asked-after {S = S} m brief service g ls is =
    (keeps-world_after (course_of m) (λ (w : World S). ChosenRight m w × RequestsAsked w) (keeps-asked m brief service) (begun m g) ls (chosen-begun m g is, asked-begun m g)).1

-- what follows

-- the requests of a place have been stated, and were asked after earlier places alone
pub batch_good : {S : Type 0} (w : World S) (place : ℕ) (batch : Batch) → RequestsAsked w → batch_at w.chosen place ≡ Some batch → Each (Stands (stated w.sent) place) batch
batch_good w zero batch is at = absurd (cc)
batch_good w (suc i) batch is at = each_at_get (λ j b. Each (Stands (stated w.sent) (suc j)) b) w.chosen i batch is.chosen at

-- what is so of the request at a place and an index of the list: its client asked it, unless it is rogue, after earlier places alone
pub record StandsRight (rogue : List ℕ) (sent : List Sent) (place : ℕ) (q : Request) : Type 0 where
  pub asked : AskedUnlessRogue rogue sent q
  pub below : q.after < place

-- the request that a batch has at an index, if it has one
stands_at : {S : Type 0} (w : World S) (place : ℕ) (batch : Batch) (index : ℕ) (q : Request) (found : Option (SignedBy Request)) → RequestsAsked w → Each (Stands (stated w.sent) place) batch → slice_get batch index ≡ found
    → option_map (λ x. x.statement) found ≡ Some q → StandsRight w.rogue w.sent place q
stands_at w place batch index q None is good at same = absurd (cc)
stands_at w place batch index q (Some x) is good at same =
    let own = each_get (Stands (stated w.sent) place) batch index x good at in
    subst (StandsRight w.rogue w.sent place) (some_equal x.statement q same) (record { asked = is.each x own.0; below = own.1 })

-- the request at an index of a batch that is found stands right
stands_found : {S : Type 0} (w : World S) (place : ℕ) (found : Option Batch) (index : ℕ) (q : Request) → RequestsAsked w → ((batch : Batch) → found ≡ Some batch → Each (Stands (stated w.sent) place) batch)
    → option_and_then (λ batch. option_map (λ x. x.statement) (slice_get batch index)) found ≡ Some q → StandsRight w.rogue w.sent place q
stands_found w place None index q is good at = absurd (cc)
stands_found w place (Some batch) index q is good at = stands_at w place batch index q (slice_get batch index) is (good batch refl) refl at

-- the request at a place and an index of the list was asked by its client, unless it is rogue, after earlier places alone
pub stands_right : {S : Type 0} (w : World S) (place index : ℕ) (q : Request) → RequestsAsked w → request_at w.chosen place index ≡ Some q → StandsRight w.rogue w.sent place q
stands_right w place index q is at = stands_found w place (batch_at w.chosen place) index q is (λ batch found. batch_good w place batch is found) at

-- after any lines of any script, each request that has been stated was asked, unless its client is rogue
pub stated_asked-after : {S : Type 0} (m : Meaning S) → IsBrief m → IsRestorable m → (g : Header) (ls : List Line) → IsHeader g → StatedAsked (world_after (course_of m) (begun m g) ls)
stated_asked-after m brief service g ls is = record { each = (asked-after m brief service g ls is).each }
