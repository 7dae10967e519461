-- Each view that a node holds for clients, or has sent, is one of the list.
use Rattle.std.proofs.Common.{◌≡◌, ⊎_elim, ℕ, ◌++◌, ◌∙◌, Bool, true, false, List, [], ◌∷◌, sym, subst, refl, inl, Option, Some, None, filter}
use Rattle.std.specs.Prelude.{IfSome, map, slice_get}
use Rattle.std.specs.List.{flat_map}
use Rattle.smart_base.specs.Lists.{Each}
use Rattle.smart_base.specs.Views.{View}
use Rattle.smart_base.proofs.ViewFacts.{each-weaken}
use Rattle.smart_statements.specs.Forms.{SignedBy}
use Rattle.smart_statements.specs.Batches.{Batch}
use Rattle.smart_statements.specs.declared.report.Evidence.{Evidence}
use Rattle.smart_statements.specs.declared.report.Evidence.TheVariants as evidence
use Rattle.smart_statements.specs.declared.report.LockCertificate.{LockCertificate}
use Rattle.smart_statements.specs.declared.report.Report.{Report}
use Rattle.smart_statements.specs.declared.entry.NodeEvent.{NodeEvent}
use Rattle.smart_messages.specs.Messages.{batch_in, decision_in, view_told_in, statements_in}
use Rattle.smart_messages.specs.Regencies.{view_infos}
use Rattle.smart_messages.specs.declared.regency.ViewInfo.{ViewInfo}
use Rattle.smart_messages.specs.declared.message.Message.{Message}
use Rattle.smart_messages.specs.declared.message.Message.TheVariants.{Ask, Propose, Vote, Reply}
use Rattle.smart_messages.specs.declared.message.Message.TheVariants as changes
use Rattle.transfer_form.specs.declared.transfer.ProvenBatch.{ProvenBatch}
use Rattle.smart_service.specs.Services.{Meaning}
use Rattle.vote_book.specs.Books.{Among}
use Rattle.replica_rules.specs.Replicas.{views_after}
use Rattle.replica_rules.specs.Seals.{is_verified}
use Rattle.node_rules.specs.Nodes.{Node, next_place, view_of}
use Rattle.node_rules.specs.Steps.{Outcome, step_of, leaving}
use Rattle.node_rules.specs.declared.node.Held.{Held}
use Rattle.agreement_laws.specs.Statements.{Statement, Voted, Stopped, Reported, Synced, Marked, Replied, Informed, within, in_report, parts_of_evidence, parts_of_lock, requests_of, own, proof_in, said, verifies}
use Rattle.agreement_laws.specs.Statements as states
use Rattle.agreement_laws.proofs.Lists.{either, each_append, each_among, each_end}
use Rattle.node_laws.proofs.Passes.{each_staying}
use Rattle.replica_laws.specs.Lines.{ViewAmong, HoldsViews}
use Rattle.replica_laws.proofs.ViewsTold.{views-step}
use Rattle.replica_laws.proofs.Waiting.{each-leaving}
use Rattle.world_rules.specs.Secrets.{group_secret}
use Rattle.world_rules.specs.Premises.{is_among}
use Rattle.world_rules.specs.Stated.{stated_in, stated}
use Rattle.world_rules.specs.Worlds.{Course, course_of, Host, World, posts, sends_all, chosen_with, host_after, host_crashed, host_resumed, stepped, hearing, hosts_from, begun, parts_held, new_host}
use Rattle.world_rules.specs.declared.line.Header.{Header}
use Rattle.world_rules.specs.declared.message.Content.{Content}
use Rattle.world_rules.specs.declared.message.Content.TheVariants as contents
use Rattle.world_rules.specs.declared.message.Origin.{Origin}
use Rattle.world_rules.specs.declared.message.Origin.TheVariants as origins
use Rattle.world_rules.specs.declared.message.Sent.{Sent}
use Rattle.world_laws.proofs.Chosen.{chosen_there}
use Rattle.world_laws.proofs.Keeps.{after_call, with_host, node_resumed, ask_of, asked_by, by-posts, IsUp, KeepsAll, MayTake, signed_by, from_node, from_client, from_script, HasMessage, IsRead}
use Rattle.world_laws.proofs.Lists.{each_set, each_get, each_insert}
use Rattle.world_laws.proofs.Reopens.{from_held}
use Rattle.world_laws.proofs.Stating.{says_message}
use Rattle.world_laws.proofs.Witnessing.{content_stated}
use Rattle.world_laws.proofs.Unforged.{Unforged, IsFine, Stands, stated_stands, fine_own, from_member}

-- ---- worlds

-- the views behind the list of a world
abbrev pub views_of : {S : Type 0} → World S → List View
views_of w = views_after w.view w.chosen

-- a content that tells one of some views, if it tells a view
abbrev pub TellsAmong : List View → Content → Type 0
TellsAmong views (contents.Message x) = ViewAmong views x
TellsAmong views (contents.Raw bytes) = Unit {0}

-- such a content of a node or a client; of what a script injects nothing is said
abbrev pub TellsFrom : List View → Origin → Content → Type 0
TellsFrom views (origins.Node id) x = TellsAmong views x
TellsFrom views (origins.Client id) x = TellsAmong views x
TellsFrom views origins.Script x = Unit {0}

-- a world in which each view that a node holds, or a node or a client has told, is one of the list
pub record ToldViews {S : Type 0} (w : World S) : Type 0 where
  pub sent : Each (λ s. TellsFrom (views_of w) s.origin s.content) w.sent
  pub held : Each (λ h. HoldsViews (views_of w) h.node) w.hosts

-- where there are more views

more_among : (views more : List View) → ((v : View) → Among v views → Among v more) → (x : Message) → ViewAmong views x → ViewAmong more x
more_among views more grows x among = by (view_told_in x) among
  where
    by : (told : Option (SignedBy ViewInfo)) → IfSome told (λ i. Among i.statement.view views) → IfSome told (λ i. Among i.statement.view more)
    by None is = tt
    by (Some i) is = grows i.statement.view is

more_tells : (views more : List View) → ((v : View) → Among v views → Among v more) → (x : Content) → TellsAmong views x → TellsAmong more x
more_tells views more grows (contents.Message x) tells = more_among views more grows x tells
more_tells views more grows (contents.Raw bytes) tells = tt

more_from : (views more : List View) → ((v : View) → Among v views → Among v more) → (o : Origin) (x : Content) → TellsFrom views o x → TellsFrom more o x
more_from views more grows (origins.Node id) x tells = more_tells views more grows x tells
more_from views more grows (origins.Client id) x tells = more_tells views more grows x tells
more_from views more grows origins.Script x tells = tt

more_held : {S : Type 0} (views more : List View) → ((v : View) → Among v views → Among v more) → (n : Node S) → HoldsViews views n → HoldsViews more n
more_held views more grows n held = each-weaken (λ (x : Held). ViewAmong views x.message) (λ (x : Held). ViewAmong more x.message) (λ x. more_among views more grows x.message) n.held held

-- messages leave

told-posts : {S : Type 0} (w : World S) (s : Sent) → TellsFrom (views_of w) s.origin s.content → ToldViews w → ToldViews (posts w s)
told-posts {S = S} w s tells t =
    by-posts (λ (v : World S). ToldViews v) w s (λ ending. record { sent = t.sent; held = t.held })
    (λ free room. record { sent = each_end (λ (x : Sent). TellsFrom (views_of w) x.origin x.content) w.sent s t.sent tells; held = t.held })

told-sends_all : {S : Type 0} (id : ℕ) (view : View) (w : World S) (held : List Held) → Each (λ h. ViewAmong (views_of w) h.message) held → ToldViews w → ToldViews (sends_all id view w held)
told-sends_all id view w [] each t = t
told-sends_all {S = S} id view w (h ∷ hs) each t =
    let s : Sent = from_node w id view h in
    let rest : Each (λ (x : Held). ViewAmong (views_of (posts w s)) x.message) hs =
    by-posts (λ (v : World S). Each (λ (x : Held). ViewAmong (views_of v) x.message) hs) w s (λ ending. each.1) (λ free room. each.1) in
    told-sends_all id view (posts w s) hs rest (told-posts w s each.0 t)

-- a node's step

told-stepped : {S : Type 0} (course : Course S) (w : World S) (i : ℕ) (h : Host S) (o : Outcome S) → HoldsViews (views_after w.view (chosen_with w.chosen (next_place o.node) o.node.waiting)) o.node → ToldViews w
    → ToldViews (stepped course w i h o)
unfolding stepped
told-stepped {S = S} course w i h o held t =
    let more : List View = views_after w.view (chosen_with w.chosen (next_place o.node) o.node.waiting) in
    let grows : (v : View) → Among v (views_of w) → Among v more = chosen_there w.view w.chosen (next_place o.node) o.node.waiting in
    told-sends_all h.node.id (view_of o.node) _ (leaving o.node.firm o.node.held) (each-leaving (λ x. ViewAmong more x.message) o.node.firm o.node.held held)
    (record {
      sent = each-weaken (λ (x : Sent). TellsFrom (views_of w) x.origin x.content) (λ (x : Sent). TellsFrom more x.origin x.content) (λ x. more_from (views_of w) more grows x.origin x.content) w.sent t.sent;
      held = each_set (λ (g : Host S). HoldsViews more g.node) w.hosts i (host_after course h o)
          (each-weaken (λ (g : Host S). HoldsViews (views_of w) g.node) (λ (g : Host S). HoldsViews more g.node) (λ g. more_held (views_of w) more grows g.node) w.hosts t.held)
          (each_staying (λ x. ViewAmong more x.message) o.node.firm o.node.held held);
    })

-- another host, whose node holds no other view
told-host : {S : Type 0} (w : World S) (i : ℕ) (h : Host S) → HoldsViews (views_of w) h.node → ToldViews w → ToldViews (with_host w i h)
told-host {S = S} w i h held t = record { sent = t.sent; held = each_set (λ (g : Host S). HoldsViews (views_of w) g.node) w.hosts i h t.held held }

told-at : {S : Type 0} (w : World S) (i : ℕ) (h : Host S) → slice_get w.hosts i ≡ Some h → ToldViews w → HoldsViews (views_of w) h.node
told-at {S = S} w i h at t = each_get (λ (g : Host S). HoldsViews (views_of w) g.node) w.hosts i h t.held at

-- what a node knows behind its event is among the views behind the list then
abbrev pub KnowsThen : {S : Type 0} → Meaning S → World S → Host S → NodeEvent → Type 0
KnowsThen m w h event =
    (v : View) → Among v (step_of m h.node event).node.replica.views
    → Among v (views_after w.view (chosen_with w.chosen (next_place (step_of m h.node event).node) (step_of m h.node event).node.waiting))

-- where nodes know views of the list alone, each event keeps that
pub keeps-told_views : {S : Type 0} (m : Meaning S) (P : World S → Type 0)
    → ((w : World S) (i : ℕ) (h : Host S) (event : NodeEvent) → IsUp w h → slice_get w.hosts i ≡ Some h → MayTake w h event → P w → KnowsThen m w h event)
    → KeepsAll (course_of m) P → KeepsAll (course_of m) (λ w. P w × ToldViews w)
unfolding hearing
keeps-told_views {S = S} m P knows k =
    record {
      kept = record {
        event = λ w i h event up at may p. (
          k.kept.event w i h event up at may p.0,
          (let o : Outcome S = step_of m h.node event in
              let more : List View = views_after w.view (chosen_with w.chosen (next_place o.node) o.node.waiting) in
              told-stepped (course_of m) w i h o
              (views-step more m h.node event (knows w i h event up at may p.0)
              (more_held (views_of w) more (chosen_there w.view w.chosen (next_place o.node) o.node.waiting) h.node (told-at w i h at p.1))) p.1),
        );
        disk = λ w i h up at p. (k.kept.disk w i h up at p.0, told-host w i (after_call (course_of m) h) (told-at w i h at p.1) p.1);
        crash = λ w i h left up at may p. (k.kept.crash w i h left up at may p.0, told-host w i (host_crashed (course_of m) h left) (told-at w i h at p.1) p.1);
        hear = λ w i c x word on at has read p. (k.kept.hear w i c x word on at has read p.0, record { sent = p.1.sent; held = p.1.held });
        ask = λ w i c op at free few brief p. (
          k.kept.ask w i c op at free few brief p.0,
          told-posts (asked_by w i c op) (from_client c (ask_of c op)) tt (record { sent = p.1.sent; held = p.1.held }),
        );
        again = λ w i c q at waits p. (k.kept.again w i c q at waits p.0, told-posts w (from_client c (signed_by c q)) tt p.1);
        learn = λ w i j c d at other p. (k.kept.learn w i j c d at other p.0, record { sent = p.1.sent; held = p.1.held });
        inject = λ w x read fine p. (k.kept.inject w x read fine p.0, told-posts w (from_script x) tt p.1);
        declare = λ w faulty rogue ending how p. (k.kept.declare w faulty rogue ending how p.0, record { sent = p.1.sent; held = p.1.held });
        same = λ w mark told p. (k.kept.same w mark told p.0, record { sent = p.1.sent; held = p.1.held });
        meet = λ w texts on p. (k.kept.meet w texts on p.0, record { sent = p.1.sent; held = p.1.held });
      };
      resume = λ w i h down at p. (
        k.resume w i h down at p.0,
        told-host w i (host_resumed h (node_resumed (course_of m) w h))
            (subst (λ (hs : List Held). Each (λ x. ViewAmong (views_of w) x.message) hs) (sym (from_held m group_secret h.node.id w.view w.period (parts_held h))) tt) p.1,
      );
      add = λ w i member on new p. (
        k.add w i member on new p.0,
        record { sent = p.1.sent; held = each_insert (λ (g : Host S). HoldsViews (views_of w) g.node) w.hosts i (new_host m w member) p.1.held tt },
      );
    }

told-hosts : {S : Type 0} (m : Meaning S) (views : List View) (view : View) (period : ℕ) (ids : List ℕ) → Each (λ h. HoldsViews views h.node) (hosts_from m view period ids)
told-hosts m views view period [] = tt
told-hosts m views view period (id ∷ ids) = (tt, told-hosts m views view period ids)

pub told_views-begun : {S : Type 0} (m : Meaning S) (g : Header) → ToldViews (begun m g)
told_views-begun m g = record { sent = tt; held = told-hosts m (views_after g.view []) g.view g.period g.view.members }

-- ---- what has been stated

-- a statement that states one of some views, if it states a view
abbrev IsFrom : List View → Statement → Type 0
IsFrom views (Informed i) = Among i.statement.view views
IsFrom views (states.Asked q) = Unit {0}
IsFrom views (states.Proposed p) = Unit {0}
IsFrom views (Voted b) = Unit {0}
IsFrom views (Stopped s) = Unit {0}
IsFrom views (Reported r) = Unit {0}
IsFrom views (Synced y) = Unit {0}
IsFrom views (Marked k) = Unit {0}
IsFrom views (Replied a) = Unit {0}

module _ (views : List View) where
  from-map : {A : Type 0} (f : A → Statement) → ((x : A) → IsFrom views (f x)) → (xs : List A) → Each (IsFrom views) (map f xs)
  from-map f each [] = tt
  from-map f each (x ∷ xs) = (each x, from-map f each xs)

  from-evidence : (e : Evidence) → Each (IsFrom views) (parts_of_evidence e)
  from-evidence evidence.Nothing = tt
  from-evidence (evidence.Decided p) = from-map (λ b. Voted b) (λ b. tt) p.accepts
  from-evidence (evidence.Marked m) = from-map (λ k. Marked k) (λ k. tt) m.marks

  from-lock : (lock : Option LockCertificate) → Each (IsFrom views) (parts_of_lock lock)
  from-lock None = tt
  from-lock (Some l) = from-map (λ b. Voted b) (λ b. tt) l.writes

  from-report : (r : SignedBy Report) → Each (IsFrom views) (in_report r)
  from-report r = (tt, each_append (IsFrom views) (parts_of_evidence r.statement.evidence) (parts_of_lock r.statement.lock) (from-evidence r.statement.evidence) (from-lock r.statement.lock))

  from-flat : {A : Type 0} (f : A → List Statement) → ((x : A) → Each (IsFrom views) (f x)) → (xs : List A) → Each (IsFrom views) (flat_map f xs)
  from-flat f each [] = tt
  from-flat f each (x ∷ xs) = each_append (IsFrom views) (f x) (flat_map f xs) (each x) (from-flat f each xs)

  from-within : (s : Statement) → IsFrom views s → Each (IsFrom views) (within s)
  from-within (Reported r) is = from-report r
  from-within (Synced y) is = (tt, from-flat in_report from-report y.statement.collect)
  from-within (Informed i) is = (is, tt)
  from-within (states.Asked q) is = (tt, tt)
  from-within (states.Proposed p) is = (tt, tt)
  from-within (Voted b) is = (tt, tt)
  from-within (Stopped s) is = (tt, tt)
  from-within (Marked k) is = (tt, tt)
  from-within (Replied a) is = (tt, tt)

  from-all : (ss : List Statement) → Each (IsFrom views) ss → Each (IsFrom views) (flat_map within ss)
  from-all [] each = tt
  from-all (s ∷ ss) each = each_append (IsFrom views) (within s) (flat_map within ss) (from-within s each.0) (from-all ss each.1)

  from-requests : (batch : Option Batch) → Each (IsFrom views) (requests_of batch)
  from-requests None = tt
  from-requests (Some batch) = from-map (λ q. states.Asked q) (λ q. tt) batch

  from-proof : (d : Option ProvenBatch) → Each (IsFrom views) (proof_in d)
  from-proof None = tt
  from-proof (Some d) = from-map (λ b. Voted b) (λ b. tt) d.accepts

  from-own : (m : Message) → ViewAmong views m → Each (IsFrom views) (own m)
  from-own (Ask q) none = (tt, tt)
  from-own (Propose p) none = (tt, tt)
  from-own (Vote b) none = (tt, tt)
  from-own (changes.Stop s) none = (tt, tt)
  from-own (changes.StopData r) none = (tt, tt)
  from-own (changes.Sync s) none = (tt, tt)
  from-own (changes.Decision d) none = tt
  from-own (Reply a) none = (tt, tt)
  from-own (changes.Mark m) none = (tt, tt)
  from-own (changes.StateAsk a) none = tt
  from-own (changes.StateOffer o) none = from-map (λ k. Marked k) (λ k. tt) o.marks
  from-own (changes.StatePart p) none = tt
  from-own (changes.ViewTold i) among = (among, tt)

  from-said : (m : Message) → ViewAmong views m → Each (IsFrom views) (said m)
  from-said m none =
      each_append (IsFrom views) (own m) (proof_in (decision_in m) ++ requests_of (batch_in m)) (from-own m none)
      (each_append (IsFrom views) (proof_in (decision_in m)) (requests_of (batch_in m)) (from-proof (decision_in m)) (from-requests (batch_in m)))

  from-left : (test : Statement → Bool) (ss : List Statement) → Each (IsFrom views) ss → Each (IsFrom views) (filter test ss)
  from-left test [] each = tt
  from-left test (s ∷ ss) each = either (λ (xs : List Statement). Each (IsFrom views) xs) (test s) (s ∷ filter test ss) (filter test ss) (each.0, from-left test ss each.1) (from-left test ss each.1)

  from-stated : (x : Content) → TellsAmong views x → Each (IsFrom views) (stated_in x)
  from-stated (contents.Message m) none = from-left (verifies group_secret) (statements_in m) (from-all (said m) (from-said m none))
  from-stated (contents.Raw bytes) none = tt

-- a view that such a content states is one of them
among_in : (views : List View) (x : Content) (i : SignedBy ViewInfo) → TellsAmong views x → Among (Informed i) (stated_in x) → Among i.statement.view views
among_in views x i tells there = each_among (IsFrom views) (stated_in x) (Informed i) (from-stated views x tells) there

-- A view that a member has stated that is not faulty is one of the list, in whosever message it stands.
pub stated_among : {S : Type 0} (w : World S) (i : SignedBy ViewInfo) → Each (λ s. IsRead s.content) w.sent → Unforged w → ToldViews w → is_among w.faulty i.signer ≡ false → Among (Informed i) (stated w.sent)
    → Among i.statement.view (views_of w)
stated_among {S = S} w i read fine t correct there =
    let found = stated_stands w.sent (Informed i) there in
    by found.message.origin found (each_among (λ (s : Sent). IsFine w.faulty w.rogue w.sent s.origin s.content) w.sent found.message fine.each found.there) refl
  where
    no_other : true ≡ false → ⊥
    no_other is = cc

    from : (o : Origin) (found : Stands w.sent (Informed i)) → found.message.origin ≡ o → TellsFrom (views_of w) o found.message.content
    from o found is =
        subst (λ (p : Origin). TellsFrom (views_of w) p found.message.content) is (each_among (λ (s : Sent). TellsFrom (views_of w) s.origin s.content) w.sent found.message t.sent found.there)

    by : (o : Origin) (found : Stands w.sent (Informed i)) → IsFine w.faulty w.rogue w.sent o found.message.content → found.message.origin ≡ o → Among i.statement.view (views_of w)
    by (origins.Node j) found fine is = among_in (views_of w) found.message.content i (from (origins.Node j) found is) found.states
    by (origins.Client j) found fine is = among_in (views_of w) found.message.content i (from (origins.Client j) found is) found.states
    by origins.Script found fine is =
        ⊎_elim {C = Among i.statement.view (views_of w)} (λ excused. absurd (no_other (sym excused ∙ correct)))
        (λ mine. among_in (views_of w) mine.stands.message.content i (from (origins.Node i.signer) mine.stands (from_member i.signer mine.stands.message.origin mine.from)) mine.stands.states)
        (fine_own w.faulty w.rogue w.sent found.message.content (Informed i) fine read (each_among (λ (s : Sent). IsRead s.content) w.sent found.message read found.there) found.states)

-- a view that was told with its signer's tag has been stated
pub told_there : (sent : List Sent) (i : SignedBy ViewInfo) → HasMessage sent (changes.ViewTold i) → is_verified view_infos group_secret i ≡ true → Among (Informed i) (stated sent)
told_there sent i has tagged =
    content_stated sent (contents.Message (changes.ViewTold i)) (Informed i) has
    (says_message (changes.ViewTold i) (Informed i) (Informed i) (inl refl) (inl refl) tagged)
