-- A reply that came in a coherent run with its member's tag tells an execution of the list that the runs deliver.
use Rattle.std.proofs.Common.{◌≡◌, ◌∙◌, ℕ, zero, suc, ◌≤◌, ◌==◌, Bool, true, false, List, [], ◌∷◌, ◌++◌, length, refl, ap, sym, subst, arith, inl, inr, Option, Some, None, Ok}
use Rattle.std.proofs.lemmas.Bool.{ne_eqb}
use Rattle.std.specs.Prelude.{option_map, slice_get}
use Rattle.std.specs.List.{list_all}
use Rattle.std.specs.Option.{option_and_then}
use Rattle.smart_base.specs.Cuts.{IsBytes}
use Rattle.smart_base.specs.Lists.{Each}
use Rattle.smart_base.specs.Views.{View, is_view}
use Rattle.smart_base.proofs.SameLists.{and_true}
use Rattle.smart_base.proofs.ViewFacts.{each-weaken}
use Rattle.smart_statements.specs.Batches.{Batch}
use Rattle.smart_statements.specs.Forms.{SignedBy}
use Rattle.smart_statements.specs.Kinds.{answers, requests}
use Rattle.smart_statements.specs.declared.statement.Answer.{Answer}
use Rattle.smart_statements.specs.declared.statement.Request.{Request}
use Rattle.smart_messages.specs.Messages.{decoded, Fits}
use Rattle.smart_messages.specs.declared.message.Message.{Message}
use Rattle.smart_messages.specs.declared.message.Message.TheVariants.{Reply}
use Rattle.smart_messages.specs.declared.message.Message.TheVariants as changes
use Rattle.smart_messages.proofs.Messages.{decoded_is, one_seal}
use Rattle.smart_service.specs.Services.{Meaning}
use Rattle.smart_service.specs.declared.table.Execution.{Execution}
use Rattle.app_count.specs.Counts.{counting}
use Rattle.app_kv.specs.Snapshots.{keeping}
use Rattle.vote_book.specs.Books.{Among, last_made}
use Rattle.vote_book.specs.declared.entry.LogEntry.{LogEntry}
use Rattle.vote_book.specs.declared.entry.LogEntry.TheVariants.{Decided}
use Rattle.vote_book.proofs.Tested.{same_bytes_is}
use Rattle.replica_rules.specs.Replicas.{batch_at, executions, request_at}
use Rattle.replica_rules.specs.Seals.{is_verified}
use Rattle.agreement_laws.specs.Statements.{Statement, Replied, Marked, own, said, sealed_of, statements_in, within}
use Rattle.agreement_laws.proofs.Growing.{HasReached-more}
use Rattle.agreement_laws.proofs.Lists.{among_flat, each_among, given, some_equal}
use Rattle.node_rules.specs.Nodes.{Node, next_place}
use Rattle.node_rules.specs.Steps.{first_leaving, step_of}
use Rattle.node_rules.specs.declared.node.Held.{Held}
use Rattle.node_laws.proofs.Books.{least_decided}
use Rattle.replica_laws.specs.Lines.{HasLine, HeldRight, IsExecuted, ReplyRight, line_told}
use Rattle.replica_laws.proofs.Executions.{IsOfRequest, request-line, view-line}
use Rattle.replica_laws.proofs.FitNodes.{FitsDecision, FitsEntry}
use Rattle.replica_laws.proofs.Genuine.{IsGood}
use Rattle.replica_laws.proofs.OnePlace.{answer-line, place_of-line}
use Rattle.replica_laws.proofs.Onward.{HasDecided, IsDecided}
use Rattle.replica_laws.proofs.Telling.{Along, held-step, table_lines}
use Rattle.world_laws.proofs.Accepted.{line_accepted}
use Rattle.world_laws.proofs.Reopens.{from_held}
use Rattle.client_quorum.specs.Clients.{acceptance}
use Rattle.client_quorum.specs.declared.client.Acceptance.{Acceptance}
use Rattle.client_quorum.specs.declared.client.Client.{Client}
use Rattle.client_seat.specs.Asks.{acceptances}
use Rattle.trail.specs.Events.{addressed_text}
use Rattle.trail.specs.declared.event.Addressed.{Addressed}
use Rattle.trail.specs.declared.event.TrailEvent.{TrailEvent}
use Rattle.trail.specs.declared.event.TrailEvent.TheVariants.{Happens, Send, Lost, Polls, End}
use Rattle.trail.specs.declared.opening.App.{App}
use Rattle.trail.specs.declared.opening.App.TheVariants as apps
use Rattle.trail_rules.specs.Replays.{after, arrivals, node_step, sends}
use Rattle.audit_rules.specs.declared.recorded.Recorded.{Recorded}
use Rattle.audit_rules.specs.Audits.{addressed_of, first_node, is_client, is_release, parts_in}
use Rattle.audit_rules.specs.Coherence.{Coherent, Fresh, IsFresh, Leaves}
use Rattle.trail_agreement.specs.Deliveries.{AreSpelled, Delivers, IsNodeOf, IsSpelled, NoCollisionBy, OneListBy, book_of}
use Rattle.trail_agreement.specs.Excuses.{nobody}
use Rattle.trail_agreement.proofs.Apps.{coherent_but, few_nobody, group_count, group_kv, one_list}
use Rattle.trail_agreement.proofs.Deliveries.{decided_longer}
use Rattle.trail_agreement.proofs.Group.{IsGroup, IsMembers, book_grows, may_arrive, may_come, right_at, right_last}
use Rattle.trail_agreement.proofs.Nodes.{through}
use Rattle.trail_agreement.proofs.OneList.{all_listed, one_list_over}
use Rattle.trail_agreement.proofs.Runs.{MayArrive, each_first}
use Rattle.trail_agreement.proofs.Sends.{first_there, held_is}
use Rattle.trail_agreement.proofs.Shown.{Came, IsMade, all_stated, stated_made}
use Rattle.trail_agreement.proofs.Stated.{made_fits, stands_fits}
use Rattle.trail_replies.specs.Answers.{Answered, AnsweredBy, IsAnswer}
use Rattle.trail_replies.proofs.Accepted.{HasCome, all_come}

-- ---- requests of a list

-- the signed request at a place and an index
record SignedAt (list : List Batch) (place index : ℕ) (q : Request) : Type 0 where
  batch : Batch
  batch_is : batch_at list place ≡ Some batch
  request : SignedBy Request
  request_is : slice_get batch index ≡ Some request
  is : request.statement ≡ q

signed_at : (list : List Batch) (place index : ℕ) (q : Request) → request_at list place index ≡ Some q → SignedAt list place index q
signed_at list place index q there = by (batch_at list place) refl there
  where
    of : (batch : Batch) → batch_at list place ≡ Some batch → (o : Option (SignedBy Request)) → slice_get batch index ≡ o → option_map (λ (x : SignedBy Request). x.statement) o ≡ Some q → SignedAt list place index q
    of batch is None at same = absurd (cc)
    of batch is (Some x) at same = record { batch = batch; batch_is = is; request = x; request_is = at; is = some_equal x.statement q same }

    by : (o : Option Batch) → batch_at list place ≡ o → option_and_then (λ (batch : Batch). option_map (λ (x : SignedBy Request). x.statement) (slice_get batch index)) o ≡ Some q → SignedAt list place index q
    by None is same = absurd (cc)
    by (Some batch) is same = of batch is (slice_get batch index) refl same

all_at : {A : Type 0} (p : A → Bool) (xs : List A) (i : ℕ) (x : A) → list_all p xs ≡ true → slice_get xs i ≡ Some x → p x ≡ true
all_at p [] i x all at = absurd (cc)
all_at p (y ∷ xs) zero x all at = subst (λ z. p z ≡ true) (some_equal y x at) (and_true (p y) (list_all p xs) all).0
all_at p (y ∷ xs) (suc i) x all at = all_at p xs i x (and_true (p y) (list_all p xs) all).1 at

-- ---- what a message states

-- the message that makes a reply is that reply
reply_own : (x : Message) (r : SignedBy Answer) → Among (Replied r) (own x) → x ≡ Reply r
reply_own (changes.Ask q) r (inl is) = absurd (cc)
reply_own (changes.Ask q) r (inr none) = absurd none
reply_own (changes.Propose p) r (inl is) = absurd (cc)
reply_own (changes.Propose p) r (inr none) = absurd none
reply_own (changes.Vote b) r (inl is) = absurd (cc)
reply_own (changes.Vote b) r (inr none) = absurd none
reply_own (changes.Stop s) r (inl is) = absurd (cc)
reply_own (changes.Stop s) r (inr none) = absurd none
reply_own (changes.StopData d) r (inl is) = absurd (cc)
reply_own (changes.StopData d) r (inr none) = absurd none
reply_own (changes.Sync s) r (inl is) = absurd (cc)
reply_own (changes.Sync s) r (inr none) = absurd none
reply_own (changes.Decision d) r there = absurd there
reply_own (Reply x) r (inl is) =
    let named : Replied r ≡ Replied x = is in
    let same : x ≡ r = cc in
    ap (λ (y : SignedBy Answer). Reply y) same
reply_own (Reply x) r (inr none) = absurd none
reply_own (changes.Mark k) r (inl is) = absurd (cc)
reply_own (changes.Mark k) r (inr none) = absurd none
reply_own (changes.StateAsk s) r there = absurd there
reply_own (changes.StateOffer o) r there = let found = given Marked o.marks (Replied r) there in let is = found.is in absurd (cc)
reply_own (changes.StatePart p) r there = absurd there
reply_own (changes.ViewTold i) r (inl is) = absurd (cc)
reply_own (changes.ViewTold i) r (inr none) = absurd none

-- a reply stands in its message
reply_there : (r : SignedBy Answer) → Among (Replied r) (statements_in (Reply r))
reply_there r = among_flat within (said (Reply r)) (Replied r) (Replied r) (inl refl) (inl refl)

not_zero : (k : ℕ) → 1 ≤ k → (k == 0) ≡ false
not_zero k some = ne_eqb k 0 (λ same. omega (arith, same, some))

-- ---- one group

module _ {S : Type 0} (m : Meaning S) (trails : List Recorded) (secret : List ℕ) (view : View) (g : IsGroup m nobody trails secret view) where
  abbrev list : List Batch
  list = (one_list_over m nobody trails secret view g).list

  delivers : (t : Recorded) → Among t trails → is_client t ≡ false → Delivers m list t
  delivers t there member = each_among (λ (u : Recorded). is_client u ≡ false → Delivers m list u) trails t (one_list_over m nobody trails secret view g).members there member

  -- no node of a member has come further than the list
  reached : (t : Recorded) (x : Node S) → IsMembers m trails t x → x.replica.place ≤ length list
  reached t x of =
      let last = (right_at m nobody trails secret view g t x of).sound.last in
      let least = least_decided x.waiting x.replica.place in
      let grows = book_grows m nobody trails secret view g t x of in
      let more : last_made x.entries ≤ last_made (x.entries ++ grows.more) = HasReached-more x.entries grows.more (last_made x.entries) (omega arith) in
      let book : last_made (x.entries ++ grows.more) ≡ last_made (book_of m t) = ap (λ (es : List LogEntry). last_made es) (sym grows.split) in
      let end = (delivers t of.there of.member).along.reached in
      omega (arith, last, least, more, book, end)

  -- it stands along the list
  along : (t : Recorded) (x : Node S) → IsMembers m trails t x → Along m view list x
  along t x of = record {
    replica = (all_listed m nobody trails secret view g).stands t x of (reached t x of);
    waiting = λ batch at.
        let right = right_at m nobody trails secret view g t x of in
        let decided : HasDecided x.entries (next_place x) batch = subst (IsDecided (next_place x) x.entries) at right.rests.waits in
        let later : HasDecided (book_of m t) (next_place x) batch = decided_longer x.entries (book_of m t) (next_place x) batch (book_grows m nobody trails secret view g t x of) decided in
        ap (λ (k : ℕ). batch_at list k) (sym later.place_is) ∙ ((delivers t of.there of.member).along.decided later.decision later.there ∙ ap (λ (b : Batch). Some b) later.batch_is);
  }

  -- ---- what a member holds

  held_behind : (x : Node S) (e : TrailEvent) → Along m view list x → Along m view list (after (node_step m) x e) → HeldRight m view list x → HeldRight m view list (after (node_step m) x e)
  held_behind x (Happens event) is next held = held-step m view list x event is (table_lines m view list (step_of m x event).node next) held
  held_behind x (Send a) is next held = each_first (λ (h : Held). ReplyRight m view list h.message) x.firm x.held held
  held_behind x (Lost a) is next held = held
  held_behind x (Polls count) is next held = held
  held_behind x End is next held = held

  first_held : (t : Recorded) → HeldRight m view list (first_node m t)
  unfolding first_node
  first_held t =
      subst (λ (hs : List Held). Each (λ (h : Held). ReplyRight m view list h.message) hs)
      (sym (from_held m t.opening.secret t.opening.member t.opening.view t.opening.period (parts_in m t))) tt

  held_at : (t : Recorded) (x : Node S) → IsMembers m trails t x → HeldRight m view list x
  held_at t x of =
      through m (MayArrive (all_stated secret trails) secret) (λ (y : Node S). HeldRight m view list y) (first_node m t) t.events (may_arrive m nobody trails secret view g t of.there) (first_held t)
      (λ y e at behind may held.
      held_behind y e (along t y (record { there = of.there; member = of.member; at = at })) (along t (after (node_step m) y e) (record { there = of.there; member = of.member; at = behind })) held) x of.at

  -- ---- what a member sends

  send_right : (t : Recorded) (x : Node S) (a : Addressed) → IsMembers m trails t x → Fits a.message → is_release a (first_leaving x.firm x.held) ≡ true → ReplyRight m view list a.message
  send_right t x a of fits next = by (first_leaving x.firm x.held) refl next
    where
      by : (o : Option Held) → first_leaving x.firm x.held ≡ o → is_release a o ≡ true → ReplyRight m view list a.message
      by None is same = absurd (cc)
      by (Some h) is same =
          let good : IsGood secret h.message = first_there (λ (y : Held). IsGood secret y.message) x.firm x.held h (right_at m nobody trails secret view g t x of).fit.held is in
          let one : h.message ≡ a.message = held_is secret h a good fits (same_bytes_is (addressed_text (addressed_of h)) (addressed_text a) same) in
          subst (λ (y : Message). ReplyRight m view list y) one (first_there (λ (y : Held). ReplyRight m view list y.message) x.firm x.held h (held_at t x of) is)

  module _ (t : Recorded) (there : Among t trails) (member : is_client t ≡ false) where
    abbrev SendsRight : List TrailEvent → Type 0
    SendsRight events = Each (λ (a : Addressed). ReplyRight m view list a.message) (sends events)

    sends_right : (n : Node S) (events : List TrailEvent) → ((x : Node S) → IsNodeOf m n events x → IsNodeOf m (first_node m t) t.events x) → Leaves (node_step m) n events → Each (λ (a : Addressed). Fits a.message) (sends events)
        → SendsRight events
    sends_right n [] inside leaves fits = tt
    sends_right n (Send a ∷ events) inside leaves fits = (
      send_right t n a (record { there = there; member = member; at = inside n (inl refl) }) fits.0 leaves.0,
      sends_right (after (node_step m) n (Send a)) events (λ x at. inside x (inr at)) leaves.1 fits.1,
    )
    sends_right n (Happens event ∷ events) inside leaves fits = sends_right (after (node_step m) n (Happens event)) events (λ x at. inside x (inr at)) leaves.1 fits
    sends_right n (Lost a ∷ events) inside leaves fits = sends_right (after (node_step m) n (Lost a)) events (λ x at. inside x (inr at)) leaves.1 fits
    sends_right n (Polls count ∷ events) inside leaves fits = sends_right (after (node_step m) n (Polls count)) events (λ x at. inside x (inr at)) leaves.1 fits
    sends_right n (End ∷ events) inside leaves fits = sends_right (after (node_step m) n End) events (λ x at. inside x (inr at)) leaves.1 fits

    all_right : SendsRight t.events
    all_right = sends_right (first_node m t) t.events (λ x at. at) (g.over t there member).leaves (each_among IsSpelled trails t g.spelled.each there).sent

  -- ---- what came

  -- a reply that came with its member's tag tells an execution of the list
  came_right : (t : Recorded) (bytes : List ℕ) (r : SignedBy Answer) → Among t trails → Among bytes (arrivals t.events) → decoded bytes ≡ Ok (Reply r) → is_verified answers secret r ≡ true → IsExecuted m view list r.statement
  came_right t bytes r there arrived read tagged =
      let of : IsSpelled t = each_among IsSpelled trails t g.spelled.each there in
      let fits : Fits (Reply r) = (decoded_is bytes (Reply r) (each_among IsBytes (arrivals t.events) bytes of.came arrived) read).0 in
      let c : Came secret trails (Replied r) = record { trail = t; there = there; bytes = bytes; arrived = arrived; message = Reply r; read = read; inside = reply_there r; verified = tagged } in
      let made : IsMade trails r.signer (sealed_of (Replied r)) = stated_made nobody secret trails r.signer (Replied r) refl (may_come m nobody trails secret view g) c refl in
      let sender : IsSpelled made.trail = each_among IsSpelled trails made.trail g.spelled.each made.there in
      let sent_fits : Fits made.send.message = each_among (λ (a : Addressed). Fits a.message) (sends made.trail.events) made.send sender.sent made.sent in
      let one : made.statement ≡ Replied r =
      one_seal made.statement (Replied r) (made_fits made.send.message made.statement sent_fits.content_fits made.made) (stands_fits (Reply r) (Replied r) fits.content_fits (reply_there r)) made.sealed_is in
      let is : made.send.message ≡ Reply r = reply_own made.send.message r (subst (λ (s : Statement). Among s (own made.send.message)) one made.made) in
      let member : is_client made.trail ≡ false = ap (λ (k : ℕ). k == 0) made.member_is ∙ not_zero r.signer fits.content_fits.signer_fits.0 in
      let right : ReplyRight m view list made.send.message =
      each_among (λ (a : Addressed). ReplyRight m view list a.message) (sends made.trail.events) made.send (all_right made.trail made.there member) made.sent in
      subst (λ (x : Message). ReplyRight m view list x) is right

  -- ---- what is accepted

  accepted_line : (a : Acceptance) (q : Request) (r : Answer) → q.client ≡ r.client → q.seq ≡ r.seq → a ≡ acceptance q r → line_told r ≡ line_accepted a
  accepted_line a q r client seq is =
      ap (λ (k : ℕ). record { client = k; seq = r.seq; place = r.place; index = r.index; view = r.view; reply = r.reply }) (sym client)
      ∙ (ap (λ (k : ℕ). record { client = q.client; seq = k; place = r.place; index = r.index; view = r.view; reply = r.reply }) (sym seq) ∙ ap (λ (x : Acceptance). line_accepted x) (sym is))

  is_answer : (a : Acceptance) → HasLine (executions m view list) (line_accepted a) → IsAnswer m secret view list a
  is_answer a told =
      let of : IsOfRequest list (line_accepted a) = request-line m view list (line_accepted a) told in
      let found : SignedAt list a.place a.index of.request = signed_at list a.place a.index of.request of.there in
      let decider = (one_list_over m nobody trails secret view g).decided a.place found.batch found.batch_is in
      let fits : FitsDecision secret decider.decision =
      each_among (FitsEntry secret) (book_of m decider.trail) (Decided decider.decision) (right_last m nobody trails secret view g decider.trail decider.there decider.member).fit.book decider.decided in
      record {
        batch = found.batch;
        batch_is = found.batch_is;
        request = found.request;
        request_is = found.request_is;
        client_is = ap (λ (q : Request). q.client) found.is ∙ of.client;
        seq_is = ap (λ (q : Request). q.seq) found.is ∙ of.seq;
        verified = all_at (λ (q : SignedBy Request). is_verified requests secret q) found.batch a.index found.request
            (subst (λ (batch : Batch). list_all (λ (q : SignedBy Request). is_verified requests secret q) batch ≡ true) decider.batch_is fits.batch_fits.1) found.request_is;
        place_is = place_of-line m view list (line_accepted a) told;
        reply_is = answer-line m view list (line_accepted a) told;
        view_is = view-line m view list (line_accepted a) (all_listed m nobody trails secret view g).tame.alone told;
      }

  answers_in : (t : Recorded) → Among t trails → (c : Client) → Each (IsAnswer m secret view list) (acceptances secret c t.events)
  answers_in t there c =
      each-weaken (HasCome secret (arrivals t.events)) (IsAnswer m secret view list)
      (λ a has.
      let takes = has.by.takes in
      is_answer a
      (subst (λ (l : Execution). HasLine (executions m view list) l) (accepted_line a takes.accepts.request takes.reply.statement takes.accepts.client_is takes.accepts.seq_is takes.accepts.is)
      (came_right t has.by.bytes takes.reply there has.by.there takes.read takes.accepts.tagged))) (acceptances secret c t.events) (all_come secret c t.events)

  answered_over : Answered m trails
  answered_over = record {
    one = one_list_over m nobody trails secret view g;
    each = λ t there c.
        subst (λ (k : List ℕ). Each (IsAnswer m k t.opening.view list) (acceptances k c t.events)) (sym (g.secrets t there))
        (subst (λ (v : View). Each (IsAnswer m secret v list) (acceptances secret c t.events)) (sym (g.views t there)) (answers_in t there c));
  }

-- ---- over the service that openings name

none_by : (app : App) → OneListBy app [] → AnsweredBy app []
none_by apps.Count one = record { one = one; each = λ t there c. absurd there }
none_by apps.Kv one = record { one = one; each = λ t there c. absurd there }

some_by : (trails : List Recorded) (secret : List ℕ) (view : View) (period : ℕ) → AreSpelled trails → Coherent trails → is_view view ≡ true → (app : App) → Each (IsFresh app secret view period) trails → NoCollisionBy app trails
    → AnsweredBy app trails
some_by trails secret view period spelled coherent viewed apps.Count each apart =
    answered_over counting trails secret view (group_count nobody trails spelled (coherent_but trails coherent) secret view period (few_nobody counting view trails) viewed each apart)
some_by trails secret view period spelled coherent viewed apps.Kv each apart =
    answered_over keeping trails secret view (group_kv nobody trails spelled (coherent_but trails coherent) secret view period (few_nobody keeping view trails) viewed each apart)

pub answered_by : (trails : List Recorded) → AreSpelled trails → Coherent trails → (fresh : Fresh trails) → NoCollisionBy fresh.app trails → AnsweredBy fresh.app trails
answered_by [] spelled coherent fresh apart = none_by fresh.app (one_list [] spelled coherent fresh apart)
answered_by (t ∷ ts) spelled coherent fresh apart =
    some_by (t ∷ ts) fresh.secret fresh.view fresh.period spelled coherent (subst (λ (v : View). is_view v ≡ true) fresh.each.0.view_is spelled.each.0.view) fresh.app fresh.each apart
