-- Each line of a transcript that tells of an accepted reply tells the service's answer.
use Rattle.std.proofs.Common.{◌≡◌, ℕ, ◌++◌, Bool, false, cond, List, [], ◌∷◌, refl, ap, ◌∙◌, sym, Some, inl, inr, ◌⊎◌, subst, filter, append-nil, append_assoc}
use Rattle.node_rules.specs.Nodes.{view_of}
use Rattle.std.specs.Prelude.{map, slice_get}
use Rattle.std.proofs.lemmas.List.{map-append}
use Rattle.std.proofs.lemmas.List.Elements.{filter-append}
use Rattle.std.specs.List.{flat_map}
use Rattle.smart_base.specs.Lists.{Each}
use Rattle.smart_base.specs.Views.{View}
use Rattle.smart_statements.specs.Batches.{Batch}
use Rattle.smart_statements.specs.declared.statement.Request.{Request}
use Rattle.smart_service.specs.Services.{Meaning}
use Rattle.node_rules.specs.Steps.{Outcome, leaving}
use Rattle.client_quorum.specs.Clients.{learning}
use Rattle.world_rules.specs.Clients.{heard_word}
use Rattle.world_laws.specs.Promises.{IsAnswered, is_acceptance, accepted_line}
use Rattle.world_rules.specs.Worlds.{Course, course_of, Host, World, posts, told_drop, told_fired, stepped, told_heard, acceptance_in, hearing, begun}
use Rattle.world_rules.specs.Plays.{line_played, rested, world_after, lines_told}
use Rattle.client_quorum.specs.declared.client.Client.{Client}
use Rattle.client_quorum.specs.declared.client.Word.{Word}
use Rattle.client_quorum.specs.declared.client.Acceptance.{Acceptance}
use Rattle.client_quorum.specs.declared.client.Heard.{Heard}
use Rattle.client_quorum.specs.declared.client.Heard.TheVariants as hears
use Rattle.world_rules.specs.declared.line.Line.{Line}
use Rattle.world_rules.specs.declared.line.OutLine.{OutLine}
use Rattle.world_rules.specs.declared.line.OutLine.TheVariants as outs
use Rattle.world_rules.specs.declared.message.Sent.{Sent}
use Rattle.world_laws.proofs.Numbered.{each_at_get}
use Rattle.world_laws.proofs.Keeps.{aside_beside, IsBeside, outcome-beside, ask_of, asked_by, by-posts, KeepsAll, KeepsLives, live-line_played, keeps-world_after, signed_by, learned_line, resumed_line, from_node, from_client, from_script, keeps-sends_all}
use Rattle.world_laws.proofs.Hearing.{Accepts, Does, word_does}
use Rattle.world_laws.proofs.Asking.{ClientRight, ClientsRight, keeps-right, rested-right, right-begun}
use Rattle.replica_laws.proofs.OnePlace.{place_of-line, answer-line}
use Rattle.world_laws.proofs.Accepted.{AcceptedTold, IsTold, line_accepted}
use Rattle.world_laws.proofs.Grows.{view-stays}
use Rattle.agreement_laws.proofs.Lists.{each_end, each_append}
use Rattle.smart_base.proofs.ViewFacts.{each-weaken}
use Rattle.world_rules.specs.declared.line.Header.{Header}
use Rattle.client_quorum.specs.Readings.{after_word}

-- a line tells of one of the accepted replies
abbrev IsOf : List Acceptance → OutLine → Type 0
IsOf [] line = ⊥
IsOf (a ∷ accepted) line = (accepted_line a ≡ line) ⊎ IsOf accepted line

-- a line tells of what a client learned
record IsLearned (line : OutLine) : Type 0 where
  client : ℕ
  place : ℕ
  is : outs.Learned client place ≡ line

-- a line tells of no accepted reply, or of one that was accepted
abbrev Stems : List Acceptance → OutLine → Type 0
Stems accepted line = IsBeside line ⊎ (IsLearned line ⊎ IsOf accepted line)

-- all lines of the present script line do
record ToldStems {S : Type 0} (w : World S) : Type 0 where
  all : Each (Stems w.accepted) w.told

-- more is accepted

-- what a line tells of stays accepted
of_more : (accepted more : List Acceptance) (line : OutLine) → IsOf accepted line → IsOf (accepted ++ more) line
of_more [] more line is = absurd is
of_more (a ∷ accepted) more line is = elim is [ inl here ↦ inl here | inr later ↦ inr (of_more accepted more line later) ]

-- a line that stems from accepted replies stems from more of them
stems_more : (accepted more : List Acceptance) (line : OutLine) → Stems accepted line → Stems (accepted ++ more) line
stems_more accepted more line stems = elim stems [ inl beside ↦ inl beside | inr other ↦ inr (elim other [ inl learned ↦ inl learned | inr is ↦ inr (of_more accepted more line is) ]) ]

-- the line of what is accepted last
of_last : (accepted : List Acceptance) (a : Acceptance) (line : OutLine) → accepted_line a ≡ line → IsOf (accepted ++ a ∷ []) line
of_last [] a line is = inl is
of_last (b ∷ accepted) a line is = inr (of_last accepted a line is)

-- messages that leave

-- a message that leaves tells of no accepted reply
stems-posts : {S : Type 0} (w : World S) (s : Sent) → ToldStems w → ToldStems (posts w s)
stems-posts {S = S} w s is =
    by-posts (λ (v : World S). ToldStems v) w s (λ ending. record { all = is.all }) (λ free room. record { all = each_end (Stems w.accepted) w.told _ is.all (inl tt) })

-- a node's step

-- a host's node steps
stems-stepped : {S : Type 0} (course : Course S) (w : World S) (i : ℕ) (h : Host S) (o : Outcome S) → ToldStems w → ToldStems (stepped course w i h o)
unfolding stepped
stems-stepped course w i h o is =
    keeps-sends_all ToldStems h.node.id (view_of o.node) (λ v held stems. stems-posts v (from_node v h.node.id (view_of o.node) held) stems) _ (leaving o.node.firm o.node.held)
    (record {
      all = each_append (Stems w.accepted) w.told _ is.all
          (each-weaken IsBeside (Stems w.accepted) (λ line beside. inl beside) (told_drop h.node.id o.dropped ++ flat_map (told_fired h.node.id) o.fired) (outcome-beside h.node.id o));
    })

-- a client hears

-- what a client tells of a reply that it hears
stems-heard : (accepted : List Acceptance) (c : Client) (word : Word) (h : Heard) (after : Client) → Does c word h after → ((q : Request) → c.waiting ≡ Some q → q.client ≡ c.id) → Stems (accepted ++ acceptance_in h) (told_heard c.id h)
stems-heard accepted c word h after (inl stays) own = inl (aside_beside (told_heard c.id h) (stays.line c.id))
stems-heard accepted c word h after (inr takes) own =
    let acc : Acceptance = takes.acceptance in
    let taken : Accepts c takes.reply acc = takes.accepts in
    let client : acc.request.client ≡ c.id = ap (λ (b : Acceptance). b.request.client) taken.is ∙ own taken.request taken.counts.waits in
    subst (λ (h : Heard). Stems (accepted ++ acceptance_in h) (told_heard c.id h)) (sym takes.heard_is)
    (inr (inr (of_last accepted acc (outs.Accepted c.id acc.request.seq acc.place acc.index acc.reply) (ap (λ (id : ℕ). outs.Accepted id acc.request.seq acc.place acc.index acc.reply) client))))

-- the request that waits at a client is its own
waits_own : {S : Type 0} (w : World S) (i : ℕ) (c : Client) → slice_get w.clients i ≡ Some c → ClientsRight w → (q : Request) → c.waiting ≡ Some q → q.client ≡ c.id
waits_own w i c at right q waits =
    let own : ClientRight w.sent w.ending w.accepted i c = each_at_get (ClientRight w.sent w.ending w.accepted) w.clients i c right.all.each at in
    (own.waits q waits).client ∙ sym own.id

-- a client hears a reply
stems-hearing : {S : Type 0} (w : World S) (i : ℕ) (c : Client) (a : Word) → ((q : Request) → c.waiting ≡ Some q → q.client ≡ c.id) → ToldStems w → ToldStems (hearing w i c a (heard_word c a))
unfolding hearing
stems-hearing w i c a own is =
    let h : Heard = heard_word c a in
    let more : List Acceptance = w.accepted ++ acceptance_in h in
    record {
      all = each_end (Stems more) w.told (told_heard c.id h) (each-weaken (Stems w.accepted) (Stems more) (stems_more w.accepted (acceptance_in h)) w.told is.all) (stems-heard w.accepted c a h (after_word c a h) (word_does c a) own);
    }

-- all that is told stems from what was accepted, whatever happens

-- clients are right, and what is told stems from what was accepted
abbrev Stemming : {S : Type 0} → World S → Type 0
Stemming w = ClientsRight w × ToldStems w

-- each event keeps that
keeps-stemming : {S : Type 0} (course : Course S) → KeepsLives course Stemming
keeps-stemming course =
    let k = keeps-right course in
    record {
      live = record {
        event = λ w i h event on up at may is. (k.live.event w i h event on up at may is.0, stems-stepped course w i h (course.step h.node event) is.1);
        disk = λ w i h on up at is. (k.live.disk w i h on up at is.0, record { all = is.1.all });
        hear = λ w i c x a on at has read is. (k.live.hear w i c x a on at has read is.0, stems-hearing w i c a (waits_own w i c at is.0) is.1);
        ask = λ w i c op on at free few brief is. (
          k.live.ask w i c op on at free few brief is.0,
          stems-posts (asked_by w i c op) (from_client c (ask_of c op)) (record { all = is.1.all }),
        );
        again = λ w i c q on at waits is. (k.live.again w i c q on at waits is.0, stems-posts w (from_client c (signed_by c q)) is.1);
        learn = λ w i j c d on at other is. (
          k.live.learn w i j c d on at other is.0,
          record { all = each_end (Stems w.accepted) w.told (learned_line c d.seen) is.1.all (inr (inl (record { client = c.id; place = (learning c d.seen).seen; is = refl }))) },
        );
        inject = λ w x on read fine is. (k.live.inject w x on read fine is.0, stems-posts w (from_script x) is.1);
        declare = λ w faulty rogue ending on how is. (k.live.declare w faulty rogue ending on how is.0, record { all = is.1.all });
        mark = λ w s on at is. (k.live.mark w s on at is.0, record { all = is.1.all });
        meet = λ w texts on is. (k.live.meet w texts on is.0, record { all = is.1.all });
        tell = λ w line aside is. (k.live.tell w line aside is.0, record { all = each_end (Stems w.accepted) w.told line is.1.all (inl (aside_beside line aside)) });
      };
      crash = λ w i h left on up at may is. (k.crash w i h left on up at may is.0, record { all = is.1.all });
      resume = λ w i h on down at is. (k.resume w i h on down at is.0, record { all = each_end (Stems w.accepted) w.told (resumed_line course w h) is.1.all (inl tt) });
      add = λ w i member on new is. (k.add w i member on new is.0, record { all = is.1.all });
    }

-- between two lines
rested-stemming : {S : Type 0} (w : World S) → Stemming w → Stemming (rested w)
rested-stemming w is = (rested-right w is.0, record { all = tt })

-- what was accepted stays so

-- where a message leaves
accepted-posts : {S : Type 0} (w : World S) (s : Sent) → (posts w s).accepted ≡ w.accepted
accepted-posts {S = S} w s = by-posts (λ (v : World S). v.accepted ≡ w.accepted) w s (λ ending. refl) (λ free room. refl)

-- where a node steps
accepted-stepped : {S : Type 0} (course : Course S) (w : World S) (i : ℕ) (h : Host S) (o : Outcome S) → (stepped course w i h o).accepted ≡ w.accepted
unfolding stepped
accepted-stepped {S = S} course w i h o =
    keeps-sends_all (λ (v : World S). v.accepted ≡ w.accepted) h.node.id (view_of o.node) (λ v held is. accepted-posts v (from_node v h.node.id (view_of o.node) held) ∙ is) _ (leaving o.node.firm o.node.held) refl

-- where a client hears, more is accepted
accepted-hearing : {S : Type 0} (w : World S) (i : ℕ) (c : Client) (a : Word) (h : Heard) → (hearing w i c a h).accepted ≡ w.accepted ++ acceptance_in h
unfolding hearing
accepted-hearing w i c a h = refl

-- so a line goes on to stem from what was accepted
keeps-stems : {S : Type 0} (course : Course S) (line : OutLine) → KeepsAll course (λ w. Stems w.accepted line)
keeps-stems course line =
    record {
      kept = record {
        event = λ w i h event up at may stems. rw accepted-stepped stems;
        disk = λ w i h up at stems. stems;
        crash = λ w i h left up at may stems. stems;
        hear = λ w i c x a on at has read stems. rw accepted-hearing (stems_more w.accepted (acceptance_in (heard_word c a)) line stems);
        ask = λ w i c op at free few brief stems. rw accepted-posts stems;
        again = λ w i c q at waits stems. rw accepted-posts stems;
        learn = λ w i j c d at other stems. stems;
        inject = λ w x read fine stems. rw accepted-posts stems;
        declare = λ w faulty rogue ending how stems. stems;
        same = λ w mark told stems. stems;
        meet = λ w texts on stems. stems;
      };
      resume = λ w i h down at stems. stems;
      add = λ w i member on new stems. stems;
    }

-- lines

-- what lines tell stems from what was accepted until after them
lines-stem : {S : Type 0} (course : Course S) (w : World S) (ls : List Line) → Stemming w → Each (Stems (world_after course w ls).accepted) (lines_told course w ls)
lines-stem course w [] is = tt
lines-stem {S = S} course w (l ∷ ls) is =
    let played : World S = line_played course w l in
    let after : World S = world_after course (rested played) ls in
    let stemming : Stemming played = live-line_played course Stemming (keeps-stemming course) w l is in
    each_append (Stems after.accepted) played.told (lines_told course (rested played) ls)
    (each-weaken (Stems played.accepted) (Stems after.accepted) (λ line stems. keeps-world_after course (λ (v : World S). Stems v.accepted line) (keeps-stems course line) (rested played) ls stems) played.told stemming.1.all)
    (lines-stem course (rested played) ls (rested-stemming played stemming))

-- a line that tells of no accepted reply
beside-answered : {S : Type 0} (m : Meaning S) (view : View) (chosen : List Batch) (line : OutLine) → IsBeside line → IsAnswered m view chosen line
beside-answered m view chosen (outs.Group members faulty app period) beside = tt
beside-answered m view chosen (outs.Sent number origin summary) beside = tt
beside-answered m view chosen (outs.Decided member place) beside = tt
beside-answered m view chosen (outs.Installed member place) beside = tt
beside-answered m view chosen (outs.Delivered member place executed) beside = tt
beside-answered m view chosen (outs.View member number) beside = tt
beside-answered m view chosen (outs.Promised member number regency) beside = tt
beside-answered m view chosen (outs.Synced member number regency base bound) beside = tt
beside-answered m view chosen (outs.Dropped member why) beside = tt
beside-answered m view chosen (outs.Counted client have need) beside = tt
beside-answered m view chosen (outs.Accepted client seq place index reply) beside = absurd beside
beside-answered m view chosen (outs.Viewed client have need) beside = tt
beside-answered m view chosen (outs.Moved client number) beside = tt
beside-answered m view chosen (outs.Ignored client why) beside = tt
beside-answered m view chosen (outs.Busy client seq) beside = tt
beside-answered m view chosen (outs.Absent member) beside = tt
beside-answered m view chosen (outs.Crashed member) beside = tt
beside-answered m view chosen (outs.Restarted member place entries) beside = tt
beside-answered m view chosen (outs.Down member) beside = tt
beside-answered m view chosen (outs.Idle member) beside = tt
beside-answered m view chosen (outs.IdleClient client) beside = tt
beside-answered m view chosen (outs.Learned client place) beside = absurd beside
beside-answered m view chosen (outs.Stands member place number regency) beside = tt
beside-answered m view chosen (outs.Seen client place) beside = tt
beside-answered m view chosen (outs.End lines messages) beside = tt

-- a line that tells of an accepted reply, which tells an execution
of-answered : {S : Type 0} (m : Meaning S) (view : View) (chosen : List Batch) (accepted : List Acceptance) (line : OutLine) → Each (IsTold m view chosen) accepted → IsOf accepted line → IsAnswered m view chosen line
of-answered m view chosen [] line told is = absurd is
of-answered m view chosen (a ∷ accepted) line told is =
    elim is [
      | inl here ↦ subst (IsAnswered m view chosen) here (place_of-line m view chosen (line_accepted a) told.0, answer-line m view chosen (line_accepted a) told.0)
      | inr later ↦ of-answered m view chosen accepted line told.1 later
    ]

-- a line that stems from accepted replies that tell executions
stems-answered : {S : Type 0} (m : Meaning S) (view : View) (chosen : List Batch) (accepted : List Acceptance) → Each (IsTold m view chosen) accepted → (line : OutLine) → Stems accepted line
    → IsAnswered m view chosen line
stems-answered m view chosen accepted told line stems =
    elim stems [
      | inl beside ↦ beside-answered m view chosen line beside
      | inr other ↦ elim other [
        | inl learned ↦ subst (IsAnswered m view chosen) learned.is tt
        | inr is ↦ of-answered m view chosen accepted line told is
      ]
    ]

-- where all accepted replies tell executions, each line that tells of one tells the service's answer
pub lines-answered : {S : Type 0} (m : Meaning S) (g : Header) (ls : List Line) → AcceptedTold m (world_after (course_of m) (begun m g) ls)
    → Each (IsAnswered m g.view (world_after (course_of m) (begun m g) ls).chosen) (lines_told (course_of m) (begun m g) ls)
lines-answered {S = S} m g ls told =
    let after : World S = world_after (course_of m) (begun m g) ls in
    let same : after.view ≡ g.view = view-stays m (begun m g) ls in
    each-weaken (Stems after.accepted) (IsAnswered m g.view after.chosen)
    (stems-answered m g.view after.chosen after.accepted (subst (λ (v : View). Each (IsTold m v after.chosen) after.accepted) same told.all))
    (lines_told (course_of m) (begun m g) ls) (lines-stem (course_of m) (begun m g) ls (right-begun m g, record { all = tt }))

-- a transcript tells of all that was accepted, and of nothing else

-- what a transcript tells of accepted replies is told of two parts one after the other
told-parts : (xs ys : List OutLine) → filter is_acceptance (xs ++ ys) ≡ filter is_acceptance xs ++ filter is_acceptance ys
told-parts xs ys = filter-append is_acceptance xs ys

-- a line beside tells of no accepted reply
none_accepted : (line : OutLine) → IsBeside line → is_acceptance line ≡ false
none_accepted (outs.Group members faulty app period) beside = refl
none_accepted (outs.Sent number origin summary) beside = refl
none_accepted (outs.Decided member place) beside = refl
none_accepted (outs.Installed member place) beside = refl
none_accepted (outs.Delivered member place executed) beside = refl
none_accepted (outs.View member number) beside = refl
none_accepted (outs.Promised member number regency) beside = refl
none_accepted (outs.Synced member number regency base bound) beside = refl
none_accepted (outs.Dropped member why) beside = refl
none_accepted (outs.Counted client have need) beside = refl
none_accepted (outs.Accepted client seq place index reply) beside = absurd beside
none_accepted (outs.Viewed client have need) beside = refl
none_accepted (outs.Moved client number) beside = refl
none_accepted (outs.Ignored client why) beside = refl
none_accepted (outs.Busy client seq) beside = refl
none_accepted (outs.Absent member) beside = refl
none_accepted (outs.Crashed member) beside = refl
none_accepted (outs.Restarted member place entries) beside = refl
none_accepted (outs.Down member) beside = refl
none_accepted (outs.Idle member) beside = refl
none_accepted (outs.IdleClient client) beside = refl
none_accepted (outs.Learned client place) beside = absurd beside
none_accepted (outs.Stands member place number regency) beside = refl
none_accepted (outs.Seen client place) beside = refl
none_accepted (outs.End lines messages) beside = refl

-- nor do many
none_among : (lines : List OutLine) → Each IsBeside lines → filter is_acceptance lines ≡ []
none_among [] each = refl
none_among (l ∷ ls) each = ap (λ (t : Bool). cond t (l ∷ filter is_acceptance ls) (filter is_acceptance ls)) (none_accepted l each.0) ∙ none_among ls each.1

-- what was accepted before the present script line, and what that tells of, is all that is accepted
record TellsAll {S : Type 0} (before : List OutLine) (w : World S) : Type 0 where
  all : map accepted_line w.accepted ≡ before ++ filter is_acceptance w.told

-- lines beside change nothing
all-beside : (before told lines : List OutLine) → Each IsBeside lines → before ++ filter is_acceptance (told ++ lines) ≡ before ++ filter is_acceptance told
all-beside before told lines beside =
    ap (λ (xs : List OutLine). before ++ xs) (told-parts told lines ∙ (ap (λ (xs : List OutLine). filter is_acceptance told ++ xs) (none_among lines beside) ∙ append-nil (filter is_acceptance told)))

all-posts : {S : Type 0} (before : List OutLine) (w : World S) (s : Sent) → TellsAll before w → TellsAll before (posts w s)
all-posts {S = S} before w s is =
    by-posts (λ (v : World S). TellsAll before v) w s (λ ending. record { all = is.all }) (λ free room. record { all = is.all ∙ sym (all-beside before w.told _ (tt, tt)) })

all-stepped : {S : Type 0} (course : Course S) (before : List OutLine) (w : World S) (i : ℕ) (h : Host S) (o : Outcome S) → TellsAll before w → TellsAll before (stepped course w i h o)
unfolding stepped
all-stepped {S = S} course before w i h o is =
    keeps-sends_all (λ (v : World S). TellsAll before v) h.node.id (view_of o.node) (λ v held all. all-posts before v (from_node v h.node.id (view_of o.node) held) all) _ (leaving o.node.firm o.node.held)
    (record { all = is.all ∙ sym (all-beside before w.told (told_drop h.node.id o.dropped ++ flat_map (told_fired h.node.id) o.fired) (outcome-beside h.node.id o)) })

-- a client tells of a reply that it accepts
all-accepted : (before told : List OutLine) (accepted : List Acceptance) (c : Client) (acc : Acceptance) → acc.request.client ≡ c.id
    → map accepted_line accepted ≡ before ++ filter is_acceptance told
    → map accepted_line (accepted ++ acc ∷ []) ≡ before ++ filter is_acceptance (told ++ told_heard c.id (hears.Accepted acc) ∷ [])
all-accepted before told accepted c acc client all =
    let last : OutLine = outs.Accepted c.id acc.request.seq acc.place acc.index acc.reply in
    map-append accepted_line accepted (acc ∷ [])
    ∙ (ap (λ (xs : List OutLine). xs ++ accepted_line acc ∷ []) all
    ∙ (append_assoc before (filter is_acceptance told) (accepted_line acc ∷ [])
    ∙ ap (λ (xs : List OutLine). before ++ xs)
    (ap (λ (id : ℕ). filter is_acceptance told ++ outs.Accepted id acc.request.seq acc.place acc.index acc.reply ∷ []) client ∙ sym (told-parts told (last ∷ [])))))

-- a client tells of what it accepts
all-heard : (before told : List OutLine) (accepted : List Acceptance) (c : Client) (word : Word) (h : Heard) (after : Client) → Does c word h after → ((q : Request) → c.waiting ≡ Some q → q.client ≡ c.id)
    → map accepted_line accepted ≡ before ++ filter is_acceptance told → map accepted_line (accepted ++ acceptance_in h) ≡ before ++ filter is_acceptance (told ++ told_heard c.id h ∷ [])
all-heard before told accepted c word h after (inl stays) own all =
    ap (λ (xs : List Acceptance). map accepted_line (accepted ++ xs)) stays.none ∙ ap (λ (xs : List Acceptance). map accepted_line xs) (append-nil accepted)
    ∙ (all ∙ sym (all-beside before told (told_heard c.id h ∷ []) (aside_beside (told_heard c.id h) (stays.line c.id), tt)))
all-heard before told accepted c word h after (inr takes) own all =
    let acc : Acceptance = takes.acceptance in
    let taken : Accepts c takes.reply acc = takes.accepts in
    subst (λ (h : Heard). map accepted_line (accepted ++ acceptance_in h) ≡ before ++ filter is_acceptance (told ++ told_heard c.id h ∷ [])) (sym takes.heard_is)
    (all-accepted before told accepted c acc (ap (λ (b : Acceptance). b.request.client) taken.is ∙ own taken.request taken.counts.waits) all)

all-hearing : {S : Type 0} (before : List OutLine) (w : World S) (i : ℕ) (c : Client) (a : Word) → ((q : Request) → c.waiting ≡ Some q → q.client ≡ c.id) → TellsAll before w
    → TellsAll before (hearing w i c a (heard_word c a))
unfolding hearing
all-hearing before w i c a own is = record { all = all-heard before w.told w.accepted c a (heard_word c a) (after_word c a (heard_word c a)) (word_does c a) own is.all }

-- clients are right, and all that was accepted is told
abbrev TellingAll : {S : Type 0} → List OutLine → World S → Type 0
TellingAll before w = ClientsRight w × TellsAll before w

-- each event keeps that
keeps-all : {S : Type 0} (course : Course S) (before : List OutLine) → KeepsLives course (TellingAll before)
keeps-all course before =
    let k = keeps-right course in
    record {
      live = record {
        event = λ w i h event on up at may is. (k.live.event w i h event on up at may is.0, all-stepped course before w i h (course.step h.node event) is.1);
        disk = λ w i h on up at is. (k.live.disk w i h on up at is.0, record { all = is.1.all });
        hear = λ w i c x a on at has read is. (k.live.hear w i c x a on at has read is.0, all-hearing before w i c a (waits_own w i c at is.0) is.1);
        ask = λ w i c op on at free few brief is. (
          k.live.ask w i c op on at free few brief is.0,
          all-posts before (asked_by w i c op) (from_client c (ask_of c op)) (record { all = is.1.all }),
        );
        again = λ w i c q on at waits is. (k.live.again w i c q on at waits is.0, all-posts before w (from_client c (signed_by c q)) is.1);
        learn = λ w i j c d on at other is. (
          k.live.learn w i j c d on at other is.0,
          record { all = is.1.all ∙ sym (ap (λ (xs : List OutLine). before ++ xs) (told-parts w.told (learned_line c d.seen ∷ []) ∙ append-nil (filter is_acceptance w.told))) },
        );
        inject = λ w x on read fine is. (k.live.inject w x on read fine is.0, all-posts before w (from_script x) is.1);
        declare = λ w faulty rogue ending on how is. (k.live.declare w faulty rogue ending on how is.0, record { all = is.1.all });
        mark = λ w s on at is. (k.live.mark w s on at is.0, record { all = is.1.all });
        meet = λ w texts on is. (k.live.meet w texts on is.0, record { all = is.1.all });
        tell = λ w line aside is. (k.live.tell w line aside is.0, record { all = is.1.all ∙ sym (all-beside before w.told (line ∷ []) (aside_beside line aside, tt)) });
      };
      crash = λ w i h left on up at may is. (k.crash w i h left on up at may is.0, record { all = is.1.all });
      resume = λ w i h on down at is. (k.resume w i h on down at is.0, record { all = is.1.all ∙ sym (all-beside before w.told (resumed_line course w h ∷ []) (tt, tt)) });
      add = λ w i member on new is. (k.add w i member on new is.0, record { all = is.1.all });
    }

-- behind lines all that was accepted is what was before them, and what they tell of
all-after : {S : Type 0} (course : Course S) (before : List OutLine) (w : World S) (ls : List Line) → ClientsRight w → w.told ≡ [] → map accepted_line w.accepted ≡ before
    → map accepted_line (world_after course w ls).accepted ≡ before ++ filter is_acceptance (lines_told course w ls)
all-after course before w [] right none is = is ∙ sym (append-nil before)
all-after {S = S} course before w (l ∷ ls) right none is =
    let played : World S = line_played course w l in
    let first : List OutLine = filter is_acceptance played.told in
    let later : List OutLine = lines_told course (rested played) ls in
    let begins : TellsAll before w = record { all = is ∙ sym (subst (λ (told : List OutLine). before ++ filter is_acceptance told ≡ before) (sym none) (append-nil before)) } in
    let k : TellingAll before played = live-line_played course (TellingAll before) (keeps-all course before) w l (right, begins) in
    all-after course (before ++ first) (rested played) ls (rested-right played k.0) refl k.1.all
    ∙ (append_assoc before first (filter is_acceptance later) ∙ ap (λ (xs : List OutLine). before ++ xs) (sym (told-parts played.told later)))

-- after any lines of any script the transcript tells of each reply that was accepted, once, in order, and of no other
pub lines-tell_all : {S : Type 0} (m : Meaning S) (g : Header) (ls : List Line)
    → filter is_acceptance (lines_told (course_of m) (begun m g) ls) ≡ map accepted_line (world_after (course_of m) (begun m g) ls).accepted
lines-tell_all m g ls = sym (all-after (course_of m) [] (begun m g) ls (right-begun m g) refl refl)
