-- What a member has sent rests on entries that became firm there.
use Rattle.book_laws.proofs.Places.{last_append}
use Rattle.node_laws.proofs.BookViews.{book_ranged}
use Rattle.replica_rules.specs.Replicas.{views_after}
use Rattle.store_laws.specs.Restored.{Images}
use Rattle.store_laws.specs.States.{StoreState}
use Rattle.smart_base.specs.declared.party.Party.TheVariants as parties
use Rattle.smart_base.specs.declared.party.Party.{Party}
use Rattle.agreement_laws.specs.Fronts.{IsFront}
use Rattle.replica_laws.proofs.Small.{IsBrief}
use Rattle.world_laws.proofs.Snapshots.{IsRestorable}
use Rattle.world_rules.specs.Stated.{stated}
use Rattle.world_laws.specs.Sending.{AllGenuine}
use Rattle.world_laws.proofs.Fitting.{all_genuine}
use Rattle.world_laws.proofs.Views.{book-grows, grows-step, place-step}
use Rattle.world_laws.proofs.ListViews.{longer_there}
use Rattle.world_laws.proofs.Lives.{book_left, Running, Stopped, fits_now, take-from}
use Rattle.world_laws.proofs.Reopens.{from_held}
use Rattle.world_laws.proofs.Chosen.{HostRight, ChosenRight, chosen-front}
use Rattle.world_laws.proofs.ChosenKept.{resumed-right, left_host, resumed_on, stopped_host}
use Rattle.std.proofs.Common.{◌≡◌, ℕ, zero, suc, ◌+◌, ◌≤◌, ◌++◌, List, [], ◌∷◌, length, refl, ap, ◌∙◌, sym, arith, Option, Some, None, inl, inr, ⊎_elim, subst, take, length-append, append-nil, true, not, drop, false, Err, Ok, Result, append_assoc, ◌<◌}
use Rattle.std.specs.Prelude.{IfSome, slice_get, slice_set, insert}
use Rattle.smart_base.specs.Lists.{Each}
use Rattle.smart_base.specs.Views.{View, is_view, present}
use Rattle.smart_messages.specs.Messages.{decoded}
use Rattle.client_quorum.specs.declared.client.Client.{Client}
use Rattle.smart_messages.specs.declared.message.Message.{Message}
use Rattle.smart_statements.specs.declared.entry.NodeEvent.{NodeEvent}
use Rattle.smart_statements.specs.declared.entry.NodeEvent.TheVariants.{Arrive, Tick, Deliver, Firm}
use Rattle.smart_service.specs.Services.{Meaning}
use Rattle.vote_book.specs.declared.entry.LogEntry.{LogEntry}
use Rattle.node_rules.specs.Nodes.{Node, next_place, view_of}
use Rattle.node_rules.specs.Steps.{Outcome, made_firm, step_of, leaving, opened, outset}
use Rattle.node_rules.specs.declared.node.Held.{Held}
use Rattle.world_rules.specs.Repeats.{repeated}
use Rattle.world_rules.specs.Secrets.{group_secret}
use Rattle.world_rules.specs.Worlds.{chosen_with, course_of, Host, World, posts, sends_all, host_after, stepped, host_takes, node_takes, settle_once, settle_all, gives, hearing, flow_once, hosts_from, begun, at_listed, host_crashed, host_resumed, from_to, is_up, is_halted, meets, takes_met, reaches, client_hears, hears_bytes, client_takes, outset_of, host_of_node, parts_held, new_host, asked_in}
use Rattle.world_rules.specs.Plays.{world_after}
use Rattle.world_rules.specs.declared.line.Line.{Line}
use Rattle.world_rules.specs.declared.message.Origin.{Origin}
use Rattle.world_rules.specs.declared.message.Origin.TheVariants as origins
use Rattle.world_rules.specs.declared.message.Content.{Content}
use Rattle.world_rules.specs.declared.message.Content.TheVariants as contents
use Rattle.world_rules.specs.declared.message.Sent.{Sent}
use Rattle.replica_laws.specs.Sending.{IsOwn, RestsOn}
use Rattle.replica_laws.proofs.Leaving.{leaving_rest}
use Rattle.node_laws.proofs.Books.{least_decided}
use Rattle.replica_laws.proofs.StartBy.{start-sound}
use Rattle.replica_laws.proofs.Onward.{rests-more, HasDecided, HoldsRight, NodeRests, Onward, onward-step, rests-released, rests-opened, Longer, longer-append}
use Rattle.world_laws.specs.Sending.{IsRested, Bears, IsBorneAt, IsBorne, SentFirm, IsOwnSent}
use Rattle.world_laws.specs.Settling.{flow_begins, flow_goes, message_goes, node_goes, settles_present}
use Rattle.world_laws.proofs.Lists.{each_set, each_get, repeated_keeps, each_from_keeps, each_insert}
use Rattle.world_laws.proofs.Stores.{IsTold, may-told, firm-grows, LastFits, Stored, stored-called, stored-opened, stored-stepped}
use Rattle.world_laws.proofs.Keeps.{after_call, called, ask_of, asked_by, by-posts, Keeps, KeepsCalm, KeepsNodes, live, calm, keeps-world_after, live-settle_once, live-settle, live-settle_all, live-flow_once, at_listed-keeps, signed_by, from_node, from_client, from_script, live-settles_present, IsDown, KeepsAll, with_host, node_resumed, is-up, give_one-keeps, goes-keeps, added}
use Rattle.agreement_laws.proofs.Lists.{either, some_equal, each_end, either_by, not_false, among_left, among_right, each_both}
use Rattle.smart_base.proofs.ViewFacts.{each-weaken}
use Rattle.world_rules.specs.declared.line.Header.{Header}
use Rattle.world_laws.specs.Promises.{IsHeader}
use Rattle.node_laws.specs.Sound.{AreAmong, IsPast, IsSound, IsStatedEvent}
use Rattle.node_laws.specs.Sound as sounds
use Rattle.smart_statements.specs.Batches.{Batch}
use Rattle.node_rules.specs.Transfers.{completed_by}
use Rattle.vote_book.specs.Books.{HasMade, Lawful, last_made, Among}
use Rattle.world_laws.proofs.Late.{AllPast, HeldLate, late-none, late-released, late-step}
use Rattle.node_laws.specs.Restored.{IsSoundBook}
use Rattle.agreement_laws.specs.Diaries.{IsShown}
use Rattle.agreement_laws.specs.Statements.{Statement, statements}
use Rattle.agreement_laws.specs.Statements as says
use Rattle.replica_rules.specs.Seals.{digest_of}
use Rattle.world_laws.proofs.Witnessing.{among-all, firm_parts}
use Rattle.node_laws.proofs.Restored.{book_more, book_sound, front_of, front_sound}
use Rattle.world_rules.specs.Fronts.{count_kept}
use Rattle.book_laws.specs.BookCuts.{cut_at}
use Rattle.replica_laws.proofs.Waiting.{each-leaving}
use Rattle.vote_book.proofs.Tidy.{front_lawful}
use Rattle.replica_laws.proofs.Longer.{opening-step, secret-step}
use Rattle.world_laws.proofs.ChosenSteps.{restored-step}
use Rattle.node_laws.proofs.CutShown.{shown_in_whole}
use Rattle.node_laws.proofs.More.{sound_more}
use Rattle.node_laws.proofs.Passes.{sound_opened, sound_released, sound_step, sound_takes_in}
use Rattle.node_laws.proofs.CutNodes.{sound_written}
use Rattle.std.proofs.lemmas.List.{take-append-drop, take-append-le}
use Rattle.std.proofs.Math.Seq.{take-append_seam}
use Rattle.world_laws.proofs.ClientViews.{ClientsKnow, RightKnown, right-known, known-begun, view-at}
use Rattle.client_quorum.specs.Readings.{word_read}
use Rattle.client_quorum.specs.declared.client.Word.{Word}

-- worlds

-- A running node whose store fits its book, and that is sound by some statements. Its life began with the first entries of its member's diary. What is
-- firm of its book is the cut of these, and then the rest of the diary. Reports that it holds in its own name are of this life.
pub record GoesWell {S : Type 0} (view : View) (h : Host S) : Type 0 where
  pub stored : Stored h.node h.store
  pub told : List Statement
  pub sound : IsSound told view h.node
  pub first : List LogEntry
  pub later : List LogEntry
  pub both : h.life.diary ≡ first ++ later
  pub firm_is : take h.node.firm h.node.entries ≡ cut_at h.node.opening first ++ later
  pub first_sound : IsSoundBook h.node.secret told h.node.replica.views first
  pub first_low : last_made first ≤ h.node.replica.place
  pub first_made : 0 < h.node.opening → HasMade first h.node.opening
  pub first_is : h.node.restored ≡ length (cut_at h.node.opening first)
  pub past : HeldLate h.node

-- A node of a view, whose held messages are right; no more is firm than is written. Where it runs it goes well.
pub record HostRests {S : Type 0} (view : View) (h : Host S) : Type 0 where
  pub rests : NodeRests h.node
  pub well : h.up ≡ true → GoesWell view h
  pub low : h.node.firm ≤ length h.node.entries

-- so are all nodes, and what was sent rests on entries that became firm
pub record Borne {S : Type 0} (w : World S) : Type 0 where
  pub viewed : is_view w.view ≡ true
  pub hosts : Each (HostRests w.view) w.hosts
  pub sent : SentFirm w

-- a message leaves
borne-posts : {S : Type 0} (w : World S) (s : Sent) → IsOwnSent (views_after w.view w.chosen) s.origin s.to s.content → IsBorne w.hosts s.origin s.content → Borne w → Borne (posts w s)
borne-posts {S = S} w s own borne is =
    by-posts (λ (v : World S). Borne v) w s
    (λ ending. record { viewed = is.viewed; hosts = is.hosts; sent = record { own = is.sent.own; borne = is.sent.borne } })
    (λ free room. record {
      viewed = is.viewed;
      hosts = is.hosts;
      sent = record {
        own = each_end (λ (t : Sent). IsOwnSent (views_after w.view w.chosen) t.origin t.to t.content) w.sent s is.sent.own own;
        borne = each_end (λ (t : Sent). IsBorne w.hosts t.origin t.content) w.sent s is.sent.borne borne;
      };
    })

-- what is borne stays so where a message leaves
borne-stays : {S : Type 0} (w : World S) (s : Sent) (o : Origin) (x : Content) → IsBorne w.hosts o x → IsBorne (posts w s).hosts o x
borne-stays {S = S} w s o x borne = by-posts (λ (v : World S). IsBorne v.hosts o x) w s (λ ending. borne) (λ free room. borne)

-- its view stays
view-stays : {S : Type 0} (w : World S) (s : Sent) → (posts w s).view ≡ w.view
view-stays {S = S} w s = by-posts (λ (v : World S). v.view ≡ w.view) w s (λ ending. refl) (λ free room. refl)

-- what a node lets go is its own and borne
abbrev LeavesRight : {S : Type 0} → ℕ → List (Host S) → Held → Type 0
LeavesRight id hosts h = IsOwn id h.to h.message × IsBorne hosts (origins.Node id) (contents.Message h.message)

-- messages of a node leave
borne-sends_all : {S : Type 0} (id : ℕ) (view : View) (w : World S) (held : List Held) → Each (LeavesRight id w.hosts) held → Borne w → Borne (sends_all id view w held)
borne-sends_all id view w [] each is = is
borne-sends_all {S = S} id view w (h ∷ hs) each is =
    let next : World S = posts w (from_node w id view h) in
    borne-sends_all id view next hs
    (each-weaken (LeavesRight id w.hosts) (LeavesRight id next.hosts) (λ x right. (right.0, borne-stays w (from_node w id view h) (origins.Node id) (contents.Message x.message) right.1)) hs each.1)
    (borne-posts w (from_node w id view h) (record { view = view; asked = asked_in w.clients; target = h.to; addressed = refl; own = each.0.0 }) each.0.1 is)

-- a host in another's place

-- what is borne at a host is borne where a later one stands in its place
borne_set : {S : Type 0} (id : ℕ) (x : Content) (hs : List (Host S)) (i : ℕ) (h h' : Host S) → slice_get hs i ≡ Some h → (Bears id x h → Bears id x h') → IsBorneAt hs id x → IsBorneAt (slice_set hs i h') id x
borne_set id x [] i h h' at more is = absurd (cc)
borne_set {S = S} id x (y ∷ hs) zero h h' at more is =
    ⊎_elim {C = IsBorneAt (h' ∷ hs) id x} (λ here. inl (more (subst (λ (g : Host S). Bears id x g) (some_equal y h at) here))) (λ later. inr later) is
borne_set {S = S} id x (y ∷ hs) (suc i) h h' at more is =
    ⊎_elim {C = IsBorneAt (y ∷ slice_set hs i h') id x} (λ here. inl here) (λ later. inr (borne_set id x hs i h h' at more later)) is

-- so is what the later one bears
borne_here : {S : Type 0} (id : ℕ) (x : Content) (hs : List (Host S)) (i : ℕ) (h h' : Host S) → slice_get hs i ≡ Some h → Bears id x h' → IsBorneAt (slice_set hs i h') id x
borne_here id x [] i h h' at is = absurd (cc)
borne_here id x (y ∷ hs) zero h h' at is = inl is
borne_here id x (y ∷ hs) (suc i) h h' at is = inr (borne_here id x hs i h h' at is)

-- a node with a longer book, of which more is firm
record Later {S : Type 0} (n n' : Node S) : Type 0 where
  id : n'.id ≡ n.id
  front : IsFront n.entries n'.entries
  more : n.firm ≤ n'.firm
  low : n'.firm ≤ length n'.entries
  rests : NodeRests n'

-- what rests on a book rests on a longer one
rested-more : (xs ys : List LogEntry) → ((x : Message) → RestsOn xs x → RestsOn ys x) → (x : Content) → IsRested xs x → IsRested ys x
rested-more xs ys more (contents.Message message) rests = more message rests
rested-more xs ys more (contents.Raw bytes) rests = rests

-- what is borne stays so where a host of the same member stands in another's place, whose diary is longer
borne-set : {S : Type 0} (hs : List (Host S)) (i : ℕ) (h h' : Host S) → slice_get hs i ≡ Some h → h'.node.id ≡ h.node.id → Longer h.life.diary h'.life.diary
    → (origin : Origin) (x : Content) → IsBorne hs origin x → IsBorne (slice_set hs i h') origin x
borne-set hs i h h' at same more origins.Script x borne = tt
borne-set hs i h h' at same more (origins.Client id) x borne = tt
borne-set hs i h h' at same more (origins.Node id) x borne =
    borne_set id x hs i h h' at (λ is. record { member = same ∙ is.member; rested = rested-more h.life.diary h'.life.diary (rests-more h.life.diary h'.life.diary more) x is.rested }) borne

-- so it is in the world with that host
borne-with : {S : Type 0} (w : World S) (i : ℕ) (h h' : Host S) → slice_get w.hosts i ≡ Some h → h'.node.id ≡ h.node.id → Longer h.life.diary h'.life.diary → HostRests w.view h' → Borne w → Borne (with_host w i h')
borne-with {S = S} w i h h' at same more rests is = record {
  viewed = is.viewed;
  hosts = each_set (HostRests w.view) w.hosts i h' is.hosts rests;
  sent = record {
    own = is.sent.own;
    borne = each-weaken (λ (s : Sent). IsBorne w.hosts s.origin s.content) (λ (s : Sent). IsBorne (slice_set w.hosts i h') s.origin s.content)
        (λ s borne. borne-set w.hosts i h h' at same more s.origin s.content borne) w.sent is.sent.borne;
  };
}

-- a node with a longer book
later-onward : {S : Type 0} (n a n' : Node S) → a.id ≡ n.id → a.entries ≡ n.entries → n.firm ≤ a.firm → a.firm ≤ length n.entries → Onward a n' → Later n n'
later-onward {S = S} n a n' id entries firm low f =
    let book : n'.entries ≡ n.entries ++ f.more = f.book ∙ ap (λ es. es ++ f.more) entries in
    let longer : length n'.entries ≡ length n.entries + length f.more = ap (λ (es : List LogEntry). length es) book ∙ length-append n.entries f.more in
    record { id = f.id ∙ id; front = record { rest = f.more; is = book }; more = omega (arith, firm, f.firm); low = omega (arith, low, f.firm, longer); rests = f.rests }

-- a step makes a node later
later-step : {S : Type 0} (m : Meaning S) (view : View) (h : Host S) (event : NodeEvent) → h.up ≡ true → IsTold h event → HostRests view h → Later h.node (step_of m h.node event).node
later-step m view h (Arrive bytes) up told is = later-onward h.node h.node _ refl refl (omega arith) is.low (onward-step m h.node (Arrive bytes) is.rests)
later-step m view h Tick up told is = later-onward h.node h.node _ refl refl (omega arith) is.low (onward-step m h.node Tick is.rests)
later-step m view h Deliver up told is = later-onward h.node h.node _ refl refl (omega arith) is.low (onward-step m h.node Deliver is.rests)
later-step m view h (Firm count) up told is =
    let grows = firm-grows h count told (is.well up).stored.fits in
    later-onward h.node (made_firm h.node count) _ refl refl grows.0 grows.1 (onward-step m h.node (Firm count) is.rests)

-- what bytes that come state
told_in : List ℕ → Result Message ℕ → List Statement
told_in secret (Ok message) = statements secret message
told_in secret (Err at) = []

told_by : List ℕ → NodeEvent → List Statement
told_by secret (Arrive bytes) = told_in secret (decoded bytes)
told_by secret Tick = []
told_by secret Deliver = []
told_by secret (Firm count) = []

-- with them it has been stated
told_event : (secret : List ℕ) (told : List Statement) (event : NodeEvent) → IsStatedEvent secret (told ++ told_by secret event) event
unfolding told_by told_in
told_event secret told (Arrive bytes) = λ message read.
    subst (λ (r : Result Message ℕ). AreAmong (statements secret message) (told ++ told_in secret r)) (sym read)
    (among-all (statements secret message) (told ++ statements secret message) (λ x there. among_right x told (statements secret message) there))
told_event secret told Tick = tt
told_event secret told Deliver = tt
told_event secret told (Firm count) = tt

-- the first entries stay sound where more has been stated and the node steps
first-after : {S : Type 0} (m : Meaning S) (view : View) (n : Node S) (event : NodeEvent) (told more : List Statement) → AreAmong told more → IsSound told view n → IsStatedEvent n.secret more event → (first : List LogEntry)
    → last_made first ≤ n.replica.place → IsSoundBook n.secret told n.replica.views first → IsSoundBook (step_of m n event).node.secret more (step_of m n event).node.replica.views first
first-after {S = S} m view n event told more grows was may first low book =
    let n' : Node S = (step_of m n event).node in
    let sound : IsSound more view n = sound_more told more grows view n was in
    let later : IsSound more view n' = sound_step m more view n event sound may in
    let g = grows-step m more view n event (sound_takes_in more view n event sound may) in
    let own : IsSoundBook n.secret more n.replica.views first = book_more told more grows n.secret n.replica.views first book in
    let within = book_ranged n.secret more n.replica.views (next_place n) first (omega (arith, low)) own in
    subst (λ (k : List ℕ). IsSoundBook k more n'.replica.views first) (sym (secret-step m n event)) (book-grows n.secret more more more view n n' first sound later g within own).0

-- a host whose node has stepped goes well
well-after : {S : Type 0} (m : Meaning S) (view : View) (h : Host S) (event : NodeEvent) → Later h.node (step_of m h.node event).node → h.node.firm ≤ length h.node.entries → GoesWell view h
    → GoesWell view (host_after (course_of m) h (step_of m h.node event))
well-after {S = S} m view h event l low is =
    let n : Node S = h.node in
    let n' : Node S = (step_of m h.node event).node in
    let told : List Statement = is.told ++ told_by n.secret event in
    let more : AreAmong is.told told = among-all is.told told (λ x there. among_left x is.told (told_by n.secret event) there) in
    let sound : IsSound told view n' = sound_step m told view n event (sound_more is.told told more view n is.sound) (told_event n.secret is.told event) in
    let opening : n'.opening ≡ n.opening = opening-step m n event in
    let new : List LogEntry = from_to n.firm n'.firm n'.entries in
    let old : take n.firm n'.entries ≡ take n.firm n.entries =
    ap (λ (es : List LogEntry). take n.firm es) l.front.is ∙ take-append-le n.firm n.entries l.front.rest low in
    record {
      stored = stored-stepped m h event is.stored;
      told = told;
      sound = sound_released told view n' sound;
      first = is.first;
      later = is.later ++ new;
      both = ap (λ (es : List LogEntry). es ++ new) is.both ∙ append_assoc is.first is.later new;
      firm_is = sym (take-from n.firm n'.firm n'.entries l.more)
          ∙ (ap (λ (es : List LogEntry). es ++ new) (old ∙ is.firm_is)
          ∙ (append_assoc (cut_at n.opening is.first) is.later new ∙ ap (λ (k : ℕ). cut_at k is.first ++ (is.later ++ new)) (sym opening)));
      first_sound = first-after m view n event is.told told more is.sound (told_event n.secret is.told event) is.first is.first_low is.first_sound;
      first_low = (let least = place-step m n event in let low = is.first_low in omega (arith, least, low));
      first_made = subst (λ (k : ℕ). 0 < k → HasMade is.first k) (sym opening) is.first_made;
      first_is = restored-step m n event ∙ (is.first_is ∙ ap (λ (k : ℕ). length (cut_at k is.first)) (sym opening));
      past = late-released n' (late-step m n event is.past);
    }

rests-after : {S : Type 0} (m : Meaning S) (view : View) (h : Host S) (event : NodeEvent) → h.up ≡ true → Later h.node (step_of m h.node event).node → HostRests view h
    → HostRests view (host_after (course_of m) h (step_of m h.node event))
rests-after {S = S} m view h event up later is =
    let n' : Node S = (step_of m h.node event).node in
    record {
      rests = rests-released n' later.rests;
      well = λ up. well-after m view h event later is.low (is.well up);
      low = later.low;
    }

-- what rests on entries that are firm rests on the diary, where the node's reports are of this life
rests_on_diary : {S : Type 0} (view : View) (told : List Statement) (n : Node S) (first later d : List LogEntry) (message : Message) → IsSound told view n → IsSoundBook n.secret told n.replica.views first → d ≡ first ++ later
    → take n.firm n.entries ≡ cut_at n.opening first ++ later → (0 < n.opening → HasMade first n.opening) → n.restored ≡ length (cut_at n.opening first)
    → AllPast (take n.restored n.entries) message → RestsOn (take n.firm n.entries) message → RestsOn d message
rests_on_diary {S = S} view told n [] later d message is book both firm made count past rests =
    subst (λ (es : List LogEntry). RestsOn es message) (firm ∙ (ap (λ (es : List LogEntry). es ++ later) (none n.opening (λ some. (made some).there)) ∙ sym both)) rests
  where
    none : (k : ℕ) → (0 < k → ⊥) → cut_at k [] ≡ []
    none zero low = refl
    none (suc k) low = absurd (low (omega arith))
rests_on_diary {S = S} view told n (e ∷ es) later d message is book both firm made count past rests =
    let first : List LogEntry = e ∷ es in
    let cut : List LogEntry = cut_at n.opening (e ∷ es) in
    let rest : List LogEntry = drop n.firm n.entries in
    let entries : n.entries ≡ cut ++ (later ++ rest) =
    sym (take-append-drop n.firm n.entries) ∙ (ap (λ (xs : List LogEntry). xs ++ rest) firm ∙ append_assoc cut later rest) in
    let whole : Lawful 0 0 (first ++ (later ++ rest)) = (sound_written told view n (e ∷ es) (later ++ rest) is book entries made (λ none. absurd cc)).lawful in
    let lawful : Lawful 0 0 (first ++ later) = front_lawful 0 0 (first ++ later) rest (subst (λ (xs : List LogEntry). Lawful 0 0 xs) (sym (append_assoc first later rest)) whole) in
    let restored : take n.restored n.entries ≡ cut =
    ap (λ (k : ℕ). take k n.entries) count ∙ (ap (λ (xs : List LogEntry). take (length cut) xs) entries ∙ take-append_seam cut (later ++ rest)) in
    subst (λ (xs : List LogEntry). RestsOn xs message) (sym both)
    (each_both (λ (s : Statement). IsPast cut s) (IsShown digest_of (cut ++ later)) (IsShown digest_of (first ++ later))
    (λ s late is. shown_in_whole n.secret told n.replica.views n.opening (e ∷ es) later s book made lawful late is) (says.own message)
    (subst (λ (xs : List LogEntry). AllPast xs message) restored past) (subst (λ (xs : List LogEntry). RestsOn xs message) firm rests))

-- what leaves rests on it
leaving_borne : {S : Type 0} (m : Meaning S) (view : View) (h : Host S) (event : NodeEvent) → Later h.node (step_of m h.node event).node → h.node.firm ≤ length h.node.entries → GoesWell view h
    → Each (λ x. IsOwn (step_of m h.node event).node.id x.to x.message × RestsOn (host_after (course_of m) h (step_of m h.node event)).life.diary x.message) (leaving (step_of m h.node event).node.firm (step_of m h.node event).node.held)
leaving_borne {S = S} m view h event l low is =
    let n : Node S = h.node in
    let n' : Node S = (step_of m h.node event).node in
    let after : Host S = host_after (course_of m) h (step_of m h.node event) in
    let told : List Statement = is.told ++ told_by n.secret event in
    let more : AreAmong is.told told = among-all is.told told (λ x there. among_left x is.told (told_by n.secret event) there) in
    let sound : IsSound told view n' = sound_step m told view n event (sound_more is.told told more view n is.sound) (told_event n.secret is.told event) in
    let well : GoesWell view after = well-after m view h event l low is in
    let late : HeldLate n' = late-step m n event is.past in
    let new : List LogEntry = from_to n.firm n'.firm n'.entries in
    let opening : n'.opening ≡ n.opening = opening-step m n event in
    let old : take n.firm n'.entries ≡ take n.firm n.entries =
    ap (λ (es : List LogEntry). take n.firm es) l.front.is ∙ take-append-le n.firm n.entries l.front.rest low in
    let firm : take n'.firm n'.entries ≡ cut_at n'.opening is.first ++ (is.later ++ new) =
    sym (take-from n.firm n'.firm n'.entries l.more)
    ∙ (ap (λ (es : List LogEntry). es ++ new) (old ∙ is.firm_is)
    ∙ (append_assoc (cut_at n.opening is.first) is.later new ∙ ap (λ (k : ℕ). cut_at k is.first ++ (is.later ++ new)) (sym opening))) in
    each_both (λ (x : Held). IsOwn n'.id x.to x.message × RestsOn (take n'.firm n'.entries) x.message) (λ (x : Held). AllPast (take n'.restored n'.entries) x.message)
    (λ (x : Held). IsOwn n'.id x.to x.message × RestsOn after.life.diary x.message)
    (λ x right past. (
      right.0,
      rests_on_diary view told n' is.first (is.later ++ new) after.life.diary x.message sound
          (first-after m view n event is.told told more is.sound (told_event n.secret is.told event) is.first is.first_low is.first_sound)
          (ap (λ (es : List LogEntry). es ++ new) is.both ∙ append_assoc is.first is.later new) firm
          (subst (λ (k : ℕ). 0 < k → HasMade is.first k) (sym opening) is.first_made)
          (restored-step m n event ∙ (is.first_is ∙ ap (λ (k : ℕ). length (cut_at k is.first)) (sym opening))) past right.1,
    ))
    (leaving n'.firm n'.held) (leaving_rest n'.id n'.firm n'.entries n'.held l.rests.held)
    (each-leaving (λ (x : Held). AllPast (take n'.restored n'.entries) x.message) n'.firm n'.held late.late)

-- what a client may send it may send where more views are known
own_longer : (views more : List View) (o : Origin) (to : List Party) (x : Content) → ((u : View) → Among u views → Among u more) → IsOwnSent views o to x → IsOwnSent more o to x
own_longer views more (origins.Node id) to x all own = own
own_longer views more (origins.Client id) to x all own = record { view = own.view; known = all own.view own.known; addressed = own.addressed; own = own.own }
own_longer views more origins.Script to x all own = own

-- a node's step
borne-event : {S : Type 0} (m : Meaning S) (w : World S) (i : ℕ) (h : Host S) (event : NodeEvent) → h.up ≡ true → slice_get w.hosts i ≡ Some h → IsTold h event → Borne w
    → Borne (stepped (course_of m) w i h (step_of m h.node event))
unfolding stepped
borne-event {S = S} m w i h event up at told is =
    let o : Outcome S = step_of m h.node event in
    let more : List Batch = chosen_with w.chosen (next_place o.node) o.node.waiting in
    let h' : Host S = host_after (course_of m) h o in
    let rests : HostRests w.view h = each_get (HostRests w.view) w.hosts i h is.hosts at in
    let later : Later h.node o.node = later-step m w.view h event up told rests in
    let new : HostRests w.view h' = rests-after m w.view h event up later rests in
    let b : Borne (with_host w i h') = borne-with w i h h' at later.id (longer-append h.life.diary (from_to h.node.firm o.node.firm o.node.entries)) new is in
    borne-sends_all h.node.id (view_of o.node) _ (leaving o.node.firm o.node.held)
    (each-weaken (λ (x : Held). IsOwn o.node.id x.to x.message × RestsOn h'.life.diary x.message)
    (LeavesRight h.node.id (slice_set w.hosts i h'))
    (λ x right. (
      subst (λ (k : ℕ). IsOwn k x.to x.message) later.id right.0,
      borne_here h.node.id (contents.Message x.message) w.hosts i h h' at (record { member = later.id; rested = right.1 }),
    ))
    (leaving o.node.firm o.node.held) (leaving_borne m w.view h event later rests.low (rests.well up)))
    (record {
      viewed = b.viewed;
      hosts = b.hosts;
      sent = record {
        own = each-weaken (λ (t : Sent). IsOwnSent (views_after w.view w.chosen) t.origin t.to t.content) (λ (t : Sent). IsOwnSent (views_after w.view more) t.origin t.to t.content)
            (λ t own. own_longer (views_after w.view w.chosen) (views_after w.view more) t.origin t.to t.content
            (λ u there. longer_there w.view w.chosen more u (chosen-front w.chosen (next_place o.node) o.node.waiting) there) own) w.sent b.sent.own;
        borne = b.sent.borne;
      };
    })

-- the store of a host makes a call
borne-called : {S : Type 0} (m : Meaning S) (w : World S) (i : ℕ) (h : Host S) → slice_get w.hosts i ≡ Some h → Borne w → Borne (called (course_of m) w i h)
borne-called m w i h at is =
    let rests = each_get (HostRests w.view) w.hosts i h is.hosts at in
    borne-with w i h (after_call (course_of m) h) at refl (record { more = []; split = sym (append-nil h.life.diary) })
    (record {
      rests = rests.rests;
      well = λ up.
          let g : GoesWell w.view h = rests.well up in
          record {
            stored = stored-called h g.stored;
            told = g.told;
            sound = g.sound;
            first = g.first;
            later = g.later;
            both = g.both;
            firm_is = g.firm_is;
            first_sound = g.first_sound;
            first_low = g.first_low;
            first_made = g.first_made;
            first_is = g.first_is;
            past = g.past;
          };
      low = rests.low;
    }) is

-- a member crashes
borne-crashed : {S : Type 0} (m : Meaning S) (w : World S) (i : ℕ) (h : Host S) (left : Images) → slice_get w.hosts i ≡ Some h → Borne w → Borne (with_host w i (host_crashed (course_of m) h left))
borne-crashed m w i h left at is =
    let rests = each_get (HostRests w.view) w.hosts i h is.hosts at in
    borne-with w i h (host_crashed (course_of m) h left) at refl (longer-append h.life.diary (drop (length h.life.diary) (take (count_kept left (book_left h)) (book_left h))))
    (record { rests = rests.rests; well = λ up. absurd (apart up); low = rests.low }) is
  where
    apart : false ≡ true → ⊥
    apart same = cc

-- what nodes do keeps that
borne-nodes : {S : Type 0} (m : Meaning S) → KeepsNodes (course_of m) Borne
borne-nodes m = record {
  event = λ w i h event on up at may is. borne-event m w i h event up.0 at (may-told w h event may.come) is;
  meet = λ w texts on is. record { viewed = is.viewed; hosts = is.hosts; sent = record { own = is.sent.own; borne = is.sent.borne } };
  disk = λ w i h on up at is. borne-called m w i h at is;
}

-- where clients know views of the list alone, each event does, but that a node goes on
keeps-borne : {S : Type 0} (m : Meaning S) (P : World S → Type 0) → ((w : World S) → P w → ClientsKnow w) → Keeps (course_of m) P → Keeps (course_of m) (λ w. P w × Borne w)
unfolding hearing
keeps-borne m P knows k =
    record {
      event = λ w i h event up at may is. (k.event w i h event up at may is.0, borne-event m w i h event up.0 at (may-told w h event may.come) is.1);
      disk = λ w i h up at is. (k.disk w i h up at is.0, borne-called m w i h at is.1);
      crash = λ w i h left up at may is. (k.crash w i h left up at may is.0, borne-crashed m w i h left at is.1);
      hear = λ w i c x a on at has read is. (k.hear w i c x a on at has read is.0, record { viewed = is.1.viewed; hosts = is.1.hosts; sent = record { own = is.1.sent.own; borne = is.1.sent.borne } });
      ask = λ w i c op at free few brief is. (
        k.ask w i c op at free few brief is.0,
        borne-posts (asked_by w i c op) (from_client c (ask_of c op)) (record { view = present c.views; known = view-at w i c at (knows w is.0); addressed = refl; own = refl }) tt
            (record { viewed = is.1.viewed; hosts = is.1.hosts; sent = record { own = is.1.sent.own; borne = is.1.sent.borne } }),
      );
      again = λ w i c q at waits is. (
        k.again w i c q at waits is.0,
        borne-posts w (from_client c (signed_by c q)) (record { view = present c.views; known = view-at w i c at (knows w is.0); addressed = refl; own = refl }) tt is.1,
      );
      learn = λ w i j c d at other is. (k.learn w i j c d at other is.0, record { viewed = is.1.viewed; hosts = is.1.hosts; sent = record { own = is.1.sent.own; borne = is.1.sent.borne } });
      inject = λ w x read fine is. (k.inject w x read fine is.0, borne-posts w (from_script x) refl tt is.1);
      declare = λ w faulty rogue ending how is. (k.declare w faulty rogue ending how is.0, record { viewed = is.1.viewed; hosts = is.1.hosts; sent = record { own = is.1.sent.own; borne = is.1.sent.borne } });
      same = λ w mark told is. (k.same w mark told is.0, record { viewed = is.1.viewed; hosts = is.1.hosts; sent = record { own = is.1.sent.own; borne = is.1.sent.borne } });
      meet = λ w texts on is. (k.meet w texts on is.0, record { viewed = is.1.viewed; hosts = is.1.hosts; sent = record { own = is.1.sent.own; borne = is.1.sent.borne } });
    }

-- a sound node that holds nothing rests on its book
rests-sound : {S : Type 0} (told : List Statement) (view : View) (n : Node S) → IsSound told view n → n.held ≡ [] → NodeRests n
rests-sound told view n is none = record {
  held = subst (λ (hs : List Held). Each (HoldsRight n.id n.entries) hs) (sym none) tt;
  waits = decided n.waiting is.waiting;
  lines = is.table;
  views = start-sound view (last_made n.entries) n.replica.place n.replica.views (let last = is.last in let least = least_decided n.waiting n.replica.place in omega (arith, last, least)) is.views;
}
  where
    decided : (waiting : Option Batch) → IfSome waiting (sounds.HasDecided n.entries (next_place n)) → IfSome waiting (HasDecided n.entries (next_place n))
    decided None has = tt
    decided (Some batch) has = record { decision = has.decision; there = has.there; place_is = has.place_is; batch_is = has.batch_is }

-- a node goes on from a diary that is right
borne-resumed : {S : Type 0} (m : Meaning S) → IsRestorable m → (w : World S) (i : ℕ) (h : Host S) → IsDown w h → slice_get w.hosts i ≡ Some h → ChosenRight m w → Borne w
    → Borne (with_host w i (host_resumed h (node_resumed (course_of m) w h)))
borne-resumed {S = S} m service w i h down at r is =
    let n : Node S = node_resumed (course_of m) w h in
    let h' : Host S = host_resumed h n in
    let hr : HostRight w.sent m w.view w.chosen h = left_host m service w i h down.0 at r in
    let s : Stopped hr.all hr.past h = stopped_host m service w i h down.0 at r in
    let next : HostRight w.sent m w.view w.chosen h' = resumed-right m service w i h down.0 at r in
    let on = resumed_on m service w i h down.0 at r in
    let run : Running next.all next.past h' = next.lasts.up refl in
    let low = next.lasts.low in
    let old = run.old in
    let vs : List View = views_after w.view w.chosen in
    borne-with w i h h' at on.name (record { more = []; split = sym (append-nil h.life.diary) })
    (record {
      rests = rests-sound (stated w.sent) w.view n next.sound (from_held m group_secret h.node.id w.view w.period (parts_held h));
      well = λ up. record {
        stored = record {
          fits = fits_now next.all next.past h' refl next.lasts;
          begun = run.begun;
          last = subst (λ (t : StoreState). LastFits t.restored (length n.entries) t.ending) (sym s.opened) tt;
        };
        told = stated w.sent;
        sound = next.sound;
        first = run.first;
        later = run.later;
        both = run.both;
        firm_is = firm_parts n run.first run.later h.life.diary run.both run.diary run.first_made;
        first_sound = subst (λ (k : List ℕ). IsSoundBook k (stated w.sent) n.replica.views run.first) (sym next.shared)
            (front_of group_secret (stated w.sent) n.replica.views run.first run.later (subst (λ (es : List LogEntry). IsSoundBook group_secret (stated w.sent) n.replica.views es) run.both
            (front_of group_secret (stated w.sent) n.replica.views h.life.diary on.resumed.more on.knows)));
        first_low = (
            let last = ap (λ (es : List LogEntry). last_made es) run.both ∙ last_append run.first run.later in
            let reached = on.reached in
            omega (arith, last, reached));
        first_made = run.first_made;
        first_is = run.first_is;
        past = late-none n (omega (arith, low, old)) (from_held m group_secret h.node.id w.view w.period (parts_held h));
      };
      low = next.lasts.low;
    }) is

-- hosts that have just opened rest
hosts_rest : {S : Type 0} (m : Meaning S) (view : View) (period : ℕ) (ids : List ℕ) → is_view view ≡ true → Each (HostRests view) (hosts_from m view period ids)
hosts_rest m view period [] viewed = tt
hosts_rest m view period (id ∷ ids) viewed = (opened_rests m view period id viewed, hosts_rest m view period ids viewed)
  where
    opened_rests : {S : Type 0} (m : Meaning S) (view : View) (period : ℕ) (id : ℕ) → is_view view ≡ true → HostRests view (host_of_node (opened (outset_of m view period id)))
    opened_rests {S = S} m view period id viewed =
        let n : Node S = opened (outset m group_secret id view period) in
        let sound : IsSound [] view n = sound_opened m group_secret id view period viewed in
        record {
          rests = rests-opened m group_secret id view period;
          well = λ up. record {
            stored = stored-opened m group_secret id view period;
            told = [];
            sound = sound;
            first = [];
            later = [];
            both = refl;
            firm_is = refl;
            first_sound = front_sound group_secret [] n.replica.views n.entries 0 (book_sound [] view n sound refl);
            first_low = omega arith;
            first_made = λ some. absurd (omega (arith, some));
            first_is = refl;
            past = late-none n (omega arith) refl;
          };
          low = omega arith;
        }

-- what a host bears, it bears beside one more
borne_at-insert : {S : Type 0} (hosts : List (Host S)) (i : ℕ) (h : Host S) (id : ℕ) (x : Content) → IsBorneAt hosts id x → IsBorneAt (insert hosts i h) id x
borne_at-insert [] zero h id x borne = absurd borne
borne_at-insert [] (suc i) h id x borne = absurd borne
borne_at-insert (g ∷ hs) zero h id x borne = inr borne
borne_at-insert (g ∷ hs) (suc i) h id x (inl here) = inl here
borne_at-insert (g ∷ hs) (suc i) h id x (inr later) = inr (borne_at-insert hs i h id x later)

borne-insert : {S : Type 0} (hosts : List (Host S)) (i : ℕ) (h : Host S) (o : Origin) (x : Content) → IsBorne hosts o x → IsBorne (insert hosts i h) o x
borne-insert hosts i h (origins.Node id) x borne = borne_at-insert hosts i h id x borne
borne-insert hosts i h (origins.Client id) x borne = tt
borne-insert hosts i h origins.Script x borne = tt

-- a new node is added
borne-added : {S : Type 0} (m : Meaning S) (w : World S) (i member : ℕ) → Borne w → Borne (added (course_of m) w i member)
borne-added {S = S} m w i member is =
    let h : Host S = new_host m w member in
    record {
      viewed = is.viewed;
      hosts = each_insert (HostRests w.view) w.hosts i h is.hosts (hosts_rest m w.view w.period (member ∷ []) is.viewed).0;
      sent = record {
        own = is.sent.own;
        borne = each-weaken (λ (s : Sent). IsBorne w.hosts s.origin s.content) (λ (s : Sent). IsBorne (insert w.hosts i h) s.origin s.content)
            (λ s borne. borne-insert w.hosts i h s.origin s.content borne) w.sent is.sent.borne;
      };
    }

-- the list is right, clients know views of the list alone, and what was sent rests on entries that became firm
abbrev pub RightBorne : {S : Type 0} → Meaning S → World S → Type 0
RightBorne m w = RightKnown m w × Borne w

pub right-borne : {S : Type 0} (m : Meaning S) → IsBrief m → IsRestorable m → KeepsAll (course_of m) (RightBorne m)
right-borne m brief service =
    let known = right-known m brief service in
    record {
      kept = keeps-borne m (RightKnown m) (λ w is. is.1) known.kept;
      resume = λ w i h down at is. (known.resume w i h down at is.0, borne-resumed m service w i h down at is.0.0.0 is.1);
      add = λ w i member on new is. (known.add w i member on new is.0, borne-added m w i member is.1);
    }

right-live : {S : Type 0} (m : Meaning S) → IsBrief m → IsRestorable m → KeepsCalm (course_of m) (RightBorne m)
right-live m brief service = calm (course_of m) (RightBorne m) (live (course_of m) (RightBorne m) (right-borne m brief service).kept)

-- the worlds of a play

-- at the beginning
pub borne-begun : {S : Type 0} (m : Meaning S) (g : Header) → IsHeader g → Borne (begun m g)
borne-begun m g is = record { viewed = is.viewed; hosts = hosts_rest m g.view g.period g.view.members is.viewed; sent = record { own = tt; borne = tt } }

-- after any lines
pub right_borne-after : {S : Type 0} (m : Meaning S) → IsBrief m → IsRestorable m → (g : Header) (ls : List Line) → IsHeader g → RightBorne m (world_after (course_of m) (begun m g) ls)
right_borne-after m brief service g ls is = keeps-world_after (course_of m) (RightBorne m) (right-borne m brief service) (begun m g) ls (known-begun m g is, borne-begun m g is)

-- so all that was sent is read
pub genuine-after : {S : Type 0} (m : Meaning S) → IsBrief m → IsRestorable m → (g : Header) (ls : List Line) → IsHeader g → AllGenuine (world_after (course_of m) (begun m g) ls)
genuine-after m brief service g ls is = all_genuine (world_after (course_of m) (begun m g) ls) (right_borne-after m brief service g ls is).0.0.0.0.0.fit

borne-after : {S : Type 0} (m : Meaning S) → IsBrief m → IsRestorable m → (g : Header) (ls : List Line) → IsHeader g → Borne (world_after (course_of m) (begun m g) ls)
borne-after m brief service g ls is = (right_borne-after m brief service g ls is).1

-- the text that bytes complete is met, and a host takes them
borne-takes_met : {S : Type 0} (m : Meaning S) (i : ℕ) (bytes : List ℕ) (w : World S) (h : Host S) → h.up ≡ true → slice_get w.hosts i ≡ Some h → Borne w → Borne (takes_met (course_of m) i (Arrive bytes) w h)
borne-takes_met {S = S} m i bytes w h up at is =
    let v : World S = meets w (completed_by h.node (Arrive bytes)) in
    let met : Borne v = record { viewed = is.viewed; hosts = is.hosts; sent = record { own = is.sent.own; borne = is.sent.borne } } in
    either (λ (u : World S). Borne u) (is_halted v) v _ met (borne-event m v i h (Arrive bytes) up at tt met)

-- a host that is found takes bytes
borne-host_takes : {S : Type 0} (m : Meaning S) (i : ℕ) (bytes : List ℕ) (w : World S) (found : Option (Host S)) → slice_get w.hosts i ≡ found → Borne w → Borne (host_takes (course_of m) i (Arrive bytes) w found)
borne-host_takes m i bytes w None at is = is
borne-host_takes {S = S} m i bytes w (Some h) at is =
    either_by (λ (v : World S). Borne v) (not (is_up w h)) w _ (λ down. is) (λ up. borne-takes_met m i bytes w h (is-up w h (not_false (is_up w h) up)).0 at is)

-- a node takes bytes
borne-node_takes : {S : Type 0} (m : Meaning S) (i : ℕ) (bytes : List ℕ) (w : World S) → Borne w → Borne (node_takes (course_of m) i (Arrive bytes) w)
unfolding node_takes
borne-node_takes {S = S} m i bytes w is = either (λ (v : World S). Borne v) (is_halted w) w _ is (borne-host_takes m i bytes w (slice_get w.hosts i) refl is)

-- and settles
borne-gives : {S : Type 0} (m : Meaning S) (bytes : List ℕ) (i : ℕ) (w : World S) → Borne w → Borne (gives (course_of m) bytes i w)
unfolding gives
borne-gives m bytes i w is = live-settle (course_of m) Borne (borne-nodes m) i (node_takes (course_of m) i (Arrive bytes) w) (borne-node_takes m i bytes w is)

-- a client hears what bytes are read as
borne-client_hears : {S : Type 0} (w : World S) (i : ℕ) (c : Client) (read : Option Word) → Borne w → Borne (client_hears w i c read)
unfolding hearing
borne-client_hears w i c None is = record { viewed = is.viewed; hosts = is.hosts; sent = record { own = is.sent.own; borne = is.sent.borne } }
borne-client_hears w i c (Some word) is = record { viewed = is.viewed; hosts = is.hosts; sent = record { own = is.sent.own; borne = is.sent.borne } }

borne-hears_bytes : {S : Type 0} (w : World S) (i : ℕ) (bytes : List ℕ) (found : Option Client) → Borne w → Borne (hears_bytes w i bytes found)
borne-hears_bytes w i bytes None is = is
borne-hears_bytes w i bytes (Some c) is = borne-client_hears w i c (word_read (decoded bytes)) is

borne-client_takes : {S : Type 0} (i : ℕ) (bytes : List ℕ) (w : World S) → Borne w → Borne (client_takes i bytes w)
unfolding client_takes
borne-client_takes {S = S} i bytes w is = either (λ (v : World S). Borne v) (is_halted w) w _ is (borne-hears_bytes w i bytes (slice_get w.clients i) is)

-- bytes reach an addressee
borne-reaches : {S : Type 0} (m : Meaning S) (members bytes : List ℕ) (to : Party) (w : World S) → Borne w → Borne (reaches (course_of m) members bytes to w)
borne-reaches m members bytes (parties.Member id) w is = give_one-keeps (course_of m) Borne members bytes (borne-gives m bytes) id w is
borne-reaches m members bytes (parties.Client id) w is = borne-client_takes id bytes w is

-- a node goes on for some turns
borne-turns : {S : Type 0} (m : Meaning S) (i k : ℕ) (w : World S) → Borne w → Borne (repeated (settle_once (course_of m) i) k w)
borne-turns m i k w is = repeated_keeps Borne (settle_once (course_of m) i) (live-settle_once (course_of m) Borne (borne-nodes m) i) k w is

-- as a flow begins
pub firm-first : {S : Type 0} (m : Meaning S) → IsBrief m → IsRestorable m → (g : Header) → IsHeader g → (ls : List Line) (members : List ℕ) (nodes i k : ℕ)
    → SentFirm (repeated (settle_once (course_of m) i) k (flow_begins m g ls members nodes))
firm-first m brief service g is ls members nodes i k =
    (borne-turns m i k (flow_begins m g ls members nodes)
    (each_from_keeps (RightBorne m) (at_listed members (settles_present m members))
    (at_listed-keeps (RightBorne m) members (settles_present m members) (live-settles_present (course_of m) (RightBorne m) (right-live m brief service) members)) nodes 0 (world_after (course_of m) (begun m g) ls)
    (right_borne-after m brief service g ls is)).1).sent

-- after some turns of it
borne-flow : {S : Type 0} (m : Meaning S) → IsBrief m → IsRestorable m → (g : Header) → IsHeader g → (ls : List Line) (members : List ℕ) (turn : ℕ) → Borne (flow_goes m g ls members turn)
borne-flow {S = S} m brief service g is ls members turn =
    let w : World S = world_after (course_of m) (begun m g) ls in
    let keeps = right-live m brief service in
    (repeated_keeps (RightBorne m) (flow_once (course_of m) members) (live-flow_once (course_of m) (RightBorne m) keeps members) turn (settle_all (course_of m) members w)
    (live-settle_all (course_of m) (RightBorne m) keeps members w (right_borne-after m brief service g ls is))).1

-- as bytes go to some parties in it, and a node takes them and goes on
pub firm-given : {S : Type 0} (m : Meaning S) → IsBrief m → IsRestorable m → (g : Header) → IsHeader g → (ls : List Line) (members : List ℕ) (turn : ℕ) (bytes : List ℕ) (tos : List Party) (i k : ℕ)
    → SentFirm (node_goes m bytes i k (message_goes m members bytes tos (flow_goes m g ls members turn)))
firm-given {S = S} m brief service g viewed ls members turn bytes tos i k =
    let w : World S = flow_goes m g ls members turn in
    let is : Borne w = borne-flow m brief service g viewed ls members turn in
    let given : Borne (message_goes m members bytes tos w) =
    goes-keeps (course_of m) Borne members bytes (borne-reaches m members bytes) (record w { mark = w.mark + 1 }) tos
    (record { viewed = is.viewed; hosts = is.hosts; sent = record { own = is.sent.own; borne = is.sent.borne } }) in
    (borne-turns m i k (node_takes (course_of m) i (Arrive bytes) (message_goes m members bytes tos w)) (borne-node_takes m i bytes (message_goes m members bytes tos w) given)).sent
