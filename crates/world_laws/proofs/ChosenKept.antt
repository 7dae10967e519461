-- Each event of a world keeps the list of chosen batches right.
use Rattle.node_laws.proofs.Stated.{may_stand}
use Rattle.world_laws.proofs.ListViews.{IsTame, book_list, front_there, node_views}
use Rattle.world_laws.proofs.InForce.{few_grown, fewer, none_many, same_few}
use Rattle.world_laws.proofs.Listed.{held_at}
use Rattle.node_laws.proofs.CertifiedBooks.{certified_book}
use Rattle.store_laws.specs.Restored.{Images, restores}
use Rattle.store_laws.specs.States.{MayLeave, StoreState}
use Rattle.node_laws.proofs.Restored.{book_sound}
use Rattle.world_laws.proofs.Few.{may-have, few-opened, few-book}
use Rattle.world_laws.proofs.Fitting.{FitHost, own-fits, spelled-life, step-fit}
use Rattle.world_laws.proofs.Lives.{book_left, lasts-opened, Stopped, has_diary, left_made, left_texts, left_upto, life-firm, place_left}
use Rattle.world_laws.proofs.ChosenLives.{GoesOn, all_states, goes_on, host-called, host-crashes, host-resumes, node_left, own_left}
use Rattle.std.proofs.Common.{◌+◌, ◌-◌, ◌^◌, ◌<◌, ◌≡◌, ⊎_elim, ◌⊎◌, inl, inr, ℕ, ◌≤◌, true, false, List, [], ◌∷◌, ◌++◌, length, refl, ap, ◌∙◌, sym, arith, Option, Some, None, subst, take, length-append, zero, suc, nat_lt, filter, drop, nat_le, ◌&&◌, append-nil, append_assoc, ◌==◌, is_some}
use Rattle.std.proofs.lemmas.Bool.{le-ltb, ltb-true, leb-true}
use Rattle.std.specs.Prelude.{IfSome, map, slice_get, slice_set}
use Rattle.std.specs.List.{flat_map, list_all, list_any}
use Rattle.smart_base.specs.Lists.{Each, same_bytes}
use Rattle.smart_base.specs.Views.{View, is_view, present}
use Rattle.smart_base.specs.declared.party.Party.{Party}
use Rattle.smart_base.specs.declared.party.Party.TheVariants as parties
use Rattle.smart_statements.specs.Forms.{SignedBy}
use Rattle.smart_statements.specs.Kinds.{requests}
use Rattle.smart_statements.specs.Batches.{Batch}
use Rattle.smart_statements.specs.declared.statement.Request.{Request}
use Rattle.smart_messages.specs.declared.message.Message.TheVariants.{Ask}
use Rattle.smart_statements.specs.declared.entry.NodeEvent.{NodeEvent}
use Rattle.smart_service.specs.Services.{Meaning}
use Rattle.vote_book.specs.Books.{Among, HasMade}
use Rattle.replica_rules.specs.Replicas.{batch_at, views_after}
use Rattle.replica_rules.specs.Seals.{fits, signed, digest_of, is_verified, request_fits}
use Rattle.node_rules.specs.Nodes.{Node, next_place, view_of}
use Rattle.node_rules.specs.Steps.{step_of, leaving, opened, takes_in}
use Rattle.node_rules.specs.declared.node.Held.{Held}
use Rattle.agreement_laws.specs.Statements.{Statement, Asked, signer_of, within}
use Rattle.agreement_laws.proofs.Lists.{among_flat, each_among, each_both}
use Rattle.agreement_laws.specs.Lists.{Certified}
use Rattle.vote_book.specs.declared.entry.LogEntry.{LogEntry}
use Rattle.smart_base.proofs.ViewFacts.{each-weaken}
use Rattle.client_quorum.specs.Clients.{request_of}
use Rattle.node_laws.specs.Sound.{HasBatch, IsSound, view_for}
use Rattle.node_laws.proofs.Passes.{sound_opened}
use Rattle.world_rules.specs.Secrets.{group_secret}
use Rattle.world_rules.specs.Clients.{heard_word}
use Rattle.world_rules.specs.Worlds.{Course, course_of, Host, World, from_to, posts, sends_all, chosen_with, host_after, stepped, hearing, hosts_from, begun, host_of_node, host_resumed, host_crashed, meets, outset_of, snapshot_in, written, new_host, ending_few}
use Rattle.world_rules.specs.Plays.{world_after}
use Rattle.world_rules.specs.Premises.{is_among, is_excused, is_forged, too_many}
use Rattle.world_laws.specs.Promises.{IsHeader, IsNext, IsPrefix}
use Rattle.world_rules.specs.declared.line.Line.{Line}
use Rattle.client_quorum.specs.declared.client.Client.{Client}
use Rattle.client_quorum.specs.declared.client.Word.{Word}
use Rattle.client_quorum.specs.declared.client.Heard.{Heard}
use Rattle.world_rules.specs.declared.message.Content.{Content}
use Rattle.world_rules.specs.declared.message.Content.TheVariants as contents
use Rattle.world_rules.specs.declared.message.Sent.{Sent}
use Rattle.world_rules.specs.Stated.{HasDiary, stated_in, stated, IsWitnessed, view_behind}
use Rattle.world_laws.proofs.Lists.{each_set, each_get, each_insert}
use Rattle.world_laws.proofs.Keeps.{after_call, IsRead, called, ask_of, asked_by, by-posts, by-posts-ended, IsUp, Keeps, KeepsBut, MayTake, keeps-world_after, ReadsSent, MayRead, may_read, signed_by, from_node, from_client, from_script, IsDown, KeepsAll, with_host, entries_left, node_resumed, IsNew, added}
use Rattle.replica_laws.proofs.Small.{IsBrief}
use Rattle.world_laws.proofs.NoClash.{IsMet, IsTextMet, text-grows}
use Rattle.world_laws.proofs.Grounded.{grounded-event, grounded-reads, keeps-grounded, grounded-begun, HostMet, grounded-resumes, EntryMet, grounded-added}
use Rattle.world_laws.proofs.Unforged.{keeps-unforged, fine_own}
use Rattle.world_laws.proofs.Aligned.{Aligned, AllAligned}
use Rattle.world_laws.proofs.Fronts.{front-length, front-same}
use Rattle.world_laws.proofs.Stating.{IsSaid, message_says}
use Rattle.replica_laws.proofs.Longer.{front_same}
use Rattle.world_laws.proofs.Stores.{IsTold, may-told}
use Rattle.world_laws.proofs.Witnessing.{stated-grows, StatesShown, ShowsOwn, Firmer, firm_of, shown-faulty, shown-sent, shown-set, leave_shown, IsShownAt, ids-set, shown-added}
use Rattle.world_laws.proofs.Chosen.{HostRight, WorldRight, Based, ChosenRight, are_restorable, book-along, chosen-front, certified-step, right-witnessed, host_longer, certified_sent, host_sent, BookRight, none_right, each-step, longer-step, low-step, right_tame}
use Rattle.world_rules.specs.declared.line.Header.{Header}
use Rattle.vote_book.specs.declared.entry.LogEntry.TheVariants.{Decided}
use Rattle.vote_book.specs.declared.entry.Decision.{Decision}
use Rattle.book_laws.specs.BookCuts.{cut_at}
use Rattle.node_laws.specs.Restored.{IsSoundBook}
use Rattle.replica_laws.proofs.FitBooks.{FitBook}
use Rattle.vote_book.specs.Entries.{FitsEntry, entry_text}
use Rattle.world_laws.proofs.Wholes.{IsAt, decided_at, waiting_decided}
use Rattle.snapshot_form.specs.Replicas.{IsOfClients}
use Rattle.world_laws.proofs.Snapshots.{IsRestorable, IsSnapshotAt}
use Rattle.world_laws.proofs.ChosenSteps.{IsSourced, Later, goes_later, host-stepped, leaves_shown, settles, stands, tame}
use Rattle.smart_base.specs.declared.limits.TheConstants.{LAST_CLIENT}
use Rattle.node_laws.proofs.Lists.{all_each}
use Rattle.smart_base.proofs.SameLists.{and_true}
use Rattle.world_rules.specs.Crashes.{bytes_held}
use Rattle.world_rules.specs.Fronts.{checkpoint_place, count_kept, stated_place}
use Rattle.replica_laws.proofs.Checked.{fits_each}
use Rattle.node_rules.specs.Arrivals.{is_batch_for}
use Rattle.std.proofs.lemmas.List.{length-map}
use Rattle.world_laws.proofs.Reopens.{GoesBehind, node_behind}
use Rattle.world_laws.proofs.Ahead.{one_of, written_fits}
use Rattle.world_laws.proofs.Fetching.{IsFetchMet, fetch-longer, fetch-step, fetch-taken}
use Rattle.world_laws.proofs.MarksRight.{HostMarks, marks-called, marks-crashed, marks-opened, marks-resumed, marks-stepped, marks_longer}
use Rattle.world_laws.proofs.Meeting.{all-met, few-goes_on, met-goes_on, met-more}
use Rattle.world_rules.specs.Premises.{all_marked}
use Rattle.store_form.specs.declared.checkpoint.Checkpoint.{Checkpoint}
use Rattle.store_laws.specs.Asked.{IsOneOf}
use Rattle.replica_laws.proofs.FitNodes.{FitsSnapshot, Settles}
use Rattle.state_transfer.specs.declared.fetch.Fetch.{Fetch}
use Rattle.world_laws.proofs.Names.{AreNames, map_insert, names, names_first, names_insert, none_named}

-- messages leave

-- marks stay right, and texts of plans met, where more is met and the list grows

all-marks : {S : Type 0} (m : Meaning S) (view : View) (chosen more : List Batch) (sent sent' : List Sent) (marked marked' : List (List ℕ)) → take (length chosen) more ≡ chosen
    → ((text : List ℕ) → IsTextMet sent marked text → IsTextMet sent' marked' text) → (hosts : List (Host S)) → Each (HostMarks m view chosen sent marked) hosts → Each (HostMarks m view more sent' marked') hosts
all-marks m view chosen more sent sent' marked marked' front met hosts each =
    each-weaken (HostMarks m view chosen sent marked) (HostMarks m view more sent' marked') (marks_longer m view chosen more sent sent' marked marked' front met) hosts each

all-fetched : {S : Type 0} (sent sent' : List Sent) (marked marked' : List (List ℕ)) → ((text : List ℕ) → IsTextMet sent marked text → IsTextMet sent' marked' text) → (hosts : List (Host S))
    → Each (λ (h : Host S). IsFetchMet sent marked h.node.fetch) hosts → Each (λ (h : Host S). IsFetchMet sent' marked' h.node.fetch) hosts
all-fetched {S = S} sent sent' marked marked' met hosts each =
    each-weaken (λ (h : Host S). IsFetchMet sent marked h.node.fetch) (λ (h : Host S). IsFetchMet sent' marked' h.node.fetch)
    (λ h is. fetch-longer sent sent' marked marked' met h.node.fetch is) hosts each

-- more is sent, which states nothing but what has been stated or is shown
right-posts : {S : Type 0} (m : Meaning S) (w : World S) (s : Sent) → StatesShown w.faulty (stated w.sent) w.hosts s.content → WorldRight m w → WorldRight m (posts w s)
right-posts {S = S} m w s states r =
    by-posts-ended (λ (v : World S). WorldRight m v) w s
    (λ ending ended. record {
      right = r.right;
      ids = r.ids;
      viewed = r.viewed;
      period_fits = r.period_fits;
      certified = r.certified;
      few = same_few w _ refl refl refl (λ on. absurd (ended on)) r.few;
      shown = r.shown;
      begins = r.begins;
      low = r.low;
      of = r.of;
      short = r.short;
      marks = λ on. absurd (ended on);
      fetched = λ on. absurd (ended on);
    })
    (λ free room. record {
      right = each-weaken (HostRight w.sent m w.view w.chosen) (HostRight (w.sent ++ s ∷ []) m w.view w.chosen) (host_sent w.sent s m w.view w.chosen) w.hosts r.right;
      ids = r.ids;
      viewed = r.viewed;
      period_fits = r.period_fits;
      certified = certified_sent w.sent s w.view w.chosen r.certified;
      few = same_few w _ refl refl refl (λ on. on) r.few;
      shown = shown-sent w.faulty w.sent s w.hosts states r.shown;
      begins = r.begins;
      low = r.low;
      of = r.of;
      short = let below = ltb-true (length w.sent) (2 ^ 24) room in let longer = length-append w.sent (s ∷ []) in omega (arith, below, longer);
      marks = λ on.
          all-marks m w.view w.chosen w.chosen w.sent (w.sent ++ s ∷ []) w.marked w.marked (front-same w.chosen) (text-grows w.sent w.marked s) w.hosts (r.marks on);
      fetched = λ on. all-fetched w.sent (w.sent ++ s ∷ []) w.marked w.marked (text-grows w.sent w.marked s) w.hosts (r.fetched on);
    })

-- what states nothing else, does so where a message has left
states-posts : {S : Type 0} (w : World S) (s : Sent) (c : Content) → StatesShown w.faulty (stated w.sent) w.hosts c → StatesShown (posts w s).faulty (stated (posts w s).sent) (posts w s).hosts c
states-posts {S = S} w s c states =
    by-posts (λ (v : World S). StatesShown v.faulty (stated v.sent) v.hosts c) w s (λ ending. states)
    (λ free room. λ x there. ⊎_elim {C = Among x (stated (w.sent ++ s ∷ [])) ⊎ IsShownAt w.faulty w.hosts x} (λ old. inl (stated-grows w.sent s x old)) (λ shows. inr shows) (states x there))

-- messages of a node leave
right-sends_all : {S : Type 0} (m : Meaning S) (id : ℕ) (view : View) (w : World S) (held : List Held) → Each (λ h. StatesShown w.faulty (stated w.sent) w.hosts (contents.Message h.message)) held → WorldRight m w
    → WorldRight m (sends_all id view w held)
right-sends_all m id view w [] each r = r
right-sends_all {S = S} m id view w (h ∷ hs) each r =
    let next : World S = posts w (from_node w id view h) in
    right-sends_all m id view next hs
    (each-weaken (λ (x : Held). StatesShown w.faulty (stated w.sent) w.hosts (contents.Message x.message)) (λ (x : Held). StatesShown next.faulty (stated next.sent) next.hosts (contents.Message x.message))
    (λ x states. states-posts w (from_node w id view h) (contents.Message x.message) states) hs each.1)
    (right-posts m w (from_node w id view h) each.0 r)

-- a client is no member
pub no_member : (i j : ℕ) → parties.Client i ≡ parties.Member j → ⊥
no_member i j same = cc

-- a client's statement is no member's
client_shows : {S : Type 0} (faulty : List ℕ) (x : Statement) (id : ℕ) (hosts : List (Host S)) → signer_of x ≡ parties.Client id → Each (ShowsOwn faulty x) hosts
client_shows faulty x id [] who = tt
client_shows faulty x id (h ∷ hs) who = (λ own correct. absurd (no_member id h.node.id (sym who ∙ own)), client_shows faulty x id hs who)

client_shown : {S : Type 0} (faulty : List ℕ) (x : Statement) (id : ℕ) (hosts : List (Host S)) → signer_of x ≡ parties.Client id → IsShownAt faulty hosts x
client_shown faulty x id hosts who = (client_shows faulty x id hosts who, λ member is. absurd (no_member id member (sym who ∙ is)))

-- what a client asks states its request alone
pub asks_alone : (q : SignedBy Request) (x : Statement) → Among x (stated_in (contents.Message (Ask q))) → x ≡ Asked q
asks_alone q x there =
    let is : IsSaid (Ask q) x = message_says (Ask q) x there in
    one (Asked q) x (subst (λ (p : Statement). Among x (within p)) (only is.part (Asked q) is.said_there) is.inside)
  where
    only : (p s : Statement) → Among p (s ∷ []) → p ≡ s
    only p s (inl same) = same
    only p s (inr none) = absurd none

    one : (s x : Statement) → Among x (s ∷ []) → x ≡ s
    one s x (inl same) = same
    one s x (inr none) = absurd none

ask_shows : {S : Type 0} (w : World S) (q : SignedBy Request) → StatesShown w.faulty (stated w.sent) w.hosts (contents.Message (Ask q))
ask_shows w q x there = inr (client_shown w.faulty x q.signer w.hosts (ap (λ (s : Statement). signer_of s) (asks_alone q x there)))

-- of who is excused nothing is said
excused_shows : {S : Type 0} (faulty rogue : List ℕ) (x : Statement) (hosts : List (Host S)) → is_excused faulty rogue (signer_of x) ≡ true → Each (ShowsOwn faulty x) hosts
excused_shows faulty rogue x [] excused = tt
excused_shows faulty rogue x (h ∷ hs) excused =
    (λ own correct. absurd (both (sym (subst (λ (p : Party). is_excused faulty rogue p ≡ true) own excused) ∙ correct)), excused_shows faulty rogue x hs excused)
  where
    both : true ≡ false → ⊥
    both same = cc

excused_shown : {S : Type 0} (faulty rogue : List ℕ) (x : Statement) (hosts : List (Host S)) → is_excused faulty rogue (signer_of x) ≡ true → IsShownAt faulty hosts x
excused_shown faulty rogue x hosts excused =
    (excused_shows faulty rogue x hosts excused, λ member who. inl (subst (λ (p : Party). is_excused faulty rogue p ≡ true) who excused))

-- what a message that was sent states has been stated
stands_stated : (sent : List Sent) (s : Sent) (x : Statement) → Among s sent → Among x (stated_in s.content) → Among x (stated sent)
stands_stated sent s x there states = among_flat (λ (t : Sent). stated_in t.content) sent s x there states

-- what is injected and not forged
inject_shows : {S : Type 0} (w : World S) (c : Content) → is_forged w.faulty w.rogue w.sent c ≡ false → Each (λ s. IsRead s.content) w.sent → IsRead c → StatesShown w.faulty (stated w.sent) w.hosts c
inject_shows {S = S} w c fine reads read x there =
    ⊎_elim {C = Among x (stated w.sent) ⊎ IsShownAt w.faulty w.hosts x} (λ excused. inr (excused_shown w.faulty w.rogue x w.hosts excused))
    (λ own. inl (stands_stated w.sent own.stands.message x own.stands.there own.stands.states)) (fine_own w.faulty w.rogue w.sent c x fine reads read there)

-- a host's node takes an event

-- a diary only grows
grows-firm : {S : Type 0} (h h' : Host S) (more : List LogEntry) → h'.node.id ≡ h.node.id → h'.life.diary ≡ h.life.diary ++ more → Firmer h h'
grows-firm h h' more id is = record { named = id; book = record { rest = more; is = is } }

-- where a host stands in another's place
set_get : {S : Type 0} (hs : List (Host S)) (i : ℕ) (h h' : Host S) → slice_get hs i ≡ Some h → slice_get (slice_set hs i h') i ≡ Some h'
set_get [] i h h' at = absurd (cc)
set_get (x ∷ hs) zero h h' at = refl
set_get (x ∷ hs) (suc i) h h' at = set_get hs i h h' at

-- what is known of a host
pub host-right : {S : Type 0} (m : Meaning S) (w : World S) (i : ℕ) (h : Host S) → slice_get w.hosts i ≡ Some h → ChosenRight m w → HostRight w.sent m w.view w.chosen h
host-right m w i h at r = each_get (HostRight w.sent m w.view w.chosen) w.hosts i h r.1.right at

pub host-fit : {S : Type 0} (m : Meaning S) (w : World S) (i : ℕ) (h : Host S) → slice_get w.hosts i ≡ Some h → ChosenRight m w → FitHost m h
host-fit m w i h at r = each_get (FitHost m) w.hosts i h r.0.0.fit.hosts at

-- the requests of a batch that may stand at a place may stand there
pub may_fit : (secret : List ℕ) (place : ℕ) (digest : List ℕ) (batch : Batch) → is_batch_for secret place digest batch ≡ true → list_all (request_fits secret place) batch ≡ true
unfolding is_batch_for
may_fit secret place digest batch is =
    fits_each secret batch place
    (and_true (fits secret batch place) (same_bytes (digest_of batch) digest) is).0

-- each batch that a book decides is of clients that there are
all_of_clients : (secret : List ℕ) (place : ℕ) (batch : Batch) → Each (λ q. request_fits secret place q ≡ true) batch → Each (λ q. q.statement.client ≤ LAST_CLIENT) batch
all_of_clients secret place [] each = tt
all_of_clients secret place (q ∷ qs) each =
    let two = and_true (nat_le q.statement.client LAST_CLIENT && nat_lt q.statement.after place) (is_verified requests secret q) each.0 in
    let one = and_true (nat_le q.statement.client LAST_CLIENT) (nat_lt q.statement.after place) two.0 in
    (leb-true q.statement.client LAST_CLIENT one.0, all_of_clients secret place qs each.1)

-- what is known of a batch that a book decides at a place: it is certified there in the view that holds the place, the place is low, and its clients are clients
record IsDecidedRight (sent : List Sent) (views : List View) (place : ℕ) (batch : Batch) : Type 0 where
  certified : (v : View) → view_for views place ≡ Some v → Certified group_secret (stated sent) v place (digest_of batch)
  low : place < 2 ^ 63
  of : IsOfClients batch

decided-right : (sent : List Sent) (view : View) (chosen : List Batch) (es : List LogEntry) (d : Decision) → IsSoundBook group_secret (stated sent) (views_after view chosen) es → Each FitsEntry es → Among (Decided d) es
    → IsDecidedRight sent (views_after view chosen) d.slot.place d.batch
decided-right sent view chosen es d sound spelled there =
    let fit : FitsEntry (Decided d) = each_among FitsEntry es (Decided d) spelled there in
    let has : HasBatch group_secret (stated sent) (Decided d) = each_among (HasBatch group_secret (stated sent)) es (Decided d) sound.batches there in
    record {
      certified = λ v holds. certified_book group_secret (stated sent) (views_after view chosen) es d sound there v holds;
      low = fit.slot_fits.place_fits.1;
      of = (
        fit.batch_fits,
        all_of_clients group_secret d.slot.place d.batch (all_each (request_fits group_secret d.slot.place) d.batch (may_fit group_secret d.slot.place (digest_of d.batch) d.batch has.may)),
        (may_stand group_secret d.slot.place (digest_of d.batch) d.batch has.may).alone,
      );
    }

-- the batch that waits at a right host, if there is one
waits-right : {S : Type 0} (sent : List Sent) (m : Meaning S) (view : View) (chosen : List Batch) (h : Host S) → (hr : HostRight sent m view chosen h) → Each FitsEntry hr.whole → (waiting : Option Batch)
    → h.node.waiting ≡ waiting → IfSome waiting (IsDecidedRight sent (views_after view chosen) (next_place h.node))
waits-right sent m view chosen h hr spelled None at = tt
waits-right sent m view chosen h hr spelled (Some batch) at =
    let is = waiting_decided (stated sent) view hr.whole h.node batch hr.sound hr.wrote.cut at in
    subst (λ (b : Batch). IsDecidedRight sent (views_after view chosen) (next_place h.node) b) is.batch_is
    (subst (λ (k : ℕ). IsDecidedRight sent (views_after view chosen) k is.decision.batch) is.place_is (decided-right sent view chosen hr.whole is.decision hr.wrote.right.sound spelled is.there))

each_waits : (P Q : Batch → Type 0) (waiting : Option Batch) → ((batch : Batch) → P batch → Q batch) → IfSome waiting P → IfSome waiting Q
each_waits P Q None all is = tt
each_waits P Q (Some batch) all is = all batch is

-- all that a host's members have written is few entries
whole-few : {S : Type 0} (m : Meaning S) (w : World S) (h : Host S) (chosen : List Batch) → length w.sent ≤ 2 ^ 24 → (hr : HostRight w.sent m w.view chosen h) → length hr.whole < 2 ^ 28
whole-few m w h chosen short hr = few-book group_secret (stated w.sent) (views_after w.view chosen) w.sent hr.whole hr.wrote.right.sound hr.few.written_from short

-- the view in force behind the list holds the next place, also by the views of a longer list
next_holds : (view : View) (chosen more : List Batch) (place : ℕ) → is_view view ≡ true → Each IsOfClients more → length more < 2 ^ 63 → take (length chosen) more ≡ chosen → place ≡ length chosen + 1
    → view_for (views_after view more) place ≡ Some (view_behind view chosen)
next_holds view chosen more place viewed of low front next =
    let long = front-length chosen more front in
    let before : place - 1 ≡ length chosen = omega (arith, next) in
    held_at view more place viewed of low (omega (arith, next)) (omega (arith, next, long))
    ∙ ap (λ (bs : List Batch). Some (present (views_after view bs))) (ap (λ (k : ℕ). take k more) before ∙ front)

-- the world behind it
right-event : {S : Type 0} (m : Meaning S) → IsRestorable m → (w : World S) (i : ℕ) (h : Host S) (event : NodeEvent) → w.ending ≡ None → h.up ≡ true → slice_get w.hosts i ≡ Some h → MayRead w h event → IsSourced w event
    → IsTold h event → IsFetchMet w.sent w.marked (takes_in h.node event).node.fetch → FitBook m group_secret (step_of m h.node event).node → ChosenRight m w → WorldRight m (stepped (course_of m) w i h (step_of m h.node event))
unfolding stepped
right-event {S = S} m service w i h event on up at may came told text fit r =
    let n' : Node S = (step_of m h.node event).node in
    let h' : Host S = host_after (course_of m) h (step_of m h.node event) in
    let more : List Batch = chosen_with w.chosen (next_place n') n'.waiting in
    let front : take (length w.chosen) more ≡ w.chosen = chosen-front w.chosen (next_place n') n'.waiting in
    let hr : HostRight w.sent m w.view w.chosen h = host-right m w i h at r in
    let here : HostRight w.sent m w.view more h' = host-stepped m w i h event on up at may came told service r hr text in
    let l : Later h.node n' = goes_later m w i h event on up at may came told service r hr text in
    let ids : AreNames w.view (names (slice_set w.hosts i h')) = subst (AreNames w.view) (sym (ids-set w.hosts i h h' at l.named)) r.1.ids in
    let written_fit : Each FitsEntry (written h') =
    written_fits h' (life-firm FitsEntry h.life h.node n' fit.book (spelled-life h.life (host-fit m w i h at r).life)).diary fit.book in
    let spelled : Each FitsEntry here.whole = subst (λ (es : List LogEntry). Each FitsEntry es) (sym (here.wrote.is up)) written_fit in
    let waits : IfSome n'.waiting (IsDecidedRight w.sent (views_after w.view more) (next_place n')) = waits-right w.sent m w.view more h' here spelled n'.waiting refl in
    let low : length more < 2 ^ 63 =
    low-step w.chosen n' n'.waiting (each_waits (IsDecidedRight w.sent (views_after w.view more) (next_place n')) (λ (batch : Batch). next_place n' < 2 ^ 63) n'.waiting (λ batch is. is.low) waits) r.1.low in
    let of : Each IsOfClients more =
    each-step IsOfClients w.chosen n' n'.waiting (each_waits (IsDecidedRight w.sent (views_after w.view more) (next_place n')) IsOfClients n'.waiting (λ batch is. is.of) waits) r.1.of in
    let holds : next_place n' ≡ length w.chosen + 1 → view_for (views_after w.view more) (next_place n') ≡ Some (view_behind w.view w.chosen) =
    next_holds w.view w.chosen more (next_place n') r.1.viewed of low front in
    let snapshots : List (List ℕ) = flat_map snapshot_in (step_of m h.node event).fired in
    let marked : List (List ℕ) = all_marked w.sent w.marked snapshots in
    let grows : (text : List ℕ) → IsTextMet w.sent w.marked text → IsTextMet w.sent marked text = met-more w.sent w.marked snapshots in
    right-sends_all m h.node.id (view_of n') _ (leaving n'.firm n'.held)
    (leave_shown w.faulty (stated w.sent) (slice_set w.hosts i h') i h' n'.firm n'.held ids.once (set_get w.hosts i h h' at)
    (λ x there low. leaves_shown m w i h event on up at may came told service r hr text x there low))
    (record {
      right = each_set (HostRight w.sent m w.view more) w.hosts i h'
          (each-weaken (HostRight w.sent m w.view w.chosen) (HostRight w.sent m w.view more) (host_longer w.sent m w.view w.chosen more (tame m w i h event on up at may came told service r hr text) front) w.hosts r.1.right) here;
      ids = ids;
      viewed = r.1.viewed;
      period_fits = r.1.period_fits;
      certified = certified-step (stated w.sent) w.view w.chosen n' n'.waiting
          (each_waits (IsDecidedRight w.sent (views_after w.view more) (next_place n'))
          (λ (batch : Batch). next_place n' ≡ length w.chosen + 1 → Certified group_secret (stated w.sent) (view_behind w.view w.chosen) (next_place n') (digest_of batch)) n'.waiting
          (λ batch is next. is.certified (view_behind w.view w.chosen) (holds next)) waits)
          r.1.certified;
      few = few_grown w _ on refl refl front (longer-step w.chosen n' n'.waiting)
          (λ goes. (few-goes_on w.view more w.faulty w.ending (met-goes_on w.sent w.marked (ending_few w.view more w.faulty w.ending) snapshots goes)).0) r.1.few;
      shown = shown-set w.faulty (stated w.sent) w.hosts i h h' at (grows-firm h h' (from_to h.node.firm n'.firm n'.entries) l.named refl) r.1.shown;
      begins = r.1.begins;
      low = low;
      of = of;
      short = r.1.short;
      marks = λ goes.
          let each : Each (IsTextMet w.sent marked) snapshots = all-met w.sent w.marked (ending_few w.view more w.faulty w.ending) snapshots goes in
          let was : HostMarks m w.view w.chosen w.sent marked h =
          marks_longer m w.view w.chosen w.chosen w.sent w.sent w.marked marked (front-same w.chosen) grows h (each_get (HostMarks m w.view w.chosen w.sent w.marked) w.hosts i h (r.1.marks on) at) in
          each_set (HostMarks m w.view more w.sent marked) w.hosts i h'
          (all-marks m w.view w.chosen more w.sent w.sent w.marked marked front grows w.hosts (r.1.marks on))
          (marks_longer m w.view w.chosen more w.sent w.sent marked marked front (λ text is. is) h'
          (marks-stepped m w.view w.chosen w.sent marked h event (stands m w i h event on up at may came told service r hr text)
          (λ text there. each_among (IsTextMet w.sent marked) snapshots text each there) was));
      fetched = λ goes.
          each_set (λ (g : Host S). IsFetchMet w.sent marked g.node.fetch) w.hosts i h' (all-fetched w.sent w.sent w.marked marked grows w.hosts (r.1.fetched on))
          (fetch-longer w.sent w.sent w.marked marked grows n'.fetch (fetch-step m w.sent w.marked h.node event text));
    })

-- another host stands at an index, of the same member, whose diary is no shorter
right-set : {S : Type 0} (m : Meaning S) (w : World S) (i : ℕ) (h h' : Host S) → slice_get w.hosts i ≡ Some h → Firmer h h' → HostRight w.sent m w.view w.chosen h'
    → (HostMarks m w.view w.chosen w.sent w.marked h → HostMarks m w.view w.chosen w.sent w.marked h') → (IsFetchMet w.sent w.marked h.node.fetch → IsFetchMet w.sent w.marked h'.node.fetch) → WorldRight m w
    → WorldRight m (with_host w i h')
right-set {S = S} m w i h h' at f right marked fetches r = record {
  right = each_set (HostRight w.sent m w.view w.chosen) w.hosts i h' r.right right;
  ids = subst (AreNames w.view) (sym (ids-set w.hosts i h h' at f.named)) r.ids;
  viewed = r.viewed;
  period_fits = r.period_fits;
  certified = r.certified;
  few = same_few w _ refl refl refl (λ on. on) r.few;
  shown = shown-set w.faulty (stated w.sent) w.hosts i h h' at f r.shown;
  begins = r.begins;
  low = r.low;
  of = r.of;
  short = r.short;
  marks = λ on.
      each_set (HostMarks m w.view w.chosen w.sent w.marked) w.hosts i h' (r.marks on) (marked (each_get (HostMarks m w.view w.chosen w.sent w.marked) w.hosts i h (r.marks on) at));
  fetched = λ on.
      each_set (λ (g : Host S). IsFetchMet w.sent w.marked g.node.fetch) w.hosts i h' (r.fetched on)
      (fetches (each_get (λ (g : Host S). IsFetchMet w.sent w.marked g.node.fetch) w.hosts i h (r.fetched on) at));
}

-- the store of a host makes a call
right-called : {S : Type 0} (m : Meaning S) → IsRestorable m → (w : World S) (i : ℕ) (h : Host S) → h.up ≡ true → slice_get w.hosts i ≡ Some h → ChosenRight m w → WorldRight m (called (course_of m) w i h)
right-called m service w i h up at r =
    let hr = host-right m w i h at r in
    let few = whole-few m w h w.chosen r.1.short hr in
    right-set m w i h (after_call (course_of m) h) at (record { named = refl; book = front_same (firm_of h) })
    (host-called w.sent m service w.view w.chosen r.1.viewed r.1.begins r.1.low r.1.of h up (subst (λ (es : List LogEntry). length es < 2 ^ 28) (hr.wrote.is up) few) (host-fit m w i h at r) hr) (marks-called m w.view w.chosen w.sent w.marked h) (λ is. is) r.1

-- a member crashes
right-crashed : {S : Type 0} (m : Meaning S) (w : World S) (i : ℕ) (h : Host S) (left : Images) → h.up ≡ true → slice_get w.hosts i ≡ Some h → MayLeave h.store.devices left → ChosenRight m w
    → WorldRight m (with_host w i (host_crashed (course_of m) h left))
right-crashed m w i h left up at may r =
    right-set m w i h (host_crashed (course_of m) h left) at
    (grows-firm h (host_crashed (course_of m) h left) (drop (length h.life.diary) (take (count_kept left (book_left h)) (book_left h))) refl refl)
    (host-crashes w.sent m w.view w.chosen h left up may (host-right m w i h at r)) (marks-crashed m w.view w.chosen w.sent w.marked h left) (λ is. is) r.1

-- the diary of a member has few entries
pub diary-few : {S : Type 0} (m : Meaning S) (w : World S) (i : ℕ) (h : Host S) → slice_get w.hosts i ≡ Some h → ChosenRight m w → length h.life.diary < 2 ^ 28
diary-few m w i h at r = let hr = host-right m w i h at r in few-book group_secret (stated w.sent) (views_after w.view w.chosen) w.sent h.life.diary hr.diary.sound hr.few.diary r.1.short

-- a checkpoint that states a place is there, if its place is not 0
no_checkpoint : (present : Option Checkpoint) → IfSome present (λ (x : Checkpoint). 0 < stated_place x.snapshot) → checkpoint_place present ≡ 0 → own_left present ≡ None
no_checkpoint None some none = refl
no_checkpoint (Some x) some none = absurd (omega (arith, some, none))

-- what a member that has crashed goes on from
module _ {S : Type 0} (m : Meaning S) (service : IsRestorable m) (w : World S) (i : ℕ) (h : Host S) (down : h.up ≡ false) (at : slice_get w.hosts i ≡ Some h) (r : ChosenRight m w) where
  abbrev pub left_host : HostRight w.sent m w.view w.chosen h
  left_host = host-right m w i h at r

  abbrev pub stopped_host : Stopped left_host.all left_host.past h
  stopped_host = left_host.lasts.down down

  pub place_made : 0 < place_left stopped_host → HasMade h.life.diary (place_left stopped_host)
  place_made = left_made left_host.all left_host.past h stopped_host

  diary_met : Each (EntryMet (IsMet w.sent)) h.life.diary
  diary_met = (each_get (HostMet (IsMet w.sent)) w.hosts i h r.0.0.hosts at).life.diary

  -- it goes on from its diary, over the checkpoint
  pub resumed_behind : GoesBehind group_secret (stated w.sent) w.view (place_left stopped_host) w.chosen h.life.diary
  resumed_behind = record {
    sound = left_host.diary.sound;
    made = place_made;
    upto = left_upto left_host.all left_host.past h stopped_host;
    along = book-along m w h.life.diary r diary_met left_host.diary;
  }

  -- there is none, if its place is 0
  pub none_left : place_left stopped_host ≡ 0 → own_left (restores stopped_host.left).present ≡ None
  none_left none = no_checkpoint (restores stopped_host.left).present (all_stated (restores stopped_host.left).present stopped_host.asked) none
    where
      all_stated : (present : Option Checkpoint) → IfSome present (λ (x : Checkpoint). IsOneOf left_host.all x.snapshot) → IfSome present (λ (x : Checkpoint). 0 < stated_place x.snapshot)
      all_stated None is = tt
      all_stated (Some x) is = one_of (λ (bytes : List ℕ). 0 < stated_place bytes) left_host.all x.snapshot (all_states w.sent m service w.view w.chosen r.1.viewed r.1.begins r.1.low r.1.of left_host.all left_host.snapshots) is

  -- it may be an own snapshot
  pub own_fit : IfSome (own_left (restores stopped_host.left).present) FitsSnapshot
  own_fit = by (restores stopped_host.left).present stopped_host.asked
    where
      by : (present : Option Checkpoint) → IfSome present (λ (x : Checkpoint). IsOneOf left_host.all x.snapshot) → IfSome (own_left present) FitsSnapshot
      by None is = tt
      by (Some x) is = own-fits m w.view w.chosen (are_restorable m w service r.1) x.snapshot (one_of (IsSnapshotAt m w.view w.chosen) left_host.all x.snapshot left_host.snapshots is)

  -- its diary, and the place of its checkpoint
  pub resumed_is : node_resumed (course_of m) w h ≡ node_behind m group_secret h.node.id w.view w.period (place_left stopped_host) w.chosen (own_left (restores stopped_host.left).present) h.life.diary
  resumed_is =
      node_left m service w.view w.period w.chosen h left_host.all left_host.past stopped_host r.1.viewed r.1.begins r.1.low r.1.of left_host.snapshots (spelled-life h.life (host-fit m w i h at r).life).diary

  pub resumed_on : GoesOn w.sent m w.view w.chosen h.node.id (place_left stopped_host) h.life.diary (node_resumed (course_of m) w h)
  resumed_on =
      subst (λ (n : Node S). GoesOn w.sent m w.view w.chosen h.node.id (place_left stopped_host) h.life.diary n) (sym resumed_is)
      (goes_on w.sent m w.view w.period w.chosen h.node.id (place_left stopped_host) (own_left (restores stopped_host.left).present) h.life.diary (right_tame m w r.1) left_host.diary resumed_behind none_left diary_met left_host.few.diary)

  pub resumed-right : HostRight w.sent m w.view w.chosen (host_resumed h (node_resumed (course_of m) w h))
  resumed-right = host-resumes w.sent m w.view w.chosen h (node_resumed (course_of m) w h) left_host down resumed_on (diary-few m w i h at r)

  -- as many entries are restored as its devices hold
  pub resumed_count : (node_resumed (course_of m) w h).restored ≡ length (entries_left h)
  resumed_count =
      resumed_on.resumed.restored_is
      ∙ (sym (length-map (cut_at (place_left stopped_host) h.life.diary) entry_text)
      ∙ (ap (λ (es : List (List ℕ)). length es) (sym (left_texts left_host.all left_host.past h stopped_host))
      ∙ ap (λ (t : StoreState). length (restores (bytes_held t)).entries) (sym stopped_host.opened)))

  right-resumed : WorldRight m (with_host w i (host_resumed h (node_resumed (course_of m) w h)))
  right-resumed =
      right-set m w i h (host_resumed h (node_resumed (course_of m) w h)) at (record { named = resumed_on.name; book = front_same (firm_of h) }) resumed-right
      (marks-resumed m w.view w.chosen w.sent w.marked h (node_resumed (course_of m) w h) (place_left stopped_host) resumed_on.resumed.more resumed_on.resumed.book resumed_on.unmarked)
      (λ is. subst (λ (o : Option Fetch). IsFetchMet w.sent w.marked o) (sym resumed_on.fetches) tt) r.1

-- texts are met
right-meets : {S : Type 0} (m : Meaning S) (w : World S) (texts : List (List ℕ)) → WorldRight m w → WorldRight m (meets w texts)
right-meets m w texts r =
    let marked : List (List ℕ) = all_marked w.sent w.marked texts in
    let grows : (text : List ℕ) → IsTextMet w.sent w.marked text → IsTextMet w.sent marked text = met-more w.sent w.marked texts in
    record {
      right = r.right;
      ids = r.ids;
      viewed = r.viewed;
      period_fits = r.period_fits;
      certified = r.certified;
      few = same_few w _ refl refl refl (λ goes. met-goes_on w.sent w.marked w.ending texts goes) r.few;
      shown = r.shown;
      begins = r.begins;
      low = r.low;
      of = r.of;
      short = r.short;
      marks = λ goes.
          all-marks m w.view w.chosen w.chosen w.sent w.sent w.marked marked (front-same w.chosen) grows w.hosts (r.marks (met-goes_on w.sent w.marked w.ending texts goes));
      fetched = λ goes. all-fetched w.sent w.sent w.marked marked grows w.hosts (r.fetched (met-goes_on w.sent w.marked w.ending texts goes));
    }

-- clients

-- a client that hears changes none of it
right-hear : {S : Type 0} (m : Meaning S) (w : World S) (i : ℕ) (c : Client) (a : Word) (h : Heard) → WorldRight m w → WorldRight m (hearing w i c a h)
unfolding hearing
right-hear m w i c a h r = record { right = r.right; ids = r.ids; viewed = r.viewed; period_fits = r.period_fits; certified = r.certified; few = same_few w _ refl refl refl (λ on. on) r.few; shown = r.shown; begins = r.begins; low = r.low; of = r.of; short = r.short; marks = r.marks; fetched = r.fetched }

-- two facts that are kept, are kept together
pub keeps-both : {S : Type 0} (course : Course S) (P Q : World S → Type 0) → Keeps course P → Keeps course Q → Keeps course (λ w. P w × Q w)
keeps-both course P Q k l =
    record {
      event = λ w i h event up at may is. (k.event w i h event up at may is.0, l.event w i h event up at may is.1);
      disk = λ w i h up at is. (k.disk w i h up at is.0, l.disk w i h up at is.1);
      crash = λ w i h left up at may is. (k.crash w i h left up at may is.0, l.crash w i h left up at may is.1);
      hear = λ w i c x a on at has read is. (k.hear w i c x a on at has read is.0, l.hear w i c x a on at has read is.1);
      ask = λ w i c op at free low brief is. (k.ask w i c op at free low brief is.0, l.ask w i c op at free low brief is.1);
      again = λ w i c q at waits is. (k.again w i c q at waits is.0, l.again w i c q at waits is.1);
      learn = λ w i j c d at other is. (k.learn w i j c d at other is.0, l.learn w i j c d at other is.1);
      inject = λ w x read fine is. (k.inject w x read fine is.0, l.inject w x read fine is.1);
      declare = λ w faulty rogue ending how is. (k.declare w faulty rogue ending how is.0, l.declare w faulty rogue ending how is.1);
      same = λ w mark told is. (k.same w mark told is.0, l.same w mark told is.1);
      meet = λ w texts on is. (k.meet w texts on is.0, l.meet w texts on is.1);
    }

-- each event but a node's keeps the base
keeps-based : {S : Type 0} (m : Meaning S) → KeepsBut (course_of m) (Based m)
keeps-based m =
    let k = keeps-grounded m in
    let l = (keeps-unforged (course_of m)).kept in
    record {
      meet = λ w texts on is. (k.meet w texts on is.0, l.meet w texts on is.1);
      disk = λ w i h up at is. (k.disk w i h up at is.0, l.disk w i h up at is.1);
      crash = λ w i h left up at may is. (k.crash w i h left up at may is.0, l.crash w i h left up at may is.1);
      hear = λ w i c x a on at has read is. (k.hear w i c x a on at has read is.0, l.hear w i c x a on at has read is.1);
      ask = λ w i c op at free low brief is. (k.ask w i c op at free low brief is.0, l.ask w i c op at free low brief is.1);
      again = λ w i c q at waits is. (k.again w i c q at waits is.0, l.again w i c q at waits is.1);
      learn = λ w i j c d at other is. (k.learn w i j c d at other is.0, l.learn w i j c d at other is.1);
      inject = λ w x read fine is. (k.inject w x read fine is.0, l.inject w x read fine is.1);
      declare = λ w faulty rogue ending how is. (k.declare w faulty rogue ending how is.0, l.declare w faulty rogue ending how is.1);
      same = λ w mark told is. (k.same w mark told is.0, l.same w mark told is.1);
    }

-- the joined text of a plan whose parts are all there was met where an event is taken in
taken-met : {S : Type 0} (m : Meaning S) (w : World S) (i : ℕ) (h : Host S) (event : NodeEvent) → slice_get w.hosts i ≡ Some h → MayTake w h event → ChosenRight m w
    → IsFetchMet w.sent w.marked (takes_in h.node event).node.fetch
taken-met {S = S} m w i h event at may r =
    fetch-taken w.sent w.marked h.node event may.met (each_get (λ (g : Host S). IsFetchMet w.sent w.marked g.node.fetch) w.hosts i h (r.1.fetched may.on) at)

-- so what a node may take over is small
event-settles : {S : Type 0} (m : Meaning S) → IsBrief m → IsRestorable m → (w : World S) (i : ℕ) (h : Host S) (event : NodeEvent) → IsUp w h → slice_get w.hosts i ≡ Some h → MayTake w h event → ChosenRight m w
    → Settles m (takes_in h.node event).node
event-settles m brief service w i h event up at may r =
    settles m w i h event may.on up.0 at (may_read w h event (grounded-reads w r.0.0) may.come) (may-have w h event may.come) (may-told w h event may.come) service r (host-right m w i h at r) (taken-met m w i h event at may r) brief

-- and a node's event keeps the base
based-event : {S : Type 0} (m : Meaning S) → IsBrief m → IsRestorable m → (w : World S) (i : ℕ) (h : Host S) (event : NodeEvent) → IsUp w h → slice_get w.hosts i ≡ Some h → MayTake w h event → ChosenRight m w
    → Based m (stepped (course_of m) w i h (step_of m h.node event))
based-event m brief service w i h event up at may r = (
  grounded-event m brief w i h event at may.come (event-settles m brief service w i h event up at may r) r.0.0,
  (keeps-unforged (course_of m)).kept.event w i h event up at may r.0.1,
)

based-resumes : {S : Type 0} (m : Meaning S) → IsBrief m → IsRestorable m → (w : World S) (i : ℕ) (h : Host S) → IsDown w h → slice_get w.hosts i ≡ Some h → ChosenRight m w
    → Based m (with_host w i (host_resumed h (node_resumed (course_of m) w h)))
based-resumes m brief service w i h down at r =
    let s = stopped_host m service w i h down.0 at r in (
      grounded-resumes m brief w i h (stated w.sent) (place_left s) (own_left (restores s.left).present) at (are_restorable m w service r.1) r.1.period_fits (resumed_is m service w i h down.0 at r)
          (resumed_behind m service w i h down.0 at r) (none_left m service w i h down.0 at r) (own_fit m service w i h down.0 at r) r.0.0,
      (keeps-unforged (course_of m)).resume w i h down at r.0.1,
    )

-- a host's node goes right behind its event
pub event-right : {S : Type 0} (m : Meaning S) → IsRestorable m → (w : World S) (i : ℕ) (h : Host S) (event : NodeEvent) → IsUp w h → slice_get w.hosts i ≡ Some h → MayTake w h event → ChosenRight m w
    → HostRight w.sent m w.view (chosen_with w.chosen (next_place (step_of m h.node event).node) (step_of m h.node event).node.waiting) (host_after (course_of m) h (step_of m h.node event))
event-right m service w i h event up at may r =
    host-stepped m w i h event may.on up.0 at (may_read w h event (grounded-reads w r.0.0) may.come) (may-have w h event may.come) (may-told w h event may.come) service r (host-right m w i h at r)
    (taken-met m w i h event at may r)

-- the views that a node knows behind its event are among those behind the list then
pub event-knows : {S : Type 0} (m : Meaning S) → IsRestorable m → (w : World S) (i : ℕ) (h : Host S) (event : NodeEvent) → IsUp w h → slice_get w.hosts i ≡ Some h → MayTake w h event → ChosenRight m w
    → (v : View) → Among v (step_of m h.node event).node.replica.views
    → Among v (views_after w.view (chosen_with w.chosen (next_place (step_of m h.node event).node) (step_of m h.node event).node.waiting))
event-knows {S = S} m service w i h event up at may r v there =
    let n' : Node S = (step_of m h.node event).node in
    let more : List Batch = chosen_with w.chosen (next_place n') n'.waiting in
    let here : HostRight w.sent m w.view more (host_after (course_of m) h (step_of m h.node event)) = event-right m service w i h event up at may r in
    let known : n'.replica.views ≡ views_after w.view (take n'.replica.place more) = node_views m w.view more n' (record { reached = here.wrote.at.reached; replica = here.wrote.at.replica }) in
    front_there w.view n'.replica.place more v (subst (λ (vs : List View). Among v vs) known there)

-- each event keeps the list right, but that a node goes on
chosen-keeps : {S : Type 0} (m : Meaning S) → IsBrief m → IsRestorable m → Keeps (course_of m) (ChosenRight m)
chosen-keeps m brief service =
    let k = keeps-based m in
    record {
      event = λ w i h event up at may r. (
        based-event m brief service w i h event up at may r,
        right-event m service w i h event may.on up.0 at (may_read w h event (grounded-reads w r.0.0) may.come) (may-have w h event may.come) (may-told w h event may.come) (taken-met m w i h event at may r)
            (step-fit m brief w i h event at may.come (event-settles m brief service w i h event up at may r) r.0.0.fit) r,
      );
      disk = λ w i h up at r. (k.disk w i h up at r.0, right-called m service w i h up.0 at r);
      crash = λ w i h left up at may r. (k.crash w i h left up at may r.0, right-crashed m w i h left up.0 at may r);
      hear = λ w i c x a on at has read r. (k.hear w i c x a on at has read r.0, right-hear m w i c a (heard_word c a) r.1);
      ask = λ w i c op at free few short r. (
        k.ask w i c op at free few short r.0,
        right-posts m (asked_by w i c op) (from_client c (ask_of c op)) (ask_shows w (signed requests group_secret c.id (request_of c op)))
            (record { right = r.1.right; ids = r.1.ids; viewed = r.1.viewed; period_fits = r.1.period_fits; certified = r.1.certified; few = same_few w _ refl refl refl (λ on. on) r.1.few; shown = r.1.shown; begins = r.1.begins; low = r.1.low; of = r.1.of; short = r.1.short; marks = r.1.marks; fetched = r.1.fetched }),
      );
      again = λ w i c q at waits r. (k.again w i c q at waits r.0, right-posts m w (from_client c (signed_by c q)) (ask_shows w (signed requests group_secret c.id q)) r.1);
      learn = λ w i j c d at other r. (
        k.learn w i j c d at other r.0,
        record { right = r.1.right; ids = r.1.ids; viewed = r.1.viewed; period_fits = r.1.period_fits; certified = r.1.certified; few = same_few w _ refl refl refl (λ on. on) r.1.few; shown = r.1.shown; begins = r.1.begins; low = r.1.low; of = r.1.of; short = r.1.short; marks = r.1.marks; fetched = r.1.fetched },
      );
      inject = λ w x read fine r. (k.inject w x read fine r.0, right-posts m w (from_script x) (inject_shows w x fine r.0.0.fit.sent read) r.1);
      declare = λ w faulty rogue ending how r. (
        k.declare w faulty rogue ending how r.0,
        record {
          right = r.1.right;
          ids = r.1.ids;
          viewed = r.1.viewed;
          period_fits = r.1.period_fits;
          certified = r.1.certified;
          few = fewer w _ refl refl how.few how.over r.1.few;
          shown = shown-faulty w.faulty faulty (stated w.sent) w.hosts how.more_faulty r.1.shown;
          begins = r.1.begins;
          low = r.1.low;
          of = r.1.of;
          short = r.1.short;
          marks = λ on. r.1.marks (how.over on);
          fetched = λ on. r.1.fetched (how.over on);
        },
      );
      same = λ w mark told r. (k.same w mark told r.0, record { right = r.1.right; ids = r.1.ids; viewed = r.1.viewed; period_fits = r.1.period_fits; certified = r.1.certified; few = same_few w _ refl refl refl (λ on. on) r.1.few; shown = r.1.shown; begins = r.1.begins; low = r.1.low; of = r.1.of; short = r.1.short; marks = r.1.marks; fetched = r.1.fetched });
      meet = λ w texts on r. (k.meet w texts on r.0, right-meets m w texts r.1);
    }

-- new nodes

-- opened hosts are right
hosts_right : {S : Type 0} (m : Meaning S) (view : View) (period : ℕ) (members : List ℕ) → is_view view ≡ true → Each (HostRight [] m view []) (hosts_from m view period members)
hosts_right m view period [] viewed = tt
hosts_right m view period (id ∷ ids) viewed = (opened_right m view period id viewed, hosts_right m view period ids viewed)
  where
    opened_right : {S : Type 0} (m : Meaning S) (view : View) (period : ℕ) (id : ℕ) → is_view view ≡ true → HostRight [] m view [] (host_of_node (opened (outset_of m view period id)))
    opened_right {S} m view period id viewed =
        let n : Node S = opened (outset_of m view period id) in
        let sound : IsSound [] view n = sound_opened m group_secret id view period viewed in
        let at : IsAt m view [] n = record { reached = omega arith; replica = refl } in
        let all : IsTame view [] = record { viewed = viewed; alone = tt; low = omega arith } in
        let whole : BookRight [] view [] n.entries = record { sound = book_list m group_secret [] view [] n n.entries all at sound.within (book_sound [] view n sound refl); within = omega arith } in
        let none : BookRight [] view [] [] = none_right [] view [] n.entries whole in
        record {
          sound = sound;
          shared = refl;
          all = [];
          past = 0;
          lasts = lasts-opened m group_secret id view period;
          snapshots = tt;
          whole = (opened (outset_of m view period id)).entries;
          wrote = record {
            is = λ up. refl;
            cut = refl;
            made = λ some. absurd (omega (arith, some));
            right = whole;
            met = (tt, tt);
            past = omega arith;
            at = at;
            knows = book_sound [] view n sound refl;
            bounded = sound.within;
          };
          count = refl;
          places = tt;
          agrees = tt;
          earlier = tt;
          diary = none;
          aside = none;
          few = few-opened m [] id view period;
        }

-- they have marked nothing, and fetch nothing
hosts_marked : {S : Type 0} (m : Meaning S) (view : View) (period : ℕ) (members : List ℕ) → Each (HostMarks m view [] [] []) (hosts_from m view period members)
hosts_marked m view period [] = tt
hosts_marked m view period (id ∷ ids) = (marks-opened m view [] [] [] id view period, hosts_marked m view period ids)

none_fetched : {S : Type 0} (m : Meaning S) (view : View) (period : ℕ) (members : List ℕ) → Each (λ (h : Host S). IsFetchMet [] [] h.node.fetch) (hosts_from m view period members)
none_fetched m view period [] = tt
none_fetched m view period (id ∷ ids) = (tt, none_fetched m view period ids)

-- and are the members
pub hosts_ids : {S : Type 0} (m : Meaning S) (view : View) (period : ℕ) (members : List ℕ) → map (λ h. h.node.id) (hosts_from m view period members) ≡ members
hosts_ids m view period [] = refl
hosts_ids m view period (id ∷ ids) = ap (λ xs. id ∷ xs) (hosts_ids m view period ids)

-- what is right where less is sent, is right where more is
host_sent_all : {S : Type 0} (sent more : List Sent) (m : Meaning S) (view : View) (chosen : List Batch) (h : Host S) → HostRight sent m view chosen h → HostRight (sent ++ more) m view chosen h
host_sent_all {S = S} sent [] m view chosen h r = subst (λ (xs : List Sent). HostRight xs m view chosen h) (sym (append-nil sent)) r
host_sent_all {S = S} sent (s ∷ more) m view chosen h r =
    subst (λ (xs : List Sent). HostRight xs m view chosen h) (append_assoc sent (s ∷ []) more) (host_sent_all (sent ++ s ∷ []) more m view chosen h (host_sent sent s m view chosen h r))

-- the host of a new node is right, whatever was sent and decided
new-right : {S : Type 0} (m : Meaning S) (w : World S) (member : ℕ) → IsTame w.view w.chosen → HostRight w.sent m w.view w.chosen (new_host m w member)
new-right m w member all =
    host_longer w.sent m w.view [] w.chosen all refl (new_host m w member) (host_sent_all [] w.sent m w.view [] (new_host m w member) (hosts_right m w.view w.period (member ∷ []) all.viewed).0)

-- a new node is added
right-added : {S : Type 0} (m : Meaning S) (w : World S) (i member : ℕ) → IsNew w member → WorldRight m w → WorldRight m (added (course_of m) w i member)
right-added {S = S} m w i member new r =
    let h : Host S = new_host m w member in
    let none : list_any (λ k. k == member) (names w.hosts) ≡ false = none_named w.hosts member (ap (λ (found : Option ℕ). is_some found) new.none) in
    record {
      right = each_insert (HostRight w.sent m w.view w.chosen) w.hosts i h r.right (new-right m w member (right_tame m w r));
      ids = subst (AreNames w.view) (sym (map_insert (λ (g : Host S). g.node.id) w.hosts i h)) (names_insert w.view (names w.hosts) i member r.ids none);
      viewed = r.viewed;
      period_fits = r.period_fits;
      certified = r.certified;
      few = same_few w _ refl refl refl (λ on. on) r.few;
      shown = shown-added w.faulty (stated w.sent) w.hosts i h none r.shown;
      begins = r.begins;
      low = r.low;
      of = r.of;
      short = r.short;
      marks = λ on. each_insert (HostMarks m w.view w.chosen w.sent w.marked) w.hosts i h (r.marks on) (marks-opened m w.view w.chosen w.sent w.marked member w.view w.period);
      fetched = λ on. each_insert (λ (g : Host S). IsFetchMet w.sent w.marked g.node.fetch) w.hosts i h (r.fetched on) tt;
    }

-- each event keeps the list right
pub chosen-kept : {S : Type 0} (m : Meaning S) → IsBrief m → IsRestorable m → KeepsAll (course_of m) (ChosenRight m)
chosen-kept m brief service =
    record {
      kept = chosen-keeps m brief service;
      resume = λ w i h down at r. (based-resumes m brief service w i h down at r, right-resumed m service w i h down.0 at r);
      add = λ w i member on new r. (
        (grounded-added m w i member r.1.viewed r.1.period_fits new r.0.0, (keeps-unforged (course_of m)).add w i member on new r.0.1),
        right-added m w i member new r.1,
      );
    }

-- what is kept where what was sent is read, is kept where the list is right
pub right-reads : {S : Type 0} (m : Meaning S) (w : World S) → ChosenRight m w → ReadsSent w
right-reads m w r = grounded-reads w r.0.0

-- what members have stated is witnessed, and each chosen batch is certified
pub chosen-witnessed : {S : Type 0} (m : Meaning S) (w : World S) → ChosenRight m w → IsWitnessed w
chosen-witnessed {S = S} m w r =
    record {
      diaries = each-weaken (HostRight w.sent m w.view w.chosen) (λ (h : Host S). HasDiary h) (λ h right. has_diary right.all right.past h right.lasts) w.hosts r.1.right;
      witnessed = right-witnessed m w r.1;
      chosen = r.1.certified;
    }

-- the beginning

-- at first none is faulty
none_faulty : (view : View) → too_many view [] ≡ false
none_faulty view = ap (λ (k : ℕ). nat_lt view.f k) (none_pass view.members) ∙ le-ltb view.f 0 (omega arith)
  where
    none_pass : (members : List ℕ) → length (filter (is_among []) members) ≡ 0
    none_pass [] = refl
    none_pass (m ∷ ms) = none_pass ms

-- a world that begins is right
pub chosen-begun : {S : Type 0} (m : Meaning S) (g : Header) → IsHeader g → ChosenRight m (begun m g)
chosen-begun m g is = (
  (grounded-begun m g is, record { each = tt }),
  record {
    right = hosts_right m g.view g.period g.view.members is.viewed;
    ids = subst (AreNames g.view) (sym (hosts_ids m g.view g.period g.view.members)) (names_first g.view is.viewed);
    viewed = is.viewed;
    period_fits = is.period_fits;
    certified = tt;
    few = record { each = λ v force. none_faulty v; calm = λ on. none_many [] (views_after g.view []) (λ v there. none_faulty v) };
    shown = λ x never. absurd never;
    begins = is.begins;
    low = omega arith;
    of = tt;
    short = omega arith;
    marks = λ on. hosts_marked m g.view g.period g.view.members;
    fetched = λ on. none_fetched m g.view g.period g.view.members;
  },
)

-- hosts stand along the list

-- a host's replica is the state of a front of the list, and the batch that waits is the list's next
host-aligned : {S : Type 0} (m : Meaning S) (w : World S) → ChosenRight m w → (h : Host S) → HostRight w.sent m w.view w.chosen h → Aligned m w.view w.chosen h
host-aligned m w r h right = record {
  within = right.wrote.at.reached;
  replica = right.wrote.at.replica;
  waiting = λ batch at.
      decided_at w.chosen right.whole (next_place h.node) batch (book-along m w right.whole r right.wrote.met right.wrote.right)
      (waiting_decided (stated w.sent) w.view right.whole h.node batch right.sound right.wrote.cut at);
}

-- all hosts stand along the list
pub chosen-aligned : {S : Type 0} (m : Meaning S) (w : World S) → ChosenRight m w → AllAligned m w
chosen-aligned {S = S} m w r =
    record { hosts = each-weaken (HostRight w.sent m w.view w.chosen) (Aligned m w.view w.chosen) (λ h right. host-aligned m w r h right) w.hosts r.1.right }

-- a batch that waits is the list's at its place
next_is : (chosen : List Batch) (place : ℕ) (waiting : Option Batch) → ((batch : Batch) → waiting ≡ Some batch → batch_at chosen place ≡ Some batch) → IsNext chosen place waiting
next_is chosen place None at = tt
next_is chosen place (Some batch) at = at batch refl

-- each host has delivered a front of the list
pub chosen-prefix : {S : Type 0} (m : Meaning S) (w : World S) → ChosenRight m w → Each (IsPrefix m w.view w.chosen) w.hosts
chosen-prefix m w r =
    each_both (Aligned m w.view w.chosen) (HostRight w.sent m w.view w.chosen) (IsPrefix m w.view w.chosen)
    (λ h a right. record {
      within = a.within;
      replica = a.replica;
      count = right.count;
      places = right.places;
      delivered = right.agrees;
      earlier = right.earlier;
      waiting = next_is w.chosen (next_place h.node) h.node.waiting a.waiting;
    }) w.hosts (chosen-aligned m w r).hosts r.1.right

-- throughout a script

-- after any lines, what members have stated is witnessed, and each chosen batch is certified
pub witnessed-after : {S : Type 0} (m : Meaning S) → IsBrief m → IsRestorable m → (g : Header) (ls : List Line) → IsHeader g → IsWitnessed (world_after (course_of m) (begun m g) ls)
witnessed-after {S = S} m brief service g ls is =
    chosen-witnessed m (world_after (course_of m) (begun m g) ls) (keeps-world_after (course_of m) (ChosenRight m) (chosen-kept m brief service) (begun m g) ls (chosen-begun m g is))
