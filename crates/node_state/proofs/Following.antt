-- How a node's instance and its synchronizer follow the node.
use Rattle.std.proofs.Common.{◌≡◌, ℕ, ◌+◌, ◌<◌, ◌≤◌, ◌^◌, ◌==◌, ◌++◌, ◌&&◌, filter, filter_map, max, nat_lt, Bool, true, false, List, [], ◌∷◌, refl, ap, sym, subst, ◌∙◌, cond, arith, Option, Some, None, is_some, is_none, option_map}
use Rattle.std.proofs.lemmas.Bool.{ltb-true, eq-eqb}
use Rattle.smart_base.specs.Lists.{or_else}
use Rattle.smart_base.specs.Views.{View}
use Rattle.smart_base.proofs.SameLists.{and_true}
use Rattle.std.specs.Prelude.{Result, Ok, Err, OnOk, OnErr}
use Rattle.smart_statements.specs.Forms.{SignedBy}
use Rattle.smart_statements.specs.Batches.{Batch}
use Rattle.smart_statements.specs.declared.report.Mark.{Mark}
use Rattle.smart_messages.specs.declared.message.Message.{Message}
use Rattle.smart_messages.specs.declared.regency.Stop.{Stop}
use Rattle.smart_messages.specs.declared.regency.Sync.{Sync}
use Rattle.smart_messages.specs.declared.regency.Reported.{Reported}
use Rattle.smart_statements.specs.declared.statement.Slot.{Slot}
use Rattle.smart_statements.specs.declared.statement.VoteKind.{VoteKind}
use Rattle.smart_messages.specs.declared.message.Proposed.{Proposed}
use Rattle.vote_book.specs.Books.{Book, pushed, last_made, place_made, number_or}
use Rattle.vote_book.proofs.Standing.{start_push}
use Rattle.vote_book.specs.Standing.{first_start, own_votes, start_by}
use Rattle.vote_book.specs.declared.votes.OwnVotes.{OwnVotes}
use Rattle.vote_book.proofs.Last.{last_push}
use Rattle.vote_book.specs.declared.entry.Write.{Write as Writing}
use Rattle.vote_book.specs.declared.entry.Accept.{Accept as Accepting}
use Rattle.vote_book.specs.declared.entry.Promise.{Promise}
use Rattle.vote_book.specs.declared.entry.Start.{Start as Beginning}
use Rattle.vote_book.specs.declared.entry.Decision.{Decision}
use Rattle.vote_book.specs.declared.entry.Installation.{Installation}
use Rattle.vote_book.specs.declared.entry.LogEntry.{LogEntry}
use Rattle.vote_book.specs.declared.entry.LogEntry.TheVariants.{Wrote, Accepted, Promised, Synced, Decided, Installed, Marked}
use Rattle.transfer_form.specs.declared.transfer.ProvenBatch.{ProvenBatch}
use Rattle.regency_sync.specs.Synchronizers as synchronizers
use Rattle.regency_sync.specs.Synchronizers.{Synchronizer, adopted, promised_to}
use Rattle.node_rules.specs.Arrivals as arrivals
use Rattle.node_rules.specs.Nodes as nodes
use Rattle.node_rules.specs.Nodes.{Node, view_of, regency_of, synchronizer_of, is_synced, greatest_regency, start_at}
use Rattle.consensus_instance.specs.Instances as instances
use Rattle.consensus_instance.specs.Instances.{Instance, decided_place, is_free, is_open, open_slot, is_bound_to, is_unbound, accepted_named, due_by, with_arrival, moved_on, taken_to, promising, syncing}
use Rattle.node_rules.specs.Kept.{is_ahead, trimmed}
use Rattle.node_rules.specs.Votes.{named_in, accepted_in, certificate_votes}
use Rattle.consensus_instance.specs.declared.start.Start.{Start as Beginnings}
use Rattle.consensus_instance.specs.declared.rule.Rule.{Rule}
use Rattle.consensus_instance.specs.Nodes.{slot_behind, stated_start, IsInstance, HasInstance, due_at}
use Rattle.consensus_instance.proofs.Entries.{wrote_instance, accepted_instance, decided_instance, marked_instance, delivered_instance, installed_instance, promised_instance, synced_instance, start_passed, same_regency, same_decided_place, same_free, same_synced, same_open, same_slot_open, same_bound, same_unbound, due_same}
use Rattle.node_state.specs.Following.{Follows, begun_at}

-- an entry that makes no place
same_last : (entries : List LogEntry) (e : LogEntry) → place_made e ≡ None → last_made (entries ++ e ∷ []) ≡ last_made entries
same_last entries e none = last_push entries e ∙ (ap (λ (o : Option ℕ). max (last_made entries) (number_or o 0)) none ∙ omega arith)

made_passed : (entries : List LogEntry) (e : LogEntry) (place : ℕ) → place_made e ≡ None → last_made entries ≤ place → last_made (entries ++ e ∷ []) ≤ place
made_passed entries e place none is = subst (λ (n : ℕ). n ≤ place) (sym (same_last entries e none)) is

-- an entry that begins no regency
synced_passed : (view regency : ℕ) (entries : List LogEntry) (e : LogEntry) (synced : Bool) → start_by view regency e ≡ None → synced ≡ is_some (first_start view regency entries)
    → synced ≡ is_some (first_start view regency (entries ++ e ∷ []))
synced_passed view regency entries e synced none is = is ∙ ap (λ (o : Option Beginning). is_some o) (sym (start_passed view regency entries e none))

-- what arrives alone changes an instance
kept_instance : (id : ℕ) (view : View) (place : ℕ) (waiting : Option Batch) (entries : List LogEntry) (i now : Instance) (s : Synchronizer) (arrivals : List Message) → now ≡ record i { arrivals = arrivals }
    → Follows id view place waiting entries i s → Follows id view place waiting entries now s
kept_instance id view place waiting entries i now s arrivals same is =
    rw same (record {
      room = is.room;
      instance = record {
        id_same = is.instance.id_same;
        view_same = is.instance.view_same;
        place_same = is.instance.place_same;
        decided_same = is.instance.decided_same;
        regency_same = is.instance.regency_same;
        start_same = is.instance.start_same;
        arrivals_same = refl;
        wrote_same = is.instance.wrote_same;
        accepted_same = is.instance.accepted_same;
      };
      member = is.member;
      viewed = is.viewed;
      regency = is.regency;
      synced = is.synced;
      made = is.made;
    })

-- what holds of both holds of the one that is chosen
of_chosen : {A : Type 0} (P : A → Type 0) (t : Bool) (a b : A) → P a → P b → P (cond t a b)
of_chosen P true a b first second = first
of_chosen P false a b first second = second

-- an instance to which a message came, which it keeps or not
pub arrived_after : {A E : Type 0} (id : ℕ) (view : View) (place : ℕ) (waiting : Option Batch) (entries : List LogEntry) (i now : Instance) (s : Synchronizer) (keeps : Bool) (m : Message) (result : Result A E)
    → OnOk result (now ≡ cond keeps (with_arrival m i) i) → OnErr result (now ≡ i) → Follows id view place waiting entries i s → Follows id view place waiting entries now s
arrived_after id view place waiting entries i now s keeps m (Ok a) ok err is =
    subst (λ (x : Instance). Follows id view place waiting entries x s) (sym ok)
    (of_chosen (λ (x : Instance). Follows id view place waiting entries x s) keeps (with_arrival m i) i (kept_instance id view place waiting entries i (with_arrival m i) s (i.arrivals ++ m ∷ []) refl is) is)
arrived_after id view place waiting entries i now s keeps m (Err e) ok err is = rw err is

-- a synchronizer that keeps other messages
heard_same : (id : ℕ) (view : View) (place : ℕ) (waiting : Option Batch) (entries : List LogEntry) (i : Instance) (s : Synchronizer) (stops : List (SignedBy Stop)) (reports : List Reported) (syncs : List (SignedBy Sync))
    → Follows id view place waiting entries i s → Follows id view place waiting entries i (record s { stops = stops; reports = reports; syncs = syncs })
heard_same id view place waiting entries i s stops reports syncs is = record {
  room = is.room;
  instance = is.instance;
  member = is.member;
  viewed = is.viewed;
  regency = is.regency;
  synced = is.synced;
  made = is.made;
}

-- a synchronizer to which a message came, which it keeps or not
pub heard_after : {A E : Type 0} (id : ℕ) (view : View) (place : ℕ) (waiting : Option Batch) (entries : List LogEntry) (i : Instance) (s then : Synchronizer) (keeps : Bool)
    (stops : List (SignedBy Stop)) (reports : List Reported) (syncs : List (SignedBy Sync)) (result : Result A E)
    → OnOk result (then ≡ cond keeps (record s { stops = stops; reports = reports; syncs = syncs }) s) → OnErr result (then ≡ s) → Follows id view place waiting entries i s → Follows id view place waiting entries i then
heard_after id view place waiting entries i s then keeps stops reports syncs (Ok a) ok err is =
    subst (λ (x : Synchronizer). Follows id view place waiting entries i x) (sym ok)
    (of_chosen (λ (x : Synchronizer). Follows id view place waiting entries i x) keeps (record s { stops = stops; reports = reports; syncs = syncs }) s (heard_same id view place waiting entries i s stops reports syncs is) is)
heard_after id view place waiting entries i s then keeps stops reports syncs (Err e) ok err is = rw err is

-- what is needed alone is kept
pub trimmed_after : (id : ℕ) (view : View) (place : ℕ) (waiting : Option Batch) (entries : List LogEntry) (i now : Instance) (s then : Synchronizer) → now ≡ instances.trimmed i.view.number i → then ≡ synchronizers.trimmed s.view s
    → Follows id view place waiting entries i s → Follows id view place waiting entries now then
unfolding instances.trimmed synchronizers.trimmed
trimmed_after id view place waiting entries i now s then same turned is =
    let has = kept_instance id view place waiting entries i now s now.arrivals (rw same refl) is in
    rw turned (record { room = has.room; instance = has.instance; member = has.member; viewed = has.viewed; regency = has.regency; synced = has.synced; made = has.made })

pub wrote_after : (id : ℕ) (view : View) (place : ℕ) (waiting : Option Batch) (b c : Book) (i now : Instance) (s : Synchronizer) (w : Writing) → Follows id view place waiting b.entries i s
    → w.slot ≡ slot_behind view.number place i.regency → c ≡ pushed b (Wrote w) → now ≡ record i { wrote = true } → Follows id view place waiting c.entries now s
wrote_after id view place waiting b c i now s w is at grown moved =
    rw (moved, grown) (record {
      room = is.room;
      instance = wrote_instance id view place waiting i.arrivals b.entries i w at is.instance;
      member = is.member;
      viewed = is.viewed;
      regency = is.regency;
      synced = synced_passed view.number i.regency b.entries (Wrote w) s.synced refl is.synced;
      made = made_passed b.entries (Wrote w) _ refl is.made;
    })

pub accepted_after : (id : ℕ) (view : View) (place : ℕ) (waiting : Option Batch) (b c : Book) (i now : Instance) (s : Synchronizer) (a : Accepting) → Follows id view place waiting b.entries i s
    → a.slot ≡ slot_behind view.number place i.regency → c ≡ pushed b (Accepted a) → now ≡ record i { accepted = true } → Follows id view place waiting c.entries now s
accepted_after id view place waiting b c i now s a is at grown moved =
    rw (moved, grown) (record {
      room = is.room;
      instance = accepted_instance id view place waiting i.arrivals b.entries i a at is.instance;
      member = is.member;
      viewed = is.viewed;
      regency = is.regency;
      synced = synced_passed view.number i.regency b.entries (Accepted a) s.synced refl is.synced;
      made = made_passed b.entries (Accepted a) _ refl is.made;
    })

pub marked_after : (id : ℕ) (view : View) (place : ℕ) (waiting : Option Batch) (b c : Book) (i : Instance) (s : Synchronizer) (m : Mark) → Follows id view place waiting b.entries i s
    → c ≡ pushed b (Marked m) → Follows id view place waiting c.entries i s
marked_after id view place waiting b c i s m is grown =
    rw grown (record {
      room = is.room;
      instance = marked_instance id view place waiting i.arrivals b.entries i m is.instance;
      member = is.member;
      viewed = is.viewed;
      regency = is.regency;
      synced = synced_passed view.number i.regency b.entries (Marked m) s.synced refl is.synced;
      made = made_passed b.entries (Marked m) _ refl is.made;
    })

made_here : (waiting : Option Batch) (place last : ℕ) → is_none waiting ≡ true → last ≤ cond (is_some waiting) (place + 1) place → last ≤ place
made_here None place last free is = is
made_here (Some b) place last free is = absurd (cc)

-- where no batch waits, the book makes no place past the last that was delivered
pub none_made : (id : ℕ) (view : View) (place : ℕ) (waiting : Option Batch) (entries : List LogEntry) (i : Instance) (s : Synchronizer) → Follows id view place waiting entries i s → is_none waiting ≡ true
    → last_made entries ≤ place
none_made id view place waiting entries i s is free = made_here waiting place (last_made entries) free is.made

most_of : (last at place : ℕ) → last ≤ place → at ≡ place + 1 → max last at ≤ place + 1
most_of last at place most next = omega (arith, most, next)

pub decided_after : (id : ℕ) (view : View) (place : ℕ) (waiting : Option Batch) (b c : Book) (i now : Instance) (s : Synchronizer) (d : Decision) (batch : Batch) → Follows id view place waiting b.entries i s
    → (is_none waiting && nat_lt (place + 1) (2 ^ 63)) ≡ true → d.slot.place ≡ place + 1 → c ≡ pushed b (Decided d) → now ≡ record i { decided = true }
    → Follows id view place (Some batch) c.entries now s
decided_after id view place waiting b c i now s d batch is free at grown moved =
    let both = and_true (is_none waiting) (nat_lt (place + 1) (2 ^ 63)) free in
    let last : last_made b.entries ≤ place = none_made id view place waiting b.entries i s is both.0 in
    let most : last_made (b.entries ++ Decided d ∷ []) ≤ place + 1 =
    subst (λ (n : ℕ). n ≤ place + 1) (sym (last_push b.entries (Decided d))) (most_of (last_made b.entries) d.slot.place place last at) in
    rw (moved, grown) (record {
      room = λ some. ltb-true (place + 1) (2 ^ 63) both.1;
      instance = decided_instance id view place waiting i.arrivals b.entries i d batch is.instance;
      member = is.member;
      viewed = is.viewed;
      regency = is.regency;
      synced = synced_passed view.number i.regency b.entries (Decided d) s.synced refl is.synced;
      made = most;
    })

made_next : (waiting : Option Batch) (place last : ℕ) (batch : Batch) → Some batch ≡ waiting → last ≤ cond (is_some waiting) (place + 1) place → last ≤ place + 1
made_next None place last batch some is = absurd (cc)
made_next (Some b) place last batch some is = is

pub delivered_after : (id : ℕ) (view later : View) (place next : ℕ) (waiting taken : Option Batch) (entries : List LogEntry) (i now : Instance) (s : Synchronizer) (batch : Batch) (votes : OwnVotes) → Follows id view place waiting entries i s
    → votes ≡ own_votes (slot_behind view.number (place + 1) i.regency) entries
    → Some batch ≡ waiting → taken ≡ None → next ≡ place + 1 → later ≡ view → now ≡ moved_on votes i → Follows id later next taken entries now s
delivered_after id view later place next waiting taken entries i now s batch votes is voted some free at same moved =
    rw (moved, same, at, free) (record {
      room = λ some. absurd (cc);
      instance = delivered_instance id view place waiting i.arrivals entries i votes voted is.instance;
      member = is.member;
      viewed = is.viewed;
      regency = is.regency;
      synced = is.synced;
      made = made_next waiting place (last_made entries) batch some is.made;
    })

pub some_mapped : (o : Option Beginning) → is_some (option_map stated_start o) ≡ is_some o
some_mapped None = refl
some_mapped (Some s) = refl

-- whether a regency has begun, by where it first did
pub begun_by : (view regency : ℕ) (entries : List LogEntry) (start : Option Beginnings) → start ≡ option_map stated_start (first_start view regency entries) → is_some start ≡ is_some (first_start view regency entries)
begun_by view regency entries start is =
    ap (λ (o : Option Beginnings). is_some o) is ∙ some_mapped (first_start view regency entries)

pub promised_after : (id : ℕ) (view : View) (place : ℕ) (waiting : Option Batch) (b c : Book) (i now : Instance) (s then : Synchronizer) (p : Promise) (start : Option Beginnings) (begun : Bool) (votes : OwnVotes)
    → Follows id view place waiting b.entries i s → p.view ≡ view.number → i.regency < p.regency
    → start ≡ option_map stated_start (first_start view.number p.regency b.entries) → begun ≡ is_some start → votes ≡ own_votes (slot_behind view.number place p.regency) b.entries
    → c ≡ pushed b (Promised p) → now ≡ promising p.regency start votes i → then ≡ promised_to p.regency begun s → Follows id view place waiting c.entries now then
promised_after id view place waiting b c i now s then p start begun votes is at later started has voted grown moved turned =
    rw (moved, grown, turned) (record {
      room = is.room;
      instance = promised_instance id view place waiting i.arrivals b.entries i p start votes at later started voted is.instance;
      member = is.member;
      viewed = is.viewed;
      regency = refl;
      synced = synced_passed view.number p.regency b.entries (Promised p) begun refl (has ∙ begun_by view.number p.regency b.entries start started);
      made = made_passed b.entries (Promised p) _ refl is.made;
    })

installed_made : (last at place next : ℕ) → last ≤ place → place < next → at ≡ next → max last at ≤ next
installed_made last at place next most past same = omega (arith, most, past, same)

-- a replica of a later place is taken over, with what the book says of its view
pub installed_after : (id : ℕ) (view later : View) (place next : ℕ) (waiting : Option Batch) (b c : Book) (i now : Instance) (s then : Synchronizer) (x : Installation) (regency : ℕ) (start first : Option Beginnings) (begun : Bool) (votes : OwnVotes)
    → Follows id view place waiting b.entries i s → is_none waiting ≡ true → place < next → x.place ≡ next
    → regency ≡ greatest_regency later.number b.entries → start ≡ option_map stated_start (start_at later regency b.entries) → first ≡ option_map stated_start (first_start later.number regency b.entries)
    → begun ≡ is_some first → votes ≡ own_votes (slot_behind later.number next regency) b.entries
    → c ≡ pushed b (Installed x) → now ≡ taken_to later next regency start votes i → then ≡ synchronizers.taken_to later regency begun s → Follows id later next None c.entries now then
installed_after id view later place next waiting b c i now s then x regency start first begun votes is free past at greatest starts begins has voted grown moved turned =
    rw (moved, grown, turned) (record {
      room = λ some. absurd (cc);
      instance = installed_instance id view later place next waiting i.arrivals b.entries i x regency start votes greatest starts voted is.instance;
      member = is.member;
      viewed = refl;
      regency = refl;
      synced = synced_passed later.number regency b.entries (Installed x) begun refl (has ∙ begun_by later.number regency b.entries first begins);
      made = subst (λ (n : ℕ). n ≤ next) (sym (last_push b.entries (Installed x)))
          (installed_made (last_made b.entries) x.place place next (none_made id view place waiting b.entries i s is free) past at);
    })

waits_none : {A : Type 0} (o : Option A) → is_none o ≡ true → None ≡ o
waits_none None none = refl
waits_none (Some x) none = absurd (cc)

-- the same, as a book is asked
pub installed_where : (id : ℕ) (view later own other : View) (place next number got : ℕ) (waiting : Option Batch) (b c : Book) (entries : List LogEntry) (i now : Instance) (s then : Synchronizer) (x : Installation)
    (regency : ℕ) (start first : Option Beginnings) (begun : Bool) (votes : OwnVotes)
    → Follows id view place waiting b.entries i s → is_none waiting ≡ true → place < next → x.place ≡ next
    → own ≡ later → other ≡ later → number ≡ later.number → entries ≡ b.entries → regency ≡ greatest_regency number entries → start ≡ option_map stated_start (start_at later regency b.entries)
    → first ≡ option_map stated_start (first_start number regency b.entries) → begun ≡ is_some first → got ≡ next → votes ≡ own_votes (record { view = number; place = got + 1; regency = regency }) b.entries
    → c ≡ pushed b (Installed x) → now ≡ taken_to own next regency start votes i → then ≡ synchronizers.taken_to other regency begun s → Follows id later next waiting c.entries now then
installed_where id view later own other place next number got waiting b c entries i now s then x regency start first begun votes is free past at owned lent numbered all greatest starts begins has behind voted grown moved turned =
    subst (λ (w : Option Batch). Follows id later next w c.entries now then) (waits_none waiting free)
    (installed_after id view later place next waiting b c i now s then x regency start first begun votes is free past at
    (greatest ∙ (ap (λ n. greatest_regency n entries) numbered ∙ ap (λ (es : List LogEntry). greatest_regency later.number es) all))
    starts
    (begins ∙ ap (λ n. option_map stated_start (first_start n regency b.entries)) numbered)
    has
    (voted ∙ (ap (λ n. own_votes (record { view = n; place = got + 1; regency = regency }) b.entries) numbered ∙ ap (λ p. own_votes (slot_behind later.number p regency) b.entries) behind))
    grown
    (moved ∙ ap (λ (v : View). taken_to v next regency start votes i) owned)
    (turned ∙ ap (λ (v : View). synchronizers.taken_to v regency begun s) lent))

or_some : (o : Option Beginning) (s : Beginning) → true ≡ is_some (or_else o (Some s))
or_some None s = refl
or_some (Some a) s = refl

pub begun_after : (id : ℕ) (view : View) (place : ℕ) (waiting : Option Batch) (b c : Book) (i now : Instance) (s then : Synchronizer) (start : Beginning) → Follows id view place waiting b.entries i s
    → start.view ≡ view.number → start.regency ≡ i.regency → c ≡ pushed b (Synced start) → now ≡ syncing (stated_start start) i → then ≡ adopted start.regency s
    → Follows id view place waiting c.entries now then
begun_after id view place waiting b c i now s then start is at same grown moved turned =
    let here : start_by view.number i.regency (Synced start) ≡ Some start = rw (eq-eqb start.view view.number at, eq-eqb start.regency i.regency same) refl in
    rw (moved, grown, turned) (record {
      room = is.room;
      instance = synced_instance id view place waiting i.arrivals b.entries i start at same is.instance;
      member = is.member;
      viewed = is.viewed;
      regency = same;
      synced = or_some (first_start view.number i.regency b.entries) start
          ∙ ap (λ (o : Option Beginning). is_some o)
          (ap (λ (o : Option Beginning). or_else (first_start view.number i.regency b.entries) o) (sym here) ∙ sym (start_push view.number i.regency b.entries (Synced start)));
      made = made_passed b.entries (Synced start) _ refl is.made;
    })

-- what the book says of a slot, by the node's word

pub start_where : {S : Type 0} (n inside : Node S) (start : Option Beginnings) (regency : ℕ) → inside ≡ n → start ≡ option_map stated_start (first_start (view_of n).number regency n.entries)
    → start ≡ option_map stated_start (first_start (view_of inside).number regency inside.entries)
start_where {S = S} n inside start regency same is = subst (λ (m : Node S). start ≡ option_map stated_start (first_start (view_of m).number regency m.entries)) (sym same) is

pub votes_where : {S : Type 0} (n inside : Node S) (votes : OwnVotes) (place regency : ℕ) → inside ≡ n → place ≡ n.replica.place → votes ≡ own_votes (slot_behind (view_of n).number place regency) n.entries
    → votes ≡ own_votes (slot_behind (view_of inside).number inside.replica.place regency) inside.entries
votes_where {S = S} n inside votes place regency same at is =
    subst (λ (m : Node S). votes ≡ own_votes (slot_behind (view_of m).number m.replica.place regency) m.entries) (sym same)
    (subst (λ (p : ℕ). votes ≡ own_votes (slot_behind (view_of n).number p regency) n.entries) at is)

-- ---- what the node says

same_fields : (s : Synchronizer) (id : ℕ) (view : View) (regency : ℕ) (synced stop_made sync_made : Bool) (stops : List (SignedBy Stop)) (reports : List Reported) (syncs : List (SignedBy Sync))
    → s.id ≡ id → s.view ≡ view → s.regency ≡ regency → s.synced ≡ synced → s.stop_made ≡ stop_made → s.sync_made ≡ sync_made → s.stops ≡ stops → s.reports ≡ reports → s.syncs ≡ syncs
    → s ≡ record { id = id; view = view; regency = regency; synced = synced; stop_made = stop_made; sync_made = sync_made; stops = stops; reports = reports; syncs = syncs }
same_fields s id view regency synced stop_made sync_made stops reports syncs e0 at e1 e2 e3 e4 e5 e6 e7 = rw (← e0, ← at, ← e1, ← e2, ← e3, ← e4, ← e5, ← e6, ← e7) refl

pub synchronizer_after : {S : Type 0} (n inside : Node S) (i : Instance) (s : Synchronizer) → inside ≡ n
    → Follows inside.id (view_of inside) inside.replica.place inside.waiting inside.entries i s
    → s.stop_made ≡ inside.stop_made → s.sync_made ≡ inside.sync_made → s.stops ≡ inside.stops → s.reports ≡ inside.reports → s.syncs ≡ inside.syncs → s ≡ synchronizer_of n
unfolding regency_of
synchronizer_after {S = S} n inside i s same is stop sync stops reports syncs =
    same_fields s inside.id (view_of inside) (regency_of inside) (is_some (first_start (view_of inside).number (regency_of inside) inside.entries)) inside.stop_made inside.sync_made inside.stops inside.reports inside.syncs
    is.member is.viewed (is.regency ∙ is.instance.regency_same) (is.synced ∙ ap (λ (r : ℕ). is_some (first_start (view_of inside).number r inside.entries)) is.instance.regency_same) stop sync stops reports syncs
    ∙ ap (λ (m : Node S). synchronizer_of m) same

pub regency_after : {S : Type 0} (n inside : Node S) (i : Instance) → inside ≡ n → HasInstance inside i → i.regency ≡ regency_of n
regency_after {S = S} n inside i same has = same_regency inside i has ∙ ap (λ (m : Node S). regency_of m) same

pub place_after : {S : Type 0} (n inside : Node S) (i : Instance) → inside ≡ n → HasInstance inside i → decided_place i ≡ nodes.decided_place n
place_after {S = S} n inside i same has = same_decided_place inside i has ∙ ap (λ (m : Node S). nodes.decided_place m) same

pub free_after : {S : Type 0} (n inside : Node S) (i : Instance) → inside ≡ n → HasInstance inside i → is_free i ≡ nodes.is_free n
free_after {S = S} n inside i same has = same_free inside i has ∙ ap (λ (m : Node S). nodes.is_free m) same

pub synced_after : {S : Type 0} (n inside : Node S) (i : Instance) → inside ≡ n → HasInstance inside i → is_some i.start ≡ is_synced n
synced_after {S = S} n inside i same has = same_synced inside i has ∙ ap (λ (m : Node S). is_synced m) same

-- the instance's view is the node's

pub view_after : {S : Type 0} (n inside : Node S) (i : Instance) → inside ≡ n → HasInstance inside i → i.view ≡ view_of n
view_after {S = S} n inside i same has = has.view_same ∙ ap (λ (m : Node S). view_of m) same

pub open_after : {S : Type 0} (n inside : Node S) (i : Instance) → inside ≡ n → HasInstance inside i → is_open i.view i ≡ nodes.is_open n
open_after {S = S} n inside i same has =
    ap (λ v. is_open v i) has.view_same ∙ (same_open inside i has ∙ ap (λ (m : Node S). nodes.is_open m) same)

pub slot_after : {S : Type 0} (n inside : Node S) (i : Instance) → inside ≡ n → HasInstance inside i → open_slot i.view i ≡ nodes.open_slot n
slot_after {S = S} n inside i same has =
    ap (λ v. open_slot v i) has.view_same ∙ (same_slot_open inside i has ∙ ap (λ (m : Node S). nodes.open_slot m) same)

pub due_after : {S : Type 0} (rule : Rule) (n inside : Node S) (i : Instance) → inside ≡ n → HasInstance inside i → due_by rule i.view i ≡ due_at rule n
due_after {S = S} rule n inside i same has =
    ap (λ v. due_by rule v i) has.view_same ∙ (due_same rule inside i has ∙ ap (λ (m : Node S). due_at rule m) same)

pub bound_after : {S : Type 0} (n inside : Node S) (i : Instance) (place : ℕ) → inside ≡ n → HasInstance inside i → is_bound_to place i ≡ nodes.bound_at place (nodes.start_of n)
bound_after {S = S} n inside i place same has = same_bound inside i has place ∙ ap (λ (m : Node S). nodes.bound_at place (nodes.start_of m)) same

pub unbound_after : {S : Type 0} (n inside : Node S) (i : Instance) (p : Proposed) → inside ≡ n → HasInstance inside i → is_unbound p i ≡ arrivals.is_unbound n p
unbound_after {S = S} n inside i p same has = same_unbound inside i has p ∙ ap (λ (m : Node S). arrivals.is_unbound m p) same

-- the slot that is open is the one behind the last delivered place
pub slot_is : {S : Type 0} (n inside : Node S) (i : Instance) (slot : Slot) → inside ≡ n → HasInstance inside i → slot ≡ nodes.open_slot n
    → slot ≡ slot_behind (view_of inside).number inside.replica.place i.regency
slot_is {S = S} n inside i slot same has at =
    at ∙ (ap (λ (m : Node S). nodes.open_slot m) (sym same) ∙ ap (λ (r : ℕ). slot_behind (view_of inside).number inside.replica.place r) (sym (same_regency inside i has)))

-- what of the kept messages a node needs

trimmed_inside : {S : Type 0} (n : Node S) (i now : Instance) (s then : Synchronizer) (number place regency : ℕ) (decisions : List ProvenBatch) (proposed : List Slot) → HasInstance n i → s.view ≡ view_of n → s.regency ≡ regency_of n
    → s.stops ≡ n.stops → s.reports ≡ n.reports → s.syncs ≡ n.syncs → s.stop_made ≡ n.stop_made → s.sync_made ≡ n.sync_made
    → number ≡ (view_of n).number → place ≡ nodes.decided_place n → regency ≡ regency_of n → decisions ≡ filter (λ (d : ProvenBatch). nat_lt place d.place) n.decisions
    → proposed ≡ filter (is_ahead number place regency) n.proposed → now ≡ instances.trimmed i.view.number i → then ≡ synchronizers.trimmed s.view s
    → record n { arrivals = now.arrivals; decisions = decisions; stops = then.stops; reports = then.reports; syncs = then.syncs; proposed = proposed; stop_made = then.stop_made; sync_made = then.sync_made } ≡ trimmed n
unfolding trimmed instances.trimmed synchronizers.trimmed
trimmed_inside n i now s then number place regency decisions proposed has viewed e0 e1 e2 e3 e4 e5 at where_ in_ later slots moved turned =
    rw (moved, turned, later, slots, at, has.view_same, viewed, where_, in_, e0, e1, e2, e3, e4, e5, has.arrivals_same, same_decided_place n i has, same_regency n i has) refl

pub trimmed_where : {S : Type 0} (n inside : Node S) (i now : Instance) (s then : Synchronizer) (number place regency : ℕ) (decisions : List ProvenBatch) (proposed : List Slot) → inside ≡ n
    → Follows inside.id (view_of inside) inside.replica.place inside.waiting inside.entries i s → i.arrivals ≡ inside.arrivals
    → s.stops ≡ inside.stops → s.reports ≡ inside.reports → s.syncs ≡ inside.syncs → s.stop_made ≡ inside.stop_made → s.sync_made ≡ inside.sync_made
    → number ≡ (view_of n).number → place ≡ nodes.decided_place n → regency ≡ regency_of n → decisions ≡ filter (λ (d : ProvenBatch). nat_lt place d.place) inside.decisions
    → proposed ≡ filter (is_ahead number place regency) inside.proposed → now ≡ instances.trimmed i.view.number i → then ≡ synchronizers.trimmed s.view s
    → record inside { arrivals = now.arrivals; decisions = decisions; stops = then.stops; reports = then.reports; syncs = then.syncs; proposed = proposed; stop_made = then.stop_made; sync_made = then.sync_made } ≡ trimmed n
trimmed_where {S = S} n inside i now s then number place regency decisions proposed same is arrived e1 e2 e3 e4 e5 at where_ in_ later slots moved turned =
    let has : HasInstance inside i = subst (λ ms. IsInstance inside.id (view_of inside) inside.replica.place inside.waiting ms inside.entries i) arrived is.instance in
    trimmed_inside inside i now s then number place regency decisions proposed has is.viewed (is.regency ∙ same_regency inside i has) e1 e2 e3 e4 e5
    (at ∙ ap (λ (m : Node S). (view_of m).number) (sym same)) (where_ ∙ ap (λ (m : Node S). nodes.decided_place m) (sym same)) (in_ ∙ ap (λ (m : Node S). regency_of m) (sym same)) later slots moved turned
    ∙ ap (λ (m : Node S). trimmed m) same

-- the batches that were proposed for a slot's place, and that a quorum accepted there
pub named_after : {S : Type 0} (n inside : Node S) (i : Instance) (slot : Slot) → inside ≡ n → HasInstance inside i
    → accepted_named i.view slot i ≡ accepted_in (view_of n) slot n.arrivals (filter_map (named_in slot.view slot.place (regency_of n)) n.arrivals)
named_after {S = S} n inside i slot same has =
    rw (← same, has.view_same, has.arrivals_same, same_regency inside i has) refl

-- a certificate of kept votes
pub certificate_after : {S : Type 0} (n inside : Node S) (i : Instance) (kind : VoteKind) (slot : Slot) (digest : List ℕ) → inside ≡ n → HasInstance inside i
    → certificate_votes i.arrivals i.view kind slot digest ≡ certificate_votes n.arrivals (view_of n) kind slot digest
certificate_after {S = S} n inside i kind slot digest same has = rw (← same, has.view_same, has.arrivals_same) refl

-- what is behind a promise, and behind a beginning

pub promised_regency : {S : Type 0} (n : Node S) (i j : Instance) (regency : ℕ) (start : Option Beginnings) (votes : OwnVotes) → HasInstance n i → i ≡ promising regency start votes j → regency_of n ≡ regency
promised_regency n i j regency start votes has is = sym (same_regency n i has) ∙ ap (λ (x : Instance). x.regency) is

and_same : (a b : Bool) → b ≡ true → (a && b) ≡ a
and_same true b is = is
and_same false b is = refl

-- in the regency in force, what the member has done stays done
pub adopted_here : (s then : Synchronizer) (regency : ℕ) → then ≡ adopted regency s → regency ≡ s.regency → (then.stop_made ≡ s.stop_made) × (then.sync_made ≡ s.sync_made)
adopted_here s then regency turned same =
    let here = eq-eqb regency s.regency same in (
      ap (λ (x : Synchronizer). x.stop_made) turned ∙ and_same s.stop_made (regency == s.regency) here,
      ap (λ (x : Synchronizer). x.sync_made) turned ∙ and_same s.sync_made (regency == s.regency) here,
    )

-- the node that takes part in its regency
pub begun_where : {S : Type 0} (n inside : Node S) (i now : Instance) (s then : Synchronizer) (b c : Book) (start : Beginning) → inside ≡ n → start.regency ≡ s.regency
    → i.arrivals ≡ inside.arrivals → s.stop_made ≡ inside.stop_made → s.sync_made ≡ inside.sync_made → s.stops ≡ inside.stops → s.reports ≡ inside.reports → s.syncs ≡ inside.syncs → b.entries ≡ inside.entries → b.opening ≡ inside.opening
    → c ≡ pushed b (Synced start) → now ≡ syncing (stated_start start) i → then ≡ adopted start.regency s
    → record inside { arrivals = now.arrivals; opening = c.opening; entries = c.entries; stops = then.stops; reports = then.reports; syncs = then.syncs; stop_made = then.stop_made; sync_made = then.sync_made; impatient = false } ≡ begun_at n start
begun_where {S = S} n inside i now s then b c start same here e0 e1 e2 e3 e4 e5 e6 e7 grown moved turned =
    let done = adopted_here s then start.regency turned here in
    rw (done.0, done.1, grown, moved, turned, e0, e1, e2, e3, e4, e5, e6, e7) (ap (λ (m : Node S). begun_at m start) same)

-- what is voted behind the place that is delivered
pub votes_next : {S : Type 0} (n inside : Node S) (i : Instance) (votes : OwnVotes) (place next regency : ℕ) → inside ≡ n → HasInstance inside i → place ≡ n.replica.place → next ≡ place + 2 → regency ≡ regency_of n
    → votes ≡ own_votes (record { view = (view_of n).number; place = next; regency = regency }) n.entries
    → votes ≡ own_votes (slot_behind (view_of inside).number (inside.replica.place + 1) i.regency) inside.entries
votes_next {S = S} n inside i votes place next regency same has at behind in_ is =
    let two : next ≡ (n.replica.place + 1) + 1 = omega (arith, at, behind) in
    let r : regency ≡ i.regency = in_ ∙ sym (regency_after n inside i same has) in
    subst (λ (m : Node S). votes ≡ own_votes (slot_behind (view_of m).number (m.replica.place + 1) i.regency) m.entries) (sym same)
    (subst (λ (r : ℕ). votes ≡ own_votes (slot_behind (view_of n).number (n.replica.place + 1) r) n.entries) r
    (subst (λ (p : ℕ). votes ≡ own_votes (record { view = (view_of n).number; place = p; regency = regency }) n.entries) two is))

pub votes_same : {S : Type 0} (n inside : Node S) (view : View) (number place regency : ℕ) (votes : OwnVotes) → inside ≡ n → view ≡ view_of n → number ≡ view.number
    → votes ≡ own_votes (record { view = number; place = place; regency = regency }) inside.entries
    → votes ≡ own_votes (record { view = (view_of n).number; place = place; regency = regency }) n.entries
votes_same {S = S} n inside view number place regency votes same at is voted =
    voted
    ∙ (ap (λ (v : ℕ). own_votes (record { view = v; place = place; regency = regency }) inside.entries) (is ∙ ap (λ (v : View). v.number) at)
    ∙ ap (λ (m : Node S). own_votes (record { view = (view_of n).number; place = place; regency = regency }) m.entries) same)

pub begins_same : {S : Type 0} (n inside : Node S) (view : View) (number regency : ℕ) (start : Option Beginnings) → inside ≡ n → view ≡ view_of n → number ≡ view.number
    → start ≡ option_map stated_start (first_start number regency inside.entries) → start ≡ option_map stated_start (first_start (view_of n).number regency n.entries)
begins_same {S = S} n inside view number regency start same at is begun =
    begun
    ∙ (ap (λ (v : ℕ). option_map stated_start (first_start v regency inside.entries)) (is ∙ ap (λ (v : View). v.number) at)
    ∙ ap (λ (m : Node S). option_map stated_start (first_start (view_of n).number regency m.entries)) same)
