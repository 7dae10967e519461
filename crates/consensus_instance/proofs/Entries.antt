-- How the instance of a node follows its book, and what is due in it.
use Rattle.std.proofs.Common.{◌≡◌, ℕ, ◌+◌, ◌<◌, ◌==◌, ◌++◌, ◌&&◌, ◌||◌, not, max, Bool, true, false, List, [], ◌∷◌, refl, ap, sym, ◌∙◌, cond, arith, Option, Some, None, is_some, is_none, option_map}
use Rattle.std.proofs.lemmas.Bool.{eq-eqb, ne_eqb}
use Rattle.std.proofs.lemmas.List.Folds.{list_any-append}
use Rattle.std.specs.List.{list_any}
use Rattle.smart_base.specs.Views.{View}
use Rattle.smart_statements.specs.Batches.{Batch}
use Rattle.smart_statements.specs.Equality.{same_slot}
use Rattle.smart_statements.specs.declared.statement.Slot.{Slot}
use Rattle.smart_messages.specs.declared.message.Message.{Message}
use Rattle.smart_messages.specs.declared.message.Proposed.{Proposed}
use Rattle.smart_base.specs.Lists.{or_else}
use Rattle.vote_book.specs.Admission.{writes_in, accepts_in}
use Rattle.vote_book.specs.Standing.{first_start, own_votes, start_by}
use Rattle.vote_book.specs.declared.votes.OwnVotes.{OwnVotes}
use Rattle.vote_book.proofs.Standing.{start_push}
use Rattle.vote_book.specs.declared.entry.Opening.{Opening}
use Rattle.vote_book.specs.declared.entry.Write.{Write as Writing}
use Rattle.vote_book.specs.declared.entry.Accept.{Accept as Accepting}
use Rattle.vote_book.specs.declared.entry.Promise.{Promise}
use Rattle.vote_book.specs.declared.entry.Start.{Start as Beginning}
use Rattle.vote_book.specs.declared.entry.Decision.{Decision}
use Rattle.vote_book.specs.declared.entry.Installation.{Installation}
use Rattle.smart_statements.specs.declared.report.Mark.{Mark}
use Rattle.vote_book.specs.declared.entry.LogEntry.{LogEntry}
use Rattle.vote_book.specs.declared.entry.LogEntry.TheVariants.{Opened, Wrote, Accepted, Promised, Synced, Decided, Installed, Marked}
use Rattle.node_rules.specs.Nodes as nodes
use Rattle.node_rules.specs.Nodes.{Node, view_of, regency_of, start_of, next_place, is_synced, is_within, regency_in, greatest_regency, start_at}
use Rattle.node_rules.specs.Arrivals as arrivals
use Rattle.node_rules.specs.Votes.{proposed_for}
use Rattle.node_rules.specs.Rules as rules
use Rattle.node_rules.specs.Rules.{writing, accepting}
use Rattle.consensus_instance.specs.declared.rule.Rule.{Rule}
use Rattle.consensus_instance.specs.declared.rule.Rule.TheVariants.{Write, Accept}
use Rattle.consensus_instance.specs.declared.start.Start.{Start}
use Rattle.consensus_instance.specs.Instances.{Instance, first_of, decided_place, is_free, has_begun, bound_at, is_bound_to, is_unbound, is_open, open_slot, votable, written, due_by, moved_on, taken_to, promising, syncing, resuming}
use Rattle.consensus_instance.specs.Nodes.{slot_behind, stated_start, IsInstance, HasInstance, due_at}

-- BOOLEANS

or_true : (a : Bool) → (a || true) ≡ true
or_true true = refl
or_true false = refl

or_false : (a : Bool) → (a || false) ≡ a
or_false true = refl
or_false false = refl

and_false : (a : Bool) → (a && false) ≡ false
and_false true = refl
and_false false = refl

and_same : (a : Bool) → (a && true) ≡ a
and_same true = refl
and_same false = refl

any_end : {A : Type 0} (p : A → Bool) (xs : List A) (x : A) (test : Bool) → p x ≡ test → list_any p (xs ++ x ∷ []) ≡ (list_any p xs || test)
any_end p xs x test is = list_any-append p xs (x ∷ []) ∙ ap (λ t. list_any p xs || t) (or_false (p x) ∙ is)

-- an entry that does not pass a test at the end of others
any_passed : {A : Type 0} (p : A → Bool) (xs : List A) (x : A) → p x ≡ false → list_any p (xs ++ x ∷ []) ≡ list_any p xs
any_passed p xs x is = any_end p xs x false is ∙ or_false (list_any p xs)

any_made : {A : Type 0} (p : A → Bool) (xs : List A) (x : A) → p x ≡ true → list_any p (xs ++ x ∷ []) ≡ true
any_made p xs x is = any_end p xs x true is ∙ or_true (list_any p xs)

same_self : (s : Slot) → same_slot s s ≡ true
same_self s = rw (eq-eqb s.view s.view refl, eq-eqb s.place s.place refl, eq-eqb s.regency s.regency refl) refl

-- THE REGENCY AND ITS START, BY ONE MORE ENTRY

max_zero : (n : ℕ) → max n 0 ≡ n
max_zero n = omega arith

greatest_more : (view : ℕ) (entries : List LogEntry) (e : LogEntry) → greatest_regency view (entries ++ e ∷ []) ≡ max (greatest_regency view entries) (regency_in view e)
greatest_more view [] e = omega arith
greatest_more view (x ∷ xs) e = ap (λ n. max (regency_in view x) n) (greatest_more view xs e) ∙ omega arith

-- an entry that promises nothing
greatest_passed : (view : ℕ) (entries : List LogEntry) (e : LogEntry) → regency_in view e ≡ 0 → greatest_regency view (entries ++ e ∷ []) ≡ greatest_regency view entries
greatest_passed view entries e none = greatest_more view entries e ∙ (ap (λ n. max (greatest_regency view entries) n) none ∙ max_zero (greatest_regency view entries))

-- the first beginning of a regency, by the book's word and by the node's

pub start_passed : (view regency : ℕ) (entries : List LogEntry) (e : LogEntry) → start_by view regency e ≡ None → first_start view regency (entries ++ e ∷ []) ≡ first_start view regency entries
start_passed view regency [] e none = ap (λ (x : Option Beginning). or_else x None) none
start_passed view regency (x ∷ xs) e none = ap (λ (rest : Option Beginning). or_else (start_by view regency x) rest) (start_passed view regency xs e none)

at_passed : (view : View) (regency : ℕ) (entries : List LogEntry) (e : LogEntry) → start_by view.number regency e ≡ None
    → start_at view regency (entries ++ e ∷ []) ≡ start_at view regency entries
at_passed view regency entries e none = ap (λ (o : Option Beginning). cond (regency == 0) (Some (nodes.view_start view)) o) (start_passed view.number regency entries e none)

-- TRANSITIONS

pub wrote_instance : (id : ℕ) (view : View) (place : ℕ) (waiting : Option Batch) (arrivals : List Message) (entries : List LogEntry) (i : Instance) (w : Writing) → w.slot ≡ slot_behind view.number place i.regency
    → IsInstance id view place waiting arrivals entries i → IsInstance id view place waiting arrivals (entries ++ Wrote w ∷ []) (record i { wrote = true })
wrote_instance id view place waiting arrivals entries i w at is =
    let slot = slot_behind view.number place i.regency in
    let e = Wrote w in
    let here : writes_in slot e ≡ true = ap (λ (s : Slot). same_slot s slot) at ∙ same_self slot in
    record {
      id_same = is.id_same;
      view_same = is.view_same;
      place_same = is.place_same;
      decided_same = is.decided_same;
      regency_same = is.regency_same ∙ sym (greatest_passed view.number entries e refl);
      start_same = is.start_same ∙ sym (ap (λ (o : Option Beginning). option_map stated_start o) (at_passed view i.regency entries e refl));
      arrivals_same = is.arrivals_same;
      wrote_same = sym (any_made (writes_in slot) entries e here);
      accepted_same = is.accepted_same ∙ sym (any_passed (accepts_in slot) entries e refl);
    }

pub accepted_instance : (id : ℕ) (view : View) (place : ℕ) (waiting : Option Batch) (arrivals : List Message) (entries : List LogEntry) (i : Instance) (a : Accepting) → a.slot ≡ slot_behind view.number place i.regency
    → IsInstance id view place waiting arrivals entries i → IsInstance id view place waiting arrivals (entries ++ Accepted a ∷ []) (record i { accepted = true })
accepted_instance id view place waiting arrivals entries i a at is =
    let slot = slot_behind view.number place i.regency in
    let e = Accepted a in
    let here : accepts_in slot e ≡ true = ap (λ (s : Slot). same_slot s slot) at ∙ same_self slot in
    record {
      id_same = is.id_same;
      view_same = is.view_same;
      place_same = is.place_same;
      decided_same = is.decided_same;
      regency_same = is.regency_same ∙ sym (greatest_passed view.number entries e refl);
      start_same = is.start_same ∙ sym (ap (λ (o : Option Beginning). option_map stated_start o) (at_passed view i.regency entries e refl));
      arrivals_same = is.arrivals_same;
      wrote_same = is.wrote_same ∙ sym (any_passed (writes_in slot) entries e refl);
      accepted_same = sym (any_made (accepts_in slot) entries e here);
    }

-- of whatever slot the decision is
pub decided_instance : (id : ℕ) (view : View) (place : ℕ) (waiting : Option Batch) (arrivals : List Message) (entries : List LogEntry) (i : Instance) (d : Decision) (batch : Batch)
    → IsInstance id view place waiting arrivals entries i → IsInstance id view place (Some batch) arrivals (entries ++ Decided d ∷ []) (record i { decided = true })
decided_instance id view place waiting arrivals entries i d batch is =
    let slot = slot_behind view.number place i.regency in
    let e = Decided d in
    record {
      id_same = is.id_same;
      view_same = is.view_same;
      place_same = is.place_same;
      decided_same = refl;
      regency_same = is.regency_same ∙ sym (greatest_passed view.number entries e refl);
      start_same = is.start_same ∙ sym (ap (λ (o : Option Beginning). option_map stated_start o) (at_passed view i.regency entries e refl));
      arrivals_same = is.arrivals_same;
      wrote_same = is.wrote_same ∙ sym (any_passed (writes_in slot) entries e refl);
      accepted_same = is.accepted_same ∙ sym (any_passed (accepts_in slot) entries e refl);
    }

-- a mark changes nothing
pub marked_instance : (id : ℕ) (view : View) (place : ℕ) (waiting : Option Batch) (arrivals : List Message) (entries : List LogEntry) (i : Instance) (m : Mark)
    → IsInstance id view place waiting arrivals entries i → IsInstance id view place waiting arrivals (entries ++ Marked m ∷ []) i
marked_instance id view place waiting arrivals entries i m is =
    let slot = slot_behind view.number place i.regency in
    let e = Marked m in
    record {
      id_same = is.id_same;
      view_same = is.view_same;
      place_same = is.place_same;
      decided_same = is.decided_same;
      regency_same = is.regency_same ∙ sym (greatest_passed view.number entries e refl);
      start_same = is.start_same ∙ sym (ap (λ (o : Option Beginning). option_map stated_start o) (at_passed view i.regency entries e refl));
      arrivals_same = is.arrivals_same;
      wrote_same = is.wrote_same ∙ sym (any_passed (writes_in slot) entries e refl);
      accepted_same = is.accepted_same ∙ sym (any_passed (accepts_in slot) entries e refl);
    }

pub delivered_instance : (id : ℕ) (view : View) (place : ℕ) (waiting : Option Batch) (arrivals : List Message) (entries : List LogEntry) (i : Instance) (votes : OwnVotes)
    → votes ≡ own_votes (slot_behind view.number (place + 1) i.regency) entries
    → IsInstance id view place waiting arrivals entries i → IsInstance id view (place + 1) None arrivals entries (moved_on votes i)
delivered_instance id view place waiting arrivals entries i votes voted is = record {
  id_same = is.id_same;
  view_same = is.view_same;
  place_same = ap (λ p. p + 1) is.place_same;
  decided_same = refl;
  regency_same = is.regency_same;
  start_same = is.start_same;
  arrivals_same = is.arrivals_same;
  wrote_same = ap (λ (v : OwnVotes). v.wrote) voted;
  accepted_same = ap (λ (v : OwnVotes). v.accepted) voted;
}

-- a replica of a later place is taken over, with what the book says of its view
pub installed_instance : (id : ℕ) (view now : View) (place next : ℕ) (waiting : Option Batch) (arrivals : List Message) (entries : List LogEntry) (i : Instance) (x : Installation) (regency : ℕ) (start : Option Start) (votes : OwnVotes)
    → regency ≡ greatest_regency now.number entries → start ≡ option_map stated_start (start_at now regency entries) → votes ≡ own_votes (slot_behind now.number next regency) entries
    → IsInstance id view place waiting arrivals entries i → IsInstance id now next None arrivals (entries ++ Installed x ∷ []) (taken_to now next regency start votes i)
installed_instance id view now place next waiting arrivals entries i x regency start votes at begun voted is =
    let slot = slot_behind now.number next regency in
    let e = Installed x in
    record {
      id_same = is.id_same;
      view_same = refl;
      place_same = refl;
      decided_same = refl;
      regency_same = at ∙ sym (greatest_passed now.number entries e refl);
      start_same = begun ∙ sym (ap (λ (o : Option Beginning). option_map stated_start o) (at_passed now regency entries e refl));
      arrivals_same = is.arrivals_same;
      wrote_same = ap (λ (v : OwnVotes). v.wrote) voted ∙ sym (any_passed (writes_in slot) entries e refl);
      accepted_same = ap (λ (v : OwnVotes). v.accepted) voted ∙ sym (any_passed (accepts_in slot) entries e refl);
    }

-- a promise of the next regency or of any later one
pub promised_instance : (id : ℕ) (view : View) (place : ℕ) (waiting : Option Batch) (arrivals : List Message) (entries : List LogEntry) (i : Instance) (p : Promise) (start : Option Start) (votes : OwnVotes)
    → p.view ≡ view.number → i.regency < p.regency → start ≡ option_map stated_start (first_start view.number p.regency entries) → votes ≡ own_votes (slot_behind view.number place p.regency) entries
    → IsInstance id view place waiting arrivals entries i → IsInstance id view place waiting arrivals (entries ++ Promised p ∷ []) (promising p.regency start votes i)
promised_instance id view place waiting arrivals entries i p start votes at later begun voted is =
    let next = slot_behind view.number place p.regency in
    let e = Promised p in
    let here : regency_in view.number e ≡ p.regency = ap (λ t. cond t p.regency 0) (eq-eqb p.view view.number at) in
    let some : (p.regency == 0) ≡ false = ne_eqb p.regency 0 (λ (none : p.regency ≡ 0). omega (arith, later)) in
    record {
      id_same = is.id_same;
      view_same = is.view_same;
      place_same = is.place_same;
      decided_same = is.decided_same;
      regency_same = sym (greatest_more view.number entries e ∙ (ap (λ n. max (greatest_regency view.number entries) n) here ∙ omega (arith, later, is.regency_same)));
      start_same = begun ∙ ap (λ (o : Option Beginning). option_map stated_start o)
          (sym (ap (λ t. cond t (Some (nodes.view_start view)) (first_start view.number p.regency (entries ++ e ∷ []))) some ∙ start_passed view.number p.regency entries e refl));
      arrivals_same = is.arrivals_same;
      wrote_same = ap (λ (v : OwnVotes). v.wrote) voted ∙ sym (any_passed (writes_in next) entries e refl);
      accepted_same = ap (λ (v : OwnVotes). v.accepted) voted ∙ sym (any_passed (accepts_in next) entries e refl);
    }

mapped_else : (o : Option Beginning) (s : Beginning) → or_else (option_map stated_start o) (Some (stated_start s)) ≡ option_map stated_start (or_else o (Some s))
mapped_else None s = refl
mapped_else (Some a) s = refl

-- where a regency begins, with one more beginning of it
at_begun : (view : View) (regency : ℕ) (entries : List LogEntry) (s : Beginning) → s.view ≡ view.number → s.regency ≡ regency → start_at view regency (entries ++ Synced s ∷ []) ≡ or_else (start_at view regency entries) (Some s)
at_begun view regency entries s at same = by (regency == 0)
  where
    here : start_by view.number regency (Synced s) ≡ Some s
    here = rw (eq-eqb s.view view.number at, eq-eqb s.regency regency same) refl

    by : (t : Bool) → cond t (Some (nodes.view_start view)) (first_start view.number regency (entries ++ Synced s ∷ [])) ≡ or_else (cond t (Some (nodes.view_start view)) (first_start view.number regency entries)) (Some s)
    by true = refl
    by false = start_push view.number regency entries (Synced s) ∙ ap (λ (o : Option Beginning). or_else (first_start view.number regency entries) o) here

-- the regency in force begins, or begins again
pub synced_instance : (id : ℕ) (view : View) (place : ℕ) (waiting : Option Batch) (arrivals : List Message) (entries : List LogEntry) (i : Instance) (s : Beginning) → s.view ≡ view.number → s.regency ≡ i.regency
    → IsInstance id view place waiting arrivals entries i → IsInstance id view place waiting arrivals (entries ++ Synced s ∷ []) (syncing (stated_start s) i)
synced_instance id view place waiting arrivals entries i s at same is =
    let slot = slot_behind view.number place i.regency in
    let e = Synced s in
    record {
      id_same = is.id_same;
      view_same = is.view_same;
      place_same = is.place_same;
      decided_same = is.decided_same;
      regency_same = is.regency_same ∙ sym (greatest_passed view.number entries e refl);
      start_same = ap (λ (o : Option Start). or_else o (Some (stated_start s))) is.start_same
          ∙ (mapped_else (start_at view i.regency entries) s ∙ sym (ap (λ (o : Option Beginning). option_map stated_start o) (at_begun view i.regency entries s at same)));
      arrivals_same = is.arrivals_same;
      wrote_same = is.wrote_same ∙ sym (any_passed (writes_in slot) entries e refl);
      accepted_same = is.accepted_same ∙ sym (any_passed (accepts_in slot) entries e refl);
    }

-- a member goes on from a book
pub resumed_instance : (id : ℕ) (view : View) (place : ℕ) (entries : List LogEntry) (regency : ℕ) (start : Option Start) (votes : OwnVotes) → regency ≡ greatest_regency view.number entries
    → start ≡ option_map stated_start (start_at view regency entries) → votes ≡ own_votes (slot_behind view.number place regency) entries
    → IsInstance id view place None [] entries (resuming id view place regency start votes)
resumed_instance id view place entries regency start votes at begun voted = record {
  id_same = refl;
  view_same = refl;
  place_same = refl;
  decided_same = refl;
  regency_same = at;
  start_same = begun;
  arrivals_same = refl;
  wrote_same = ap (λ (v : OwnVotes). v.wrote) voted;
  accepted_same = ap (λ (v : OwnVotes). v.accepted) voted;
}

-- WHERE THE NODE STANDS

pub same_regency : {S : Type 0} (n : Node S) (i : Instance) → HasInstance n i → i.regency ≡ regency_of n
unfolding regency_of
same_regency n i has = has.regency_same

pub same_start : {S : Type 0} (n : Node S) (i : Instance) → HasInstance n i → i.start ≡ option_map stated_start (start_of n)
unfolding start_of
same_start n i has = has.start_same ∙ ap (λ (r : ℕ). option_map stated_start (start_at (view_of n) r n.entries)) (same_regency n i has)

some_mapped : (o : Option Beginning) → is_some (option_map stated_start o) ≡ is_some o
some_mapped None = refl
some_mapped (Some s) = refl

pub same_synced : {S : Type 0} (n : Node S) (i : Instance) → HasInstance n i → is_some i.start ≡ is_synced n
same_synced n i has = ap (λ (o : Option Start). is_some o) (same_start n i has) ∙ some_mapped (start_of n)

not_some : {A : Type 0} (x : Option A) → not (is_some x) ≡ is_none x
not_some None = refl
not_some (Some a) = refl

pub same_decided_place : {S : Type 0} (n : Node S) (i : Instance) → HasInstance n i → decided_place i ≡ nodes.decided_place n
same_decided_place n i has = rw (has.decided_same, has.place_same) refl

pub same_free : {S : Type 0} (n : Node S) (i : Instance) → HasInstance n i → is_free i ≡ nodes.is_free n
same_free n i has = rw (has.decided_same, has.place_same, not_some n.waiting) refl

begun_by : (place : ℕ) (o : Option Beginning) → has_begun place (option_map stated_start o) ≡ nodes.has_begun place o
begun_by place None = refl
begun_by place (Some s) = refl

same_begun : {S : Type 0} (n : Node S) (i : Instance) → HasInstance n i → has_begun (i.place + 1) i.start ≡ nodes.has_begun (next_place n) (start_of n)
same_begun n i has =
    ap (λ (p : ℕ). has_begun (p + 1) i.start) has.place_same
    ∙ (ap (λ (o : Option Start). has_begun (next_place n) o) (same_start n i has) ∙ begun_by (next_place n) (start_of n))

pub same_open : {S : Type 0} (n : Node S) (i : Instance) → HasInstance n i → is_open (view_of n) i ≡ nodes.is_open n
same_open n i has = rw (has.id_same, same_free n i has, same_begun n i has) refl

pub same_slot_open : {S : Type 0} (n : Node S) (i : Instance) → HasInstance n i → open_slot (view_of n) i ≡ nodes.open_slot n
same_slot_open n i has = rw (has.place_same, same_regency n i has) refl

bound_by : (place : ℕ) (o : Option Beginning) → bound_at place (option_map stated_start o) ≡ nodes.bound_at place o
bound_by place None = refl
bound_by place (Some s) = refl

pub same_bound : {S : Type 0} (n : Node S) (i : Instance) → HasInstance n i → (place : ℕ) → is_bound_to place i ≡ nodes.bound_at place (start_of n)
same_bound n i has place = ap (λ (o : Option Start). bound_at place o) (same_start n i has) ∙ bound_by place (start_of n)

pub same_unbound : {S : Type 0} (n : Node S) (i : Instance) → HasInstance n i → (p : Proposed) → is_unbound p i ≡ arrivals.is_unbound n p
same_unbound n i has p = rw (same_bound n i has p.head.statement.slot.place, same_regency n i has) refl

-- WHAT IS DUE

slot_same : {S : Type 0} (n : Node S) (i : Instance) → HasInstance n i → slot_behind (view_of n).number n.replica.place i.regency ≡ nodes.open_slot n
slot_same n i has = ap (λ (r : ℕ). slot_behind (view_of n).number n.replica.place r) (same_regency n i has)

same_wrote : {S : Type 0} (n : Node S) (i : Instance) → HasInstance n i → i.wrote ≡ list_any (writes_in (nodes.open_slot n)) n.entries
same_wrote n i has = has.wrote_same ∙ ap (λ (s : Slot). list_any (writes_in s) n.entries) (slot_same n i has)

same_accepted : {S : Type 0} (n : Node S) (i : Instance) → HasInstance n i → i.accepted ≡ list_any (accepts_in (nodes.open_slot n)) n.entries
same_accepted n i has = has.accepted_same ∙ ap (λ (s : Slot). list_any (accepts_in s) n.entries) (slot_same n i has)

same_proposed : {S : Type 0} (n : Node S) (i : Instance) → HasInstance n i → proposed_for i.arrivals (open_slot (view_of n) i) ≡ proposed_for n.arrivals (nodes.open_slot n)
same_proposed n i has = rw (has.arrivals_same, same_slot_open n i has) refl

same_votable : {S : Type 0} (n : Node S) (i : Instance) → HasInstance n i → (p : Option Proposed) → votable i p ≡ rules.votable n p
same_votable n i has None = refl
same_votable n i has (Some p) =
    ap (λ (b : Option (List ℕ)). cond (is_within b p.head.statement.digest) (Some p) None)
    (ap (λ (q : ℕ). is_bound_to (q + 1) i) has.place_same ∙ same_bound n i has (next_place n))

same_written : {S : Type 0} (n : Node S) (i : Instance) → HasInstance n i → (p : Option Proposed) → written (view_of n) i p ≡ rules.written n p
same_written n i has None = refl
same_written n i has (Some p) = rw (has.arrivals_same, same_slot_open n i has) refl

pub due_write : {S : Type 0} (n : Node S) (i : Instance) → HasInstance n i → due_by Write (view_of n) i ≡ writing n
unfolding due_by writing
due_write n i has = rw (same_open n i has, same_votable n i has _, same_proposed n i has, same_wrote n i has) refl

pub due_accept : {S : Type 0} (n : Node S) (i : Instance) → HasInstance n i → due_by Accept (view_of n) i ≡ accepting n
unfolding due_by accepting
due_accept n i has = rw (same_open n i has, same_written n i has _, same_votable n i has _, same_proposed n i has, same_accepted n i has) refl

pub due_same : {S : Type 0} (rule : Rule) (n : Node S) (i : Instance) → HasInstance n i → due_by rule (view_of n) i ≡ due_at rule n
due_same Write n i has = due_write n i has
due_same Accept n i has = due_accept n i has
