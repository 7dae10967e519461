-- What a node's own accepts are among the batches that it knows.
use Rattle.std.proofs.Common.{◌≡◌, ℕ, Bool, true, false, List, [], ◌∷◌, filter_map, find, refl, ap, sym, ◌∙◌, cond, Option, Some, None, option_map}
use Rattle.std.specs.List.{cons_option}
use Rattle.std.proofs.lemmas.List.Folds.{find-append}
use Rattle.std.specs.Option.{option_or}
use Rattle.smart_base.specs.Lists.{or_else, same_bytes}
use Rattle.smart_base.specs.Views.{View}
use Rattle.smart_statements.specs.declared.statement.Slot.{Slot}
use Rattle.smart_messages.specs.declared.message.Message.{Message}
use Rattle.smart_statements.specs.declared.statement.VoteKind.TheVariants as kinds
use Rattle.vote_book.specs.BookReports.{accept_for}
use Rattle.vote_book.specs.declared.entry.Accept.{Accept}
use Rattle.vote_book.specs.declared.entry.Decision.{Decision}
use Rattle.vote_book.specs.declared.entry.LogEntry.{LogEntry}
use Rattle.node_rules.specs.Votes.{has_quorum, Named, named_in, named_by, known, accepted_in, accepted_under, decision_by}
use Rattle.node_rules.specs.Nodes.{Node, view_of, regency_of, next_place}
use Rattle.node_rules.specs.Rules.{slot_in, decision_in}
use Rattle.node_state.specs.Following.{named}

find_step : (p : List ℕ → Bool) (o : Option Accept) (names : List Named) (accepts : List Accept)
    → find (λ (x : Named). p x.digest) names ≡ option_map named (find (λ (a : Accept). p a.digest) accepts)
    → find (λ (x : Named). p x.digest) (cons_option (option_map named o) names) ≡ option_map named (find (λ (a : Accept). p a.digest) (cons_option o accepts))
find_step p None names accepts rest = rest
find_step p (Some a) names accepts rest = by (p a.digest) refl
  where
    by : (t : Bool) → p a.digest ≡ t
        → cond t (Some (named a)) (find (λ (x : Named). p x.digest) names) ≡ option_map named (cond t (Some a) (find (λ (a : Accept). p a.digest) accepts))
    by true is = refl
    by false is = rest

pub find_named : (p : List ℕ → Bool) (view place : ℕ) (entries : List LogEntry)
    → find (λ (x : Named). p x.digest) (filter_map (named_by view place) entries) ≡ option_map named (find (λ (a : Accept). p a.digest) (filter_map (accept_for view place) entries))
find_named p view place [] = refl
find_named p view place (e ∷ es) = find_step p (accept_for view place e) (filter_map (named_by view place) es) (filter_map (accept_for view place) es) (find_named p view place es)

batch_mapped : (o : Option Accept) → option_map (λ (a : Accept). a.batch) o ≡ option_map (λ (x : Named). x.batch) (option_map named o)
batch_mapped None = refl
batch_mapped (Some a) = refl

-- the batch of a digest that was accepted for a place
pub batch_under_same : (view place : ℕ) (digest : List ℕ) (entries : List LogEntry)
    → option_map (λ (a : Accept). a.batch) (find (λ (a : Accept). same_bytes a.digest digest) (filter_map (accept_for view place) entries)) ≡ accepted_under view place digest entries
batch_under_same view place digest entries =
    batch_mapped (find (λ (a : Accept). same_bytes a.digest digest) (filter_map (accept_for view place) entries))
    ∙ ap (λ (o : Option Named). option_map (λ (x : Named). x.batch) o) (sym (find_named (λ d. same_bytes d digest) view place entries))

-- the batch that was accepted for a place, and that a quorum accepted in a slot
pub quorum_same : (arrivals : List Message) (view : View) (slot : Slot) (entries : List LogEntry)
    → option_map named (find (λ (a : Accept). has_quorum arrivals view kinds.Accept slot a.digest) (filter_map (accept_for slot.view slot.place) entries))
    ≡ accepted_in view slot arrivals (filter_map (named_by slot.view slot.place) entries)
quorum_same arrivals view slot entries = sym (find_named (λ d. has_quorum arrivals view kinds.Accept slot d) slot.view slot.place entries)

-- a decision of a proposed batch comes first, and else one of an accepted batch
or_decided : (view : View) (slot : Slot) (arrivals : List Message) (first rest : Option Named)
    → decision_by view slot arrivals (option_or first rest) ≡ or_else (decision_by view slot arrivals first) (decision_by view slot arrivals rest)
or_decided view slot arrivals None rest = refl
or_decided view slot arrivals (Some x) rest = refl

pub decision_same : (view : View) (slot : Slot) (arrivals : List Message) (entries : List LogEntry) (number place regency : ℕ)
    → decision_by view slot arrivals (accepted_in view slot arrivals (known number place regency arrivals entries))
    ≡ or_else (decision_by view slot arrivals (accepted_in view slot arrivals (filter_map (named_in number place regency) arrivals)))
    (decision_by view slot arrivals (accepted_in view slot arrivals (filter_map (named_by number place) entries)))
decision_same view slot arrivals entries number place regency =
    ap (λ (o : Option Named). decision_by view slot arrivals o)
    (find-append (λ (x : Named). has_quorum arrivals view kinds.Accept slot x.digest) (filter_map (named_in number place regency) arrivals) (filter_map (named_by number place) entries))
    ∙ or_decided view slot arrivals _ _

pub quorum_after : {S : Type 0} (n inside : Node S) (view : View) (slot : Slot) (found : Option Accept) → inside ≡ n → view ≡ view_of n
    → found ≡ find (λ (a : Accept). has_quorum inside.arrivals view kinds.Accept slot a.digest) (filter_map (accept_for slot.view slot.place) inside.entries)
    → option_map named found ≡ accepted_in (view_of n) slot n.arrivals (filter_map (named_by slot.view slot.place) n.entries)
quorum_after n inside view slot found same at is = rw (is, at, ← same) (quorum_same inside.arrivals (view_of inside) slot inside.entries)

pub under_after : {S : Type 0} (n inside : Node S) (number place : ℕ) (digest : List ℕ) (found : Option Accept) → inside ≡ n → number ≡ (view_of n).number → place ≡ next_place n
    → found ≡ find (λ (a : Accept). same_bytes a.digest digest) (filter_map (accept_for number place) inside.entries)
    → option_map (λ (a : Accept). a.batch) found ≡ accepted_under (view_of n).number (next_place n) digest n.entries
under_after n inside number place digest found same at next is = rw (is, at, next, ← same) (batch_under_same (view_of inside).number (next_place inside) digest inside.entries)

pub decided_where : {S : Type 0} (n : Node S) (regency : ℕ) (slot : Slot) (first d : Option Decision) → slot ≡ slot_in n regency
    → first ≡ decision_by (view_of n) slot n.arrivals (accepted_in (view_of n) slot n.arrivals (filter_map (named_in slot.view slot.place (regency_of n)) n.arrivals))
    → d ≡ or_else first (decision_by (view_of n) slot n.arrivals (accepted_in (view_of n) slot n.arrivals (filter_map (named_by slot.view slot.place) n.entries)))
    → d ≡ decision_in n regency
unfolding decision_in
decided_where n regency slot first d at is or =
    rw (or, is, at) (sym (decision_same (view_of n) (slot_in n regency) n.arrivals n.entries (view_of n).number (next_place n) (regency_of n)))
