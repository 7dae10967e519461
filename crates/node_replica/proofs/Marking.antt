-- Turns of members, what a mark leaves, and the last snapshot of some.
use Rattle.std.proofs.Common.{◌≡◌, ℕ, ◌<◌, ◌==◌, nat_lt, cond, Bool, true, false, List, [], ◌∷◌, ◌++◌, length, Option, Some, None, is_some, refl, ap, sym, subst, ◌∙◌, arith, append-nil}
use Rattle.std.specs.List.{position_or_len}
use Rattle.std.proofs.lemmas.Bool.{ltb-true}
use Rattle.std.specs.Prelude.{option_map}
use Rattle.smart_base.specs.Lists.{or_else}
use Rattle.smart_base.specs.Views.{View}
use Rattle.smart_keys.specs.Keys.{digest}
use Rattle.smart_view.specs.Sizes.{index_of}
use Rattle.smart_statements.specs.Reports.{marks}
use Rattle.smart_statements.specs.declared.report.Mark.{Mark}
use Rattle.smart_messages.specs.declared.message.Message.{Message}
use Rattle.smart_messages.specs.declared.message.Message.TheVariants as changes
use Rattle.smart_service.specs.Services.{Meaning}
use Rattle.vote_book.specs.declared.entry.LogEntry.{LogEntry}
use Rattle.vote_book.specs.declared.entry.LogEntry.TheVariants.{Marked}
use Rattle.replica_rules.specs.Seals.{signed}
use Rattle.snapshot_form.specs.Snapshots.{snapshot_text}
use Rattle.node_rules.specs.Nodes.{Node, recording, holding}
use Rattle.node_rules.specs.Marks.{is_own_turn, mark_of, own_snapshot, takes_snapshot, mark_place, marking, marks_place, marked, last_taken}
use Rattle.vote_book.specs.Books.{number_or}
use Rattle.node_rules.specs.Rules.{delivers, delivery}
use Rattle.node_rules.specs.Steps.{deliver_row}
use Rattle.node_rules.specs.declared.node.Cause.{Cause}
use Rattle.node_rules.specs.declared.node.Cause.TheVariants.{Delivering}
use Rattle.node_rules.specs.declared.node.Fired.{Fired}
use Rattle.node_rules.specs.declared.node.OwnSnapshot.{OwnSnapshot}
use Rattle.node_rules.specs.declared.node.Target.{Target}
use Rattle.node_rules.specs.declared.node.Target.TheVariants as targets
use Rattle.node_rules.proofs.Entries.{delivers_same, mark_place_adds}
use Rattle.node_state.specs.Broken.{IsPartly}
use Rattle.node_state.proofs.Broken.{entry_none, entry_made}

-- ---- turns

within_by : (v : View) (member i : ℕ) (t : Bool) → nat_lt (position_or_len (λ m. m == member) v.members) (length v.members) ≡ t
    → cond t (Some (position_or_len (λ m. m == member) v.members)) None ≡ Some i → i < length v.members
within_by v member i true lt is =
    let at : position_or_len (λ m. m == member) v.members ≡ i = cc in
    let low = ltb-true (position_or_len (λ m. m == member) v.members) (length v.members) lt in
    omega (arith, at, low)
within_by v member i false lt is = absurd (cc)

pub index_within : (v : View) (member i : ℕ) → index_of v member ≡ Some i → i < length v.members
index_within v member i is = within_by v member i (nat_lt (position_or_len (λ m. m == member) v.members) (length v.members)) refl is

-- ---- snapshots

pub turn_is : {S : Type 0} (m : Meaning S) (n x : Node S) → is_own_turn n n.replica.place ≡ true → x ≡ record n { taken = n.taken ++ own_snapshot m n ∷ [] } → x ≡ takes_snapshot m n
turn_is {S = S} m n x turn is = is ∙ sym (ap (λ (t : Bool). record n { taken = n.taken ++ cond t (own_snapshot m n ∷ []) [] }) turn)

pub no_turn_is : {S : Type 0} (m : Meaning S) (n : Node S) → is_own_turn n n.replica.place ≡ false → n ≡ takes_snapshot m n
no_turn_is {S = S} m n turn =
    sym (ap (λ (ss : List OwnSnapshot). record n { taken = ss }) (append-nil n.taken))
    ∙ sym (ap (λ (t : Bool). record n { taken = n.taken ++ cond t (own_snapshot m n ∷ []) [] }) turn)

pub last_end : (front : List OwnSnapshot) (own : OwnSnapshot) → last_taken (front ++ own ∷ []) ≡ Some own
last_end [] own = refl
last_end (s ∷ front) own = ap (λ (o : Option OwnSnapshot). or_else o (Some s)) (last_end front own)

pub wanted_is : (taken front : List OwnSnapshot) (own : OwnSnapshot) → taken ≡ front ++ own ∷ [] → ◌≡◌ {A = Option OwnSnapshot} (Some own) (last_taken taken)
wanted_is taken front own is = sym (ap (λ (ss : List OwnSnapshot). last_taken ss) is ∙ last_end front own)

pub wanted_none : (taken : List OwnSnapshot) → length taken ≡ 0 → ◌≡◌ {A = Option OwnSnapshot} None (last_taken taken)
wanted_none [] none = refl
wanted_none (s ∷ ss) none = absurd (omega arith)

pub wanted_place_is : (taken front : List OwnSnapshot) (own : OwnSnapshot) → taken ≡ front ++ own ∷ [] → own.place ≡ number_or (option_map (λ (x : OwnSnapshot). x.place) (last_taken taken)) 0
wanted_place_is taken front own is = ap (λ (o : Option OwnSnapshot). number_or (option_map (λ (x : OwnSnapshot). x.place) o) 0) (wanted_is taken front own is)

pub wanted_place_none : (taken : List OwnSnapshot) → length taken ≡ 0 → ◌≡◌ {A = ℕ} 0 (number_or (option_map (λ (x : OwnSnapshot). x.place) (last_taken taken)) 0)
wanted_place_none taken none = ap (λ (o : Option OwnSnapshot). number_or (option_map (λ (x : OwnSnapshot). x.place) o) 0) (wanted_none taken none)

-- ---- a mark

pub mark_is : {S : Type 0} (m : Meaning S) (n : Node S) (place : ℕ) (made text : List ℕ) → place ≡ n.replica.place → made ≡ digest text → text ≡ snapshot_text m n.replica
    → ◌≡◌ {A = Mark} (record { place = place; digest = made }) (mark_of m n)
mark_is m n place made text at by own = rw (at, by, own) refl

-- what is recorded and sent leaves the replica
pub text_stays : {S : Type 0} (m : Meaning S) (n x : Node S) (e : LogEntry) (to : Target) (message : Message) (text : List ℕ) → x ≡ holding (recording n e) to message
    → text ≡ snapshot_text m n.replica → text ≡ snapshot_text m x.replica
text_stays {S = S} m n x e to message text is own = own ∙ sym (ap (λ (y : Node S). snapshot_text m y.replica) is)

-- the node once it has recorded and sent a mark
abbrev pub stating : {S : Type 0} → Node S → Mark → Node S
stating n mark = holding (recording n (Marked mark)) targets.View (changes.Mark (signed marks n.secret n.id mark))

pub marks_where : {S : Type 0} (m : Meaning S) (n x y : Node S) (mark : Mark) → mark ≡ mark_of m n → x ≡ stating n mark → y ≡ takes_snapshot m x → y ≡ mark_place m n
unfolding mark_place
marks_where {S = S} m n x y mark same made took =
    took ∙ (ap (λ (z : Node S). takes_snapshot m z) made ∙ ap (λ (k : Mark). takes_snapshot m (stating n k)) same)

-- where it is stopped

pub mark_none : {S : Type 0} (m : Meaning S) (n : Node S) (now : List LogEntry) → now ≡ n.entries → IsPartly n.entries now (mark_place m n).entries
mark_none m n now same =
    subst (λ (es : List LogEntry). IsPartly n.entries now es) (sym (mark_place_adds m n)) (entry_none n.entries now (Marked (mark_of m n)) same)

pub mark_part : {S : Type 0} (m : Meaning S) (n : Node S) (now : List LogEntry) (mark : Mark) → mark ≡ mark_of m n → IsPartly n.entries now (n.entries ++ Marked mark ∷ [])
    → IsPartly n.entries now (mark_place m n).entries
mark_part m n now mark same part =
    subst (λ (es : List LogEntry). IsPartly n.entries now es) (sym (mark_place_adds m n)) (subst (λ (k : Mark). IsPartly n.entries now (n.entries ++ Marked k ∷ [])) same part)

pub mark_stated : {S : Type 0} (m : Meaning S) (n x : Node S) (now : List LogEntry) (mark : Mark) → mark ≡ mark_of m n → x ≡ stating n mark → now ≡ x.entries
    → IsPartly n.entries now (mark_place m n).entries
mark_stated {S = S} m n x now mark same made is =
    subst (λ (es : List LogEntry). IsPartly n.entries now es) (sym (mark_place_adds m n))
    (entry_made n.entries now (Marked (mark_of m n)) (is ∙ (ap (λ (y : Node S). y.entries) made ∙ ap (λ (k : Mark). n.entries ++ Marked k ∷ []) same)))

pub mark_made : {S : Type 0} (m : Meaning S) (n x : Node S) → x ≡ mark_place m n → IsPartly n.entries x.entries (mark_place m n).entries
mark_made {S = S} m n x is =
    subst (λ (es : List LogEntry). IsPartly n.entries x.entries es) (sym (mark_place_adds m n))
    (entry_made n.entries x.entries (Marked (mark_of m n)) (ap (λ (y : Node S). y.entries) is ∙ mark_place_adds m n))

-- ---- the rule

pub due_part : {S : Type 0} (m : Meaning S) (n : Node S) (now : List LogEntry) (delivered : Bool) → marking delivered n ≡ true → IsPartly n.entries now (mark_place m n).entries
    → IsPartly n.entries now (marks_place m delivered n).entries
due_part m n now delivered due part = subst (λ (t : Bool). IsPartly n.entries now (cond t (mark_place m n) n).entries) (sym due) part

-- behind a delivery
behind_part : {S : Type 0} (m : Meaning S) (n x : Node S) (now : List LogEntry) (delivered other : Bool) → x ≡ delivers m n → delivered ≡ other
    → IsPartly x.entries now (marks_place m delivered x).entries → IsPartly n.entries now (marks_place m other (delivers m n)).entries
behind_part {S = S} m n x now delivered other is same part =
    subst (λ (es : List LogEntry). IsPartly es now (marks_place m other (delivers m n)).entries) (delivers_same m n)
    (subst (λ (t : Bool). IsPartly (delivers m n).entries now (marks_place m t (delivers m n)).entries) same
    (subst (λ (y : Node S). IsPartly y.entries now (marks_place m delivered y).entries) is part))

pub row_part : {S : Type 0} (m : Meaning S) (n x : Node S) (now : List LogEntry) (cause : Cause) (fired : List Fired) (delivered : Bool) → cause ≡ Delivering → x ≡ delivers m n
    → delivered ≡ is_some n.waiting → IsPartly x.entries now (marks_place m delivered x).entries → IsPartly n.entries now (deliver_row m n cause fired).0.entries
row_part m n x now cause fired delivered delivering is same part =
    subst (λ (k : Cause). IsPartly n.entries now (deliver_row m n k fired).0.entries) (sym delivering) (behind_part m n x now delivered (is_some n.waiting) is same part)

-- what both rules leave, as the row of a delivery
pub row_marked : {S : Type 0} (m : Meaning S) (n x y : Node S) (cause : Cause) (f g h : List Fired) (delivered : Bool) → cause ≡ Delivering → delivered ≡ is_some n.waiting
    → x ≡ delivers m n → g ≡ f ++ delivery m n n.waiting → y ≡ marks_place m delivered x → h ≡ g ++ marked m delivered x → deliver_row m n cause f ≡ (y, h)
row_marked {S = S} m n x y cause f g h delivered delivering waits moved told marks_it tells =
    subst (λ (k : Cause). ◌≡◌ {A = Node S × List Fired} (deliver_row m n k f) (y, h)) (sym delivering) (rw (marks_it, tells, waits, moved, told) refl)
