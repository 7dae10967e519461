-- Each mark that a step writes down is of the replica behind the step, and its snapshot is told.
use Rattle.std.proofs.Common.{◌≡◌, inl, ⊎_elim, ℕ, ◌<◌, ◌++◌, ◌∙◌, Bool, true, false, cond, List, [], ◌∷◌, refl, ap, sym, subst, arith, is_some, append-nil, append_assoc}
use Rattle.std.specs.List.{flat_map}
use Rattle.std.proofs.lemmas.List.Concat.{flat_map-append}
use Rattle.smart_base.specs.Lists.{Each}
use Rattle.smart_base.proofs.SameLists.{and_true}
use Rattle.smart_base.proofs.ViewFacts.{each-weaken}
use Rattle.smart_keys.specs.Keys.{digest}
use Rattle.smart_statements.specs.declared.entry.NodeEvent.{NodeEvent}
use Rattle.smart_service.specs.Services.{Meaning}
use Rattle.smart_service.specs.declared.replica.Replica.{Replica}
use Rattle.snapshot_form.specs.Snapshots.{snapshot_text}
use Rattle.vote_book.specs.Books.{Among}
use Rattle.vote_book.specs.declared.entry.LogEntry.{LogEntry}
use Rattle.vote_book.specs.declared.entry.LogEntry.TheVariants.{Opened, Wrote, Accepted, Promised, Synced, Decided, Installed, Marked}
use Rattle.agreement_laws.proofs.Lists.{among_left, among_right, each_append}
use Rattle.node_rules.specs.Changes.{adopts, fired_when, joins, leads, promises, times, timing}
use Rattle.node_rules.specs.Marks.{mark_of, mark_place, marking}
use Rattle.node_rules.specs.Nodes.{Node}
use Rattle.node_rules.specs.Rules.{accepts, decides, delivers, delivery, proposes, writes}
use Rattle.node_rules.specs.Steps.{pass, row, rules, step_of, takes_in}
use Rattle.node_rules.proofs.Rulewise.{later_rows}
use Rattle.node_rules.specs.Transfers.{answered_call, answers_call, installs}
use Rattle.node_rules.specs.declared.node.Called.{Called}
use Rattle.node_rules.specs.declared.node.Called.TheVariants as calls
use Rattle.node_rules.specs.declared.node.Cause.{Cause}
use Rattle.node_rules.specs.declared.node.Cause.TheVariants.{Came, Ticked}
use Rattle.node_rules.specs.declared.node.Fired.{Fired}
use Rattle.node_rules.specs.declared.node.Fired.TheVariants as fires
use Rattle.node_rules.proofs.Entries.{delivers_same, takes_in_same}
use Rattle.node_rules.proofs.Rulewise.{RowKeeps, by_answer, by_delivery, by_step, by_time, for_later, keeps_behind, told_installed}
use Rattle.replica_laws.proofs.Installs.{OneMore, takes-installs}
use Rattle.replica_laws.proofs.Replying.{place-delivers}
use Rattle.world_rules.specs.Worlds.{snapshot_in}
use Rattle.world_laws.proofs.Additions.{IsMarkPast, Plain, plain-accepts, plain-adopts, plain-answers_again, plain-answers_state, plain-decides, plain-joins, plain-leads, plain-plans, plain-promises, plain-proposes, plain-same, plain-times, plain-writes}

-- a mark of a replica past the first place, whose snapshot was told; other entries tell nothing
abbrev pub IsToldMark : {S : Type 0} → Meaning S → Replica S → List Fired → LogEntry → Type 0
IsToldMark m r told (Opened o) = Unit {0}
IsToldMark m r told (Wrote w) = Unit {0}
IsToldMark m r told (Accepted a) = Unit {0}
IsToldMark m r told (Promised p) = Unit {0}
IsToldMark m r told (Synced s) = Unit {0}
IsToldMark m r told (Decided d) = Unit {0}
IsToldMark m r told (Installed i) = Unit {0}
IsToldMark m r told (Marked k) =
    ((k ≡ record { place = r.place; digest = digest (snapshot_text m r) }) × (0 < r.place)) × Among (snapshot_text m r) (flat_map snapshot_in told)

-- what a step has written so far, with its marks
pub record WritesMarks {S : Type 0} (m : Meaning S) (a n : Node S) (told : List Fired) : Type 0 where
  pub rest : List LogEntry
  pub book_is : n.entries ≡ a.entries ++ rest
  pub marks : Each (IsToldMark m n.replica told) rest

-- ---- entries that are no marks

unmarked_told : {S : Type 0} (m : Meaning S) (r : Replica S) (told : List Fired) (e : LogEntry) → ((place : ℕ) → IsMarkPast place e) → IsToldMark m r told e
unmarked_told m r told (Marked k) none = let less : k.place < k.place = none k.place in absurd (omega (arith, less))
unmarked_told m r told (Opened o) none = tt
unmarked_told m r told (Wrote w) none = tt
unmarked_told m r told (Accepted a) none = tt
unmarked_told m r told (Promised p) none = tt
unmarked_told m r told (Synced s) none = tt
unmarked_told m r told (Decided d) none = tt
unmarked_told m r told (Installed i) none = tt

each_unmarked : {S : Type 0} (m : Meaning S) (r : Replica S) (told : List Fired) (es : List LogEntry) → ((place : ℕ) → Each (IsMarkPast place) es) → Each (IsToldMark m r told) es
each_unmarked m r told [] none = tt
each_unmarked m r told (e ∷ es) none = (unmarked_told m r told e (λ place. (none place).0), each_unmarked m r told es (λ place. (none place).1))

-- a mark stays told where more is told
told_more : {S : Type 0} (m : Meaning S) (r : Replica S) (told more : List Fired) (e : LogEntry) → IsToldMark m r told e → IsToldMark m r (told ++ more) e
told_more m r told more (Marked k) is =
    (is.0, subst (λ (xs : List (List ℕ)). Among (snapshot_text m r) xs) (sym (flat_map-append snapshot_in told more)) (among_left (snapshot_text m r) (flat_map snapshot_in told) (flat_map snapshot_in more) is.1))
told_more m r told more (Opened o) is = tt
told_more m r told more (Wrote w) is = tt
told_more m r told more (Accepted a) is = tt
told_more m r told more (Promised p) is = tt
told_more m r told more (Synced s) is = tt
told_more m r told more (Decided d) is = tt
told_more m r told more (Installed i) is = tt

-- ---- the rules behind a delivery

writes-plain : {S : Type 0} (m : Meaning S) (a n n' : Node S) (told more : List Fired) → Plain n n' → WritesMarks m a n told → WritesMarks m a n' (told ++ more)
writes-plain {S = S} m a n n' told more p is = record {
  rest = is.rest ++ p.more;
  book_is = p.book_is ∙ (ap (λ (es : List LogEntry). es ++ p.more) is.book_is ∙ append_assoc a.entries is.rest p.more);
  marks = each_append (IsToldMark m n'.replica (told ++ more)) is.rest p.more
      (each-weaken (IsToldMark m n'.replica told) (IsToldMark m n'.replica (told ++ more)) (told_more m n'.replica told more) is.rest
      (subst (λ (r : Replica S). Each (IsToldMark m r told) is.rest) (sym p.replica_is) is.marks))
      (each_unmarked m n'.replica (told ++ more) p.more p.unmarked);
}

plain-row : {S : Type 0} (m : Meaning S) (a : Node S) (rule : Node S → Node S) (tells : Node S → List Fired) → ((n : Node S) → Plain n (rule n)) → RowKeeps (WritesMarks m a) (row rule tells)
plain-row m a rule tells plain n cause fired is = writes-plain m a n (rule n) fired (tells n) (plain n) is

plain-called : {S : Type 0} (n : Node S) (called : Called) → Plain n (answers_call n called)
plain-called n calls.Nobody = plain-same n n refl refl refl
plain-called n (calls.Request asked) = plain-answers_again n asked
plain-called n (calls.State a) = plain-answers_state n a
plain-called n calls.Offered = plain-plans n

writes-later : {S : Type 0} (m : Meaning S) (a : Node S) → Each (RowKeeps (WritesMarks m a)) later_rows
writes-later {S = S} m a =
    for_later (RowKeeps (WritesMarks m a))
    (record {
      adopt = plain-row m a adopts _ (λ n. plain-adopts n);
      join = plain-row m a joins _ (λ n. plain-joins n);
      promise = plain-row m a promises _ (λ n. plain-promises n);
      lead = plain-row m a leads _ (λ n. plain-leads n);
      propose = plain-row m a proposes _ (λ n. plain-proposes n);
      write = plain-row m a writes _ (λ n. plain-writes n);
      accept = plain-row m a accepts _ (λ n. plain-accepts n);
      decide = plain-row m a decides _ (λ n. plain-decides n);
      time = λ n cause fired is. by_time (WritesMarks m a) n cause fired is (plain-row m a times (λ x. fired_when fires.Timed (timing x)) (λ x. plain-times x) n Ticked fired is);
      answer = λ n cause fired is.
          by_answer (WritesMarks m a) n cause fired is
          (λ called. plain-row m a (λ x. answers_call x called) (λ x. answered_call x called) (λ x. plain-called x called) n (Came called) fired is);
    })

-- ---- an installation, a delivery and its mark

-- behind what has taken the event in, at most an installation stands
pub record WritesNone {S : Type 0} (a n : Node S) : Type 0 where
  rest : List LogEntry
  book_is : n.entries ≡ a.entries ++ rest
  unmarked : (place : ℕ) → Each (IsMarkPast place) rest

none-installs : {S : Type 0} (m : Meaning S) (a t : Node S) → t.entries ≡ a.entries → WritesNone a (installs m t)
none-installs m a t same =
    ⊎_elim
    (λ (alike : (installs m t).entries ≡ t.entries). record { rest = []; book_is = alike ∙ (same ∙ sym (append-nil a.entries)); unmarked = λ place. tt })
    (λ (one : OneMore t.entries (installs m t).entries).
    record { rest = Installed one.installation ∷ []; book_is = one.is ∙ ap (λ (es : List LogEntry). es ++ Installed one.installation ∷ []) same; unmarked = λ place. (tt, tt) })
    (takes-installs m t).book

writes-none : {S : Type 0} (m : Meaning S) (a n : Node S) (told : List Fired) → WritesNone a n → WritesMarks m a n told
writes-none m a n told is = record { rest = is.rest; book_is = is.book_is; marks = each_unmarked m n.replica told is.rest is.unmarked }

writes-mark : {S : Type 0} (m : Meaning S) (a d : Node S) (told : List Fired) → 0 < d.replica.place → WritesNone a d → WritesMarks m a (mark_place m d) (told ++ fires.Marked (snapshot_text m d.replica) ∷ [])
unfolding mark_place
writes-mark {S = S} m a d told some is =
    let more : List Fired = fires.Marked (snapshot_text m d.replica) ∷ [] in
    let there : Among (snapshot_text m d.replica) (flat_map snapshot_in (told ++ more)) =
    subst (λ (xs : List (List ℕ)). Among (snapshot_text m d.replica) xs) (sym (flat_map-append snapshot_in told more)) (among_right (snapshot_text m d.replica) (flat_map snapshot_in told) (flat_map snapshot_in more) (inl refl)) in
    record {
      rest = is.rest ++ Marked (mark_of m d) ∷ [];
      book_is = ap (λ (es : List LogEntry). es ++ Marked (mark_of m d) ∷ []) is.book_is ∙ append_assoc a.entries is.rest (Marked (mark_of m d) ∷ []);
      marks = each_append (IsToldMark m d.replica (told ++ more)) is.rest (Marked (mark_of m d) ∷ []) (each_unmarked m d.replica (told ++ more) is.rest is.unmarked) (((refl, some), there), tt);
    }

writes-marked : {S : Type 0} (m : Meaning S) (a d : Node S) (told : List Fired) (t : Bool) → (t ≡ true → 0 < d.replica.place) → WritesNone a d
    → WritesMarks m a (cond t (mark_place m d) d) (told ++ fired_when (fires.Marked (snapshot_text m d.replica)) t)
writes-marked m a d told true some is = writes-mark m a d told (some refl) is
writes-marked m a d told false some is = writes-none m a d (told ++ []) is

writes-pass : {S : Type 0} (m : Meaning S) (a t : Node S) (cause : Cause) → t.entries ≡ a.entries → WritesMarks m a (pass (rules m) t cause []).0 (pass (rules m) t cause []).1
writes-pass {S = S} m a t cause same =
    let i : Node S = installs m t in
    let d : Node S = delivers m i in
    let none : WritesNone a i = none-installs m a t same in
    let behind : WritesNone a d = record { rest = none.rest; book_is = delivers_same m i ∙ none.book_is; unmarked = none.unmarked } in
    keeps_behind m (WritesMarks m a) t cause [] (writes-later m a)
    (by_delivery m (WritesMarks m a) i cause (told_installed m t []) (writes-none m a i (told_installed m t []) none)
    (writes-marked m a d (told_installed m t [] ++ delivery m i i.waiting) (marking (is_some i.waiting) d)
    (λ due. let next = place-delivers m i (and_true (is_some i.waiting) _ due).0 in omega (arith, next)) behind))

-- ---- a step

pub writes-step : {S : Type 0} (m : Meaning S) (n : Node S) (event : NodeEvent) → WritesMarks m n (step_of m n event).node (step_of m n event).fired
writes-step {S = S} m n event =
    let t : Node S = (takes_in n event).node in
    let same : t.entries ≡ n.entries = takes_in_same n event in
    by_step m n event (WritesMarks m n) (record { rest = []; book_is = same ∙ sym (append-nil n.entries); marks = tt }) (writes-pass m n t (takes_in n event).cause same)
