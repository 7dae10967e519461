-- What restored entries give back, one by one and all.
use Rattle.std.proofs.Common.{◌≡◌, ℕ, ◌+◌, ◌++◌, Bool, true, false, cond, List, [], ◌∷◌, length, refl, ap, sym, ◌∙◌, Option, Some, None, Result, Ok, Err}
use Rattle.std.proofs.lemmas.List.{append_assoc, append-nil}
use Rattle.std.specs.List.{cons_option}
use Rattle.smart_base.specs.Views.{View}
use Rattle.smart_statements.specs.Batches.{Batch}
use Rattle.smart_service.specs.Services.{Meaning}
use Rattle.smart_service.specs.declared.replica.Replica.{Replica}
use Rattle.vote_book.specs.Entries.{entry_decoded}
use Rattle.vote_book.specs.declared.entry.LogEntry.{LogEntry}
use Rattle.replica_rules.specs.Replicas.{after_batches, Managed, managed_of}
use Rattle.replica_rules.proofs.Managed.{managed_after}
use Rattle.node_rules.specs.Nodes.{Node}
use Rattle.node_rules.specs.Reopening.{batch_past, decided_of, known_behind, may_restore, damage_at, damaged_from, damaged, entry_of, entries_in, takes_all_back}
use Rattle.node_restart.specs.Restarts.{Restart, begun, may_take, replayed, all_replayed, took, taken, HasRead}

-- ---- one entry more

some_is : {A : Type 0} (a b : A) → Some a ≡ Some b → a ≡ b
some_is a b is = cc

took_by : {S : Type 0} (m : Meaning S) (r later : Restart S) (e : LogEntry) (t : Bool) → cond t (Some (took m r e)) None ≡ Some later → (t ≡ true) × (took m r e ≡ later)
took_by m r later e true is = (refl, some_is (took m r e) later is)
took_by m r later e false is = absurd (cc)

-- the entry that is taken
pub record IsTaken {S : Type 0} (m : Meaning S) (secret : List ℕ) (r later : Restart S) (read : Result LogEntry ℕ) : Type 0 where
  pub entry : LogEntry
  pub read_is : read ≡ Ok entry
  pub may : may_take secret r.replica.views r.past r.entries entry ≡ true
  pub took_is : took m r entry ≡ later

pub taken_is : {S : Type 0} (m : Meaning S) (secret : List ℕ) (r later : Restart S) (read : Result LogEntry ℕ) → taken m secret r read ≡ Some later → IsTaken m secret r later read
taken_is m secret r later (Err at) is = absurd (cc)
taken_is m secret r later (Ok e) is =
    let by = took_by m r later e (may_take secret r.replica.views r.past r.entries e) is in
    record { entry = e; read_is = refl; may = by.0; took_is = by.1 }

damage_passed : (secret : List ℕ) (past : ℕ) (g : Managed) (before : List LogEntry) (behind : LogEntry → Option ℕ) (read : Result LogEntry ℕ) (e : LogEntry) → read ≡ Ok e → may_restore secret past g before e ≡ true
    → damage_at secret past g before behind read ≡ behind e
damage_passed secret past g before behind read e is may =
    ap (λ (r : Result LogEntry ℕ). damage_at secret past g before behind r) is ∙ ap (λ t. cond t (behind e) (Some (length before + 1))) may

-- ---- the entries that bytes are

cons_append : (o : Option LogEntry) (xs ys : List LogEntry) → cons_option o (xs ++ ys) ≡ cons_option o xs ++ ys
cons_append None xs ys = refl
cons_append (Some x) xs ys = refl

pub entries_append : (xs ys : List (List ℕ)) → entries_in (xs ++ ys) ≡ entries_in xs ++ entries_in ys
entries_append [] ys = refl
entries_append (x ∷ xs) ys =
    ap (λ (es : List LogEntry). cons_option (entry_of (entry_decoded x)) es) (entries_append xs ys) ∙ cons_append (entry_of (entry_decoded x)) (entries_in xs) (entries_in ys)

entry_alone : (read : Result LogEntry ℕ) (e : LogEntry) → read ≡ Ok e → cons_option (entry_of read) [] ≡ e ∷ []
entry_alone read e is = ap (λ (r : Result LogEntry ℕ). cons_option (entry_of r) []) is

entries_behind : {S : Type 0} (m : Meaning S) (secret : List ℕ) (r later : Restart S) (bytes : List ℕ) → taken m secret r (entry_decoded bytes) ≡ Some later → later.entries ≡ r.entries ++ entries_in (bytes ∷ [])
entries_behind {S = S} m secret r later bytes is =
    let by = taken_is m secret r later (entry_decoded bytes) is in
    ap (λ (x : Restart S). x.entries) (sym by.took_is) ∙ ap (λ es. r.entries ++ es) (sym (entry_alone (entry_decoded bytes) by.entry by.read_is))

-- ---- the replica behind them

all_replayed_push : {S : Type 0} (m : Meaning S) (past : ℕ) (r : Replica S) (es : List LogEntry) (e : LogEntry) → all_replayed m past r (es ++ e ∷ []) ≡ replayed m past (all_replayed m past r es) e
all_replayed_push m past r [] e = refl
all_replayed_push m past r (x ∷ xs) e = all_replayed_push m past (replayed m past r x) xs e

replica_took : {S : Type 0} (m : Meaning S) (past : ℕ) (first : Replica S) (r : Restart S) (e : LogEntry) → r.past ≡ past → r.replica ≡ all_replayed m past first r.entries
    → replayed m r.past r.replica e ≡ all_replayed m past first (r.entries ++ e ∷ [])
replica_took {S = S} m past first r e at so =
    ap (λ (p : ℕ). replayed m p r.replica e) at ∙ (ap (λ (x : Replica S). replayed m past x e) so ∙ sym (all_replayed_push m past first r.entries e))

replica_behind : {S : Type 0} (m : Meaning S) (secret : List ℕ) (past : ℕ) (first : Replica S) (r later : Restart S) (bytes : List ℕ) → r.past ≡ past → r.replica ≡ all_replayed m past first r.entries
    → taken m secret r (entry_decoded bytes) ≡ Some later → later.replica ≡ all_replayed m past first later.entries
replica_behind {S = S} m secret past first r later bytes at so is =
    let by = taken_is m secret r later (entry_decoded bytes) is in
    sym (ap (λ (x : Restart S). x.replica) by.took_is)
    ∙ (replica_took m past first r by.entry at so ∙ ap (λ (x : Restart S). all_replayed m past first x.entries) by.took_is)

-- it knows the views that the entries make

after_cons : {S : Type 0} (m : Meaning S) (o : Option Batch) (r : Replica S) (bs : List Batch) → after_batches m (after_batches m r (cons_option o [])) bs ≡ after_batches m r (cons_option o bs)
after_cons m None r bs = refl
after_cons m (Some b) r bs = refl

all_replayed_is : {S : Type 0} (m : Meaning S) (past : ℕ) (r : Replica S) (es : List LogEntry) → all_replayed m past r es ≡ after_batches m r (decided_of past es)
all_replayed_is m past r [] = refl
all_replayed_is m past r (e ∷ es) = all_replayed_is m past (replayed m past r e) es ∙ after_cons m (batch_past past e) r (decided_of past es)

views_known : {S : Type 0} (m : Meaning S) (first : Replica S) (es : List LogEntry) → (all_replayed m first.place first es).views ≡ known_behind first.place (managed_of first) es
views_known {S = S} m first es =
    ap (λ (r : Replica S). r.views) (all_replayed_is m first.place first es) ∙ ap (λ (g : Managed). g.views) (managed_after m first (decided_of first.place es))

-- a node that takes entries back
append_none : {S : Type 0} (n : Node S) (es : List LogEntry) → n.entries ++ [] ≡ es → n ≡ record n { entries = es }
append_none n es is = ap (λ (x : List LogEntry). record n { entries = x }) (sym (append-nil n.entries) ∙ is)

pub takes_all : {S : Type 0} (m : Meaning S) (past : ℕ) (n : Node S) (es : List LogEntry) → takes_all_back m past n es ≡ record n { replica = all_replayed m past n.replica es; entries = n.entries ++ es }
takes_all {S = S} m past n [] = append_none n (n.entries ++ []) refl
takes_all {S = S} m past n (e ∷ es) =
    takes_all m past (record n { replica = replayed m past n.replica e; entries = n.entries ++ e ∷ [] }) es
    ∙ ap (λ (x : List LogEntry). record n { replica = all_replayed m past (replayed m past n.replica e) es; entries = x }) (append_assoc n.entries (e ∷ []) es)

-- ---- what was read

-- the damage of what follows undamaged bytes, by the entries that these are

step_on : (secret : List ℕ) (past : ℕ) (g : Managed) (before left : List LogEntry) (behind later : LogEntry → Option ℕ) (rest : List (List ℕ)) (read : Result LogEntry ℕ)
    → ((e : LogEntry) → behind e ≡ None → later e ≡ damaged_from secret past g ((before ++ e ∷ []) ++ left) rest) → damage_at secret past g before behind read ≡ None
    → damage_at secret past g before later read ≡ damaged_from secret past g (before ++ cons_option (entry_of read) left) rest
step_on secret past g before left behind later rest (Err at) next none = absurd (cc)
step_on secret past g before left behind later rest (Ok e) next none = by (may_restore secret past g before e) none
  where
    by : (t : Bool) → cond t (behind e) (Some (length before + 1)) ≡ None → cond t (later e) (Some (length before + 1)) ≡ damaged_from secret past g (before ++ e ∷ left) rest
    by true none = next e none ∙ ap (λ (es : List LogEntry). damaged_from secret past g es rest) (append_assoc before (e ∷ []) left)
    by false none = absurd (cc)

damaged_on : (secret : List ℕ) (past : ℕ) (g : Managed) (before : List LogEntry) (read rest : List (List ℕ)) → damaged_from secret past g before read ≡ None
    → damaged_from secret past g before (read ++ rest) ≡ damaged_from secret past g (before ++ entries_in read) rest
damaged_on secret past g before [] rest none = ap (λ (es : List LogEntry). damaged_from secret past g es rest) (sym (append-nil before))
damaged_on secret past g before (bytes ∷ read) rest none =
    step_on secret past g before (entries_in read) (λ e. damaged_from secret past g (before ++ e ∷ []) read) (λ e. damaged_from secret past g (before ++ e ∷ []) (read ++ rest)) rest (entry_decoded bytes)
    (λ e is. damaged_on secret past g (before ++ e ∷ []) read rest is) none

reads_on : {S : Type 0} (m : Meaning S) (secret : List ℕ) (first : Replica S) (read rest : List (List ℕ)) (r : Restart S) → HasRead m secret first read r
    → damaged secret first.place (managed_of first) (read ++ rest) ≡ damaged_from secret first.place (managed_of first) r.entries rest
reads_on m secret first read rest r has =
    damaged_on secret first.place (managed_of first) [] read rest has.whole
    ∙ ap (λ (es : List LogEntry). damaged_from secret first.place (managed_of first) es rest) (sym has.entries)

-- what may be taken back then may be restored there
may_is : {S : Type 0} (m : Meaning S) (secret : List ℕ) (first : Replica S) (read : List (List ℕ)) (r : Restart S) (e : LogEntry) → HasRead m secret first read r
    → may_take secret r.replica.views r.past r.entries e ≡ may_restore secret first.place (managed_of first) r.entries e
may_is {S = S} m secret first read r e has =
    ap (λ (p : ℕ). may_take secret r.replica.views p r.entries e) has.past
    ∙ ap (λ (vs : List View). may_take secret vs first.place r.entries e) (ap (λ (x : Replica S). x.views) has.replica ∙ views_known m first r.entries)

-- what is taken is not damaged
taken_whole : {S : Type 0} (m : Meaning S) (secret : List ℕ) (first : Replica S) (read : List (List ℕ)) (r later : Restart S) (bytes : List ℕ) → HasRead m secret first read r
    → taken m secret r (entry_decoded bytes) ≡ Some later → damaged_from secret first.place (managed_of first) r.entries (bytes ∷ []) ≡ None
taken_whole m secret first read r later bytes has is =
    let by = taken_is m secret r later (entry_decoded bytes) is in
    damage_passed secret first.place (managed_of first) r.entries (λ entry. damaged_from secret first.place (managed_of first) (r.entries ++ entry ∷ []) []) (entry_decoded bytes) by.entry by.read_is
    (sym (may_is m secret first read r by.entry has) ∙ by.may)

untaken : {S : Type 0} (m : Meaning S) (secret : List ℕ) (first : Replica S) (seen : List (List ℕ)) (r : Restart S) (behind : LogEntry → Option ℕ) (read : Result LogEntry ℕ) → HasRead m secret first seen r
    → taken m secret r read ≡ None → damage_at secret first.place (managed_of first) r.entries behind read ≡ Some (length r.entries + 1)
untaken m secret first seen r behind (Err at) has is = refl
untaken m secret first seen r behind (Ok e) has is = by (may_take secret r.replica.views r.past r.entries e) (may_is m secret first seen r e has) is
  where
    by : (t : Bool) → t ≡ may_restore secret first.place (managed_of first) r.entries e → cond t (Some (took m r e)) None ≡ None
        → cond (may_restore secret first.place (managed_of first) r.entries e) (behind e) (Some (length r.entries + 1)) ≡ Some (length r.entries + 1)
    by true same is = absurd (cc)
    by false same is = ap (λ t. cond t (behind e) (Some (length r.entries + 1))) (sym same)

damaged_here : {S : Type 0} (m : Meaning S) (secret : List ℕ) (first : Replica S) (seen : List (List ℕ)) (r : Restart S) (bytes : List ℕ) (rest : List (List ℕ)) (entry : ℕ) → HasRead m secret first seen r
    → (taken m secret r (entry_decoded bytes) ≡ None) × (entry ≡ length r.entries + 1) → damaged_from secret first.place (managed_of first) r.entries (bytes ∷ rest) ≡ Some entry
damaged_here m secret first seen r bytes rest entry has is =
    untaken m secret first seen r (λ e. damaged_from secret first.place (managed_of first) (r.entries ++ e ∷ []) rest) (entry_decoded bytes) has is.0 ∙ ap (λ (n : ℕ). Some n) (sym is.1)

-- damage stays what it is, whatever follows

step_more : (secret : List ℕ) (past : ℕ) (g : Managed) (before : List LogEntry) (behind later : LogEntry → Option ℕ) (number : ℕ) (read : Result LogEntry ℕ) → ((e : LogEntry) → behind e ≡ Some number → later e ≡ Some number)
    → damage_at secret past g before behind read ≡ Some number → damage_at secret past g before later read ≡ Some number
step_more secret past g before behind later number (Err at) next is = is
step_more secret past g before behind later number (Ok e) next is = by (may_restore secret past g before e) is
  where
    by : (t : Bool) → cond t (behind e) (Some (length before + 1)) ≡ Some number → cond t (later e) (Some (length before + 1)) ≡ Some number
    by true is = next e is
    by false is = is

pub damaged_more : (secret : List ℕ) (past : ℕ) (g : Managed) (before : List LogEntry) (read rest : List (List ℕ)) (number : ℕ) → damaged_from secret past g before read ≡ Some number
    → damaged_from secret past g before (read ++ rest) ≡ Some number
damaged_more secret past g before [] rest number is = absurd (cc)
damaged_more secret past g before (bytes ∷ read) rest number is =
    step_more secret past g before (λ e. damaged_from secret past g (before ++ e ∷ []) read) (λ e. damaged_from secret past g (before ++ e ∷ []) (read ++ rest)) number (entry_decoded bytes)
    (λ e there. damaged_more secret past g (before ++ e ∷ []) read rest number there) is

-- at the start, with one entry more, and at a damaged one

pub read_none : {S : Type 0} (m : Meaning S) (secret : List ℕ) (first : Replica S) → HasRead m secret first [] (begun first)
read_none m secret first = record { past = refl; whole = refl; entries = refl; replica = refl }

pub read_more : {S : Type 0} (m : Meaning S) (secret : List ℕ) (first : Replica S) (read : List (List ℕ)) (r later : Restart S) (bytes : List ℕ) → HasRead m secret first read r
    → taken m secret r (entry_decoded bytes) ≡ Some later → HasRead m secret first (read ++ bytes ∷ []) later
read_more {S = S} m secret first read r later bytes has is = record {
  past = ap (λ (x : Restart S). x.past) (sym (taken_is m secret r later (entry_decoded bytes) is).took_is) ∙ has.past;
  whole = reads_on m secret first read (bytes ∷ []) r has ∙ taken_whole m secret first read r later bytes has is;
  entries = entries_behind m secret r later bytes is ∙ (ap (λ (es : List LogEntry). es ++ entries_in (bytes ∷ [])) has.entries ∙ sym (entries_append read (bytes ∷ [])));
  replica = replica_behind m secret first.place first r later bytes has.past has.replica is;
}

pub read_damaged : {S : Type 0} (m : Meaning S) (secret : List ℕ) (first : Replica S) (read : List (List ℕ)) (r : Restart S) (bytes : List ℕ) (entry : ℕ) → HasRead m secret first read r
    → (taken m secret r (entry_decoded bytes) ≡ None) × (entry ≡ length r.entries + 1) → damaged secret first.place (managed_of first) (read ++ bytes ∷ []) ≡ Some entry
read_damaged m secret first read r bytes entry has is = reads_on m secret first read (bytes ∷ []) r has ∙ damaged_here m secret first read r bytes [] entry has is
