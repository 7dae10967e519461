-- A node that goes on after a crash: it delivers in order, what it holds has a spelling, and what it will send rests on its book.
use Rattle.node_laws.proofs.ListedViews.{present_there}
use Rattle.std.proofs.Common.{◌≡◌, ap, zero, suc, ℕ, ◌^◌, ◌<◌, ◌==◌, true, false, List, [], ◌∷◌, Option, Some, None, length, arith, subst, sym, refl, ◌++◌, take}
use Rattle.smart_base.specs.Lists.{Each}
use Rattle.smart_base.specs.Views.{View, is_view, present}
use Rattle.smart_statements.specs.Batches.{Batch}
use Rattle.smart_statements.specs.Spelling.{IsSigner}
use Rattle.smart_service.specs.Services.{Meaning, Comes, comes_first, comes_next}
use Rattle.vote_book.specs.Entries.{FitsEntry}
use Rattle.vote_book.specs.declared.entry.LogEntry.{LogEntry}
use Rattle.vote_book.specs.declared.entry.LogEntry.TheVariants.{Opened, Wrote, Accepted, Promised, Synced, Decided, Installed, Marked}
use Rattle.replica_rules.specs.Replicas.{empty, state, views_after}
use Rattle.agreement_laws.specs.Statements.{Statement}
use Rattle.node_rules.specs.Nodes.{Node, regency_in, greatest_regency}
use Rattle.node_rules.specs.Reopening.{entries_in, reopened, outset_from, reopened_from}
use Rattle.node_rules.specs.declared.node.Parts.{Parts}
use Rattle.node_rules.specs.Steps.{Outset, opened, outset}
use Rattle.node_laws.proofs.Reopened.{reopened_is}
use Rattle.node_laws.proofs.Cuts.{cut_each, cut_reopened}
use Rattle.node_laws.specs.Restoring.{outset_behind, AreAlong, resumed_node}
use Rattle.book_laws.specs.BookCuts.{cut_at, InstallUpTo}
use Rattle.vote_book.specs.Books.{HasMade, last_made, Among}
use Rattle.node_laws.specs.Restored.{IsSoundBook}
use Rattle.replica_laws.proofs.FitNodes.{FitNode, fit-as, FitsSnapshot, read-lines}
use Rattle.replica_laws.proofs.Small.{IsBrief, small-fits}
use Rattle.replica_laws.proofs.FitNodes as nodes
use Rattle.replica_laws.proofs.FitBooks.{FitBook, spelled-opened}
use Rattle.agreement_laws.proofs.Lists.{either, each_take, each_among}
use Rattle.replica_rules.proofs.Managed.{state_views}
use Rattle.node_rules.specs.declared.node.OwnSnapshot.{OwnSnapshot}
use Rattle.snapshot_form.proofs.Executed.{fits_after, fits_empty}
use Rattle.snapshot_form.specs.Replicas.{FitsReplica, IsOfClients, is_first_view}
use Rattle.std.proofs.lemmas.List.{length-take}
use Rattle.std.specs.Prelude.{IfSome}
use Rattle.std.specs.Option.{option_to_list}

-- ---- what has a spelling

regency-fits : (view : ℕ) (es : List LogEntry) → Each FitsEntry es → greatest_regency view es < 2 ^ 32
regency-fits view [] each = omega arith
regency-fits view (e ∷ es) each = let rest = regency-fits view es each.1 in let here = one e each.0 in omega (arith, rest, here)
  where
    one : (e : LogEntry) → FitsEntry e → regency_in view e < 2 ^ 32
    one (Promised p) fit = either (λ (k : ℕ). k < 2 ^ 32) (p.view == view) p.regency 0 fit.regency_fits (omega arith)
    one (Opened o) fit = omega arith
    one (Wrote w) fit = omega arith
    one (Accepted a) fit = omega arith
    one (Synced s) fit = omega arith
    one (Decided d) fit = omega arith
    one (Installed i) fit = omega arith
    one (Marked k) fit = omega arith

-- the state after batches of clients that there are has a snapshot
pub state-fits : {S : Type 0} (m : Meaning S) → IsBrief m → (view : View) (batches : List Batch) → is_view view ≡ true → is_first_view view ≡ true → length batches < 2 ^ 63 → Each IsOfClients batches
    → FitsReplica (Comes m) (state m view batches)
state-fits m brief view batches viewed begins few of =
    fits_after m (Comes m) (λ s op is. comes_next s op is) brief.brief (empty m view) batches (fits_empty m (Comes m) view comes_first viewed begins) (omega (arith, few)) of

-- a node that opens a new book
fit_opened : {S : Type 0} (secret : List ℕ) (m : Meaning S) (id : ℕ) (view : View) (period : ℕ) → IsSigner 1 id → is_view view ≡ true → period < 2 ^ 32 → FitBook m secret (reopened m (outset m secret id view period) [])
unfolding reopened
fit_opened {S = S} secret m id view period named viewed low =
    let n : Node S = opened (outset m secret id view period) in
    let is : FitBook m secret n = spelled-opened secret m id view period named viewed low in
    record { node = fit-as secret n 0 [] false false false true is.node; book = is.book }

-- ---- from a checkpoint

-- who goes on
pub named : {S : Type 0} (m : Meaning S) (o : Outset S) (entries : List LogEntry) → (reopened m o entries).id ≡ o.member
unfolding reopened
named m o [] = refl
named {S = S} m o (e ∷ es) = ap (λ (n : Node S). n.id) (reopened_is m o e es)

pub from_named : {S : Type 0} (m : Meaning S) (secret : List ℕ) (id : ℕ) (view : View) (period : ℕ) (parts : Parts) → (reopened_from m secret id view period parts).id ≡ id
unfolding reopened_from
from_named m secret id view period parts = named m (outset_from m secret id view period parts.snapshot) (entries_in parts.entries)

-- it holds nothing yet
pub held_none : {S : Type 0} (m : Meaning S) (o : Outset S) (entries : List LogEntry) → (reopened m o entries).held ≡ []
unfolding reopened
held_none m o [] = refl
held_none {S = S} m o (e ∷ es) = ap (λ (n : Node S). n.held) (reopened_is m o e es)

pub from_held : {S : Type 0} (m : Meaning S) (secret : List ℕ) (id : ℕ) (view : View) (period : ℕ) (parts : Parts) → (reopened_from m secret id view period parts).held ≡ []
unfolding reopened_from
from_held m secret id view period parts = held_none m (outset_from m secret id view period parts.snapshot) (entries_in parts.entries)

-- the node that goes on from a checkpoint of a place along a list, with the cut of a diary there
abbrev pub node_behind : {S : Type 0} → Meaning S → List ℕ → ℕ → View → ℕ → ℕ → List Batch → Option OwnSnapshot → List LogEntry → Node S
node_behind m secret id view period place batches checkpoint d = reopened m (outset_behind m secret id view period place batches checkpoint) (cut_at place d)

-- no diary without entries has made a place
pub none_made : (k : ℕ) → (0 < suc k → HasMade [] (suc k)) → ⊥
none_made k made = (made (omega arith)).there

-- what a diary is from which a node goes on over a checkpoint of a place: it has made the place, installs nothing past it, and decides along the list
pub record GoesBehind (secret : List ℕ) (stated : List Statement) (view : View) (place : ℕ) (batches : List Batch) (d : List LogEntry) : Type 0 where
  pub sound : IsSoundBook secret stated (views_after view batches) d
  pub made : 0 < place → HasMade d place
  pub upto : InstallUpTo place d
  pub along : AreAlong batches d

-- its replica is the state of the list after the last place that the diary makes
pub behind_replica : {S : Type 0} (m : Meaning S) (secret : List ℕ) (id : ℕ) (stated : List Statement) (view : View) (period place : ℕ) (batches : List Batch) (checkpoint : Option OwnSnapshot) (d : List LogEntry)
    → GoesBehind secret stated view place batches d → (node_behind m secret id view period place batches checkpoint d).replica ≡ state m view (take (last_made d) batches)
unfolding reopened
behind_replica m secret id stated view period zero batches checkpoint [] is = refl
behind_replica m secret id stated view period (suc k) batches checkpoint [] is = absurd (none_made k is.made)
behind_replica {S = S} m secret id stated view period place batches checkpoint (e ∷ es) is =
    ap (λ (n : Node S). n.replica) (cut_reopened m secret id stated view (views_after view batches) period place batches checkpoint e es is.sound is.made is.upto is.along)

-- all that such a node holds has a spelling
behind_fits : {S : Type 0} (secret : List ℕ) (m : Meaning S) → IsBrief m → (id : ℕ) (view : View) (period place : ℕ) (batches : List Batch) (checkpoint : Option OwnSnapshot) (es : List LogEntry) → IsSigner 1 id
    → is_view view ≡ true → is_first_view view ≡ true → length batches < 2 ^ 63 → Each IsOfClients batches → IfSome checkpoint FitsSnapshot → Each (nodes.FitsEntry secret) es → Each FitsEntry es
    → FitNode m secret (resumed_node m secret id view period place batches checkpoint es)
behind_fits secret m brief id view period place batches checkpoint es named viewed begins few of own kept spelled =
    let bs : List Batch = take (last_made es) batches in
    let less = length-take (last_made es) batches in
    let small = small-fits m (state m view bs) (state-fits m brief view bs viewed begins (omega (arith, few, less)) (each_take IsOfClients (last_made es) batches of)) in
    let there : Among (present (state m view bs).views) (state m view bs).views =
    subst (λ (xs : List View). Among (present xs) xs) (sym (state_views m view bs)) (present_there view bs) in
    record {
      named = named;
      shared = refl;
      view = each_among (λ v. is_view v ≡ true) (state m view bs).views (present (state m view bs).views) small.views_fit there;
      views = small.views_fit;
      regency = λ v. regency-fits v (cut_at place es) (cut_each FitsEntry place es spelled);
      lines = read-lines m (state m view bs) small;
      pool = tt;
      arrivals = tt;
      told = tt;
      begun = tt;
      book = cut_each (nodes.FitsEntry secret) place es kept;
      waiting = tt;
      held = tt;
      service = small.service_fits;
      transfers = record { small = small; owned = owned checkpoint own; shown_fit = tt; offers_fit = tt; table_fits = tt; fetch_fits = tt };
    }
  where
    owned : (o : Option OwnSnapshot) → IfSome o FitsSnapshot → Each FitsSnapshot (option_to_list o ++ [])
    owned None is = tt
    owned (Some x) is = (is, tt)

-- a node goes on so, with a checkpoint if its diary has an entry
pub fit_behind : {S : Type 0} (secret : List ℕ) (m : Meaning S) → IsBrief m → (id : ℕ) (stated : List Statement) (view : View) (period place : ℕ) (batches : List Batch) (checkpoint : Option OwnSnapshot) (d : List LogEntry)
    → GoesBehind secret stated view place batches d → (place ≡ 0 → checkpoint ≡ None) → IsSigner 1 id → is_view view ≡ true → is_first_view view ≡ true → period < 2 ^ 32 → length batches < 2 ^ 63 → Each IsOfClients batches
    → IfSome checkpoint FitsSnapshot → Each (nodes.FitsEntry secret) d → Each FitsEntry d → FitBook m secret (node_behind m secret id view period place batches checkpoint d)
unfolding reopened
fit_behind {S = S} secret m brief id stated view period zero batches checkpoint [] is none named viewed begins low few of own kept spelled =
    subst (λ (o : Option OwnSnapshot). FitBook m secret (node_behind m secret id view period zero batches o [])) (sym (none refl)) (fit_opened secret m id view period named viewed low)
fit_behind secret m brief id stated view period (suc k) batches checkpoint [] is none named viewed begins low few of own kept spelled = absurd (none_made k is.made)
fit_behind {S = S} secret m brief id stated view period place batches checkpoint (e ∷ es) is none named viewed begins low few of own kept spelled =
    subst (λ (n : Node S). FitBook m secret n) (sym (cut_reopened m secret id stated view (views_after view batches) period place batches checkpoint e es is.sound is.made is.upto is.along))
    (record { node = behind_fits secret m brief id view period place batches checkpoint (e ∷ es) named viewed begins few of own kept spelled; book = cut_each FitsEntry place (e ∷ es) spelled })
