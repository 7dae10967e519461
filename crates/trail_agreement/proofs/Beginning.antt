-- The node with which a fresh trail begins.
use Rattle.std.proofs.Common.{◌≡◌, ◌⊎◌, inl, inr, ℕ, ◌&&◌, Bool, true, false, cond, List, [], ◌∷◌, Result, Ok, Err, refl, ap, sym, ◌∙◌, subst, arith, eq-eqb, Option, Some, None}
use Rattle.smart_base.specs.Lists.{Each, same_bytes}
use Rattle.smart_base.specs.Views.{View, is_view}
use Rattle.smart_base.proofs.SameLists.{and_true}
use Rattle.smart_statements.specs.Spelling.{IsSigner}
use Rattle.smart_service.specs.Services.{comes_first, Meaning}
use Rattle.smart_service.specs.declared.replica.Replica.{Replica}
use Rattle.snapshot_form.specs.Snapshots.{snapshot_text}
use Rattle.vote_book.specs.Admission.{admits}
use Rattle.vote_book.specs.Entries.{entry_decoded}
use Rattle.vote_book.specs.declared.entry.Opening.{Opening}
use Rattle.vote_book.specs.declared.entry.LogEntry.{LogEntry}
use Rattle.vote_book.specs.declared.entry.LogEntry.TheVariants.{Opened, Wrote, Accepted, Promised, Synced, Decided, Installed, Marked}
use Rattle.book_laws.specs.BookCuts.{InstallUpTo}
use Rattle.replica_rules.specs.Replicas.{empty, Managed, managed_of, views_after}
use Rattle.node_rules.specs.Nodes.{Node, recording, regency_of}
use Rattle.node_rules.specs.Steps.{Outset, outset}
use Rattle.node_rules.specs.Reopening.{damage_at, damage_of, damaged, entries_in, is_opening, known_behind, may_restore, reopened, reopened_from, rests, stopped}
use Rattle.agreement_laws.specs.Statements.{Statement}
use Rattle.node_laws.specs.Restored.{IsSoundBook}
use Rattle.node_laws.specs.Sound.{IsSound}
use Rattle.node_laws.proofs.CutNodes.{sound_reopened}
use Rattle.node_laws.proofs.Damage.{one_read}
use Rattle.node_laws.proofs.Passes.{sound_begun}
use Rattle.node_laws.proofs.Restored.{book_sound}
use Rattle.replica_laws.proofs.FitNodes.{FitNode}
use Rattle.trail.specs.declared.opening.TrailOpening.{TrailOpening}
use Rattle.audit_rules.specs.declared.recorded.Recorded.{Recorded}
use Rattle.audit_rules.specs.Audits.{checkpoint_in, damage_over, first_node}
use Rattle.audit_rules.specs.Coherence.{IsFirstBook}
use Rattle.trail_agreement.proofs.Marks.{IsMarkOf}
use Rattle.trail_agreement.proofs.Runs.{IsRight}

-- ---- no checkpoint

same_bytes-self : (a : List ℕ) → same_bytes a a ≡ true
same_bytes-self [] = refl
same_bytes-self (x ∷ xs) = rw (eq-eqb x x refl, same_bytes-self xs) refl

none_by : (t : Bool) (bytes : List ℕ) → t ≡ true → cond t None (Some bytes) ≡ None
none_by true bytes is = refl
none_by false bytes is = absurd (cc)

no_checkpoint : {S : Type 0} (m : Meaning S) (o : TrailOpening) → o.snapshot ≡ snapshot_text m (empty m o.view) → checkpoint_in m o ≡ None
no_checkpoint m o is =
    none_by (same_bytes o.snapshot (snapshot_text m (empty m o.view))) o.snapshot
    (ap (λ (bytes : List ℕ). same_bytes bytes (snapshot_text m (empty m o.view))) is ∙ same_bytes-self (snapshot_text m (empty m o.view)))

-- the outset of a trail that begins with the empty replica
abbrev outset_in : {S : Type 0} → Meaning S → TrailOpening → Outset S
outset_in m o = outset m o.secret o.member o.view o.period

first_is : {S : Type 0} (m : Meaning S) (t : Recorded) → t.opening.snapshot ≡ snapshot_text m (empty m t.opening.view) → first_node m t ≡ reopened m (outset_in m t.opening) (entries_in t.entries)
unfolding first_node reopened_from
first_is m t is =
    ap (λ (c : Option (List ℕ)). reopened_from m t.opening.secret t.opening.member t.opening.view t.opening.period (record { snapshot = c; entries = t.entries })) (no_checkpoint m t.opening is)

undamaged : {S : Type 0} (m : Meaning S) (t : Recorded) → t.opening.snapshot ≡ snapshot_text m (empty m t.opening.view) → damage_over m t ≡ None → damaged t.opening.secret 0 (managed_of (empty m t.opening.view)) t.entries ≡ None
unfolding damage_of
undamaged m t is none =
    ap (λ (c : Option (List ℕ)). damage_of m t.opening.secret t.opening.view (record { snapshot = c; entries = t.entries })) (sym (no_checkpoint m t.opening is)) ∙ none

-- ---- no entry but an opening

as_opening : (e : LogEntry) → is_opening e ≡ true → (o : Opening) × (e ≡ Opened o)
as_opening (Opened o) is = (o, refl)
as_opening (Wrote w) is = absurd (cc)
as_opening (Accepted a) is = absurd (cc)
as_opening (Promised p) is = absurd (cc)
as_opening (Synced s) is = absurd (cc)
as_opening (Decided d) is = absurd (cc)
as_opening (Installed i) is = absurd (cc)
as_opening (Marked m) is = absurd (cc)

-- restored entries that are none, or an opening alone
abbrev AreFirst : List LogEntry → Type 0
AreFirst entries = (entries ≡ []) ⊎ ((o : Opening) × (entries ≡ Opened o ∷ []))

may_by : (t : Bool) (x : Option ℕ) (n : ℕ) → cond t x (Some n) ≡ None → t ≡ true
may_by true x n none = refl
may_by false x n none = absurd (cc)

first_read : (secret : List ℕ) (g : Managed) (bytes : List ℕ) (read : Result LogEntry ℕ) → entry_decoded bytes ≡ read → damage_at secret 0 g [] (λ entry. None) read ≡ None → AreFirst (entries_in (bytes ∷ []))
first_read secret g bytes (Err at) is none = absurd (cc)
first_read secret g bytes (Ok e) is none =
    let may : may_restore secret 0 g [] e ≡ true = may_by (may_restore secret 0 g [] e) None 1 none in
    let both = and_true (is_opening e && admits 0 1 [] e) (rests secret (known_behind 0 g []) e) may in
    let opens = as_opening e (and_true (is_opening e) (admits 0 1 [] e) both.0).0 in
    inr (opens.0, one_read e [] (entry_decoded bytes) is ∙ ap (λ (x : LogEntry). x ∷ []) opens.1)

first_entries : {S : Type 0} (m : Meaning S) (t : Recorded) → t.opening.snapshot ≡ snapshot_text m (empty m t.opening.view) → damage_over m t ≡ None → (entries : List (List ℕ)) → t.entries ≡ entries → IsFirstBook entries
    → AreFirst (entries_in entries)
first_entries m t is none [] same first = inl refl
first_entries m t is none (bytes ∷ []) same first =
    let g : Managed = managed_of (empty m t.opening.view) in
    first_read t.opening.secret g bytes (entry_decoded bytes) refl (ap (λ (es : List (List ℕ)). damaged t.opening.secret 0 g es) (sym same) ∙ undamaged m t is none)
first_entries m t is none (bytes ∷ (next ∷ rest)) same first = absurd first

-- ---- such a node

module _ {S : Type 0} (m : Meaning S) (stated : List Statement) (secret : List ℕ) (id : ℕ) (view : View) (period : ℕ) (named : IsSigner 1 id) (viewed : is_view view ≡ true) where
  -- a node whose book has an opening alone, of which so much was restored and is firm
  abbrev begun : Opening → ℕ → ℕ → Node S
  begun o restored firm = record (recording (stopped (outset m secret id view period)) (Opened o)) { restored = restored; firm = firm }

  fit-begun : (o : Opening) (restored firm : ℕ) → FitNode m secret (begun o restored firm)
  unfolding regency_of
  fit-begun o restored firm = record {
    named = named;
    shared = refl;
    view = viewed;
    views = (viewed, tt);
    regency = λ number. omega arith;
    lines = tt;
    pool = tt;
    arrivals = tt;
    told = tt;
    begun = tt;
    book = (tt, tt);
    waiting = tt;
    held = tt;
    service = comes_first;
    transfers = record {
      small = record { place_fits = omega arith; views_fit = (viewed, tt); few_views = omega arith; lines_fit = tt; lines_in_turn = tt; service_fits = comes_first };
      owned = tt;
      shown_fit = tt;
      offers_fit = tt;
      table_fits = tt;
      fetch_fits = tt;
    };
  }

  right-begun : (o : Opening) (restored firm : ℕ) → IsSound stated view (begun o restored firm) → IsRight m stated secret view id (begun o restored firm)
  right-begun o restored firm sound = record {
    sound = sound;
    rests = record { held = tt; waits = tt; lines = tt; views = tt };
    fit = fit-begun o restored firm;
    parts = tt;
    opening = refl;
    named = refl;
  }

  -- with no entry it opens its book
  right-new : IsRight m stated secret view id (reopened m (outset m secret id view period) [])
  unfolding reopened
  right-new =
      let o : Opening = record { member = id; period = period; view = view } in
      right-begun o 0 0 (sound_begun m stated secret id view period o viewed)

  book_begun : (o : Opening) → IsSoundBook secret stated (view ∷ []) (Opened o ∷ [])
  book_begun o = book_sound stated view (recording (stopped (outset m secret id view period)) (Opened o)) (sound_begun m stated secret id view period o viewed) refl

  no_installation : (o : Opening) → InstallUpTo 0 (Opened o ∷ [])
  no_installation o i (inl is) = absurd (cc)
  no_installation o i (inr none) = absurd none

  sound_opening : (o : Opening) → IsSound stated view (reopened m (outset m secret id view period) (Opened o ∷ []))
  unfolding views_after
  sound_opening o = sound_reopened m secret id stated view period (Opened o ∷ []) viewed (book_begun o) (no_installation o)

  right-opening : (o : Opening) → IsRight m stated secret view id (reopened m (outset m secret id view period) (Opened o ∷ []))
  unfolding reopened
  right-opening o = right-begun o 1 1 (sound_opening o)

  pub right-reopened : (entries : List LogEntry) → AreFirst entries → IsRight m stated secret view id (reopened m (outset m secret id view period) entries)
  right-reopened entries (inl none) = subst (λ (es : List LogEntry). IsRight m stated secret view id (reopened m (outset m secret id view period) es)) (sym none) right-new
  right-reopened entries (inr one) = subst (λ (es : List LogEntry). IsRight m stated secret view id (reopened m (outset m secret id view period) es)) (sym one.1) (right-opening one.0)

-- the node with which a fresh trail begins
pub right-first : {S : Type 0} (m : Meaning S) (stated : List Statement) (t : Recorded) → IsSigner 1 t.opening.member → is_view t.opening.view ≡ true
    → t.opening.snapshot ≡ snapshot_text m (empty m t.opening.view) → damage_over m t ≡ None → IsFirstBook t.entries → IsRight m stated t.opening.secret t.opening.view t.opening.member (first_node m t)
right-first {S = S} m stated t named viewed is none first =
    subst (λ (n : Node S). IsRight m stated t.opening.secret t.opening.view t.opening.member n) (sym (first_is m t is))
    (right-reopened m stated t.opening.secret t.opening.member t.opening.view t.opening.period named viewed (entries_in t.entries) (first_entries m t is none t.entries refl first))

-- its replica is the empty one, and its book has no mark
module _ {S : Type 0} (m : Meaning S) (o : TrailOpening) where
  replica_by : (entries : List LogEntry) → AreFirst entries → (reopened m (outset_in m o) entries).replica ≡ empty m o.view
  unfolding reopened
  replica_by entries (inl none) = ap (λ (es : List LogEntry). (reopened m (outset_in m o) es).replica) none
  replica_by entries (inr one) = ap (λ (es : List LogEntry). (reopened m (outset_in m o) es).replica) one.1

  unmarked_by : (R : Replica S → Type 0) (entries : List LogEntry) → AreFirst entries → Each (IsMarkOf m R) (reopened m (outset_in m o) entries).entries
  unfolding reopened
  unmarked_by R entries (inl none) = subst (λ (es : List LogEntry). Each (IsMarkOf m R) (reopened m (outset_in m o) es).entries) (sym none) (tt, tt)
  unmarked_by R entries (inr one) = subst (λ (es : List LogEntry). Each (IsMarkOf m R) (reopened m (outset_in m o) es).entries) (sym one.1) (tt, tt)

pub first_replica : {S : Type 0} (m : Meaning S) (t : Recorded) → t.opening.snapshot ≡ snapshot_text m (empty m t.opening.view) → damage_over m t ≡ None → IsFirstBook t.entries
    → (first_node m t).replica ≡ empty m t.opening.view
first_replica {S = S} m t is none first =
    ap (λ (n : Node S). n.replica) (first_is m t is) ∙ replica_by m t.opening (entries_in t.entries) (first_entries m t is none t.entries refl first)

pub first_unmarked : {S : Type 0} (m : Meaning S) (R : Replica S → Type 0) (t : Recorded) → t.opening.snapshot ≡ snapshot_text m (empty m t.opening.view) → damage_over m t ≡ None → IsFirstBook t.entries
    → Each (IsMarkOf m R) (first_node m t).entries
first_unmarked {S = S} m R t is none first =
    subst (λ (n : Node S). Each (IsMarkOf m R) n.entries) (sym (first_is m t is)) (unmarked_by m t.opening R (entries_in t.entries) (first_entries m t is none t.entries refl first))

pub first_place : {S : Type 0} (m : Meaning S) (t : Recorded) → t.opening.snapshot ≡ snapshot_text m (empty m t.opening.view) → damage_over m t ≡ None → IsFirstBook t.entries → (first_node m t).replica.place ≡ 0
first_place {S = S} m t is none first = ap (λ (r : Replica S). r.place) (first_replica m t is none first)
