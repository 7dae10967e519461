-- A node that adopts the reports with which a leader began a regency stays sound.
use Rattle.std.proofs.Common.{Bool, List, None, Option, Some, ap, append-nil, arith, cond, false, inl, inr, nat_le, nat_lt, not, refl, subst, suc, sym, true, zero, ℕ, ⊎_elim, ◌≡◌, [], ◌≤◌, ◌<◌, ◌==◌, ◌&&◌, ◌++◌, ◌∷◌, ◌∙◌}
use Rattle.std.proofs.lemmas.Bool.{eqb-true, leb-true, ltb-false, ltb-true}
use Rattle.std.specs.List.{flat_map}
use Rattle.std.specs.Prelude.{is_none, is_some}
use Rattle.certificates.proofs.Reported.{collect-exact}
use Rattle.certificates.specs.Certificates.{AreSigned}
use Rattle.certificates.specs.Collects.{IsCollect, IsReportOf, collect_fault}
use Rattle.replica_rules.specs.Seals.{is_verified}
use Rattle.agreement_laws.specs.Certificates.{IsChosen, IsLockedReport}
use Rattle.agreement_laws.specs.Statements.{Statement}
use Rattle.node_rules.specs.Arrivals.{is_collect}
use Rattle.node_rules.specs.Changes.{adoption, adopts, adopts_by, is_adoptable, promised_for, start_by_sync}
use Rattle.node_rules.specs.Nodes.{Node, greatest_regency, view_start, is_begun, next_place, recording, regency_of, view_of}
use Rattle.regency_sync.specs.Choices.{choice}
use Rattle.regency_sync.specs.Synchronizers.{needs_sync}
use Rattle.smart_base.specs.Lists.{Each}
use Rattle.smart_base.specs.Views.{View, present}
use Rattle.smart_statements.specs.Forms.{SignedBy}
use Rattle.smart_statements.specs.Reports.{reports}
use Rattle.smart_messages.specs.declared.regency.Sync.{Sync}
use Rattle.smart_statements.specs.declared.report.Report.{Report}
use Rattle.vote_book.specs.Standing.{first_start}
use Rattle.vote_book.specs.Books.{Among}
use Rattle.vote_book.specs.declared.entry.LogEntry.{LogEntry}
use Rattle.vote_book.specs.declared.entry.LogEntry.TheVariants.{Promised, Synced}
use Rattle.vote_book.specs.declared.entry.Promise.{Promise}
use Rattle.vote_book.specs.declared.entry.Start.{Start}
use Rattle.node_laws.proofs.Books.{none_begins}
use Rattle.node_laws.proofs.Lists.{found}
use Rattle.node_laws.proofs.Nodes.{SyncKept, aside}
use Rattle.node_laws.proofs.Promised.{records_promise, records_start, regency_then}
use Rattle.node_laws.proofs.Stated.{covers}
use Rattle.node_laws.specs.Sound.{IsSound, IsStated, IsWithin}
use Rattle.smart_messages.specs.declared.message.Message.TheVariants as changes
use Rattle.agreement_laws.specs.Statements as says
use Rattle.agreement_laws.proofs.Lists.{among_either, among_left, each_among, each_from, not_true, among_flat}
use Rattle.smart_base.proofs.SameLists.{and_true}
use Rattle.smart_base.proofs.ViewFacts.{each-weaken}
use Rattle.node_rules.proofs.Options.{none_is}

-- ---- the choice of a collect that has been stated

locked_of : (secret : List ℕ) (v : View) (views : List View) (regency : ℕ) (items : List (SignedBy Report)) → AreSigned Report secret reports v (IsReportOf secret v views regency) items
    → AreSigned Report secret reports v (IsLockedReport secret v regency) items
locked_of secret v views regency items is = record {
  members = is.members;
  distinct = is.distinct;
  stated = each-weaken (λ (r : SignedBy Report). IsReportOf secret v views regency r.statement) (λ (r : SignedBy Report). IsLockedReport secret v regency r.statement)
      (λ r of. record { of_view = of.of_view; of_regency = of.of_regency; lock = of.lock }) items is.stated;
  verified = is.verified;
}

-- a report stands in the beginning that collects it
report_within : (s : SignedBy Sync) (r : SignedBy Report) → Among r s.statement.collect → Among (says.Reported r) (flat_map says.within (says.said (changes.Sync s)))
report_within s r there =
    inr (among_left (says.Reported r) (flat_map says.in_report s.statement.collect) []
    (among_flat says.in_report s.statement.collect r (says.Reported r) there (inl refl)))

chosen_by : (secret : List ℕ) (stated : List Statement) (views : List View) (s : SignedBy Sync) → IsStated secret stated (changes.Sync s)
    → IsCollect secret views s.statement.regency s.statement.collect → IsChosen secret (present views) stated (start_by_sync s.statement)
unfolding choice
chosen_by secret stated views s was collect =
    let items : List (SignedBy Report) = s.statement.collect in
    record {
      items = items;
      collect = record { signed = locked_of secret (present views) views s.statement.regency items collect.0; enough = collect.1 };
      drawn = each_from (λ r. Among (says.Reported r) stated) items
          (λ r there. covers secret stated (changes.Sync s) was (says.Reported r) (report_within s r there)
          (each_among (λ r. is_verified reports secret r ≡ true) items r collect.0.verified there));
      choice_is = refl;
    }

pub sync_chosen : {S : Type 0} (stated : List Statement) (n : Node S) (s : SignedBy Sync) → SyncKept n stated s
    → s.statement.view ≡ (view_of n).number → IsChosen n.secret (view_of n) stated (start_by_sync s.statement)
unfolding is_collect
sync_chosen stated n s kept at =
    let fault = collect_fault n.secret n.replica.views s.statement.regency s.statement.collect in
    let valid : is_none fault ≡ true = (kept.0.1 at).1 in
    chosen_by n.secret stated n.replica.views s kept.1
    ((collect-exact n.secret n.replica.views s.statement.regency s.statement.collect).0 (none_is fault valid))

-- ---- a beginning that is adopted

pub record Adopts {S : Type 0} (n : Node S) (s : SignedBy Sync) : Type 0 where
  pub there : Among s n.syncs
  pub view_is : s.statement.view ≡ (view_of n).number
  pub least : regency_of n ≤ s.statement.regency
  pub some : 0 < s.statement.regency
  pub once : s.statement.regency ≡ regency_of n → is_some (first_start (view_of n).number (regency_of n) n.entries) ≡ false

-- a regency that has not begun is not the first, and no entry begins it
fresh_parts : (first : Bool) (start : Start) (later : Option Start) → is_some (cond first (Some start) later) ≡ false → (first ≡ false) × (is_some later ≡ false)
fresh_parts true start later fresh = absurd (cc)
fresh_parts false start later fresh = (refl, fresh)

past_first : (r : ℕ) → (r == 0) ≡ false → 0 < r
past_first zero later = absurd (cc)
past_first (suc r) later = omega arith

adopts_it : {S : Type 0} (n : Node S) (s : SignedBy Sync) → adoption n ≡ Some s → Adopts n s
unfolding adoption
adopts_it n s is =
    let f = found (is_adoptable n) n.syncs s is in
    let r : ℕ = s.statement.regency in
    let outer = and_true (needs_sync (view_of n).number (regency_of n) s) (not (is_begun n r)) f.passes in
    let inner = and_true (s.statement.view == (view_of n).number) (nat_le (regency_of n) r) outer.0 in
    let fresh = fresh_parts (r == 0) (view_start (view_of n)) (first_start (view_of n).number r n.entries) (not_true (is_begun n r) outer.1) in
    record {
      there = f.there;
      view_is = eqb-true s.statement.view (view_of n).number inner.0;
      least = leb-true (regency_of n) r inner.1;
      some = past_first r fresh.0;
      once = λ same. subst (λ (k : ℕ). is_some (first_start (view_of n).number k n.entries) ≡ false) same fresh.1;
    }

-- the node with the entries of an adoption
with_entries : {S : Type 0} → Node S → List LogEntry → Node S
with_entries n es = record n { entries = es }

-- a regency that is in force begins
begins_now : {S : Type 0} (stated : List Statement) (view : View) (n : Node S) (s : SignedBy Sync) → IsSound stated view n → Adopts n s → s.statement.regency ≡ regency_of n
    → IsChosen n.secret (view_of n) stated (start_by_sync s.statement) → IsSound stated view (with_entries n (n.entries ++ Synced (start_by_sync s.statement) ∷ []))
unfolding with_entries
begins_now stated view n s is a same chosen =
    records_start stated view n (start_by_sync s.statement) is a.view_is same a.some
    (λ other there v r. none_begins (view_of n).number (regency_of n) n.entries other (a.once same) there (v ∙ a.view_is) (r ∙ same)) chosen

-- no entry begins a regency past the one in force
none_later : (views : List View) (place : ℕ) (es : List LogEntry) (p : Promise) (start other : Start) → Each (IsWithin views place es) es → greatest_regency start.view es < start.regency
    → Among (Synced other) (es ++ Promised p ∷ []) → other.view ≡ start.view → other.regency ≡ start.regency → ⊥
none_later views place es p start other all later there of same =
    ⊎_elim
    (λ (before : Among (Synced other) es).
    let is = each_among (IsWithin views place es) es (Synced other) all before in
    let most : other.regency ≤ greatest_regency other.view es = is.most in
    let view : greatest_regency other.view es ≡ greatest_regency start.view es = ap (λ (k : ℕ). greatest_regency k es) of in
    omega (arith, most, later, same, view))
    (λ (last : Among (Synced other) (Promised p ∷ [])). ⊎_elim (λ (clash : Synced other ≡ Promised p). cc) (λ none. absurd none) last)
    (among_either (Synced other) es (Promised p ∷ []) there)

-- a later regency is promised, and begins
begins_later : {S : Type 0} (stated : List Statement) (view : View) (n : Node S) (s : SignedBy Sync) → IsSound stated view n → Adopts n s → regency_of n < s.statement.regency
    → IsChosen n.secret (view_of n) stated (start_by_sync s.statement)
    → IsSound stated view (with_entries n ((n.entries ++ Promised (record { view = s.statement.view; regency = s.statement.regency }) ∷ []) ++ Synced (start_by_sync s.statement) ∷ []))
unfolding with_entries regency_of
begins_later {S = S} stated view n s is a later chosen =
    let p : Promise = record { view = s.statement.view; regency = s.statement.regency } in
    let m : Node S = recording n (Promised p) in
    let promised : IsSound stated view m = records_promise stated view n p is a.view_is later in
    let low : greatest_regency s.statement.view n.entries < s.statement.regency = subst (λ (k : ℕ). greatest_regency k n.entries < s.statement.regency) (sym a.view_is) later in
    records_start stated view m (start_by_sync s.statement) promised a.view_is (sym (regency_then n p a.view_is later)) a.some
    (λ other there v r. none_later n.replica.views (next_place n) n.entries p (start_by_sync s.statement) other is.within low there v r) chosen

entries_by : {S : Type 0} (stated : List Statement) (view : View) (n : Node S) (s : SignedBy Sync) (later : Bool) → nat_lt (regency_of n) s.statement.regency ≡ later
    → IsSound stated view n → Adopts n s → IsChosen n.secret (view_of n) stated (start_by_sync s.statement)
    → IsSound stated view (with_entries n
    ((n.entries ++ cond later (Promised (record { view = s.statement.view; regency = s.statement.regency }) ∷ []) []) ++ Synced (start_by_sync s.statement) ∷ []))
entries_by stated view n s true at is a chosen =
    begins_later stated view n s is a (ltb-true (regency_of n) s.statement.regency at) chosen
entries_by stated view n s false at is a chosen =
    let least : s.statement.regency ≤ regency_of n = ltb-false (regency_of n) s.statement.regency at in
    let most : regency_of n ≤ s.statement.regency = a.least in
    subst (λ (es : List LogEntry). IsSound stated view (with_entries n (es ++ Synced (start_by_sync s.statement) ∷ []))) (sym (append-nil n.entries))
    (begins_now stated view n s is a (omega (arith, least, most)) chosen)

adopts_with : {S : Type 0} (stated : List Statement) (view : View) (n : Node S) (o : Option (SignedBy Sync)) → IsSound stated view n → adoption n ≡ o → IsSound stated view (adopts_by n o)
unfolding adopts_by with_entries
adopts_with stated view n None is at = is
adopts_with {S = S} stated view n (Some s) is at =
    let a = adopts_it n s at in
    let kept = each_among (SyncKept n stated) n.syncs s is.syncs a.there in
    let r : ℕ = s.statement.regency in
    let es : List LogEntry = (n.entries ++ promised_for n s.statement) ++ Synced (start_by_sync s.statement) ∷ [] in
    let begun : IsSound stated view (with_entries n es) = entries_by stated view n s (nat_lt (regency_of n) r) refl is a (sync_chosen stated n s kept a.view_is) in
    aside stated view (with_entries n es) n.firm n.held n.proposed (n.stop_made && (r == regency_of n)) (n.sync_made && (r == regency_of n)) false n.behind begun begun.held begun.late

pub sound_adopts : {S : Type 0} (stated : List Statement) (view : View) (n : Node S) → IsSound stated view n → IsSound stated view (adopts n)
unfolding adopts
sound_adopts stated view n is = adopts_with stated view n (adoption n) is refl
