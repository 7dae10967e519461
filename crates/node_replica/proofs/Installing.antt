-- What a node installs, and views that go on from others, walked one by one.
use Rattle.std.proofs.Common.{◌≡◌, ℕ, zero, suc, ◌+◌, ◌<◌, ◌≤◌, max, nat_lt, Bool, true, false, ◌&&◌, cond, List, [], ◌∷◌, ◌++◌, length, drop, get_or, filter, Option, Some, None, is_some, is_none, Result, Ok, Err, OnOk, refl, ap, sym, subst, ◌∙◌, arith, append-nil}
use Rattle.std.proofs.lemmas.Bool.{ltb-true}
use Rattle.std.specs.List.{list_all}
use Rattle.smart_base.specs.Views.{View, is_view}
use Rattle.smart_base.proofs.SameLists.{and_true}
use Rattle.smart_statements.specs.Batches.{Batch}
use Rattle.regency_sync.specs.Synchronizers.{Synchronizer}
use Rattle.consensus_instance.specs.Instances.{Instance}
use Rattle.node_state.specs.Following.{Follows}
use Rattle.smart_service.specs.Services.{Meaning}
use Rattle.smart_service.specs.declared.replica.Replica.{Replica}
use Rattle.state_transfer.specs.Fetches.{are_all_there, finished}
use Rattle.state_transfer.specs.declared.fetch.Fetch.{Fetch}
use Rattle.state_transfer.specs.declared.fetch.Spoiled.{Spoiled}
use Rattle.vote_book.specs.Books.{last_made}
use Rattle.vote_book.proofs.Last.{last_push}
use Rattle.vote_book.specs.declared.entry.Installation.{Installation}
use Rattle.vote_book.specs.declared.entry.LogEntry.{LogEntry}
use Rattle.vote_book.specs.declared.entry.LogEntry.TheVariants.{Installed}
use Rattle.node_rules.specs.Nodes.{Node, entered}
use Rattle.node_rules.specs.Transfers.{is_ready, ready, installing, installed_by, install_replica, same_view, go_on, is_of_group, is_other_offer, spoil, install_by, install_fetch, told_install, install_told, installs}
use Rattle.node_rules.specs.Rules.{begun_in}
use Rattle.node_rules.specs.declared.node.Fired.{Fired}
use Rattle.node_rules.specs.declared.node.Fired.TheVariants as fires
use Rattle.node_rules.proofs.Entries.{by_finishing}
use Rattle.node_replica.specs.Begun.{number_begun, viewed}
use Rattle.node_replica.proofs.Begun.{viewed_by}
use Rattle.node_state.specs.Broken.{IsGrown, IsPartly}
use Rattle.node_state.proofs.Broken.{front_of, partly_none, partly_all}

-- ---- views that go on from others

both_false : (a b : Bool) → b ≡ false → (a && b) ≡ false
both_false true b is = is
both_false false b is = refl

pub goes_short : (place : ℕ) (known views : List View) → length views < length known → false ≡ go_on place known views
goes_short place [] views short = absurd (omega (arith, short))
goes_short place (v ∷ known) [] short = refl
goes_short place (v ∷ known) (w ∷ views) short = sym (both_false (same_view v w) (go_on place known views) (sym (goes_short place known views (omega (arith, short)))))

goes_at : (place : ℕ) (known views : List View) (i : ℕ) (x y : View) → i < length known → x ≡ get_or known i x → i < length views → y ≡ get_or views i y
    → go_on place (drop i known) (drop i views) ≡ (same_view x y && go_on place (drop (i + 1) known) (drop (i + 1) views))
goes_at place [] views i x y within is there at = absurd (omega arith)
goes_at place (v ∷ known) [] i x y within is there at = absurd (omega arith)
goes_at place (v ∷ known) (w ∷ views) zero x y within is there at =
    ap (λ (z : View). same_view z w && go_on place known views) (sym is) ∙ ap (λ (z : View). same_view x z && go_on place known views) (sym at)
goes_at place (v ∷ known) (w ∷ views) (suc i) x y within is there at =
    let next : suc (i + 1) ≡ suc i + 1 = omega arith in
    goes_at place known views i x y (omega arith) is (omega arith) at ∙ ap (λ k. same_view x y && go_on place (drop k (v ∷ known)) (drop k (w ∷ views))) next

pub goes_on : (place : ℕ) (known views : List View) (i : ℕ) (x y : View) (all : Bool) → i < length known → x ≡ get_or known i x → i < length views → y ≡ get_or views i y → same_view x y ≡ true
    → go_on place (drop i known) (drop i views) ≡ all → go_on place (drop (i + 1) known) (drop (i + 1) views) ≡ all
goes_on place known views i x y all within is there at same all_is =
    sym (goes_at place known views i x y within is there at ∙ ap (λ t. t && go_on place (drop (i + 1) known) (drop (i + 1) views)) same) ∙ all_is

pub goes_not : (place : ℕ) (known views : List View) (i : ℕ) (x y : View) (all : Bool) → i < length known → x ≡ get_or known i x → i < length views → y ≡ get_or views i y → same_view x y ≡ false
    → go_on place (drop i known) (drop i views) ≡ all → false ≡ all
goes_not place known views i x y all within is there at differ all_is =
    sym (goes_at place known views i x y within is there at ∙ ap (λ t. t && go_on place (drop (i + 1) known) (drop (i + 1) views)) differ) ∙ all_is

-- behind those that are known
pub goes_end : (place : ℕ) (known views : List View) (all : Bool) → go_on place (drop (length known) known) (drop (length known) views) ≡ all
    → list_all (λ (v : View). is_view v && nat_lt place v.start) (drop (length known) views) ≡ all
goes_end place known views all is = sym (ap (λ (vs : List View). go_on place vs (drop (length known) views)) (drop_all known)) ∙ is
  where
    drop_all : (vs : List View) → drop (length vs) vs ≡ []
    drop_all [] = refl
    drop_all (v ∷ vs) = drop_all vs

-- ---- the view that is entered

and_same : (a : Bool) → (a && true) ≡ a
and_same true = refl
and_same false = refl

-- a node that stays in its view
pub entered_here : {S : Type 0} (n : Node S) → entered true n ≡ n
entered_here n = rw (and_same n.stop_made, and_same n.sync_made) refl

and_none : (a : Bool) → (a && false) ≡ false
and_none true = refl
and_none false = refl

-- a node in another view
pub entered_anew : {S : Type 0} (n : Node S)
    → entered false n ≡ record n { arrivals = []; stops = []; reports = []; syncs = []; proposed = []; stop_made = false; sync_made = false }
entered_anew n = rw (and_none n.stop_made, and_none n.sync_made) refl

-- the last place of a book with an installation
pub last_anew : (entries : List LogEntry) (x : Installation) (place next : ℕ) (waiting : Option Batch) → last_made entries ≤ cond (is_some waiting) (place + 1) place → is_none waiting ≡ true → place < next → x.place ≡ next
    → last_made (entries ++ Installed x ∷ []) ≤ next
last_anew entries x place next (Some batch) last free past at = absurd (cc)
last_anew entries x place next None last free past at =
    let grown : last_made (entries ++ Installed x ∷ []) ≡ max (last_made entries) x.place = last_push entries (Installed x) in
    omega (arith, grown, last, past, at)

-- ---- what follows a replica that is kept

pub follows_kept : (id : ℕ) (kept view : View) (at place : ℕ) (waiting : Option Batch) (entries : List LogEntry) (i : Instance) (s : Synchronizer) → kept ≡ view → at ≡ place
    → Follows id view place waiting entries i s → Follows id kept at waiting entries i s
follows_kept id kept view at place waiting entries i s same stands is =
    subst (λ (v : View). Follows id v at waiting entries i s) (sym same) (subst (λ (p : ℕ). Follows id view p waiting entries i s) (sym stands) is)

-- what follows a replica that is taken over in another view
pub follows_anew : (id member : ℕ) (own kept : View) (at place : ℕ) (waiting : Option Batch) (entries : List LogEntry) (i : Instance) (s : Synchronizer) → member ≡ id → own ≡ kept → at ≡ place → is_none waiting ≡ true
    → Follows member own place None entries i s → Follows id kept at waiting entries i s
follows_anew id member own kept at place None entries i s who view stands free is =
    subst (λ (k : ℕ). Follows k kept at None entries i s) who
    (subst (λ (v : View). Follows member v at None entries i s) view (subst (λ (p : ℕ). Follows member own p None entries i s) (sym stands) is))
follows_anew id member own kept at place (Some batch) entries i s who view stands free is = absurd (cc)

-- what holds, holds of a success
pub on_ok : {A E P : Type 0} (r : Result A E) → P → OnOk r P
on_ok (Ok x) holds = holds
on_ok (Err e) holds = tt

-- ---- what is due

ready_by : {S : Type 0} (n : Node S) (f : Fetch) (t : Bool) → is_ready n f ≡ t → is_some (cond t (Some f) None) ≡ true → (cond t (Some f) None ≡ Some f) × (is_ready n f ≡ true)
ready_by n f true is some = (refl, is)
ready_by n f false is some = absurd (cc)

-- a plan that is to be installed is the one that stands
pub due_is : {S : Type 0} (n : Node S) (f : Fetch) → n.fetch ≡ Some f → is_some (installing n) ≡ true → (installing n ≡ Some f) × (is_ready n f ≡ true)
unfolding installing
due_is {S = S} n f stands some =
    let found : ready n n.fetch ≡ ready n (Some f) = ap (λ (o : Option Fetch). ready n o) stands in
    let both = ready_by n f (is_ready n f) refl (sym (ap (λ (o : Option Fetch). is_some o) found) ∙ some) in
    (found ∙ both.0, both.1)

pub none_due : {S : Type 0} (n : Node S) → n.fetch ≡ None → is_some (installing n) ≡ true → ⊥
unfolding installing
none_due n none some = let no : is_some (ready n n.fetch) ≡ false = ap (λ (o : Option Fetch). is_some (ready n o)) none in absurd (cc)

absent_by : {A : Type 0} (o : Option A) → is_some o ≡ false → o ≡ None
absent_by None none = refl
absent_by (Some x) none = absurd (cc)

pub installs_none : {S : Type 0} (m : Meaning S) (n : Node S) → is_some (installing n) ≡ false → installs m n ≡ n
unfolding installs install_fetch
installs_none m n none = ap (λ (o : Option Fetch). install_fetch m n o) (absent_by (installing n) none)

pub told_none : {S : Type 0} (m : Meaning S) (n : Node S) (fired : List Fired) → is_some (installing n) ≡ false → fired ≡ fired ++ install_told m n (installing n)
unfolding install_told
told_none m n fired none = sym (ap (λ (o : Option Fetch). fired ++ install_told m n o) (absent_by (installing n) none) ∙ append-nil fired)

-- ---- what is installed

apart_by : {S : Type 0} (n : Node S) (f : Fetch) (made : Result (Replica S) Spoiled) → install_by (record n { fetch = None }) f made ≡ install_by n f made
unfolding install_replica spoil
apart_by n f (Ok r) = refl
apart_by n f (Err why) = refl

told_apart : {S : Type 0} (n : Node S) (f : Fetch) (made : Result (Replica S) Spoiled) → told_install (record n { fetch = None }) f made ≡ told_install n f made
told_apart n f (Ok r) = refl
told_apart n f (Err why) = refl

-- the node from which the plan was taken out
pub apart_is : {S : Type 0} (n inside : Node S) (taken : Option Fetch) → inside ≡ n → taken ≡ None → record inside { fetch = taken } ≡ record n { fetch = None }
apart_is {S = S} n inside taken same none = ap (λ (o : Option Fetch). record inside { fetch = o }) none ∙ ap (λ (x : Node S). record x { fetch = None }) same

pub installs_is : {S : Type 0} (m : Meaning S) (n later : Node S) (f : Fetch) → n.fetch ≡ Some f → is_some (installing n) ≡ true → later ≡ record n { fetch = None } → install_by later f (finished m f) ≡ installs m n
unfolding installs install_fetch
installs_is {S = S} m n later f stands some apart =
    ap (λ (x : Node S). install_by x f (finished m f)) apart
    ∙ (apart_by n f (finished m f) ∙ sym (ap (λ (o : Option Fetch). install_fetch m n o) (due_is n f stands some).0))

pub told_is : {S : Type 0} (m : Meaning S) (n later : Node S) (f : Fetch) (fired : List Fired) → n.fetch ≡ Some f → is_some (installing n) ≡ true → later ≡ record n { fetch = None }
    → fired ++ told_install later f (finished m f) ≡ fired ++ install_told m n (installing n)
unfolding install_told
told_is {S = S} m n later f fired stands some apart =
    ap (λ (x : Node S). fired ++ told_install x f (finished m f)) apart
    ∙ (ap (λ (told : List Fired). fired ++ told) (told_apart n f (finished m f)) ∙ sym (ap (λ (o : Option Fetch). fired ++ install_told m n o) (due_is n f stands some).0))

pub ready_apart : {S : Type 0} (n later : Node S) (f : Fetch) → n.fetch ≡ Some f → is_some (installing n) ≡ true → later ≡ record n { fetch = None } → is_ready later f ≡ true
ready_apart {S = S} n later f stands some apart = ap (λ (x : Node S). is_ready x f) apart ∙ (due_is n f stands some).1

-- ---- by what its parts make

pub ready_where : {S : Type 0} (n : Node S) (f : Fetch) → is_ready n f ≡ true → (is_none n.waiting ≡ true) × (n.replica.place < f.plan.place)
ready_where n f is =
    let first = and_true (are_all_there f && is_none n.waiting) (nat_lt n.replica.place f.plan.place) is in
    let second = and_true (are_all_there f) (is_none n.waiting) first.0 in
    (second.1, ltb-true n.replica.place f.plan.place first.1)

pub by_group : {S : Type 0} (n : Node S) (f : Fetch) (r : Replica S) (made : Result (Replica S) Spoiled) → made ≡ Ok r → is_of_group n r ≡ true → install_by n f made ≡ install_replica n f r
by_group {S = S} n f r made is group =
    ap (λ (x : Result (Replica S) Spoiled). install_by n f x) is ∙ ap (λ t. cond t (install_replica n f r) (spoil n f)) group

pub by_stranger : {S : Type 0} (n : Node S) (f : Fetch) (r : Replica S) (made : Result (Replica S) Spoiled) → made ≡ Ok r → is_of_group n r ≡ false → install_by n f made ≡ spoil n f
by_stranger {S = S} n f r made is group =
    ap (λ (x : Result (Replica S) Spoiled). install_by n f x) is ∙ ap (λ t. cond t (install_replica n f r) (spoil n f)) group

pub by_fault : {S : Type 0} (n : Node S) (f : Fetch) (why : Spoiled) (made : Result (Replica S) Spoiled) → made ≡ Err why → install_by n f made ≡ spoil n f
by_fault {S = S} n f why made is = ap (λ (x : Result (Replica S) Spoiled). install_by n f x) is

pub told_group : {S : Type 0} (n : Node S) (f : Fetch) (r : Replica S) (made : Result (Replica S) Spoiled) → made ≡ Ok r → is_of_group n r ≡ true
    → told_install n f made ≡ fires.Installed f.plan.place ∷ viewed (number_begun n.replica.views r.views)
told_group {S = S} n f r made is group =
    ap (λ (x : Result (Replica S) Spoiled). told_install n f x) is
    ∙ (ap (λ t. cond t (fires.Installed f.plan.place ∷ begun_in n.replica r) (fires.Spoiled ∷ [])) group ∙ ap (λ (more : List Fired). fires.Installed f.plan.place ∷ more) (sym (viewed_by n.replica.views r.views)))

pub told_stranger : {S : Type 0} (n : Node S) (f : Fetch) (r : Replica S) (made : Result (Replica S) Spoiled) → made ≡ Ok r → is_of_group n r ≡ false → told_install n f made ≡ fires.Spoiled ∷ []
told_stranger {S = S} n f r made is group =
    ap (λ (x : Result (Replica S) Spoiled). told_install n f x) is ∙ ap (λ t. cond t (fires.Installed f.plan.place ∷ begun_in n.replica r) (fires.Spoiled ∷ [])) group

pub told_fault : {S : Type 0} (n : Node S) (f : Fetch) (why : Spoiled) (made : Result (Replica S) Spoiled) → made ≡ Err why → told_install n f made ≡ fires.Spoiled ∷ []
told_fault {S = S} n f why made is = ap (λ (x : Result (Replica S) Spoiled). told_install n f x) is

-- what is refused
pub refused : {S : Type 0} (n later : Node S) (f : Fetch) → n.fetch ≡ None → later ≡ record n { offers = filter (is_other_offer f.plan) n.offers } → later ≡ spoil n f
unfolding spoil
refused {S = S} n later f none is = is ∙ ap (λ (o : Option Fetch). record n { fetch = o; offers = filter (is_other_offer f.plan) n.offers }) none

-- ---- where it is stopped half-way

finish_grows : {S : Type 0} (n : Node S) (f : Fetch) (made : Result (Replica S) Spoiled) → IsGrown n.entries (install_by n f made).entries
finish_grows n f made = front_of 1 n.entries (install_by n f made).entries (by_finishing n f made)

pub finish_none : {S : Type 0} (n : Node S) (f : Fetch) (made : Result (Replica S) Spoiled) (now : List LogEntry) → now ≡ n.entries → IsPartly n.entries now (install_by n f made).entries
finish_none n f made now same = partly_none n.entries now (install_by n f made).entries same (finish_grows n f made)

pub finish_all : {S : Type 0} (n now : Node S) (f : Fetch) (made : Result (Replica S) Spoiled) → now ≡ install_by n f made → IsPartly n.entries now.entries (install_by n f made).entries
finish_all {S = S} n now f made is = partly_all n.entries now.entries (install_by n f made).entries (ap (λ (x : Node S). x.entries) is) (finish_grows n f made)

pub finish_part : {S : Type 0} (n : Node S) (f : Fetch) (r : Replica S) (made : Result (Replica S) Spoiled) (now : List LogEntry) → made ≡ Ok r → is_of_group n r ≡ true
    → IsPartly n.entries now (n.entries ++ installed_by f.plan ∷ []) → IsPartly n.entries now (install_by n f made).entries
unfolding install_replica
finish_part {S = S} n f r made now is group part =
    subst (λ (x : Node S). IsPartly n.entries now x.entries) (sym (by_group n f r made is group)) part

-- a refusal of memory ends an installation before its rule
pub installs_part : {S : Type 0} (m : Meaning S) (n later : Node S) (f : Fetch) (now : List LogEntry) → n.fetch ≡ Some f → is_some (installing n) ≡ true → later ≡ record n { fetch = None }
    → IsPartly later.entries now (install_by later f (finished m f)).entries → IsPartly n.entries now (installs m n).entries
installs_part {S = S} m n later f now stands some apart part =
    subst (λ (x : Node S). IsPartly n.entries now x.entries) (installs_is m n later f stands some apart)
    (subst (λ (es : List LogEntry). IsPartly es now (install_by later f (finished m f)).entries) (ap (λ (x : Node S). x.entries) apart) part)
