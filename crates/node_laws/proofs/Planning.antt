-- What a plan rests on: its marks are those that the asker has, and what comes of it is a replica of its place whose table reaches no further.
use Rattle.std.proofs.Common.{◌≡◌, ℕ, zero, suc, arith, ◌+◌, ◌≤◌, ◌==◌, Bool, true, false, ◌&&◌, cond, nat_le, nat_lt, take, List, [], ◌∷◌, length, ap, sym, refl, ◌∙◌, subst, Option, Some, None, Result, Ok, Err}
use Rattle.std.proofs.lemmas.Bool.{eqb-true, leb-true}
use Rattle.std.specs.List.{cons_option, filter_map, flat_map}
use Rattle.std.specs.Prelude.{option_map}
use Rattle.smart_base.specs.Lists.{Each, same_bytes}
use Rattle.smart_base.specs.Views.{View}
use Rattle.smart_base.proofs.SameLists.{and_true, same_list-equal}
use Rattle.smart_statements.specs.Forms.{SignedBy}
use Rattle.smart_statements.specs.declared.report.Mark.{Mark}
use Rattle.smart_service.specs.Services.{Meaning}
use Rattle.smart_service.specs.Tables.{kept_in}
use Rattle.smart_service.specs.declared.replica.Replica.{Replica}
use Rattle.smart_service.specs.declared.table.Execution.{Execution}
use Rattle.smart_service.specs.declared.table.TableLine.{TableLine}
use Rattle.smart_keys.specs.Keys.{digest}
use Rattle.snapshot_form.specs.Snapshots.{is_tied, lines_above, lines_follow, read_parts, replica_read, restored}
use Rattle.snapshot_form.specs.declared.reading.Parts.{Parts}
use Rattle.snapshot_form.specs.Replicas.{views_follow}
use Rattle.state_marks.specs.Tables.{certified, is_mark_of}
use Rattle.state_transfer.specs.Fetches.{finished, formed, joined_of}
use Rattle.state_transfer.specs.Plans.{all_marks, certificate, counts, first_mark, planned, planned_by, seeded, seeder_of, usable}
use Rattle.state_transfer.specs.declared.choice.NotYet.{NotYet}
use Rattle.state_transfer.specs.declared.choice.Plan.{Plan}
use Rattle.state_transfer.specs.declared.choice.Seeder.{Seeder}
use Rattle.state_transfer.specs.declared.fetch.Fetch.{Fetch}
use Rattle.state_transfer.specs.declared.fetch.Spoiled.{Spoiled}
use Rattle.state_transfer.specs.declared.fetch.Spoiled.TheVariants.{Digest, Form}
use Rattle.state_transfer.proofs.Marks.{usable_is}
use Rattle.transfer_form.specs.declared.transfer.StateOffer.{StateOffer}
use Rattle.regency_sync.proofs.Lists.{each_filter}
use Rattle.agreement_laws.proofs.Lists.{each_among, each_append, each_take}
use Rattle.node_laws.proofs.Lists.{each_filter_map, found}

-- ---- the marks of a plan

abbrev Made : Plan → Result Plan NotYet
Made p = Ok p

-- it names the view, and its marks are those of a certificate
record IsSeeded (v : View) (table : List (SignedBy Mark)) (place : ℕ) (found_digest : List ℕ) (p : Plan) : Type 0 where
  pub view_is : p.view ≡ v.number
  pub marks_are : p.marks ≡ certificate v table (record { place = place; digest = found_digest })

seeded_is : (v : View) (table : List (SignedBy Mark)) (at : ℕ × List ℕ) (p : Plan) (s : Option Seeder) → seeded v table at s ≡ Made p → IsSeeded v table at.0 at.1 p
seeded_is v table at p None said = absurd (cc)
seeded_is v table at p (Some s) said = record { view_is = cc; marks_are = cc }

certificate_each : (P : SignedBy Mark → Type 0) (v : View) (table : List (SignedBy Mark)) (wanted : Mark) → Each P table → Each P (certificate v table wanted)
unfolding certificate
certificate_each P v table wanted all =
    each_take P (v.f + 1) (filter_map (first_mark table wanted) v.members)
    (each_filter_map P (first_mark table wanted) v.members (λ member x is. each_among P table x all (found (is_mark_of wanted member) table x is).there))

by_certified : (P : SignedBy Mark → Type 0) (offers : List StateOffer) (v : View) (table : List (SignedBy Mark)) (p : Plan) (at : Option (ℕ × List ℕ)) → Each P table → planned_by offers v table at ≡ Made p
    → (p.view ≡ v.number) × Each P p.marks
by_certified P offers v table p None all said = absurd (cc)
by_certified P offers v table p (Some at) all said =
    let is = seeded_is v table at p (seeder_of at.0 offers) said in
    (is.view_is, subst (λ (ms : List (SignedBy Mark)). Each P ms) (sym is.marks_are) (certificate_each P v table (record { place = at.0; digest = at.1 }) all))

-- a plan is of the view by which it is made, and what holds of each mark that the asker has holds of each of the plan
pub plan_each : (P : SignedBy Mark → Type 0) (offers : List StateOffer) (kept : List (SignedBy Mark)) (place : ℕ) (v : View) (p : Plan) → Each P (all_marks offers kept) → planned offers kept place v ≡ Ok p
    → (p.view ≡ v.number) × Each P p.marks
unfolding planned
plan_each P offers kept place v p all said =
    by_certified P offers v (usable offers kept place) p (certified v (usable offers kept place))
    (subst (λ (ms : List (SignedBy Mark)). Each P ms) (sym (usable_is offers kept place)) (each_filter P (counts offers place) (all_marks offers kept) all)) said

few_mapped : {A B : Type 0} (f : A → Option B) (xs : List A) → length (filter_map f xs) ≤ length xs
few_mapped f [] = omega arith
few_mapped {B = B} f (x ∷ xs) = by (f x) (few_mapped f xs)
  where
    by : (o : Option B) → length (filter_map f xs) ≤ length xs → length (cons_option o (filter_map f xs)) ≤ suc (length xs)
    by None rest = omega (arith, rest)
    by (Some y) rest = omega (arith, rest)

few_taken : {A : Type 0} (k : ℕ) (xs : List A) → length (take k xs) ≤ length xs
few_taken zero xs = omega arith
few_taken (suc k) [] = omega arith
few_taken (suc k) (x ∷ xs) = let rest = few_taken k xs in omega (arith, rest)

certificate_few : (v : View) (table : List (SignedBy Mark)) (wanted : Mark) → length (certificate v table wanted) ≤ length v.members
unfolding certificate
certificate_few v table wanted =
    let front = few_taken (v.f + 1) (filter_map (first_mark table wanted) v.members) in
    let all = few_mapped (first_mark table wanted) v.members in
    omega (arith, front, all)

few_certified : (offers : List StateOffer) (v : View) (table : List (SignedBy Mark)) (p : Plan) (at : Option (ℕ × List ℕ)) → planned_by offers v table at ≡ Made p → length p.marks ≤ length v.members
few_certified offers v table p None said = absurd (cc)
few_certified offers v table p (Some at) said =
    let is = seeded_is v table at p (seeder_of at.0 offers) said in
    subst (λ (ms : List (SignedBy Mark)). length ms ≤ length v.members) (sym is.marks_are) (certificate_few v table (record { place = at.0; digest = at.1 }))

-- it has no more marks than the view has members
pub plan_few : (offers : List StateOffer) (kept : List (SignedBy Mark)) (place : ℕ) (v : View) (p : Plan) → planned offers kept place v ≡ Ok p → length p.marks ≤ length v.members
unfolding planned
plan_few offers kept place v p said = few_certified offers v (usable offers kept place) p (certified v (usable offers kept place)) said

offers_each : (P : SignedBy Mark → Type 0) (offers : List StateOffer) → Each (λ o. Each P o.marks) offers → Each P (flat_map (λ (o : StateOffer). o.marks) offers)
offers_each P [] all = tt
offers_each P (o ∷ os) all = each_append P o.marks (flat_map (λ (x : StateOffer). x.marks) os) all.0 (offers_each P os all.1)

pub all_each_mark : (P : SignedBy Mark → Type 0) (offers : List StateOffer) (kept : List (SignedBy Mark)) → Each P kept → Each (λ o. Each P o.marks) offers → Each P (all_marks offers kept)
all_each_mark P offers kept own others = each_append P kept (flat_map (λ (o : StateOffer). o.marks) offers) own (offers_each P offers others)

-- ---- what comes of it

abbrev told : {S : Type 0} → Replica S → Result (Replica S) Spoiled
told r = Ok r

abbrev refused : {S : Type 0} → Spoiled → Result (Replica S) Spoiled
refused why = Err why

ok_is : {S : Type 0} (x y : Replica S) → told x ≡ told y → x ≡ y
ok_is x y same = cc

place_by : {S : Type 0} (place : ℕ) (x r : Replica S) (t : Bool) → (x.place == place) ≡ t → cond t (told x) (refused Form) ≡ told r → (x ≡ r) × (x.place ≡ place)
place_by place x r true is said = (ok_is x r said, eqb-true x.place place is)
place_by place x r false is said = absurd (cc)

formed_is : {S : Type 0} (place : ℕ) (o : Option (Replica S)) (r : Replica S) → formed place o ≡ Ok r → (o ≡ Some r) × (r.place ≡ place)
formed_is place None r said = absurd (cc)
formed_is {S = S} place (Some x) r said =
    let parts = place_by place x r (x.place == place) refl said in
    (ap (λ (y : Replica S). Some y) parts.0, ap (λ (y : Replica S). y.place) (sym parts.0) ∙ parts.1)

-- what is finished has the plan's digest and place, and is the replica of the joined bytes
pub record IsTakenFrom {S : Type 0} (m : Meaning S) (f : Fetch) (r : Replica S) : Type 0 where
  pub digest_is : digest (joined_of f) ≡ f.plan.digest
  pub read : restored m (joined_of f) ≡ Some r
  pub place_is : r.place ≡ f.plan.place

finished_by_digest : {S : Type 0} (m : Meaning S) (f : Fetch) (r : Replica S) (t : Bool) → same_bytes (digest (joined_of f)) f.plan.digest ≡ t
    → cond t (formed f.plan.place (restored m (joined_of f))) (refused (Digest (digest (joined_of f)))) ≡ told r → IsTakenFrom m f r
finished_by_digest m f r true is said =
    let parts = formed_is f.plan.place (restored m (joined_of f)) r said in
    record { digest_is = same_list-equal {A = ℕ} (λ a b. a == b) eqb-true (digest (joined_of f)) f.plan.digest is; read = parts.0; place_is = parts.1 }
finished_by_digest m f r false is said = absurd (cc)

pub finished_from : {S : Type 0} (m : Meaning S) (f : Fetch) (r : Replica S) → finished m f ≡ Ok r → IsTakenFrom m f r
unfolding finished
finished_from m f r said = finished_by_digest m f r (same_bytes (digest (joined_of f)) f.plan.digest) refl said

-- ---- a replica that was read tells of no place past its own

abbrev IsReadUpTo : ℕ → Execution → Type 0
IsReadUpTo place line = line.place ≤ place

lines_above_low : (place views client : ℕ) (lines : List TableLine) → lines_above place views client lines ≡ true → Each (IsReadUpTo place) (kept_in lines)
lines_above_low place views client [] is = tt
lines_above_low place views client (line ∷ lines) is =
    let a = and_true (nat_lt client line.last.client && nat_le line.last.place place && nat_lt line.last.view views) (lines_above place views line.last.client lines) is in
    let b = and_true (nat_lt client line.last.client && nat_le line.last.place place) (nat_lt line.last.view views) a.0 in
    let c = and_true (nat_lt client line.last.client) (nat_le line.last.place place) b.0 in
    (leb-true line.last.place place c.1, lines_above_low place views line.last.client lines a.1)

lines_low : (place views : ℕ) (lines : List TableLine) → lines_follow place views lines ≡ true → Each (IsReadUpTo place) (kept_in lines)
lines_low place views [] is = tt
lines_low place views (line ∷ lines) is =
    let a = and_true (nat_le line.last.place place && nat_lt line.last.view views) (lines_above place views line.last.client lines) is in
    let b = and_true (nat_le line.last.place place) (nat_lt line.last.view views) a.0 in
    (leb-true line.last.place place b.0, lines_above_low place views line.last.client lines a.1)

tied_low : (p : Parts) → is_tied p ≡ true → Each (IsReadUpTo p.place) (kept_in p.lines)
unfolding is_tied
tied_low p is = lines_low p.place (length p.views) p.lines (and_true (views_follow p.place p.views) (lines_follow p.place (length p.views) p.lines) is).1

abbrev with_service : {S : Type 0} → Parts → S → Replica S
with_service p s = record { service = s; table = p.lines; views = p.views; place = p.place }

service_low : {S : Type 0} (p : Parts) (o : Option S) (r : Replica S) → is_tied p ≡ true → option_map (λ (s : S). with_service p s) o ≡ Some r → Each (IsReadUpTo r.place) (kept_in r.table)
service_low p None r tied said = absurd (cc)
service_low {S = S} p (Some s) r tied said =
    let same : with_service p s ≡ r = cc in
    subst (λ (x : Replica S). Each (IsReadUpTo x.place) (kept_in x.table)) same (tied_low p tied)

parts_low : {S : Type 0} (m : Meaning S) (p : Parts) (r : Replica S) (t : Bool) → is_tied p ≡ t → cond t (option_map (λ (s : S). with_service p s) (m.restore p.service)) None ≡ Some r
    → Each (IsReadUpTo r.place) (kept_in r.table)
parts_low m p r true tied said = service_low p (m.restore p.service) r tied said
parts_low m p r false tied said = absurd (cc)

read_low : {S : Type 0} (m : Meaning S) (read : Result Parts ℕ) (r : Replica S) → replica_read m read ≡ Some r → Each (IsReadUpTo r.place) (kept_in r.table)
read_low m (Ok p) r said = parts_low m p r (is_tied p) refl said
read_low m (Err at) r said = absurd (cc)

pub restored_low : {S : Type 0} (m : Meaning S) (bytes : List ℕ) (r : Replica S) → restored m bytes ≡ Some r → Each (λ (line : Execution). line.place ≤ r.place) (kept_in r.table)
restored_low m bytes r said = read_low m (read_parts bytes) r said

-- ---- the views of a replica that was read follow each other

tied_follow : (p : Parts) → is_tied p ≡ true → views_follow p.place p.views ≡ true
unfolding is_tied
tied_follow p is = (and_true (views_follow p.place p.views) (lines_follow p.place (length p.views) p.lines) is).0

service_follow : {S : Type 0} (p : Parts) (o : Option S) (r : Replica S) → is_tied p ≡ true → option_map (λ (s : S). with_service p s) o ≡ Some r → views_follow r.place r.views ≡ true
service_follow p None r tied said = absurd (cc)
service_follow {S = S} p (Some s) r tied said =
    let same : with_service p s ≡ r = cc in
    subst (λ (x : Replica S). views_follow x.place x.views ≡ true) same (tied_follow p tied)

parts_follow : {S : Type 0} (m : Meaning S) (p : Parts) (r : Replica S) (t : Bool) → is_tied p ≡ t → cond t (option_map (λ (s : S). with_service p s) (m.restore p.service)) None ≡ Some r
    → views_follow r.place r.views ≡ true
parts_follow m p r true tied said = service_follow p (m.restore p.service) r tied said
parts_follow m p r false tied said = absurd (cc)

read_follow : {S : Type 0} (m : Meaning S) (read : Result Parts ℕ) (r : Replica S) → replica_read m read ≡ Some r → views_follow r.place r.views ≡ true
read_follow m (Ok p) r said = parts_follow m p r (is_tied p) refl said
read_follow m (Err at) r said = absurd (cc)

pub restored_follow : {S : Type 0} (m : Meaning S) (bytes : List ℕ) (r : Replica S) → restored m bytes ≡ Some r → views_follow r.place r.views ≡ true
restored_follow m bytes r said = read_follow m (read_parts bytes) r said
