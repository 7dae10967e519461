-- A replica has one spelling.
use Rattle.std.proofs.Common.{◌≡◌, ℕ, ◌<◌, ◌≤◌, Bool, true, false, List, ◌++◌, length, if◌then◌else◌, Result, Ok, Err, Option, Some, None, refl, sym, ap, subst, ◌∙◌, arith}
use Rattle.std.specs.Int.{w32}
use Rattle.std.specs.Prelude.{option_map, IfOk}
use Rattle.smart_base.specs.Bytes.{bytes-after}
use Rattle.smart_base.specs.Cuts.{Cut, IsBytes}
use Rattle.smart_base.specs.FieldLaws.{and_true}
use Rattle.smart_base.specs.Laws.{whole_takes, whole_again}
use Rattle.smart_base.specs.Spelling.{u32, u64, behind}
use Rattle.smart_base.specs.ViewBytes.{view_text}
use Rattle.smart_service.specs.Services.{Meaning, Restores}
use Rattle.smart_service.specs.Tables.{Ascends}
use Rattle.smart_service.specs.declared.fault.RestoreError.{RestoreError}
use Rattle.smart_service.specs.declared.replica.Replica.{Replica}
use Rattle.snapshot_form.specs.Replicas.{views_follow, FitsReplica}
use Rattle.snapshot_form.specs.Snapshots.{line_text, counted, parts_text, parts_of, snapshot_text, parts_at, lines_follow, is_tied, replica_of, replica_read, read_parts, restored}
use Rattle.snapshot_form.specs.declared.reading.Parts.{Parts}
use Rattle.snapshot_form.proofs.Parts.{AreParts, parts_law}
use Rattle.snapshot_form.proofs.Tied.{lines_fit, lines_order, lines_tested, each_line, few_lines, some_view}

abbrev begin : List ℕ → Cut
begin bytes = record { at = 0; left = bytes }

abbrev make_replica : {S : Type 0} → Parts → S → Replica S
make_replica p s = record { service = s; table = p.lines; views = p.views; place = p.place }

-- ---- what was read

mapped : {A B : Type 0} (f : A → B) (o : Option A) (y : B) → option_map f o ≡ Some y → (x : A) × (o ≡ Some x) × (f x ≡ y)
mapped f (Some x) y e = (x, refl, cc)
mapped f None y e = absurd cc

tested : {A : Type 0} (ok : Bool) (o : Option A) (y : A) → (if ok then o else None) ≡ Some y → (ok ≡ true) × (o ≡ Some y)
tested true o y e = (refl, e)
tested false o y e = absurd cc

was_read : {S : Type 0} (m : Meaning S) (read : Result Parts ℕ) (r : Replica S) → replica_read m read ≡ Some r → (p : Parts) × (read ≡ Ok p) × (replica_of m p ≡ Some r)
was_read m (Ok p) r e = (p, refl, e)
was_read m (Err at) r e = absurd cc

ties_of : (p : Parts) → is_tied p ≡ true → (views_follow p.place p.views ≡ true) × (lines_follow p.place (length p.views) p.lines ≡ true)
unfolding is_tied
ties_of p e = and_true (views_follow p.place p.views) (lines_follow p.place (length p.views) p.lines) e

-- parts that suit each other make a table
pub tied_order : (p : Parts) → is_tied p ≡ true → Ascends p.lines
tied_order p e = lines_order p.place (length p.views) p.lines (ties_of p e).1

-- and a list of views
pub tied_some : (p : Parts) → is_tied p ≡ true → 0 < length p.views
tied_some p e = some_view p.place p.views (ties_of p e).0

-- the service's part of bytes
own_part : (p : Parts) → IsBytes (parts_text p) → IsBytes p.service
own_part p h =
    bytes-after (u32 (length p.service)) p.service
    (bytes-after (counted line_text p.lines) (behind w32 p.service)
    (bytes-after (counted view_text p.views) (counted line_text p.lines ++ behind w32 p.service)
    (bytes-after (u64 p.place) (counted view_text p.views ++ (counted line_text p.lines ++ behind w32 p.service)) h)))

-- ---- both ways

module _ {S : Type 0} (m : Meaning S) (valid : S → Type 0)
    (restores : (s : S) → valid s → m.restore (m.snapshot s) ≡ Some s)
    (small : (s : S) → valid s → length (m.snapshot s) ≤ 12000000)
    (valid_restored : (s : S) (bytes : List ℕ) → IsBytes bytes → m.restore bytes ≡ Some s → valid s)
    (spelled : (s : S) (bytes : List ℕ) → IsBytes bytes → m.restore bytes ≡ Some s → bytes ≡ m.snapshot s) where
  -- a replica that fits has parts that fit
  parts_fit : (r : Replica S) → FitsReplica valid r → AreParts (parts_of m r)
  parts_fit r h = (
    h.place_fits,
    (
      ((some_view r.place r.views h.views_in_turn, h.few_views), h.views_fit),
      (
        (
          omega (arith, few_lines r.place (length r.views) r.table h.lines_fit h.lines_in_turn),
          each_line r.place (length r.views) r.table h.place_fits h.few_views h.lines_fit,
        ),
        omega (arith, small r.service h.service_fits),
      ),
    ),
  )

  tied : (r : Replica S) → FitsReplica valid r → is_tied (parts_of m r) ≡ true
  unfolding is_tied
  tied r h = rw (h.views_in_turn) (lines_tested r.place (length r.views) r.table h.lines_fit h.lines_in_turn)

  pub read_again : (r : Replica S) → FitsReplica valid r → restored m (snapshot_text m r) ≡ Some r
  unfolding snapshot_text
  read_again r h =
      ap (replica_read m) (whole_again AreParts parts_text parts_at parts_law (begin (parts_text (parts_of m r))) (parts_of m r) (parts_fit r h) refl)
      ∙ rw (tied r h, restores r.service h.service_fits) refl

  -- the replica of parts that were read from bytes
  made : (p : Parts) (r : Replica S) → IsBytes p.service → AreParts p → replica_of m p ≡ Some r → FitsReplica valid r × (p ≡ parts_of m r)
  made p r bytes h e =
      let t = tested (is_tied p) (option_map (λ s. make_replica p s) (m.restore p.service)) r e in
      let s = mapped (λ s. make_replica p s) (m.restore p.service) r t.1 in
      let ties = ties_of p t.0 in
      let lines = lines_fit p.place (length p.views) p.lines h.1.1.0.1 ties.1 in
      subst (λ (r : Replica S). FitsReplica valid r × (p ≡ parts_of m r)) s.2 (
        record {
          place_fits = h.0;
          views_fit = h.1.0.1;
          few_views = h.1.0.0.1;
          views_in_turn = ties.0;
          lines_fit = lines.0;
          lines_in_turn = lines.1;
          service_fits = valid_restored s.0 p.service bytes s.1;
        },
        same p s.0 (spelled s.0 p.service bytes s.1),
      )
    where
      same : (p : Parts) (s : S) → p.service ≡ m.snapshot s → p ≡ parts_of m (make_replica p s)
      same p s e = rw (← e) refl

  pub read_is : (bytes : List ℕ) (r : Replica S) → IsBytes bytes → restored m bytes ≡ Some r → FitsReplica valid r × (bytes ≡ snapshot_text m r)
  unfolding snapshot_text
  read_is bytes r each e =
      let w = was_read m (read_parts bytes) r e in
      let t = whole_takes AreParts parts_text parts_at parts_law (begin bytes) w.0 each w.1 in
      let part : IsBytes w.0.service = own_part w.0 (subst (λ (b : List ℕ). IsBytes b) t.1 each) in
      let f = made w.0 r part t.0 w.2 in
      (f.0, t.1 ∙ ap parts_text f.1)

  pub is_apart : (r s : Replica S) → FitsReplica valid r → FitsReplica valid s → snapshot_text m r ≡ snapshot_text m s → r ≡ s
  is_apart r s fits also e = alike r s (sym (read_again r fits) ∙ ap (restored m) e ∙ read_again s also)
    where
      alike : (r s : Replica S) → Some r ≡ Some s → r ≡ s
      alike r s e = cc

  pub is_found : (bytes : List ℕ) (x : Result (Replica S) RestoreError) → IsBytes bytes → Restores x (restored m bytes)
      → IfOk x (λ r. FitsReplica valid r × (bytes ≡ snapshot_text m r))
  is_found bytes (Ok r) each h = read_is bytes r each h
  is_found bytes (Err why) each h = tt

  pub is_only : (bytes : List ℕ) (x : Result (Replica S) RestoreError) → Restores x (restored m bytes) → (r : Replica S) → FitsReplica valid r
      → bytes ≡ snapshot_text m r → Restores x (Some r)
  is_only bytes x h r fits same =
      subst (λ (state : Option (Replica S)). Restores x state) (ap (restored m) same ∙ read_again r fits) h
