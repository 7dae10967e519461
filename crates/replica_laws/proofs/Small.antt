-- The snapshots of a node's replicas are small, whatever view they began in.
use Rattle.std.proofs.Common.{◌≡◌, ℕ, ◌+◌, ◌*◌, ◌^◌, ◌<◌, ◌≤◌, ◌==◌, Bool, true, false, ltb, List, [], ◌∷◌, ◌++◌, length, refl, ap, sym, subst, cond, arith, Some, inl, inr}
use Rattle.std.specs.Int.{w32}
use Rattle.std.specs.List.{flat_map, AllByRecursion}
use Rattle.std.proofs.lemmas.List.{length-append}
use Rattle.std.proofs.lemmas.List.Concat.{flat_map-cons}
use Rattle.smart_base.specs.Cuts.{IsBytes}
use Rattle.smart_base.specs.Lists.{Each}
use Rattle.smart_base.specs.Spelling.{u8, u16, u32, u64, behind, IsCount}
use Rattle.smart_base.specs.Views.{View, is_view, present}
use Rattle.smart_base.specs.ViewBytes.{view_text}
use Rattle.agreement_laws.proofs.Lists.{each_end}
use Rattle.smart_base.proofs.ViewFacts.{each-weaken}
use Rattle.smart_base.proofs.ViewLaws.{members-few}
use Rattle.smart_statements.specs.Batches.{Batch}
use Rattle.smart_statements.specs.Kinds.{requests}
use Rattle.smart_statements.specs.Spelling.{FitsSigned, FitsRequest}
use Rattle.smart_statements.specs.declared.statement.Request.{Request}
use Rattle.smart_service.specs.Services.{Meaning, Comes, comes_next, comes_restored}
use Rattle.smart_service.specs.Tables.{Ascends, with_line, kept_in, noting}
use Rattle.smart_service.specs.declared.replica.Replica.{Replica}
use Rattle.smart_service.specs.declared.table.Execution.{Execution}
use Rattle.smart_service.specs.declared.table.TableLine.{TableLine}
use Rattle.smart_service.proofs.Coming.{comes_valid}
use Rattle.smart_service.proofs.TableLines.{ascends_with}
use Rattle.replica_rules.specs.Replicas.{is_next, is_of_manager, outcome_at, reply_made, service_made, views_made, line_of, execute, execute_all, at_next, delivered}
use Rattle.reconfig.specs.Outcomes.{reply_of, views_behind}
use Rattle.reconfig.proofs.Replies.{brief as reply_brief}
use Rattle.replica_rules.proofs.Managed.{AtMostOne, one_outcome}
use Rattle.replica_rules.proofs.Places.{place_execute}
use Rattle.snapshot_form.proofs.Executed.{number_count, number_low}
use Rattle.snapshot_form.specs.Replicas as snapshots
use Rattle.snapshot_form.specs.Replicas.{FitsReplica, IsOfClients}
use Rattle.snapshot_form.specs.Snapshots.{line_text, counted, restored, snapshot_text}
use Rattle.snapshot_form.proofs.Spelled.{read_is}
use Rattle.snapshot_form.proofs.Tied.{few_lines}

-- ---- a brief service

-- In the states that the service comes to, replies have at most 4,096 bytes and snapshots at most 12,000,000. A snapshot restores its state, and
-- no other bytes do.
pub record IsBrief {S : Type 0} (m : Meaning S) : Type 0 where
  pub brief : (s : S) (op : List ℕ) → Comes m s → length (m.reply s op) ≤ 4096
  pub small : (s : S) → Comes m s → length (m.snapshot s) ≤ 12000000
  pub restores : (s : S) → Comes m s → m.restore (m.snapshot s) ≡ Some s
  pub spelled : (s : S) (bytes : List ℕ) → IsBytes bytes → m.restore bytes ≡ Some s → bytes ≡ m.snapshot s

-- so it is where all of that holds of valid states
pub brief_where : {S : Type 0} (m : Meaning S) (valid : S → Type 0) → valid m.first → ((s : S) (op : List ℕ) → valid s → valid (m.next s op))
    → ((s : S) (bytes : List ℕ) → IsBytes bytes → m.restore bytes ≡ Some s → valid s) → ((s : S) (op : List ℕ) → valid s → length (m.reply s op) ≤ 4096)
    → ((s : S) → valid s → length (m.snapshot s) ≤ 12000000) → ((s : S) → valid s → m.restore (m.snapshot s) ≡ Some s)
    → ((s : S) (bytes : List ℕ) → IsBytes bytes → m.restore bytes ≡ Some s → bytes ≡ m.snapshot s) → IsBrief m
brief_where m valid first next back brief small restores spelled = record {
  brief = λ s op is. brief s op (comes_valid m valid first next back s is);
  small = λ s is. small s (comes_valid m valid first next back s is);
  restores = λ s is. restores s (comes_valid m valid first next back s is);
  spelled = spelled;
}

-- ---- small replicas

-- a line of a client that there is, of whatever view
abbrev pub IsSmallLine : ℕ → TableLine → Type 0
IsSmallLine place line = snapshots.FitsLine place (2 ^ 32) line

-- a replica with a snapshot that is small
pub record IsSmall {S : Type 0} (m : Meaning S) (r : Replica S) : Type 0 where
  pub place_fits : r.place < 2 ^ 63
  pub views_fit : Each (λ v. is_view v ≡ true) r.views
  pub few_views : length r.views ≤ (present r.views).number + 1
  pub lines_fit : Each (IsSmallLine r.place) r.table
  pub lines_in_turn : Ascends r.table
  pub service_fits : Comes m r.service

-- views that are valid have numbers up to 1,023
pub present_low : (vs : List View) → Each (λ v. is_view v ≡ true) vs → (present vs).number ≤ 1023
present_low [] all = omega arith
present_low (v ∷ []) all = number_low v all.0
present_low (v ∷ w ∷ vs) all = present_low (w ∷ vs) all.1

-- so they are at most 1,024
pub small_few : {S : Type 0} (m : Meaning S) (r : Replica S) → IsSmall m r → length r.views ≤ 1024
small_few m r h = let few = h.few_views in let low = present_low r.views h.views_fit in omega (arith, few, low)

-- a line of fewer views
line_wider : (place views : ℕ) → views ≤ 1024 → (line : TableLine) → snapshots.FitsLine place views line → IsSmallLine place line
line_wider place views few line h = record {
  client_fits = h.client_fits;
  seq_fits = h.seq_fits;
  some_place = h.some_place;
  past_place = h.past_place;
  index_fits = h.index_fits;
  view_fits = (let low = h.view_fits in omega (arith, low, few));
  reply_fits = h.reply_fits;
}

-- a replica that fits is
pub small-fits : {S : Type 0} (m : Meaning S) (r : Replica S) → FitsReplica (Comes m) r → IsSmall m r
small-fits m r h = record {
  place_fits = h.place_fits;
  views_fit = h.views_fit;
  few_views = (let count = number_count r.place r.views h.views_in_turn in omega (arith, count));
  lines_fit = each-weaken (snapshots.FitsLine r.place (length r.views)) (IsSmallLine r.place) (line_wider r.place (length r.views) h.few_views) r.table h.lines_fit;
  lines_in_turn = h.lines_in_turn;
  service_fits = h.service_fits;
}

-- and so is one that bytes are read as
pub small-restored : {S : Type 0} (m : Meaning S) → IsBrief m → (bytes : List ℕ) (r : Replica S) → IsBytes bytes → restored m bytes ≡ Some r → IsSmall m r
small-restored m brief bytes r are read =
    small-fits m r (read_is m (Comes m) brief.restores brief.small (λ s other of back. comes_restored s other of back) brief.spelled bytes r are read).0

-- which is its snapshot
pub restored_text : {S : Type 0} (m : Meaning S) → IsBrief m → (bytes : List ℕ) (r : Replica S) → IsBytes bytes → restored m bytes ≡ Some r → bytes ≡ snapshot_text m r
restored_text m brief bytes r are read =
    (read_is m (Comes m) brief.restores brief.small (λ s other of back. comes_restored s other of back) brief.spelled bytes r are read).1

-- ---- a batch is delivered

each_if : (P : TableLine → Type 0) (b : Bool) (xs ys : List TableLine) → Each P xs → Each P ys → Each P (cond b xs ys)
each_if P true xs ys ex ey = ex
each_if P false xs ys ex ey = ey

-- a table with one more line
each_with : (P : TableLine → Type 0) (table : List TableLine) (line : TableLine) → Each P table → P line → Each P (with_line table line)
each_with P [] line each is = (is, tt)
each_with P (old ∷ olds) line each is =
    each_if P (old.last.client == line.last.client) (line ∷ olds) (cond (ltb line.last.client old.last.client) (line ∷ old ∷ olds) (old ∷ with_line olds line)) (is, each.1)
    (each_if P (ltb line.last.client old.last.client) (line ∷ old ∷ olds) (old ∷ with_line olds line) (is, each) (each.0, each_with P olds line each.1 is))

line_later : (place : ℕ) (line : TableLine) → IsSmallLine place line → IsSmallLine (place + 1) line
line_later place line h = record {
  client_fits = h.client_fits;
  seq_fits = h.seq_fits;
  some_place = h.some_place;
  past_place = (let past = h.past_place in omega (arith, past));
  index_fits = h.index_fits;
  view_fits = h.view_fits;
  reply_fits = h.reply_fits;
}

pub small-next : {S : Type 0} (m : Meaning S) (r : Replica S) → r.place + 1 < 2 ^ 63 → IsSmall m r → IsSmall m (at_next r)
small-next m r low h = record {
  place_fits = low;
  views_fit = h.views_fit;
  few_views = h.few_views;
  lines_fit = each-weaken (IsSmallLine r.place) (IsSmallLine (r.place + 1)) (line_later r.place) r.table h.lines_fit;
  lines_in_turn = h.lines_in_turn;
  service_fits = h.service_fits;
}

small-if : {S : Type 0} (m : Meaning S) (b : Bool) (x y : Replica S) → IsSmall m x → IsSmall m y → IsSmall m (cond b x y)
small-if m true x y one other = one
small-if m false x y one other = other

-- the views that a request makes
record SmallViews (views : List View) : Type 0 where
  pub valid : Each (λ v. is_view v ≡ true) views
  pub few : length views ≤ (present views).number + 1

pub present_end : (vs : List View) (v : View) → present (vs ++ v ∷ []) ≡ v
present_end [] v = refl
present_end (w ∷ []) v = refl
present_end (w ∷ x ∷ ws) v = present_end (x ∷ ws) v

small-begun : (place : ℕ) (views more : List View) → place < 2 ^ 63 → SmallViews views → AtMostOne place views more → SmallViews more
small-begun place views more low h (inl same) = subst SmallViews (sym same) h
small-begun place views more low h (inr one) =
    let v : View = one.0 in
    let numbered = one.2.number_is in
    let long = length-append views (v ∷ []) in
    let few = h.few in
    let last : (present (views ++ v ∷ [])).number ≡ v.number = ap (λ (u : View). u.number) (present_end views v) in
    subst SmallViews (sym one.1) (record { valid = each_end (λ w. is_view w ≡ true) views v h.valid (one.2.valid low); few = omega (arith, long, few, numbered, last) })

small-made : {S : Type 0} (m : Meaning S) (r : Replica S) (q : Request) → IsSmall m r → SmallViews (views_made r q)
small-made m r q h = by (is_of_manager q)
  where
    own : SmallViews r.views
    own = record { valid = h.views_fit; few = h.few_views }

    by : (c : Bool) → SmallViews (cond c (views_behind r.views (outcome_at r q)) r.views)
    by true = small-begun r.place r.views (views_behind r.views (outcome_at r q)) h.place_fits own (one_outcome r.place r.views q.op (outcome_at r q) refl)
    by false = own

-- its reply, and what it leaves of the service
pub small-reply : {S : Type 0} (m : Meaning S) → IsBrief m → (r : Replica S) (q : Request) → Comes m r.service → length (reply_made m r q) ≤ 4096
small-reply m brief r q come = by (is_of_manager q)
  where
    by : (c : Bool) → length (cond c (reply_of (outcome_at r q)) (m.reply r.service q.op)) ≤ 4096
    by true = reply_brief r.views q.op r.place
    by false = brief.brief r.service q.op come

small-service : {S : Type 0} (m : Meaning S) (r : Replica S) (q : Request) → Comes m r.service → Comes m (service_made m r q)
small-service m r q come = by (is_of_manager q)
  where
    by : (c : Bool) → Comes m (cond c r.service (m.next r.service q.op))
    by true = come
    by false = comes_next r.service q.op come

pub small-execute : {S : Type 0} (m : Meaning S) → IsBrief m → (r : Replica S) (i : ℕ) (q : Request) → 1 ≤ r.place → i < 64 → q.client ≤ 1024 → IsCount q.seq → IsSmall m r → IsSmall m (execute m r i q)
unfolding execute
small-execute m brief r i q some low known count h =
    let made = small-made m r q h in
    small-if m (is_next r.table q) (record { service = service_made m r q; table = noting r.table (line_of m r i q); views = views_made r q; place = r.place }) r (record {
      place_fits = h.place_fits;
      views_fit = made.valid;
      few_views = made.few;
      lines_fit = each_with (IsSmallLine r.place) r.table (record { last = line_of m r i q }) h.lines_fit (record {
        client_fits = known;
        seq_fits = count;
        some_place = some;
        past_place = omega arith;
        index_fits = low;
        view_fits = (let number = present_low r.views h.views_fit in omega (arith, number));
        reply_fits = small-reply m brief r q h.service_fits;
      });
      lines_in_turn = ascends_with r.table (record { last = line_of m r i q }) h.lines_in_turn;
      service_fits = small-service m r q h.service_fits;
    }) h

small-all : {S : Type 0} (m : Meaning S) → IsBrief m → (r : Replica S) (i : ℕ) (qs : Batch) → 1 ≤ r.place → i + length qs ≤ 64 → Each (λ q. q.statement.client ≤ 1024) qs
    → AllByRecursion (FitsSigned requests FitsRequest) qs → IsSmall m r → IsSmall m (execute_all m r i qs)
small-all m brief r i [] some few known each h = h
small-all m brief r i (q ∷ qs) some few known each h =
    let place = place_execute m r i q.statement in
    small-all m brief (execute m r i q.statement) (i + 1) qs (omega (arith, some, place)) (omega (arith, few)) known.1 each.1
    (small-execute m brief r i q.statement some (omega (arith, few)) known.0 each.0.statement_fits.seq_fits h)

pub small-delivered : {S : Type 0} (m : Meaning S) → IsBrief m → (r : Replica S) (batch : Batch) → r.place + 1 < 2 ^ 63 → IsOfClients batch → IsSmall m r → IsSmall m (delivered m r batch)
unfolding delivered
small-delivered m brief r batch low of h =
    small-all m brief (at_next r) 0 batch (omega arith) (let few = of.0.count_fits.1 in omega (arith, few)) of.1 of.0.each_fits (small-next m r low h)

-- ---- how long a snapshot is

members_length : (ms : List ℕ) → length (flat_map u16 ms) ≡ 2 * length ms
members_length [] = omega arith
members_length (m ∷ ms) = omega (arith, ap length (flat_map-cons u16 m ms), length-append (u16 m) (flat_map u16 ms), members_length ms)

short_view : (v : View) → is_view v ≡ true → length (view_text v) ≤ 77
unfolding view_text
short_view v h =
    let ms = flat_map u16 v.members in
    let n = u16 (length v.members) in
    omega (arith, members-few v h, members_length v.members, length-append n ms, length-append (u8 v.f) (n ++ ms), length-append (u64 v.start) (u8 v.f ++ (n ++ ms)), length-append (u32 v.number) (u64 v.start ++ (u8 v.f ++ (n ++ ms))))

short_views : (vs : List View) → Each (λ v. is_view v ≡ true) vs → length (flat_map view_text vs) ≤ 77 * length vs
short_views [] h = omega arith
short_views (v ∷ vs) h =
    omega (arith, ap length (flat_map-cons view_text v vs), length-append (view_text v) (flat_map view_text vs), short_view v h.0, short_views vs h.1)

short_text : (text : List ℕ) → length (behind w32 text) ≡ 4 + length text
short_text text = omega (arith, length-append (u32 (length text)) text)

short_line : (place : ℕ) (l : TableLine) → IsSmallLine place l → length (line_text l) ≤ 4124
short_line place l h =
    let r = behind w32 l.last.reply in
    let v = u32 l.last.view ++ r in
    let n = u16 l.last.index ++ v in
    let p = u64 l.last.place ++ n in
    omega (arith, h.reply_fits, short_text l.last.reply, length-append (u32 l.last.view) r, length-append (u16 l.last.index) v, length-append (u64 l.last.place) n, length-append (u64 l.last.seq) p, length-append (u16 l.last.client) (u64 l.last.seq ++ p))

short_lines : (place : ℕ) (ls : List TableLine) → Each (IsSmallLine place) ls → length (flat_map line_text ls) ≤ 4124 * length ls
short_lines place [] h = omega arith
short_lines place (l ∷ ls) h =
    omega (arith, ap length (flat_map-cons line_text l ls), length-append (line_text l) (flat_map line_text ls), short_line place l h.0, short_lines place ls h.1)

pub short_small : {S : Type 0} (m : Meaning S) → IsBrief m → (r : Replica S) → IsSmall m r → length (snapshot_text m r) ≤ 16777216
unfolding snapshot_text
short_small m brief r h =
    let s = behind w32 (m.snapshot r.service) in
    let l = counted line_text r.table ++ s in
    let v = counted view_text r.views ++ l in
    omega (arith, short_text (m.snapshot r.service), brief.small r.service h.service_fits, length-append (u16 (length r.table)) (flat_map line_text r.table), length-append (counted line_text r.table) s, length-append (u16 (length r.views)) (flat_map view_text r.views), length-append (counted view_text r.views) l, length-append (u64 r.place) v, short_views r.views h.views_fit, small_few m r h, short_lines r.place r.table h.lines_fit, few_lines r.place (2 ^ 32) r.table h.lines_fit h.lines_in_turn)

-- what holds of each line of a table holds of each execution that it keeps
pub each_kept : (P : Execution → Type 0) (table : List TableLine) → Each (λ (line : TableLine). P line.last) table → Each P (kept_in table)
each_kept P [] each = tt
each_kept P (line ∷ lines) each = (each.0, each_kept P lines each.1)
