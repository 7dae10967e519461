-- How long snapshots are.
use Rattle.std.proofs.Common.{◌≡◌, ℕ, ◌+◌, ◌*◌, ◌≤◌, true, List, [], ◌∷◌, ◌++◌, length, ap, arith}
use Rattle.std.specs.Int.{w32}
use Rattle.std.specs.List.{flat_map}
use Rattle.std.proofs.lemmas.List.{length-append}
use Rattle.std.proofs.lemmas.List.Concat.{flat_map-cons}
use Rattle.smart_base.specs.Lists.{Each}
use Rattle.smart_base.specs.Spelling.{u8, u16, u32, u64, behind}
use Rattle.smart_base.specs.Views.{View, is_view}
use Rattle.smart_base.specs.ViewBytes.{view_text}
use Rattle.smart_base.proofs.ViewLaws.{members-few}
use Rattle.smart_service.specs.Services.{Meaning}
use Rattle.smart_service.specs.declared.replica.Replica.{Replica}
use Rattle.smart_service.specs.declared.table.TableLine.{TableLine}
use Rattle.snapshot_form.specs.Replicas.{FitsLine, FitsReplica}
use Rattle.snapshot_form.specs.Snapshots.{line_text, counted, snapshot_text}
use Rattle.snapshot_form.proofs.Tied.{few_lines}

members_length : (ms : List ℕ) → length (flat_map u16 ms) ≡ 2 * length ms
members_length [] = omega arith
members_length (m ∷ ms) = omega (arith, ap length (flat_map-cons u16 m ms), length-append (u16 m) (flat_map u16 ms), members_length ms)

short_view : (v : View) → is_view v ≡ true → length (view_text v) ≤ 77
unfolding view_text
short_view v h =
    let ms = flat_map u16 v.members in
    let n = u16 (length v.members) in
    omega (arith, members-few v h, members_length v.members, length-append n ms, length-append (u8 v.f) (n ++ ms), length-append (u64 v.start) (u8 v.f ++ (n ++ ms)), length-append (u32 v.number) (u64 v.start ++ (u8 v.f ++ (n ++ ms))))

short_views : (vs : List View) → Each (λ v. is_view v ≡ true) vs → length (flat_map view_text vs) ≤ 77 * length vs
short_views [] h = omega arith
short_views (v ∷ vs) h =
    omega (arith, ap length (flat_map-cons view_text v vs), length-append (view_text v) (flat_map view_text vs), short_view v h.0, short_views vs h.1)

short_text : (text : List ℕ) → length (behind w32 text) ≡ 4 + length text
short_text text = omega (arith, length-append (u32 (length text)) text)

short_line : (place views : ℕ) (l : TableLine) → FitsLine place views l → length (line_text l) ≤ 4124
short_line place views l h =
    let r = behind w32 l.last.reply in
    let v = u32 l.last.view ++ r in
    let n = u16 l.last.index ++ v in
    let p = u64 l.last.place ++ n in
    omega (arith, h.reply_fits, short_text l.last.reply, length-append (u32 l.last.view) r, length-append (u16 l.last.index) v, length-append (u64 l.last.place) n, length-append (u64 l.last.seq) p, length-append (u16 l.last.client) (u64 l.last.seq ++ p))

short_lines : (place views : ℕ) (ls : List TableLine) → Each (FitsLine place views) ls → length (flat_map line_text ls) ≤ 4124 * length ls
short_lines place views [] h = omega arith
short_lines place views (l ∷ ls) h =
    omega (arith, ap length (flat_map-cons line_text l ls), length-append (line_text l) (flat_map line_text ls), short_line place views l h.0, short_lines place views ls h.1)

pub short_snapshot : {S : Type 0} (m : Meaning S) (valid : S → Type 0) → ((s : S) → valid s → length (m.snapshot s) ≤ 12000000)
    → (r : Replica S) → FitsReplica valid r → length (snapshot_text m r) ≤ 16777216
unfolding snapshot_text
short_snapshot m valid small r h =
    let s = behind w32 (m.snapshot r.service) in
    let l = counted line_text r.table ++ s in
    let v = counted view_text r.views ++ l in
    omega (arith, short_text (m.snapshot r.service), small r.service h.service_fits, length-append (u16 (length r.table)) (flat_map line_text r.table), length-append (counted line_text r.table) s, length-append (u16 (length r.views)) (flat_map view_text r.views), length-append (counted view_text r.views) l, length-append (u64 r.place) v, short_views r.views h.views_fit, h.few_views, short_lines r.place (length r.views) r.table h.lines_fit, few_lines r.place (length r.views) r.table h.lines_fit h.lines_in_turn)
