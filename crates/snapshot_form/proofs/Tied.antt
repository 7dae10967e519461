-- Parts that suit each other.
use Rattle.std.proofs.Common.{◌≡◌, ℕ, ◌+◌, ◌^◌, ◌<◌, ◌≤◌, true, ltb, leb, ◌&&◌, List, [], ◌∷◌, length, refl, arith}
use Rattle.std.proofs.lemmas.Bool.{ltb-true, lt-ltb, leb-true, le-leb}
use Rattle.smart_base.specs.FieldLaws.{and_true}
use Rattle.smart_base.specs.Lists.{Each}
use Rattle.smart_base.specs.Views.{View}
use Rattle.smart_service.specs.Tables.{Above, Ascends}
use Rattle.smart_service.specs.declared.table.TableLine.{TableLine}
use Rattle.snapshot_form.specs.Replicas.{views_follow, FitsLine}
use Rattle.snapshot_form.specs.Snapshots.{lines_above, lines_follow}
use Rattle.snapshot_form.proofs.Parts.{IsLine}

-- ---- lines

-- a line that suits a place and so many views
line_fits : (place views : ℕ) (line : TableLine) → IsLine line → leb line.last.place place ≡ true → ltb line.last.view views ≡ true → FitsLine place views line
line_fits place views line h p v = record {
  client_fits = h.0;
  seq_fits = h.1.0;
  some_place = omega (arith, h.1.1.0.0);
  past_place = leb-true line.last.place place p;
  index_fits = h.1.1.1.0;
  view_fits = ltb-true line.last.view views v;
  reply_fits = h.1.1.1.1.1;
}

is_line : (place views : ℕ) (line : TableLine) → place < 2 ^ 63 → views ≤ 1024 → FitsLine place views line → IsLine line
is_line place views line small few h = (
  h.client_fits,
  (
    h.seq_fits,
    (
      (omega (arith, h.some_place), omega (arith, h.past_place, small)),
      (h.index_fits, (omega (arith, h.view_fits, few), h.reply_fits)),
    ),
  ),
)

-- lines that fit and ascend
abbrev Suit : (place views client : ℕ) → List TableLine → Type 0
Suit place views client lines = Each (FitsLine place views) lines × Above client lines

lines_suit : (place views client : ℕ) (lines : List TableLine) → Each IsLine lines → lines_above place views client lines ≡ true → Suit place views client lines
lines_suit place views client [] h e = (tt, tt)
lines_suit place views client (line ∷ lines) h e =
    let a = and_true (ltb client line.last.client && leb line.last.place place && ltb line.last.view views) (lines_above place views line.last.client lines) e in
    let b = and_true (ltb client line.last.client && leb line.last.place place) (ltb line.last.view views) a.0 in
    let c = and_true (ltb client line.last.client) (leb line.last.place place) b.0 in
    let more = lines_suit place views line.last.client lines h.1 a.1 in
    ((line_fits place views line h.0 c.1 b.1, more.0), (ltb-true client line.last.client c.0, more.1))

pub lines_fit : (place views : ℕ) (lines : List TableLine) → Each IsLine lines → lines_follow place views lines ≡ true
    → Each (FitsLine place views) lines × Ascends lines
lines_fit place views [] h e = (tt, tt)
lines_fit place views (line ∷ lines) h e =
    let a = and_true (leb line.last.place place && ltb line.last.view views) (lines_above place views line.last.client lines) e in
    let b = and_true (leb line.last.place place) (ltb line.last.view views) a.0 in
    let more = lines_suit place views line.last.client lines h.1 a.1 in
    ((line_fits place views line h.0 b.0 b.1, more.0), more.1)

above_order : (place views client : ℕ) (lines : List TableLine) → lines_above place views client lines ≡ true → Above client lines
above_order place views client [] e = tt
above_order place views client (line ∷ lines) e =
    let a = and_true (ltb client line.last.client && leb line.last.place place && ltb line.last.view views) (lines_above place views line.last.client lines) e in
    let b = and_true (ltb client line.last.client && leb line.last.place place) (ltb line.last.view views) a.0 in
    let c = and_true (ltb client line.last.client) (leb line.last.place place) b.0 in
    (ltb-true client line.last.client c.0, above_order place views line.last.client lines a.1)

pub lines_order : (place views : ℕ) (lines : List TableLine) → lines_follow place views lines ≡ true → Ascends lines
lines_order place views [] e = tt
lines_order place views (line ∷ lines) e =
    above_order place views line.last.client lines (and_true (leb line.last.place place && ltb line.last.view views) (lines_above place views line.last.client lines) e).1

lines_test : (place views client : ℕ) (lines : List TableLine) → Each (FitsLine place views) lines → Above client lines → lines_above place views client lines ≡ true
lines_test place views client [] h up = refl
lines_test place views client (line ∷ lines) h up =
    rw (lt-ltb client line.last.client up.0, le-leb line.last.place place h.0.past_place, lt-ltb line.last.view views h.0.view_fits)
    (lines_test place views line.last.client lines h.1 up.1)

pub lines_tested : (place views : ℕ) (lines : List TableLine) → Each (FitsLine place views) lines → Ascends lines → lines_follow place views lines ≡ true
lines_tested place views [] h up = refl
lines_tested place views (line ∷ lines) h up =
    rw (le-leb line.last.place place h.0.past_place, lt-ltb line.last.view views h.0.view_fits) (lines_test place views line.last.client lines h.1 up)

pub each_line : (place views : ℕ) (lines : List TableLine) → place < 2 ^ 63 → views ≤ 1024 → Each (FitsLine place views) lines → Each IsLine lines
each_line place views [] small few h = tt
each_line place views (line ∷ lines) small few h = (is_line place views line small few h.0, each_line place views lines small few h.1)

few_above : (place views client : ℕ) (lines : List TableLine) → client ≤ 1024 → Each (FitsLine place views) lines → Above client lines
    → length lines + client ≤ 1024
few_above place views client [] low h up = omega (arith, low)
few_above place views client (line ∷ lines) low h up =
    omega (arith, up.0, few_above place views line.last.client lines h.0.client_fits h.1 up.1)

-- no more lines than clients
pub few_lines : (place views : ℕ) (lines : List TableLine) → Each (FitsLine place views) lines → Ascends lines → length lines ≤ 1025
few_lines place views [] h up = omega arith
few_lines place views (line ∷ lines) h up = omega (arith, few_above place views line.last.client lines h.0.client_fits h.1 up)

-- ---- views

pub some_view : (place : ℕ) (views : List View) → views_follow place views ≡ true → 0 < length views
some_view place [] e = absurd cc
some_view place (v ∷ vs) e = omega arith
