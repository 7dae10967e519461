-- Views of which each behind the first starts by the place behind a given one: a book that has reached this place shows each of them.
use Rattle.std.proofs.Common.{◌≡◌, ℕ, ◌+◌, ◌≤◌, ◌++◌, false, true, List, [], ◌∷◌, length, nat_le, subst, sym, arith}
use Rattle.smart_base.specs.Lists.{Each}
use Rattle.smart_base.specs.Views.{View, present}
use Rattle.smart_base.proofs.SameLists.{and_true}
use Rattle.smart_base.proofs.ViewFacts.{each-weaken}
use Rattle.snapshot_form.specs.Replicas.{follow, is_first_view, views_follow}
use Rattle.agreement_laws.proofs.Lists.{each_among, each_append, each_from}
use Rattle.node_laws.specs.Sound.{AreViews}
use Rattle.node_laws.proofs.MovedViews.{GrownAt}
use Rattle.node_laws.proofs.Views.{follow_low, present_among}

abbrev pub StartBy : ℕ → List View → Type 0
StartBy place [] = Unit {0}
StartBy place (v ∷ vs) = Each (λ u. u.start ≤ place + 1) vs

-- by a later place too
pub start-more : (place later : ℕ) (views : List View) → place ≤ later → StartBy place views → StartBy later views
start-more place later [] more is = tt
start-more place later (v ∷ vs) more is = each-weaken (λ (u : View). u.start ≤ place + 1) (λ (u : View). u.start ≤ later + 1) (λ u low. omega (arith, low, more)) vs is

-- so does the view in force, if it is not the first
pub start-told : (place : ℕ) (views : List View) → StartBy place views → nat_le (length views) 1 ≡ false → (present views).start ≤ place + 1
start-told place [] is more = absurd (cc)
start-told place (v ∷ []) is more = absurd (cc)
start-told place (v ∷ w ∷ ws) is more = each_among (λ (u : View). u.start ≤ place + 1) (w ∷ ws) (present (w ∷ ws)) is (present_among w ws)

start-append : (place : ℕ) (views more : List View) → StartBy place views → Each (λ (u : View). u.start ≤ place + 1) more → StartBy place (views ++ more)
start-append place [] [] is later = tt
start-append place [] (v ∷ more) is later = later.1
start-append place (v ∷ vs) more is later = each_append (λ (u : View). u.start ≤ place + 1) vs more is later

-- views that a batch makes do, where its place has been reached
pub start-grown : (place at : ℕ) (views new : List View) → at ≤ place → GrownAt at views new → StartBy place views → StartBy place new
start-grown place at views new reached grown is =
    subst (λ (vs : List View). StartBy place vs) (sym grown.is)
    (start-append place views grown.more is
    (each-weaken (λ (u : View). u.start ≡ at + 1) (λ (u : View). u.start ≤ place + 1) (λ u start. omega (arith, start, reached)) grown.more grown.starts))

-- so do those of a replica that was read
pub start-followed : (place at : ℕ) (views : List View) → at ≤ place → views_follow at views ≡ true → StartBy place views
start-followed place at [] reached is = tt
start-followed place at (v ∷ vs) reached is =
    let follows = (and_true (is_first_view v) (follow at 0 1 vs) is).1 in
    each_from (λ (u : View). u.start ≤ place + 1) vs (λ u there. let low = follow_low at 0 1 vs u follows there in omega (arith, low, reached))

-- and those of a sound node
pub start-sound : (first : View) (place at : ℕ) (views : List View) → at ≤ place → AreViews first at views → StartBy place views
start-sound first place at views reached are =
    subst (λ (vs : List View). StartBy place vs) (sym are.begins)
    (each_from (λ (u : View). u.start ≤ place + 1) are.rest (λ u there. let low = follow_low at first.number 0 are.rest u are.follows there in omega (arith, low, reached)))
