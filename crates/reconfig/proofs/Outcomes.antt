-- Each outcome has its cause.
use Rattle.std.proofs.Common.{◌≡◌, ℕ, ◌+◌, ◌^◌, ◌<◌, ◌≤◌, true, List, Result, Ok, Err, refl, sym, ap, ◌∙◌, arith, subst}
use Rattle.std.specs.Prelude.{IfOk}
use Rattle.smart_base.specs.Cuts.{IsBytes}
use Rattle.smart_base.specs.Lists.{Each}
use Rattle.smart_base.specs.Views.{View, is_view, present}
use Rattle.smart_view.specs.declared.fault.ViewFault.{ViewFault}
use Rattle.reconfig.specs.declared.change.Change.{Change}
use Rattle.reconfig.specs.Changes.{change_text, FitsChange, change_of}
use Rattle.reconfig.specs.Applied.{applied}
use Rattle.reconfig.specs.declared.outcome.Outcome.{Outcome}
use Rattle.reconfig.specs.declared.outcome.Outcome.TheVariants.{Begins}
use Rattle.reconfig.specs.Outcomes.{outcome_made, outcome_read, outcome_of, Cause}
use Rattle.reconfig.proofs.Changes.{read_again, read_is, is_only, read_small}
use Rattle.reconfig.proofs.Faults.{cause_of, is_valid}

made_for : (views : List View) (op : List ℕ) (place : ℕ) (c : Change) (r : Result View ViewFault) → FitsChange c → op ≡ change_text c
    → applied (present views) (place + 1) c ≡ r → Cause views op place (outcome_made r)
made_for views op place c (Ok view) fits e is = (c, fits, e, is)
made_for views op place c (Err fault) fits e is = (c, fits, e, cause_of (present views) (place + 1) c fault is)

read_for : (views : List View) (op : List ℕ) (place : ℕ) (r : Result Change ℕ) → IsBytes op → change_of op ≡ r → Cause views op place (outcome_read views r place)
read_for views op place (Ok c) bs is =
    let found = read_is op c bs is in
    made_for views op place c (applied (present views) (place + 1) c) found.0 found.1 refl
read_for views op place (Err at) bs is = λ c fits e. let two = sym is ∙ is_only op c fits e in absurd (cc)

pub outcome_for : (views : List View) (op : List ℕ) (place : ℕ) → IsBytes op → Cause views op place (outcome_of views op place)
outcome_for views op place bs = read_for views op place (change_of op) bs refl

pub change_read : (views : List View) (c : Change) (place : ℕ) → FitsChange c → outcome_of views (change_text c) place ≡ outcome_made (applied (present views) (place + 1) c)
change_read views c place fits = ap (λ r. outcome_read views r place) (read_again c fits)

pub caused : {E : Type 0} (views : List View) (op : List ℕ) (place : ℕ) (r : Result Outcome E) → IsBytes op → IfOk r (λ o. o ≡ outcome_of views op place)
    → IfOk r (λ o. Cause views op place o)
caused views op place (Ok o) bs e = subst (λ (o : Outcome). Cause views op place o) (sym e) (outcome_for views op place bs)
caused views op place (Err e) bs h = tt

-- ---- the view that begins

made_valid : (v : View) (start : ℕ) (c : Change) (r : Result View ViewFault) (view : View) → Each (λ m. m ≤ 65535) c.members → 1 ≤ start → start ≤ 2 ^ 63
    → applied v start c ≡ r → outcome_made r ≡ Begins view → is_view view ≡ true
made_valid v start c (Ok w) view small low high is e =
    let same : w ≡ view = cc in
    is_valid v start c view small low high (is ∙ ap (λ (w : View). Ok w) same)
made_valid v start c (Err fault) view small low high is e = absurd (cc)

read_valid : (views : List View) (op : List ℕ) (place : ℕ) (r : Result Change ℕ) (view : View) → place < 2 ^ 63 → change_of op ≡ r
    → outcome_read views r place ≡ Begins view → is_view view ≡ true
read_valid views op place (Ok c) view low is e =
    made_valid (present views) (place + 1) c (applied (present views) (place + 1) c) view (read_small op c is) (omega arith) (omega (arith, low)) refl e
read_valid views op place (Err at) view low is e = absurd (cc)

pub begun_valid : (views : List View) (op : List ℕ) (place : ℕ) (view : View) → place < 2 ^ 63 → outcome_of views op place ≡ Begins view → is_view view ≡ true
begun_valid views op place view low e = read_valid views op place (change_of op) view low refl e
