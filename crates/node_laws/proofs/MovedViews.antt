-- Views that a batch makes of those before it. Whatever stands in the batch, each new one starts behind its place.
use Rattle.std.proofs.Common.{◌≡◌, inl, inr, ℕ, ◌+◌, ◌≤◌, ◌++◌, ◌==◌, ◌&&◌, Bool, true, false, cond, List, [], ◌∷◌, refl, ap, sym, subst, ◌∙◌, append-nil, append_assoc, arith}
use Rattle.std.proofs.lemmas.Bool.{eq-eqb}
use Rattle.smart_base.specs.Lists.{Each}
use Rattle.smart_base.specs.Views.{View, present}
use Rattle.reconfig.specs.Outcomes.{outcome_of, views_behind}
use Rattle.smart_statements.specs.Batches.{Batch}
use Rattle.smart_statements.specs.declared.statement.Request.{Request}
use Rattle.smart_service.specs.Services.{Meaning}
use Rattle.smart_service.specs.declared.replica.Replica.{Replica}
use Rattle.vote_book.specs.Books.{Among}
use Rattle.replica_rules.specs.Replicas.{Managed, delivered, is_of_manager, managed_of, manages, manages_all}
use Rattle.replica_rules.proofs.Managed.{AtMostOne, managed_delivered, one_outcome}
use Rattle.agreement_laws.proofs.Lists.{among_right, each_among, each_append}
use Rattle.node_laws.proofs.Growing.{present_behind}
use Rattle.node_laws.proofs.Views.{present_among}

-- views that grew at a place; the one in force is the same or a later one
pub record GrownAt (place : ℕ) (views new : List View) : Type 0 where
  pub more : List View
  pub is : new ≡ views ++ more
  pub starts : Each (λ v. v.start ≡ place + 1) more
  pub later : (present views).number ≤ (present new).number

grown-none : (place : ℕ) (views : List View) → GrownAt place views views
grown-none place views = record { more = []; is = sym (append-nil views); starts = tt; later = omega arith }

grown-then : (place : ℕ) (a b c : List View) → GrownAt place a b → GrownAt place b c → GrownAt place a c
grown-then place a b c f g = record {
  more = f.more ++ g.more;
  is = g.is ∙ (ap (λ (vs : List View). vs ++ g.more) f.is ∙ append_assoc a f.more g.more);
  starts = each_append (λ (v : View). v.start ≡ place + 1) f.more g.more f.starts g.starts;
  later = let first = f.later in let second = g.later in omega (arith, first, second);
}

grown-one : (place : ℕ) (views new : List View) → AtMostOne place views new → GrownAt place views new
grown-one place views new (inl same) = subst (λ (vs : List View). GrownAt place views vs) (sym same) (grown-none place views)
grown-one place views new (inr one) =
    let same : (present new).number ≡ one.0.number = ap (λ (v : View). v.number) (ap (λ (vs : List View). present vs) one.1 ∙ present_behind views one.0 []) in
    let next = one.2.number_is in
    record { more = one.0 ∷ []; is = one.1; starts = (one.2.start_is, tt); later = omega (arith, same, next) }

grown-if : (place : ℕ) (t : Bool) (g one : Managed) → GrownAt place g.views one.views → GrownAt place g.views (cond t one g).views
grown-if place true g one grown = grown
grown-if place false g one grown = grown-none place g.views

grown-request : (place : ℕ) (g : Managed) (q : Request) → GrownAt place g.views (manages place g q).views
grown-request place g q =
    let new : List View = views_behind g.views (outcome_of g.views q.op place) in
    grown-if place (is_of_manager q && (q.seq == g.seq + 1)) g (record { seq = q.seq; views = new })
    (grown-one place g.views new (one_outcome place g.views q.op (outcome_of g.views q.op place) refl))

grown-batch : (place : ℕ) (g : Managed) (batch : Batch) → GrownAt place g.views (manages_all place g batch).views
grown-batch place g [] = grown-none place g.views
grown-batch place g (q ∷ qs) =
    let next : Managed = manages place g q.statement in
    grown-then place g.views next.views (manages_all place next qs).views (grown-request place g q.statement) (grown-batch place next qs)

pub grown-delivered : {S : Type 0} (m : Meaning S) (r : Replica S) (batch : Batch) → GrownAt (r.place + 1) r.views (delivered m r batch).views
grown-delivered m r batch =
    subst (λ (new : List View). GrownAt (r.place + 1) r.views new) (sym (ap (λ (g : Managed). g.views) (managed_delivered m r batch))) (grown-batch (r.place + 1) (managed_of r) batch)

-- ---- where another view is in force behind the place

-- it is a new one
moved-new : (place : ℕ) (views new : List View) (grown : GrownAt place views new) → ((present views).number == (present new).number) ≡ false → Among (present new) grown.more
moved-new place views new grown moved = by grown.more grown.is
  where
    by : (more : List View) → new ≡ views ++ more → Among (present new) more
    by [] is =
        let same : (present views).number ≡ (present new).number = ap (λ (vs : List View). (present vs).number) (sym (is ∙ append-nil views)) in
        absurd (let here : ((present views).number == (present new).number) ≡ true = eq-eqb (present views).number (present new).number same in cc)
    by (v ∷ vs) is =
        let there : present new ≡ present (v ∷ vs) = ap (λ (ws : List View). present ws) is ∙ present_behind views v vs in
        subst (λ (u : View). Among u (v ∷ vs)) (sym there) (present_among v vs)

-- so it starts behind that place
pub moved-start : (place : ℕ) (views new : List View) → GrownAt place views new → ((present views).number == (present new).number) ≡ false → (present new).start ≡ place + 1
moved-start place views new grown moved = each_among (λ (v : View). v.start ≡ place + 1) grown.more (present new) grown.starts (moved-new place views new grown moved)

-- and is one of those that are known then
pub moved-there : (place : ℕ) (views new : List View) → GrownAt place views new → ((present views).number == (present new).number) ≡ false → Among (present new) new
moved-there place views new grown moved =
    subst (λ (vs : List View). Among (present new) vs) (sym grown.is) (among_right (present new) views grown.more (moved-new place views new grown moved))
