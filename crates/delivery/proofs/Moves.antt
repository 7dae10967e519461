-- Views that move, one request after another.
use Rattle.std.proofs.Common.{◌≡◌, inl, inr, ℕ, ◌+◌, ◌<◌, ◌++◌, List, [], ◌∷◌, length, drop, get_or, append_assoc, refl, ap, sym, subst, ◌∙◌, arith, Option, Some, None}
use Rattle.std.specs.Prelude.{option_map}
use Rattle.std.specs.Option.{option_and_then, option_to_list}
use Rattle.smart_base.specs.Views.{View, present}
use Rattle.reconfig.specs.Outcomes.{outcome_of}
use Rattle.reconfig.specs.declared.outcome.Outcome.{Outcome}
use Rattle.reconfig.specs.declared.outcome.Outcome.TheVariants.{Begins, Refused, NoChange}
use Rattle.smart_statements.specs.Forms.{SignedBy}
use Rattle.smart_statements.specs.Batches.{Batch}
use Rattle.smart_statements.specs.declared.statement.Request.{Request}
use Rattle.smart_service.specs.Services.{Meaning}
use Rattle.smart_service.specs.declared.replica.Replica.{Replica}
use Rattle.smart_service.specs.declared.table.Execution.{Execution}
use Rattle.replica_rules.specs.Replicas.{execute, execute_all, line_made, lines_of}
use Rattle.replica_rules.proofs.Managed.{AtMostOne, one_outcome}
use Rattle.delivery.specs.declared.views.Begun.{Begun}
use Rattle.delivery.specs.declared.execute.Done.{Done}
use Rattle.delivery.specs.declared.views.Move.{Move}
use Rattle.delivery.proofs.Lists.{drop_here}
use Rattle.delivery.specs.Moves.{HasBegun, IsMoved, BeginsLater}

present_end : (views : List View) (v : View) → present (views ++ v ∷ []) ≡ v
present_end [] v = refl
present_end (w ∷ []) v = refl
present_end (w ∷ x ∷ views) v = present_end (x ∷ views) v

-- an outcome that begins a view begins a later one
view_of_end : (views more : List View) (v w : View) → more ≡ views ++ v ∷ [] → more ≡ views ++ w ∷ [] → v ≡ w
view_of_end views more v w one other = sym (present_end views v) ∙ (ap (λ (vs : List View). present vs) (sym one ∙ other) ∙ present_end views w)

no_end : (views : List View) (v : View) → views ++ v ∷ [] ≡ views → ⊥
no_end [] v is = absurd (cc)
no_end (w ∷ views) v is = no_end views v (cc)

later_by : (place : ℕ) (views : List View) (view : View) → AtMostOne place views (views ++ view ∷ []) → (present views).number < view.number
later_by place views view (inl same) = absurd (no_end views view same)
later_by place views view (inr one) =
    let same : view ≡ one.0 = view_of_end views (views ++ view ∷ []) view one.0 refl one.1 in
    let number : view.number ≡ (present views).number + 1 = ap (λ (v : View). v.number) same ∙ one.2.number_is in
    omega (arith, number)

pub begins_later : (place : ℕ) (views : List View) (op : List ℕ) (o : Outcome) → o ≡ outcome_of views op place → BeginsLater views o
begins_later place views op (Begins view) is = later_by place views view (one_outcome place views op (Begins view) (sym is))
begins_later place views op (Refused fault) is = tt
begins_later place views op NoChange is = tt

-- a view that is taken behind others
pub moved_end : (before now : List View) (view : View) (m : Move) → now ≡ before ++ view ∷ [] → m.former ≡ before → m.begun.own ≡ view → m.begun.other ≡ view → (present before).number < view.number → IsMoved before now (Some m)
moved_end before now view m is former own other later =
    let last : present now ≡ view = ap (λ (vs : List View). present vs) is ∙ present_end before view in
    (former, record { own = own ∙ sym last; other = other ∙ sym last; later = subst (λ (v : View). (present before).number < v.number) (sym last) later })

-- one move behind another

pub moved_none : (first second third : List View) (m : Option Move) → IsMoved first second m → third ≡ second → IsMoved first third m
moved_none first second third m is same = subst (λ (vs : List View). IsMoved first vs m) (sym same) is

pub moved_first : (first second third : List View) (m : Move) → second ≡ first → IsMoved second third (Some m) → IsMoved first third (Some m)
moved_first first second third m same is = subst (λ (vs : List View). IsMoved vs third (Some m)) same is

pub moved_both : (first second third : List View) (m l r : Move) → IsMoved first second (Some m) → IsMoved second third (Some l) → r.former ≡ m.former → r.begun ≡ l.begun → IsMoved first third (Some r)
moved_both first second third m l r one two former begun =
    let below = one.1.later in
    let above = two.1.later in
    (former ∙ one.0, subst (λ (b : Begun). HasBegun first third b) (sym begun) (record { own = two.1.own; other = two.1.other; later = omega (arith, below, above) }))

-- what was taken out of its place
pub moved_took : (first second : List View) (m took : Option Move) → took ≡ m → IsMoved first second m → IsMoved first second took
moved_took first second m took is moved = subst (λ (o : Option Move). IsMoved first second o) (sym is) moved

-- the move of a request that was executed
pub moved_by : (second third : List View) (given : Option Done) (d : Done) → given ≡ Some d → IsMoved second third (option_and_then (λ (x : Done). x.moved) given) → IsMoved second third d.moved
moved_by second third given d is moved = subst (λ (o : Option Done). IsMoved second third (option_and_then (λ (x : Done). x.moved) o)) is moved

-- a request that was passed over
pub moved_past : (first second third : List View) (m : Option Move) (given : Option Done) → given ≡ None → IsMoved first second m → IsMoved second third (option_and_then (λ (x : Done). x.moved) given) → IsMoved first third m
moved_past first second third m given none is stays = moved_none first second third m is (subst (λ (o : Option Done). IsMoved second third (option_and_then (λ (x : Done). x.moved) o)) none stays)

-- ---- one request of a batch after another

here_in : (items batch : Batch) (i : ℕ) (x : SignedBy Request) → items ≡ batch → i < length items → x ≡ get_or items i x → drop i batch ≡ x ∷ drop (i + 1) batch
here_in items batch i x same within at = subst (λ (b : Batch). drop i b ≡ x ∷ drop (i + 1) b) same (drop_here items i x within at)

pub state_step : {S : Type 0} (m : Meaning S) (r next : Replica S) (items batch : Batch) (i : ℕ) (x : SignedBy Request) (q : Request) (whole : Replica S) → items ≡ batch → i < length items → x ≡ get_or items i x → q ≡ x.statement
    → next ≡ execute m r i q → execute_all m r i (drop i batch) ≡ whole → execute_all m next (i + 1) (drop (i + 1) batch) ≡ whole
state_step {S = S} m r next items batch i x q whole same within at is made all =
    ap (λ (y : Replica S). execute_all m y (i + 1) (drop (i + 1) batch)) (made ∙ ap (λ (p : Request). execute m r i p) is)
    ∙ (sym (ap (λ (qs : Batch). execute_all m r i qs) (here_in items batch i x same within at)) ∙ all)

pub lines_step : {S : Type 0} (m : Meaning S) (r next : Replica S) (items batch : Batch) (i : ℕ) (x : SignedBy Request) (q : Request) (given : Option Done) (lines more whole : List Execution) → items ≡ batch → i < length items → x ≡ get_or items i x → q ≡ x.statement
    → next ≡ execute m r i q → more ≡ lines ++ option_to_list (option_map (λ (d : Done). d.line) given) → option_map (λ (d : Done). d.line) given ≡ line_made m r i q
    → lines ++ lines_of m r i (drop i batch) ≡ whole → more ++ lines_of m next (i + 1) (drop (i + 1) batch) ≡ whole
lines_step {S = S} m r next items batch i x q given lines more whole same within at is made noted line all =
    let one : Option Execution = line_made m r i x.statement in
    let rest : List Execution = lines_of m (execute m r i x.statement) (i + 1) (drop (i + 1) batch) in
    ap (λ (y : Replica S). more ++ lines_of m y (i + 1) (drop (i + 1) batch)) (made ∙ ap (λ (p : Request). execute m r i p) is)
    ∙ (ap (λ (es : List Execution). es ++ rest) (noted ∙ ap (λ (o : Option Execution). lines ++ option_to_list o) (line ∙ ap (λ (p : Request). line_made m r i p) is))
    ∙ (append_assoc lines (option_to_list one) rest ∙ (sym (ap (λ (qs : Batch). lines ++ lines_of m r i qs) (here_in items batch i x same within at)) ∙ all)))
