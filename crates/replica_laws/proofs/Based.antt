-- What a step tells: first of an installation, if there is one, and then of rules that install nothing.
use Rattle.std.proofs.Common.{◌≡◌, ◌==◌, ◌++◌, Bool, true, false, List, [], ◌∷◌, refl, sym, ap, ◌∙◌, append-nil, append_assoc, Option, Some, None, is_some}
use Rattle.smart_base.specs.Lists.{Each}
use Rattle.smart_base.specs.Views.{present}
use Rattle.smart_statements.specs.Forms.{SignedBy}
use Rattle.smart_statements.specs.Batches.{Batch}
use Rattle.smart_messages.specs.declared.regency.Sync.{Sync}
use Rattle.smart_service.specs.Services.{Meaning}
use Rattle.smart_service.specs.declared.replica.Replica.{Replica}
use Rattle.replica_rules.specs.Replicas.{delivered}
use Rattle.snapshot_form.specs.Snapshots.{snapshot_text}
use Rattle.node_rules.specs.Nodes.{Node, next_place}
use Rattle.node_rules.specs.Rules.{fired_if, begun_in, delivers, delivery, proposing, proposes, writing, writes, accepting, accepts, deciding, decides, answering}
use Rattle.node_rules.specs.Changes.{fired_when, fired_adopt, adoption, adopts, joining, joins, next_promise, promising, promises, leading, leads, timing, times}
use Rattle.node_rules.specs.Marks.{marking}
use Rattle.node_rules.specs.Transfers.{installs, planning, answers_call, answered_call}
use Rattle.node_rules.specs.Steps.{row, rules, pass}
use Rattle.node_rules.specs.Deliveries.{installed_in}
use Rattle.node_rules.specs.declared.node.Called.{Called}
use Rattle.node_rules.specs.declared.node.Called.TheVariants as calls
use Rattle.node_rules.specs.declared.node.Cause.{Cause}
use Rattle.node_rules.specs.declared.node.Cause.TheVariants.{Ticked, Came}
use Rattle.node_rules.specs.declared.node.Fired.{Fired}
use Rattle.node_rules.specs.declared.node.Fired.TheVariants as fires
use Rattle.agreement_laws.proofs.Lists.{either}
use Rattle.node_rules.proofs.Rulewise.{told_installed, RowKeeps, by_delivery, by_time, by_answer, later_rows, for_later, keeps_behind}

-- an event that installs nothing
abbrev pub IsNoBase : Fired → Type 0
IsNoBase rule = installed_in rule ≡ None

-- what was told behind a front, of rules that install nothing
pub record Behind (front fired : List Fired) : Type 0 where
  pub rest : List Fired
  pub is : fired ≡ front ++ rest
  pub none : Each IsNoBase rest

each_both : (xs ys : List Fired) → Each IsNoBase xs → Each IsNoBase ys → Each IsNoBase (xs ++ ys)
each_both [] ys first last = last
each_both (x ∷ xs) ys first last = (first.0, each_both xs ys first.1 last)

behind_more : (front fired told : List Fired) → Each IsNoBase told → Behind front fired → Behind front (fired ++ told)
behind_more front fired told each b = record {
  rest = b.rest ++ told;
  is = ap (λ (fs : List Fired). fs ++ told) b.is ∙ append_assoc front b.rest told;
  none = each_both b.rest told b.none each;
}

none_if : {A : Type 0} (rule : Fired) (x : Option A) → installed_in rule ≡ None → Each IsNoBase (fired_if rule x)
none_if rule None is = tt
none_if rule (Some x) is = (is, tt)

none_when : (rule : Fired) (b : Bool) → installed_in rule ≡ None → Each IsNoBase (fired_when rule b)
none_when rule true is = (is, tt)
none_when rule false is = tt

none_adopt : (sync : Option (SignedBy Sync)) → Each IsNoBase (fired_adopt sync)
none_adopt None = tt
none_adopt (Some sync) = (refl, tt)

none_called : {S : Type 0} (n : Node S) (called : Called) → Each IsNoBase (answered_call n called)
none_called n calls.Nobody = tt
none_called n (calls.Request asked) = none_if fires.Answered (answering n asked) refl
none_called n (calls.State a) = (refl, tt)
none_called n calls.Offered = none_if fires.Answered (planning n) refl

-- a view that begins installs nothing
pub none_begun : {S : Type 0} (r r' : Replica S) → Each IsNoBase (begun_in r r')
none_begun r r' =
    either (λ (fired : List Fired). Each IsNoBase fired) ((present r.views).number == (present r'.views).number) [] (fires.Viewed (present r'.views).number ∷ []) tt (refl, tt)

none_delivery : {S : Type 0} (m : Meaning S) (n : Node S) (batch : Option Batch) → Each IsNoBase (delivery m n batch)
unfolding delivery
none_delivery m n None = tt
none_delivery m n (Some batch) = (refl, none_begun n.replica (delivered m n.replica batch))

-- what is told behind a front
abbrev Told : {S : Type 0} → List Fired → Node S → List Fired → Type 0
Told front n fired = Behind front fired

based-row : {S : Type 0} (front : List Fired) (rule : Node S → Node S) (tells : Node S → List Fired) → ((n : Node S) → Each IsNoBase (tells n)) → RowKeeps (Told front) (row rule tells)
based-row front rule tells none n cause fired is = behind_more front fired (tells n) (none n) is

based-later : (S : Type 0) (front : List Fired) → Each (RowKeeps {S = S} (Told front)) later_rows
based-later S front =
    for_later (RowKeeps {S = S} (Told front))
    (record {
      adopt = based-row front adopts _ (λ n. none_adopt (adoption n));
      join = based-row front joins _ (λ n. none_when fires.Joined (joining n) refl);
      promise = based-row front promises _ (λ n. none_when (fires.Promised (next_promise n)) (promising n) refl);
      lead = based-row front leads _ (λ n. none_if fires.Led (leading n) refl);
      propose = based-row front proposes _ (λ n. none_if fires.Proposed (proposing n) refl);
      write = based-row front writes _ (λ n. none_if fires.Wrote (writing n) refl);
      accept = based-row front accepts _ (λ n. none_if fires.Accepted (accepting n) refl);
      decide = based-row front decides _ (λ n. none_if (fires.Decided (next_place n)) (deciding n) refl);
      time = λ n cause fired is.
          by_time (Told front) n cause fired is (based-row front times (λ x. fired_when fires.Timed (timing x)) (λ x. none_when fires.Timed (timing x) refl) n Ticked fired is);
      answer = λ n cause fired is.
          by_answer (Told front) n cause fired is
          (λ called. based-row front (λ x. answers_call x called) (λ x. answered_call x called) (λ x. none_called x called) n (Came called) fired is);
    })

-- a pass tells of its installation, and then of no other
pub told-behind : {S : Type 0} (m : Meaning S) (n : Node S) (cause : Cause) → Behind (told_installed m n []) (pass (rules m) n cause []).1
told-behind {S = S} m n cause =
    let front : List Fired = told_installed m n [] in
    let i : Node S = installs m n in
    let begun : Behind front front = record { rest = []; is = sym (append-nil front); none = tt } in
    keeps_behind m (Told front) n cause [] (based-later S front)
    (by_delivery m (Told front) i cause front begun
    (behind_more front (front ++ delivery m i i.waiting) (fired_when (fires.Marked (snapshot_text m (delivers m i).replica)) (marking (is_some i.waiting) (delivers m i)))
    (none_when (fires.Marked (snapshot_text m (delivers m i).replica)) (marking (is_some i.waiting) (delivers m i)) refl)
    (behind_more front front (delivery m i i.waiting) (none_delivery m i i.waiting) begun)))
