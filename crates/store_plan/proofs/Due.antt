-- The first job that applies, by what a plan sees.
use Rattle.std.proofs.Common.{◌≡◌, ℕ, ◌+◌, ◌-◌, ◌≤◌, nat_lt, ◌==◌, Bool, true, false, not, cond, List, [], ◌∷◌, length, take, drop, Option, Some, None, Result, Ok, Err, OnOk, refl, sym, ◌∙◌, ap, subst, arith, length-append, length-take}
use Rattle.std.proofs.lemmas.Bool.{eqb-true}
use Rattle.disk_model.specs.declared.call.DeviceCall.TheVariants.{Write}
use Rattle.store_form.specs.Spelling.{group_text}
use Rattle.batch_log.specs.LogCalls.{body_text, anew_text, group_calls}
use Rattle.std.specs.Option.{is_some}
use Rattle.store_laws.specs.States.{Devices, all_settled, StoreState, greatest, side, is_torn, some, writes_tail, calls_on, with_job, Begun, NoJob, Close, Repair, Switch, AddGroup, of_group, of_asked, group_of, group_begins, due_job, begins, begun}
use Rattle.store_laws.specs.declared.job.Device.TheVariants.{Log}
use Rattle.store_laws.specs.declared.job.Ending.TheVariants.{Adds, Switches}
use Rattle.store_laws.specs.declared.job.StoreCall.{StoreCall}
use Rattle.store_laws.specs.declared.job.StoreCall.TheVariants.{On, WriteTail}
use Rattle.store_laws.specs.declared.job.Tail.{Tail}
use Rattle.store_laws.specs.Lives.{no_bytes}
use Rattle.store_plan.specs.Plans.{with_tail, readied}
use Rattle.store_plan.proofs.Ready.{no_calls, begins_first, readied_first}

pub ok_two : {T E : Type 0} (r : Result T E) (X Y Z : Type 0) → (X → Y → Z) → OnOk r X → OnOk r Y → OnOk r Z
ok_two (Ok x) X Y Z f is also = f is also
ok_two (Err e) X Y Z f is also = tt

pub on_ok : {T E : Type 0} (r : Result T E) (X Y : Type 0) → (X → Y) → OnOk r X → OnOk r Y
on_ok (Ok x) X Y f is = f is
on_ok (Err e) X Y f is = tt

pub none_left : (calls : List StoreCall) → true ≡ (length calls == 0) → some calls ≡ false
none_left [] is = refl
none_left (call ∷ left) is =
    let zero : length (call ∷ left) ≡ 0 = eqb-true (length (call ∷ left)) 0 (sym is) in
    absurd (omega (arith, zero))

pub some_left : (calls : List StoreCall) → false ≡ (length calls == 0) → some calls ≡ true
some_left [] is = absurd cc
some_left (call ∷ left) is = refl

pub begun_runs : (stops : List ℕ → Bool) (s : StoreState) → some s.running ≡ true → begun stops s ≡ s
begun_runs stops s is = ap (λ (t : Bool). cond t s (begins (due_job stops s) s)) is

pub begun_begins : (stops : List ℕ → Bool) (s : StoreState) (job : Begun) → some s.running ≡ false → due_job stops s ≡ job → begun stops s ≡ begins job s
begun_begins stops s job is due = ap (λ (t : Bool). cond t s (begins (due_job stops s) s)) is ∙ ap (λ (j : Begun). begins j s) due

module _ (stops : List ℕ → Bool) (s : StoreState) where
  abbrev last : Begun
  last = of_asked (cond (nat_lt s.generation greatest) s.asked None) (of_group (group_of stops s.waiting))

  pub due_even : is_torn s.even ≡ true → due_job stops s ≡ Close false
  due_even is = ap (λ (t : Bool). cond t (Close false) (cond (is_torn s.odd) (Close true) (cond s.torn Repair last))) is

  pub due_odd : is_torn s.even ≡ false → is_torn s.odd ≡ true → due_job stops s ≡ Close true
  due_odd even is =
      ap (λ (t : Bool). cond t (Close false) (cond (is_torn s.odd) (Close true) (cond s.torn Repair last))) even
      ∙ ap (λ (t : Bool). cond t (Close true) (cond s.torn Repair last)) is

  due_calm : is_torn s.even ≡ false → is_torn s.odd ≡ false → due_job stops s ≡ cond s.torn Repair last
  due_calm even odd =
      ap (λ (t : Bool). cond t (Close false) (cond (is_torn s.odd) (Close true) (cond s.torn Repair last))) even
      ∙ ap (λ (t : Bool). cond t (Close true) (cond s.torn Repair last)) odd

  pub due_repair : is_torn s.even ≡ false → is_torn s.odd ≡ false → s.torn ≡ true → due_job stops s ≡ Repair
  due_repair even odd is = due_calm even odd ∙ ap (λ (t : Bool). cond t Repair last) is

  pub due_switch : (snapshot : List ℕ) → is_torn s.even ≡ false → is_torn s.odd ≡ false → s.torn ≡ false → nat_lt s.generation greatest ≡ true → s.asked ≡ Some snapshot → due_job stops s ≡ Switch snapshot
  due_switch snapshot even odd torn few is =
      due_calm even odd ∙ ap (λ (t : Bool). cond t Repair last) torn
      ∙ ap (λ (t : Bool). of_asked (cond t s.asked None) (of_group (group_of stops s.waiting))) few
      ∙ ap (λ (asked : Option (List ℕ)). of_asked asked (of_group (group_of stops s.waiting))) is

  due_last : is_torn s.even ≡ false → is_torn s.odd ≡ false → s.torn ≡ false → (cond (nat_lt s.generation greatest) s.asked None) ≡ None → due_job stops s ≡ of_group (group_of stops s.waiting)
  due_last even odd torn is =
      due_calm even odd ∙ ap (λ (t : Bool). cond t Repair last) torn ∙ ap (λ (asked : Option (List ℕ)). of_asked asked (of_group (group_of stops s.waiting))) is

  pub due_group : is_torn s.even ≡ false → is_torn s.odd ≡ false → s.torn ≡ false → nat_lt s.generation greatest ≡ true → s.asked ≡ None → due_job stops s ≡ of_group (group_of stops s.waiting)
  due_group even odd torn few is = due_last even odd torn (ap (λ (t : Bool). cond t s.asked None) few ∙ is)

  pub due_group_full : is_torn s.even ≡ false → is_torn s.odd ≡ false → s.torn ≡ false → nat_lt s.generation greatest ≡ false → due_job stops s ≡ of_group (group_of stops s.waiting)
  due_group_full even odd torn full = due_last even odd torn (ap (λ (t : Bool). cond t s.asked None) full)

pub begun_group : (stops : List ℕ → Bool) (s now : StoreState) → some s.running ≡ false → due_job stops s ≡ of_group (group_of stops s.waiting) → (group_of stops s.waiting ≡ [] → now ≡ s)
    → ((entry : List ℕ) (entries : List (List ℕ)) → group_of stops s.waiting ≡ entry ∷ entries → now ≡ group_begins (entry ∷ entries) s) → now ≡ begun stops s
begun_group stops s now idle due none some_are = by (group_of stops s.waiting) refl
  where
    by : (group : List (List ℕ)) → group_of stops s.waiting ≡ group → now ≡ begun stops s
    by [] is = none is ∙ sym (begun_begins stops s NoJob idle (due ∙ ap of_group is))
    by (entry ∷ entries) is = some_are entry entries is ∙ sym (begun_begins stops s (AddGroup (entry ∷ entries)) idle (due ∙ ap of_group is))

-- ---- what begins

made_group : (s : StoreState) (group : List (List ℕ)) (calls : List StoreCall) (end : ℕ) (adding waiting : List (List ℕ)) → calls ≡ calls_on (Log (side s)) (group_calls s.end (body_text group))
    → end ≡ s.end + (1 + length (group_text group)) → adding ≡ group → waiting ≡ drop (length group) s.waiting → with_job calls (Adds end) adding waiting s.asked s ≡ group_begins group s
made_group s group calls end adding waiting calls_are end_is adding_are waiting_are = λ i. with_job (calls_are i) (Adds (end_is i)) (adding_are i) (waiting_are i) s.asked s

-- a group of the first entries that wait
pub group_made : (stops : List ℕ → Bool) (s split : StoreState) (seen : List (List ℕ)) (count len : ℕ) (calls : List StoreCall) (adding : List (List ℕ)) (body : List ℕ) → seen ≡ s.waiting → count ≤ length seen → take count seen ≡ group_of stops seen
    → split ≡ with_job s.running s.ending s.adding (drop count s.waiting) s.asked s → adding ≡ take count s.waiting → body ≡ body_text (take count s.waiting) → len ≡ length body → calls ≡ calls_on (Log (side s)) (group_calls s.end body)
    → (group : List (List ℕ)) → group_of stops s.waiting ≡ group → with_job calls (Adds (s.end + len)) adding split.waiting split.asked split ≡ group_begins group s
group_made stops s split seen count len calls adding body seen_is seen_few seen_front rest adding_are body_is len_is calls_are group is =
    let few : count ≤ length s.waiting = subst (λ (l : List (List ℕ)). count ≤ length l) seen_is seen_few in
    let front : take count s.waiting ≡ group_of stops s.waiting = subst (λ (l : List (List ℕ)). take count l ≡ group_of stops l) seen_is seen_front in
    let group_is : take count s.waiting ≡ group = front ∙ is in
    let body_of : body ≡ body_text group = body_is ∙ ap body_text group_is in
    let same_size = ap (λ (g : List (List ℕ)). length g) (sym group_is) in
    let taken = length-take count s.waiting in
    let size : length group ≡ count = omega (arith, few, same_size, taken) in
    let joined = length-append (group_text group) (0 ∷ []) in
    let long : length (body_text group) ≡ length (group_text group) + 1 = omega (arith, joined) in
    let body_len = ap (λ (b : List ℕ). length b) body_of in
    let end_is : s.end + len ≡ s.end + (1 + length (group_text group)) = omega (arith, long, body_len, len_is) in
    ap (λ (q : StoreState). with_job calls (Adds (s.end + len)) adding q.waiting q.asked q) rest
    ∙ made_group s group calls (s.end + len) adding (drop count s.waiting) (calls_are ∙ ap (λ (b : List ℕ). calls_on (Log (side s)) (group_calls s.end b)) body_of) end_is (adding_are ∙ group_is)
    (ap (λ (n : ℕ). drop n s.waiting) (sym size))

-- the tail of the next call
pub ready_tail : (stops : List ℕ → Bool) (tail : Tail) (s now : StoreState) (text : List ℕ) (len : ℕ) → some s.running ≡ true → writes_tail s.running ≡ true → text ≡ anew_text tail.entries → len ≡ length text
    → ((left : List StoreCall) → s.running ≡ WriteTail ∷ left → now ≡ with_job (On (Log (not (side s))) (Write 0 text) ∷ left) (Switches (len - 1) tail.made) s.adding s.waiting s.asked s)
    → now ≡ readied stops tail s
ready_tail stops tail s now text len runs wants text_is len_is put = by s.running refl wants ∙ sym (ap (λ (q : StoreState). with_tail tail q.running q) (begun_runs stops s runs))
  where
    by : (calls : List StoreCall) → s.running ≡ calls → writes_tail calls ≡ true → now ≡ with_tail tail calls s
    by [] is w = absurd cc
    by (On device call ∷ left) is w = absurd cc
    by (WriteTail ∷ left) is w =
        let joined = length-append (group_text tail.entries) (0 ∷ []) in
        let long : length (anew_text tail.entries) ≡ 1 + (length (group_text tail.entries) + 1) = omega (arith, joined) in
        let text_len = ap (λ (b : List ℕ). length b) text_is in
        let end_is : len - 1 ≡ 1 + length (group_text tail.entries) = omega (arith, long, text_len, len_is) in
        put left is ∙ λ i. with_job (On (Log (not (side s))) (Write 0 (text_is i)) ∷ left) (Switches (end_is i) tail.made) s.adding s.waiting s.asked s

-- ---- what is first

-- devices without a byte
abbrev pub nowhere : Devices
nowhere = all_settled no_bytes

pub first_begun : (stops : List ℕ → Bool) (s now : StoreState) → some s.running ≡ false → now ≡ begun stops s → writes_tail now.running ≡ false
first_begun stops s now idle is =
    ap (λ (q : StoreState). writes_tail q.running) (is ∙ begun_begins stops s (due_job stops s) idle refl) ∙ begins_first (due_job stops s) s (no_calls s.running idle)

pub first_readied : (stops : List ℕ → Bool) (tail : Tail) (s now : StoreState) → now ≡ readied stops tail s → writes_tail now.running ≡ false
first_readied stops tail s now is = ap (λ (q : StoreState). writes_tail q.running) is ∙ readied_first stops tail s

pub none_asked : (asked : Option (List ℕ)) → false ≡ is_some asked → asked ≡ None
none_asked None is = refl
none_asked (Some snapshot) is = absurd cc
