-- Each crash restores at least as many entries as are firm, but for those that the present log no longer has, or a later generation.
use Rattle.std.proofs.Common.{◌≡◌, ◌⊎◌, inl, inr, ℕ, ◌+◌, ◌≤◌, ◌<◌, Bool, not, List, [], ◌∷◌, ◌++◌, length, refl, sym, ◌∙◌, ap, subst, arith, length-append}
use Rattle.std.proofs.lemmas.Grind.{flat_map-append}
use Rattle.std.proofs.lemmas.List.{append-nil}
use Rattle.store_form.specs.Spelling.{Group, checkpoint_text}
use Rattle.store_form.specs.declared.checkpoint.Checkpoint.{Checkpoint}
use Rattle.checkpoint_store.specs.Slots.{generation_of}
use Rattle.batch_log.specs.Wires.{Ends, Bare, Armed, Wire}
use Rattle.store_laws.specs.Restored.{Images, log_image, side_of, entries_of, restores, with}
use Rattle.store_laws.specs.States.{StoreState, side, slot_gate_of, Begun, NoJob, Close, Repair, Switch, AddGroup, begins, switch_calls, advanced, ends, job_called, MayLeave, store_opened, given, asked}
use Rattle.store_laws.specs.Lives.{StoreWire, StoreNext, Either}
use Rattle.store_laws.specs.Stands.{Aim, at_rest, StandsBy, OwnRests, IsOwn, aim_called, aim_after, aim_begins}
use Rattle.store_laws.specs.Counts.{Beyond, BeginsWith, IsLater, Adding, Grows, CountsBy, Counts, gone_by, gone_after}
use Rattle.store_laws.specs.declared.job.Kept.{Kept}
use Rattle.store_laws.specs.declared.job.Tail.{Tail}
use Rattle.store_laws.specs.declared.job.Gate.{Gate}
use Rattle.store_laws.specs.declared.job.Gate.TheVariants.{Absent, Closed, Torn, Open}
use Rattle.store_laws.specs.declared.job.Ending.{Ending}
use Rattle.store_laws.specs.declared.job.Ending.TheVariants.{Closes, Repairs, Adds, Switches}
use Rattle.store_laws.specs.declared.job.StoreCall.{StoreCall}
use Rattle.store_laws.specs.declared.job.StoreCall.TheVariants.{On, WriteTail}
use Rattle.store_laws.proofs.Restores.{store_restores, next_restores}
use Rattle.store_laws.proofs.Goes.{own_leaves}

-- ---- what a torn gate may bring back

pub same_beyond : (kept : Kept) → Beyond kept kept
same_beyond kept =
    let none : kept.entries ≡ kept.entries ++ [] = sym (append-nil kept.entries) in
    inr ([], λ i. record { present = kept.present; entries = none i })

-- the entries of these groups, and more
abbrev More : List Group → List Group → Type 0
More gs other = (more : List (List ℕ)) × (entries_of other ≡ entries_of gs ++ more)

wire_more : (bytes : List ℕ) (gs other : List Group) → Wire bytes gs other → More gs other
wire_more bytes gs other w = by w.1
  where
    same : other ≡ gs → More gs other
    same is = ([], ap entries_of is ∙ sym (append-nil (entries_of gs)))

    by : (Ends bytes gs other ⊎ (Bare bytes gs other ⊎ Armed bytes gs other)) → More gs other
    by (inl e) = same e.nothing
    by (inr (inl b)) = same b.nothing
    by (inr (inr x)) = (entries_of (x.group ∷ []), ap entries_of x.is ∙ flat_map-append (λ (group : Group). group) gs (x.group ∷ []))

wire_beyond : (images : Images) (kept other : Kept) → StoreWire images kept other → Beyond kept other
wire_beyond images kept other (inl w) =
    let more = wire_more (log_image (side_of kept.present) images) w.own w.own_other w.log in
    let entries : other.entries ≡ kept.entries ++ more.0 = ap (λ (k : Kept). k.entries) w.is ∙ more.1 ∙ ap (λ (l : List (List ℕ)). l ++ more.0) (sym w.entries) in
    let present : other.present ≡ kept.present = ap (λ (k : Kept). k.present) w.is in
    inr (more.0, λ i. record { present = present i; entries = entries i })
wire_beyond images kept other (inr t) =
    let to = ap (λ (k : Kept). generation_of k.present) t.held.is in
    let beyond = t.held.beyond in
    inl (omega (arith, to, beyond))

-- ---- a store is opened, a job begins

pub counts_opened : (images : Images) (kept other : Kept) (next : Checkpoint) → StoreWire images kept other → Counts 0 (store_opened images) (at_rest kept other next)
counts_opened images kept other next wire =
    let is = ap (λ (k : Kept). length k.entries) (store_restores images kept other wire) in
    record { most = omega (arith, is); stake = wire_beyond images kept other wire; gated = wire_beyond images kept other wire; later = tt; grows = tt }

later_switch : (odd : Bool) (gate : Gate) (text : List ℕ) (present next : ℕ) → present < next → IsLater (switch_calls odd gate text) present next
later_switch odd Absent text present next lt = lt
later_switch odd Closed text present next lt = lt
later_switch odd Torn text present next lt = lt
later_switch odd Open text present next lt = lt

grows_switch : (odd : Bool) (gate : Gate) (text : List ℕ) (end last added kept then : ℕ) → Grows (switch_calls odd gate text) (Switches end last) added kept then
grows_switch odd Absent text end last added kept then = tt
grows_switch odd Closed text end last added kept then = tt
grows_switch odd Torn text end last added kept then = tt
grows_switch odd Open text end last added kept then = tt

with_more : (kept : Kept) (group : Group) → Beyond kept (with kept group)
with_more kept group = inr (group, refl)

counts_begins_by : (job : Begun) (gone : ℕ) (s : StoreState) (a : Aim) → OwnRests s a.kept a.stake → s.running ≡ [] → Counts gone s a → Counts gone (begins job s) (aim_begins job s a)
counts_begins_by NoJob gone s a r idle c = c
counts_begins_by (Close odd) gone s a r idle c = record { most = c.most; stake = c.stake; gated = c.stake; later = tt; grows = refl }
counts_begins_by Repair gone s a r idle c = record { most = c.most; stake = c.stake; gated = c.stake; later = tt; grows = refl }
counts_begins_by (Switch snapshot) gone s a r idle c =
    let next : Checkpoint = record { generation = s.generation + 1; snapshot = snapshot } in
    let kept_is = ap (λ (k : Kept). generation_of k.present) (store_restores r.images a.kept a.stake r.wire) in
    let now = r.rests.generation in record {
      most = c.most;
      stake = same_beyond a.kept;
      gated = same_beyond a.kept;
      later = later_switch (not (side s)) (slot_gate_of (not (side s)) s) (checkpoint_text next) (generation_of a.kept.present) (s.generation + 1) (omega (arith, kept_is, now));
      grows = grows_switch (not (side s)) (slot_gate_of (not (side s)) s) (checkpoint_text next) 0 0 0 (length a.kept.entries) (length a.kept.entries);
    }
counts_begins_by (AddGroup group) gone s a r idle c = record {
  most = c.most;
  stake = same_beyond a.kept;
  gated = with_more a.kept group;
  later = tt;
  grows = length-append a.kept.entries group;
}

pub counts_begins : (job : Begun) (gone : ℕ) (s : StoreState) (a : Aim) → s.running ≡ [] → IsOwn s a → Counts gone s a → Counts gone (begins job s) (aim_begins job s a)
counts_begins job gone s a idle own c = counts_begins_by job gone s a (subst (λ (calls : List StoreCall). StandsBy StoreNext OwnRests calls s a) idle own) idle c

-- ---- the next call

later_tail : (calls : List StoreCall) (present next : ℕ) → present < next → IsLater calls present next
later_tail [] present next lt = tt
later_tail (On device call ∷ left) present next lt = later_tail left present next lt
later_tail (WriteTail ∷ left) present next lt = lt

-- the job goes on
counts_more : (gone : ℕ) (s : StoreState) (a : Aim) (tail : Tail) (call more : StoreCall) (left : List StoreCall) → CountsBy (call ∷ more ∷ left) gone s a
    → CountsBy (more ∷ left) gone (advanced tail call (more ∷ left) s) (aim_called tail call (more ∷ left) a)
counts_more gone s a tail (On device call) more [] c = record { most = c.most; stake = c.gated; gated = c.gated; later = c.later; grows = c.grows }
counts_more gone s a tail (On device call) more (next ∷ left) c = record { most = c.most; stake = c.stake; gated = c.gated; later = c.later; grows = c.grows }
counts_more gone s a tail WriteTail more [] c = record {
  most = c.most;
  stake = inl c.later;
  gated = inl c.later;
  later = later_tail (more ∷ []) (generation_of a.kept.present) a.next.generation c.later;
  grows = tt;
}
counts_more gone s a tail WriteTail more (next ∷ left) c = record {
  most = c.most;
  stake = c.stake;
  gated = inl c.later;
  later = later_tail (more ∷ next ∷ left) (generation_of a.kept.present) a.next.generation c.later;
  grows = tt;
}

-- the job ends
most_ends : (ending : Ending) (gone kept then : ℕ) (s : StoreState) → s.firm ≤ gone + kept → Adding ending (length s.adding) kept then → (ends ending s).firm ≤ gone_by ending (ends ending s).firm then gone + then
most_ends (Closes odd) gone kept then s most grows = omega (arith, most, grows)
most_ends Repairs gone kept then s most grows = omega (arith, most, grows)
most_ends (Adds end) gone kept then s most grows = omega (arith, most, grows)
most_ends (Switches end last) gone kept then s most grows = omega arith

rests_at : (ending : Ending) (s : StoreState) (a : Aim) → StandsBy StoreNext OwnRests (ends ending s).running (ends ending s) a → OwnRests (ends ending s) a.kept a.stake
rests_at (Closes odd) s a r = r
rests_at Repairs s a r = r
rests_at (Adds end) s a r = r
rests_at (Switches end last) s a r = r

-- the end keeps what it was of, and no call is left
ended_as : (ending : Ending) (s : StoreState) → ((ends ending s).running ≡ []) × ((ends ending s).ending ≡ s.ending)
ended_as (Closes odd) s = (refl, refl)
ended_as Repairs s = (refl, refl)
ended_as (Adds end) s = (refl, refl)
ended_as (Switches end last) s = (refl, refl)

counts_rest : (gone : ℕ) (s : StoreState) (a : Aim) → s.running ≡ [] → s.firm ≤ gone + length a.kept.entries → Beyond a.kept a.stake → Beyond a.kept a.gated → Counts gone s a
counts_rest gone s a idle most stake gated =
    subst (λ (calls : List StoreCall). CountsBy calls gone s a) (sym idle) (record { most = most; stake = stake; gated = gated; later = tt; grows = tt })

counts_last : (gone : ℕ) (s : StoreState) (a : Aim) (other : Kept) → Adding s.ending (length s.adding) (length a.kept.entries) (length a.then.entries) → s.firm ≤ gone + length a.kept.entries
    → IsOwn (ends s.ending s) (at_rest a.then other a.next) → Counts (gone_after [] (ends s.ending s) (at_rest a.then other a.next) gone) (ends s.ending s) (at_rest a.then other a.next)
counts_last gone s a other grows most own =
    let r = rests_at s.ending s (at_rest a.then other a.next) own in
    let is = ended_as s.ending s in
    let beyond = wire_beyond r.images a.then other r.wire in
    counts_rest (gone_by (ends s.ending s).ending (ends s.ending s).firm (length a.then.entries) gone) (ends s.ending s) (at_rest a.then other a.next) is.0
    (subst (λ (e : Ending). (ends s.ending s).firm ≤ gone_by e (ends s.ending s).firm (length a.then.entries) gone + length a.then.entries) (sym is.1)
    (most_ends s.ending gone (length a.kept.entries) (length a.then.entries) s most grows))
    beyond beyond

pub counts_goes : (gone : ℕ) (s : StoreState) (a : Aim) (tail : Tail) (call : StoreCall) (left : List StoreCall) (other : Kept) → CountsBy (call ∷ left) gone s a
    → IsOwn (job_called tail (call ∷ left) s) (aim_after left other (aim_called tail call left a))
    → Counts (gone_after left (job_called tail (call ∷ left) s) (aim_after left other (aim_called tail call left a)) gone) (job_called tail (call ∷ left) s) (aim_after left other (aim_called tail call left a))
counts_goes gone s a tail (On device call) [] other c own = counts_last gone (advanced tail (On device call) [] s) (aim_called tail (On device call) [] a) other c.grows c.most own
counts_goes gone s a tail WriteTail [] other c own = counts_last gone (advanced tail WriteTail [] s) (aim_called tail WriteTail [] a) other tt c.most own
counts_goes gone s a tail call (more ∷ left) other c own = counts_more gone s a tail call more left c

-- ---- what is given, and a crash

pub counts_given : (gone : ℕ) (s : StoreState) (a : Aim) (entries : List (List ℕ)) → Counts gone s a → Counts gone (given entries s) a
counts_given gone s a entries c = record { most = c.most; stake = c.stake; gated = c.gated; later = c.later; grows = c.grows }

pub counts_asked : (gone : ℕ) (s : StoreState) (a : Aim) (snapshot : List ℕ) → Counts gone s a → Counts gone (asked snapshot s) a
counts_asked gone s a snapshot c = record { most = c.most; stake = c.stake; gated = c.gated; later = c.later; grows = c.grows }

pub counts_crash : (gone : ℕ) (s : StoreState) (a : Aim) → Counts gone s a → IsOwn s a → (images : Images) → MayLeave s.devices images
    → (generation_of a.kept.present < generation_of (restores images).present) ⊎ BeginsWith a.kept gone s.firm (restores images)
counts_crash gone s a c own images may = by (next_restores images a.kept a.stake (own_leaves s a own images may)) c.stake
  where
    later_or : (x : Kept) → restores images ≡ x → Beyond a.kept x → (generation_of a.kept.present < generation_of (restores images).present) ⊎ BeginsWith a.kept gone s.firm (restores images)
    later_or x is (inl beyond) =
        let same = ap (λ (k : Kept). generation_of k.present) is in
        inl (omega (arith, same, beyond))
    later_or x is (inr more) = inr (record { more = more.0; is = is ∙ more.1; most = c.most })

    by : Either images a.kept a.stake → Beyond a.kept a.stake → (generation_of a.kept.present < generation_of (restores images).present) ⊎ BeginsWith a.kept gone s.firm (restores images)
    by (inl is) beyond = later_or a.kept is (same_beyond a.kept)
    by (inr is) beyond = later_or a.stake is beyond
