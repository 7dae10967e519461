-- The law over the service that openings name.
use Rattle.std.proofs.Common.{◌≡◌, ℕ, zero, suc, Bool, false, true, filter, length, List, [], ◌∷◌, refl, ap, sym, ◌∙◌, subst, arith, None, Some}
use Rattle.smart_base.specs.Lists.{Each}
use Rattle.smart_base.specs.Views.{View, is_view}
use Rattle.smart_base.proofs.ViewFacts.{each-weaken}
use Rattle.smart_statements.specs.Batches.{Batch}
use Rattle.smart_messages.specs.Messages.{decoded}
use Rattle.app_count.specs.Counts.{counting, IsSum}
use Rattle.app_count.specs.Replies.{brief_replies as brief_sums}
use Rattle.app_count.specs.Sums.{first_sum, next_sum, valid_sum, restored_sum, short_snapshot as short_sum, one_snapshot as one_sum}
use Rattle.app_kv.specs.Snapshots.{keeping}
use Rattle.app_kv.specs.Replies.{brief_replies as brief_values}
use Rattle.app_kv.specs.Stores.{IsStore}
use Rattle.app_kv.specs.States.{first_store, next_store}
use Rattle.app_kv.specs.Restored.{valid_store, restored_store, short_snapshot as short_store, one_snapshot as one_store}
use Rattle.smart_service.specs.Services.{Meaning}
use Rattle.vote_book.specs.Books.{Among}
use Rattle.replica_rules.specs.Replicas.{batch_at}
use Rattle.agreement_laws.proofs.Lists.{each_among}
use Rattle.replica_laws.proofs.Small.{IsBrief, brief_where}
use Rattle.trail.specs.declared.opening.App.{App}
use Rattle.trail.specs.declared.opening.App.TheVariants as apps
use Rattle.audit_rules.specs.declared.recorded.Recorded.{Recorded}
use Rattle.trail_rules.specs.Replays.{arrivals}
use Rattle.audit_rules.specs.Audits.{CanBegin, damage_by, is_client, sealed_in}
use Rattle.audit_rules.specs.Coherence.{AreSent, Coherent, Fresh, IsFresh, IsReplayed, IsSent, LeavesBy, first_snapshot}
use Rattle.trail_agreement.specs.Deliveries.{AreSpelled, FewInEach, FewInEachBy, NoCollision, NoCollisionBy, OneListBy}
use Rattle.trail_agreement.specs.Excuses.{AreSentBut, CoherentBut, IsSentBut, nobody}
use Rattle.trail_agreement.proofs.Group.{IsGroup, IsOver}
use Rattle.trail_agreement.proofs.OneList.{one_list_over}

sums_are_brief : IsBrief counting
sums_are_brief = brief_where counting IsSum first_sum next_sum valid_sum brief_sums short_sum restored_sum one_sum

values_are_brief : IsBrief keeping
values_are_brief = brief_where keeping IsStore first_store next_store valid_store brief_values short_store restored_store one_store

module _ (faulty : ℕ → Bool) (trails : List Recorded) (spelled : AreSpelled trails) (coherent : CoherentBut faulty trails) (secret : List ℕ) (view : View) (period : ℕ) where
  abbrev Freshly : App → Type 0
  Freshly app = Each (IsFresh app secret view period) trails

  fresh_of : (app : App) → Freshly app → (t : Recorded) → Among t trails → IsFresh app secret view period t
  fresh_of app each t there = each_among (IsFresh app secret view period) trails t each there

  leaves_by : (app : App) → Freshly app → (t : Recorded) → Among t trails → is_client t ≡ false → LeavesBy t app
  leaves_by app each t there member = subst (λ (a : App). LeavesBy t a) (fresh_of app each t there).app_is (each_among IsReplayed trails t coherent.replayed there member)

  whole_by : (app : App) → Freshly app → (t : Recorded) → Among t trails → is_client t ≡ false → damage_by t app ≡ None
  whole_by app each t there member = subst (λ (a : App). damage_by t a ≡ None) (fresh_of app each t there).app_is (each_among CanBegin trails t spelled.begin there member)

  snapshot_by : (app : App) → Freshly app → (t : Recorded) → Among t trails → is_client t ≡ false → t.opening.snapshot ≡ first_snapshot app t.opening.view
  snapshot_by app each t there member = let of = fresh_of app each t there in of.snapshot_is member ∙ ap (λ (v : View). first_snapshot app v) (sym of.view_is)

  over_count : Freshly apps.Count → (t : Recorded) → Among t trails → is_client t ≡ false → IsOver counting t
  over_count each t there member = record {
    leaves = leaves_by apps.Count each t there member;
    whole = whole_by apps.Count each t there member;
    snapshot = snapshot_by apps.Count each t there member;
    first = (fresh_of apps.Count each t there).book member;
  }

  over_kv : Freshly apps.Kv → (t : Recorded) → Among t trails → is_client t ≡ false → IsOver keeping t
  over_kv each t there member = record {
    leaves = leaves_by apps.Kv each t there member;
    whole = whole_by apps.Kv each t there member;
    snapshot = snapshot_by apps.Kv each t there member;
    first = (fresh_of apps.Kv each t there).book member;
  }

  -- a group over each service
  pub group_count : FewInEach counting faulty view trails → is_view view ≡ true → Freshly apps.Count → NoCollision counting trails → IsGroup counting faulty trails secret view
  group_count few viewed each apart = record {
    brief = sums_are_brief;
    viewed = viewed;
    spelled = spelled;
    sent = coherent.sent;
    secrets = λ t there. (fresh_of apps.Count each t there).secret_is;
    views = λ t there. (fresh_of apps.Count each t there).view_is;
    over = over_count each;
    few = few;
    apart = apart;
  }

  pub group_kv : FewInEach keeping faulty view trails → is_view view ≡ true → Freshly apps.Kv → NoCollision keeping trails → IsGroup keeping faulty trails secret view
  group_kv few viewed each apart = record {
    brief = values_are_brief;
    viewed = viewed;
    spelled = spelled;
    sent = coherent.sent;
    secrets = λ t there. (fresh_of apps.Kv each t there).secret_is;
    views = λ t there. (fresh_of apps.Kv each t there).view_is;
    over = over_kv each;
    few = few;
    apart = apart;
  }

  one_by : (app : App) → FewInEachBy app faulty view trails → is_view view ≡ true → Freshly app → NoCollisionBy app trails → OneListBy app trails
  one_by apps.Count few viewed each apart = one_list_over counting faulty trails secret view (group_count few viewed each apart)
  one_by apps.Kv few viewed each apart = one_list_over keeping faulty trails secret view (group_kv few viewed each apart)

-- no runs deliver the empty list
none_at : (place : ℕ) (batch : Batch) → batch_at [] place ≡ Some batch → ⊥
none_at zero batch at = cc
none_at (suc k) batch at = cc

none_by : (app : App) → OneListBy app []
none_by apps.Count = record { list = []; decided = λ place batch at. absurd (none_at place batch at); members = tt }
none_by apps.Kv = record { list = []; decided = λ place batch at. absurd (none_at place batch at); members = tt }

pub one_list_but : (faulty : ℕ → Bool) (trails : List Recorded) → AreSpelled trails → CoherentBut faulty trails → (fresh : Fresh trails) → FewInEachBy fresh.app faulty fresh.view trails → NoCollisionBy fresh.app trails
    → OneListBy fresh.app trails
one_list_but faulty [] spelled coherent fresh few apart = none_by fresh.app
one_list_but faulty (t ∷ ts) spelled coherent fresh few apart =
    one_by faulty (t ∷ ts) spelled coherent fresh.secret fresh.view fresh.period fresh.app few (subst (λ (v : View). is_view v ≡ true) fresh.each.0.view_is spelled.each.0.view) fresh.each apart

-- ---- nobody is excused

none-faulty : (members : List ℕ) → length (filter nobody members) ≡ 0
none-faulty [] = refl
none-faulty (x ∷ xs) = none-faulty xs

pub few_nobody : {S : Type 0} (m : Meaning S) (view : View) (trails : List Recorded) → FewInEach m nobody view trails
few_nobody m view trails = record { each = λ list decided v there. let none = none-faulty v.members in omega (arith, none) }

few_nobody_by : (app : App) (view : View) (trails : List Recorded) → FewInEachBy app nobody view trails
few_nobody_by apps.Count view trails = few_nobody counting view trails
few_nobody_by apps.Kv view trails = few_nobody keeping view trails

pub coherent_but : (trails : List Recorded) → Coherent trails → CoherentBut nobody trails
coherent_but trails is = record {
  replayed = is.replayed;
  sent = each-weaken (AreSent trails) (AreSentBut nobody trails)
      (λ t each.
      each-weaken (λ (bytes : List ℕ). Each (IsSent trails t.opening.secret) (sealed_in (decoded bytes))) (λ (bytes : List ℕ). Each (IsSentBut nobody trails t.opening.secret) (sealed_in (decoded bytes)))
      (λ bytes all. each-weaken (IsSent trails t.opening.secret) (IsSentBut nobody trails t.opening.secret) (λ s sent member excused tagged. sent member tagged) (sealed_in (decoded bytes)) all)
      (arrivals t.events) each) trails is.sent;
}

pub one_list : (trails : List Recorded) → AreSpelled trails → Coherent trails → (fresh : Fresh trails) → NoCollisionBy fresh.app trails → OneListBy fresh.app trails
one_list trails spelled coherent fresh apart = one_list_but nobody trails spelled (coherent_but trails coherent) fresh (few_nobody_by fresh.app fresh.view trails) apart
