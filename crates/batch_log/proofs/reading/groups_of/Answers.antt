use Rattle.std.proofs.Common.{◌≡◌, ◌∷◌, ◌++◌, List, IfSome, sym, subst}
use Rattle.store_form.specs.Spelling.{Group, group_text, IsGroup}
use Rattle.batch_log.specs.Log.{log_bytes, AreGroups}
use Rattle.batch_log.proofs.Spelled.{pushed}
use Rattle.batch_log.proofs.reading.groups_of.Goals as goal

pub loop-groups-preserved : goal.loop-groups-preserved
loop-groups-preserved c =
    let found : (c.loop-groups.rest.now ≡ 1 ∷ (group_text c.in-Some.group ++ c.in-Some.after.now)) × IsGroup c.in-Some.group =
    subst (λ o. IfSome o (λ x. (c.loop-groups.rest.now ≡ 1 ∷ (group_text x.0 ++ x.1.now)) × IsGroup x.0)) c.in-Some.is c.in_ok-group.ensures.some in
    let both = pushed c.loop-groups.groups c.in-Some.group c.args.bytes.now c.loop-groups.rest.now c.in-Some.after.now c.loop-groups.invariant.parts c.loop-groups.invariant.fit found.0 found.1 in
    record {
      parts = subst (λ (gs : List Group). c.args.bytes.now ≡ log_bytes gs ++ c.in-Some.after.now) (sym c.in_ok-push.ensures.ok) both.0;
      fit = subst AreGroups (sym c.in_ok-push.ensures.ok) both.1;
    }
