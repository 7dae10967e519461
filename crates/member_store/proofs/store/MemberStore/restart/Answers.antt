use Rattle.std.proofs.Common.{◌≡◌, false, IfOk, ◌∙◌, ap, subst}
use Rattle.store_laws.specs.Restored.{restores}
use Rattle.world_rules.specs.Crashes.{bytes_held}
use Rattle.member_store.specs.Members.{MemberState}
use Rattle.member_store.specs.Devices.{state_in}
use Rattle.member_store.proofs.store.MemberStore.restart.Goals as goal

pub returns-clause-restores : goal.returns-clause-restores
returns-clause-restores c =
    subst (λ (s : MemberState). IfOk c.opened-devices.result.1 (λ kept. s.runs ≡ false → kept ≡ restores (bytes_held s.state)))
    (ap (λ d. state_in d) c.replace-devices.ensures.value ∙ c.self.view_is) c.opened-devices.ensures.restores
