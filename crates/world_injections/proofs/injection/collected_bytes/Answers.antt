use Rattle.std.proofs.Common.{◌≡◌, ◌∙◌, List, ℕ, ap}
use Rattle.smart_statements.specs.Forms.{SignedBy}
use Rattle.smart_messages.specs.Regencies.{syncs}
use Rattle.smart_statements.specs.declared.report.Report.{Report}
use Rattle.smart_messages.specs.declared.regency.Sync.{Sync}
use Rattle.replica_rules.specs.Seals.{signed}
use Rattle.world_rules.specs.Secrets.{group_secret}
use Rattle.world_injections.proofs.injection.collected_bytes.Goals as goal

pub returns : goal.returns
returns c =
    let begins : List ℕ → ℕ → List (SignedBy Report) → SignedBy Sync = λ secret signer collect. signed syncs secret signer (record { view = c.args.view; regency = c.args.regency; collect = collect }) in
    let e : c.in_ok-signed.signed ≡ begins group_secret c.args.signer c.args.reports =
    c.in_ok-signed.ensures
    ∙ (ap (λ (secret : List ℕ). begins secret c.get.result c.from_list.result) c.requires.secret
    ∙ (ap (λ (signer : ℕ). begins group_secret signer c.from_list.result) c.get.ensures ∙ ap (λ (rs : List (SignedBy Report)). begins group_secret c.args.signer rs) c.from_list.ensures)) in
    rw (← e) c.short_spelling.ensures
