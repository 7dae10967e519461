-- No run but that of a node ends for a fault of a trail or of a device.
use Rattle.std.proofs.Common.{◌≡◌, ◌∙◌, ℕ, List, Option, sym, subst}
use Rattle.script_play.specs.declared.status.Status.{Status}
use Rattle.script_play.specs.declared.status.Status.TheVariants as ends
use Rattle.audit_play.specs.declared.status.AuditStatus.{AuditStatus}
use Rattle.audit_play.specs.declared.status.AuditStatus.TheVariants as audits
use Rattle.smart_top.specs.Audits.{status_of, AuditEnd}
use Rattle.smart_top.specs.Loads.{LoadEnd}
use Rattle.smart_top.specs.Runs.{RunEnd}

module _ (left left' written written' : Option (List ℕ)) (wants wants' : ℕ) (status : Status) where
  -- and none finds that the words are no command
  pub run_words : RunEnd left left' written written' wants wants' status → status ≡ ends.Words → ⊥
  run_words ended is = subst (RunEnd left left' written written' wants wants') is ended

  pub run_trail : RunEnd left left' written written' wants wants' status → status ≡ ends.TrailFault → ⊥
  run_trail ended is = subst (RunEnd left left' written written' wants wants') is ended

  pub run_disk : RunEnd left left' written written' wants wants' status → status ≡ ends.DiskFault → ⊥
  run_disk ended is = subst (RunEnd left left' written written' wants wants') is ended

  pub load_trail : (n : ℕ) → LoadEnd n written written' wants wants' status → status ≡ ends.TrailFault → ⊥
  load_trail n ended is = subst (LoadEnd n written written' wants wants') is ended

  pub load_disk : (n : ℕ) → LoadEnd n written written' wants wants' status → status ≡ ends.DiskFault → ⊥
  load_disk n ended is = subst (LoadEnd n written written' wants wants') is ended

  pub audit_trail : AuditEnd left left' written written' wants wants' status → status ≡ ends.TrailFault → ⊥
  audit_trail ended is = no-trail ended.end (sym ended.status_is ∙ is)
    where
      no-trail : (end : AuditStatus) → status_of end ≡ ends.TrailFault → ⊥
      no-trail audits.Coherent e = absurd (cc)
      no-trail audits.Empty e = absurd (cc)
      no-trail (audits.Form part) e = absurd (cc)
      no-trail audits.ReadFault e = absurd (cc)
      no-trail audits.WriteFault e = absurd (cc)
      no-trail (audits.Limit part) e = absurd (cc)
      no-trail (audits.Differs d) e = absurd (cc)
      no-trail audits.NoMemory e = absurd (cc)

  pub audit_disk : AuditEnd left left' written written' wants wants' status → status ≡ ends.DiskFault → ⊥
  audit_disk ended is = no-disk ended.end (sym ended.status_is ∙ is)
    where
      no-disk : (end : AuditStatus) → status_of end ≡ ends.DiskFault → ⊥
      no-disk audits.Coherent e = absurd (cc)
      no-disk audits.Empty e = absurd (cc)
      no-disk (audits.Form part) e = absurd (cc)
      no-disk audits.ReadFault e = absurd (cc)
      no-disk audits.WriteFault e = absurd (cc)
      no-disk (audits.Limit part) e = absurd (cc)
      no-disk (audits.Differs d) e = absurd (cc)
      no-disk audits.NoMemory e = absurd (cc)
