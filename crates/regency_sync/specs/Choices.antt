-- The choice of a leader's reports: the place at which its regency begins, and the batch that it has to decide there. That a value which
-- may be decided binds the next leader is Mod-SMaRt's (EDCC 2012); how it is chosen is this project's own.
use Rattle.std.specs.Prelude.{◌≡◌, ℕ, ◌+◌, ◌<◌, ◌≤◌, ◌==◌, nat_lt, max, List, [], ◌∷◌, ◌++◌, if◌then◌else◌, Option, Some, None, option_map}
use Rattle.smart_base.specs.Lists.{Each}
use Rattle.smart_statements.specs.Forms.{SignedBy}
use Rattle.smart_statements.specs.declared.report.LockCertificate.{LockCertificate}
use Rattle.smart_statements.specs.declared.report.Report.{Report}
use Rattle.regency_sync.specs.declared.choice.Choice.{Choice}

-- the greatest last place that reports state; 0 if there is no report
abbrev pub greatest_last : List (SignedBy Report) → ℕ
greatest_last [] = 0
greatest_last (r ∷ rs) = max r.statement.last (greatest_last rs)

-- the lock of a report, if the report states this last place
abbrev pub lock_behind : ℕ → SignedBy Report → Option LockCertificate
lock_behind last r = if r.statement.last == last then r.statement.lock else None

-- the lock of the greater regency; of equals the first
abbrev pub greater : Option LockCertificate → Option LockCertificate → Option LockCertificate
greater None other = other
greater (Some a) None = Some a
greater (Some a) (Some b) = if nat_lt a.regency b.regency then Some b else Some a

-- the lock of the greatest regency among reports that state this last place; of equals the first
abbrev pub greatest_lock : ℕ → List (SignedBy Report) → Option LockCertificate
greatest_lock last [] = None
greatest_lock last (r ∷ rs) = greater (lock_behind last r) (greatest_lock last rs)

-- The choice of reports. The regency begins at the place after the greatest last place. The greatest lock there binds that place.
unfoldable pub choice : List (SignedBy Report) → Choice
choice reports = record {
  base = greatest_last reports + 1;
  bound = option_map (λ (l : LockCertificate). l.digest) (greatest_lock (greatest_last reports) reports);
}

-- a lock of an earlier regency, if there is a lock
abbrev pub IsEarlier : ℕ → Option LockCertificate → Type 0
IsEarlier regency None = Unit {0}
IsEarlier regency (Some lock) = lock.regency < regency

-- a lock of no later regency, if there is a lock
abbrev pub IsNoLater : ℕ → Option LockCertificate → Type 0
IsNoLater regency None = Unit {0}
IsNoLater regency (Some lock) = lock.regency ≤ regency

-- the lock that binds: among the reports that state a last place, the first one of the greatest regency
pub record IsBinding (last : ℕ) (reports : List (SignedBy Report)) (lock : LockCertificate) : Type 0 where
  pub front : List (SignedBy Report)
  pub report : SignedBy Report
  pub back : List (SignedBy Report)
  pub split : reports ≡ front ++ report ∷ back
  -- the lock is that of a report which states this last place
  pub place_is : report.statement.last ≡ last
  pub lock_is : report.statement.lock ≡ Some lock
  -- no lock before it reaches its regency, and none after it passes it
  pub first : Each (λ r. IsEarlier lock.regency (lock_behind last r)) front
  pub greatest : Each (λ r. IsNoLater lock.regency (lock_behind last r)) back

-- reports of which a lock with this digest binds the place after the greatest last place
pub record IsBound (reports : List (SignedBy Report)) (digest : List ℕ) : Type 0 where
  pub lock : LockCertificate
  pub digest_is : lock.digest ≡ digest
  pub binding : IsBinding (greatest_last reports) reports lock
