-- What the choice of reports binds, by one of them.
use Rattle.std.proofs.Common.{◌≡◌, ℕ, ◌+◌, ◌<◌, ◌≤◌, ⊎_elim, List, ◌∷◌, Option, Some, None, refl, ap, sym, subst, ◌∙◌, inl, arith}
use Rattle.std.specs.Prelude.{option_map}
use Rattle.std.proofs.lemmas.Bool.{eq-eqb}
use Rattle.smart_statements.specs.Forms.{SignedBy}
use Rattle.smart_statements.specs.declared.report.LockCertificate.{LockCertificate}
use Rattle.smart_statements.specs.declared.report.Report.{Report}
use Rattle.regency_sync.specs.Choices.{greatest_last, lock_behind, greatest_lock, choice, IsEarlier, IsNoLater, IsBinding}
use Rattle.regency_sync.proofs.Choices.{last_above, none_each, greatest_binds, base_is}
use Rattle.vote_book.specs.Books.{Among}
use Rattle.agreement_laws.proofs.Lists.{among_right, among_either, each_among}
use Rattle.agreement_laws.proofs.Diaries.{IsAtLeast}

bound_is : (items : List (SignedBy Report)) (lock : LockCertificate) → greatest_lock (greatest_last items) items ≡ Some lock → (choice items).bound ≡ Some lock.digest
unfolding choice
bound_is items lock is = ap (option_map (λ (l : LockCertificate). l.digest)) is

-- the choice begins at a place, and binds the digest of a lock there of one of the reports, of this regency at least
pub record ChosenLock (items : List (SignedBy Report)) (place regency : ℕ) : Type 0 where
  pub base_is : (choice items).base ≡ place
  pub lock : LockCertificate
  pub bound_is : (choice items).bound ≡ Some lock.digest
  pub item : SignedBy Report
  pub there : Among item items
  pub next : item.statement.last + 1 ≡ place
  pub held : item.statement.lock ≡ Some lock
  pub reached : regency ≤ lock.regency

last_most : (items : List (SignedBy Report)) (item : SignedBy Report) → Among item items → item.statement.last ≤ greatest_last items
last_most items item there =
    let below = each_among (λ r. r.statement.last < greatest_last items + 1) items item (last_above items (greatest_last items + 1) (omega arith)) there in
    omega (arith, below)

-- a lock of a report with this last place
here : (last : ℕ) (item : SignedBy Report) (lock : LockCertificate) → item.statement.last ≡ last → item.statement.lock ≡ Some lock → lock_behind last item ≡ Some lock
here last item lock same is = rw (eq-eqb item.statement.last last same) is

earlier : (regency : ℕ) (held : Option LockCertificate) (lock : LockCertificate) → held ≡ Some lock → IsEarlier regency held → lock.regency ≤ regency
earlier regency held lock is less = let below : lock.regency < regency = rw is at less in omega (arith, below)

no_later : (regency : ℕ) (held : Option LockCertificate) (lock : LockCertificate) → held ≡ Some lock → IsNoLater regency held → lock.regency ≤ regency
no_later regency held lock is le = rw is at le

one_lock : (one two : LockCertificate) → Some one ≡ Some two → one.regency ≤ two.regency
one_lock one two same = let is : one ≡ two = cc in let regencies : one.regency ≡ two.regency = ap (λ (l : LockCertificate). l.regency) is in omega (arith, regencies)

-- none of the locks there is of a later regency than the one that binds
binds_most : (last : ℕ) (items : List (SignedBy Report)) (lock : LockCertificate) → IsBinding last items lock → (item : SignedBy Report) → Among item items
    → (held : LockCertificate) → item.statement.last ≡ last → item.statement.lock ≡ Some held → held.regency ≤ lock.regency
binds_most last items lock binding item there held own_last own =
    let held_here = here last item held own_last own in
    ⊎_elim
    (λ l. earlier lock.regency (lock_behind last item) held held_here (each_among (λ r. IsEarlier lock.regency (lock_behind last r)) binding.front item binding.first l))
    (⊎_elim
    (λ (same : item ≡ binding.report). one_lock held lock (sym own ∙ (ap (λ (r : SignedBy Report). r.statement.lock) same ∙ binding.lock_is)))
    (λ r. no_later lock.regency (lock_behind last item) held held_here (each_among (λ x. IsNoLater lock.regency (lock_behind last x)) binding.back item binding.greatest r)))
    (among_either item binding.front (binding.report ∷ binding.back) (subst (λ xs. Among item xs) binding.split there))

chosen_at : (items : List (SignedBy Report)) (last place regency : ℕ) (item : SignedBy Report) (found : Option LockCertificate) → greatest_last items ≡ last → last + 1 ≡ place
    → Among item items → item.statement.last ≡ last → IsAtLeast item.statement.lock regency → greatest_lock last items ≡ found → ChosenLock items place regency
chosen_at items last place regency item None greatest next there own_last own is =
    let none = each_among (λ r. lock_behind last r ≡ None) items item (none_each last items is) there in
    let some = here last item own.lock own_last own.is in
    absurd (cc)
chosen_at items last place regency item (Some lock) greatest next there own_last own is =
    let binding = greatest_binds last items lock is in
    let most = binds_most last items lock binding item there own.lock own_last own.is in
    record {
      base_is = base_is items ∙ (ap (λ (n : ℕ). n + 1) greatest ∙ next);
      lock = lock;
      bound_is = bound_is items lock (subst (λ (n : ℕ). greatest_lock n items ≡ Some lock) (sym greatest) is);
      item = binding.report;
      there = subst (λ xs. Among binding.report xs) (sym binding.split) (among_right binding.report binding.front (binding.report ∷ binding.back) (inl refl));
      next = ap (λ (n : ℕ). n + 1) binding.place_is ∙ next;
      held = binding.lock_is;
      reached = omega (arith, own.reached, most);
    }

pub chosen_lock : (items : List (SignedBy Report)) (item : SignedBy Report) (place regency : ℕ) → Among item items → place ≤ item.statement.last + 1
    → (place ≡ item.statement.last + 1 → IsAtLeast item.statement.lock regency) → (choice items).base ≤ place → ChosenLock items place regency
chosen_lock items item place regency there near own reached =
    let most = last_most items item there in
    let base = base_is items in
    chosen_at items (greatest_last items) place regency item (greatest_lock (greatest_last items) items) refl (omega (arith, near, reached, most, base)) there
    (omega (arith, near, reached, most, base)) (own (omega (arith, near, reached, most, base))) refl
