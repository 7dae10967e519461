-- The books of coherent runs witness what has been stated.
use Rattle.std.proofs.Common.{◌≡◌, inl, inr, ℕ, ◌≤◌, ◌==◌, Bool, true, false, cond, ◌||◌, List, [], ◌∷◌, ◌++◌, refl, ap, sym, ◌∙◌, subst, arith, eqb-true, eq-eqb}
use Rattle.std.specs.Prelude.{if◌then◌else◌, map}
use Rattle.std.specs.List.{list_any}
use Rattle.smart_base.specs.Lists.{Distinct, Each}
use Rattle.smart_base.specs.Views.{View, is_member, is_view}
use Rattle.smart_base.proofs.ViewFacts.{view-names}
use Rattle.vote_book.specs.Books.{Among, Lawful}
use Rattle.vote_book.specs.declared.entry.LogEntry.{LogEntry}
use Rattle.replica_rules.specs.Seals.{digest_of}
use Rattle.agreement_laws.specs.Certificates.{IsBacked}
use Rattle.agreement_laws.specs.Diaries.{IsShown}
use Rattle.agreement_laws.specs.Law.{FewFaulty, IsCorrect, Witnessed}
use Rattle.agreement_laws.proofs.Lists.{each_among, number_among}
use Rattle.replica_laws.specs.Sending.{RestsOn}
use Rattle.trail.specs.declared.event.Addressed.{Addressed}
use Rattle.trail_rules.specs.Replays.{sends}
use Rattle.audit_rules.specs.declared.recorded.Recorded.{Recorded}
use Rattle.audit_rules.specs.Audits.{is_client}
use Rattle.trail_agreement.specs.Deliveries.{number_of}
use Rattle.trail_agreement.proofs.Shown.{MayCome, all_stated, stated_closed, stated_shown}

-- ---- the diary of a member

-- the book of the trail of a member; none if it has none
abbrev pub diary_in : (Recorded → List LogEntry) → List Recorded → ℕ → List LogEntry
diary_in book [] member = []
diary_in book (t ∷ ts) member = if t.opening.member == member then book t else diary_in book ts member

module _ (book : Recorded → List LogEntry) where
  -- what holds of each book, and of none, holds of a diary
  by_trail : (P : List LogEntry → Type 0) (member : ℕ) (ts : List Recorded) → P [] → ((t : Recorded) → Among t ts → t.opening.member ≡ member → P (book t)) → P (diary_in book ts member)
  by_trail P member [] none holds = none
  by_trail P member (t ∷ ts) none holds = by (t.opening.member == member) refl (by_trail P member ts none (λ u there same. holds u (inr there) same))
    where
      by : (b : Bool) → (t.opening.member == member) ≡ b → P (diary_in book ts member) → P (cond b (book t) (diary_in book ts member))
      by true is rest = holds t (inl refl) (eqb-true t.opening.member member is)
      by false is rest = rest

  no_other : (n : ℕ) (ns : List ℕ) (m : ℕ) → list_any (λ y. y == n) ns ≡ false → Among m ns → m ≡ n → ⊥
  no_other n [] m none there same = there
  no_other n (x ∷ xs) m none (inl is) same = by (x == n) (list_any (λ y. y == n) xs) none (eq-eqb x n (sym is ∙ same))
    where
      by : (a b : Bool) → (a || b) ≡ false → a ≡ true → ⊥
      by true b off on = absurd (cc)
      by false b off on = absurd (cc)
  no_other n (x ∷ xs) m none (inr there) same = no_other n xs m (by (x == n) (list_any (λ y. y == n) xs) none) there same
    where
      by : (a b : Bool) → (a || b) ≡ false → b ≡ false
      by true b off = absurd (cc)
      by false b off = off

  among_number_of : (t : Recorded) (ts : List Recorded) → Among t ts → Among (number_of t) (map number_of ts)
  among_number_of t [] there = there
  among_number_of t (u ∷ us) (inl is) = inl (ap number_of is)
  among_number_of t (u ∷ us) (inr there) = inr (among_number_of t us there)

  -- a member's only trail has its diary
  pub diary_of : (ts : List Recorded) (t : Recorded) (member : ℕ) → Distinct (map number_of ts) → Among t ts → t.opening.member ≡ member → diary_in book ts member ≡ book t
  diary_of [] t member once there same = absurd there
  diary_of (u ∷ us) t member once (inl is) same = by (u.opening.member == member) (eq-eqb u.opening.member member (ap number_of (sym is) ∙ same))
    where
      by : (b : Bool) → b ≡ true → cond b (book u) (diary_in book us member) ≡ book t
      by true on = ap book (sym is)
      by false on = absurd (cc)
  diary_of (u ∷ us) t member once (inr there) same = by (u.opening.member == member) refl (diary_of us t member once.1 there same)
    where
      by : (b : Bool) → (u.opening.member == member) ≡ b → diary_in book us member ≡ book t → cond b (book u) (diary_in book us member) ≡ book t
      by true is rest = absurd (no_other u.opening.member (map number_of us) t.opening.member once.0 (among_number_of t us there) (same ∙ sym (eqb-true u.opening.member member is)))
      by false is rest = rest

-- ---- what is witnessed

none_lawful : Lawful 0 0 []
none_lawful before entry after split = absurd (apart before split)
  where
    apart : (before : List LogEntry) → [] ≡ before ++ entry ∷ after → ⊥
    apart [] same = cc
    apart (e ∷ es) same = cc

-- a member of a view is no client
pub some_member : (view : View) (member : ℕ) → is_view view ≡ true → is_member view member ≡ true → (member == 0) ≡ false
some_member view member viewed within =
    let low = (each_among (λ m. (1 ≤ m) × (m ≤ 65535)) view.members member (view-names view viewed) (number_among view.members member within)).0 in
    by (member == 0) refl low
  where
    by : (b : Bool) → (member == 0) ≡ b → 1 ≤ member → (member == 0) ≡ false
    by true is low = let zero = eqb-true member 0 is in absurd (omega (arith, zero, low))
    by false is low = is

-- books of members, each lawful and resting in a view on what has been stated, and on which all that was sent rests
pub record AreBooks (secret : List ℕ) (view : View) (trails : List Recorded) (book : Recorded → List LogEntry) : Type 0 where
  pub lawful : (t : Recorded) → Among t trails → is_client t ≡ false → Lawful 0 0 (book t)
  pub backed : (t : Recorded) → Among t trails → is_client t ≡ false → Each (IsBacked secret digest_of view (all_stated secret trails)) (book t)
  pub rests : (t : Recorded) → Among t trails → is_client t ≡ false → Each (λ (a : Addressed). RestsOn (book t) a.message) (sends t.events)

pub witnesses : (faulty : ℕ → Bool) (secret : List ℕ) (view : View) (trails : List Recorded) (book : Recorded → List LogEntry) → FewFaulty view faulty → is_view view ≡ true → Distinct (map number_of trails) → Each (MayCome faulty trails secret) trails
    → AreBooks secret view trails book → Witnessed secret digest_of view faulty (diary_in book trails) (all_stated secret trails)
witnesses faulty secret view trails book few viewed once may are =
    record {
      few = few;
      lawful = λ member correct. by_trail book (λ (es : List LogEntry). Lawful 0 0 es) member trails none_lawful (λ t there same. are.lawful t there (no_client member correct t same));
      backed = λ member correct.
          by_trail book (λ (es : List LogEntry). Each (IsBacked secret digest_of view (all_stated secret trails)) es) member trails tt (λ t there same. are.backed t there (no_client member correct t same));
      shown = λ member correct s there who.
          let is = stated_shown faulty secret trails member s book correct.correct may (λ t at same. are.rests t at (no_client member correct t same)) there who in
          subst (λ (es : List LogEntry). IsShown digest_of es s) (sym (diary_of book trails is.0 member once is.1 is.2)) is.3;
      closed = stated_closed secret trails;
    }
  where
    no_client : (member : ℕ) → IsCorrect view faulty member → (t : Recorded) → t.opening.member ≡ member → is_client t ≡ false
    no_client member correct t same = ap (λ (k : ℕ). k == 0) same ∙ some_member view member viewed correct.within
