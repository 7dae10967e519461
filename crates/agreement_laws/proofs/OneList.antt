-- Of two lists of batches that are decided place by place the shorter is a front of the longer; and how such lists grow.
use Rattle.std.proofs.Common.{◌≡◌, inl, inr, ℕ, zero, suc, ◌+◌, ◌≤◌, Bool, List, [], ◌∷◌, ◌++◌, length, take, Some, refl, ap, sym, subst, ◌∙◌, arith, append-nil, append_assoc}
use Rattle.std.specs.Prelude.{slice_get}
use Rattle.smart_base.specs.Views.{View}
use Rattle.smart_statements.specs.Batches.{Batch}
use Rattle.certificates.specs.Certificates.{accept_of}
use Rattle.certificates.specs.Collects.{slot_of}
use Rattle.vote_book.specs.declared.entry.LogEntry.{LogEntry}
use Rattle.agreement_laws.specs.Fronts.{IsFront}
use Rattle.agreement_laws.specs.Statements.{Statement}
use Rattle.agreement_laws.specs.Law.{Witnessed}
use Rattle.agreement_laws.specs.Lists.{IsNextOf, AllCertified, Exact}
use Rattle.agreement_laws.proofs.Lists.{some_equal}
use Rattle.agreement_laws.proofs.Growing.{IsDrawn-more}
use Rattle.agreement_laws.proofs.Regencies.{decided_once}

-- ---- one list

module _ (secret : List ℕ) (digest_of : Batch → List ℕ) (view_after : List Batch → View) (faulty : ℕ → Bool) (diary : ℕ → List LogEntry) (stated : List Statement)
  where
    abbrev Known : List Batch → Type 0
    Known front = Witnessed secret digest_of (view_after front) faulty diary stated

    -- two digests that are certified behind one front are one
    one_next : (front : List Batch) (a b : List ℕ) → Known front → IsNextOf secret stated view_after a front → IsNextOf secret stated view_after b front → a ≡ b
    one_next front a b known ca cb =
        decided_once secret digest_of (view_after front) faulty diary stated known (length front + 1) ca.regency cb.regency a b ca.accepts cb.accepts ca.decision cb.decision

    -- two lists behind one front
    behind : (front xs ys : List Batch) → ((f : List Batch) → IsFront f (front ++ xs) → IsFront f (front ++ ys) → Known f) → Exact digest_of xs ys
        → AllCertified secret digest_of stated view_after front xs → AllCertified secret digest_of stated view_after front ys → length xs ≤ length ys → IsFront xs ys
    behind front [] ys known exact cx cy le = record { rest = ys; is = refl }
    behind front (x ∷ xs) [] known exact cx cy le = absurd (omega (arith, le))
    behind front (x ∷ xs) (y ∷ ys) known exact cx cy le =
        let here : Known front = known front (record { rest = x ∷ xs; is = refl }) (record { rest = y ∷ ys; is = refl }) in
        let head : x ≡ y = exact.one x y (inl refl) (inl refl) (one_next front (digest_of x) (digest_of y) here cx.0 cy.0) in
        let right : front ++ y ∷ ys ≡ (front ++ x ∷ []) ++ ys = ap (λ (z : Batch). front ++ z ∷ ys) (sym head) ∙ sym (append_assoc front (x ∷ []) ys) in
        let next : IsFront xs ys =
        behind (front ++ x ∷ []) xs ys
        (λ f left behind_it. known f (subst (λ (zs : List Batch). IsFront f zs) (append_assoc front (x ∷ []) xs) left) (subst (λ (zs : List Batch). IsFront f zs) (sym right) behind_it))
        (record { one = λ a b ia ib. exact.one a b (inr ia) (inr ib) }) cx.1
        (subst (λ (z : Batch). AllCertified secret digest_of stated view_after (front ++ z ∷ []) ys) (sym head) cy.1) (omega (arith, le)) in
        record { rest = next.rest; is = ap (λ (z : Batch). z ∷ ys) (sym head) ∙ ap (λ (zs : List Batch). x ∷ zs) next.is }

    pub one_list : (xs ys : List Batch) → ((front : List Batch) → IsFront front xs → IsFront front ys → Known front) → Exact digest_of xs ys
        → AllCertified secret digest_of stated view_after [] xs → AllCertified secret digest_of stated view_after [] ys → length xs ≤ length ys → IsFront xs ys
    one_list xs ys known exact cx cy le = behind [] xs ys known exact cx cy le

-- ---- lists that grow

module _ (secret : List ℕ) (digest_of : Batch → List ℕ) (view_after : List Batch → View) where
  -- what is certified stays so where more is stated
  next_more : (stated more : List Statement) (digest : List ℕ) (front : List Batch) → IsNextOf secret stated view_after digest front
      → IsNextOf secret (stated ++ more) view_after digest front
  next_more stated more digest front c = record {
    regency = c.regency;
    accepts = c.accepts;
    decision = IsDrawn-more secret (view_after front) stated more (accept_of (slot_of (view_after front) (length front + 1) c.regency) digest) c.accepts c.decision;
  }

  pub certified_more : (stated more : List Statement) (front batches : List Batch) → AllCertified secret digest_of stated view_after front batches
      → AllCertified secret digest_of (stated ++ more) view_after front batches
  certified_more stated more front [] all = tt
  certified_more stated more front (b ∷ bs) all = (next_more stated more (digest_of b) front all.0, certified_more stated more (front ++ b ∷ []) bs all.1)

  -- one batch more
  pub certified_end : (stated : List Statement) (front batches : List Batch) (b : Batch) → AllCertified secret digest_of stated view_after front batches
      → IsNextOf secret stated view_after (digest_of b) (front ++ batches) → AllCertified secret digest_of stated view_after front (batches ++ b ∷ [])
  certified_end stated front [] b all c = (subst (λ (f : List Batch). IsNextOf secret stated view_after (digest_of b) f) (append-nil front) c, tt)
  certified_end stated front (x ∷ bs) b all c = (
    all.0,
    certified_end stated (front ++ x ∷ []) bs b all.1 (subst (λ (f : List Batch). IsNextOf secret stated view_after (digest_of b) f) (sym (append_assoc front (x ∷ []) bs)) c),
  )

  -- the batch at an index
  pub certified_get : (stated : List Statement) (front batches : List Batch) (i : ℕ) (b : Batch) → AllCertified secret digest_of stated view_after front batches
      → slice_get batches i ≡ Some b → IsNextOf secret stated view_after (digest_of b) (front ++ take i batches)
  certified_get stated front [] i b all at = absurd (cc)
  certified_get stated front (x ∷ bs) zero b all at =
      subst (λ (f : List Batch). IsNextOf secret stated view_after (digest_of b) f) (sym (append-nil front))
      (subst (λ (y : Batch). IsNextOf secret stated view_after (digest_of y) front) (some_equal x b at) all.0)
  certified_get stated front (x ∷ bs) (suc i) b all at =
      subst (λ (f : List Batch). IsNextOf secret stated view_after (digest_of b) f) (append_assoc front (x ∷ []) (take i bs))
      (certified_get stated (front ++ x ∷ []) bs i b all.1 at)
