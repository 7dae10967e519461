-- Facts on tests, on first replies and on first reasons.
use Rattle.std.proofs.Common.{◌≡◌, ℕ, ◌++◌, ◌==◌, Bool, true, false, not, ◌&&◌, ◌||◌, List, [], ◌∷◌, filter, refl, cond, Option, Some, None, eqb-true, inl, inr, ◌⊎◌}
use Rattle.std.specs.List.{list_any}
use Rattle.smart_base.specs.Lists.{or_else, same_bytes}
use Rattle.smart_base.specs.Views.{View}
use Rattle.smart_base.proofs.SameLists.{same_list-equal}
use Rattle.smart_statements.specs.declared.statement.Answer.{Answer}
use Rattle.client_quorum.specs.Clients.{same_answer}
use Rattle.certificates.specs.Collects.{of_view}
use Rattle.client_quorum.specs.Quorums.{Came, first_of}
use Rattle.client_quorum.specs.declared.client.Ignored.{Ignored}
use Rattle.client_quorum.specs.declared.client.Ignored.TheVariants as reasons

and_true : (a b : Bool) → (a && b) ≡ true → (a ≡ true) × (b ≡ true)
and_true true b is = (refl, is)
and_true false b is = absurd (cc)

-- a test and what it gives
pub decide : (b : Bool) → (b ≡ true) ⊎ (b ≡ false)
decide true = inl refl
decide false = inr refl

-- tests that agree leave the same values
pub filter_alike : {A : Type 0} (p q : A → Bool) → ((x : A) → p x ≡ q x) → (xs : List A) → filter p xs ≡ filter q xs
filter_alike p q alike [] = refl
filter_alike p q alike (x ∷ xs) = let first = alike x in let rest = filter_alike p q alike xs in cc

-- a test that always fails leaves none
pub filter_none : {A : Type 0} (xs : List A) → filter (λ x. false) xs ≡ []
filter_none [] = refl
filter_none (x ∷ xs) = filter_none xs

-- any of a list with one more at its end
pub any_end : {A : Type 0} (p : A → Bool) (xs : List A) (x : A) → list_any p (xs ++ x ∷ []) ≡ (list_any p xs || p x)
any_end p [] x = or_none (p x)
  where
    or_none : (b : Bool) → (b || false) ≡ b
    or_none true = refl
    or_none false = refl
any_end p (y ∷ xs) x = or_more (p y) (list_any p (xs ++ x ∷ [])) (list_any p xs) (p x) (any_end p xs x)
  where
    or_more : (a b c d : Bool) → b ≡ (c || d) → (a || b) ≡ ((a || c) || d)
    or_more true b c d same = refl
    or_more false b c d same = same

-- replies that are equal are equal to the same ones
pub same_answer-alike : (a b : Answer) → same_answer a b ≡ true → (x : Answer) → same_answer x a ≡ same_answer x b
same_answer-alike a b same x =
    let three = and_true ((a.view == b.view) && (a.place == b.place) && (a.index == b.index)) (same_bytes a.reply b.reply) same in
    let two = and_true ((a.view == b.view) && (a.place == b.place)) (a.index == b.index) three.0 in
    let one = and_true (a.view == b.view) (a.place == b.place) two.0 in
    let view = eqb-true a.view b.view one.0 in
    let place = eqb-true a.place b.place one.1 in
    let index = eqb-true a.index b.index two.1 in
    let reply = same_list-equal (λ x y. x == y) (λ x y is. eqb-true x y is) a.reply b.reply three.1 in
    cc

-- replies that are the same state one view
pub same_answer-view : (a b : Answer) → same_answer a b ≡ true → a.view ≡ b.view
same_answer-view a b same =
    let three = and_true ((a.view == b.view) && (a.place == b.place) && (a.index == b.index)) (same_bytes a.reply b.reply) same in
    let two = and_true ((a.view == b.view) && (a.place == b.place)) (a.index == b.index) three.0 in
    let one = and_true (a.view == b.view) (a.place == b.place) two.0 in
    eqb-true a.view b.view one.0

-- the first of a list with one more at its end
pub first_end : (test : Came → Bool) (came : List Came) (k : Came) (member : ℕ)
    → first_of test (came ++ k ∷ []) member ≡ or_else (first_of test came member) (cond ((k.reply.signer == member) && test k) (Some k.reply.statement) None)
first_end test [] k member = refl
first_end test (r ∷ came) k member = taken ((r.reply.signer == member) && test r) r.reply.statement _ _ _ (first_end test came k member)
  where
    taken : (b : Bool) (x : Answer) (long short last : Option Answer) → long ≡ or_else short last → cond b (Some x) long ≡ or_else (cond b (Some x) short) last
    taken true x long short last same = refl
    taken false x long short last same = same

-- the first reason that applies

-- by the view that a reply states: whether its signer is a member there, and whether it repeats
abbrev pub uncounted_by : Option View → (View → Bool) → Bool → Option Ignored
uncounted_by None member repeats = Some reasons.UnknownView
uncounted_by (Some v) member repeats = cond (not (member v)) (Some reasons.Stranger) (cond repeats (Some reasons.Repeated) None)

-- no reason applies, or one does; the view that is stated is known in the first case
abbrev pub Reasons : Bool → Option View → Bool → Option Ignored → Type 0
Reasons counts found repeats why =
    ((why ≡ None) × (counts ≡ true) × (repeats ≡ false) × ((v : View) × (found ≡ Some v))) ⊎ ((w : Ignored) × (why ≡ Some w) × ((counts ≡ false) ⊎ (repeats ≡ true)))

pub reasons_of : (tagged waits : Bool) (found : Option View) (member : View → Bool) (repeats : Bool) (uncounted : Option Ignored)
    → uncounted ≡ uncounted_by found member repeats
    → Reasons (tagged && waits && of_view found member) found repeats (cond (not tagged) (Some reasons.BadTag) (cond (not waits) (Some reasons.Settled) uncounted))
reasons_of false waits found member repeats uncounted is = inr (reasons.BadTag, refl, inl refl)
reasons_of true false found member repeats uncounted is = inr (reasons.Settled, refl, inl refl)
reasons_of true true None member repeats uncounted is = inr (reasons.UnknownView, is, inl refl)
reasons_of true true (Some v) member repeats uncounted is = by (member v) repeats is
  where
    by : (m r : Bool) → uncounted ≡ cond (not m) (Some reasons.Stranger) (cond r (Some reasons.Repeated) None) → Reasons m (Some v) r uncounted
    by false r is = inr (reasons.Stranger, is, inl refl)
    by true true is = inr (reasons.Repeated, is, inr refl)
    by true false is = inl (is, refl, refl, (v, refl))
