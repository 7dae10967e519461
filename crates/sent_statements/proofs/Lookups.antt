-- An index of statements says which were sent.
use Rattle.std.proofs.Common.{◌≡◌, ℕ, Bool, true, false, cond, ◌||◌, List, [], ◌∷◌, map, Result, Ok, Err, IsOk, OnOk, refl, ap, sym, ◌∙◌}
use Rattle.std.specs.Prelude.{nat_eq, Option, Some}
use Rattle.std.specs.Cmp.{nat_eq_equiv}
use Rattle.std.specs.Cmp.Lexicographic.{pointwise}
use Rattle.std.specs.List.{list_any}
use Rattle.smart_base.specs.Lists.{same_bytes}
use Rattle.smart_base.specs.declared.party.Party.{Party}
use Rattle.smart_base.specs.declared.party.Party.TheVariants.{Member}
use Rattle.smart_messages.specs.declared.message.Sealed.{Sealed}
use Rattle.audit_rules.specs.Audits.{same_sealed, first_of}
use Rattle.sent_statements.specs.declared.made.Made.{Made}
use Rattle.sent_statements.specs.Indexes.{made_sealed, same_made, IsIndex}

-- what a call that succeeds ensures
pub on_ok : {A E : Type 0} (r : Result A E) (P : Type 0) → IsOk r → OnOk r P → P
on_ok (Ok x) P is on = on
on_ok (Err e) P is on = absurd (cc)

same_items : (xs ys : List ℕ) → pointwise nat_eq xs ys ≡ same_bytes ys xs
same_items [] [] = refl
same_items [] (y ∷ ys) = refl
same_items (x ∷ xs) [] = refl
same_items (x ∷ xs) (y ∷ ys) = rw (nat_eq_equiv.symm x y, same_items xs ys) refl

pub same_as_sealed : (a b : Made) → same_made a b ≡ same_sealed (made_sealed b) (made_sealed a)
same_as_sealed a b = rw (nat_eq_equiv.symm a.member b.member, same_items a.text.items b.text.items, same_items a.tag.items b.tag.items) refl

pub any_sealed : (m : Made) (all : List Made) → list_any (λ o. same_made o m) all ≡ list_any (same_sealed (made_sealed m)) (map made_sealed all)
any_sealed m [] = refl
any_sealed m (o ∷ os) = rw (same_as_sealed o m, any_sealed m os) refl

or_false : (a : Bool) → (a || false) ≡ a
or_false true = refl
or_false false = refl

-- an index to which all were put that was empty before
pub indexed : (before has : Made → Bool) (all : List Made) → ((m : Made) → before m ≡ false) → ((m : Made) → has m ≡ (list_any (λ o. same_made o m) all || before m))
    → (m : Made) → has m ≡ list_any (same_sealed (made_sealed m)) (map made_sealed all)
indexed before has all empty is m = is m ∙ (rw (empty m) (or_false (list_any (λ o. same_made o m) all)) ∙ any_sealed m all)

swap : (a b c : Bool) → (b || cond a true c) ≡ ((a || b) || c)
swap true true c = refl
swap true false c = refl
swap false true c = refl
swap false false c = refl

-- one more is put, and the rest are left
pub put-more : {A : Type 0} (same : A → A → Bool) (f g : A → Bool) (x : A) (rest all : List A) (q : A) (total : Bool) → all ≡ x ∷ rest
    → g q ≡ cond (same x q) true (f q) → (list_any (λ o. same o q) all || f q) ≡ total → (list_any (λ o. same o q) rest || g q) ≡ total
put-more same f g x rest all q total is more so_far =
    let e : (list_any (λ o. same o q) (x ∷ rest) || f q) ≡ total = rw is at so_far in
    rw more (swap (same x q) (list_any (λ o. same o q) rest) (f q) ∙ e)

-- the index of what was sent, by what stands in it
pub index_is : (has : Made → Bool) (found : List Made) (made : List Sealed) → map made_sealed found ≡ made
    → ((m : Made) → has m ≡ list_any (same_sealed (made_sealed m)) (map made_sealed found)) → IsIndex has (λ s. list_any (same_sealed s) made)
index_is has found made are is = record { exact = λ m. is m ∙ ap (λ all. list_any (same_sealed (made_sealed m)) all) are }

abbrev sealed_as : Party → List ℕ → List ℕ → Sealed
sealed_as who text tag = record { who = who; text = text; tag = tag }

-- a statement that was copied
pub same_by : (m : Made) (s : Sealed) (member : ℕ) (text tag : List ℕ) → made_sealed m ≡ record { who = Member member; text = text; tag = tag } → s.who ≡ Member member → text ≡ s.text → tag ≡ s.tag
    → made_sealed m ≡ s
same_by m s member text tag is who text_is tag_is =
    is ∙ (ap (λ w. sealed_as w text tag) (sym who) ∙ (ap (λ t. sealed_as s.who t tag) text_is ∙ ap (λ t. sealed_as s.who s.text t) tag_is))

-- a look into the index tells whether a statement was sent
pub told : (has : Made → Bool) (sent : Sealed → Bool) (m : Made) (s : Sealed) (is : Bool) → IsIndex has sent → made_sealed m ≡ s → is ≡ has m → is ≡ sent s
told has sent m s is index same look = look ∙ (index.exact m ∙ ap sent same)

-- ---- the first of several

pub first-more : {A : Type 0} (wanted : A → Bool) (x : A) (rest all : List A) (total : Option A) → all ≡ x ∷ rest → wanted x ≡ false → first_of wanted all ≡ total → first_of wanted rest ≡ total
first-more wanted x rest all total is not_wanted so_far =
    let e : first_of wanted (x ∷ rest) ≡ total = rw is at so_far in
    rw not_wanted at e

pub first-found : {A : Type 0} (wanted : A → Bool) (x : A) (rest all : List A) (total : Option A) → all ≡ x ∷ rest → wanted x ≡ true → first_of wanted all ≡ total → Some x ≡ total
first-found wanted x rest all total is wanted_is so_far =
    let e : first_of wanted (x ∷ rest) ≡ total = rw is at so_far in
    rw wanted_is at e
