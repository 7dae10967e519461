-- An index of statements stays one.
use Rattle.std.proofs.Common.{◌≡◌, ◌≤◌, ℕ, Bool, true, false, cond, ◌||◌, ◌&&◌, List, [], ◌∷◌, ◌++◌, map, filter, Result, Ok, Err, IsOk, OnOk, OnErr, length, take, refl, ap, sym, ◌∙◌, arith}
use Rattle.std.specs.Prelude.{nat_eq, if◌then◌else◌}
use Rattle.std.specs.Bool.{beq}
use Rattle.std.specs.Cmp.{nat_eq_equiv}
use Rattle.std.specs.Cmp.Lexicographic.{pointwise}
use Rattle.std.specs.List.{list_any}
use Rattle.std.proofs.lemmas.Bool.{eqb-true}
use Rattle.std.proofs.lemmas.List.{take-append-le, length_push}
use Rattle.std.proofs.lemmas.List.Folds.{list_any-append}
use Rattle.smart_base.specs.Lists.{same_bytes}
use Rattle.smart_base.specs.declared.party.Party.{Party}
use Rattle.smart_base.specs.declared.party.Party.TheVariants.{Member, Client}
use Rattle.world_rules.specs.Premises.{Claim, claims, same_party, same_claim, is_from, is_stated, is_forgery}
use Rattle.world_rules.specs.declared.message.Origin.{Origin}
use Rattle.world_rules.specs.declared.message.Sent.{Sent}
use Rattle.world_ledger.specs.declared.stated.Stated.{Stated}
use Rattle.world_ledger.specs.Statements.{claim_of, same_stated, is_own, is_unsent, IsStatedIndex}

-- what a call that succeeds ensures
pub on_ok : {A E : Type 0} (r : Result A E) (P : Type 0) → IsOk r → OnOk r P → P
on_ok (Ok x) P is on = on
on_ok (Err e) P is on = absurd (cc)

-- what a call that fails ensures
pub on_err : {A E : Type 0} (r : Result A E) (P : Type 0) → P → OnErr r P
on_err (Ok x) P holds = tt
on_err (Err e) P holds = holds

-- ---- two statements

same_items : (xs ys : List ℕ) → pointwise nat_eq xs ys ≡ same_bytes ys xs
same_items [] [] = refl
same_items [] (y ∷ ys) = refl
same_items (x ∷ xs) [] = refl
same_items (x ∷ xs) (y ∷ ys) = rw (nat_eq_equiv.symm x y, same_items xs ys) refl

abbrev party : Bool → ℕ → Party
party m i = if m then Member i else Client i

-- the parts of two statements, in the other order
same_parts : (m n : Bool) (i j : ℕ) (xs ys : List ℕ) → (beq m n && (nat_eq i j && pointwise nat_eq xs ys)) ≡ (same_party (party n j) (party m i) && same_bytes ys xs)
same_parts true true i j xs ys = rw (nat_eq_equiv.symm i j, same_items xs ys) refl
same_parts true false i j xs ys = refl
same_parts false true i j xs ys = refl
same_parts false false i j xs ys = rw (nat_eq_equiv.symm i j, same_items xs ys) refl

same_as_claims : (a b : Stated) → same_stated a b ≡ same_claim (claim_of b) (claim_of a)
same_as_claims a b = same_parts a.is_member b.is_member a.number b.number a.bytes.items b.bytes.items

same_party-true : (a b : Party) → same_party a b ≡ true → a ≡ b
same_party-true (Member i) (Member j) same = ap (λ n. Member n) (eqb-true i j same)
same_party-true (Member i) (Client j) same = absurd (cc)
same_party-true (Client i) (Member j) same = absurd (cc)
same_party-true (Client i) (Client j) same = ap (λ n. Client n) (eqb-true i j same)

same-from : (a b : Party) (o : Origin) → same_party a b ≡ true → is_from a o ≡ is_from b o
same-from a b o same = ap (λ p. is_from p o) (same_party-true a b same)

first_holds : (a b : Bool) → (a && b) ≡ true → a ≡ true
first_holds true b x = refl
first_holds false b x = absurd (cc)

same_claim-from : (c d : Claim) (o : Origin) → same_claim c d ≡ true → is_own o c ≡ is_own o d
same_claim-from c d o same = same-from c.signer d.signer o (first_holds (same_party c.signer d.signer) (same_bytes c.bytes d.bytes) same)

-- ---- statements that are their sender's own

and_false : (a : Bool) → (a && false) ≡ false
and_false true = refl
and_false false = refl

or_false : (a : Bool) → (a || false) ≡ a
or_false true = refl
or_false false = refl

and_true : (a b : Bool) → (a && (true || b)) ≡ a
and_true true b = refl
and_true false b = refl

-- whether a statement is among the own ones of some
own_step : (o : Origin) (c d : Claim) (ds : List Claim) (own same : Bool) → is_own o d ≡ own → same_claim c d ≡ same
    → list_any (same_claim c) (filter (is_own o) ds) ≡ (is_own o c && list_any (same_claim c) ds)
    → list_any (same_claim c) (filter (is_own o) (d ∷ ds)) ≡ (is_own o c && list_any (same_claim c) (d ∷ ds))
own_step o c d ds true true own same before = let from : is_own o c ≡ true = same_claim-from c d o same ∙ own in rw (own, same, from) refl
own_step o c d ds true false own same before = rw (own, same) before
own_step o c d ds false true own same before =
    let from : is_own o c ≡ false = same_claim-from c d o same ∙ own in
    rw (own, same, from) (before ∙ rw from refl)
own_step o c d ds false false own same before = rw (own, same) before

own_any : (o : Origin) (c : Claim) (ds : List Claim) → list_any (same_claim c) (filter (is_own o) ds) ≡ (is_own o c && list_any (same_claim c) ds)
own_any o c [] = sym (and_false (is_own o c))
own_any o c (d ∷ ds) = own_step o c d ds (is_own o d) (same_claim c d) refl refl (own_any o c ds)

any_claims : (s : Stated) (own : List Stated) → list_any (λ o. same_stated o s) own ≡ list_any (same_claim (claim_of s)) (map claim_of own)
any_claims s [] = refl
any_claims s (o ∷ os) = rw (same_as_claims o s, any_claims s os) refl

stated-end : (sent : List Sent) (s : Sent) (c : Claim) → is_stated (sent ++ s ∷ []) c ≡ (is_stated sent c || (is_own s.origin c && list_any (same_claim c) (claims s.content)))
stated-end sent s c = list_any-append (λ x. is_own x.origin c && list_any (same_claim c) (claims x.content)) sent (s ∷ []) ∙ ap (λ b. is_stated sent c || b) (or_false _)

or_turned : (a b : Bool) → (a || b) ≡ (b || a)
or_turned true true = refl
or_turned true false = refl
or_turned false true = refl
or_turned false false = refl

-- an index that has the same statements
pub stated-same : (f g : Stated → Bool) (sent : List Sent) → IsStatedIndex f sent → ((q : Stated) → g q ≡ f q) → IsStatedIndex g sent
stated-same f g sent index same = record { exact = λ q. same q ∙ index.exact q }

-- an index with the own statements of one more message
pub stated-more : (f g : Stated → Bool) (sent : List Sent) (s : Sent) (own : List Stated) → IsStatedIndex f sent
    → map claim_of own ≡ filter (is_own s.origin) (claims s.content) → ((q : Stated) → g q ≡ (list_any (λ o. same_stated o q) own || f q)) → IsStatedIndex g (sent ++ s ∷ [])
stated-more f g sent s own index is more =
    record {
      exact = λ q.
          let c = claim_of q in
          let here = is_own s.origin c && list_any (same_claim c) (claims s.content) in
          let e : list_any (λ o. same_stated o q) own ≡ here = any_claims q own ∙ (ap (λ cs. list_any (same_claim c) cs) is ∙ own_any s.origin c (claims s.content)) in
          more q ∙ (rw (e, index.exact q) (or_turned here (is_stated sent c)) ∙ sym (stated-end sent s c));
    }

-- ---- messages that are not read yet

-- one more message leaves those that were read
pub stated-front : (has : Stated → Bool) (read : ℕ) (sent : List Sent) (s : Sent) → read ≤ length sent → IsStatedIndex has (take read sent) → IsStatedIndex has (take read (sent ++ s ∷ []))
stated-front has read sent s few index = rw (take-append-le read sent (s ∷ []) few) index

pub few-more : (read : ℕ) (sent : List Sent) (s : Sent) → read ≤ length sent → read ≤ length (sent ++ s ∷ [])
few-more read sent s few = rw (length_push sent s) (omega (arith, few))

-- one of several is forged, by the index of all messages that were sent
pub any_unsent : (has : Stated → Bool) (faulty rogue : List ℕ) (sent : List Sent) (xs : List Stated) → IsStatedIndex has sent
    → list_any (is_unsent has faulty rogue) xs ≡ list_any (is_forgery faulty rogue sent) (map claim_of xs)
any_unsent has faulty rogue sent [] index = refl
any_unsent has faulty rogue sent (x ∷ xs) index = rw (index.exact x, any_unsent has faulty rogue sent xs index) refl

-- ---- statements are put

swap : (a b c : Bool) → (b || cond a true c) ≡ ((a || b) || c)
swap true true c = refl
swap true false c = refl
swap false true c = refl
swap false false c = refl

-- one more is put, and the rest are left
pub put-more : {A : Type 0} (same : A → A → Bool) (f g : A → Bool) (x : A) (rest all : List A) (q : A) (total : Bool) → all ≡ x ∷ rest
    → g q ≡ cond (same x q) true (f q) → (list_any (λ o. same o q) all || f q) ≡ total → (list_any (λ o. same o q) rest || g q) ≡ total
put-more same f g x rest all q total is more so_far =
    let e : (list_any (λ o. same o q) (x ∷ rest) || f q) ≡ total = rw is at so_far in
    rw more (swap (same x q) (list_any (λ o. same o q) rest) (f q) ∙ e)
