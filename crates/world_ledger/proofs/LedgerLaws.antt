-- An index of texts says of a further text whether it clashes and whether it is new, and stays one where it does not clash.
use Rattle.std.proofs.Common.{◌≡◌, ℕ, inl, inr, ◌⊎◌, Bool, true, false, List, [], ◌∷◌, ◌++◌, map, Option, Some, None, refl, ap, sym, subst, ◌∙◌, ⊎_elim, append_assoc}
use Rattle.std.specs.Prelude.{◌&&◌, ◌||◌, not, cond, nat_eq, option_to_list}
use Rattle.std.specs.Cmp.Lexicographic.{pointwise, bytes_decides}
use Rattle.std.specs.List.{list_any}
use Rattle.std.proofs.lemmas.Bool.{eqb-true, eq-eqb}
use Rattle.std.proofs.lemmas.List.{append-nil, map-append}
use Rattle.std.proofs.lemmas.List.Concat.{flat_map-append}
use Rattle.smart_base.specs.Lists.{Each, same_bytes}
use Rattle.smart_base.proofs.SameLists.{same_list-equal}
use Rattle.smart_statements.specs.Batches.{Batch, batch_text}
use Rattle.smart_messages.specs.Messages.{batch_in}
use Rattle.smart_keys.specs.Keys.{digest}
use Rattle.world_rules.specs.Premises.{batches, batches_met, texts_in, met, clash, collides, texts_met, newly_met, marked_with}
use Rattle.world_rules.specs.declared.message.Content.{Content}
use Rattle.world_rules.specs.declared.message.Content.TheVariants as contents
use Rattle.world_rules.specs.declared.message.Sent.{Sent}
use Rattle.world_ledger.specs.Ledgers.{LedgerState, IsIndex, IsTextOf, indexed}

same_bytes-refl : (a : List ℕ) → same_bytes a a ≡ true
same_bytes-refl [] = refl
same_bytes-refl (x ∷ xs) = rw (eq-eqb x x refl, same_bytes-refl xs) refl

same_bytes-true : (a b : List ℕ) → same_bytes a b ≡ true → a ≡ b
same_bytes-true = same_list-equal (λ x y. nat_eq x y) eqb-true

both : (a b : Bool) → a ≡ true → b ≡ true → (a && b) ≡ true
both true b x y = y
both false b x y = absurd (cc)

first_false : (a b : Bool) → a ≡ false → (a && b) ≡ false
first_false true b x = absurd (cc)
first_false false b x = refl

first_is : (a b : Bool) → (a && b) ≡ false → a ≡ true → b ≡ false
first_is true b x y = x
first_is false b x y = absurd (cc)

either : (a b : Bool) → a ≡ false → b ≡ false → (a || b) ≡ false
either true b x y = absurd (cc)
either false b x y = y

either_first : (a b : Bool) → (a || b) ≡ false → a ≡ false
either_first true b x = x
either_first false b x = refl

either_second : (a b : Bool) → (a || b) ≡ false → b ≡ false
either_second true b x = absurd (cc)
either_second false b x = x

first_holds : (a b : Bool) → a ≡ true → (a || b) ≡ true
first_holds true b x = refl
first_holds false b x = absurd (cc)

second_holds : (a b : Bool) → b ≡ true → (a || b) ≡ true
second_holds true b x = refl
second_holds false b x = x

not_false : (b : Bool) → not b ≡ false → b ≡ true
not_false true is = refl
not_false false is = absurd (cc)

not_true : (b : Bool) → not b ≡ true → b ≡ false
not_true true is = absurd (cc)
not_true false is = refl

-- two texts

no_clash : (a b : List ℕ) (t : Bool) → same_bytes (digest a) (digest b) ≡ t → (digest a ≡ digest b → a ≡ b) → clash a b ≡ false
no_clash a b true same equal =
    let e = equal (same_bytes-true (digest a) (digest b) same) in
    let s : same_bytes a b ≡ true = rw e (same_bytes-refl b) in
    rw (same, s) refl
no_clash a b false differ equal = first_false (same_bytes (digest a) (digest b)) (not (same_bytes a b)) differ

clashing : (b a : List ℕ) → digest a ≡ digest b → same_bytes b a ≡ false → clash b a ≡ true
clashing b a same differ =
    let s : same_bytes (digest b) (digest a) ≡ true = rw same (same_bytes-refl (digest b)) in
    let d : not (same_bytes b a) ≡ true = rw differ refl in
    both (same_bytes (digest b) (digest a)) (not (same_bytes b a)) s d

-- a further text

-- where nothing else stands under its digest, it does not clash
none_clashes : (texts : List ℕ → Option (List ℕ)) (b : List ℕ) (bs : List (List ℕ)) → ((text : List ℕ) → texts (digest b) ≡ Some text → text ≡ b)
    → Each (λ a. texts (digest a) ≡ Some a) bs → list_any (clash b) bs ≡ false
none_clashes texts b [] alone stands = refl
none_clashes texts b (a ∷ rest) alone stands =
    let one = no_clash b a (same_bytes (digest b) (digest a)) refl (λ same. sym (alone a (ap texts same ∙ stands.0))) in
    either (clash b a) (list_any (clash b) rest) one (none_clashes texts b rest alone stands.1)

some_clashes : (b : List ℕ) (text : List ℕ) (bs : List (List ℕ)) → IsTextOf (digest b) text bs → same_bytes b text ≡ false → list_any (clash b) bs ≡ true
some_clashes b text [] stands differ = absurd stands
some_clashes b text (a ∷ rest) stands differ =
    ⊎_elim
    (λ here. first_holds (clash b a) (list_any (clash b) rest) (clashing b a here.0 (rw here.1 differ)))
    (λ there. second_holds (clash b a) (list_any (clash b) rest) (some_clashes b text rest there differ)) stands

-- nothing stands under the digest of a text: it does not clash
pub missing : (texts : List ℕ → Option (List ℕ)) (b : List ℕ) (bs : List (List ℕ)) → IsIndex texts bs → texts (digest b) ≡ None → false ≡ list_any (clash b) bs
missing texts b bs index none = sym (none_clashes texts b bs (λ text some. absurd (cc)) index.stands)

found_by : (texts : List ℕ → Option (List ℕ)) (b : List ℕ) (bs : List (List ℕ)) (text : List ℕ) (t : Bool) → same_bytes b text ≡ t → IsIndex texts bs
    → texts (digest b) ≡ Some text → not (same_bytes b text) ≡ list_any (clash b) bs
found_by texts b bs text true same index some =
    let e = same_bytes-true b text same in
    rw (same, none_clashes texts b bs (λ other is. cc) index.stands) refl
found_by texts b bs text false differ index some = rw (differ, some_clashes b text bs (index.comes (digest b) text some) differ) refl

-- bytes stand under the digest of a text: it clashes where they are others
pub found : (texts : List ℕ → Option (List ℕ)) (b : List ℕ) (bs : List (List ℕ)) (text : List ℕ) → IsIndex texts bs → texts (digest b) ≡ Some text
    → not (same_bytes b text) ≡ list_any (clash b) bs
found texts b bs text index some = found_by texts b bs text (same_bytes b text) refl index some

-- a text that is new

-- where nothing stands under its digest, no text has that
none_has : (texts : List ℕ → Option (List ℕ)) (b : List ℕ) (bs : List (List ℕ)) → texts (digest b) ≡ None → Each (λ a. texts (digest a) ≡ Some a) bs
    → list_any (λ other. same_bytes (digest b) (digest other)) bs ≡ false
none_has texts b [] none stands = refl
none_has texts b (a ∷ rest) none stands =
    either (same_bytes (digest b) (digest a)) (list_any (λ other. same_bytes (digest b) (digest other)) rest) (differs (same_bytes (digest b) (digest a)) refl) (none_has texts b rest none stands.1)
  where
    differs : (t : Bool) → same_bytes (digest b) (digest a) ≡ t → t ≡ false
    differs true same =
        let there : None ≡ Some a = sym none ∙ (ap texts (same_bytes-true (digest b) (digest a) same) ∙ stands.0) in
        absurd (cc)
    differs false same = refl

some_has : (b text : List ℕ) (bs : List (List ℕ)) → IsTextOf (digest b) text bs → list_any (λ other. same_bytes (digest b) (digest other)) bs ≡ true
some_has b text [] stands = absurd stands
some_has b text (a ∷ rest) stands =
    ⊎_elim
    (λ here. first_holds (same_bytes (digest b) (digest a)) (list_any (λ other. same_bytes (digest b) (digest other)) rest) (rw here.0 (same_bytes-refl (digest b))))
    (λ there. second_holds (same_bytes (digest b) (digest a)) (list_any (λ other. same_bytes (digest b) (digest other)) rest) (some_has b text rest there)) stands

-- nothing stands under the digest of a text: it is new
pub missing-new : (texts : List ℕ → Option (List ℕ)) (b : List ℕ) (bs : List (List ℕ)) → IsIndex texts bs → texts (digest b) ≡ None → true ≡ newly_met bs b
unfolding newly_met
missing-new texts b bs index none = rw (none_has texts b bs none index.stands) refl

-- something stands there: it is not
pub found-new : (texts : List ℕ → Option (List ℕ)) (b : List ℕ) (bs : List (List ℕ)) (text : List ℕ) → IsIndex texts bs → texts (digest b) ≡ Some text
    → false ≡ newly_met bs b
unfolding newly_met
found-new texts b bs text index some = rw (some_has b text bs (index.comes (digest b) text some)) refl

-- a text clashes with none that has another digest
apart-free : (b : List ℕ) (bs : List (List ℕ)) → list_any (λ other. same_bytes (digest b) (digest other)) bs ≡ false → list_any (clash b) bs ≡ false
apart-free b [] none = refl
apart-free b (a ∷ rest) none =
    let here = either_first (same_bytes (digest b) (digest a)) (list_any (λ other. same_bytes (digest b) (digest other)) rest) none in
    let there = either_second (same_bytes (digest b) (digest a)) (list_any (λ other. same_bytes (digest b) (digest other)) rest) none in
    either (clash b a) (list_any (clash b) rest) (first_false (same_bytes (digest b) (digest a)) (not (same_bytes b a)) here) (apart-free b rest there)

-- so one that is new clashes with none
new-free : (b : List ℕ) (bs : List (List ℕ)) → newly_met bs b ≡ true → list_any (clash b) bs ≡ false
unfolding newly_met
new-free b bs new = apart-free b bs (not_true (list_any (λ other. same_bytes (digest b) (digest other)) bs) new)

-- an index that grows

each-end : {A : Type 0} (P : A → Type 0) (xs : List A) (x : A) → Each P xs → P x → Each P (xs ++ x ∷ [])
each-end P [] x all one = (one, tt)
each-end P (y ∷ ys) x all one = (all.0, each-end P ys x all.1 one)

text-front : (key text : List ℕ) (bs : List (List ℕ)) (b : List ℕ) → IsTextOf key text bs → IsTextOf key text (bs ++ b ∷ [])
text-front key text [] b stands = absurd stands
text-front key text (a ∷ rest) b stands = ⊎_elim (λ here. inl here) (λ there. inr (text-front key text rest b there)) stands

text-end : (key text : List ℕ) (bs : List (List ℕ)) (b : List ℕ) → digest b ≡ key → b ≡ text → IsTextOf key text (bs ++ b ∷ [])
text-end key text [] b is same = inl (is, same)
text-end key text (a ∷ rest) b is same = inr (text-end key text rest b is same)

stands_still : (f : List ℕ → Option (List ℕ)) (b a : List ℕ) (t : Bool) → pointwise nat_eq (digest b) (digest a) ≡ t → clash b a ≡ false
    → f (digest a) ≡ Some a → cond (pointwise nat_eq (digest b) (digest a)) (Some b) (f (digest a)) ≡ Some a
stands_still f b a true same free stands =
    let e = (bytes_decides (digest b) (digest a)).0 same in
    let s : same_bytes (digest b) (digest a) ≡ true = rw e (same_bytes-refl (digest a)) in
    let d = first_is (same_bytes (digest b) (digest a)) (not (same_bytes b a)) free s in
    rw same (ap (λ x. Some x) (same_bytes-true b a (not_false (same_bytes b a) d)))
stands_still f b a false differ free stands = rw differ stands

all_still : (f g : List ℕ → Option (List ℕ)) (b : List ℕ) (bs : List (List ℕ)) → ((d : List ℕ) → g d ≡ cond (pointwise nat_eq (digest b) d) (Some b) (f d))
    → list_any (clash b) bs ≡ false → Each (λ a. f (digest a) ≡ Some a) bs → Each (λ a. g (digest a) ≡ Some a) bs
all_still f g b [] more free stands = tt
all_still f g b (a ∷ rest) more free stands =
    let here = either_first (clash b a) (list_any (clash b) rest) free in
    let there = either_second (clash b a) (list_any (clash b) rest) free in
    (more (digest a) ∙ stands_still f b a (pointwise nat_eq (digest b) (digest a)) refl here stands.0, all_still f g b rest more there stands.1)

comes_still : (f : List ℕ → Option (List ℕ)) (b : List ℕ) (bs : List (List ℕ)) (d text : List ℕ) (t : Bool) → pointwise nat_eq (digest b) d ≡ t → IsIndex f bs
    → cond (pointwise nat_eq (digest b) d) (Some b) (f d) ≡ Some text → IsTextOf d text (bs ++ b ∷ [])
comes_still f b bs d text true same index some =
    let e = (bytes_decides (digest b) d).0 same in
    let own : Some b ≡ Some text = rw same at some in
    text-end d text bs b e (cc)
comes_still f b bs d text false differ index some =
    let old : f d ≡ Some text = rw differ at some in
    text-front d text bs b (index.comes d text old)

index-end : (f g : List ℕ → Option (List ℕ)) (bs : List (List ℕ)) (b : List ℕ) → IsIndex f bs → list_any (clash b) bs ≡ false
    → ((d : List ℕ) → g d ≡ cond (pointwise nat_eq (digest b) d) (Some b) (f d)) → IsIndex g (bs ++ b ∷ [])
index-end f g bs b index free more =
    let own : pointwise nat_eq (digest b) (digest b) ≡ true = (bytes_decides (digest b) (digest b)).1 refl in
    record {
      stands = each-end (λ a. g (digest a) ≡ Some a) bs b (all_still f g b bs more free index.stands) (more (digest b) ∙ rw own refl);
      comes = λ d text some. comes_still f b bs d text (pointwise nat_eq (digest b) d) refl index (sym (more d) ∙ some);
    }

stands-same : (f g : List ℕ → Option (List ℕ)) (bs : List (List ℕ)) → ((d : List ℕ) → g d ≡ f d) → Each (λ a. f (digest a) ≡ Some a) bs
    → Each (λ a. g (digest a) ≡ Some a) bs
stands-same f g [] same stands = tt
stands-same f g (a ∷ rest) same stands = (same (digest a) ∙ stands.0, stands-same f g rest same stands.1)

-- an index that gives the same texts
pub index-same : (f g : List ℕ → Option (List ℕ)) (bs : List (List ℕ)) → IsIndex f bs → ((d : List ℕ) → g d ≡ f d) → IsIndex g bs
index-same f g bs index same =
    record { stands = stands-same f g bs same index.stands; comes = λ d text some. index.comes d text (sym (same d) ∙ some) }

index-none : (f g : List ℕ → Option (List ℕ)) (bs : List (List ℕ)) → IsIndex f bs → ((d : List ℕ) → g d ≡ f d) → IsIndex g (bs ++ [])
index-none f g bs index same = rw (append-nil bs) (index-same f g bs index same)

index-optional : (f g : List ℕ → Option (List ℕ)) (ts : List (List ℕ)) (found : Option Batch) → IsIndex f ts
    → list_any (λ t. list_any (clash t) ts) (map batch_text (option_to_list found)) ≡ false
    → ((d : List ℕ) → g d ≡ indexed f (map batch_text (option_to_list found)) d) → IsIndex g (ts ++ map batch_text (option_to_list found))
index-optional f g ts None index free more = index-none f g ts index more
index-optional f g ts (Some b) index free more = index-end f g ts (batch_text b) index (either_first (list_any (clash (batch_text b)) ts) false free) more

index-content : (f g : List ℕ → Option (List ℕ)) (ts : List (List ℕ)) (c : Content) → IsIndex f ts → list_any (λ t. list_any (clash t) ts) (texts_in c) ≡ false
    → ((d : List ℕ) → g d ≡ indexed f (texts_in c) d) → IsIndex g (ts ++ texts_in c)
index-content f g ts (contents.Message m) index free more = index-optional f g ts (batch_in m) index free more
index-content f g ts (contents.Raw bytes) index free more = index-none f g ts index more

batches-end : (sent : List Sent) (s : Sent) → batches_met (sent ++ s ∷ []) ≡ batches_met sent ++ batches s.content
batches-end sent s = flat_map-append (λ x. batches x.content) sent (s ∷ []) ∙ ap (λ bs. batches_met sent ++ bs) (append-nil (batches s.content))

met-end : (sent : List Sent) (s : Sent) → met (sent ++ s ∷ []) ≡ met sent ++ texts_in s.content
met-end sent s = ap (λ (bs : List Batch). map batch_text bs) (batches-end sent s) ∙ map-append batch_text (batches_met sent) (batches s.content)

-- the same texts in another order

each-left : {A : Type 0} (P : A → Type 0) (xs ys : List A) → Each P (xs ++ ys) → Each P xs
each-left P [] ys all = tt
each-left P (x ∷ xs) ys all = (all.0, each-left P xs ys all.1)

each-right : {A : Type 0} (P : A → Type 0) (xs ys : List A) → Each P (xs ++ ys) → Each P ys
each-right P [] ys all = all
each-right P (x ∷ xs) ys all = each-right P xs ys all.1

each-both : {A : Type 0} (P : A → Type 0) (xs ys : List A) → Each P xs → Each P ys → Each P (xs ++ ys)
each-both P [] ys front rest = rest
each-both P (x ∷ xs) ys front rest = (front.0, each-both P xs ys front.1 rest)

text-left : (key text : List ℕ) (xs ys : List (List ℕ)) → IsTextOf key text xs → IsTextOf key text (xs ++ ys)
text-left key text [] ys stands = absurd stands
text-left key text (x ∷ xs) ys stands = ⊎_elim (λ here. inl here) (λ there. inr (text-left key text xs ys there)) stands

text-right : (key text : List ℕ) (xs ys : List (List ℕ)) → IsTextOf key text ys → IsTextOf key text (xs ++ ys)
text-right key text [] ys stands = stands
text-right key text (x ∷ xs) ys stands = inr (text-right key text xs ys stands)

text-either : (key text : List ℕ) (xs ys : List (List ℕ)) → IsTextOf key text (xs ++ ys) → IsTextOf key text xs ⊎ IsTextOf key text ys
text-either key text [] ys stands = inr stands
text-either key text (x ∷ xs) ys stands =
    elim stands [ inl here ↦ inl (inl here) | inr later ↦ elim (text-either key text xs ys later) [ inl front ↦ inl (inr front) | inr back ↦ inr back ] ]

text-swap : (key text : List ℕ) (xs ys zs : List (List ℕ)) → IsTextOf key text ((xs ++ ys) ++ zs) → IsTextOf key text ((xs ++ zs) ++ ys)
text-swap key text xs ys zs stands =
    elim (text-either key text (xs ++ ys) zs stands) [
      | inl front ↦ elim (text-either key text xs ys front) [
        | inl first ↦ text-left key text (xs ++ zs) ys (text-left key text xs zs first)
        | inr second ↦ text-right key text (xs ++ zs) ys second
      ]
      | inr last ↦ text-left key text (xs ++ zs) ys (text-right key text xs zs last)
    ]

index-swap : (f : List ℕ → Option (List ℕ)) (xs ys zs : List (List ℕ)) → IsIndex f ((xs ++ ys) ++ zs) → IsIndex f ((xs ++ zs) ++ ys)
index-swap f xs ys zs index =
    let P : List ℕ → Type 0 = λ t. f (digest t) ≡ Some t in
    let front : Each P (xs ++ ys) = each-left P (xs ++ ys) zs index.stands in
    let rest : Each P zs = each-right P (xs ++ ys) zs index.stands in
    record {
      stands = each-both P (xs ++ zs) ys (each-both P xs zs (each-left P xs ys front) rest) (each-right P xs ys front);
      comes = λ key text some. text-swap key text xs ys zs (index.comes key text some);
    }

-- an index with the texts of one more message that does not collide
pub index-more : (f g : List ℕ → Option (List ℕ)) (sent : List Sent) (marked : List (List ℕ)) (s : Sent) → IsIndex f (texts_met sent marked)
    → collides (texts_met sent marked) (texts_in s.content) ≡ false → ((d : List ℕ) → g d ≡ indexed f (texts_in s.content) d) → IsIndex g (texts_met (sent ++ s ∷ []) marked)
unfolding collides
index-more f g sent marked s index free more =
    subst (λ (texts : List (List ℕ)). IsIndex g (texts ++ marked)) (sym (met-end sent s))
    (index-swap g (met sent) marked (texts_in s.content) (index-content f g (texts_met sent marked) s.content index free more))

-- an index with one more snapshot, which is new
pub index-snapshot : (f g : List ℕ → Option (List ℕ)) (sent : List Sent) (marked : List (List ℕ)) (snapshot : List ℕ) → IsIndex f (texts_met sent marked)
    → newly_met (texts_met sent marked) snapshot ≡ true → ((d : List ℕ) → g d ≡ indexed f (snapshot ∷ []) d) → IsIndex g (texts_met sent (marked ++ snapshot ∷ []))
index-snapshot f g sent marked snapshot index new more =
    subst (λ (texts : List (List ℕ)). IsIndex g texts) (append_assoc (met sent) marked (snapshot ∷ []))
    (index-end f g (texts_met sent marked) snapshot index (new-free snapshot (texts_met sent marked) new) more)

-- a snapshot that is not new leaves a ledger as it was
pub met_known : (l : LedgerState) (snapshot : List ℕ) → newly_met (texts_met l.sent l.marked) snapshot ≡ false → l ≡ record l { marked = marked_with l.sent l.marked snapshot }
met_known l snapshot known = rw known refl

-- one that is new is added
pub met_new : (l : LedgerState) (snapshot : List ℕ) → newly_met (texts_met l.sent l.marked) snapshot ≡ true
    → record l { marked = l.marked ++ snapshot ∷ [] } ≡ record l { marked = marked_with l.sent l.marked snapshot }
met_new l snapshot new = rw new refl

-- an index of no text
pub index_none : IsIndex (λ d. None) []
index_none = record { stands = tt; comes = λ d text some. absurd (cc) }

-- the digest of a text is the one of the bytes that are equal to it
pub digest_is : (own text key : List ℕ) → text ≡ own → key ≡ digest text → digest own ≡ key
digest_is own text key same is = sym (is ∙ ap (λ x. digest x) same)
