-- Counts say how often each message stands in others.
use Rattle.std.proofs.Common.{◌≡◌, ℕ, ◌+◌, ◌==◌, Bool, true, false, cond, ◌&&◌, List, [], ◌∷◌, length, map, filter, Option, Some, refl, ap, sym, ◌∙◌, arith, eqb-true}
use Rattle.std.specs.Prelude.{nat_eq}
use Rattle.std.specs.Cmp.{nat_eq_equiv}
use Rattle.std.specs.Cmp.Lexicographic.{pointwise}
use Rattle.std.specs.HashMap.{HashMap, get}
use Rattle.std.specs.Map.{lookup}
use Rattle.smart_base.specs.Lists.{same_bytes}
use Rattle.smart_base.proofs.SameLists.{and_true}
use Rattle.vote_book.proofs.Tested.{same_bytes_is}
use Rattle.audit_rules.specs.Quiets.{Post, same_post, times, has_come, is_received}
use Rattle.trail_posts.specs.declared.posts.Posted.{Posted}
use Rattle.trail_posts.specs.Counting.{post_of, same_posted, count_or, IsCount}

-- ---- messages that are the same

same_items : (xs ys : List ℕ) → pointwise nat_eq xs ys ≡ same_bytes ys xs
same_items [] [] = refl
same_items [] (y ∷ ys) = refl
same_items (x ∷ xs) [] = refl
same_items (x ∷ xs) (y ∷ ys) = rw (nat_eq_equiv.symm x y, same_items xs ys) refl

-- what `==` returns of two posts
abbrev same_texts : Post → Post → Bool
same_texts a b = nat_eq a.to b.to && pointwise nat_eq a.text b.text

same_as_post : (a b : Post) → same_texts a b ≡ same_post b a
same_as_post a b = rw (nat_eq_equiv.symm a.to b.to, same_items a.text b.text) refl

post_by : (a b : Post) → a.to ≡ b.to → a.text ≡ b.text → a ≡ b
post_by a b to text = ap (λ (k : ℕ). record { to = k; text = a.text }) to ∙ ap (λ (t : List ℕ). record { to = b.to; text = t }) text

same-equal : (a b : Post) → same_texts a b ≡ true → b ≡ a
same-equal a b same =
    let both = and_true (b.to == a.to) (same_bytes b.text a.text) (sym (same_as_post a b) ∙ same) in
    post_by b a (eqb-true b.to a.to both.0) (same_bytes_is b.text a.text both.1)

-- ---- one more is counted

counted-if : (t : Bool) (x : Post) (rest : List Post) → length (cond t (x ∷ rest) rest) ≡ cond t 1 0 + length rest
counted-if true x rest = omega arith
counted-if false x rest = omega arith

-- how often a message stands in one more and in the rest
times-more : (p x : Post) (rest : List Post) → times p (x ∷ rest) ≡ cond (same_texts x p) 1 0 + times p rest
times-more p x rest =
    counted-if (same_post p x) x (filter (same_post p) rest) ∙ ap (λ (t : Bool). cond t 1 0 + times p rest) (sym (same_as_post x p))

pub count-more : (p x : Posted) (rest all : List Posted) (old new total : ℕ) → new ≡ cond (same_posted x p) 1 0 + old → all ≡ x ∷ rest
    → old + times (post_of p) (map post_of all) ≡ total → new + times (post_of p) (map post_of rest) ≡ total
count-more p x rest all old new total more is so_far =
    let counted = times-more (post_of p) (post_of x) (map post_of rest) in
    let e : old + times (post_of p) (map post_of (x ∷ rest)) ≡ total = rw is at so_far in
    omega (arith, more, counted, e)

-- ---- a map of counts

module _ {S : Type 0} (old new : HashMap Posted ℕ S) (x copy : Posted) (before after : ℕ) (copied : post_of copy ≡ post_of x) (was : before ≡ count_or (get same_posted old x)) (next : after ≡ before + 1)
    (put : (q : Posted) → get same_posted new q ≡ cond (same_posted copy q) (Some after) (get same_posted old q)) where
  -- what the map had of a post
  abbrev look : Post → Option ℕ
  look a = lookup (λ (e : Posted). same_texts a (post_of e)) old.entries

  same_found : (p : Posted) → post_of p ≡ post_of x → count_or (get same_posted old p) ≡ before
  same_found p same = ap (λ (a : Post). count_or (look a)) same ∙ sym was

  by_same : (p : Posted) (t : Bool) → same_texts (post_of x) (post_of p) ≡ t → count_or (cond t (Some after) (get same_posted old p)) ≡ cond t 1 0 + count_or (get same_posted old p)
  by_same p true same = let found = same_found p (same-equal (post_of x) (post_of p) same) in omega (arith, found, next)
  by_same p false same = omega arith

  pub once : (p : Posted) → count_or (get same_posted new p) ≡ cond (same_posted x p) 1 0 + count_or (get same_posted old p)
  once p =
      ap (λ (o : Option ℕ). count_or o) (put p)
      ∙ (ap (λ (a : Post). count_or (cond (same_texts a (post_of p)) (Some after) (get same_posted old p))) copied
      ∙ by_same p (same_posted x p) refl)

-- ---- what was received

pub received : (sent lost arrived : Posted → ℕ) (s l a : List Post) (p : Posted) (is : Bool) → IsCount sent s → IsCount lost l → IsCount arrived a
    → is ≡ has_come (sent p) (lost p) (arrived p) → is ≡ is_received s l a (post_of p)
received sent lost arrived s l a p is cs cl ca told =
    told
    ∙ (ap (λ (k : ℕ). has_come k (lost p) (arrived p)) (cs.exact p)
    ∙ (ap (λ (k : ℕ). has_come (times (post_of p) s) k (arrived p)) (cl.exact p) ∙ ap (λ (k : ℕ). has_come (times (post_of p) s) (times (post_of p) l) k) (ca.exact p)))
