-- What the ends of links keep while they are polled in order.
use Rattle.std.proofs.Common.{◌≡◌, ◌∙◌, ℕ, zero, suc, ◌+◌, ◌<◌, List, [], ◌∷◌, ◌++◌, length, map, take, slice_set, get_or, Option, Some, None, IfSome, MatchOption, refl, sym, ap, subst, arith}
use Rattle.smart_base.specs.Lists.{Each}
use Rattle.atomic_table.specs.Seated.{TableId}
use Rattle.queue_ends.specs.Rule.{IsFront}
use Rattle.group_links.specs.Link.{link_taken, link_heard_put, out_link}
use Rattle.group_links.specs.declared.outward.LinkOut.{LinkOut}
use Rattle.group_ends.specs.Ports.{inbox_links, heard_and_taken, takings, IsEmptied, IsTaken}

abbrev Links : Type 0
Links = List (LinkOut (List ℕ))

-- what was heard of a link, and what was taken from it
abbrev Known : Type 0
Known = List (List ℕ) × List (List ℕ)

abbrev known_of : LinkOut (List ℕ) → Known
known_of l = (link_heard_put l, link_taken l)

abbrev taken_by : List Known → List (List (List ℕ))
taken_by ks = map (λ (k : Known). k.1) ks

takings-of : (xs : Links) → takings xs ≡ taken_by (heard_and_taken xs)
takings-of [] = refl
takings-of (x ∷ xs) = ap (λ (l : List (List (List ℕ))). link_taken x ∷ l) (takings-of xs)

pub same-takings : (xs ys : Links) → heard_and_taken ys ≡ heard_and_taken xs → takings ys ≡ takings xs
same-takings xs ys same = takings-of ys ∙ ap (λ (ks : List Known). taken_by ks) same ∙ sym (takings-of xs)

-- a link that had nothing keeps what it has heard and taken
heard-set : (ys : Links) (i : ℕ) (l new : LinkOut (List ℕ)) → i < length ys → l ≡ get_or ys i l → known_of new ≡ known_of l → heard_and_taken (slice_set ys i new) ≡ heard_and_taken ys
heard-set [] i l new within is same = absurd (omega (arith, within))
heard-set (y ∷ ys) zero l new within is same = ap (λ (k : Known). k ∷ heard_and_taken ys) (same ∙ ap (λ (x : LinkOut (List ℕ)). known_of x) is)
heard-set (y ∷ ys) (suc i) l new within is same = ap (λ (ks : List Known). known_of y ∷ ks) (heard-set ys i l new (omega (arith, within)) is same)

pub links-set : (ys : Links) (i : ℕ) (l new : LinkOut (List ℕ)) → i < length ys → l ≡ get_or ys i l → out_link new ≡ out_link l → inbox_links (slice_set ys i new) ≡ inbox_links ys
links-set [] i l new within is same = absurd omega (arith, within)
links-set (y ∷ ys) zero l new within is same = ap (λ (t : TableId). t ∷ inbox_links ys) (same ∙ ap (λ (x : LinkOut (List ℕ)). out_link x) is)
links-set (y ∷ ys) (suc i) l new within is same = ap (λ (ts : List TableId). out_link y ∷ ts) (links-set ys i l new (omega (arith, within)) is same)

heard-at : (ys : Links) (i : ℕ) (l : LinkOut (List ℕ)) → i < length ys → l ≡ get_or ys i l → get_or (heard_and_taken ys) i ([], []) ≡ known_of l
heard-at [] i l within is = absurd omega (arith, within)
heard-at (y ∷ ys) zero l within is = ap (λ (x : LinkOut (List ℕ)). known_of x) (sym is)
heard-at (y ∷ ys) (suc i) l within is = heard-at ys i l (omega (arith, within)) is

taken-at : (ys : Links) (i : ℕ) (l : LinkOut (List ℕ)) → i < length ys → l ≡ get_or ys i l → get_or (takings ys) i [] ≡ link_taken l
taken-at [] i l within is = absurd omega (arith, within)
taken-at (y ∷ ys) zero l within is = ap (λ (x : LinkOut (List ℕ)). link_taken x) (sym is)
taken-at (y ∷ ys) (suc i) l within is = taken-at ys i l (omega (arith, within)) is

takings-set : (ys : Links) (i : ℕ) (new : LinkOut (List ℕ)) → takings (slice_set ys i new) ≡ slice_set (takings ys) i (link_taken new)
takings-set [] i new = refl
takings-set (y ∷ ys) zero new = refl
takings-set (y ∷ ys) (suc i) new = ap (λ (l : List (List (List ℕ))). link_taken y ∷ l) (takings-set ys i new)

takings-length : (ys : Links) → length (takings ys) ≡ length ys
takings-length [] = refl
takings-length (y ∷ ys) = ap suc (takings-length ys)

-- a link that had a message has taken it
pub polled-some : (xs ys : Links) (i : ℕ) (l new : LinkOut (List ℕ)) (bytes : List ℕ) → i < length ys → l ≡ get_or ys i l → link_taken new ≡ link_taken l ++ bytes ∷ []
    → heard_and_taken ys ≡ heard_and_taken xs → IsTaken bytes (takings xs) (takings (slice_set ys i new))
polled-some xs ys i l new bytes within is took same =
    let before : takings ys ≡ takings xs = same-takings xs ys same in
    let at : get_or (takings xs) i [] ++ bytes ∷ [] ≡ link_taken new =
    ap (λ (t : List (List (List ℕ))). get_or t i [] ++ bytes ∷ []) (sym before) ∙ ap (λ (t : List (List ℕ)). t ++ bytes ∷ []) (taken-at ys i l within is) ∙ sym took in
    let many : length (takings xs) ≡ length ys = ap length (sym before) ∙ takings-length ys in
    record {
      index = i;
      within = omega (arith, within, many);
      after_is = takings-set ys i new ∙ ap (λ (t : List (List (List ℕ))). slice_set t i (link_taken new)) before ∙ ap (slice_set (takings xs) i) (sym at);
    }

-- ---- one link of several was polled

-- what a poll says of its link
abbrev pub Polled : LinkOut (List ℕ) → LinkOut (List ℕ) → Option (List ℕ) → Type 0
Polled l new None = (link_taken new ≡ link_taken l) × IsFront (link_heard_put l) (link_taken l)
Polled l new (Some bytes) = link_taken new ≡ link_taken l ++ bytes ∷ []

pub polled : (l new : LinkOut (List ℕ)) (r : Option (List ℕ)) → MatchOption r ((link_taken new ≡ link_taken l) × IsFront (link_heard_put l) (link_taken l)) (λ bytes. link_taken new ≡ link_taken l ++ bytes ∷ []) → Polled l new r
polled l new None is = is
polled l new (Some bytes) is = is

module _ (xs : Links) (i : ℕ) (l new : LinkOut (List ℕ)) (within : i < length xs) (is : l ≡ get_or xs i l) where
  -- nothing was heard or taken
  pub none-polled : (r : Option (List ℕ)) → Polled l new r → link_heard_put new ≡ link_heard_put l → r ≡ None → heard_and_taken (slice_set xs i new) ≡ heard_and_taken xs
  none-polled None found heard none =
      heard-set xs i l new within is (ap (λ (h : List (List ℕ)). (h, link_taken new)) heard ∙ ap (λ (t : List (List ℕ)). (link_heard_put l, t)) found.0)
  none-polled (Some bytes) found heard none = absurd cc

  pub empty-polled : (r : Option (List ℕ)) → Polled l new r → r ≡ None → IsEmptied (get_or (heard_and_taken xs) i ([], []))
  empty-polled None found none = subst IsEmptied (sym (heard-at xs i l within is)) found.1
  empty-polled (Some bytes) found none = absurd cc

  pub some-polled : (r : Option (List ℕ)) → Polled l new r → IfSome r (λ bytes. IsTaken bytes (takings xs) (takings (slice_set xs i new)))
  some-polled None found = tt
  some-polled (Some bytes) found = polled-some xs xs i l new bytes within is found refl

-- one link more had nothing
emptied-suc : (ss : List Known) (i : ℕ) → i < length ss → IsEmptied (get_or ss i ([], [])) → Each IsEmptied (take i ss) → Each IsEmptied (take (suc i) ss)
emptied-suc [] i within empty so_far = absurd omega (arith, within)
emptied-suc (x ∷ ss) zero within empty so_far = (empty, tt)
emptied-suc (x ∷ ss) (suc i) within empty so_far = (so_far.0, emptied-suc ss i (omega (arith, within)) empty so_far.1)

pub emptied-more : (ss : List Known) (i : ℕ) → i < length ss → IsEmptied (get_or ss i ([], [])) → Each IsEmptied (take i ss) → Each IsEmptied (take (i + 1) ss)
emptied-more ss i within empty so_far =
    let next : suc i ≡ i + 1 = omega arith in
    subst (λ (k : ℕ). Each IsEmptied (take k ss)) next (emptied-suc ss i within empty so_far)

pub heard-length : (ys : Links) → length (heard_and_taken ys) ≡ length ys
heard-length [] = refl
heard-length (y ∷ ys) = ap suc (heard-length ys)
