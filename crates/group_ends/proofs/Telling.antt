-- What was put on links, as their owner tells it, and what their other ends hear.
use Rattle.std.proofs.Common.{◌≡◌, ◌∙◌, ℕ, zero, suc, ◌<◌, List, [], ◌∷◌, drop, length, slice_set, get_or, refl, sym, ap, subst, arith}
use Rattle.smart_base.specs.Lists.{Each}
use Rattle.atomic_table.specs.Seated.{TableId}
use Rattle.queue_ends.specs.Rule.{IsFront}
use Rattle.group_links.specs.Link.{link_put, link_taken, link_heard_put, in_link, out_link}
use Rattle.group_links.specs.declared.outward.LinkOut.{LinkOut}
use Rattle.node_rules.specs.declared.node.Target.{Target}
use Rattle.node_rules.specs.declared.node.Target.TheVariants.{View}
use Rattle.trail.specs.declared.event.TrailEvent.{TrailEvent}
use Rattle.group_ends.specs.Carried.{carried}
use Rattle.group_ends.specs.Ports.{ends, port_links, puts, Carries, CarriesFirst, inbox_links, takings, heard_puts}
use Rattle.group_ends.specs.declared.port.Port.{Port}

-- ---- the ends that send

-- a port that stands for another: the same end, link and messages
pub record IsSamePort (p q : Port) : Type 0 where
  pub end : q.end ≡ p.end
  pub link : in_link q.link ≡ in_link p.link
  pub put : link_put q.link ≡ link_put p.link

pub ends-set : (ps : List Port) (i : ℕ) (p q : Port) → i < length ps → p ≡ get_or ps i p → q.end ≡ p.end → ends (slice_set ps i q) ≡ ends ps
ends-set [] i p q within is same = absurd (omega (arith, within))
ends-set (x ∷ ps) zero p q within is same = ap (λ (t : Target). t ∷ ends ps) (same ∙ ap (λ (y : Port). y.end) is)
ends-set (x ∷ ps) (suc i) p q within is same = ap (λ (ts : List Target). x.end ∷ ts) (ends-set ps i p q (omega (arith, within)) is same)

pub port-links-set : (ps : List Port) (i : ℕ) (p q : Port) → i < length ps → p ≡ get_or ps i p → in_link q.link ≡ in_link p.link → port_links (slice_set ps i q) ≡ port_links ps
port-links-set [] i p q within is same = absurd (omega (arith, within))
port-links-set (x ∷ ps) zero p q within is same = ap (λ (t : TableId). t ∷ port_links ps) (same ∙ ap (λ (y : Port). in_link y.link) is)
port-links-set (x ∷ ps) (suc i) p q within is same = ap (λ (ts : List TableId). in_link x.link ∷ ts) (port-links-set ps i p q (omega (arith, within)) is same)

pub puts-set : (ps : List Port) (i : ℕ) (p q : Port) → i < length ps → p ≡ get_or ps i p → link_put q.link ≡ link_put p.link → puts (slice_set ps i q) ≡ puts ps
puts-set [] i p q within is same = absurd (omega (arith, within))
puts-set (x ∷ ps) zero p q within is same = ap (λ (t : List (List ℕ)). t ∷ puts ps) (same ∙ ap (λ (y : Port). link_put y.link) is)
puts-set (x ∷ ps) (suc i) p q within is same = ap (λ (ts : List (List (List ℕ))). link_put x.link ∷ ts) (puts-set ps i p q (omega (arith, within)) is same)

pub port-link-at : (ps : List Port) (i : ℕ) (p : Port) (t : TableId) → i < length ps → p ≡ get_or ps i p → t ≡ in_link p.link → t ≡ get_or (port_links ps) i t
port-link-at [] i p t within is same = absurd (omega (arith, within))
port-link-at (x ∷ ps) zero p t within is same = same ∙ ap (λ (y : Port). in_link y.link) is
port-link-at (x ∷ ps) (suc i) p t within is same = port-link-at ps i p t (omega (arith, within)) is same

pub put-at : (ps : List Port) (i : ℕ) (p : Port) (told : List (List ℕ)) → i < length ps → p ≡ get_or ps i p → told ≡ link_put p.link → told ≡ get_or (puts ps) i []
put-at [] i p told within is same = absurd (omega (arith, within))
put-at (x ∷ ps) zero p told within is same = same ∙ ap (λ (y : Port). link_put y.link) is
put-at (x ∷ ps) (suc i) p told within is same = put-at ps i p told (omega (arith, within)) is same

-- what links carry is the same once it was told
by-put : (P : Target → List (List ℕ) → Type 0) (old new : List Port) → ends new ≡ ends old → puts new ≡ puts old → Each (λ (p : Port). P p.end (link_put p.link)) old → Each (λ (p : Port). P p.end (link_put p.link)) new
by-put P [] [] ends-is puts-is all = tt
by-put P [] (q ∷ new) ends-is puts-is all = absurd (omega (arith, ap length ends-is))
by-put P (p ∷ old) [] ends-is puts-is all = absurd (omega (arith, ap length ends-is))
by-put P (p ∷ old) (q ∷ new) ends-is puts-is all =
    let end : q.end ≡ p.end = ap (λ (ts : List Target). get_or ts 0 View) ends-is in
    let put : link_put q.link ≡ link_put p.link = ap (λ (ts : List (List (List ℕ))). get_or ts 0 []) puts-is in
    (subst (λ (t : Target). P t (link_put q.link)) (sym end) (subst (P p.end) (sym put) all.0), by-put P old new (ap (drop 1) ends-is) (ap (drop 1) puts-is) all.1)

pub carries-told : (es : List TrailEvent) (old new : List Port) → ends new ≡ ends old → puts new ≡ puts old → Each (Carries es) old → Each (Carries es) new
carries-told es old new ends-is puts-is all = by-put (λ (t : Target) (xs : List (List ℕ)). xs ≡ carried t es) old new ends-is puts-is all

pub first-told : (es : List TrailEvent) (old new : List Port) → ends new ≡ ends old → puts new ≡ puts old → Each (CarriesFirst es) old → Each (CarriesFirst es) new
first-told es old new ends-is puts-is all = by-put (λ (t : Target) (xs : List (List ℕ)). IsFront xs (carried t es)) old new ends-is puts-is all

-- what is told of a link is what the trail sends to its end
at-put : (P : Target → List (List ℕ) → Type 0) (ps : List Port) (i : ℕ) → i < length (ends ps) → Each (λ (p : Port). P p.end (link_put p.link)) ps → P (get_or (ends ps) i View) (get_or (puts ps) i [])
at-put P [] i within all = absurd (omega (arith, within))
at-put P (p ∷ ps) zero within all = all.0
at-put P (p ∷ ps) (suc i) within all = at-put P ps i (omega (arith, within)) all.1

pub told-carried : (es : List TrailEvent) (ps : List Port) (i : ℕ) → i < length (ends ps) → Each (Carries es) ps → get_or (puts ps) i [] ≡ carried (get_or (ends ps) i View) es
told-carried es ps i within all = at-put (λ (t : Target) (xs : List (List ℕ)). xs ≡ carried t es) ps i within all

pub told-first : (es : List TrailEvent) (ps : List Port) (i : ℕ) → i < length (ends ps) → Each (CarriesFirst es) ps → IsFront (get_or (puts ps) i []) (carried (get_or (ends ps) i View) es)
told-first es ps i within all = at-put (λ (t : Target) (xs : List (List ℕ)). IsFront xs (carried t es)) ps i within all

pub ends-length : (ps : List Port) → length (ends ps) ≡ length ps
ends-length [] = refl
ends-length (p ∷ ps) = ap suc (ends-length ps)

-- ---- the ends that poll

abbrev Links : Type 0
Links = List (LinkOut (List ℕ))

pub heard-puts-set : (ys : Links) (i : ℕ) (new : LinkOut (List ℕ)) → heard_puts (slice_set ys i new) ≡ slice_set (heard_puts ys) i (link_heard_put new)
heard-puts-set [] i new = refl
heard-puts-set (y ∷ ys) zero new = refl
heard-puts-set (y ∷ ys) (suc i) new = ap (λ (l : List (List (List ℕ))). link_heard_put y ∷ l) (heard-puts-set ys i new)

-- a link that heard nothing more
pub heard-puts-same : (ys : Links) (i : ℕ) (l new : LinkOut (List ℕ)) → i < length ys → l ≡ get_or ys i l → link_heard_put new ≡ link_heard_put l → heard_puts (slice_set ys i new) ≡ heard_puts ys
heard-puts-same [] i l new within is same = absurd (omega (arith, within))
heard-puts-same (y ∷ ys) zero l new within is same = ap (λ (h : List (List ℕ)). h ∷ heard_puts ys) (same ∙ ap (λ (x : LinkOut (List ℕ)). link_heard_put x) is)
heard-puts-same (y ∷ ys) (suc i) l new within is same = ap (λ (hs : List (List (List ℕ))). link_heard_put y ∷ hs) (heard-puts-same ys i l new (omega (arith, within)) is same)

-- a link from which nothing more was taken
pub takings-same : (ys : Links) (i : ℕ) (l new : LinkOut (List ℕ)) → i < length ys → l ≡ get_or ys i l → link_taken new ≡ link_taken l → takings (slice_set ys i new) ≡ takings ys
takings-same [] i l new within is same = absurd (omega (arith, within))
takings-same (y ∷ ys) zero l new within is same = ap (λ (h : List (List ℕ)). h ∷ takings ys) (same ∙ ap (λ (x : LinkOut (List ℕ)). link_taken x) is)
takings-same (y ∷ ys) (suc i) l new within is same = ap (λ (hs : List (List (List ℕ))). link_taken y ∷ hs) (takings-same ys i l new (omega (arith, within)) is same)

-- which link stands at an index
pub link-at : (ys : Links) (i : ℕ) (l : LinkOut (List ℕ)) (t : TableId) → i < length ys → l ≡ get_or ys i l → t ≡ get_or (inbox_links ys) i t → t ≡ out_link l
link-at [] i l t within is named = absurd (omega (arith, within))
link-at (y ∷ ys) zero l t within is named = named ∙ ap (λ (x : LinkOut (List ℕ)). out_link x) (sym is)
link-at (y ∷ ys) (suc i) l t within is named = link-at ys i l t (omega (arith, within)) is named

pub inbox-length : (ys : Links) → length (inbox_links ys) ≡ length ys
inbox-length [] = refl
inbox-length (y ∷ ys) = ap suc (inbox-length ys)
