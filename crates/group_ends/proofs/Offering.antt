-- What links carry once a message was offered to them.
use Rattle.std.proofs.Common.{◌≡◌, ℕ, zero, suc, ◌+◌, ◌<◌, ◌≤◌, Bool, true, false, inl, inr, List, [], ◌∷◌, ◌++◌, length, take, drop, slice_set, get_or, Result, Ok, Err, IfOk, OnErr, refl, sym, ap, subst, ◌∙◌, true≢false, arith, append_assoc, append-nil}
use Rattle.std.proofs.Math.Seq.{take-append_seam}
use Rattle.std.proofs.lemmas.List.{take_all, take_more, take_more_set, drop_more, drop-set-lt, length-drop}
use Rattle.atomic_table.specs.Seated.{TableId}
use Rattle.smart_base.specs.Lists.{Each}
use Rattle.smart_messages.specs.Messages.{spelling}
use Rattle.group_links.specs.Link.{link_put, in_link, IsFull}
use Rattle.node_rules.specs.declared.node.Target.{Target}
use Rattle.trail.specs.declared.event.Addressed.{Addressed}
use Rattle.trail.specs.declared.event.TrailEvent.{TrailEvent}
use Rattle.trail.specs.declared.event.TrailEvent.TheVariants.{Send, Lost}
use Rattle.group_ends.specs.Carried.{is_for, is_lost, carried}
use Rattle.group_ends.specs.Ports.{ends, port_links, added, IsOffered, IsOfferedAt, AreOffered, IsWithin, AreWithin, lost_if, losts, Carries, CarriesFirst}
use Rattle.group_ends.specs.declared.port.Port.{Port}
use Rattle.group_ends.proofs.Texts.{front-more}
use Rattle.group_ends.proofs.Carrying.{IsLostOf, Matches, carried-send, carried-mute, is_mute, lost-front}
use Rattle.group_ends.proofs.Dropping.{MayLose}

-- ---- one link

-- its end is not to hear the message
pub unheard : (to : Target) (text : List ℕ) (p : Port) → is_for to p.end ≡ false → IsOffered to text p false p
unheard to text p apart =
    record {
      end = refl;
      link = refl;
      put = sym (append-nil (link_put p.link)) ∙ ap (λ (b : Bool). link_put p.link ++ added b false text) (sym apart);
      late = λ is. absurd (true≢false (sym is));
    }

module _ (to : Target) (text : List ℕ) (p q : Port) (end : q.end ≡ p.end) (link : in_link q.link ≡ in_link p.link) (heard : is_for to p.end ≡ true) where
  pub put-on : link_put q.link ≡ link_put p.link ++ text ∷ [] → IsOffered to text p false q
  put-on put =
      record {
        end = end;
        link = link;
        put = put ∙ ap (λ (b : Bool). link_put p.link ++ added b false text) (sym heard);
        late = λ is. absurd (true≢false (sym is));
      }

  pub dropped-by : link_put q.link ≡ link_put p.link → IsFull p.link → IsOffered to text p true q
  dropped-by same full =
      record {
        end = end;
        link = link;
        put = same ∙ sym (append-nil (link_put p.link)) ∙ ap (λ (b : Bool). link_put p.link ++ added b true text) (sym heard);
        late = λ _. (heard, late full);
      }
    where
      late : IsFull p.link → 1024 ≤ length (link_put p.link)
      late (inl many) = omega (arith, many, p.small)
      late (inr most) = omega (arith, most)

-- ---- the same ends and links

pub offered-ends : (to : Target) (text : List ℕ) (ps : List Port) (ds : List Bool) (qs : List Port) → AreOffered to text ps ds qs → (ends qs ≡ ends ps) × (port_links qs ≡ port_links ps)
offered-ends to text [] [] [] all = (refl, refl)
offered-ends to text [] [] (q ∷ qs) all = absurd all
offered-ends to text [] (d ∷ ds) [] all = absurd all
offered-ends to text [] (d ∷ ds) (q ∷ qs) all = absurd all
offered-ends to text (p ∷ ps) [] [] all = absurd all
offered-ends to text (p ∷ ps) [] (q ∷ qs) all = absurd all
offered-ends to text (p ∷ ps) (d ∷ ds) [] all = absurd all
offered-ends to text (p ∷ ps) (d ∷ ds) (q ∷ qs) all =
    let rest = offered-ends to text ps ds qs all.1 in
    (ap (λ (t : Target). t ∷ ends qs) all.0.end ∙ ap (λ (l : List Target). p.end ∷ l) rest.0, ap (λ (t : TableId). t ∷ port_links qs) all.0.link ∙ ap (λ (l : List TableId). in_link p.link ∷ l) rest.1)

pub within-ends : (to : Target) (text : List ℕ) (ps qs : List Port) → AreWithin to text ps qs → (ends qs ≡ ends ps) × (port_links qs ≡ port_links ps)
within-ends to text [] [] all = (refl, refl)
within-ends to text [] (q ∷ qs) all = absurd all
within-ends to text (p ∷ ps) [] all = absurd all
within-ends to text (p ∷ ps) (q ∷ qs) all =
    let rest = within-ends to text ps qs all.1 in
    (ap (λ (t : Target). t ∷ ends qs) all.0.end ∙ ap (λ (l : List Target). p.end ∷ l) rest.0, ap (λ (t : TableId). t ∷ port_links qs) all.0.link ∙ ap (λ (l : List TableId). in_link p.link ∷ l) rest.1)

-- ---- what was put in part

-- nothing was offered
pub same-within : (to : Target) (text : List ℕ) (ps : List Port) → AreWithin to text ps ps
same-within to text [] = tt
same-within to text (p ∷ ps) = (record { end = refl; link = refl; count = 0; put = sym (append-nil (link_put p.link)) }, same-within to text ps)

within-one : (to : Target) (text : List ℕ) (p : Port) (d : Bool) (q : Port) → IsOffered to text p d q → IsWithin to text p q
within-one to text p d q offered = by-case (is_for to p.end) d refl offered.put
  where
    by-case : (heard d : Bool) → is_for to p.end ≡ heard → link_put q.link ≡ link_put p.link ++ added (is_for to p.end) d text → IsWithin to text p q
    by-case heard true is put =
        let none : added (is_for to p.end) true text ≡ [] = ap (λ (b : Bool). added b true text) is ∙ nothing heard in
        record { end = offered.end; link = offered.link; count = 0; put = put ∙ ap (λ (l : List (List ℕ)). link_put p.link ++ l) none }
      where
        nothing : (b : Bool) → added b true text ≡ []
        nothing true = refl
        nothing false = refl
    by-case heard false is put =
        record { end = offered.end; link = offered.link; count = 1; put = put ∙ ap (λ (l : List (List ℕ)). link_put p.link ++ l) (sym (whole (is_for to p.end))) }
      where
        whole : (b : Bool) → take 1 (added b false text) ≡ added b false text
        whole true = refl
        whole false = refl

-- ---- what links carry then

weaker : (heard dropped told : Bool) (text : List ℕ) → (told ≡ true → dropped ≡ true)
    → (more : List (List ℕ)) × (added heard told text ≡ added heard dropped text ++ more)
weaker true true told text both = (added true told text, refl)
weaker true false true text both = absurd (true≢false (sym (both refl)))
weaker true false false text both = ([], refl)
weaker false dropped told text both = ([], refl)

-- an end is told to have dropped the message only if its link did
abbrev pub MatchesFirst : List TrailEvent → List Target → List Bool → Type 0
MatchesFirst lost [] ds = Unit {0}
MatchesFirst lost (end ∷ ends) [] = Unit {0}
MatchesFirst lost (end ∷ ends) (d ∷ ds) = (is_lost end lost ≡ true → d ≡ true) × MatchesFirst lost ends ds

pub matches-front : (a : Addressed) (lost : List TrailEvent) (count : ℕ) (ends : List Target) (ds : List Bool) → Each (IsLostOf a) lost → Matches lost ends ds → MatchesFirst (take count lost) ends ds
matches-front a lost count [] ds only m = tt
matches-front a lost count (end ∷ ends) [] only m = tt
matches-front a lost count (end ∷ ends) (d ∷ ds) only m = (λ is. sym m.0 ∙ lost-front end a count lost only is, matches-front a lost count ends ds only m.1)

pub carries-all : (es : List TrailEvent) (a : Addressed) (lost : List TrailEvent) (ps : List Port) (ds : List Bool) (qs : List Port) → Each (IsLostOf a) lost
    → AreOffered a.to (spelling a.message) ps ds qs → Each (Carries es) ps → Matches lost (ends ps) ds → Each (Carries (es ++ Send a ∷ lost)) qs
carries-all es a lost [] [] [] only all had m = tt
carries-all es a lost [] [] (q ∷ qs) only all had m = absurd all
carries-all es a lost [] (d ∷ ds) [] only all had m = absurd all
carries-all es a lost [] (d ∷ ds) (q ∷ qs) only all had m = absurd all
carries-all es a lost (p ∷ ps) [] [] only all had m = absurd all
carries-all es a lost (p ∷ ps) [] (q ∷ qs) only all had m = absurd all
carries-all es a lost (p ∷ ps) (d ∷ ds) [] only all had m = absurd all
carries-all es a lost (p ∷ ps) (d ∷ ds) (q ∷ qs) only all had m =
    let text = spelling a.message in
    let put : link_put q.link ≡ carried p.end es ++ added (is_for a.to p.end) d text =
    all.0.put ∙ ap (λ (l : List (List ℕ)). l ++ added (is_for a.to p.end) d text) had.0 in
    let told : carried p.end (es ++ Send a ∷ lost) ≡ carried p.end es ++ added (is_for a.to p.end) d text =
    carried-send p.end es a lost only ∙ ap (λ (b : Bool). carried p.end es ++ added (is_for a.to p.end) b text) m.0 in
    (put ∙ sym told ∙ ap (λ (t : Target). carried t (es ++ Send a ∷ lost)) (sym all.0.end), carries-all es a lost ps ds qs only all.1 had.1 m.1)

pub carries-first : (es : List TrailEvent) (a : Addressed) (lost : List TrailEvent) (ps : List Port) (ds : List Bool) (qs : List Port) → Each (IsLostOf a) lost
    → AreOffered a.to (spelling a.message) ps ds qs → Each (Carries es) ps → MatchesFirst lost (ends ps) ds → Each (CarriesFirst (es ++ Send a ∷ lost)) qs
carries-first es a lost [] [] [] only all had m = tt
carries-first es a lost [] [] (q ∷ qs) only all had m = absurd all
carries-first es a lost [] (d ∷ ds) [] only all had m = absurd all
carries-first es a lost [] (d ∷ ds) (q ∷ qs) only all had m = absurd all
carries-first es a lost (p ∷ ps) [] [] only all had m = absurd all
carries-first es a lost (p ∷ ps) [] (q ∷ qs) only all had m = absurd all
carries-first es a lost (p ∷ ps) (d ∷ ds) [] only all had m = absurd all
carries-first es a lost (p ∷ ps) (d ∷ ds) (q ∷ qs) only all had m =
    let text = spelling a.message in
    let put : link_put q.link ≡ carried p.end es ++ added (is_for a.to p.end) d text =
    all.0.put ∙ ap (λ (l : List (List ℕ)). l ++ added (is_for a.to p.end) d text) had.0 in
    let more = weaker (is_for a.to p.end) d (is_lost p.end lost) text m.0 in
    let told : carried q.end (es ++ Send a ∷ lost) ≡ link_put q.link ++ more.0 =
    ap (λ (t : Target). carried t (es ++ Send a ∷ lost)) all.0.end ∙ carried-send p.end es a lost only ∙ ap (λ (l : List (List ℕ)). carried p.end es ++ l) more.1
    ∙ sym (append_assoc (carried p.end es) (added (is_for a.to p.end) d text) more.0) ∙ ap (λ (l : List (List ℕ)). l ++ more.0) (sym put) in
    (front-more (link_put q.link) (carried q.end (es ++ Send a ∷ lost)) more.0 told, carries-first es a lost ps ds qs only all.1 had.1 m.1)

take-split : {A : Type 0} (count : ℕ) (xs : List A) → xs ≡ take count xs ++ drop count xs
take-split zero xs = refl
take-split (suc count) [] = refl
take-split {A} (suc count) (x ∷ xs) = ap (λ (l : List A). x ∷ l) (take-split count xs)

pub carries-part : (es : List TrailEvent) (a : Addressed) (ps qs : List Port) → AreWithin a.to (spelling a.message) ps qs → Each (Carries es) ps → Each (CarriesFirst (es ++ Send a ∷ [])) qs
carries-part es a [] [] all had = tt
carries-part es a [] (q ∷ qs) all had = absurd all
carries-part es a (p ∷ ps) [] all had = absurd all
carries-part es a (p ∷ ps) (q ∷ qs) all had =
    let joined = added (is_for a.to p.end) false (spelling a.message) in
    let put : link_put q.link ≡ carried p.end es ++ take all.0.count joined = all.0.put ∙ ap (λ (l : List (List ℕ)). l ++ take all.0.count joined) had.0 in
    let told : carried q.end (es ++ Send a ∷ []) ≡ link_put q.link ++ drop all.0.count joined =
    ap (λ (t : Target). carried t (es ++ Send a ∷ [])) all.0.end ∙ carried-send p.end es a [] tt ∙ ap (λ (l : List (List ℕ)). carried p.end es ++ l) (take-split all.0.count joined)
    ∙ sym (append_assoc (carried p.end es) (take all.0.count joined) (drop all.0.count joined)) ∙ ap (λ (l : List (List ℕ)). l ++ drop all.0.count joined) (sym put) in
    (front-more (link_put q.link) (carried q.end (es ++ Send a ∷ [])) (drop all.0.count joined) told, carries-part es a ps qs all.1 had.1)

-- links that dropped the message were full, and were to carry it
pub may-lose : (es : List TrailEvent) (a : Addressed) (text : List ℕ) (ps : List Port) (ds : List Bool) (qs : List Port) → AreOffered a.to text ps ds qs → Each (Carries es) ps → MayLose es a (ends ps) ds
may-lose es a text [] [] [] all had = tt
may-lose es a text [] [] (q ∷ qs) all had = absurd all
may-lose es a text [] (d ∷ ds) [] all had = absurd all
may-lose es a text [] (d ∷ ds) (q ∷ qs) all had = absurd all
may-lose es a text (p ∷ ps) [] [] all had = absurd all
may-lose es a text (p ∷ ps) [] (q ∷ qs) all had = absurd all
may-lose es a text (p ∷ ps) (d ∷ ds) [] all had = absurd all
may-lose es a text (p ∷ ps) (d ∷ ds) (q ∷ qs) all had =
    (λ is. let full = all.0.late is in (full.0, subst (λ (l : List (List ℕ)). 1024 ≤ length l) had.0 full.1), may-lose es a text ps ds qs all.1 had.1)

-- ---- one event more that neither sends nor drops

pub carries-mute : (es new : List TrailEvent) (e : TrailEvent) (ps : List Port) → new ≡ es ++ e ∷ [] → is_mute e ≡ true → Each (Carries es) ps → Each (Carries new) ps
carries-mute es new e [] longer mute had = tt
carries-mute es new e (p ∷ ps) longer mute had =
    (had.0 ∙ sym (ap (carried p.end) longer ∙ carried-mute p.end es e mute), carries-mute es new e ps longer mute had.1)

pub carries-front : (es : List TrailEvent) (ps : List Port) → Each (Carries es) ps → Each (CarriesFirst es) ps
carries-front es [] had = tt
carries-front es (p ∷ ps) had = (front-more (link_put p.link) (carried p.end es) [] (sym had.0 ∙ sym (append-nil (link_put p.link))), carries-front es ps had.1)

-- ---- one link after the other

-- what becomes of a call's answer
pub offered-at : {E : Type 0} (to : Target) (text : List ℕ) (ps : List Port) (i : ℕ) (p q : Port) (r : Result Bool E) → p ≡ get_or ps i p → IfOk r (λ d. IsOffered to text p d q)
    → IfOk r (λ d. IsOfferedAt to text ps i d (slice_set ps i q))
offered-at to text ps i p q (Ok d) is one = record { before = p; stands = is; new = q; offered = one; after_is = refl }
offered-at to text ps i p q (Err e) is one = tt

set-same : (ps : List Port) (i : ℕ) (p q : Port) → p ≡ get_or ps i p → q ≡ p → slice_set ps i q ≡ ps
set-same [] i p q is same = refl
set-same (x ∷ ps) zero p q is same = ap (λ (y : Port). y ∷ ps) (same ∙ is)
set-same (x ∷ ps) (suc i) p q is same = ap (λ (l : List Port). x ∷ l) (set-same ps i p q is same)

pub unoffered : {E : Type 0} (ps : List Port) (i : ℕ) (p q : Port) (r : Result Bool E) → p ≡ get_or ps i p → OnErr r (q ≡ p) → OnErr r (slice_set ps i q ≡ ps)
unoffered ps i p q (Ok d) is none = tt
unoffered ps i p q (Err e) is none = set-same ps i p q is none

-- one link more
offered-behind : (to : Target) (text : List ℕ) (ps : List Port) (ds : List Bool) (qs : List Port) (p : Port) (d : Bool) (q : Port) → AreOffered to text ps ds qs → IsOffered to text p d q
    → AreOffered to text (ps ++ p ∷ []) (ds ++ d ∷ []) (qs ++ q ∷ [])
offered-behind to text [] [] [] p d q all one = (one, tt)
offered-behind to text [] [] (r ∷ qs) p d q all one = absurd all
offered-behind to text [] (b ∷ ds) [] p d q all one = absurd all
offered-behind to text [] (b ∷ ds) (r ∷ qs) p d q all one = absurd all
offered-behind to text (x ∷ ps) [] [] p d q all one = absurd all
offered-behind to text (x ∷ ps) [] (r ∷ qs) p d q all one = absurd all
offered-behind to text (x ∷ ps) (b ∷ ds) [] p d q all one = absurd all
offered-behind to text (x ∷ ps) (b ∷ ds) (r ∷ qs) p d q all one = (all.0, offered-behind to text ps ds qs p d q all.1 one)

-- lists that are the same from an index on
module _ {A : Type 0} (xs ys : List A) (i : ℕ) (same : drop i xs ≡ drop i ys) (within : i < length ys) where
  inside : i < length xs
  inside = omega (arith, within, ap length same, length-drop i xs, length-drop i ys)

  there-and-on : (d : A) → (get_or xs i d ≡ get_or ys i d) × (drop (i + 1) xs ≡ drop (i + 1) ys)
  there-and-on d =
      let both : get_or xs i d ∷ drop (i + 1) xs ≡ get_or ys i d ∷ drop (i + 1) ys = sym (drop_more xs i d inside) ∙ same ∙ drop_more ys i d within in
      (cc both, cc both)

next : (i : ℕ) → i < i + 1
next i = omega arith

-- one link more was offered the message
pub offered-more : (to : Target) (text : List ℕ) (ps : List Port) (ds : List Bool) (qs : List Port) (i : ℕ) (d : Bool) (rs : List Port) → AreOffered to text (take i ps) ds (take i qs)
    → drop i ps ≡ drop i qs → i < length qs → IsOfferedAt to text qs i d rs → AreOffered to text (take (i + 1) ps) (ds ++ d ∷ []) (take (i + 1) rs) × (drop (i + 1) ps ≡ drop (i + 1) rs)
offered-more to text ps ds qs i d rs all same within at =
    let p = at.before in
    let q = at.new in
    let on = there-and-on ps qs i same within p in
    let front : take (i + 1) rs ≡ take i qs ++ q ∷ [] = ap (λ (l : List Port). take (i + 1) l) at.after_is ∙ take_more_set qs i q within in
    let back : drop (i + 1) rs ≡ drop (i + 1) qs = ap (λ (l : List Port). drop (i + 1) l) at.after_is ∙ drop-set-lt (i + 1) qs i q (next i) in
    let one : IsOffered to text (get_or ps i p) d q = subst (λ (y : Port). IsOffered to text y d q) (at.stands ∙ sym on.0) at.offered in
    let done = offered-behind to text (take i ps) ds (take i qs) (get_or ps i p) d q all one in (
      subst (λ (l : List Port). AreOffered to text l (ds ++ d ∷ []) (take (i + 1) rs)) (sym (take_more ps i p (inside ps qs i same within)))
          (subst (λ (l : List Port). AreOffered to text (take i ps ++ get_or ps i p ∷ []) (ds ++ d ∷ []) l) (sym front) done),
      on.1 ∙ sym back,
    )

-- and the others were not
pub offered-part : (to : Target) (text : List ℕ) (ps : List Port) (ds : List Bool) (qs : List Port) (i : ℕ) → AreOffered to text (take i ps) ds (take i qs) → drop i ps ≡ drop i qs → AreWithin to text ps qs
offered-part to text ps ds qs zero all same = subst (AreWithin to text ps) same (same-within to text ps)
offered-part to text [] [] [] (suc i) all same = tt
offered-part to text [] [] (r ∷ qs) (suc i) all same = absurd all
offered-part to text [] (b ∷ ds) [] (suc i) all same = absurd all
offered-part to text [] (b ∷ ds) (r ∷ qs) (suc i) all same = absurd all
offered-part to text (x ∷ ps) [] [] (suc i) all same = absurd all
offered-part to text (x ∷ ps) [] (r ∷ qs) (suc i) all same = absurd all
offered-part to text (x ∷ ps) (b ∷ ds) [] (suc i) all same = absurd all
offered-part to text (x ∷ ps) (b ∷ ds) (r ∷ qs) (suc i) all same = (within-one to text x b r all.0, offered-part to text ps ds qs i all.1 same)

-- no link is left
pub offered-whole : (to : Target) (text : List ℕ) (ps : List Port) (ds : List Bool) (qs : List Port) (i : ℕ) → AreOffered to text (take i ps) ds (take i qs) → length ps ≤ i → length qs ≤ i → AreOffered to text ps ds qs
offered-whole to text ps ds qs i all few few' =
    subst (λ (l : List Port). AreOffered to text ps ds l) (take_all i qs few') (subst (λ (l : List Port). AreOffered to text l ds (take i qs)) (take_all i ps few) all)

-- ---- the Losts of one link more

losts-suc : (a : Addressed) (ps : List Port) (ds : List Bool) (i : ℕ) (p : Port) → i < length ps → p ≡ get_or ps i p
    → losts a (ends (take (suc i) ps)) (take (suc i) ds) ≡ losts a (ends (take i ps)) (take i ds) ++ lost_if (get_or ds i false) a p.end
losts-suc a [] ds i p within is = absurd omega (arith, within)
losts-suc a (q ∷ ps) [] zero p within is = refl
losts-suc a (q ∷ ps) (d ∷ ds) zero p within is = one d ∙ ap (λ (r : Port). lost_if d a r.end) (sym is)
  where
    one : (b : Bool) → lost_if b a q.end ++ losts a [] [] ≡ lost_if b a q.end
    one true = refl
    one false = refl
losts-suc a (q ∷ ps) [] (suc i) p within is = refl
losts-suc a (q ∷ ps) (true ∷ ds) (suc i) p within is = ap (λ (l : List TrailEvent). Lost (record { to = q.end; message = a.message }) ∷ l) (losts-suc a ps ds i p (omega (arith, within)) is)
losts-suc a (q ∷ ps) (false ∷ ds) (suc i) p within is = losts-suc a ps ds i p (omega (arith, within)) is

pub losts-more : (a : Addressed) (ps : List Port) (ds : List Bool) (i : ℕ) (p : Port) → i < length ps → p ≡ get_or ps i p
    → losts a (ends (take (i + 1) ps)) (take (i + 1) ds) ≡ losts a (ends (take i ps)) (take i ds) ++ lost_if (get_or ds i false) a p.end
losts-more a ps ds i p within is =
    let next : suc i ≡ i + 1 = omega arith in
    subst (λ (k : ℕ). losts a (ends (take k ps)) (take k ds) ≡ losts a (ends (take i ps)) (take i ds) ++ lost_if (get_or ds i false) a p.end) next (losts-suc a ps ds i p within is)

pub losts-whole : (a : Addressed) (ps : List Port) (ds : List Bool) (i : ℕ) → length ps ≤ i → losts a (ends (take i ps)) (take i ds) ≡ losts a (ends ps) ds
losts-whole a [] ds zero few = refl
losts-whole a [] ds (suc i) few = refl
losts-whole a (p ∷ ps) ds zero few = absurd omega (arith, few)
losts-whole a (p ∷ ps) [] (suc i) few = refl
losts-whole a (p ∷ ps) (d ∷ ds) (suc i) few = ap (λ (l : List TrailEvent). lost_if d a p.end ++ l) (losts-whole a ps ds i (omega (arith, few)))

-- ---- a front of what was to be noted

pub front-split : {A : Type 0} (base all new rest : List A) → new ++ rest ≡ base ++ all → length base ≤ length new → (count : ℕ) × (new ≡ base ++ take count all)
front-split [] all new rest same longer = (length new, sym (ap (take (length new)) (sym same) ∙ take-append_seam new rest))
front-split (b ∷ base) all [] rest same longer = absurd omega (arith, longer)
front-split {A} (b ∷ base) all (n ∷ new) rest same longer =
    let head : n ≡ b = cc in
    let tail : new ++ rest ≡ base ++ all = cc in
    let more = front-split base all new rest tail (omega (arith, longer)) in
    (more.0, ap (λ (x : A). x ∷ new) head ∙ ap (λ (l : List A). b ∷ l) more.1)
