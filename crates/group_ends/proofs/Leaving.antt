-- What a trail and links keep once a message has left, at each end of the call.
use Rattle.std.proofs.Common.{◌≡◌, ◌∙◌, ℕ, Bool, ◌⊎◌, inl, inr, List, [], ◌∷◌, ◌++◌, length, take, Result, Ok, Err, OnOk, OnErr, IsErrAnd, arith, sym, ap, subst, append_assoc}
use Rattle.std.proofs.lemmas.List.{take_all}
use Rattle.smart_base.specs.Lists.{Each}
use Rattle.smart_messages.specs.Messages.{spelling}
use Rattle.node_rules.specs.declared.node.Target.{Target}
use Rattle.trail.specs.declared.event.Addressed.{Addressed}
use Rattle.trail.specs.declared.event.TrailEvent.{TrailEvent}
use Rattle.trail.specs.declared.event.TrailEvent.TheVariants.{Send}
use Rattle.group_ends.specs.Carried.{DropsLate}
use Rattle.group_ends.specs.Ports.{ends, port_links, AreApart, AreOffered, AreWithin, losts, IsPosted, IsSpread, IsSpreadFirst, Carries, CarriesFirst}
use Rattle.group_ends.specs.declared.port.Port.{Port}
use Rattle.group_ends.proofs.Carrying.{IsLostOf, losts-only, losts-none, losts-front, take-only, matches-losts}
use Rattle.group_ends.proofs.Dropping.{late-more, front-late}
use Rattle.group_ends.proofs.Offering.{offered-ends, within-ends, carries-all, carries-first, carries-part, matches-front, may-lose, same-within}

-- the Losts of a message, as a call gives them for links that were offered it
pub losts-of : (a : Addressed) (ps qs : List Port) (ds flags : List Bool) (others : List Port) (lost : List TrailEvent) → ends qs ≡ ends ps → others ≡ qs → flags ≡ ds → lost ≡ losts a (ends others) flags
    → lost ≡ losts a (ends ps) ds
losts-of a ps qs ds flags others lost kept were are all =
    all ∙ ap (λ (os : List Port). losts a (ends os) flags) were ∙ ap (λ (t : List Target). losts a t flags) kept ∙ ap (λ (fs : List Bool). losts a (ends ps) fs) are

-- ---- what a call's answer says

pub from-err : {A E P : Type 0} (r : Result A E) (e : E) → r ≡ Err e → OnErr r P → P
from-err {A} {E} {P} r e is fact = subst (λ (x : Result A E). OnErr x P) is fact

pub on-ok : {A E P Q : Type 0} (r : Result A E) → OnOk r P → (P → Q) → OnOk r Q
on-ok (Ok done) fact more = more fact
on-ok (Err fault) fact more = tt

pub more-err : {A E P Q : Type 0} (r : Result A E) → OnErr r P → (P → Q) → OnErr r Q
more-err (Ok done) fact more = tt
more-err (Err fault) fact more = more fact

pub on-err : {A E P : Type 0} (r : Result A E) → P → OnErr r P
on-err (Ok done) fact = tt
on-err (Err fault) fact = fact

-- the fault that a call hands on
pub same-fault : {T U F : Type 0} (r : Result T F) (s : Result U F) (given fault : F) → r ≡ Err given → IsErrAnd s (λ x. x ≡ given) → s ≡ Err fault → r ≡ Err fault
same-fault r (Ok x) given fault was gives is = absurd gives
same-fault r (Err x) given fault was gives is = cc

-- ---- the trail and the links

module _ (es : List TrailEvent) (a : Addressed) (ps : List Port) (had : Each (Carries es) ps) (late : DropsLate (ends ps) [] es) where
  abbrev sent : List TrailEvent
  sent = es ++ Send a ∷ []

  sent-late : DropsLate (ends ps) [] sent
  sent-late = late-more (ends ps) es (Send a) late tt

  module _ (new : List TrailEvent) (is : new ≡ sent) where
    pub sent-posted : IsPosted a (ends ps) es new
    sent-posted = record { dropped = []; after_is = is ∙ ap (λ (l : List TrailEvent). es ++ Send a ∷ l) (sym (losts-none a (ends ps))) }

    pub sent-drops : DropsLate (ends ps) [] new
    sent-drops = subst (DropsLate (ends ps) []) (sym is) sent-late

    -- nothing was put yet
    pub sent-first : Each (CarriesFirst new) ps
    sent-first = subst (λ xs. Each (CarriesFirst xs) ps) (sym is) (carries-part es a ps ps (same-within a.to (spelling a.message) ps) had)

    -- some links have the message
    pub part-first : (qs : List Port) → AreWithin a.to (spelling a.message) ps qs → Each (CarriesFirst new) qs
    part-first qs part = subst (λ xs. Each (CarriesFirst xs) qs) (sym is) (carries-part es a ps qs part had)

  module _ (ds : List Bool) (qs : List Port) (all : AreOffered a.to (spelling a.message) ps ds qs) (apart : AreApart (ends ps)) where
    abbrev lost : List TrailEvent
    lost = losts a (ends ps) ds

    only : Each (IsLostOf a) lost
    only = losts-only a (ends ps) ds

    -- some Losts are told
    module _ (new : List TrailEvent) (count : ℕ) (is : new ≡ sent ++ take count lost) where
      flat : new ≡ es ++ Send a ∷ take count lost
      flat = is ∙ append_assoc es (Send a ∷ []) (take count lost)

      pub front-posted : IsPosted a (ends ps) es new
      front-posted =
          let front = losts-front a (ends ps) ds count in record { dropped = take front.0 ds; after_is = flat ∙ ap (λ (l : List TrailEvent). es ++ Send a ∷ l) front.1 }

      pub front-drops : DropsLate (ends ps) [] new
      front-drops = subst (DropsLate (ends ps) []) (sym is) (front-late es a (ends ps) ds count apart (may-lose es a (spelling a.message) ps ds qs all had) sent-late)

      pub front-first : Each (CarriesFirst new) qs
      front-first =
          subst (λ xs. Each (CarriesFirst xs) qs) (sym flat)
          (carries-first es a (take count lost) ps ds qs (take-only a count lost only) all had (matches-front a lost count (ends ps) ds only (matches-losts a (ends ps) ds apart)))

    -- all are told
    module _ (new : List TrailEvent) (is : new ≡ sent ++ lost) where
      whole : new ≡ es ++ Send a ∷ lost
      whole = is ∙ append_assoc es (Send a ∷ []) lost

      pub all-carries : Each (Carries new) qs
      all-carries = subst (λ xs. Each (Carries xs) qs) (sym whole) (carries-all es a lost ps ds qs only all had (matches-losts a (ends ps) ds apart))

-- ---- the whole call, by the answer of its last part

-- what is kept of the trail and the links in any case
pub record Left (es : List TrailEvent) (a : Addressed) (ps qs : List Port) (new : List TrailEvent) : Type 0 where
  pub kept : (ends qs ≡ ends ps) × (port_links qs ≡ port_links ps)
  pub posted : IsPosted a (ends ps) es new
  pub first : Each (CarriesFirst new) qs
  pub drops : DropsLate (ends ps) [] new

module _ (es : List TrailEvent) (a : Addressed) (ps : List Port) (had : Each (Carries es) ps) (late : DropsLate (ends ps) [] es) (apart : AreApart (ends ps)) (before : List TrailEvent) (is : before ≡ es ++ Send a ∷ []) (qs : List Port) (new : List TrailEvent) where
  pub carried-all : IsSpread a ps qs before new → Each (Carries new) qs
  carried-all s = all-carries es a ps had late s.dropped qs s.offered apart new (s.after_is ∙ ap (λ (l : List TrailEvent). l ++ losts a (ends ps) s.dropped) is)

  some-left : IsSpreadFirst a ps qs before new → Left es a ps qs new
  some-left s =
      let front : new ≡ (es ++ Send a ∷ []) ++ take s.count (losts a (ends ps) s.dropped) = s.after_is ∙ ap (λ (l : List TrailEvent). l ++ take s.count (losts a (ends ps) s.dropped)) is in
      record {
        kept = offered-ends a.to (spelling a.message) ps s.dropped qs s.offered;
        posted = front-posted es a ps had late s.dropped qs s.offered apart new s.count front;
        first = front-first es a ps had late s.dropped qs s.offered apart new s.count front;
        drops = front-drops es a ps had late s.dropped qs s.offered apart new s.count front;
      }

  all-left : IsSpread a ps qs before new → Left es a ps qs new
  all-left s =
      let lost = losts a (ends ps) s.dropped in
      some-left
      (record { dropped = s.dropped; offered = s.offered; count = length lost; after_is = s.after_is ∙ ap (λ (l : List TrailEvent). before ++ l) (sym (take_all (length lost) lost (omega arith))) })

  first-left : (AreWithin a.to (spelling a.message) ps qs × (new ≡ before)) ⊎ IsSpreadFirst a ps qs before new → Left es a ps qs new
  first-left (inl part) =
      record {
        kept = within-ends a.to (spelling a.message) ps qs part.0;
        posted = sent-posted es a ps had late new (part.1 ∙ is);
        first = part-first es a ps had late new (part.1 ∙ is) qs part.0;
        drops = sent-drops es a ps had late new (part.1 ∙ is);
      }
  first-left (inr some) = some-left some

  pub left : {A E : Type 0} (r : Result A E) → OnOk r (IsSpread a ps qs before new) → OnErr r ((AreWithin a.to (spelling a.message) ps qs × (new ≡ before)) ⊎ IsSpreadFirst a ps qs before new) → Left es a ps qs new
  left (Ok done) ok err = all-left ok
  left (Err fault) ok err = first-left err
