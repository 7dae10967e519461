-- Statements are kept one after the other.
use Rattle.std.proofs.Common.{◌≡◌, ℕ, true, false, List, [], ◌∷◌, ◌++◌, filter, refl, ap, sym, ◌∙◌, append_assoc}
use Rattle.std.specs.List.{flat_map}
use Rattle.std.proofs.lemmas.List.Elements.{filter-append}
use Rattle.std.proofs.lemmas.List.Concat.{flat_map-append}
use Rattle.smart_messages.specs.declared.message.Sealed.{Sealed}
use Rattle.trail.specs.declared.event.Addressed.{Addressed}
use Rattle.trail.specs.declared.event.TrailEvent.{TrailEvent}
use Rattle.trail_rules.specs.Replays.{sent_by, sends}
use Rattle.audit_rules.specs.Audits.{is_of, is_by}

pub own_is : (member : ℕ) (s : Sealed) → is_of member s.who ≡ true → filter (is_by member) (s ∷ []) ≡ s ∷ []
own_is member s is = rw is refl

pub other_is : (member : ℕ) (s : Sealed) → is_of member s.who ≡ false → filter (is_by member) (s ∷ []) ≡ []
other_is member s is = rw is refl

-- those kept of one more, and of the rest
pub kept-more : (member : ℕ) (x : Sealed) (rest all old new total : List Sealed) → new ≡ old ++ filter (is_by member) (x ∷ []) → all ≡ x ∷ rest
    → old ++ filter (is_by member) all ≡ total → new ++ filter (is_by member) rest ≡ total
kept-more member x rest all old new total more is so_far =
    let e : old ++ filter (is_by member) (x ∷ rest) ≡ total = rw is at so_far in
    rw more (append_assoc old (filter (is_by member) (x ∷ [])) (filter (is_by member) rest) ∙ (ap (λ cs. old ++ cs) (sym (filter-append (is_by member) (x ∷ []) rest)) ∙ e))

-- those made by one more event, and by the rest
pub sent-more : (f : Addressed → List Sealed) (x : TrailEvent) (rest all : List TrailEvent) (old new total : List Sealed) → new ≡ old ++ flat_map f (sent_by x) → all ≡ x ∷ rest
    → old ++ flat_map f (sends all) ≡ total → new ++ flat_map f (sends rest) ≡ total
sent-more f x rest all old new total more is so_far =
    let e : old ++ flat_map f (sends (x ∷ rest)) ≡ total = rw is at so_far in
    rw more (append_assoc old (flat_map f (sent_by x)) (flat_map f (sends rest)) ∙ (ap (λ cs. old ++ cs) (sym (flat_map-append f (sent_by x) (sends rest))) ∙ e))

-- those made by one more trail, and by the rest
pub part-more : {A : Type 0} (f : A → List Sealed) (x : A) (rest all : List A) (old new total : List Sealed) → new ≡ old ++ f x → all ≡ x ∷ rest
    → old ++ flat_map f all ≡ total → new ++ flat_map f rest ≡ total
part-more f x rest all old new total more is so_far =
    let e : old ++ flat_map f (x ∷ rest) ≡ total = rw is at so_far in
    rw more (append_assoc old (f x) (flat_map f rest) ∙ e)
