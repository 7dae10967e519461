-- Messages are added one after the other.
use Rattle.std.proofs.Common.{◌≡◌, ℕ, List, [], ◌∷◌, ◌++◌, map, ap, sym, ◌∙◌, append_assoc}
use Rattle.std.specs.List.{flat_map}
use Rattle.std.proofs.lemmas.List.{map-append}
use Rattle.audit_rules.specs.Quiets.{Post}
use Rattle.trail.specs.declared.event.TrailEvent.{TrailEvent}
use Rattle.trail_rules.specs.Replays.{came_by, arrivals}
use Rattle.trail_posts.specs.Counting.{arrived_at}

-- those of one more, and of the rest
pub part-more : {A : Type 0} (f : A → List Post) (x : A) (rest all : List A) (old new total : List Post) → new ≡ old ++ f x → all ≡ x ∷ rest
    → old ++ flat_map f all ≡ total → new ++ flat_map f rest ≡ total
part-more f x rest all old new total more is so_far =
    let e : old ++ flat_map f (x ∷ rest) ≡ total = rw is at so_far in
    rw more (append_assoc old (f x) (flat_map f rest) ∙ e)

-- one more, and the rest
pub one-more : {A : Type 0} (f : A → Post) (x : A) (rest all : List A) (old new total : List Post) → new ≡ old ++ f x ∷ [] → all ≡ x ∷ rest
    → old ++ map f all ≡ total → new ++ map f rest ≡ total
one-more f x rest all old new total more is so_far =
    let e : old ++ map f (x ∷ rest) ≡ total = rw is at so_far in
    rw more (append_assoc old (f x ∷ []) (map f rest) ∙ e)

-- what came by one more event, and by the rest
pub came-more : (member : ℕ) (x : TrailEvent) (rest all : List TrailEvent) (old new total : List Post) → new ≡ old ++ arrived_at member x → all ≡ x ∷ rest
    → old ++ map (λ (bytes : List ℕ). record { to = member; text = bytes }) (arrivals all) ≡ total
    → new ++ map (λ (bytes : List ℕ). record { to = member; text = bytes }) (arrivals rest) ≡ total
came-more member x rest all old new total more is so_far =
    let f : List ℕ → Post = λ (bytes : List ℕ). record { to = member; text = bytes } in
    let e : old ++ map f (arrivals (x ∷ rest)) ≡ total = rw is at so_far in
    rw more (append_assoc old (arrived_at member x) (map f (arrivals rest)) ∙ (ap (λ (ps : List Post). old ++ ps) (sym (map-append f (came_by x) (arrivals rest))) ∙ e))
