-- A client that is told what another knows, knows it.
use Rattle.std.proofs.Common.{◌≡◌, ℕ, zero, suc, ◌+◌, ◌≤◌, ◌++◌, Bool, true, false, List, [], ◌∷◌, refl, ap, ◌∙◌, sym, Option, Some, None, subst, take, max, add-one}
use Rattle.std.specs.Prelude.{slice_get, option_map}
use Rattle.smart_service.specs.Services.{Meaning}
use Rattle.client_quorum.specs.Clients.{learning}
use Rattle.client_quorum.specs.declared.client.Client.{Client}
use Rattle.world_rules.specs.Premises.{is_among}
use Rattle.world_rules.specs.Knowing.{known_by, seen_by}
use Rattle.world_rules.specs.Worlds.{course_of, World, is_rogue, learns, learns_from, tells, begun, is_halted}
use Rattle.world_rules.specs.Plays.{line_played, rested, world_after, lines_told}
use Rattle.world_rules.specs.declared.line.Line.{Line}
use Rattle.world_rules.specs.declared.line.Line.TheVariants as lines
use Rattle.world_laws.specs.Promises.{HasTaught, world_at}
use Rattle.world_laws.proofs.Keeps.{set_there}
use Rattle.world_laws.proofs.Asking.{ClientsRight, right-after}
use Rattle.world_laws.proofs.Declared.{is_over}
use Rattle.world_laws.proofs.Grows.{world_after-append}
use Rattle.world_laws.proofs.Seen.{id_at, clients_know}
use Rattle.agreement_laws.proofs.Lists.{some_equal, either_by}
use Rattle.world_rules.specs.declared.line.Header.{Header}

-- a client learns

learnt : {S : Type 0} (w : World S) (place b to : ℕ) (found : Option Client) → slice_get w.clients to ≡ found → option_map (λ (c : Client). c.seen) found ≡ Some b → seen_by (learns w place to found) to ≡ Some (max b place)
learnt w place b to None at known = absurd (cc)
learnt w place b to (Some c) at known =
    let seen : c.seen ≡ b = some_equal c.seen b known in
    ap (option_map (λ (x : Client). x.seen)) (set_there w.clients to c (learning c place) at) ∙ ap (λ (k : ℕ). Some (max k place)) seen

not_rogue : (t : Bool) → t ≡ false → t ≡ true → ⊥
not_rogue t off on = let both : false ≡ true = sym off ∙ on in cc

taught_from : {S : Type 0} (w : World S) (from to a b : ℕ) (found : Option Client) → ClientsRight w → is_among w.rogue from ≡ false → slice_get w.clients from ≡ found → option_map (λ (c : Client). c.seen) found ≡ Some a
    → seen_by w to ≡ Some b → seen_by (learns_from w found to) to ≡ Some (max b a)
taught_from w from to a b None right honest at known other = absurd (cc)
taught_from {S = S} w from to a b (Some c) right honest at known other =
    let same : c.id ≡ from = id_at w from c at right in
    let seen : c.seen ≡ a = some_equal c.seen a known in
    either_by (λ (v : World S). seen_by v to ≡ Some (max b a)) (is_rogue w c.id) _ _
    (λ rogue. absurd (not_rogue (is_among w.rogue from) honest (subst (λ (k : ℕ). is_among w.rogue k ≡ true) same rogue)))
    (λ fine. learnt w c.seen b to (slice_get w.clients to) refl other ∙ ap (λ (k : ℕ). Some (max b k)) seen)

taught-tells : {S : Type 0} (w : World S) (from to a b : ℕ) → w.ending ≡ None → ClientsRight w → is_among w.rogue from ≡ false → seen_by w from ≡ Some a → seen_by w to ≡ Some b → seen_by (tells from to w) to ≡ Some (max b a)
unfolding tells
taught-tells {S = S} w from to a b on right honest known other =
    either_by (λ (v : World S). seen_by v to ≡ Some (max b a)) (is_halted w) w _ (λ over. absurd (is_over w.ending over on))
    (λ goes. taught_from w from to a b (slice_get w.clients from) right honest refl known other)

-- one line more

pub take-next : (ls : List Line) (k : ℕ) (line : Line) → slice_get ls k ≡ Some line → take (suc k) ls ≡ take k ls ++ line ∷ []
take-next [] k line at = absurd (cc)
take-next (l ∷ ls) zero line at = ap (λ (x : Line). x ∷ []) (some_equal l line at)
take-next (l ∷ ls) (suc k) line at = ap (λ (xs : List Line). l ∷ xs) (take-next ls k line at)

played-tell : {S : Type 0} (m : Meaning S) (g : Header) (ls : List Line) (k from to : ℕ) → slice_get ls k ≡ Some (lines.Tell from to)
    → world_after (course_of m) (begun m g) (take (suc k) ls) ≡ rested (tells from to (world_at m g ls k))
unfolding line_played
played-tell m g ls k from to at =
    ap (λ (xs : List Line). world_after (course_of m) (begun m g) xs) (take-next ls k (lines.Tell from to) at) ∙ world_after-append (course_of m) (begun m g) (take k ls) (lines.Tell from to ∷ [])

taught-next : {S : Type 0} (m : Meaning S) (g : Header) (ls : List Line) (k from to : ℕ) → slice_get ls k ≡ Some (lines.Tell from to) → (world_at m g ls k).ending ≡ None
    → is_among (world_at m g ls k).rogue from ≡ false → from ≤ 1024 → to ≤ 1024
    → known_by to (lines_told (course_of m) (begun m g) (take (suc k) ls))
    ≡ max (known_by to (lines_told (course_of m) (begun m g) (take k ls))) (known_by from (lines_told (course_of m) (begun m g) (take k ls)))
taught-next {S = S} m g ls k from to at on honest low below =
    let w : World S = world_at m g ls k in
    let a : ℕ = known_by from (lines_told (course_of m) (begun m g) (take k ls)) in
    let b : ℕ = known_by to (lines_told (course_of m) (begun m g) (take k ls)) in
    let c : ℕ = known_by to (lines_told (course_of m) (begun m g) (take (suc k) ls)) in
    let after : seen_by (world_after (course_of m) (begun m g) (take (suc k) ls)) to ≡ Some c = clients_know m (course_of m) g (take (suc k) ls) to below in
    let now : seen_by (tells from to w) to ≡ Some (max b a) =
    taught-tells w from to a b on (right-after m (course_of m) g (take k ls)) honest (clients_know m (course_of m) g (take k ls) from low) (clients_know m (course_of m) g (take k ls) to below) in
    some_equal c (max b a) (sym after ∙ (ap (λ (v : World S). seen_by v to) (played-tell m g ls k from to at) ∙ now))

-- each line has that effect
pub has-taught : {S : Type 0} (m : Meaning S) (g : Header) (ls : List Line) (k : ℕ) (line : Line) → slice_get ls k ≡ Some line
    → HasTaught (world_at m g ls k) (lines_told (course_of m) (begun m g) (take k ls)) (lines_told (course_of m) (begun m g) (take (k + 1) ls)) line
has-taught m g ls k (lines.Tell from to) at = λ on honest low below. rw add-one (taught-next m g ls k from to at on honest low below)
has-taught m g ls k line at = tt
