-- Nodes that run, and those that are told to be absent.
use Rattle.std.proofs.Common.{◌≡◌, ℕ, Bool, true, false, Some, None, refl, ap, sym, ◌∙◌, cond}
use Rattle.std.specs.Prelude.{slice_get}
use Rattle.world_rules.specs.Worlds.{Host, World, telling, is_up, at_index, at_host}
use Rattle.world_rules.specs.declared.line.OutLine.TheVariants as outs

-- no node stands past the end
pub none_at : {S : Type 0} (f : ℕ → World S → World S) (i : ℕ) (w : World S) → slice_get w.hosts i ≡ None → at_index f w None ≡ at_host f i w (slice_get w.hosts i)
none_at f i w none = rw none refl

by_up : {S : Type 0} (f : ℕ → World S → World S) (i : ℕ) (w : World S) (h : Host S) (up : Bool) → is_up w h ≡ up → at_host f i w (Some h) ≡ cond up (f i w) (telling w (outs.Absent h.node.id))
by_up f i w h up e = ap (λ b. cond b (f i w) (telling w (outs.Absent h.node.id))) e

-- a node that runs
pub up_at : {S : Type 0} (f : ℕ → World S → World S) (i : ℕ) (w : World S) (h : Host S) → slice_get w.hosts i ≡ Some h → is_up w h ≡ true → at_index f w (Some i) ≡ at_host f i w (slice_get w.hosts i)
up_at f i w h there up = sym (ap (λ found. at_host f i w found) there ∙ by_up f i w h true up)

-- a node that does not run is told to be absent
pub absent_at : {S : Type 0} (f : ℕ → World S → World S) (i : ℕ) (w x : World S) (h : Host S) (id : ℕ) → slice_get w.hosts i ≡ Some h → is_up w h ≡ false → id ≡ h.node.id → x ≡ telling w (outs.Absent id)
    → at_index f x None ≡ at_host f i w (slice_get w.hosts i)
absent_at {S = S} f i w x h id there down id_is is =
    is ∙ (ap (λ n. telling w (outs.Absent n)) id_is ∙ sym (ap (λ found. at_host f i w found) there ∙ by_up f i w h false down))
