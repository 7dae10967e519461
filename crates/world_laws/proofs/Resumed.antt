-- A crashed member's node runs after a line that restarts it.
use Rattle.std.proofs.Common.{◌≡◌, ℕ, suc, ◌+◌, ◌||◌, Bool, true, false, List, [], ◌∷◌, ap, ◌∙◌, sym, Option, Some, None, subst, take, add-one}
use Rattle.std.specs.Prelude.{slice_get}
use Rattle.smart_base.specs.Lists.{Each}
use Rattle.smart_service.specs.Services.{Meaning}
use Rattle.node_rules.specs.Reopening.{damage_of}
use Rattle.world_rules.specs.Secrets.{group_secret}
use Rattle.world_rules.specs.Worlds.{course_of, Host, World, is_gone, is_halted, parts_held, host_resumed, resumes_from, host_resumes, resumes, restart_at, restart_member, at_index, begun}
use Rattle.world_rules.specs.Plays.{line_played, rested, world_after}
use Rattle.world_rules.specs.declared.line.Header.{Header}
use Rattle.world_rules.specs.declared.line.Line.{Line}
use Rattle.world_rules.specs.declared.line.Line.TheVariants as lines
use Rattle.world_laws.specs.Promises.{Recovers, HasRestarted, world_at}
use Rattle.world_laws.proofs.Lists.{each_get}
use Rattle.world_laws.proofs.Keeps.{node_resumed, set_there}
use Rattle.world_laws.proofs.Declared.{is_over}
use Rattle.world_laws.proofs.Grows.{world_after-append}
use Rattle.world_laws.proofs.Teaching.{take-next}
use Rattle.agreement_laws.proofs.Lists.{either_by}

unlike : (t : Bool) → t ≡ false → t ≡ true → ⊥
unlike t off on = let both : false ≡ true = sym off ∙ on in cc

neither : (a b : Bool) → a ≡ false → b ≡ false → (a || b) ≡ false
neither a b first second = ap (λ (t : Bool). t || b) first ∙ second

-- a world with this host at an index
abbrev HasHost : {S : Type 0} → ℕ → Host S → World S → Type 0
HasHost i h w = slice_get w.hosts i ≡ Some h

restarted-at : {S : Type 0} (m : Meaning S) (w : World S) (i : ℕ) (h : Host S) → slice_get w.hosts i ≡ Some h → w.ending ≡ None → h.up ≡ false → is_gone w h.node.id ≡ false
    → damage_of m group_secret w.view (parts_held h) ≡ None → HasHost i (host_resumed h (node_resumed (course_of m) w h)) (restart_at (course_of m) i w (Some h))
unfolding resumes
restarted-at {S = S} m w i h at on down here whole =
    let again : Host S = host_resumed h (node_resumed (course_of m) w h) in
    either_by (HasHost i again) (is_gone w h.node.id) _ _ (λ gone. absurd (unlike (is_gone w h.node.id) here gone))
    (λ stays. either_by (HasHost i again) h.up _ _ (λ up. absurd (unlike h.up down up))
    (λ off. either_by (HasHost i again) (is_halted w) w _ (λ over. absurd (is_over w.ending over on))
    (λ goes. subst (λ (found : Option (Host S)). HasHost i again (host_resumes (course_of m) i w found)) (sym at)
    (either_by (HasHost i again) (h.up || is_gone w h.node.id) w _ (λ idle. absurd (unlike (h.up || is_gone w h.node.id) (neither h.up (is_gone w h.node.id) down here) idle))
    (λ crashed. subst (λ (damage : Option ℕ). HasHost i again (resumes_from (course_of m) i w h (parts_held h) damage)) (sym whole) (set_there w.hosts i h again at))))))

played-restart : {S : Type 0} (m : Meaning S) (g : Header) (ls : List Line) (k member : ℕ) → slice_get ls k ≡ Some (lines.Restart member)
    → world_at m g ls (suc k) ≡ rested (restart_member (course_of m) member (world_at m g ls k))
unfolding line_played
played-restart m g ls k member at =
    ap (λ (xs : List Line). world_after (course_of m) (begun m g) xs) (take-next ls k (lines.Restart member) at) ∙ world_after-append (course_of m) (begun m g) (take k ls) (lines.Restart member ∷ [])

pub has-restarted : {S : Type 0} (m : Meaning S) (g : Header) (ls : List Line) (k member : ℕ) → slice_get ls k ≡ Some (lines.Restart member) → Each (Recovers m (world_at m g ls k)) (world_at m g ls k).hosts
    → HasRestarted m (world_at m g ls k) (world_at m g ls (k + 1)) member
has-restarted {S = S} m g ls k member line recovers = λ on i h index at down here.
    let w : World S = world_at m g ls k in
    let whole = (each_get (Recovers m w) w.hosts i h recovers at).restarts down in
    let place = ap (λ (found : Option ℕ). slice_get (at_index (λ (j : ℕ) (v : World S). restart_at (course_of m) j v (slice_get v.hosts j)) w found).hosts i) index in
    let host = ap (λ (found : Option (Host S)). slice_get (restart_at (course_of m) i w found).hosts i) at in
    rw add-one (ap (λ (v : World S). slice_get v.hosts i) (played-restart m g ls k member line) ∙ (place ∙ (host ∙ restarted-at m w i h at on down here whole)))
