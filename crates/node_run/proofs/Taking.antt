-- What the rounds of a life took, if it ended well.
use Rattle.std.proofs.Common.{◌≡◌, ◌∙◌, ◌≤◌, ◌+◌, ◌-◌, ◌&&◌, ℕ, Bool, true, false, List, ◌++◌, length, drop, refl, sym, ap, subst, arith, length-drop, take-append-drop}
use Rattle.std.proofs.lemmas.List.{length-map}
use Rattle.log_lane.specs.declared.ends.LaneEnd.{LaneEnd}
use Rattle.smart_service.specs.Services.{Meaning}
use Rattle.node_rules.specs.Nodes.{Node}
use Rattle.trail.specs.declared.event.TrailEvent.{TrailEvent}
use Rattle.trail.specs.declared.event.TrailEvent.TheVariants.{End}
use Rattle.trail_rules.specs.Replays.{core_steps, replay}
use Rattle.trail_rules.proofs.Grows.{replay-more}
use Rattle.node_played.specs.Lives.{made_texts}
use Rattle.node_seat.specs.Seats.{IsFirst}
use Rattle.node_endings.proofs.Joined.{all_taken}
use Rattle.node_endings.specs.Loops.{is_done}
use Rattle.node_endings.specs.Settled.{EndsSettled}
use Rattle.node_endings.specs.declared.ending.Ends.{Ends}
use Rattle.node_endings.specs.declared.ending.LoopEnd.TheVariants as loops
use Rattle.node_run.specs.Statuses.{is_whole, status_of}
use Rattle.node_run.specs.declared.status.NodeStatus.TheVariants as ends
use Rattle.node_run.proofs.Causes.{both-true, done-is, ok-cause}

-- the log has done all that was due
logged-done : (all : Ends) → is_whole all ≡ true → all.logged ≡ loops.Done
logged-done all whole =
    let checked = both-true (is_done all.received && is_done all.delivered && is_done all.sent && is_done all.logged) (is_done all.checked) whole in
    done-is all.logged (both-true (is_done all.received && is_done all.delivered && is_done all.sent) (is_done all.logged) checked.0).1

-- a number of entries that are said to be stored, by those that were taken
pub within-taken : (number restored : ℕ) (lane : LaneEnd) (taken : List (List ℕ)) → number ≤ restored + lane.firm → lane.firm ≤ lane.taken → lane.taken ≡ length taken → number ≤ restored + length taken
within-taken number restored lane taken told order counts = omega (arith, told, order, counts)

module _ {S : Type 0} (m : Meaning S) (opening : Node S) (trail : List TrailEvent) (restored : ℕ) (taken : List (List ℕ)) (lane : LaneEnd)
    (firm : (replay (core_steps m) opening trail).firm ≤ restored + lane.firm) (put : lane.put ≡ length (replay (core_steps m) opening trail).entries - restored)
    (order : (lane.firm ≤ lane.taken) × (lane.taken ≤ lane.put)) (counts : lane.taken ≡ length taken) (front : IsFirst taken (made_texts restored (replay (core_steps m) opening trail).entries)) where
  -- all entries of its replay are firm
  all-firm : EndsSettled m opening trail → (replay (core_steps m) opening trail).firm ≡ length (replay (core_steps m) opening trail).entries
  all-firm e =
      let same : replay (core_steps m) opening trail ≡ replay (core_steps m) opening e.before = ap (replay (core_steps m) opening) e.is ∙ replay-more (core_steps m) opening e.before End in
      subst (λ (n : Node S). n.firm ≡ length n.entries) (sym same) e.settled.all_firm

  made-length : length (made_texts restored (replay (core_steps m) opening trail).entries) ≡ length (replay (core_steps m) opening trail).entries - restored
  made-length = simp (length-map, length-drop) refl

  took-all : EndsSettled m opening trail → taken ≡ made_texts restored (replay (core_steps m) opening trail).entries
  took-all e =
      let made = made_texts restored (replay (core_steps m) opening trail).entries in
      let rest = drop (length taken) made in
      let parts : made ≡ taken ++ rest = sym (take-append-drop (length taken) made) ∙ ap (λ (l : List (List ℕ)). l ++ rest) front in
      sym (all_taken taken rest made parts (omega (arith, firm, put, order.0, order.1, counts, all-firm e, made-length)))

  -- a life that ended well
  module _ (all : Ends) (faulty failed settled went : Bool) (well : all.logged ≡ loops.Done → faulty ≡ false) (closed : settled ≡ true → EndsSettled m opening trail) where
    pub whole-rounds : status_of all failed (settled && went) ≡ ends.Ok → (faulty ≡ false) × (taken ≡ made_texts restored (replay (core_steps m) opening trail).entries)
    whole-rounds is =
        let ended = ok-cause all failed (settled && went) is in
        (well (logged-done all ended.1), took-all (closed (both-true settled went ended.0).0))
