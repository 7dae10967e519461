-- How a life ended whose loops are joined, by what they told and by what its seat had then.
use Rattle.std.proofs.Common.{◌≡◌, ◌≤◌, ◌+◌, ◌-◌, ◌^◌, ◌==◌, ◌&&◌, ℕ, min, Bool, true, false, not, List, [], sym, ap, subst}
use Rattle.std.proofs.lemmas.Bool.{eqb-true}
use Rattle.std.specs.Io.KnownBytes.{Appends, IsAtEnd}
use Rattle.group_links.specs.Link.{link_put, link_taken}
use Rattle.group_links.specs.declared.ends.LinkEnd.{LinkEnd}
use Rattle.trail.specs.Trails.{trail_text}
use Rattle.trail.specs.declared.event.TrailEvent.{TrailEvent}
use Rattle.trail_rules.specs.Replays.{core_steps, replay, arrivals, needed, Released}
use Rattle.node_played.specs.Lives.{IsEndLast}
use Rattle.node_seat.specs.Seats.{payloads, IsFirst, HasWrittenFirst}
use Rattle.node_ends.specs.Intakes.{HasTakenIn, Reads, IsDone, IsCutOff as is-cut-off}
use Rattle.node_ends.specs.Outlets.{Writes}
use Rattle.node_ends.specs.declared.intake.Intake.{Intake}
use Rattle.node_ends.specs.declared.outlet.Outlet.{Outlet}
use Rattle.node_endings.specs.Loops.{is_done, gave_up, loses}
use Rattle.node_endings.specs.Settled.{EndsSettled}
use Rattle.node_endings.specs.declared.ending.Ends.{Ends}
use Rattle.node_endings.specs.declared.ending.LoopEnd.TheVariants as loops
use Rattle.node_run.specs.Lives.{Life, Lived, LifeEnd, EndsBy, IsWhole, IsCutOff}
use Rattle.node_run.specs.Statuses.{all_went, is_whole, status_of}
use Rattle.node_run.specs.declared.status.NodeStatus.{NodeStatus}
use Rattle.node_run.specs.declared.status.NodeStatus.TheVariants as ends
use Rattle.node_run.proofs.Causes.{both-true, done-goes-on, done-is}
use Rattle.node_run.proofs.Living.{cut-off, ends_by, lived, lived-trail, whole}

module _ {S : Type 0} (life : Life S) (i0 i1 : Intake) (o0 o1 : Outlet) (trail : List TrailEvent) (all : Ends) (fresh : HasTakenIn [] i0)
    (reads : Reads life.left_before life.left_after (loses all.received) i0 i1) (came : IsFirst (arrivals trail) (link_put i1.link)) (none : link_taken o0.link ≡ [])
    (writes : Writes life.written_before life.written_after (not (gave_up all.sent)) o0 o1) (left : IsFirst (link_taken o1.link) (payloads trail))
    (released : Released (core_steps life.meaning) life.opening trail) (needs : needed (core_steps life.meaning) life.opening trail ≤ life.firm)
    (firm : (replay (core_steps life.meaning) life.opening trail).firm ≤ life.firm) (text : HasWrittenFirst life.told_before life.told_after (trail_text life.head life.entries trail))
    (end-last : IsEndLast trail) where
  -- all that holds of the life
  abbrev the-life : Lived life
  the-life = lived life i0 i1 o0 o1 trail (loses all.received) (not (gave_up all.sent)) fresh reads came none writes left released needs firm text end-last

  module _ (over failed settled : Bool) (arriving leaving : LinkEnd) (at-end : all.received ≡ loops.Done → IsAtEnd life.left_after × IsDone i1)
      (form : (frame : ℕ) → all.received ≡ loops.Form frame → (frame ≡ min (i1.count + 1) (2 ^ 64 - 1)) × is-cut-off life.left_after i1)
      (closed : settled ≡ true → (over ≡ false) × EndsSettled life.meaning life.opening trail)
      (all-came : over ≡ false → arriving.taken ≡ arriving.put → arrivals trail ≡ link_put i1.link)
      (all-left : over ≡ false → leaving.taken ≡ leaving.put → payloads trail ≡ link_taken o1.link)
      (all-text : over ≡ false → Appends life.told_before life.told_after (trail_text life.head life.entries trail)) where
    is-whole : (settled && all_went arriving leaving) ≡ true → is_whole all ≡ true → IsWhole the-life
    is-whole e w =
        let s = both-true settled (all_went arriving leaving) e in
        let went = both-true (arriving.taken == arriving.put) (leaving.taken == leaving.put) s.1 in
        let checked = both-true (is_done all.received && is_done all.delivered && is_done all.sent && is_done all.logged) (is_done all.checked) w in
        let logged = both-true (is_done all.received && is_done all.delivered && is_done all.sent) (is_done all.logged) checked.0 in
        let sent = both-true (is_done all.received && is_done all.delivered) (is_done all.sent) logged.0 in
        let received = both-true (is_done all.received) (is_done all.delivered) sent.0 in
        let over-read : all.received ≡ loops.Done = done-is all.received received.0 in
        let read = at-end over-read in
        let done = closed s.0 in
        whole life i0 i1 o0 o1 trail (loses all.received) (not (gave_up all.sent)) fresh reads came none writes left released needs firm text end-last (ap loses over-read) (done-goes-on all.sent sent.1) read.0 read.1
        (all-came done.0 (eqb-true arriving.taken arriving.put went.0)) (all-left done.0 (eqb-true leaving.taken leaving.put went.1)) done.1 (all-text done.0)

    is-cut : (frame : ℕ) → all.received ≡ loops.Form frame → IsCutOff the-life frame
    is-cut frame is =
        cut-off life i0 i1 o0 o1 trail (loses all.received) (not (gave_up all.sent)) fresh reads came none writes left released needs firm text end-last (ap loses is) frame (form frame is).0 (form frame is).1

    -- the life, and what is known of its trail
    pub life-end : (Known : List TrailEvent → Type 0) → Known trail → (end : LifeEnd life (status_of all failed (settled && all_went arriving leaving))) × Known end.lived.trail
    life-end Known known = (
      record { lived = the-life; ends = ends_by the-life all failed (settled && all_went arriving leaving) is-whole is-cut },
      subst Known
          (sym (lived-trail life i0 i1 o0 o1 trail (loses all.received) (not (gave_up all.sent)) fresh reads came none writes left released needs firm text end-last)) known,
    )

-- no life ends for an entry of its store
pub not-stored : {S : Type 0} (life : Life S) (status : NodeStatus) (entry : ℕ) → LifeEnd life status → status ≡ ends.Store entry → ⊥
not-stored life status entry l is = subst (EndsBy l.lived) is l.ends
