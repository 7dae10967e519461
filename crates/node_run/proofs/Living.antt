-- The life of a node, by what its loops and its end tell.
use Rattle.std.proofs.Common.{◌≡◌, ◌∙◌, ◌≤◌, ◌<◌, ◌+◌, ◌^◌, ◌-◌, ◌&&◌, ◌⊎◌, inl, inr, ℕ, min, Bool, true, false, List, [], ◌∷◌, ◌++◌, length, is_some, Option, Some, None, option_to_list, refl, sym, ap, subst, arith, append_assoc, append-nil, if◌then◌else◌}
use Rattle.std.specs.List.{flat_map}
use Rattle.std.specs.Io.KnownBytes.{Appends, Consumes, IsAtEnd}
use Rattle.std.proofs.KnownBytes.{Appends-nil}
use Rattle.frame_stream.specs.Frames.{framed, too_long}
use Rattle.group_links.specs.Link.{link_put, link_taken}
use Rattle.trail.specs.Trails.{trail_text}
use Rattle.trail.specs.declared.event.TrailEvent.{TrailEvent}
use Rattle.trail.specs.declared.event.TrailEvent.TheVariants.{End}
use Rattle.trail_rules.specs.Replays.{core_steps, replay, arrivals, needed, Released}
use Rattle.node_played.specs.Lives.{IsEndLast}
use Rattle.node_seat.specs.Seats.{payloads, IsFirst, HasWrittenFirst}
use Rattle.node_ends.specs.Intakes.{filled, HasTakenIn, Reads, IsDone, IsCutOff as is-cut-off}
use Rattle.node_ends.specs.Outlets.{Writes}
use Rattle.node_ends.specs.declared.intake.Intake.{Intake}
use Rattle.node_ends.specs.declared.outlet.Outlet.{Outlet}
use Rattle.node_endings.proofs.Joined.{first_of_front}
use Rattle.node_endings.specs.Settled.{EndsSettled}
use Rattle.node_endings.specs.declared.ending.Ends.{Ends}
use Rattle.node_endings.specs.declared.ending.LoopEnd.{LoopEnd}
use Rattle.node_endings.specs.declared.ending.LoopEnd.TheVariants as loops
use Rattle.node_run.specs.Lives.{Life, Lived, IsWhole, IsCutOff, EndsBy}
use Rattle.node_run.specs.Statuses.{has_failed, is_whole, status_behind, status_by, status_of}
use Rattle.node_run.specs.declared.status.NodeStatus.{NodeStatus}
use Rattle.node_run.specs.declared.status.NodeStatus.TheVariants as ends
use Rattle.node_run.proofs.Causes.{both-true}

filled-append : (xs ys : List (List ℕ)) → filled (xs ++ ys) ≡ filled xs ++ filled ys
filled-append [] ys = refl
filled-append ([] ∷ xs) ys = filled-append xs ys
filled-append ((b ∷ bs) ∷ xs) ys = ap (λ (l : List (List ℕ)). (b ∷ bs) ∷ l) (filled-append xs ys)

nothing-waits : (waiting : Option (List ℕ)) → waiting ≡ None → option_to_list waiting ≡ []
nothing-waits waiting none = ap option_to_list none

module _ {S : Type 0} (life : Life S) (i0 i1 : Intake) (o0 o1 : Outlet) (trail : List TrailEvent) (cut all : Bool) (fresh : HasTakenIn [] i0) (reads : Reads life.left_before life.left_after cut i0 i1)
    (came : IsFirst (arrivals trail) (link_put i1.link)) (none : link_taken o0.link ≡ []) (writes : Writes life.written_before life.written_after all o0 o1) (left : IsFirst (link_taken o1.link) (payloads trail))
    (released : Released (core_steps life.meaning) life.opening trail) (needs : needed (core_steps life.meaning) life.opening trail ≤ life.firm)
    (firm : (replay (core_steps life.meaning) life.opening trail).firm ≤ life.firm) (text : HasWrittenFirst life.told_before life.told_after (trail_text life.head life.entries trail))
    (end-last : IsEndLast trail) where
  taken : HasTakenIn reads.more i1
  taken = reads.taken [] fresh

  sent-is : link_taken o1.link ≡ writes.more
  sent-is = writes.taken ∙ ap (λ (l : List (List ℕ)). l ++ writes.more) none

  pub lived : Lived life
  lived = record {
    trail = trail;
    end_last = end-last;
    read = reads.more;
    lost = reads.lost;
    frames = taken.given ++ i1.frames.ready;
    rest = i1.frames.rest;
    consumed = reads.consumed;
    cut = taken.fed.cut;
    came = first_of_front (arrivals trail) (link_put i1.link) (option_to_list i1.waiting ++ filled i1.frames.ready) (filled (taken.given ++ i1.frames.ready))
        (filled-append taken.given i1.frames.ready ∙ ap (λ (l : List (List ℕ)). l ++ filled i1.frames.ready) (sym taken.put_is)
        ∙ append_assoc (link_put i1.link) (option_to_list i1.waiting) (filled i1.frames.ready))
        came;
    released = released;
    needs = needs;
    told_firm = firm;
    sent = writes.more;
    count = writes.count;
    first = subst (λ (l : List (List ℕ)). IsFirst l (payloads trail)) sent-is left;
    wrote = writes.wrote;
    text = text;
  }

  pub lived-trail : lived.trail ≡ trail
  unfolding lived
  lived-trail = refl

  given-whole : i1.waiting ≡ None → i1.frames.ready ≡ [] → link_put i1.link ≡ filled (taken.given ++ i1.frames.ready)
  given-whole none-waits none-ready =
      sym (append-nil (link_put i1.link)) ∙ ap (λ (l : List (List ℕ)). link_put i1.link ++ l) (sym (nothing-waits i1.waiting none-waits)) ∙ taken.put_is
      ∙ ap filled (sym (append-nil taken.given) ∙ ap (λ (l : List (List ℕ)). taken.given ++ l) (sym none-ready))

  pub whole : cut ≡ false → all ≡ true → IsAtEnd life.left_after → IsDone i1 → arrivals trail ≡ link_put i1.link → payloads trail ≡ link_taken o1.link → EndsSettled life.meaning life.opening trail
      → Appends life.told_before life.told_after (trail_text life.head life.entries trail) → IsWhole lived
  unfolding lived
  whole uncut goes at-end done all-came all-left settled all-text = record {
    at_end = at-end;
    none_lost = reads.none uncut;
    no_rest = done.1.1;
    all_came = all-came ∙ given-whole done.0 done.1.0;
    settled = settled;
    all_wrote = subst (λ (l : List (List ℕ)). Appends life.written_before life.written_after (flat_map framed l)) (sym (all-left ∙ sent-is)) (writes.all goes);
    all_text = all-text;
  }

  pub cut-off : cut ≡ false → (frame : ℕ) → frame ≡ min (i1.count + 1) (2 ^ 64 - 1) → is-cut-off life.left_after i1 → IsCutOff lived frame
  unfolding lived
  cut-off uncut frame number off = record {
    none_lost = reads.none uncut;
    number =
        let none-ready : length (taken.given ++ i1.frames.ready) ≡ length taken.given = ap (λ (l : List (List ℕ)). length (taken.given ++ l)) off.1.0 ∙ ap length (append-nil taken.given) in
        let count = taken.count_is in
        omega (arith, number, none-ready, count);
    cut_off = by-case off.1.1;
  }
    where
      by-case : (i1.is_long ≡ true) ⊎ (IsAtEnd life.left_after × (0 < length i1.frames.rest)) → (is_some (too_long i1.frames.rest) ≡ true) ⊎ (IsAtEnd life.left_after × (0 < length i1.frames.rest))
      by-case (inl long) = inl (sym taken.long ∙ long)
      by-case (inr short) = inr short

consumes-none : (a : Option (List ℕ)) → Consumes a a []
consumes-none None = tt
consumes-none (Some xs) = refl

none-ended : (trail before behind : List TrailEvent) → trail ≡ [] → trail ≡ before ++ End ∷ behind → behind ≡ []
none-ended trail [] behind none is = absurd (cc)
none-ended trail (e ∷ before) behind none is = absurd (cc)

-- a life that did nothing
pub idle : {S : Type 0} (life : Life S) → life.left_after ≡ life.left_before → life.written_after ≡ life.written_before → life.opening.firm ≤ life.firm
    → HasWrittenFirst life.told_before life.told_after (trail_text life.head life.entries []) → Lived life
idle life unread unwritten firm text = record {
  trail = [];
  end_last = λ before behind is. none-ended [] before behind refl is;
  read = [];
  lost = [];
  frames = [];
  rest = [];
  consumed = subst (λ (x : Option (List ℕ)). Consumes life.left_before x []) (sym unread) (consumes-none life.left_before);
  cut = record { is = refl; short = tt; end = record { few = λ _ _. omega arith } };
  came = refl;
  released = tt;
  needs = omega arith;
  told_firm = firm;
  sent = [];
  count = 0;
  first = refl;
  wrote = subst (λ (x : Option (List ℕ)). Appends life.written_before x []) (sym unwritten) (Appends-nil life.written_before);
  text = text;
}

-- how a life ended, by its status
module _ {S : Type 0} {life : Life S} (l : Lived life) where
  by-tests : (a b c d : Bool) → (d ≡ true → IsWhole l)
      → EndsBy l (if a then ends.WriteFault else if b then ends.TrailFault else if c then ends.DiskFault else if d then ends.Ok else ends.NoMemory)
  by-tests true b c d is = tt
  by-tests false true c d is = tt
  by-tests false false true d is = tt
  by-tests false false false true is = is refl
  by-tests false false false false is = tt

  by-reading : (r : LoopEnd) (behind : NodeStatus) → EndsBy l behind → ((n : ℕ) → r ≡ loops.Form n → IsCutOff l n) → EndsBy l (status_by r behind)
  by-reading loops.Done behind e cut = e
  by-reading loops.Over behind e cut = e
  by-reading (loops.Form n) behind e cut = cut n refl
  by-reading loops.Failed behind e cut = tt
  by-reading loops.NoMemory behind e cut = e

  pub ends_by : (all : Ends) (failed settled : Bool) → (settled ≡ true → is_whole all ≡ true → IsWhole l) → ((n : ℕ) → all.received ≡ loops.Form n → IsCutOff l n) → EndsBy l (status_of all failed settled)
  ends_by all failed settled is cut =
      by-reading all.received (status_behind all failed settled)
      (by-tests (has_failed all.sent) failed (has_failed all.logged) (settled && is_whole all) (λ e. is (both-true settled (is_whole all) e).0 (both-true settled (is_whole all) e).1)) cut
