-- What the run of a group's parties leaves of its client.
use Rattle.std.proofs.Common.{◌≡◌, ◌∙◌, ◌≤◌, ◌+◌, ◌++◌, ◌==◌, ℕ, Bool, true, false, cond, List, [], ◌∷◌, Option, refl, sym, ap, subst, arith, true≢false}
use Rattle.std.proofs.lemmas.Bool.{eqb-true}
use Rattle.client_quorum.specs.declared.client.Client.{Client}
use Rattle.client_quorum.specs.declared.client.Acceptance.{Acceptance}
use Rattle.client_seat.specs.Asks.{polls_since, told_polls}
use Rattle.client_seat.proofs.Grown.{polls-join}
use Rattle.trail.specs.declared.event.TrailEvent.{TrailEvent}
use Rattle.trail.specs.declared.event.TrailEvent.TheVariants.{Polls}
use Rattle.trail.specs.declared.opening.TrailOpening.{TrailOpening}
use Rattle.durable_store.proofs.Faults.{rose_after}
use Rattle.group_client.specs.Amounts.{amounts, asked_in, AsksUpTo}
use Rattle.group_client.specs.Ends.{gave_up, is_line_cut as is_cut}
use Rattle.group_client.specs.Lines.{accepted, IsTold, IsToldFirst, IsToldWhole}
use Rattle.group_client.specs.Loops.{LoopMade, Output}
use Rattle.group_client.specs.declared.asking.ClientFault.{ClientFault}
use Rattle.group_client.specs.declared.asking.ClientFault.TheVariants as faults
use Rattle.group_client.specs.declared.turns.ClientEnd.{ClientEnd}
use Rattle.group_client.specs.declared.turns.ClientEnd.TheVariants as ends
use Rattle.group_client.proofs.Asked.{asked-told}
use Rattle.group_client.proofs.Told.{accepted-told, told-all, told-lines, told-then, told-up-to, told-whole}
use Rattle.group_parties.specs.Courses.{end_of_play, is_cut_off, is_line_cut, CourseMade}
use Rattle.group_parties.specs.Plays.{has_given_up, is_line_cut as is_play_cut, PlayMade}
use Rattle.group_parties.specs.declared.playing.PlayEnd.{PlayEnd}
use Rattle.group_parties.specs.declared.playing.PlayEnd.TheVariants as plays
use Rattle.group_parties.specs.declared.running.CourseEnd.TheVariants.{Done, Still, Over, GaveUp}

-- ---- the end of a play

pub cut-off-of : (end : PlayEnd) → is_cut_off (end_of_play end) ≡ has_given_up end
cut-off-of plays.Done = refl
cut-off-of plays.Still = refl
cut-off-of plays.Over = refl
cut-off-of (plays.GaveUp fault) = refl

line-cut-of : (end : PlayEnd) → is_line_cut (end_of_play end) ≡ is_play_cut end
line-cut-of plays.Done = refl
line-cut-of plays.Still = refl
line-cut-of plays.Over = refl
line-cut-of (plays.GaveUp fault) = refl

done-of : (end : PlayEnd) → end_of_play end ≡ Done → end ≡ plays.Done
done-of plays.Done is = refl
done-of plays.Still is = cc
done-of plays.Over is = cc
done-of (plays.GaveUp fault) is = cc

still-of : (end : PlayEnd) → end_of_play end ≡ Still → end ≡ plays.Still
still-of plays.Done is = cc
still-of plays.Still is = refl
still-of plays.Over is = cc
still-of (plays.GaveUp fault) is = cc

pub given-up-of : (end : PlayEnd) (fault : ClientFault) → end_of_play end ≡ GaveUp fault → end ≡ plays.GaveUp fault
given-up-of plays.Done fault is = cc
given-up-of plays.Still fault is = cc
given-up-of plays.Over fault is = cc
given-up-of (plays.GaveUp other) fault is = let same : other ≡ fault = cc in ap plays.GaveUp same

-- ---- polls that are told

polls-told : (count idle : ℕ) → polls_since count (told_polls idle) ≡ count + idle
polls-told count idle = by-case (idle == 0) refl
  where
    by-case : (b : Bool) → (idle == 0) ≡ b → polls_since count (cond b [] (Polls idle ∷ [])) ≡ count + idle
    by-case true is = omega (arith, eqb-true idle 0 is)
    by-case false is = refl

-- ---- the loop of the client

module _ (head : TrailOpening) (asks turns : ℕ) (end : ClientEnd) (old new : List TrailEvent) (client : Client) (over : Bool) (pending : Option (List ℕ)) (idle : ℕ) (failed : Bool) (before after : Output)
    (fresh : old ≡ []) (made : LoopMade head asks turns end old new client over pending idle failed before after) where
  none : accepted head old ≡ []
  none = ap (accepted head) fresh

  told : gave_up end ≡ false → IsTold [] (accepted head new) before.written after.written
  told fine = subst (λ (xs : List Acceptance). IsTold xs (accepted head new) before.written after.written) none (made.told fine)

  told-first : IsToldFirst [] (accepted head new) before.written after.written
  told-first = subst (λ (xs : List Acceptance). IsToldFirst xs (accepted head new) before.written after.written) none made.told_first

  lines : is_cut end ≡ false → IsToldWhole [] (accepted head new) before.written after.written
  lines uncut = subst (λ (xs : List Acceptance). IsToldWhole xs (accepted head new) before.written after.written) none (made.lines uncut)

  pub course-done : end ≡ ends.Done → CourseMade head asks turns Done client new before after
  course-done is = record {
    up_to = made.up_to;
    done = λ same. made.done is;
    still = λ other. cc;
    told = λ fine. told (ap gave_up is);
    told_first = told-first;
    lines = λ fine. lines (ap is_cut is);
    output = λ other. cc;
    want = λ other. cc;
    later = made.later;
  }

  pub course-over : end ≡ ends.Over → CourseMade head asks turns Over client new before after
  course-over is = record {
    up_to = made.up_to;
    done = λ other. cc;
    still = λ other. cc;
    told = λ fine. told (ap gave_up is);
    told_first = told-first;
    lines = λ fine. lines (ap is_cut is);
    output = λ other. cc;
    want = λ other. cc;
    later = made.later;
  }

  pub course-given-up : (fault : ClientFault) → end ≡ ends.GaveUp fault → CourseMade head asks turns (GaveUp fault) client new before after
  course-given-up fault is = record {
    up_to = made.up_to;
    done = λ other. cc;
    still = λ other. cc;
    told = λ fine. absurd (true≢false fine);
    told_first = told-first;
    lines = λ uncut. lines (ap is_cut is ∙ uncut);
    output = λ other. let same : fault ≡ faults.Output = cc in made.output (is ∙ ap ends.GaveUp same);
    want = λ other. let same : fault ≡ faults.OutputMemory = cc in made.want (is ∙ ap ends.GaveUp same);
    later = made.later;
  }

  -- ---- its polls are spent, and are told

  module _ (spent : end ≡ ends.Spent) (events : List TrailEvent) (now : Client) (is : events ≡ new ++ told_polls idle) (same : now ≡ client) where
    fine : gave_up end ≡ false
    fine = ap gave_up spent

    pub asked-polled : asked_in events ≡ amounts now.last
    asked-polled = asked-told new events idle is ∙ (made.asked fine).0 ∙ ap (λ (c : Client). amounts c.last) (sym same)

    pub few-polled : now.last ≤ asks
    few-polled = omega (arith, (made.asked fine).1, ap (λ (c : Client). c.last) same)

    up-to-polled : AsksUpTo asks events
    up-to-polled = record { count = now.last; few = few-polled; ops = asked-polled }

    told-polled : IsTold [] (accepted head events) before.written after.written
    told-polled = subst (λ (xs : List Acceptance). IsTold [] xs before.written after.written) (sym (accepted-told head new events idle is)) (told fine)

    turns-polled : turns ≤ polls_since 0 events
    turns-polled =
        let all : polls_since 0 events ≡ polls_since 0 new + idle = ap (polls_since 0) is ∙ polls-join 0 new (told_polls idle) ∙ polls-told (polls_since 0 new) idle in
        omega (arith, (made.spent spent).1, all)

    -- memory ran out there
    pub course-wants : CourseMade head asks turns (GaveUp faults.NoMemory) now events before after
    course-wants = record {
      up_to = up-to-polled;
      done = λ other. cc;
      still = λ other. cc;
      told = λ fine. absurd (true≢false fine);
      told_first = told-all [] (accepted head events) before.written after.written told-polled;
      lines = λ uncut. told-lines [] (accepted head events) before.written after.written told-polled;
      output = λ other. cc;
      want = λ other. cc;
      later = made.later;
    }

    -- a member can't go on
    pub course-stopped : CourseMade head asks turns Over now events before after
    course-stopped = record {
      up_to = up-to-polled;
      done = λ other. cc;
      still = λ other. cc;
      told = λ fine. told-polled;
      told_first = told-all [] (accepted head events) before.written after.written told-polled;
      lines = λ uncut. told-lines [] (accepted head events) before.written after.written told-polled;
      output = λ other. cc;
      want = λ other. cc;
      later = made.later;
    }

    -- the rest was played
    module _ (play : PlayEnd) (last : List TrailEvent) (left : Client) (more : Bool) (waits : Option (List ℕ)) (short : Bool) (written : Output) (played : PlayMade head asks play events last left more waits short after written) where
      pub course-played : CourseMade head asks turns (end_of_play play) left last before written
      course-played = record {
        up_to = played.up_to;
        done = λ is. played.done (done-of play is);
        still = λ is. (played.still (still-of play is), (events, (played.behind.0, (played.behind.1, turns-polled))));
        told = λ fine. told-then [] (accepted head events) (accepted head last) before.written after.written written.written told-polled (played.told (sym (cut-off-of play) ∙ fine));
        told_first = told-up-to [] (accepted head events) (accepted head last) before.written after.written written.written told-polled played.told_first;
        lines = λ uncut. told-whole [] (accepted head events) (accepted head last) before.written after.written written.written told-polled (played.lines (sym (line-cut-of play) ∙ uncut));
        output = λ is. rose_after before.faults after.faults written.faults made.later.0 (played.output (given-up-of play faults.Output is));
        want = λ is. rose_after before.wants after.wants written.wants made.later.1 (played.want (given-up-of play faults.OutputMemory is));
        later = (omega (arith, made.later.0, played.later.0), omega (arith, made.later.1, played.later.1));
      }
