-- What the play without threads leaves of a group's client.
use Rattle.std.proofs.Common.{◌≡◌, ◌≤◌, ℕ, Bool, true, false, List, Option, None, is_some, refl, arith, true≢false}
use Rattle.faults.specs.Counts.{Rose}
use Rattle.client_quorum.specs.declared.client.Client.{Client}
use Rattle.trail.specs.declared.event.TrailEvent.{TrailEvent}
use Rattle.trail.specs.declared.opening.TrailOpening.{TrailOpening}
use Rattle.durable_store.proofs.Faults.{rose_after}
use Rattle.group_ends.specs.Journals.{has_end}
use Rattle.group_client.specs.Amounts.{amounts, asked_in, AsksUpTo}
use Rattle.group_client.specs.Lines.{accepted, IsTold, IsToldFirst}
use Rattle.group_client.specs.Loops.{Output}
use Rattle.group_client.specs.declared.asking.ClientFault.{ClientFault}
use Rattle.group_client.specs.declared.asking.ClientFault.TheVariants as faults
use Rattle.group_client.proofs.Asked.{up-to}
use Rattle.group_client.proofs.Behind.{More, more-none, more-then}
use Rattle.group_client.proofs.Told.{told-all, told-before, told-lines, told-none, told-then, told-up-to, whole-behind}
use Rattle.group_parties.specs.Plays.{PlayMade}
use Rattle.group_parties.specs.declared.playing.PlayEnd.{PlayEnd}
use Rattle.group_parties.specs.declared.playing.PlayEnd.TheVariants.{Done, Still, Over, GaveUp}

module _ (head : TrailOpening) (asks : ℕ) (old now : List TrailEvent) (before mid : Output) (grown : More old now) (told : IsTold (accepted head old) (accepted head now) before.written mid.written)
    (later : (before.faults ≤ mid.faults) × (before.wants ≤ mid.wants)) where
  -- behind a turn that went well
  pub play-ended : (end : PlayEnd) (new : List TrailEvent) (client : Client) (over : Bool) (pending : Option (List ℕ)) (failed : Bool) (after : Output) → ((fault : ClientFault) → end ≡ GaveUp fault → ⊥)
      → (over ≡ false) × (pending ≡ None) → asked_in new ≡ amounts client.last → client.last ≤ asks → has_end new ≡ false → More now new → IsTold (accepted head now) (accepted head new) mid.written after.written
      → (mid.faults ≤ after.faults) × (mid.wants ≤ after.wants) → (end ≡ Done → (client.waiting ≡ None) × (client.last ≡ asks)) → (end ≡ Still → is_some client.waiting ≡ true)
      → PlayMade head asks end old new client over pending failed before after
  play-ended end new client over pending failed after none going asked few unended more turn rose done still =
      let all = told-then (accepted head old) (accepted head now) (accepted head new) before.written mid.written after.written told turn in record {
        going = λ fine. going;
        up_to = up-to asks client.last new few asked;
        done = done;
        still = still;
        unended = unended;
        behind = more-then old now new grown more;
        told = λ fine. all;
        told_first = told-all (accepted head old) (accepted head new) before.written after.written all;
        lines = λ fine. told-lines (accepted head old) (accepted head new) before.written after.written all;
        trail = λ is. absurd (none faults.Trail is);
        output = λ is. absurd (none faults.Output is);
        want = λ is. absurd (none faults.OutputMemory is);
        later = (omega (arith, later.0, rose.0), omega (arith, later.1, rose.1));
      }

  -- a member is over
  pub play-over : (client : Client) (over : Bool) (pending : Option (List ℕ)) (failed : Bool) → over ≡ false → pending ≡ None → asked_in now ≡ amounts client.last → client.last ≤ asks → has_end now ≡ false
      → PlayMade head asks Over old now client over pending failed before mid
  play-over client over pending failed going idle asked few unended =
      play-ended Over now client over pending failed mid (λ fault is. cc) (going, idle) asked few unended (more-none now now refl)
      (told-none (accepted head now) (accepted head now) mid.written mid.written refl refl) (omega arith, omega arith) (λ is. cc) (λ is. cc)

  -- the client does not go on
  pub play-failed : (fault : ClientFault) (new : List TrailEvent) (client : Client) (over : Bool) (pending : Option (List ℕ)) (failed : Bool) (after : Output) → AsksUpTo asks new → has_end new ≡ false → More now new
      → IsToldFirst (accepted head now) (accepted head new) mid.written after.written → (fault ≡ faults.NoMemory → after.written ≡ mid.written) → (fault ≡ faults.Trail → (failed ≡ true) × (after.written ≡ mid.written))
      → (fault ≡ faults.Output → Rose mid.faults after.faults) → (fault ≡ faults.OutputMemory → Rose mid.wants after.wants) → (mid.faults ≤ after.faults) × (mid.wants ≤ after.wants)
      → PlayMade head asks (GaveUp fault) old new client over pending failed before after
  play-failed fault new client over pending failed after asked unended more turn none trail output want rose =
      let whole = told-before (accepted head old) (accepted head now) (accepted head new) before.written mid.written after.written told turn in record {
        going = λ fine. absurd (true≢false fine);
        up_to = asked;
        done = λ is. cc;
        still = λ is. cc;
        unended = unended;
        behind = more-then old now new grown more;
        told = λ fine. absurd (true≢false fine);
        told_first = told-up-to (accepted head old) (accepted head now) (accepted head new) before.written mid.written after.written told turn;
        lines = whole-behind fault (λ x. whole (trail x).1) (λ x. whole (none x));
        trail = λ is. let same : fault ≡ faults.Trail = cc in (trail same).0;
        output = λ is. let same : fault ≡ faults.Output = cc in rose_after before.faults mid.faults after.faults later.0 (output same);
        want = λ is. let same : fault ≡ faults.OutputMemory = cc in rose_after before.wants mid.wants after.wants later.1 (want same);
        later = (omega (arith, later.0, rose.0), omega (arith, later.1, rose.1));
      }
