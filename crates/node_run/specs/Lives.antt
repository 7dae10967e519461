-- The life of a node: what it read, what its trail says of it, and what it wrote.
use Rattle.std.specs.Prelude.{◌≡◌, ◌≤◌, ◌<◌, ◌+◌, ◌-◌, ◌^◌, ◌⊎◌, ℕ, min, true, List, [], ◌++◌, length, take, is_some, Option}
use Rattle.std.specs.List.{flat_map}
use Rattle.std.specs.Io.KnownBytes.{Appends, Consumes, IsAtEnd}
use Rattle.smart_service.specs.Services.{Meaning}
use Rattle.frame_stream.specs.Frames.{IsCut, framed, too_long}
use Rattle.node_rules.specs.Nodes.{Node}
use Rattle.trail.specs.Trails.{trail_text}
use Rattle.trail.specs.declared.event.TrailEvent.{TrailEvent}
use Rattle.trail.specs.declared.opening.TrailOpening.{TrailOpening}
use Rattle.trail_rules.specs.Replays.{core_steps, replay, arrivals, needed, Released}
use Rattle.node_played.specs.Lives.{IsEndLast}
use Rattle.node_seat.specs.Seats.{payloads, IsFirst, HasWrittenFirst}
use Rattle.node_ends.specs.Intakes.{filled}
use Rattle.node_endings.specs.Settled.{EndsSettled}
use Rattle.node_run.specs.declared.status.NodeStatus.{NodeStatus}
use Rattle.node_run.specs.declared.status.NodeStatus.TheVariants as ends

-- What a life begins with, and what was left, written and told before it and after it.
pub record Life (S : Type 0) : Type 0 where
  pub meaning : Meaning S
  -- the node with which it began
  pub opening : Node S
  -- the head of its trail, and the entries that follow it
  pub head : TrailOpening
  pub entries : List (List ℕ)
  -- what was left of the input
  pub left_before : Option (List ℕ)
  pub left_after : Option (List ℕ)
  -- what was written to the output
  pub written_before : Option (List ℕ)
  pub written_after : Option (List ℕ)
  -- what was written to the trail's sink
  pub told_before : Option (List ℕ)
  pub told_after : Option (List ℕ)
  -- the number of entries that are firm in the store after it
  pub firm : ℕ

module _ {S : Type 0} where
  -- What holds of a life however it ended. The arrivals of its trail are the first frames read that are not empty, and the messages written are the
  -- first that it sends. What was sent needed no more entries than are firm. Behind its end nothing stands.
  pub record Lived (life : Life S) : Type 0 where
    pub trail : List TrailEvent
    pub end_last : IsEndLast trail
    -- the input that was read, and the frames that it is cut into
    pub read : List ℕ
    pub lost : List ℕ
    pub frames : List (List ℕ)
    pub rest : List ℕ
    pub consumed : Consumes life.left_before life.left_after (read ++ lost)
    pub cut : IsCut read frames rest
    pub came : IsFirst (arrivals trail) (filled frames)
    -- each message that it sends is the next release of the replay there
    pub released : Released (core_steps life.meaning) life.opening trail
    pub needs : needed (core_steps life.meaning) life.opening trail ≤ life.firm
    pub told_firm : (replay (core_steps life.meaning) life.opening trail).firm ≤ life.firm
    -- the messages that were taken to be written; of their frames so many bytes were written
    pub sent : List (List ℕ)
    pub count : ℕ
    pub first : IsFirst sent (payloads trail)
    pub wrote : Appends life.written_before life.written_after (take count (flat_map framed sent))
    pub text : HasWrittenFirst life.told_before life.told_after (trail_text life.head life.entries trail)

  -- A life that ended well: the whole input was read and played, all entries are firm, nothing is left to deliver or to send, and all is written.
  pub record IsWhole {life : Life S} (l : Lived life) : Type 0 where
    pub at_end : IsAtEnd life.left_after
    pub none_lost : l.lost ≡ []
    pub no_rest : l.rest ≡ []
    pub all_came : arrivals l.trail ≡ filled l.frames
    pub settled : EndsSettled life.meaning life.opening l.trail
    pub all_wrote : Appends life.written_before life.written_after (flat_map framed (payloads l.trail))
    pub all_text : Appends life.told_before life.told_after (trail_text life.head life.entries l.trail)

  -- A life whose input has no whole frame of this number: it is too long, or the input ended within it.
  pub record IsCutOff {life : Life S} (l : Lived life) (frame : ℕ) : Type 0 where
    pub none_lost : l.lost ≡ []
    pub number : frame ≡ min (length l.frames + 1) (2 ^ 64 - 1)
    pub cut_off : (is_some (too_long l.rest) ≡ true) ⊎ (IsAtEnd life.left_after × (0 < length l.rest))

  abbrev pub EndsBy : {life : Life S} → Lived life → NodeStatus → Type 0
  EndsBy l ends.Ok = IsWhole l
  EndsBy l (ends.Form frame) = IsCutOff l frame
  EndsBy l (ends.Store entry) = ⊥
  EndsBy l ends.ReadFault = Unit {0}
  EndsBy l ends.WriteFault = Unit {0}
  EndsBy l ends.TrailFault = Unit {0}
  EndsBy l ends.DiskFault = Unit {0}
  EndsBy l ends.NoMemory = Unit {0}

  -- A life that ended with this status.
  pub record LifeEnd (life : Life S) (status : NodeStatus) : Type 0 where
    pub lived : Lived life
    pub ends : EndsBy lived status
