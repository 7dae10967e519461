-- The frames of a stream of bytes. A frame is the length of its payload in four bytes, the highest first, and then the payload.
use Rattle.std.specs.Prelude.{◌≡◌, ◌≤◌, ◌<◌, ◌+◌, ℕ, List, [], ◌∷◌, ◌++◌, length, nat_le, nat_lt, ◌&&◌, if◌then◌else◌, Option, Some, None, Result, Ok, Err}
use Rattle.std.specs.Int.{w32}
use Rattle.std.specs.List.{flat_map}
use Rattle.byteorder.specs.Endian.{big_number}
use Rattle.smart_base.specs.Spelling.{behind}
use Rattle.smart_base.specs.Lists.{Each}
use Rattle.smart_base.specs.declared.limits.TheConstants.{MESSAGE_BYTES}
use Rattle.frame_stream.specs.declared.frame.TheConstants.{HEAD_BYTES}
use Rattle.frame_stream.specs.declared.stream.FeedFault.{FeedFault}
use Rattle.frame_stream.specs.declared.stream.FeedFault.TheVariants.{TooLong, NoMemory}

-- the bytes of a frame with this payload
abbrev pub framed : List ℕ → List ℕ
framed payload = behind w32 payload

-- the length with which bytes begin
abbrev pub length_at : List ℕ → ℕ
length_at bytes = big_number HEAD_BYTES bytes

-- the length with which bytes begin, if it is above the limit
abbrev pub too_long : List ℕ → Option ℕ
too_long bytes =
    if nat_lt (length bytes) HEAD_BYTES then None else (if nat_le (length_at bytes) MESSAGE_BYTES then None else Some (length_at bytes))

-- a payload within the limit
abbrev pub IsShort : List ℕ → Type 0
IsShort payload = length payload ≤ MESSAGE_BYTES

-- No whole frame within the limit begins these bytes. They are too few for a length or for its payload, or the length is above the limit.
pub record IsEnd (bytes : List ℕ) : Type 0 where
  pub few : HEAD_BYTES ≤ length bytes → length_at bytes ≤ MESSAGE_BYTES → length bytes < HEAD_BYTES + length_at bytes

-- The cut of a stream's bytes: frames one after the other, and then a rest with which no whole frame begins.
pub record IsCut (bytes : List ℕ) (frames : List (List ℕ)) (rest : List ℕ) : Type 0 where
  pub is : bytes ≡ flat_map framed frames ++ rest
  pub short : Each IsShort frames
  pub end : IsEnd rest

-- the length of the payload of the whole frame that begins the bytes; or no frame begins them
abbrev pub HasFirst : List ℕ → Option ℕ → Type 0
HasFirst bytes None = IsEnd bytes
HasFirst bytes (Some n) = (n ≡ length_at bytes) × ((n ≤ MESSAGE_BYTES) × (HEAD_BYTES + n ≤ length bytes))

-- a stream: the frames that are whole and were not given, and the bytes after them
pub record Stream : Type 0 where
  pub ready : List (List ℕ)
  pub rest : List ℕ

-- A stream to which all these bytes were fed, and which has given these frames. Those, the frames that are ready, and the rest are the cut
-- of the bytes.
pub record HasFed (bytes : List ℕ) (given : List (List ℕ)) (s : Stream) : Type 0 where
  pub cut : IsCut bytes (given ++ s.ready) s.rest

-- a piece that was taken: the frames that it made whole are ready after the others
pub record Takes (old : Stream) (piece : List ℕ) (new : Stream) : Type 0 where
  pub more : List (List ℕ)
  pub ready : new.ready ≡ old.ready ++ more
  pub cut : IsCut (old.rest ++ piece) more new.rest

-- A stream that was too long takes nothing more.
abbrev pub TakesUnless : Option ℕ → Stream → List ℕ → Stream → Type 0
TakesUnless None old piece new = Takes old piece new
TakesUnless (Some n) old piece new = new ≡ old

-- What a feed of a piece leaves, by its answer. After want of memory the stream is as it was.
abbrev pub Fed : {A : Type 0} → Stream → List ℕ → Result A FeedFault → Stream → Type 0
Fed old piece (Ok x) new = (too_long new.rest ≡ None) × TakesUnless (too_long old.rest) old piece new
Fed old piece (Err (TooLong n)) new = (too_long new.rest ≡ Some n) × TakesUnless (too_long old.rest) old piece new
Fed old piece (Err NoMemory) new = new ≡ old
