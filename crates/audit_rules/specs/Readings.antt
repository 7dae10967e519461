-- How recorded runs are read: trails one after the other, part by part.
use Rattle.std.specs.Prelude.{◌≡◌, ◌⊎◌, ℕ, zero, suc, ◌+◌, ◌<◌, ◌≤◌, ◌==◌, nat_lt, Bool, true, false, not, ◌||◌, List, [], ◌∷◌, ◌++◌, length, if◌then◌else◌, Option, Some, None, is_some, option_map, option_to_list, Result, Ok, Err}
use Rattle.std.specs.Option.{option_and_then}
use Rattle.std.specs.List.{list_any}
use Rattle.smart_base.specs.Cuts.{Cut, Read}
use Rattle.smart_base.specs.Lists.{or_else, Each}
use Rattle.smart_statements.specs.declared.entry.NodeEvent.{NodeEvent}
use Rattle.smart_statements.specs.declared.entry.NodeEvent.TheVariants.{Arrive, Tick, Deliver, Firm}
use Rattle.trail.specs.Events.{event_decoded}
use Rattle.trail.specs.Openings.{opening_decoded, text_field_at}
use Rattle.trail.specs.declared.event.TrailEvent.{TrailEvent}
use Rattle.trail.specs.declared.event.TrailEvent.TheVariants.{Happens, Send, Lost, Polls, End}
use Rattle.trail.specs.declared.opening.TrailOpening.{TrailOpening}
use Rattle.audit_rules.specs.declared.recorded.Recorded.{Recorded}
use Rattle.audit_rules.specs.declared.recorded.TheConstants.{PARTS}
use Rattle.audit_rules.specs.declared.recorded.Reading.{Reading}
use Rattle.audit_rules.specs.Audits.{is_client, damage_by, CanBegin}

-- ---- one more part

-- nothing was read
abbrev pub unread : Reading
unread = record { trails = []; begun = None }

-- a number whose trail was read before
abbrev pub is_known : List Recorded → ℕ → Bool
is_known trails member = list_any (λ t. t.opening.member == member) trails

-- a trail that begins
abbrev pub beginning : TrailOpening → Recorded
beginning o = record { opening = o; entries = []; events = [] }

-- the reading after an opening. No number has two trails.
abbrev pub opening_taken : Reading → Result TrailOpening ℕ → Option Reading
opening_taken r (Ok o) = if is_known r.trails o.member then None else Some (record r { begun = Some (beginning o) })
opening_taken r (Err at) = None

-- after an entry, in its bytes. A client's trail has none.
abbrev pub entry_taken : Reading → Recorded → List ℕ → Option Reading
entry_taken r t bytes = if is_client t then None else Some (record r { begun = Some (record t { entries = t.entries ++ bytes ∷ [] }) })

-- an event that a client's trail may have: no time passes there, nothing is delivered, and nothing is firm
abbrev pub is_happening : NodeEvent → Bool
is_happening (Arrive bytes) = true
is_happening Tick = false
is_happening Deliver = false
is_happening (Firm count) = false

abbrev pub may_happen : TrailEvent → Bool
may_happen (Happens event) = is_happening event
may_happen (Send a) = true
may_happen (Lost a) = true
may_happen (Polls count) = true
may_happen End = true

abbrev pub is_end : TrailEvent → Bool
is_end (Happens event) = false
is_end (Send a) = false
is_end (Lost a) = false
is_end (Polls count) = false
is_end End = true

abbrev pub with_event : Recorded → TrailEvent → Recorded
with_event t e = record t { events = t.events ++ e ∷ [] }

-- after an event. The last one of a trail tells that the trail is whole.
abbrev pub event_added : Reading → Recorded → TrailEvent → Reading
event_added r t e = if is_end e then record { trails = r.trails ++ with_event t e ∷ []; begun = None } else record r { begun = Some (with_event t e) }

abbrev pub event_taken : Reading → Recorded → Result TrailEvent ℕ → Option Reading
event_taken r t (Ok e) = if not (is_client t) || may_happen e then Some (event_added r t e) else None
event_taken r t (Err at) = None

-- after a part of a trail that has begun
abbrev pub next_taken : Reading → Recorded → List ℕ → Option Reading
next_taken r t bytes = if nat_lt (length t.entries) t.opening.entries then entry_taken r t bytes else event_taken r t (event_decoded bytes)

abbrev pub part_taken : Reading → Option Recorded → List ℕ → Option Reading
part_taken r None bytes = opening_taken r (opening_decoded bytes)
part_taken r (Some t) bytes = next_taken r t bytes

-- the reading after one more part; none if the part cannot be read
unfoldable pub takes : Reading → List ℕ → Option Reading
takes r bytes = part_taken r r.begun bytes

-- ---- the parts of bytes

-- a reading, and what is left of the bytes
pub record Reached : Type 0 where
  pub reading : Reading
  pub cut : Cut

abbrev pub reaches : Reading → Read (List ℕ) → Option Reached
reaches r (Ok p) = option_map (λ s. record { reading = s; cut = p.1 }) (takes r p.0)
reaches r (Err at) = None

-- the reading after the next part of bytes: its length in four bytes, and that many
unfoldable pub next_part : Reached → Option Reached
next_part x = reaches x.reading (text_field_at x.cut)

-- after so many parts
abbrev pub after_parts : ℕ → Option Reached → Option Reached
after_parts zero x = x
after_parts (suc n) x = option_and_then next_part (after_parts n x)

-- after so many parts of bytes, from the first on; none if one of them cannot be read
unfoldable pub parts_read : List ℕ → ℕ → Option Reached
parts_read bytes n = after_parts n (Some (record { reading = unread; cut = record { at = 0; left = bytes } }))

-- ---- members that could not begin so

abbrev pub damage_in : Recorded → Option ℕ
damage_in t = if is_client t then None else damage_by t t.opening.app

-- how many parts a trail has
abbrev pub part_count : Recorded → ℕ
part_count t = 1 + length t.entries + length t.events

-- the number of the first damaged part of trails, after so many parts: of an opening, if its snapshot is none, or of an entry
abbrev pub damaged_part : ℕ → List Recorded → Option ℕ
damaged_part before [] = None
damaged_part before (t ∷ ts) = or_else (option_map (λ k. before + 1 + k) (damage_in t)) (damaged_part (before + part_count t) ts)

-- all trails of a reading, the one that has begun among them
abbrev pub all_begun : Reading → List Recorded
all_begun r = r.trails ++ option_to_list r.begun

-- ---- the whole

-- Recorded runs that bytes are: at least one trail, each of them whole, of members that could begin so. They have 2^24 parts at most.
pub record AreRead (bytes : List ℕ) (trails : List Recorded) : Type 0 where
  pub count : ℕ
  pub some : 0 < count
  pub few : count ≤ PARTS
  pub last : Cut
  pub reached : parts_read bytes count ≡ Some (record { reading = record { trails = trails; begun = None }; cut = last })
  pub all : length last.left ≡ 0
  pub begin : Each CanBegin trails

-- after so many parts the next one is lacking: a trail has begun
abbrev pub Lacks : Reached → Type 0
Lacks x = (length x.cut.left ≡ 0) × (is_some x.reading.begun ≡ true)

-- or the next one cannot be read
abbrev pub Refuses : ℕ → Reached → Type 0
Refuses count x = (count < PARTS) × ((0 < length x.cut.left) × (next_part x ≡ None))

-- The first part that cannot be read has this number. It is a damaged one of a member's beginning. Or the parts before it can be read, and it is
-- lacking or cannot be. At most 2^24 parts are read.
pub record StopsAt (bytes : List ℕ) (part : ℕ) : Type 0 where
  pub count : ℕ
  pub few : count ≤ PARTS
  pub last : Reached
  pub reached : parts_read bytes count ≡ Some last
  pub cause : (damaged_part 0 (all_begun last.reading) ≡ Some part) ⊎ ((damaged_part 0 (all_begun last.reading) ≡ None) × ((part ≡ count + 1) × (Lacks last ⊎ Refuses count last)))

-- Bytes with one part too many, which has this number. Those before it can be read, and none is damaged.
pub record PassesLimit (bytes : List ℕ) (part : ℕ) : Type 0 where
  pub last : Reached
  pub reached : parts_read bytes PARTS ≡ Some last
  pub whole : damaged_part 0 (all_begun last.reading) ≡ None
  pub more : 0 < length last.cut.left
  pub part_is : part ≡ PARTS + 1
