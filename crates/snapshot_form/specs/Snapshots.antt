-- How replicas are spelled and read.
use Rattle.std.specs.Prelude.{ℕ, zero, suc, ◌+◌, ◌*◌, ◌-◌, ◌/◌, ◌^◌, nat_lt, nat_le, Bool, true, ◌&&◌, List, [], ◌∷◌, ◌++◌, length, take, drop, if◌then◌else◌, Result, Ok, Err, Option, Some, None, option_map}
use Rattle.std.specs.Int.{w16, w32, w64}
use Rattle.std.specs.List.{flat_map}
use Rattle.smart_base.specs.Cuts.{Cut, Read, ◌>>=◌, number_at, ranged, contents, bytes_at, times_at, whole}
use Rattle.smart_base.specs.Fields.{count_at, items_at, payload_at}
use Rattle.smart_base.specs.Spelling.{u16, u32, u64, behind}
use Rattle.smart_base.specs.Views.{View}
use Rattle.smart_base.specs.ViewBytes.{view_text, view_at}
use Rattle.smart_base.specs.declared.limits.TheConstants.{BATCH_REQUESTS, LAST_CLIENT, PIECE_BYTES, VIEWS}
use Rattle.smart_service.specs.Services.{Meaning}
use Rattle.smart_service.specs.declared.replica.Replica.{Replica}
use Rattle.smart_service.specs.declared.table.TableLine.{TableLine}
use Rattle.snapshot_form.specs.Replicas.{views_follow}
use Rattle.snapshot_form.specs.declared.reading.Parts.{Parts}

-- ---- how they are spelled

-- a client's line
abbrev pub line_text : TableLine → List ℕ
line_text line =
    u16 line.last.client ++ (u64 line.last.seq ++ (u64 line.last.place ++ (u16 line.last.index ++ (u32 line.last.view ++ behind w32 line.last.reply))))

-- how many values, and each
abbrev pub counted : {A : Type 0} → (A → List ℕ) → List A → List ℕ
counted spell xs = u16 (length xs) ++ flat_map spell xs

-- the place, the views, the table and what the service makes of its state
abbrev pub parts_text : Parts → List ℕ
parts_text p = u64 p.place ++ (counted view_text p.views ++ (counted line_text p.lines ++ behind w32 p.service))

abbrev pub parts_of : {S : Type 0} → Meaning S → Replica S → Parts
parts_of m r = record { place = r.place; views = r.views; lines = r.table; service = m.snapshot r.service }

-- the snapshot of a replica
unfoldable pub snapshot_text : {S : Type 0} → Meaning S → Replica S → List ℕ
snapshot_text m r = parts_text (parts_of m r)

-- ---- and how they are read

abbrev pub place_at : Cut → Read ℕ
place_at = ranged (λ n. nat_lt n (2 ^ 63)) (number_at w64)

abbrev pub client_at : Cut → Read ℕ
client_at = ranged (λ n. nat_le n LAST_CLIENT) (number_at w16)

abbrev pub index_at : Cut → Read ℕ
index_at = ranged (λ n. nat_lt n BATCH_REQUESTS) (number_at w16)

unfoldable pub line_at : Cut → Read TableLine
line_at c = do
  i ← client_at c
  s ← count_at i.1
  p ← count_at s.1
  n ← index_at p.1
  v ← number_at w32 n.1
  r ← payload_at v.1
  Ok (record { last = record { client = i.0; seq = s.0; place = p.0; index = n.0; view = v.0; reply = r.0 } }, r.1)

unfoldable pub views_at : Cut → Read (List View)
views_at c = do
  n ← items_at VIEWS c
  times_at view_at n.0 n.1

unfoldable pub lines_at : Cut → Read (List TableLine)
lines_at c = do
  n ← number_at w16 c
  times_at line_at n.0 n.1

unfoldable pub parts_at : Cut → Read Parts
parts_at c = do
  p ← place_at c
  v ← views_at p.1
  l ← lines_at v.1
  s ← contents bytes_at l.1
  Ok (record { place = p.0; views = v.0; lines = l.0; service = s.0 }, s.1)

-- a line above one client, of a place up to this one and a view below so many
abbrev pub is_next_line : ℕ → ℕ → ℕ → TableLine → Bool
is_next_line place views client line = nat_lt client line.last.client && nat_le line.last.place place && nat_lt line.last.view views

-- lines that ascend by client, all above one client
abbrev pub lines_above : ℕ → ℕ → ℕ → List TableLine → Bool
lines_above place views client [] = true
lines_above place views client (line ∷ lines) = is_next_line place views client line && lines_above place views line.last.client lines

abbrev pub is_first_line : ℕ → ℕ → TableLine → Bool
is_first_line place views line = nat_le line.last.place place && nat_lt line.last.view views

-- lines that ascend by client
abbrev pub lines_follow : ℕ → ℕ → List TableLine → Bool
lines_follow place views [] = true
lines_follow place views (line ∷ lines) = is_first_line place views line && lines_above place views line.last.client lines

-- the parts of a replica suit each other
unfoldable pub is_tied : Parts → Bool
is_tied p = views_follow p.place p.views && lines_follow p.place (length p.views) p.lines

-- the replica of parts, if they are those of one
abbrev pub replica_of : {S : Type 0} → Meaning S → Parts → Option (Replica S)
replica_of m p =
    if is_tied p then option_map (λ s. record { service = s; table = p.lines; views = p.views; place = p.place }) (m.restore p.service) else None

-- the replica of parts that were read
abbrev pub replica_read : {S : Type 0} → Meaning S → Result Parts ℕ → Option (Replica S)
replica_read m (Ok p) = replica_of m p
replica_read m (Err at) = None

-- the parts that all of the bytes are
abbrev pub read_parts : List ℕ → Result Parts ℕ
read_parts bytes = whole parts_at (record { at = 0; left = bytes })

-- the replica whose snapshot bytes are, if they are one
abbrev pub restored : {S : Type 0} → Meaning S → List ℕ → Option (Replica S)
restored m bytes = replica_read m (read_parts bytes)

-- ---- pieces

-- a snapshot's piece of a number: 65,536 bytes, the last one shorter
abbrev pub piece : List ℕ → ℕ → Option (List ℕ)
piece bytes i = if nat_lt (PIECE_BYTES * i) (length bytes) then Some (take PIECE_BYTES (drop (PIECE_BYTES * i) bytes)) else None

-- how many pieces a snapshot has
abbrev pub pieces : List ℕ → ℕ
pieces bytes = (length bytes + (PIECE_BYTES - 1)) / PIECE_BYTES

-- the bytes of a piece, none where there is no such piece
abbrev pub piece_bytes : Option (List ℕ) → List ℕ
piece_bytes (Some bytes) = bytes
piece_bytes None = []

-- the first pieces of a snapshot, one after the other
abbrev pub joined : List ℕ → ℕ → List ℕ
joined bytes zero = []
joined bytes (suc n) = joined bytes n ++ piece_bytes (piece bytes n)
