-- The meaning of a script's lines, or the kind of what is wrong with them.
use Rattle.std.specs.Prelude.{ℕ, zero, suc, ◌+◌, ◌-◌, ◌*◌, ◌^◌, option_map, get_or, drop, replicate, ◌++◌, ◌==◌, nat_le, Bool, true, false, not, ◌&&◌, List, [], ◌∷◌, length, take, if◌then◌else◌, Option, Some, None, Result, Ok, Err, codes}
use Rattle.std.specs.List.{list_all}
use Rattle.smart_base.specs.Decimals.{number_of}
use Rattle.smart_base.specs.Lists.{same_bytes}
use Rattle.smart_base.specs.Views.{View, is_view}
use Rattle.reconfig.specs.Changes.{change_text, is_brief}
use Rattle.reconfig.specs.declared.change.Change.{Change}
use Rattle.smart_base.specs.declared.party.Party.{Party}
use Rattle.smart_base.specs.declared.party.Party.TheVariants as parties
use Rattle.smart_base.specs.declared.limits.TheConstants.{FAULTY, LAST_CLIENT, LAST_PERIOD, LAST_VIEW, MARKS, LINE_BYTES, MEMBERS, MESSAGES, PAYLOAD_BYTES}
use Rattle.world_rules.specs.declared.line.App.{App}
use Rattle.world_rules.specs.declared.line.App.TheVariants as apps
use Rattle.smart_statements.specs.declared.statement.Slot.{Slot}
use Rattle.smart_statements.specs.declared.statement.Answer.{Answer}
use Rattle.smart_statements.specs.declared.statement.VoteKind.{VoteKind}
use Rattle.smart_statements.specs.declared.statement.VoteKind.TheVariants.{Write, Accept}
use Rattle.world_rules.specs.declared.crash.Image.{Image}
use Rattle.world_rules.specs.declared.crash.Image.TheVariants as images
use Rattle.world_rules.specs.declared.crash.Patch.{Patch}
use Rattle.world_rules.specs.declared.line.Injection.{Injection}
use Rattle.world_rules.specs.declared.line.Injection.TheVariants as forms
use Rattle.world_rules.specs.declared.line.Line.{Line}
use Rattle.world_rules.specs.declared.line.Line.TheVariants as lines
use Rattle.world_rules.specs.declared.line.Kind.{Kind}
use Rattle.world_rules.specs.declared.line.Kind.TheVariants as kinds

-- the bytes of any line

-- a line whose bytes print; it is not read past byte 65,537, with which it is too long
abbrev pub is_printed : List ℕ → Bool
is_printed bytes = list_all (λ b. nat_le 32 b && nat_le b 126) (take (LINE_BYTES + 1) bytes)

-- a line of at most 65,536 bytes
abbrev pub is_short : List ℕ → Bool
is_short bytes = nat_le (length bytes) LINE_BYTES

-- a line that does nothing: an empty one, or a comment, which begins with #
abbrev pub is_nothing : List ℕ → Bool
is_nothing [] = true
is_nothing (b ∷ bs) = b == 35

-- words

-- words of which the first has one more byte in front
abbrev pub with_byte : ℕ → List (List ℕ) → List (List ℕ)
with_byte b [] = (b ∷ []) ∷ []
with_byte b (word ∷ words) = (b ∷ word) ∷ words

-- the words between single spaces; between two spaces there is an empty word
abbrev pub words_in : List ℕ → List (List ℕ)
words_in [] = [] ∷ []
words_in (b ∷ bs) = if b == 32 then [] ∷ words_in bs else with_byte b (words_in bs)

-- the bytes after the first space
abbrev pub behind_space : List ℕ → List ℕ
behind_space [] = []
behind_space (b ∷ bs) = if b == 32 then bs else behind_space bs

-- a number, if it is in a range
abbrev pub in_range : ℕ → ℕ → Option ℕ → Option ℕ
in_range least most None = None
in_range least most (Some n) = if nat_le least n && nat_le n most then Some n else None

abbrev pub number_in : ℕ → ℕ → List ℕ → Option ℕ
number_in least most word = in_range least most (number_of word)

abbrev pub member_of : List ℕ → Option ℕ
member_of word = number_in 1 65535 word

-- a client: the view manager, which is client 0, or another one
abbrev pub client_of : List ℕ → Option ℕ
client_of word = number_in 0 LAST_CLIENT word

-- a client that asks for operations of the service: any but the view manager
abbrev pub asker_of : List ℕ → Option ℕ
asker_of word = number_in 1 LAST_CLIENT word

-- the values of words, if each word gives one
abbrev pub with_value : {A : Type 0} → Option A → Option (List A) → Option (List A)
with_value None xs = None
with_value (Some x) None = None
with_value (Some x) (Some xs) = Some (x ∷ xs)

abbrev pub each_word : {A : Type 0} → (List ℕ → Option A) → List (List ℕ) → Option (List A)
each_word f [] = Some []
each_word f (word ∷ words) = with_value (f word) (each_word f words)

-- a member or a client, as a word names it: its number, or c and its number
abbrev pub as_member : Option ℕ → Option Party
as_member None = None
as_member (Some id) = Some (parties.Member id)

abbrev pub as_client : Option ℕ → Option Party
as_client None = None
as_client (Some id) = Some (parties.Client id)

abbrev pub party_of_word : List ℕ → Option Party
party_of_word [] = None
party_of_word (b ∷ bs) = if b == 99 then as_client (client_of bs) else as_member (member_of (b ∷ bs))

-- a line that needs a number, or else the kind of what is wrong
abbrev pub or_number : {A : Type 0} → (A → Line) → Option A → Result Line Kind
or_number make None = Err kinds.Number
or_number make (Some x) = Ok (make x)

-- the lines after the header, by their words

-- the line `ask`: an operation is the rest of the line, of at most 4,096 bytes
abbrev pub ask_with : List ℕ → Option ℕ → Result Line Kind
ask_with op None = Err kinds.Number
ask_with op (Some client) = if nat_le (length op) PAYLOAD_BYTES then Ok (lines.Ask client op) else Err kinds.Form

abbrev pub ask_line : List ℕ → List (List ℕ) → Result Line Kind
ask_line bytes [] = Err kinds.Count
ask_line bytes (client ∷ []) = Err kinds.Count
ask_line bytes (client ∷ op ∷ more) = ask_with (behind_space (behind_space bytes)) (asker_of client)

-- the line `change`: how many members may be faulty from then on, and all members from then on. These are any numbers of 16 bits, in any order.
-- The operation that asks for the change has at most 4,096 bytes.
abbrev pub changed_member_of : List ℕ → Option ℕ
changed_member_of word = number_in 0 65535 word

abbrev pub change_if : Change → Result Line Kind
change_if c = if is_brief c then Ok (lines.Change (change_text c)) else Err kinds.Form

abbrev pub change_with : Option ℕ → Option (List ℕ) → Result Line Kind
change_with None members = Err kinds.Number
change_with (Some f) None = Err kinds.Number
change_with (Some f) (Some members) = change_if (record { f = f; members = members })

abbrev pub change_line : List (List ℕ) → Result Line Kind
change_line [] = Err kinds.Count
change_line (f ∷ []) = Err kinds.Count
change_line (f ∷ member ∷ more) = change_with (number_in 0 255 f) (each_word changed_member_of (member ∷ more))

abbrev pub again_line : List (List ℕ) → Result Line Kind
again_line [] = Err kinds.Count
again_line (client ∷ []) = or_number lines.Again (client_of client)
again_line (client ∷ next ∷ more) = Err kinds.Count

abbrev pub tell_with : Option ℕ → Option ℕ → Result Line Kind
tell_with None to = Err kinds.Number
tell_with (Some from) None = Err kinds.Number
tell_with (Some from) (Some to) = Ok (lines.Tell from to)

abbrev pub told_line : List (List ℕ) → Result Line Kind
told_line [] = Err kinds.Count
told_line (from ∷ []) = Err kinds.Count
told_line (from ∷ to ∷ []) = tell_with (client_of from) (client_of to)
told_line (from ∷ to ∷ next ∷ more) = Err kinds.Count

abbrev pub flow_line : List (List ℕ) → Result Line Kind
flow_line members = or_number lines.Flow (each_word member_of members)

abbrev pub give_to : Option ℕ → Option (List Party) → Result Line Kind
give_to None to = Err kinds.Number
give_to (Some number) None = Err kinds.Number
give_to (Some number) (Some to) = Ok (lines.Give number to)

abbrev pub give_line : List (List ℕ) → Result Line Kind
give_line [] = Err kinds.Count
give_line (number ∷ []) = Err kinds.Count
give_line (number ∷ to ∷ more) = give_to (number_in 1 MESSAGES number) (each_word party_of_word (to ∷ more))

abbrev pub deliver_line : List (List ℕ) → Result Line Kind
deliver_line [] = Err kinds.Count
deliver_line (member ∷ more) = or_number lines.Deliver (each_word member_of (member ∷ more))

abbrev pub tick_line : List (List ℕ) → Result Line Kind
tick_line [] = Err kinds.Count
tick_line (member ∷ more) = or_number lines.Tick (each_word member_of (member ∷ more))

abbrev pub settle_line : List (List ℕ) → Result Line Kind
settle_line [] = Err kinds.Count
settle_line (word ∷ []) = if same_bytes word (codes "all") then Ok lines.SettleAll else or_number lines.Settle (member_of word)
settle_line (word ∷ next ∷ more) = Err kinds.Count

-- the line `disk`: a member, and the number of device calls, 1 if none is named
abbrev pub disk_with : Option ℕ → Option ℕ → Result Line Kind
disk_with None count = Err kinds.Number
disk_with (Some member) None = Err kinds.Number
disk_with (Some member) (Some count) = Ok (lines.Disk member count)

abbrev pub disk_line : List (List ℕ) → Result Line Kind
disk_line [] = Err kinds.Count
disk_line (member ∷ []) = disk_with (member_of member) (Some 1)
disk_line (member ∷ count ∷ []) = disk_with (member_of member) (number_in 1 1000 count)
disk_line (member ∷ count ∷ next ∷ more) = Err kinds.Count

-- the value of a digit from 0 to 9 or from a to f
abbrev pub hex_value : ℕ → Option ℕ
hex_value b =
    if nat_le 48 b && nat_le b 57 then Some (b - 48)
    else if nat_le 97 b && nat_le b 102 then Some (b - 87)
    else None

abbrev pub byte_by : Option ℕ → Option ℕ → Option ℕ
byte_by None low = None
byte_by (Some high) None = None
byte_by (Some high) (Some low) = Some (16 * high + low)

-- the bytes that pairs of digits stand for
abbrev pub hex_bytes : List ℕ → Option (List ℕ)
hex_bytes [] = Some []
hex_bytes (high ∷ []) = None
hex_bytes (high ∷ low ∷ digits) = with_value (byte_by (hex_value high) (hex_value low)) (hex_bytes digits)

-- the image that a crash leaves: `old` or `new`
abbrev pub image_of : List ℕ → Option Image
image_of word =
    if same_bytes word (codes "old") then Some images.Old
    else if same_bytes word (codes "new") then Some images.New
    else None

-- the parts of a word before and after the first byte of a kind
abbrev pub parted_at : ℕ → List ℕ → Option (List ℕ × List ℕ)
parted_at sign [] = None
parted_at sign (b ∷ bs) = if b == sign then Some ([], bs) else option_map (λ parts. (b ∷ parts.0, parts.1)) (parted_at sign bs)

abbrev pub patch_with : Option ℕ → Option ℕ → Option (List ℕ) → Result Patch Kind
patch_with None at hex = Err kinds.Number
patch_with (Some device) None hex = Err kinds.Number
patch_with (Some device) (Some at) None = Err kinds.Form
patch_with (Some device) (Some at) (Some []) = Err kinds.Form
patch_with (Some device) (Some at) (Some (b ∷ bs)) = Ok (record { device = device; at = at; bytes = b ∷ bs })

-- a patch, of the form D@AT=HEX
abbrev pub patch_at : List ℕ → Option (List ℕ × List ℕ) → Result Patch Kind
patch_at device None = Err kinds.Form
patch_at device (Some (at, hex)) = patch_with (number_in 0 3 device) (number_in 0 (2 ^ 64 - 1) at) (hex_bytes hex)

abbrev pub patch_in : Option (List ℕ × List ℕ) → Result Patch Kind
patch_in None = Err kinds.Form
patch_in (Some (device, rest)) = patch_at device (parted_at 61 rest)

abbrev pub patch_of : List ℕ → Result Patch Kind
patch_of word = patch_in (parted_at 64 word)

-- the first of two kinds of wrong patches: a number comes before a form
abbrev pub before : Kind → Kind → Kind
before kinds.Number other = kinds.Number
before kinds.Form other = other
before kinds.Empty other = other
before kinds.Byte other = other
before kinds.Long other = other
before kinds.Header other = other
before kinds.Word other = other
before kinds.Count other = other
before kinds.Refer other = other

-- all patches, or the kind of what is wrong with them
abbrev pub with_patch : Result Patch Kind → Result (List Patch) Kind → Result (List Patch) Kind
with_patch (Ok p) (Ok ps) = Ok (p ∷ ps)
with_patch (Ok p) (Err kind) = Err kind
with_patch (Err kind) (Ok ps) = Err kind
with_patch (Err kind) (Err other) = Err (before kind other)

abbrev pub patches_of : List (List ℕ) → Result (List Patch) Kind
patches_of [] = Ok []
patches_of (word ∷ words) = with_patch (patch_of word) (patches_of words)

-- the line `crash` of one member; a wrong number comes first
abbrev pub crash_by : Option ℕ → Option Image → Result (List Patch) Kind → Result Line Kind
crash_by None image patches = Err kinds.Number
crash_by (Some member) None (Ok patches) = Err kinds.Form
crash_by (Some member) None (Err kind) = Err kind
crash_by (Some member) (Some image) (Ok patches) = Ok (lines.Crash member image patches)
crash_by (Some member) (Some image) (Err kind) = Err kind

abbrev pub crash_all_by : Option Image → Result Line Kind
crash_all_by None = Err kinds.Form
crash_all_by (Some image) = Ok (lines.CrashAll image)

-- the line `crash all`, which has no patches
abbrev pub crash_all_line : List ℕ → List (List ℕ) → Result Line Kind
crash_all_line image [] = crash_all_by (image_of image)
crash_all_line image (patch ∷ more) = Err kinds.Count

abbrev pub crash_line : List (List ℕ) → Result Line Kind
crash_line [] = Err kinds.Count
crash_line (member ∷ []) = Err kinds.Count
crash_line (member ∷ image ∷ patches) =
    if same_bytes member (codes "all") then crash_all_line image patches
    else crash_by (member_of member) (image_of image) (patches_of patches)

abbrev pub restart_line : List (List ℕ) → Result Line Kind
restart_line [] = Err kinds.Count
restart_line (word ∷ []) = if same_bytes word (codes "all") then Ok lines.RestartAll else or_number lines.Restart (member_of word)
restart_line (word ∷ next ∷ more) = Err kinds.Count

abbrev pub show_line : List (List ℕ) → Result Line Kind
show_line [] = Ok lines.Show
show_line (word ∷ words) = Err kinds.Count

-- the line `node`: one member
abbrev pub node_line : List (List ℕ) → Result Line Kind
node_line [] = Err kinds.Count
node_line (member ∷ []) = or_number lines.Node (member_of member)
node_line (member ∷ next ∷ more) = Err kinds.Count

-- a member, or a client, that breaks the rules

-- the lines that declare a member faulty, or a client rogue
abbrev pub faulty_line : List (List ℕ) → Result Line Kind
faulty_line [] = Err kinds.Count
faulty_line (member ∷ []) = or_number lines.Faulty (member_of member)
faulty_line (member ∷ next ∷ more) = Err kinds.Count

abbrev pub rogue_line : List (List ℕ) → Result Line Kind
rogue_line [] = Err kinds.Count
rogue_line (client ∷ []) = or_number lines.Rogue (client_of client)
rogue_line (client ∷ next ∷ more) = Err kinds.Count

-- injections: each number of a form has its range, in order

-- a range: the least and the greatest number
pub record Range : Type 0 where
  pub least : ℕ
  pub most : ℕ

abbrev pub range : ℕ → ℕ → Range
range least most = record { least = least; most = most }

-- the numbers of words, one for each range and in it
abbrev pub numbers_in : List Range → List (List ℕ) → Option (List ℕ)
numbers_in [] words = Some []
numbers_in (r ∷ ranges) [] = None
numbers_in (r ∷ ranges) (word ∷ words) = with_value (number_in r.least r.most word) (numbers_in ranges words)

abbrev pub members : Range
members = range 1 65535

abbrev pub small_numbers : Range
small_numbers = range 0 (2 ^ 32 - 1)

-- the range of places, and of the numbers of requests
abbrev pub places : Range
places = range 1 (2 ^ 63 - 1)

abbrev pub numbers_of_messages : Range
numbers_of_messages = range 1 MESSAGES

-- the ranges of S V K R
abbrev pub of_slot : List Range
of_slot = members ∷ small_numbers ∷ places ∷ small_numbers ∷ []

abbrev pub nth : List ℕ → ℕ → ℕ
nth numbers i = get_or numbers i 0

-- the slot that V K R name, after S
abbrev pub slot_in : List ℕ → Slot
slot_in numbers = record { view = nth numbers 1; place = nth numbers 2; regency = nth numbers 3 }

-- an injection by its numbers, or else the kind of what is wrong
abbrev pub form_of : (List ℕ → Result Injection Kind) → Option (List ℕ) → Result Injection Kind
form_of make None = Err kinds.Number
form_of make (Some numbers) = make numbers

-- the bytes after some spaces
abbrev pub behind_spaces : ℕ → List ℕ → List ℕ
behind_spaces zero bytes = bytes
behind_spaces (suc n) bytes = behind_spaces n (behind_space bytes)

-- an injection with an operation or a reply, of at most 4,096 bytes
abbrev pub with_text : (List ℕ → Injection) → List ℕ → Result Injection Kind
with_text make text = if nat_le (length text) PAYLOAD_BYTES then Ok (make text) else Err kinds.Form

-- ask C SEQ AFTER OP: the operation is the rest of the line
abbrev pub ask_form : List ℕ → List (List ℕ) → Result Injection Kind
ask_form bytes words =
    if nat_le 4 (length words)
    then form_of (λ ns. with_text (forms.Ask (nth ns 0) (nth ns 1) (nth ns 2)) (behind_spaces 5 bytes))
    (numbers_in (range 0 LAST_CLIENT ∷ places ∷ range 0 (2 ^ 64 - 1) ∷ []) words)
    else Err kinds.Count

-- propose S V K R NUM..: 1 to 64 requests
abbrev pub propose_form : List (List ℕ) → Result Injection Kind
propose_form words =
    if nat_le 5 (length words) && nat_le (length words) 68
    then form_of (λ ns. Ok (forms.Propose (nth ns 0) (slot_in ns) (drop 4 ns)))
    (numbers_in (of_slot ++ replicate (length words - 4) numbers_of_messages) words)
    else Err kinds.Count

-- write or accept S V K R NUM
abbrev pub vote_form : VoteKind → List (List ℕ) → Result Injection Kind
vote_form kind words =
    if length words == 5
    then form_of (λ ns. Ok (forms.Vote kind (nth ns 0) (slot_in ns) (nth ns 4))) (numbers_in (of_slot ++ numbers_of_messages ∷ []) words)
    else Err kinds.Count

-- the ranges of S V R
abbrev pub of_turn : List Range
of_turn = members ∷ small_numbers ∷ small_numbers ∷ []

-- stop S V R
abbrev pub stop_form : List (List ℕ) → Result Injection Kind
stop_form words =
    if length words == 3
    then form_of (λ ns. Ok (forms.Stop (nth ns 0) (nth ns 1) (nth ns 2))) (numbers_in of_turn words)
    else Err kinds.Count

-- a dash for nothing, or the number of a message
abbrev pub message_or_none : List ℕ → Option (Option ℕ)
message_or_none word =
    if same_bytes word (codes "-") then Some None
    else option_map (λ n. Some n) (number_in 1 MESSAGES word)

abbrev pub stopdata_by : List ℕ → Option (Option ℕ) → Option (Option ℕ) → Result Injection Kind
stopdata_by ns None lock = Err kinds.Number
stopdata_by ns (Some decision) None = Err kinds.Number
stopdata_by ns (Some decision) (Some lock) = Ok (forms.StopData (nth ns 0) (nth ns 1) (nth ns 2) decision lock)

-- EV LOCK
abbrev pub stopdata_behind : List ℕ → List (List ℕ) → Result Injection Kind
stopdata_behind ns [] = Err kinds.Count
stopdata_behind ns (decision ∷ []) = Err kinds.Count
stopdata_behind ns (decision ∷ lock ∷ []) = stopdata_by ns (message_or_none decision) (message_or_none lock)
stopdata_behind ns (decision ∷ lock ∷ next ∷ more) = Err kinds.Count

-- stopdata S V R EV LOCK
abbrev pub stopdata_form : List (List ℕ) → Result Injection Kind
stopdata_form words =
    if length words == 5
    then form_of (λ ns. stopdata_behind ns (drop 3 words)) (numbers_in of_turn words)
    else Err kinds.Count

abbrev pub sync_with : List ℕ → Option (List ℕ) → Result Injection Kind
sync_with ns None = Err kinds.Number
sync_with ns (Some reports) = Ok (forms.Sync (nth ns 0) (nth ns 1) (nth ns 2) reports)

-- sync S V R NUM..: any number of reports
abbrev pub sync_form : List (List ℕ) → Result Injection Kind
sync_form words =
    if nat_le 3 (length words)
    then form_of (λ ns. sync_with ns (each_word (number_in 1 MESSAGES) (drop 3 words))) (numbers_in of_turn words)
    else Err kinds.Count

-- reply S V K I C SEQ TEXT: the text is the rest of the line
abbrev pub answer_in : List ℕ → List ℕ → Answer
answer_in ns text = record { view = nth ns 1; place = nth ns 2; index = nth ns 3; client = nth ns 4; seq = nth ns 5; reply = text }

abbrev pub reply_form : List ℕ → List (List ℕ) → Result Injection Kind
reply_form bytes words =
    if nat_le 7 (length words)
    then form_of (λ ns. with_text (λ text. forms.Reply (nth ns 0) (answer_in ns text)) (behind_spaces 8 bytes))
    (numbers_in (members ∷ small_numbers ∷ places ∷ range 0 65535 ∷ range 0 LAST_CLIENT ∷ places ∷ []) words)
    else Err kinds.Count

-- the f that a word states; 0 if it is no number to 10
abbrev pub f_stated : Option ℕ → ℕ
f_stated None = 0
f_stated (Some f) = f

abbrev pub f_of : List (List ℕ) → ℕ
f_of [] = 0
f_of (word ∷ words) = f_stated (number_in 0 FAULTY word)

-- whether S V START F stand before 3F+1 to 31 members
abbrev pub is_view_form : List (List ℕ) → Bool
is_view_form words = nat_le (4 + (3 * f_of (drop 3 words) + 1)) (length words) && nat_le (length words) (4 + MEMBERS)

-- an injection of a view, if its parts make one: no member is named twice, and they ascend
abbrev pub view_if : ℕ → View → Result Injection Kind
view_if signer view = if is_view view then Ok (forms.View signer view) else Err kinds.Number

abbrev pub view_with : List ℕ → Option (List ℕ) → Result Injection Kind
view_with ns None = Err kinds.Number
view_with ns (Some ids) = view_if (nth ns 0) (record { number = nth ns 1; start = nth ns 2; f = nth ns 3; members = ids })

-- view S V START F M..
abbrev pub view_form : List (List ℕ) → Result Injection Kind
view_form words =
    if is_view_form words
    then form_of (λ ns. view_with ns (each_word member_of (drop 4 words))) (numbers_in (members ∷ range 0 LAST_VIEW ∷ range 1 (2 ^ 63) ∷ range 0 FAULTY ∷ []) words)
    else Err kinds.Count

-- a digest of 32 bytes, by pairs of digits
abbrev pub digest_by : Option (List ℕ) → Option (List ℕ)
digest_by None = None
digest_by (Some bytes) = if length bytes == 32 then Some bytes else None

abbrev pub mark_with : List ℕ → Option (List ℕ) → Result Injection Kind
mark_with ns None = Err kinds.Form
mark_with ns (Some digest) = Ok (forms.Mark (nth ns 0) (nth ns 1) digest)

-- HEX64
abbrev pub mark_behind : List ℕ → List (List ℕ) → Result Injection Kind
mark_behind ns [] = Err kinds.Count
mark_behind ns (word ∷ words) = mark_with ns (digest_by (hex_bytes word))

-- mark S K HEX64
abbrev pub mark_form : List (List ℕ) → Result Injection Kind
mark_form words =
    if length words == 3
    then form_of (λ ns. mark_behind ns (drop 2 words)) (numbers_in (members ∷ places ∷ []) words)
    else Err kinds.Count

-- the range of places from 0 on
abbrev pub early_places : Range
early_places = range 0 (2 ^ 63 - 1)

-- stateask M Q FETCH
abbrev pub stateask_form : List (List ℕ) → Result Injection Kind
stateask_form words =
    if length words == 3
    then form_of (λ ns. Ok (forms.StateAsk (nth ns 0) (nth ns 1) (nth ns 2))) (numbers_in (members ∷ early_places ∷ early_places ∷ []) words)
    else Err kinds.Count

abbrev pub offer_with : List ℕ → Option (List ℕ) → Result Injection Kind
offer_with ns None = Err kinds.Number
offer_with ns (Some numbers) = Ok (forms.Offer (nth ns 0) (nth ns 1) (nth ns 2) numbers)

-- offer M K SIZE NUM..: at most 64 marks
abbrev pub offer_form : List (List ℕ) → Result Injection Kind
offer_form words =
    if nat_le 3 (length words) && nat_le (length words) (3 + MARKS)
    then form_of (λ ns. offer_with ns (each_word (number_in 1 MESSAGES) (drop 3 words))) (numbers_in (members ∷ early_places ∷ small_numbers ∷ []) words)
    else Err kinds.Count

abbrev pub part_with : List ℕ → Option (List ℕ) → Result Injection Kind
part_with ns None = Err kinds.Form
part_with ns (Some []) = Err kinds.Form
part_with ns (Some (b ∷ bs)) = Ok (forms.Part (nth ns 0) (nth ns 1) (nth ns 2) (b ∷ bs))

-- HEX: one byte or more
abbrev pub part_behind : List ℕ → List (List ℕ) → Result Injection Kind
part_behind ns [] = Err kinds.Count
part_behind ns (word ∷ words) = part_with ns (hex_bytes word)

-- part K INDEX TOTAL HEX
abbrev pub part_form : List (List ℕ) → Result Injection Kind
part_form words =
    if length words == 4
    then form_of (λ ns. part_behind ns (drop 3 words)) (numbers_in (places ∷ small_numbers ∷ small_numbers ∷ []) words)
    else Err kinds.Count

-- raw HEX: one byte or more
abbrev pub raw_by : Option (List ℕ) → Result Injection Kind
raw_by None = Err kinds.Form
raw_by (Some []) = Err kinds.Form
raw_by (Some (b ∷ bs)) = Ok (forms.Raw (b ∷ bs))

abbrev pub raw_form : List (List ℕ) → Result Injection Kind
raw_form [] = Err kinds.Count
raw_form (word ∷ []) = raw_by (hex_bytes word)
raw_form (word ∷ next ∷ more) = Err kinds.Count

-- an injection, by its first word
abbrev pub form_by : List ℕ → List (List ℕ) → Result Injection Kind
form_by bytes [] = Err kinds.Count
form_by bytes (word ∷ words) =
    if same_bytes word (codes "ask") then ask_form bytes words
    else if same_bytes word (codes "propose") then propose_form words
    else if same_bytes word (codes "write") then vote_form Write words
    else if same_bytes word (codes "accept") then vote_form Accept words
    else if same_bytes word (codes "stop") then stop_form words
    else if same_bytes word (codes "stopdata") then stopdata_form words
    else if same_bytes word (codes "sync") then sync_form words
    else if same_bytes word (codes "reply") then reply_form bytes words
    else if same_bytes word (codes "view") then view_form words
    else if same_bytes word (codes "mark") then mark_form words
    else if same_bytes word (codes "stateask") then stateask_form words
    else if same_bytes word (codes "offer") then offer_form words
    else if same_bytes word (codes "part") then part_form words
    else if same_bytes word (codes "raw") then raw_form words
    else Err kinds.Word

abbrev pub injecting : Result Injection Kind → Result Line Kind
injecting (Ok form) = Ok (lines.Inject form)
injecting (Err kind) = Err kind

abbrev pub line_by : List ℕ → List (List ℕ) → Result Line Kind
line_by bytes [] = Err kinds.Word
line_by bytes (word ∷ words) =
    if same_bytes word (codes "ask") then ask_line bytes words
    else if same_bytes word (codes "change") then change_line words
    else if same_bytes word (codes "again") then again_line words
    else if same_bytes word (codes "told") then told_line words
    else if same_bytes word (codes "flow") then flow_line words
    else if same_bytes word (codes "give") then give_line words
    else if same_bytes word (codes "deliver") then deliver_line words
    else if same_bytes word (codes "tick") then tick_line words
    else if same_bytes word (codes "settle") then settle_line words
    else if same_bytes word (codes "disk") then disk_line words
    else if same_bytes word (codes "crash") then crash_line words
    else if same_bytes word (codes "restart") then restart_line words
    else if same_bytes word (codes "show") then show_line words
    else if same_bytes word (codes "node") then node_line words
    else if same_bytes word (codes "faulty") then faulty_line words
    else if same_bytes word (codes "rogue") then rogue_line words
    else if same_bytes word (codes "inject") then injecting (form_by bytes words)
    else Err kinds.Word

-- the meaning of a line after the header, or the first kind of what is wrong with it
unfoldable pub line_of : List ℕ → Result Line Kind
line_of bytes =
    if not (is_printed bytes) then Err kinds.Byte
    else if not (is_short bytes) then Err kinds.Long
    else if is_nothing bytes then Ok lines.Nothing
    else line_by bytes (words_in bytes)

-- the header

-- members with successive numbers, from a first number on
unfoldable pub members_from : ℕ → ℕ → List ℕ
members_from first zero = []
members_from first (suc count) = first ∷ members_from (first + 1) count

-- the first view of a group of n members, of which f may be faulty
abbrev pub view_for : Option ℕ → Option ℕ → Option View
view_for None f = None
view_for (Some n) None = None
view_for (Some n) (Some f) =
    if nat_le 1 n && nat_le n MEMBERS && nat_le f FAULTY && nat_le (3 * f + 1) n
    then Some (record { number = 0; start = 1; f = f; members = members_from 1 n })
    else None

abbrev pub group_words : List (List ℕ) → Option View
group_words [] = None
group_words (n ∷ []) = None
group_words (n ∷ f ∷ []) = view_for (number_of n) (number_of f)
group_words (n ∷ f ∷ more ∷ words) = None

abbrev pub group_by : List (List ℕ) → Option View
group_by [] = None
group_by (word ∷ words) = if same_bytes word (codes "group") then group_words words else None

-- the view that the line `group N F` states, if it is one
unfoldable pub group_line : List ℕ → Option View
group_line bytes = group_by (words_in bytes)

-- the service that the line `app count` or `app kv` names, if it is one
unfoldable pub app_line : List ℕ → Option App
app_line bytes =
    if same_bytes bytes (codes "app count") then Some apps.Count
    else if same_bytes bytes (codes "app kv") then Some apps.Kv
    else None

-- a line whose first word is `period`
abbrev pub is_period : List (List ℕ) → Bool
is_period [] = false
is_period (word ∷ words) = same_bytes word (codes "period")

-- the number that the only other word of the line `period P` states: from the number of members to 1,048,576
abbrev pub period_words : ℕ → List (List ℕ) → Option ℕ
period_words least [] = None
period_words least (word ∷ []) = None
period_words least (word ∷ number ∷ []) = number_in least LAST_PERIOD number
period_words least (word ∷ number ∷ more ∷ words) = None

-- the period that the line `period P` states in a group of so many members, if it states one; nothing at all, if it is another line
unfoldable pub period_line : ℕ → List ℕ → Option (Option ℕ)
period_line least bytes = if is_period (words_in bytes) then Some (period_words least (words_in bytes)) else None
