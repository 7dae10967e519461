-- The options of `node` and `group`, and the values that they may have.
use Rattle.std.specs.Prelude.{ℕ, ◌+◌, ◌*◌, ◌^◌, ◌==◌, nat_le, Bool, true, ◌&&◌, ◌||◌, List, [], ◌∷◌, ◌++◌, take, drop, length, Option, Some, None, option_and_then, Result, Ok, Err, if◌then◌else◌, codes}
use Rattle.std.specs.List.{list_all, position}
use Rattle.clap.specs.Words.{Row, Rule, Shape, Text, new_rule}
use Rattle.clap.specs.Simple.{new_shape}
use Rattle.clap.specs.Walk.{first_of}
use Rattle.hex.specs.Hex.{decode_of}
use Rattle.hex.specs.declared.error.FromHexError.{FromHexError}
use Rattle.smart_base.specs.Decimals.{number_of}
use Rattle.smart_base.specs.declared.limits.TheConstants.{FAULTY, LAST_PERIOD, MEMBERS, PERIOD}
use Rattle.command_words.specs.declared.node_words.GroupSize.{GroupSize}
use Rattle.command_words.specs.declared.node_words.GroupWords.{GroupWords}
use Rattle.command_words.specs.declared.node_words.NodeWords.{NodeWords}

-- ---- the options

-- an option with one value
abbrev pub option_rule : Text → Rule
option_rule name = record (new_rule name) { long = Some name; value_names = 1 }

-- the same, which has to be there
abbrev pub needed_rule : Text → Rule
needed_rule name = record (option_rule name) { required = true }

-- a command with one more option
abbrev pub with_option : Shape → Rule → Shape
with_option s option = record s { rules = s.rules ++ option ∷ [] }

-- the subcommand `node`: four options that have to be there, and one that need not
abbrev pub node_shape : Shape
node_shape = record (new_shape (codes "node")) {
  rules = needed_rule (codes "id") ∷ needed_rule (codes "dir") ∷ needed_rule (codes "secret") ∷ needed_rule (codes "group") ∷ option_rule (codes "period") ∷ [];
}

-- the subcommand `group`: six options that have to be there
abbrev pub group_shape : Shape
group_shape = record (new_shape (codes "group")) {
  rules = needed_rule (codes "n") ∷ needed_rule (codes "f") ∷ needed_rule (codes "period") ∷ needed_rule (codes "turns") ∷ needed_rule (codes "asks") ∷ needed_rule (codes "dir") ∷ [];
}

-- ---- their values

-- the second step, if the first gives a value
infixl 10 ◌>>=◌
abbrev pub ◌>>=◌ : {A B : Type 0} → Option A → (A → Option B) → Option B
o >>= f = option_and_then f o

-- a number of a range
abbrev pub in_range : ℕ → ℕ → Option ℕ → Option ℕ
in_range least most None = None
in_range least most (Some n) = if nat_le least n && nat_le n most then Some n else None

-- a word that is a number of a range, in decimal without leading zeros
unfoldable pub number_in : ℕ → ℕ → Text → Option ℕ
number_in least most word = in_range least most (number_of word)

-- the member of a number: 1 to 65,535
abbrev pub member_of : Text → Option ℕ
member_of word = number_in 1 65535 word

-- a group of so many members, of which so many may be faulty: more than three times as many are members
abbrev pub group_with : Option ℕ → Option ℕ → Option GroupSize
group_with None faulty = None
group_with (Some members) None = None
group_with (Some members) (Some faulty) = if nat_le (3 * faulty + 1) members then Some (record { members = members; faulty = faulty }) else None

-- the group of two numbers that a byte at this index parts
abbrev pub group_at : Text → Option ℕ → Option GroupSize
group_at word None = None
group_at word (Some at) =
    group_with (number_in 1 MEMBERS (take at word)) (number_in 0 FAULTY (drop 1 (drop at word)))

-- the index of the first comma of a word, if there is one
unfoldable pub comma_in : Text → Option ℕ
comma_in word = position (λ b. b == 44) word

-- the group that a word N,F is
abbrev pub group_of : Text → Option GroupSize
group_of word = group_at word (comma_in word)

-- a digit from 0 to 9 or from a to f
abbrev pub is_lower_digit : ℕ → Bool
is_lower_digit b = (nat_le 48 b && nat_le b 57) || (nat_le 97 b && nat_le b 102)

-- bytes that were read, if they are 1 to 64
abbrev pub bytes_read : Result (List ℕ) FromHexError → Option (List ℕ)
bytes_read (Ok bytes) = if nat_le 1 (length bytes) && nat_le (length bytes) 64 then Some bytes else None
bytes_read (Err e) = None

-- the secret that a word spells: 1 to 64 bytes, each as two digits
unfoldable pub secret_of : Text → Option (List ℕ)
secret_of word = if list_all is_lower_digit word then bytes_read (decode_of word) else None

-- the period that a word is: a number from that of the members on. Without a word it is the usual one.
abbrev pub period_of : ℕ → Option Text → Option ℕ
period_of members None = Some PERIOD
period_of members (Some word) = number_in members LAST_PERIOD word

-- the node that what was found for the options is, if it is one
abbrev pub node_of : List Row → Option NodeWords
node_of rows = do
  id ← first_of (codes "id") rows >>= member_of
  dir ← first_of (codes "dir") rows
  secret ← first_of (codes "secret") rows >>= secret_of
  group ← first_of (codes "group") rows >>= group_of
  period ← period_of group.members (first_of (codes "period") rows)
  Some (record { id = id; dir = dir; secret = secret; group = group; period = period })

-- the group of as many members as one option says, of which as many may be faulty as another says
abbrev pub group_size_of : List Row → Option GroupSize
group_size_of rows = group_with (first_of (codes "n") rows >>= number_in 1 MEMBERS) (first_of (codes "f") rows >>= number_in 0 FAULTY)

-- the run of a group that what was found for the options is, if it is one
abbrev pub group_run_of : List Row → Option GroupWords
group_run_of rows = do
  group ← group_size_of rows
  period ← first_of (codes "period") rows >>= number_in group.members LAST_PERIOD
  turns ← first_of (codes "turns") rows >>= number_in 0 (2 ^ 63)
  asks ← first_of (codes "asks") rows >>= number_in 0 10000
  dir ← first_of (codes "dir") rows
  Some (record { group = group; period = period; turns = turns; asks = asks; dir = dir })

-- ---- words that are written out

-- the words of `node` with these values, and more words
abbrev pub node_words : Text → Text → Text → Text → List Text → List Text
node_words id dir secret group more =
    codes "node" ∷ codes "--id" ∷ id ∷ codes "--dir" ∷ dir ∷ codes "--secret" ∷ secret ∷ codes "--group" ∷ group ∷ more

-- the node of member 1 in a group of four, with the directory `d`, the secret `sm` and this period
abbrev pub first_node : ℕ → NodeWords
first_node period = record { id = 1; dir = codes "d"; secret = codes "sm"; group = record { members = 4; faulty = 1 }; period = period }

-- the words of `group` with these values, and more words
abbrev pub group_words : Text → Text → Text → Text → Text → List Text → List Text
group_words n f period turns asks more =
    codes "group" ∷ codes "--n" ∷ n ∷ codes "--f" ∷ f ∷ codes "--period" ∷ period ∷ codes "--turns" ∷ turns ∷ codes "--asks" ∷ asks ∷ more

-- the words of its directory `d`
abbrev pub in_d : List Text
in_d = codes "--dir" ∷ codes "d" ∷ []

-- the run of a group of four with the period 8, in the directory `d`
abbrev pub first_group : ℕ → ℕ → GroupWords
first_group turns asks = record { group = record { members = 4; faulty = 1 }; period = 8; turns = turns; asks = asks; dir = codes "d" }
