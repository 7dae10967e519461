-- The script of a load: the lines that follow from a number of asks.
use Rattle.std.specs.Prelude.{ℕ, zero, suc, ◌+◌, ◌-◌, ◌*◌, ◌%◌, ◌^◌, ◌==◌, ◌||◌, List, [], ◌∷◌, ◌++◌, map, codes, if◌then◌else◌}
use Rattle.std.specs.Fmt.{decimal}
use Rattle.load_maker.specs.declared.line.LoadLine.{LoadLine}
use Rattle.load_maker.specs.declared.line.LoadLine.TheVariants as lines

-- the number that is drawn behind a number
unfoldable pub drawn : ℕ → ℕ
drawn x = (1103515245 * x + 12345) % 2 ^ 31

-- the client of ask i: eight clients ask in turn
abbrev pub asker : ℕ → ℕ
asker i = 1 + (i - 1) % 8

-- the amount of an ask for which x was drawn
abbrev pub amount : ℕ → ℕ
amount x = 1 + x % 100

-- the member that crashes where x was drawn for it
abbrev pub crasher : ℕ → ℕ
crasher x = 1 + x % 4

-- after each eighth ask and after the last of n all messages flow
abbrev pub flow_lines : ℕ → ℕ → List LoadLine
flow_lines n i = if i % 8 == 0 || i == n then lines.Flow ∷ [] else []

-- after each 64th ask a member, for which x was drawn, crashes and restarts
abbrev pub crash_lines : ℕ → ℕ → List LoadLine
crash_lines i x = if i % 64 == 0 then lines.Crash (crasher x) ∷ lines.Restart (crasher x) ∷ [] else []

-- the lines of ask i of n, for which x was drawn
abbrev pub ask_lines : ℕ → ℕ → ℕ → List LoadLine
ask_lines n i x = lines.Ask (asker i) (amount x) ∷ (flow_lines n i ++ crash_lines i (drawn x))

-- the number that was drawn last in these lines
abbrev pub last_drawn : ℕ → ℕ → ℕ
last_drawn i x = if i % 64 == 0 then drawn x else x

-- the lines of the last `more` asks of n, before which x was drawn
abbrev pub asks_left : ℕ → ℕ → ℕ → List LoadLine
asks_left n zero x = []
asks_left n (suc more) x = ask_lines n (n - more) (drawn x) ++ asks_left n more (last_drawn (n - more) (drawn x))

-- the lines of a load of n asks
abbrev pub load_lines : ℕ → List LoadLine
load_lines n = lines.Group ∷ lines.App ∷ lines.Period ∷ asks_left n n n

-- the text of a line, without a line feed
abbrev pub line_text : LoadLine → List ℕ
line_text lines.Group = codes "group 4 1"
line_text lines.App = codes "app count"
line_text lines.Period = codes "period 16"
line_text (lines.Ask client amount) = codes "ask " ++ (decimal client ++ (32 ∷ decimal amount))
line_text lines.Flow = codes "flow"
line_text (lines.Crash member) = codes "crash " ++ (decimal member ++ codes " new")
line_text (lines.Restart member) = codes "restart " ++ decimal member

-- the script of a load of n asks: the texts of its lines
abbrev pub load_script : ℕ → List (List ℕ)
load_script n = map line_text (load_lines n)
