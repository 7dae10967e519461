-- Each line of a load has a meaning, and names what is there.
use Rattle.std.proofs.Common.{◌≡◌, ◌∙◌, ◌⊎◌, ℕ, zero, suc, ◌+◌, ◌-◌, ◌%◌, ◌^◌, ◌<◌, ◌≤◌, ◌==◌, ◌||◌, ◌&&◌, Bool, true, false, cond, List, [], ◌∷◌, ◌++◌, length, take, map, Option, None, Some, codes, is_some, refl, ap, sym, subst, inl, inr, arith, le-leb}
use Rattle.std.specs.Prelude.{nat_le, Result, Ok, Err, filter}
use Rattle.std.specs.List.{list_all, list_any}
use Rattle.std.specs.Fmt.{decimal}
use Rattle.std.proofs.lemmas.Bool.{and_from}
use Rattle.std.proofs.lemmas.Fmt.{decimal_by_steps, decimal_digit, length-decimal-le}
use Rattle.smart_base.specs.Lists.{Each}
use Rattle.smart_base.specs.Views.{View, is_member}
use Rattle.smart_service.specs.Services.{IsPrintable}
use Rattle.load_maker.specs.Loads.{drawn, crasher, flow_lines, crash_lines, ask_lines, last_drawn, asks_left, line_text}
use Rattle.load_maker.specs.declared.line.LoadLine.{LoadLine}
use Rattle.load_maker.specs.declared.line.LoadLine.TheVariants as lines
use Rattle.app_count.specs.declared.Count.{Count}
use Rattle.app_count.specs.Counts.{counting}
use Rattle.world_rules.specs.Scripts.{with_byte, words_in, ask_line, ask_with, behind_space, asker_of, is_nothing, is_printed, is_short, line_by, line_of, members_from}
use Rattle.world_rules.specs.Worlds.{Host, World, begun, course_of, host_index}
use Rattle.world_rules.specs.Plays.{Play, is_there, line_played, world_after}
use Rattle.world_rules.specs.declared.crash.Image.TheVariants as images
use Rattle.world_rules.specs.declared.line.Header.{Header}
use Rattle.world_rules.specs.declared.line.Kind.TheVariants as kinds
use Rattle.world_rules.specs.declared.line.Line.{Line}
use Rattle.world_rules.specs.declared.line.Line.TheVariants as plain
use Rattle.world_rules.specs.declared.line.OutLine.{OutLine}
use Rattle.world_rules.specs.declared.message.Ending.{Ending}
use Rattle.world_rules.specs.declared.message.Ending.TheVariants as endings
use Rattle.world_script.proofs.Members.{first_view}
use Rattle.world_laws.specs.Promises.{IsHeader, OneListThroughout, world_at}
use Rattle.world_laws.proofs.OneListLaw.{one_list-throughout}
use Rattle.script_play.specs.Apps.{node_courses, play_begun, play_after, play_answer, answer_until, answer_in}
use Rattle.script_play.specs.Readings.{Reading, with_period, closed_of, is_full, line_done, line_taken, played_to, reading_after, refusing, taken_at}
use Rattle.smart_top.specs.Loads.{load_read, IsOfPlay}
use Rattle.script_play.specs.declared.app.AppPlay.TheVariants as plays
use Rattle.script_play.specs.declared.status.Refusal.{Refusal}
use Rattle.script_play.specs.declared.status.Refusal.TheVariants as refusals
use Rattle.script_play.proofs.ReadingLaws.{taken-refused}
use Rattle.smart_top.proofs.ReadingPlays.{IsSound, after-sound, begun-sound}
use Rattle.smart_top.proofs.Ending.{sums_are_brief, sums_are_restored}
use Rattle.smart_top.proofs.LoadHeader.{four, headed, takes-header}
use Rattle.world_laws.proofs.Names.{any_filtered, has_position}

-- ---- a few numbers

by_four : (P : ℕ → Type 0) → P 1 → P 2 → P 3 → P 4 → (n : ℕ) → 1 ≤ n → n ≤ 4 → P n
by_four P a b c d zero least most = absurd (omega (arith, least))
by_four P a b c d (suc zero) least most = a
by_four P a b c d (suc (suc zero)) least most = b
by_four P a b c d (suc (suc (suc zero))) least most = c
by_four P a b c d (suc (suc (suc (suc zero)))) least most = d
by_four P a b c d (suc (suc (suc (suc (suc n))))) least most = absurd (omega (arith, most))

by_eight : (P : ℕ → Type 0) → P 1 → P 2 → P 3 → P 4 → P 5 → P 6 → P 7 → P 8 → (n : ℕ) → 1 ≤ n → n ≤ 8 → P n
by_eight P a b c d e f g h zero least most = absurd (omega (arith, least))
by_eight P a b c d e f g h (suc zero) least most = a
by_eight P a b c d e f g h (suc (suc zero)) least most = b
by_eight P a b c d e f g h (suc (suc (suc zero))) least most = c
by_eight P a b c d e f g h (suc (suc (suc (suc zero)))) least most = d
by_eight P a b c d e f g h (suc (suc (suc (suc (suc zero))))) least most = e
by_eight P a b c d e f g h (suc (suc (suc (suc (suc (suc zero)))))) least most = f
by_eight P a b c d e f g h (suc (suc (suc (suc (suc (suc (suc zero))))))) least most = g
by_eight P a b c d e f g h (suc (suc (suc (suc (suc (suc (suc (suc zero)))))))) least most = h
by_eight P a b c d e f g h (suc (suc (suc (suc (suc (suc (suc (suc (suc n))))))))) least most = absurd (omega (arith, most))

-- ---- what a line means

-- a line behind the header: clients 1 to 8, amounts 1 to 100, members 1 to 4
abbrev IsBehind : LoadLine → Type 0
IsBehind lines.Group = ⊥
IsBehind lines.App = ⊥
IsBehind lines.Period = ⊥
IsBehind (lines.Ask client number) = ((1 ≤ client) × (client ≤ 8)) × ((1 ≤ number) × (number ≤ 100))
IsBehind lines.Flow = Unit {0}
IsBehind (lines.Crash member) = (1 ≤ member) × (member ≤ 4)
IsBehind (lines.Restart member) = (1 ≤ member) × (member ≤ 4)

-- its meaning; the header's lines have none
abbrev meant : LoadLine → Line
meant lines.Group = plain.Nothing
meant lines.App = plain.Nothing
meant lines.Period = plain.Nothing
meant (lines.Ask client number) = plain.Ask client (decimal number)
meant lines.Flow = plain.Flow []
meant (lines.Crash member) = plain.Crash member images.New []
meant (lines.Restart member) = plain.Restart member

-- ---- bytes of a line

-- bytes that print are found to
all_print : (n : ℕ) (bytes : List ℕ) → Each IsPrintable bytes → list_all (λ b. nat_le 32 b && nat_le b 126) (take n bytes) ≡ true
all_print zero bytes prints = refl
all_print (suc n) [] prints = refl
all_print (suc n) (b ∷ bytes) prints =
    and_from (nat_le 32 b && nat_le b 126) (list_all (λ b. nat_le 32 b && nat_le b 126) (take n bytes))
    (and_from (nat_le 32 b) (nat_le b 126) (le-leb 32 b prints.0.0) (le-leb b 126 prints.0.1)) (all_print n bytes prints.1)

-- the digits of a number print
digit_prints : (text : List ℕ) (n : ℕ) → Each IsPrintable text → Each IsPrintable (text ++ (48 + n % 10) ∷ [])
digit_prints [] n h = ((omega arith, omega arith), tt)
digit_prints (byte ∷ text) n h = (h.0, digit_prints text n h.1)

number_prints : (n : ℕ) → n < 2 ^ 64 → Each IsPrintable (decimal n)
number_prints n small =
    decimal_by_steps (λ n text. Each IsPrintable text) (λ n digit. ((omega arith, omega (arith, digit)), tt))
    (λ n text more h. digit_prints text n h) n small

-- some words, of which there is a first
record HasFirst (words : List (List ℕ)) : Type 0 where
  first : List ℕ
  rest : List (List ℕ)
  is : words ≡ first ∷ rest

first_by : (t : Bool) (b : ℕ) (bs : List ℕ) → HasFirst (words_in bs) → HasFirst (cond t ([] ∷ words_in bs) (with_byte b (words_in bs)))
first_by true b bs h = record { first = []; rest = words_in bs; is = refl }
first_by false b bs h = record { first = b ∷ h.first; rest = h.rest; is = ap (λ ws. with_byte b ws) h.is }

first_of : (bs : List ℕ) → HasFirst (words_in bs)
first_of [] = record { first = []; rest = []; is = refl }
first_of (b ∷ bs) = first_by (b == 32) b bs (first_of bs)

-- the meaning of a line that prints, is short, and is no comment
line_when : (bytes : List ℕ) → is_printed bytes ≡ true → is_short bytes ≡ true → is_nothing bytes ≡ false → line_of bytes ≡ line_by bytes (words_in bytes)
unfolding line_of
line_when bytes printed short some = rw (printed, short, some) refl

-- ---- the meaning of each line

-- the bytes behind a word of one byte
behind_digit : (d : ℕ) (op : List ℕ) → (d == 32) ≡ false → behind_space (d ∷ 32 ∷ op) ≡ op
behind_digit d op other = ap (λ t. cond t (32 ∷ op) op) other

-- the words of bytes that begin with a word of one byte
words_digit : (d : ℕ) (op : List ℕ) → (d == 32) ≡ false → words_in (d ∷ 32 ∷ op) ≡ (d ∷ []) ∷ words_in op
words_digit d op other = ap (λ t. cond t ([] ∷ [] ∷ words_in op) ((d ∷ []) ∷ words_in op)) other

-- an ask of a client of one digit
ask_when : (d client : ℕ) (op : List ℕ) → (d == 32) ≡ false → asker_of (d ∷ []) ≡ Some client → nat_le (length op) 4096 ≡ true
    → line_by (97 ∷ 115 ∷ 107 ∷ 32 ∷ d ∷ 32 ∷ op) (words_in (97 ∷ 115 ∷ 107 ∷ 32 ∷ d ∷ 32 ∷ op)) ≡ Ok (plain.Ask client op)
ask_when d client op other is short =
    let bytes : List ℕ = 97 ∷ 115 ∷ 107 ∷ 32 ∷ d ∷ 32 ∷ op in
    ap (λ ws. ask_line bytes ws) (words_digit d op other ∙ ap (λ ws. (d ∷ []) ∷ ws) (first_of op).is)
    ∙ (ap (λ o. ask_with o (asker_of (d ∷ []))) (behind_digit d op other)
    ∙ (ap (λ c. ask_with op c) is ∙ ap (λ t. cond t (Ok (plain.Ask client op)) (Err kinds.Form)) short))

-- the asks of the eight clients
ask_means : (client : ℕ) → 1 ≤ client → client ≤ 8 → (op : List ℕ) → nat_le (length op) 4096 ≡ true
    → line_by (97 ∷ 115 ∷ 107 ∷ 32 ∷ (48 + client) ∷ 32 ∷ op) (words_in (97 ∷ 115 ∷ 107 ∷ 32 ∷ (48 + client) ∷ 32 ∷ op)) ≡ Ok (plain.Ask client op)
ask_means =
    by_eight
    (λ client. (op : List ℕ) → nat_le (length op) 4096 ≡ true
    → line_by (97 ∷ 115 ∷ 107 ∷ 32 ∷ (48 + client) ∷ 32 ∷ op) (words_in (97 ∷ 115 ∷ 107 ∷ 32 ∷ (48 + client) ∷ 32 ∷ op)) ≡ Ok (plain.Ask client op))
    (λ op short. ask_when 49 1 op refl refl short) (λ op short. ask_when 50 2 op refl refl short)
    (λ op short. ask_when 51 3 op refl refl short) (λ op short. ask_when 52 4 op refl refl short)
    (λ op short. ask_when 53 5 op refl refl short) (λ op short. ask_when 54 6 op refl refl short)
    (λ op short. ask_when 55 7 op refl refl short) (λ op short. ask_when 56 8 op refl refl short)

ask_reads : (client number : ℕ) → IsBehind (lines.Ask client number) → line_of (line_text (lines.Ask client number)) ≡ Ok (meant (lines.Ask client number))
ask_reads client number range =
    let op : List ℕ = decimal number in
    let few : length op ≤ 3 = length-decimal-le 3 number (omega arith) (omega (arith, range.1.1)) (omega (arith, range.1.1)) in
    let prints : Each IsPrintable op = number_prints number (omega (arith, range.1.1)) in
    let bytes : List ℕ = 97 ∷ 115 ∷ 107 ∷ 32 ∷ (48 + client) ∷ 32 ∷ op in
    let all : Each IsPrintable bytes =
    ((omega arith, omega arith), ((omega arith, omega arith), ((omega arith, omega arith), ((omega arith, omega arith), ((omega arith, omega (arith, range.0.1)), ((omega arith, omega arith), prints))))))
    in
    rw (decimal_digit client (omega (arith, range.0.1)))
    (line_when bytes (all_print 65537 bytes all) (le-leb (length bytes) 65536 (omega (arith, few))) refl
    ∙ ask_means client range.0.0 range.0.1 op (le-leb (length op) 4096 (omega (arith, few))))

flow_reads : line_of (line_text lines.Flow) ≡ Ok (meant lines.Flow)
unfolding line_of
flow_reads = refl

-- the lines of four members

crash_of : (n : ℕ) → n < 10 → line_of (codes "crash " ++ (((48 + n) ∷ []) ++ codes " new")) ≡ Ok (plain.Crash n images.New [])
    → line_of (line_text (lines.Crash n)) ≡ Ok (meant (lines.Crash n))
crash_of n small reads = rw (decimal_digit n small) reads

crash_reads : (member : ℕ) → 1 ≤ member → member ≤ 4 → line_of (line_text (lines.Crash member)) ≡ Ok (meant (lines.Crash member))
unfolding line_of
crash_reads =
    by_four (λ member. line_of (line_text (lines.Crash member)) ≡ Ok (meant (lines.Crash member)))
    (crash_of 1 (omega arith) refl) (crash_of 2 (omega arith) refl) (crash_of 3 (omega arith) refl) (crash_of 4 (omega arith) refl)

restart_of : (n : ℕ) → n < 10 → line_of (codes "restart " ++ ((48 + n) ∷ [])) ≡ Ok (plain.Restart n)
    → line_of (line_text (lines.Restart n)) ≡ Ok (meant (lines.Restart n))
restart_of n small reads = rw (decimal_digit n small) reads

restart_reads : (member : ℕ) → 1 ≤ member → member ≤ 4 → line_of (line_text (lines.Restart member)) ≡ Ok (meant (lines.Restart member))
unfolding line_of
restart_reads =
    by_four (λ member. line_of (line_text (lines.Restart member)) ≡ Ok (meant (lines.Restart member)))
    (restart_of 1 (omega arith) refl) (restart_of 2 (omega arith) refl) (restart_of 3 (omega arith) refl) (restart_of 4 (omega arith) refl)

line_reads : (line : LoadLine) → IsBehind line → line_of (line_text line) ≡ Ok (meant line)
line_reads lines.Group range = absurd range
line_reads lines.App range = absurd range
line_reads lines.Period range = absurd range
line_reads (lines.Ask client number) range = ask_reads client number range
line_reads lines.Flow range = flow_reads
line_reads (lines.Crash member) range = crash_reads member range.0 range.1
line_reads (lines.Restart member) range = restart_reads member range.0 range.1

-- ---- the lines behind the header

behind-append : (xs ys : List LoadLine) → Each IsBehind xs → Each IsBehind ys → Each IsBehind (xs ++ ys)
behind-append [] ys first second = second
behind-append (x ∷ xs) ys first second = (first.0, behind-append xs ys first.1 second)

flow_behind : (due : Bool) → Each IsBehind (cond due (lines.Flow ∷ []) [])
flow_behind true = (tt, tt)
flow_behind false = tt

crash_behind : (due : Bool) (x : ℕ) → Each IsBehind (cond due (lines.Crash (crasher x) ∷ lines.Restart (crasher x) ∷ []) [])
crash_behind true x = ((omega arith, omega arith), ((omega arith, omega arith), tt))
crash_behind false x = tt

asks_behind : (n more x : ℕ) → Each IsBehind (asks_left n more x)
asks_behind n zero x = tt
asks_behind n (suc more) x =
    let i = n - more in
    let y = drawn x in
    behind-append (ask_lines n i y) (asks_left n more (last_drawn i y)) (
      ((omega arith, omega arith), (omega arith, omega arith)),
      behind-append (flow_lines n i) (crash_lines i (drawn y)) (flow_behind (i % 8 == 0 || i == n)) (crash_behind (i % 64 == 0) (drawn y)),
    )
    (asks_behind n more (last_drawn i y))

-- ---- members that are there

take_all : {A : Type 0} (xs : List A) → take (length xs) xs ≡ xs
take_all [] = refl
take_all (x ∷ xs) = ap (λ ys. x ∷ ys) (take_all xs)

-- in each play of a load's header members 1 to 4 have nodes
ids_are : (p : Play Count) → IsSound counting p → p.group ≡ with_period four 16 → filter (is_member p.world.view) (map (λ h. h.node.id) p.world.hosts) ≡ 1 ∷ 2 ∷ 3 ∷ 4 ∷ []
ids_are p sound group =
    let law : OneListThroughout counting p.group p.lines = one_list-throughout counting sums_are_brief sums_are_restored p.group sound.headed p.lines in
    let k : ℕ = length p.lines in
    let whole : world_at counting p.group p.lines k ≡ p.world =
    ap (λ ls. world_after (course_of counting) (begun counting p.group) ls) (take_all p.lines) ∙ sym sound.stands in
    ap (λ (w : World Count). filter (is_member w.view) (map (λ h. h.node.id) w.hosts)) (sym whole)
    ∙ ((law.one_list k).members ∙ (ap (λ (v : View). v.members) (law.viewed k) ∙ ap (λ (g : Header). g.view.members) group))

host_there : (p : Play Count) (member : ℕ) → IsSound counting p → p.group ≡ with_period four 16 → 1 ≤ member → member ≤ 4 → is_some (host_index p.world.hosts member) ≡ true
host_there p member sound group least most =
    has_position (λ (h : Host Count). h.node.id) p.world.hosts member
    (any_filtered (λ id. id == member) (is_member p.world.view) (map (λ h. h.node.id) p.world.hosts)
    (subst (λ ids. list_any (λ id. id == member) ids ≡ true) (sym (ids_are p sound group))
    (by_four (λ k. list_any (λ id. id == k) (1 ∷ 2 ∷ 3 ∷ 4 ∷ []) ≡ true) refl refl refl refl member least most)))

-- what a line names is there
names_there : (p : Play Count) (line : LoadLine) → IsSound counting p → p.group ≡ with_period four 16 → IsBehind line → is_there p.world (meant line) ≡ true
unfolding is_there
names_there p lines.Group sound group range = absurd range
names_there p lines.App sound group range = absurd range
names_there p lines.Period sound group range = absurd range
names_there p (lines.Ask client number) sound group range = refl
names_there p lines.Flow sound group range = refl
names_there p (lines.Crash member) sound group range = host_there p member sound group range.0 range.1
names_there p (lines.Restart member) sound group range = host_there p member sound group range.0 range.1

-- ---- the play of a load

-- a script behind a load's header, none of whose lines was refused
record IsLoading (r : Reading) : Type 0 where
  going : r.refused ≡ None
  p : Play Count
  play_is : r.play ≡ Some (plays.Count p)
  group_is : p.group ≡ with_period four 16
  sound : IsSound counting p

-- a script of which a line was refused for what its play comes to
record HasRefused (r : Reading) : Type 0 where
  is : is_some r.refused ≡ true
  of_play : IsOfPlay r.refused

abbrev Loads : Reading → Type 0
Loads r = HasRefused r ⊎ IsLoading r

-- an answer that is none for what a line says
abbrev IsAnswer : Result (List OutLine) Refusal → Type 0
IsAnswer (Ok told) = Unit {0}
IsAnswer (Err why) = IsOfPlay (Some why)

answers-until : (w : World Count) (ending : Option Ending) → IsAnswer (answer_until w ending)
answers-until w None = tt
answers-until w (Some (endings.Premise which)) = tt
answers-until w (Some endings.Limit) = tt

answers-if : (t : Bool) (answer other : Result (List OutLine) Refusal) → t ≡ true → IsAnswer answer → IsAnswer (cond t answer other)
answers-if true answer other is of = of
answers-if false answer other is of = absurd (cc)

-- a line that is played
loads-played : (r : Reading) (p : Play Count) (line : Line) → r.refused ≡ None → IsSound counting p → p.group ≡ with_period four 16
    → (answer : Result (List OutLine) Refusal) → play_answer (course_of counting) p line ≡ answer → IsAnswer answer
    → Loads (played_to r (plays.Count (play_after (course_of counting) p line)) answer)
loads-played r p line going sound group (Ok told) is of =
    inr (record {
      going = going;
      p = play_after (course_of counting) p line;
      play_is = refl;
      group_is = group;
      sound = after-sound counting p line told sound is;
    })
loads-played r p line going sound group (Err why) is of = inl (record { is = refl; of_play = of })

-- a line behind the header, by where the script stands
loads-at : (r : Reading) (line : LoadLine) → IsBehind line → IsLoading r → Loads (taken_at node_courses r (line_text line) r.play)
loads-at r line range l =
    let answer = play_answer (course_of counting) l.p (meant line) in
    let there = names_there l.p line l.sound l.group_is range in
    let of : IsAnswer answer =
    answers-if (is_there l.p.world (meant line)) (answer_in (line_played (course_of counting) l.p.world (meant line))) (Err (refusals.Script kinds.Refer)) there
    (answers-until (line_played (course_of counting) l.p.world (meant line)) (line_played (course_of counting) l.p.world (meant line)).ending) in
    subst (λ play. Loads (taken_at node_courses r (line_text line) play)) (sym l.play_is)
    (subst (λ read. Loads (line_done node_courses r (plays.Count l.p) read)) (sym (line_reads line range))
    (loads-played r l.p (meant line) l.going l.sound l.group_is answer refl of))

-- a script that is full
loads-full : (r : Reading) (full : Bool) (x : Reading) → Loads x → Loads (cond full (refusing (closed_of r r.play) refusals.Limit) x)
loads-full r true x loads = inl (record { is = refl; of_play = tt })
loads-full r false x loads = loads

-- a script of which no line was refused
loads-open : (t : Bool) (x y : Reading) → t ≡ false → Loads y → Loads (cond t x y)
loads-open true x y is loads = absurd (cc)
loads-open false x y is loads = loads

-- one more line
loads-going : (r : Reading) (line : LoadLine) → IsBehind line → IsLoading r → Loads (line_taken node_courses r (line_text line))
unfolding line_taken
loads-going r line range l =
    loads-open (is_some r.refused) r (cond (is_full r) (refusing (closed_of r r.play) refusals.Limit) (taken_at node_courses r (line_text line) r.play)) (ap (λ x. is_some x) l.going)
    (loads-full r (is_full r) (taken_at node_courses r (line_text line) r.play) (loads-at r line range l))

loads-taken : (r : Reading) (line : LoadLine) → IsBehind line → Loads r → Loads (line_taken node_courses r (line_text line))
loads-taken r line range (inl refused) = subst Loads (sym (taken-refused node_courses r (line_text line) refused.is)) (inl refused)
loads-taken r line range (inr l) = loads-going r line range l

-- more lines
loads-after : (r : Reading) (ls : List LoadLine) → Each IsBehind ls → Loads r → Loads (reading_after node_courses r (map line_text ls))
loads-after r [] ranges loads = loads
loads-after r (line ∷ ls) ranges loads = loads-after (line_taken node_courses r (line_text line)) ls ranges.1 (loads-taken r line ranges.0 loads)

-- a play may begin of a load's header
four_headed : IsHeader (with_period four 16)
unfolding members_from
four_headed = record { viewed = first_view 4 1 (omega arith) (omega arith) (omega arith) (omega arith); begins = refl; period_fits = omega arith }

loads-headed : Loads headed
loads-headed =
    inr (record {
      going = refl;
      p = play_begun counting (with_period four 16);
      play_is = refl;
      group_is = refl;
      sound = begun-sound counting (with_period four 16) four_headed;
    })

of-play : (r : Reading) → Loads r → IsOfPlay r.refused
of-play r (inl refused) = refused.of_play
of-play r (inr l) = subst IsOfPlay (sym l.going) tt

-- a line of a load is refused for what its play comes to, if it is refused
pub load_means : (n : ℕ) → IsOfPlay (load_read node_courses n).refused
load_means n =
    of-play (load_read node_courses n)
    (subst Loads (sym (takes-header node_courses (map line_text (asks_left n n n)))) (loads-after headed (asks_left n n n) (asks_behind n n n) loads-headed))
