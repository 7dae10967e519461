-- Operations and the texts that spell them.
use Rattle.std.proofs.Common.{◌≡◌, ◌≢◌, ℕ, suc, ◌+◌, ◌≤◌, Bool, true, false, leb, ◌&&◌, List, [], ◌∷◌, ◌++◌, length, take, drop, if◌then◌else◌, refl, sym, ap, subst, ◌∙◌, codes, arith}
use Rattle.std.specs.List.{prefix_len}
use Rattle.std.specs.Prelude.{not, ◌==◌}
use Rattle.std.specs.Str.{bytes_eq}
use Rattle.std.proofs.lemmas.Bool.{eqb-true, leb-true}
use Rattle.std.proofs.lemmas.Bool.Decides.{nat_tests}
use Rattle.std.proofs.lemmas.Slice.Eq.{bytes_eq-Decides}
use Rattle.smart_base.specs.FieldLaws.{and_true}
use Rattle.app_kv.specs.Operations.{are_from, is_key, is_value, is_space, first_word, other_words, Meant, put, get, del, other, put_of, get_of, del_of, command_of, operation_of, Spells}
use Rattle.app_kv.specs.Replies.{value_parts}

-- ---- words

-- where the first space stands
abbrev gap : List ℕ → ℕ
gap text = prefix_len (λ byte. not (is_space byte)) text

gap_here : (b : ℕ) (bs : List ℕ) → (b == 32) ≡ true → gap (b ∷ bs) ≡ 0
gap_here b bs e = rw e refl

gap_later : (b : ℕ) (bs : List ℕ) → (b == 32) ≡ false → gap (b ∷ bs) ≡ suc (gap bs)
gap_later b bs e = rw e (omega arith)

later_rest : (b : ℕ) (bs : List ℕ) → (b == 32) ≡ false → other_words (b ∷ bs) ≡ other_words bs
later_rest b bs e =
    ap (λ (k : ℕ). drop k (b ∷ bs)) {x = gap (b ∷ bs) + 1} {y = suc (gap bs + 1)} (omega (arith, gap_later b bs e))

later_first : (b : ℕ) (bs : List ℕ) → (b == 32) ≡ false → first_word (b ∷ bs) ≡ b ∷ first_word bs
later_first b bs e = ap (λ (k : ℕ). take k (b ∷ bs)) (gap_later b bs e)

parted-step : (b : ℕ) (bs : List ℕ) (space : Bool) → (b == 32) ≡ space
    → (1 ≤ length (other_words bs) → bs ≡ first_word bs ++ 32 ∷ other_words bs)
    → 1 ≤ length (other_words (b ∷ bs)) → b ∷ bs ≡ first_word (b ∷ bs) ++ 32 ∷ other_words (b ∷ bs)
parted-step b bs true e more some = rw (gap_here b bs e) (ap (λ (b : ℕ). b ∷ bs) (eqb-true b 32 e))
parted-step b bs false e more some =
    rw (later_first b bs e, later_rest b bs e)
    (ap (λ (text : List ℕ). b ∷ text) (more (subst (λ (text : List ℕ). 1 ≤ length text) (later_rest b bs e) some)))

-- a space parts the first word from others
parted : (text : List ℕ) → 1 ≤ length (other_words text) → text ≡ first_word text ++ 32 ∷ other_words text
parted [] some = absurd (omega (arith, some))
parted (b ∷ bs) some = parted-step b bs (b == 32) refl (parted bs) some

no_space : (b : ℕ) → 33 ≤ b → (b == 32) ≡ false
no_space b low = grind (arith, nat_tests, low)

first_above : (b : ℕ) (bs : List ℕ) → are_from 33 (b ∷ bs) ≡ true → (33 ≤ b) × (are_from 33 bs ≡ true)
first_above b bs e =
    let p = and_true (leb 33 b && leb b 126) (are_from 33 bs) e in
    (leb-true 33 b (and_true (leb 33 b) (leb b 126) p.0).0, p.1)

-- a word without spaces, in front of a space
front_word : (word rest : List ℕ) → are_from 33 word ≡ true → first_word (word ++ 32 ∷ rest) ≡ word
front_word [] rest e = refl
front_word (b ∷ bs) rest e =
    let p = first_above b bs e in
    later_first b (bs ++ 32 ∷ rest) (no_space b p.0) ∙ ap (λ (text : List ℕ). b ∷ text) (front_word bs rest p.1)

-- and what stands behind it
back_words : (word rest : List ℕ) → are_from 33 word ≡ true → other_words (word ++ 32 ∷ rest) ≡ rest
back_words [] rest e = refl
back_words (b ∷ bs) rest e =
    let p = first_above b bs e in
    later_rest b (bs ++ 32 ∷ rest) (no_space b p.0) ∙ back_words bs rest p.1

-- ---- what is spelled is read

key_characters : (key : List ℕ) → is_key key ≡ true → are_from 33 key ≡ true
key_characters key e = (and_true (leb 1 (length key) && leb (length key) 64) (are_from 33 key) e).1

key_some : (key : List ℕ) → is_key key ≡ true → 1 ≤ length key
key_some key e =
    let p = and_true (leb 1 (length key) && leb (length key) 64) (are_from 33 key) e in
    leb-true 1 (length key) (and_true (leb 1 (length key)) (leb (length key) 64) p.0).0

put_read : (key value : List ℕ) → is_key key ≡ true → is_value value ≡ true → operation_of (codes "put " ++ (key ++ (codes " " ++ value))) ≡ put key value
put_read key value k v =
    let rest : List ℕ = key ++ 32 ∷ value in
    ap (λ (command : List ℕ). command_of command (other_words (codes "put" ++ 32 ∷ rest))) (front_word (codes "put") rest refl)
    ∙ ap (λ (text : List ℕ). put_of (first_word text) (other_words text)) (back_words (codes "put") rest refl)
    ∙ ap (λ (text : List ℕ). put_of text (other_words rest)) (front_word key value (key_characters key k))
    ∙ ap (λ (text : List ℕ). put_of key text) (back_words key value (key_characters key k))
    ∙ rw (k, v) refl

get_read : (key : List ℕ) → is_key key ≡ true → operation_of (codes "get " ++ key) ≡ get key
get_read key k =
    ap (λ (command : List ℕ). command_of command (other_words (codes "get" ++ 32 ∷ key))) (front_word (codes "get") key refl)
    ∙ ap get_of (back_words (codes "get") key refl)
    ∙ rw k refl

del_read : (key : List ℕ) → is_key key ≡ true → operation_of (codes "del " ++ key) ≡ del key
del_read key k =
    ap (λ (command : List ℕ). command_of command (other_words (codes "del" ++ 32 ∷ key))) (front_word (codes "del") key refl)
    ∙ ap del_of (back_words (codes "del") key refl)
    ∙ rw k refl

pub read_is : (text : List ℕ) (meant : Meant) → Spells text meant → operation_of text ≡ meant
read_is text (put key value) h = ap operation_of h.2 ∙ put_read key value h.0 h.1
read_is text (get key) h = ap operation_of h.1 ∙ get_read key h.0
read_is text (del key) h = ap operation_of h.1 ∙ del_read key h.0
read_is text other h = absurd h

-- ---- and what is read is spelled

-- an operation, or none, that is spelled
abbrev IsSpelled : List ℕ → Meant → Type 0
IsSpelled text meant = meant ≢ other → Spells text meant

none_spelled : (text : List ℕ) → IsSpelled text other
none_spelled text = λ some. absurd (some refl)

behind_command : (text command : List ℕ) → 1 ≤ length (other_words text) → bytes_eq (first_word text) command ≡ true
    → text ≡ command ++ 32 ∷ other_words text
behind_command text command some same =
    parted text some ∙ ap (λ (word : List ℕ). word ++ 32 ∷ other_words text) ((bytes_eq-Decides (first_word text) command).0 same)

put_spelled-step : (text rest : List ℕ) (ok : Bool) → rest ≡ other_words text → (is_key (first_word rest) && is_value (other_words rest)) ≡ ok
    → bytes_eq (first_word text) (codes "put") ≡ true → IsSpelled text (if ok then put (first_word rest) (other_words rest) else other)
put_spelled-step text rest true is e same = λ some.
    let p = and_true (is_key (first_word rest)) (is_value (other_words rest)) e in
    let words : rest ≡ first_word rest ++ 32 ∷ other_words rest = parted rest (value_parts (other_words rest) p.1).some in
    let there : 1 ≤ length rest = subst (λ (text : List ℕ). 1 ≤ length text) (sym words) (longer (first_word rest) (other_words rest)) in (
      p.0,
      p.1,
      behind_command text (codes "put") (subst (λ (text : List ℕ). 1 ≤ length text) is there) same
          ∙ ap (λ (rest : List ℕ). codes "put " ++ rest) (sym is ∙ words),
    )
  where
    longer : (front rest : List ℕ) → 1 ≤ length (front ++ 32 ∷ rest)
    longer [] rest = omega arith
    longer (b ∷ bs) rest = omega arith
put_spelled-step text rest false is e same = none_spelled text

get_spelled-step : (text : List ℕ) (ok : Bool) → is_key (other_words text) ≡ ok → bytes_eq (first_word text) (codes "get") ≡ true
    → IsSpelled text (if ok then get (other_words text) else other)
get_spelled-step text true e same = λ some. (e, behind_command text (codes "get") (key_some (other_words text) e) same)
get_spelled-step text false e same = none_spelled text

del_spelled-step : (text : List ℕ) (ok : Bool) → is_key (other_words text) ≡ ok → bytes_eq (first_word text) (codes "del") ≡ true
    → IsSpelled text (if ok then del (other_words text) else other)
del_spelled-step text true e same = λ some. (e, behind_command text (codes "del") (key_some (other_words text) e) same)
del_spelled-step text false e same = none_spelled text

either_spelled : (text : List ℕ) (first : Bool) (x y : Meant) → (first ≡ true → IsSpelled text x) → IsSpelled text y → IsSpelled text (if first then x else y)
either_spelled text true x y p q = p refl
either_spelled text false x y p q = q

operation_spelled : (text : List ℕ) → IsSpelled text (operation_of text)
operation_spelled text =
    either_spelled text (bytes_eq (first_word text) (codes "put")) _ _ (put_spelled-step text (other_words text) _ refl refl)
    (either_spelled text (bytes_eq (first_word text) (codes "get")) _ _ (get_spelled-step text _ refl)
    (either_spelled text (bytes_eq (first_word text) (codes "del")) _ other (del_spelled-step text _ refl) (none_spelled text)))

pub spelled_is : (text : List ℕ) (meant : Meant) → operation_of text ≡ meant → meant ≢ other → Spells text meant
spelled_is text meant e = subst (λ (meant : Meant). IsSpelled text meant) e (operation_spelled text)
