-- The bytes of a picture print or end a line, and no text in it has a tag.
use Rattle.std.proofs.Common.{◌≡◌, ◌<◌, ◌+◌, ◌*◌, ◌/◌, ◌%◌, ◌==◌, ℕ, zero, suc, Bool, true, false, not, ◌&&◌, ◌||◌, List, [], ◌∷◌, ◌++◌, take, refl, ap, sym, ◌∙◌, cond, arith}
use Rattle.std.specs.Prelude.{nat_le, nat_lt, codes, string_bytes, if◌then◌else◌}
use Rattle.std.specs.List.{flat_map}
use Rattle.std.specs.Fmt.{decimal, digit_glyph, digits_onto, digits}
use Rattle.std.proofs.lemmas.Bool.{le-leb, lt-ltb}
use Rattle.smart_chart.specs.declared.picture.TheConstants as constants
use Rattle.smart_chart.specs.declared.picture.Figure.{Figure}
use Rattle.smart_chart.specs.declared.picture.Figure.TheVariants as figures
use Rattle.smart_chart.specs.declared.picture.Side.{Side}
use Rattle.smart_chart.specs.declared.picture.Side.TheVariants as sides
use Rattle.smart_chart.specs.declared.picture.Shape.{Shape}
use Rattle.smart_chart.specs.declared.picture.Shape.TheVariants as shapes
use Rattle.smart_chart.specs.Pictures.{figure_name, side_name, shown, front_text, label_head, label_text, mark_text, shape_text, row_head, row_text, rows_text, head_text, picture_text}
use Rattle.smart_chart.specs.Plain.{is_plain, are_plain, is_no_tag, have_no_tag}

-- tests

both : (a b : Bool) → a ≡ true → b ≡ true → (a && b) ≡ true
both true b p q = q
both false b p q = p

first : (a b : Bool) → (a && b) ≡ true → a ≡ true
first true b p = refl
first false b p = p

second : (a b : Bool) → (a && b) ≡ true → b ≡ true
second true b p = p
second false b p = absurd (cc)

either : (a b : Bool) → b ≡ true → (a || b) ≡ true
either true b p = refl
either false b p = p

-- plain texts

joined : (xs ys : List ℕ) → are_plain xs ≡ true → are_plain ys ≡ true → are_plain (xs ++ ys) ≡ true
joined [] ys p q = q
joined (b ∷ bs) ys p q = both (is_plain b) (are_plain (bs ++ ys)) (first (is_plain b) (are_plain bs) p) (joined bs ys (second (is_plain b) (are_plain bs) p) q)

all_joined : {X : Type 0} (f : X → List ℕ) → ((x : X) → are_plain (f x) ≡ true) → (xs : List X) → are_plain (flat_map f xs) ≡ true
all_joined f p [] = refl
all_joined f p (x ∷ xs) = joined (f x) (flat_map f xs) (p x) (all_joined f p xs)

chosen : (t : Bool) (xs ys : List ℕ) → are_plain xs ≡ true → are_plain ys ≡ true → are_plain (if t then xs else ys) ≡ true
chosen true xs ys p q = p
chosen false xs ys p q = q

the_first : (t : Bool) (x y : ℕ) → t ≡ true → (if t then x else y) ≡ x
the_first true x y is = refl
the_first false x y is = absurd (cc)

digit : (d : ℕ) → d < 10 → is_plain (48 + d) ≡ true
digit d h = either (48 + d == 10) _ (both (nat_le 32 (48 + d)) (nat_le (48 + d) 126) (le-leb 32 (48 + d) (omega (arith))) (le-leb (48 + d) 126 (omega (arith, h))))

glyph : (d : ℕ) → d < 10 → is_plain (digit_glyph false d) ≡ true
glyph d h = ap is_plain (the_first (nat_lt d 10) (48 + d) (87 + d) (lt-ltb d 10 h)) ∙ digit d h

digits_plain : (k n : ℕ) (acc : List ℕ) → are_plain acc ≡ true → are_plain (digits_onto k 10 false n acc) ≡ true
digits_plain zero n acc p = p
digits_plain (suc k) n acc p =
    let d : ℕ = digit_glyph false (n % 10) in
    let q : are_plain (d ∷ acc) ≡ true = both (is_plain d) (are_plain acc) (glyph (n % 10) (omega (arith))) p in
    chosen (n / 10 == 0) (d ∷ acc) (digits_onto k 10 false (n / 10) (d ∷ acc)) q (digits_plain k (n / 10) (d ∷ acc) q)

number : (n : ℕ) → are_plain (decimal n) ≡ true
unfolding digits
number n = digits_plain 64 n [] refl

shown_byte : (b : ℕ) (t : Bool) → t ≡ (nat_le 32 b && nat_le b 126) → are_plain (if t then b ∷ [] else codes "?") ≡ true
shown_byte b true is = both (is_plain b) true (either (b == 10) _ (sym is)) refl
shown_byte b false is = refl

shown_plain : (b : ℕ) → are_plain (shown b) ≡ true
shown_plain b = chosen (b == 60) _ _ refl (chosen (b == 38) _ _ refl (chosen (b == 62) _ _ refl (shown_byte b (nat_le 32 b && nat_le b 126) refl)))

text : (bytes : List ℕ) → are_plain (flat_map shown bytes) ≡ true
text bytes = all_joined shown shown_plain bytes

figure : (f : Figure) → are_plain (figure_name f) ≡ true
figure figures.ToRight = refl
figure figures.ToLeft = refl
figure figures.Start = refl
figure figures.Decided = refl
figure figures.Delivered = refl
figure figures.Promised = refl
figure figures.Synced = refl
figure figures.Dropped = refl
figure figures.Crashed = refl
figure figures.Restarted = refl
figure figures.Installed = refl
figure figures.Accepted = refl
figure figures.Other = refl

side : (s : Side) → are_plain (side_name s) ≡ true
side sides.Right = refl
side sides.Left = refl
side sides.Middle = refl

-- pieces

abbrev glued : List (List ℕ) → List ℕ
glued [] = []
glued (p ∷ []) = p
glued (p ∷ q ∷ ps) = p ++ glued (q ∷ ps)

abbrev AllPlain : List (List ℕ) → Type 0
AllPlain [] = Unit {0}
AllPlain (p ∷ []) = are_plain p ≡ true
AllPlain (p ∷ q ∷ ps) = (are_plain p ≡ true) × AllPlain (q ∷ ps)

all_pieces : (ps : List (List ℕ)) → AllPlain ps → are_plain (glued ps) ≡ true
all_pieces [] h = refl
all_pieces (p ∷ []) h = h
all_pieces (p ∷ q ∷ ps) h = joined p (glued (q ∷ ps)) h.0 (all_pieces (q ∷ ps) h.1)

front : (room : ℕ) (bytes : List ℕ) → are_plain (front_text room bytes) ≡ true
front room bytes = joined (flat_map shown (take room bytes)) (codes "</text>\n") (text (take room bytes)) refl

label : (s : Side) (x y : ℕ) (bytes : List ℕ) → are_plain (label_text s x y bytes) ≡ true
label s x y bytes =
    joined (label_head s x y) (front_text 56 bytes)
    (all_pieces (codes "<text class='label " ∷ side_name s ∷ codes "' x='" ∷ decimal x ∷ codes "' y='" ∷ decimal y ∷ codes "'>" ∷ [])
    (refl, (side s, (refl, (number x, (refl, (number y, refl)))))))
    (front 56 bytes)

mark : (f : Figure) (x y : ℕ) → are_plain (mark_text f x y) ≡ true
mark f x y =
    all_pieces (codes "<use href='#" ∷ figure_name f ∷ codes "' x='" ∷ decimal x ∷ codes "' y='" ∷ decimal y ∷ codes "'/>\n" ∷ [])
    (refl, (figure f, (refl, (number x, (refl, (number y, refl))))))

-- a path from one number to two more
path : (before between after : List ℕ) (x y z : ℕ) → are_plain before ≡ true → are_plain between ≡ true → are_plain after ≡ true
    → are_plain (before ++ (decimal x ++ (32 ∷ decimal y ++ (between ++ (decimal z ++ after))))) ≡ true
path before between after x y z p q r =
    all_pieces (before ∷ decimal x ∷ (32 ∷ decimal y) ∷ between ∷ decimal z ∷ after ∷ []) (p, (number x, (number y, (q, (number z, r)))))

shape : (s : Shape) → are_plain (shape_text s) ≡ true
shape (shapes.Life x from to) = path (codes "<path class='life' d='M") (codes "V") (codes "'/>\n") x from to refl refl refl
shape (shapes.Beam y from to) = path (codes "<path class='beam' d='M") (codes "H") (codes "'/>\n") from y to refl refl refl
shape (shapes.Mark f x y) = mark f x y
shape (shapes.Label s x y bytes) = label s x y (string_bytes bytes)

row : (n at : ℕ) (line : List ℕ) → are_plain (row_text n at line) ≡ true
row n at line =
    joined (row_head n at) (front_text 36 line)
    (all_pieces (codes "<path class='rule' d='M0 " ∷ decimal (22 * at + 44) ∷ codes "H1200'/><text class='number' x='40' y='" ∷ decimal (22 * at + 59) ∷ codes "'>" ∷ decimal n
    ∷ codes "</text><text class='line' x='48' y='" ∷ decimal (22 * at + 59) ∷ codes "'>" ∷ [])
    (refl, (number (22 * at + 44), (refl, (number (22 * at + 59), (refl, (number n, (refl, (number (22 * at + 59), refl)))))))))
    (front 36 line)

rows : (n at : ℕ) (lines : List (List ℕ)) → are_plain (rows_text n at lines) ≡ true
rows n at [] = refl
rows n at (line ∷ lines) = joined (row_text (n + at) at line) (rows_text n (at + 1) lines) (row (n + at) at line) (rows n (at + 1) lines)

head : (height : ℕ) → are_plain (head_text height) ≡ true
head height = all_pieces (constants.HEAD.now ∷ decimal height ∷ codes "'>\n" ∷ constants.STYLE.now ∷ []) (refl, (number height, (refl, refl)))

pub picture : (height n : ℕ) (lines : List (List ℕ)) (parts : List Shape) → are_plain (picture_text height n lines parts) ≡ true
picture height n lines parts =
    joined (head_text height) (rows_text n 0 lines ++ (flat_map shape_text parts ++ codes "</svg>\n")) (head height)
    (joined (rows_text n 0 lines) (flat_map shape_text parts ++ codes "</svg>\n") (rows n 0 lines) (joined (flat_map shape_text parts) (codes "</svg>\n") (all_joined shape_text shape parts) refl))

-- texts without a tag

no_tag_joined : (xs ys : List ℕ) → have_no_tag xs ≡ true → have_no_tag ys ≡ true → have_no_tag (xs ++ ys) ≡ true
no_tag_joined [] ys p q = q
no_tag_joined (b ∷ bs) ys p q =
    both (is_no_tag b) (have_no_tag (bs ++ ys)) (first (is_no_tag b) (have_no_tag bs) p) (no_tag_joined bs ys (second (is_no_tag b) (have_no_tag bs) p) q)

no_tag_byte : (b : ℕ) (s t u v : Bool) → s ≡ (b == 60) → u ≡ (b == 62)
    → have_no_tag (if s then codes "&lt;" else if t then codes "&amp;" else if u then codes "&gt;" else if v then b ∷ [] else codes "?") ≡ true
no_tag_byte b true t u v p q = refl
no_tag_byte b false true u v p q = refl
no_tag_byte b false false true v p q = refl
no_tag_byte b false false false true p q = both (is_no_tag b) true (both (not (b == 60)) (not (b == 62)) (ap not (sym p)) (ap not (sym q))) refl
no_tag_byte b false false false false p q = refl

pub no_tag : (bytes : List ℕ) → have_no_tag (flat_map shown bytes) ≡ true
no_tag [] = refl
no_tag (b ∷ bs) = no_tag_joined (shown b) (flat_map shown bs) (no_tag_byte b (b == 60) (b == 38) (b == 62) (nat_le 32 b && nat_le b 126) refl refl) (no_tag bs)
