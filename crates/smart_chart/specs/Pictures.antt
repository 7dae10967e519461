-- A picture of a transcript: its parts, and its text as SVG.
use Rattle.std.specs.Prelude.{ℕ, ◌+◌, ◌*◌, ◌==◌, ◌&&◌, nat_le, Bool, List, [], ◌∷◌, ◌++◌, codes, take, string_bytes, if◌then◌else◌}
use Rattle.std.specs.List.{flat_map}
use Rattle.std.specs.Fmt.{decimal}
use Rattle.smart_chart.specs.declared.picture.TheConstants as constants
use Rattle.smart_chart.specs.declared.picture.Figure.{Figure}
use Rattle.smart_chart.specs.declared.picture.Figure.TheVariants as figures
use Rattle.smart_chart.specs.declared.picture.Side.{Side}
use Rattle.smart_chart.specs.declared.picture.Side.TheVariants as sides
use Rattle.smart_chart.specs.declared.picture.Shape.{Shape}
use Rattle.smart_chart.specs.declared.picture.Shape.TheVariants as shapes

abbrev pub figure_name : Figure → List ℕ
figure_name figures.ToRight = codes "to-right"
figure_name figures.ToLeft = codes "to-left"
figure_name figures.Start = codes "start"
figure_name figures.Decided = codes "decided"
figure_name figures.Delivered = codes "delivered"
figure_name figures.Promised = codes "promised"
figure_name figures.Synced = codes "synced"
figure_name figures.Dropped = codes "dropped"
figure_name figures.Crashed = codes "crashed"
figure_name figures.Restarted = codes "restarted"
figure_name figures.Installed = codes "installed"
figure_name figures.Accepted = codes "accepted"
figure_name figures.Other = codes "other"

abbrev pub side_name : Side → List ℕ
side_name sides.Right = codes "right"
side_name sides.Left = codes "left"
side_name sides.Middle = codes "middle"

-- a byte of a text: what would be read as markup is escaped, and what does not print is `?`
abbrev pub shown : ℕ → List ℕ
shown b = if b == 60 then codes "&lt;" else if b == 38 then codes "&amp;" else if b == 62 then codes "&gt;" else if nat_le 32 b && nat_le b 126 then b ∷ [] else codes "?"

-- the SVG of each part

-- a text, as far as there is room for it
abbrev pub front_text : ℕ → List ℕ → List ℕ
front_text room text = flat_map shown (take room text) ++ codes "</text>\n"

abbrev pub label_head : Side → ℕ → ℕ → List ℕ
label_head side x y = codes "<text class='label " ++ (side_name side ++ (codes "' x='" ++ (decimal x ++ (codes "' y='" ++ (decimal y ++ codes "'>")))))

abbrev pub label_text : Side → ℕ → ℕ → List ℕ → List ℕ
label_text side x y text = label_head side x y ++ front_text 56 text

abbrev pub mark_text : Figure → ℕ → ℕ → List ℕ
mark_text figure x y = codes "<use href='#" ++ (figure_name figure ++ (codes "' x='" ++ (decimal x ++ (codes "' y='" ++ (decimal y ++ codes "'/>\n")))))

abbrev pub shape_text : Shape → List ℕ
shape_text (shapes.Life x from to) = codes "<path class='life' d='M" ++ (decimal x ++ (32 ∷ decimal from ++ (codes "V" ++ (decimal to ++ codes "'/>\n"))))
shape_text (shapes.Beam y from to) = codes "<path class='beam' d='M" ++ (decimal from ++ (32 ∷ decimal y ++ (codes "H" ++ (decimal to ++ codes "'/>\n"))))
shape_text (shapes.Mark figure x y) = mark_text figure x y
shape_text (shapes.Label side x y text) = label_text side x y (string_bytes text)

abbrev pub row_head : ℕ → ℕ → List ℕ
row_head number at =
    codes "<path class='rule' d='M0 " ++ (decimal (22 * at + 44) ++ (codes "H1200'/><text class='number' x='40' y='" ++ (decimal (22 * at + 59) ++ (codes "'>" ++ (decimal number
    ++ (codes "</text><text class='line' x='48' y='" ++ (decimal (22 * at + 59) ++ codes "'>")))))))

-- a line of the transcript with its number
abbrev pub row_text : ℕ → ℕ → List ℕ → List ℕ
row_text number at line = row_head number at ++ front_text 36 line

-- lines of which the first has this number, from this row on
abbrev pub rows_text : ℕ → ℕ → List (List ℕ) → List ℕ
rows_text first at [] = []
rows_text first at (line ∷ lines) = row_text (first + at) at line ++ rows_text first (at + 1) lines

abbrev pub head_text : ℕ → List ℕ
head_text height = constants.HEAD.now ++ (decimal height ++ (codes "'>\n" ++ constants.STYLE.now))

abbrev pub picture_text : ℕ → ℕ → List (List ℕ) → List Shape → List ℕ
picture_text height first lines shapes = head_text height ++ (rows_text first 0 lines ++ (flat_map shape_text shapes ++ codes "</svg>\n"))
