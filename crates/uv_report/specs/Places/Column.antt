-- The unit in which columns are counted, and the column of a place of a text.
use Rattle.std.specs.Prelude.{ℕ, ◌+◌, ◌-◌, ◌%◌, ◌^◌, ◌==◌, false, List, [], ◌∷◌, Option, codes, encode_utf8, find}
use Rattle.std.specs.Prelude.{flat_map, if◌then◌else◌, length, min, nat_lt, sum_by, take, unwrap_or}
use Rattle.std.specs.Str.{bytes_eq, chars}
use Rattle.unicode_width.specs.Width.{char_width}
use Rattle.uv_report.specs.declared.places.column.Columns.{Columns}
use Rattle.uv_report.specs.declared.places.column.Columns.TheVariants.{CodePoints, Bytes, Utf16, Screen}
use Rattle.uv_shown.specs.Escaping.Escapes.{is_hidden}

-- ---- the units

-- the name of a unit
abbrev pub columns_name : Columns → List ℕ
columns_name CodePoints = codes "code-points"
columns_name Bytes = codes "bytes"
columns_name Utf16 = codes "utf16"
columns_name Screen = codes "screen"

-- the unit with a name, where there is one
abbrev pub named_columns : List ℕ → Option Columns
named_columns name =
    find (λ columns. bytes_eq name (columns_name columns)) (CodePoints ∷ Bytes ∷ Utf16 ∷ Screen ∷ [])

-- ---- the columns that a code point takes

-- the code units of UTF-16 (Unicode, section 3.9): from U+10000 on the two of a surrogate pair
abbrev pub utf16_units : ℕ → ℕ
utf16_units c = if nat_lt c 0x10000 then 1 else 2

-- how many columns of a screen a code point takes as it is shown
abbrev pub shown_width : ℕ → ℕ
shown_width c = unwrap_or (char_width false (if is_hidden c then 0xFFFD else c)) 0

-- how many columns there are from one up to the next tab stop; these are the columns 1, 9, 17 and so on
abbrev pub to_next_stop : ℕ → ℕ
to_next_stop column = 8 - (column - 1) % 8

-- how many columns of a screen a code point takes in this one
abbrev pub screen_width : ℕ → ℕ → ℕ
screen_width column c = if c == 9 then to_next_stop column else shown_width c

-- how many columns of this unit a code point takes in this one
abbrev pub point_width : Columns → ℕ → ℕ → ℕ
point_width CodePoints column c = 1
point_width Bytes column c = length (encode_utf8 c)
point_width Utf16 column c = utf16_units c
point_width Screen column c = screen_width column c

-- the column after a code point in this one; the greatest number of 64 bits stands for each column beyond it
abbrev pub column_after : Columns → ℕ → ℕ → ℕ
column_after columns column c = min (column + point_width columns column c) (2 ^ 64 - 1)

-- ---- the column of a place

-- how many columns of a screen a text takes that begins in this one
abbrev pub text_screen_width : ℕ → List ℕ → ℕ
text_screen_width column [] = 0
text_screen_width column (c ∷ cs) =
    screen_width column c + text_screen_width (column + screen_width column c) cs

-- how many columns a text takes that begins in this one: its code points, the bytes of its UTF-8, the code units of its
-- UTF-16, or what it takes on a screen
abbrev pub width : Columns → ℕ → List ℕ → ℕ
width CodePoints column text = length text
width Bytes column text = length (flat_map encode_utf8 text)
width Utf16 column text = sum_by utf16_units text
width Screen column text = text_screen_width column text

-- The column of a place of a text that begins in this one: so many more as the text before the place takes. Columns
-- count from 1, places from 0. The greatest number of 64 bits stands for each column beyond it.
abbrev pub column_at : Columns → ℕ → List ℕ → ℕ → ℕ
column_at columns start text place = min (start + width columns start (take place (chars text))) (2 ^ 64 - 1)
