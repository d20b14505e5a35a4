-- The lines of a list. A line ends with LF, and one CR before that LF isn't a part of it; what follows the last LF is a
-- line if it isn't empty, and a CR at its end stays.
use Rattle.std.specs.Prelude.{ℕ, List, [], ◌∷◌, ◌++◌, Option, Some, None, drop, length, map, nat_le, take, ◌==◌}
use Rattle.std.specs.Prelude.{if◌then◌else◌}
use Rattle.std.specs.Str.{bytes_eq}
use Rattle.std.specs.Str.Lines.{strip_carriage_return}

-- LF, U+000A
abbrev pub line_feed : ℕ
line_feed = 10

-- a byte before the first of the texts that LF ends, or before the last text where there is none
abbrev pub put_prefix : ℕ → List (List ℕ) → List ℕ → (List (List ℕ)) × List ℕ
put_prefix x [] last = ([], x ∷ last)
put_prefix x (l ∷ ls) last = ((x ∷ l) ∷ ls, last)

-- what is before each LF, and what follows the last one
abbrev pub split : List ℕ → (List (List ℕ)) × List ℕ
split [] = ([], [])
split (x ∷ xs) =
    if x == line_feed then ([] ∷ (split xs).0, (split xs).1) else put_prefix x (split xs).0 (split xs).1

-- the lines that an LF ends, each without the one CR before it
abbrev pub closed_lines : List ℕ → List (List ℕ)
closed_lines bytes = map strip_carriage_return (split bytes).0

-- a last line that no LF ends, where there is one
abbrev pub open_lines : List ℕ → List (List ℕ)
open_lines [] = []
open_lines (x ∷ xs) = (x ∷ xs) ∷ []

-- all lines
abbrev pub lines_of : List ℕ → List (List ℕ)
lines_of bytes = closed_lines bytes ++ open_lines (split bytes).1

-- the line, where it has at most as many bytes as a line may have
abbrev pub short_line : ℕ → List ℕ → Option (List ℕ)
short_line line_bytes line = if nat_le (length line) line_bytes then Some line else None

-- U+FEFF in UTF-8
abbrev pub byte_order_mark : List ℕ
byte_order_mark = 0xEF ∷ 0xBB ∷ 0xBF ∷ []

-- the text of a list's first line without a mark before it
abbrev pub without_mark : List ℕ → List ℕ
without_mark line = if bytes_eq (take 3 line) byte_order_mark then drop 3 line else line
