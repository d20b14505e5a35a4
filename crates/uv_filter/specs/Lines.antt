-- The lines of a list with their ends. A line ends with LF, and one CR before that is part of its end; what follows the
-- last LF is a line if it isn't empty.
use Rattle.std.specs.Prelude.{ℕ, ◌-◌, Bool, true, false, List, [], ◌∷◌, ◌++◌, drop, length, map, nat_le, take}
use Rattle.uv_lines.specs.Lines.{line_feed, split, without_mark}
use Rattle.uv_lines.specs.Progress.{ended}
use Rattle.uv_filter.specs.declared.written.ListLine.{ListLine}

-- what is before an LF, or after the last one, and whether an LF ends it
pub record Line : Type 0 where
  pub bytes : List ℕ
  pub closed : Bool

-- what the code's line stands for
abbrev pub line_view : ListLine → Line
line_view line = record { bytes = line.bytes.now; closed = line.is_closed }

-- the LF that ends a line, where one does
abbrev pub feed_of : Bool → List ℕ
feed_of true = line_feed ∷ []
feed_of false = []

-- the whole line
abbrev pub whole : Line → List ℕ
whole line = line.bytes ++ feed_of line.closed

-- a line that an LF ends
abbrev pub ended_line : List ℕ → Line
ended_line bytes = record { bytes = bytes; closed = true }

-- a line that no LF ends
abbrev pub open_line : List ℕ → Line
open_line bytes = record { bytes = bytes; closed = false }

-- ---- the parts of a line

-- its text, without the end
abbrev pub text_of : Line → List ℕ
text_of line = ended line.closed line.bytes

-- what of the text is checked: in the first line a byte order mark isn't
abbrev pub checked_of : Bool → List ℕ → List ℕ
checked_of true text = without_mark text
checked_of false text = text

-- the mark before what is checked
abbrev pub mark_of : Bool → Line → List ℕ
mark_of is_first line = take (length (text_of line) - length (checked_of is_first (text_of line))) line.bytes

-- the line's end: its CR and its LF
abbrev pub end_of : Line → List ℕ
end_of line = drop (length (text_of line)) line.bytes ++ feed_of line.closed

-- the line with another text in place of what is checked
abbrev pub replaced : Bool → Line → List ℕ → List ℕ
replaced is_first line text = mark_of is_first line ++ (text ++ end_of line)

-- ---- the lines of a list

-- those that an LF ends
abbrev pub ended_lines : List ℕ → List Line
ended_lines bytes = map ended_line (split bytes).0

-- the last one, if no LF ends it
abbrev pub last_line : List ℕ → List Line
last_line [] = []
last_line (x ∷ xs) = open_line (x ∷ xs) ∷ []

-- all lines
abbrev pub all_lines : List ℕ → List Line
all_lines bytes = ended_lines bytes ++ last_line (split bytes).1

-- the bytes of a line whose end has not come are too many already, with a byte order mark at their start and a CR at
-- their end or without
abbrev pub is_over : List ℕ → Bool
is_over bytes = nat_le 65541 (length bytes)

-- such a line
abbrev pub over_line : Bool → List ℕ → List Line
over_line true bytes = open_line bytes ∷ []
over_line false bytes = []

-- the lines of which it is known what is written: those that have ended, and after them one that is too long already
abbrev pub ready_lines : List ℕ → List Line
ready_lines bytes = ended_lines bytes ++ over_line (is_over (split bytes).1) (split bytes).1
