-- The next line of a buffer that isn't valid.
use Rattle.std.specs.Prelude.{◌≡◌, ◌≢◌, ℕ, zero, suc, ◌+◌, ◌-◌, ◌≤◌, ◌<◌, ◌⊎◌, List, [], ◌∷◌, length, drop, take}
use Rattle.std.specs.Prelude.{slice_index, slice_range, None, Some}
use Rattle.uv_model.specs.declared.profile.Profile.{Profile}
use Rattle.uv_lines.specs.Lines.{line_feed, lines_of}
use Rattle.urlcheck_c.specs.declared.finding.Finding.{Finding}
use Rattle.urlcheck_c.specs.declared.finding.CallOutcome.{CallOutcome}
use Rattle.urlcheck_c.specs.declared.finding.CallOutcome.TheVariants.{Valid, NoProfile, NoPlace}
use Rattle.urlcheck_c.specs.declared.lines.FirstLine.{FirstLine}
use Rattle.urlcheck_c.specs.declared.lines.Line.{Line}
use Rattle.urlcheck_c.specs.Answer as answer
use Rattle.urlcheck_c.specs.Finding.{plain_finding, profile_of}

-- CR, U+000D
abbrev pub carriage_return : ℕ
carriage_return = 13

-- a line begins at this byte: here the lines that are read begin, or an LF is before it
abbrev pub IsLineStart : List ℕ → ℕ → ℕ → Type 0
IsLineStart bytes from start = (start ≡ from) ⊎ ((from < start) × (slice_index bytes (start - 1) ≡ line_feed))

-- a text that ends at this byte is ended by an LF, by a CR and an LF, or by the end of the buffer, up to the next line
abbrev pub IsLineEnd : List ℕ → ℕ → ℕ → Type 0
IsLineEnd bytes end next =
    ((next ≡ end + 1) × (slice_index bytes end ≡ line_feed))
    ⊎ (((next ≡ end + 2) × (slice_index bytes end ≡ carriage_return) × (slice_index bytes (end + 1) ≡ line_feed))
    ⊎ ((next ≡ end) × (next ≡ length bytes)))

-- the text is at the start of the bytes, and they are its line and those after it
pub record IsFirstLine (bytes : List ℕ) (line : FirstLine) : Type 0 where
  pub first : lines_of bytes ≡ line.text.now ∷ lines_of (drop line.extent bytes)
  pub text : line.text.now ≡ take (length line.text.now) bytes
  pub ended : IsLineEnd bytes (length line.text.now) line.extent
  pub some : 0 < line.extent
  pub within : line.extent ≤ length bytes

-- the check of the line by itself finds it valid
abbrev pub IsValidLine : ℕ → List ℕ → Type 0
IsValidLine number line = (finding : Finding) × answer.IsFound number None line finding × (finding.verdict ≡ 0)

-- so many of the first lines are valid, and these are left
abbrev pub Passes : ℕ → ℕ → List (List ℕ) → List (List ℕ) → Type 0
Passes number zero lines rest = lines ≡ rest
Passes number (suc count) lines rest =
    (line : List ℕ) × Passes number count lines (line ∷ rest) × IsValidLine number line

-- This is the first line that isn't valid, after so many valid ones: what the check of it by itself finds, where it
-- begins and ends in the buffer, and where the lines after it begin.
pub record IsRefusedLine (number : ℕ) (bytes : List ℕ) (from : ℕ) (line : Line) : Type 0 where
  pub text : List ℕ
  pub passed : Passes number line.passed (lines_of (drop from bytes)) (text ∷ lines_of (drop line.next bytes))
  pub found : answer.IsFound number None text line.found
  pub refused : line.found.verdict ≢ 0
  pub stands : lines_of (drop line.start bytes) ≡ text ∷ lines_of (drop line.next bytes)
  pub begins : IsLineStart bytes from line.start
  pub text_is : slice_range bytes line.start (line.start + line.length) ≡ text
  pub length_is : line.length ≡ length text
  pub ends : IsLineEnd bytes (line.start + line.length) line.next
  pub within : line.next ≤ length bytes

-- all lines are valid, and so many
pub record IsNone (number : ℕ) (bytes : List ℕ) (from : ℕ) (line : Line) : Type 0 where
  pub passed : Passes number line.passed (lines_of (drop from bytes)) []
  pub found : line.found ≡ plain_finding Valid
  pub start : line.start ≡ length bytes
  pub none : line.length ≡ 0
  pub next : line.next ≡ length bytes

-- a line is refused, or none is
abbrev pub IsFound : ℕ → List ℕ → ℕ → Line → Type 0
IsFound number bytes from line = IsRefusedLine number bytes from line ⊎ IsNone number bytes from line

-- no line was looked for, for this reason
abbrev pub no_line : CallOutcome → Line
no_line outcome = record { found = plain_finding outcome; start = 0; length = 0; next = 0; passed = 0 }

-- no profile has the number; otherwise the buffer ends before the place; otherwise a line is refused, or none is
abbrev pub IsNextAnswer : ℕ → List ℕ → ℕ → Line → Type 0
IsNextAnswer number bytes from line =
    ((profile_of number ≡ None) × (line ≡ no_line NoProfile))
    ⊎ ((profile : Profile) × (profile_of number ≡ Some profile)
    × (((length bytes < from) × (line ≡ no_line NoPlace))
    ⊎ ((from ≤ length bytes) × IsFound number bytes from line)))
