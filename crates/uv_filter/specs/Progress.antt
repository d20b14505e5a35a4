-- Where a run is between two parts of a list.
use Rattle.std.specs.Prelude.{◌≡◌, ℕ, Bool, true, false, List, [], ◌++◌, Option}
use Rattle.std.specs.Io.KnownBytes.{Appends}
use Rattle.uv_lines.specs.Lines.{split}
use Rattle.uv_filter.specs.declared.fate.Fate.TheVariants.{TooLong}
use Rattle.uv_filter.specs.Filtered.{Filtered, Filtering, Filters, with_fate}
use Rattle.uv_filter.specs.Lines.{Line, all_lines, ended_lines, is_over}

-- of the next line this was appended
pub record Adds (before : Filtering) (line : Line) (old : List ℕ) (after : Filtering) (new : List ℕ) : Type 0 where
  pub said : List ℕ
  pub filters : Filters before line said after
  pub appended : new ≡ old ++ said

-- what is written of a line whose end has not come: all that came of one that is too long already
abbrev pub passed : Bool → List ℕ → List ℕ
passed true bytes = bytes
passed false bytes = []

-- and what of it is kept
abbrev pub kept_of : Bool → List ℕ → List ℕ
kept_of true bytes = []
kept_of false bytes = bytes

-- a line is counted as too long once it is known to be
abbrev pub with_over : Bool → Filtering → Filtering
with_over true before = with_fate before TooLong
with_over false before = before

-- a line is counted as too long, unless it is known to be already
abbrev pub passing : Bool → Filtering → Filtering
passing true before = before
passing false before = with_fate before TooLong

-- The run has read these bytes. What it has written, and the text that waits to be, is what the filter writes of the
-- lines that have ended, and all of a further one that is too long already. Of any other one all bytes are kept.
pub record Stands (start : Filtering) (old : Option (List ℕ)) (read : List ℕ) (now : Filtering) (begun : List ℕ)
    (is_long : Bool) (text : List ℕ) (new : Option (List ℕ)) : Type 0 where
  pub closed : List ℕ
  pub before : Filtering
  pub filtered : Filtered start (ended_lines read) closed before
  pub written : List ℕ
  pub wrote : Appends old new written
  pub out : written ++ text ≡ closed ++ passed (is_over (split read).1) (split read).1
  pub kept : begun ≡ kept_of (is_over (split read).1) (split read).1
  pub long : is_long ≡ is_over (split read).1
  pub counted : now ≡ with_over (is_over (split read).1) before

-- what was written, and the text that waits to be, is what the filter writes of all lines
pub record Ends (start : Filtering) (old : Option (List ℕ)) (read : List ℕ) (now : Filtering) (text : List ℕ)
    (new : Option (List ℕ)) : Type 0 where
  pub written : List ℕ
  pub wrote : Appends old new written
  pub filtered : Filtered start (all_lines read) (written ++ text) now
