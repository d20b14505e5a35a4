-- The state of a run between two pieces, and what its faults leave.
use Rattle.std.specs.Prelude.{◌≡◌, ℕ, ◌+◌, ◌≤◌, ◌<◌, Bool, true, false, List, Option, length, take}
use Rattle.std.specs.Str.Lines.{strip_carriage_return}
use Rattle.uv_lines.specs.declared.fault.LineFault.{LineFault}
use Rattle.uv_lines.specs.declared.fault.LineFault.TheVariants.{Own, Stop}
use Rattle.uv_lines.specs.declared.fault.StopFault.TheVariants.{Memory, TooManyLines}
use Rattle.uv_lines.specs.declared.limits.LineLimits.{LineLimits}
use Rattle.uv_lines.specs.Lines.{split, closed_lines, lines_of}
use Rattle.uv_lines.specs.Reported.{Reported, ReportedPart}

-- The run has read these bytes and said a text: of the begun line a prefix is kept, which decides the report on it; the
-- text is the report on each line that an LF ended.
pub record Stands {S : Type 0} (reports : S → Option (List ℕ) → List ℕ → S → Type 0) (lines : S → ℕ)
    (line_bytes : ℕ) (start : S) (said read : List ℕ) (now : S) (begun : List ℕ) : Type 0 where
  pub reported : Reported reports line_bytes start (closed_lines read) said now
  pub kept : begun ≡ take (line_bytes + 2) (split read).1
  pub count : lines now ≡ length (closed_lines read)

-- a line as its end leaves it: an LF takes the CR before it with it
abbrev pub ended : Bool → List ℕ → List ℕ
ended true line = strip_carriage_return line
ended false line = line

-- the report on so many of the first lines, in this state
abbrev pub IsReportOfFirst : {S : Type 0} → (S → Option (List ℕ) → List ℕ → S → Type 0) → ℕ → S → List ℕ → ℕ → S
    → List ℕ → Type 0
IsReportOfFirst reports line_bytes start read count now text =
    Reported reports line_bytes start (take count (lines_of read)) text now

-- the report on so many of the first lines, of which the last may only be begun, in this state
abbrev pub IsPartOfFirst : {S : Type 0} → (S → Option (List ℕ) → List ℕ → S → Type 0)
    → (S → Option (List ℕ) → List ℕ → Type 0) → ℕ → S → List ℕ → ℕ → S → List ℕ → Type 0
IsPartOfFirst reports begins line_bytes start read count now text =
    ReportedPart reports begins line_bytes start (take count (lines_of read)) text now

-- what a fault leaves while lines are taken: the report on some of the first lines, perhaps with the parts that begin
-- it on a further one, and on as many as may come where there are too many
abbrev pub TakeFault : {S F : Type 0} → (S → Option (List ℕ) → List ℕ → S → Type 0)
    → (S → Option (List ℕ) → List ℕ → Type 0) → LineLimits → S → LineFault F → List ℕ → S → List ℕ → Type 0
TakeFault reports begins limits start (Own fault) read now text =
    (count : ℕ) × (count ≤ length (closed_lines read))
    × IsPartOfFirst reports begins limits.line_bytes start read count now text
TakeFault reports begins limits start (Stop Memory) read now text =
    (count : ℕ) × (count ≤ length (closed_lines read))
    × IsReportOfFirst reports limits.line_bytes start read count now text
TakeFault reports begins limits start (Stop TooManyLines) read now text =
    IsReportOfFirst reports limits.line_bytes start read limits.lines now text
    × (limits.lines < length (lines_of read))
TakeFault reports begins limits start _ read now text = ⊥
