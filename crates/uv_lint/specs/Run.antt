-- What a run has written, and what its faults leave.
use Rattle.std.specs.Prelude.{◌≡◌, ℕ, ◌+◌, ◌-◌, ◌^◌, ◌≤◌, ◌<◌, ◌⊎◌, Bool, List, [], Option, Result, Ok, Err, length}
use Rattle.std.specs.Io.KnownBytes.{Keeps}
use Rattle.std.specs.declared.alloc.AllocError.{AllocError}
use Rattle.uv_lines.specs.declared.fault.LineFault.{LineFault}
use Rattle.uv_lines.specs.declared.fault.LineFault.TheVariants.{Own, Stop}
use Rattle.uv_lines.specs.declared.fault.StopFault.{StopFault}
use Rattle.uv_lines.specs.declared.fault.StopFault.TheVariants.{Memory, Read, Write, TooManyLines, Endless}
use Rattle.uv_lines.specs.declared.limits.LineLimits.{LineLimits}
use Rattle.uv_lines.specs.Lines.{closed_lines, lines_of}
use Rattle.uv_lines.specs.Run.{WroteAll, WroteFirst, WrotePrefix, WroteLines}
use Rattle.uv_lint.specs.declared.counts.LintCounts.{LintCounts}
use Rattle.uv_lint.specs.LineViolations.{FileSetting}
use Rattle.uv_lint.specs.Report.{IsReport, IsReportBegun, none_counted}

-- how many bytes a line may have, and how many lines may come
abbrev pub line_limits : LineLimits
line_limits = record { line_bytes = 65536; lines = 1000000000 }

-- what the report on a file is, where a line may have so many bytes
abbrev pub IsReportWithin : FileSetting → LineLimits → Bool → List (List ℕ) → List ℕ → LintCounts → Type 0
IsReportWithin setting limits is_first = IsReport setting limits.line_bytes is_first

-- what a part of the report on a file is: of the last of the lines it may have only some of the first diagnostics
abbrev pub IsPartWithin : FileSetting → LineLimits → Bool → List (List ℕ) → List ℕ → LintCounts → Type 0
IsPartWithin setting limits is_first lines text counts =
    IsReport setting limits.line_bytes is_first lines text counts
    ⊎ IsReportBegun setting limits.line_bytes is_first lines text counts

-- the report on the bytes was written, on no more lines than may come, and these are its counts
abbrev pub Reports : FileSetting → LineLimits → Bool → Option (List ℕ) → List ℕ → LintCounts → Option (List ℕ)
    → Type 0
Reports setting limits is_first old read counts new =
    WroteAll (IsReportWithin setting limits is_first) limits old read counts new

-- nothing was read, and nothing was written
pub record WroteNothing (old : Option (List ℕ)) (read : List ℕ) (counts : LintCounts) (new : Option (List ℕ))
    : Type 0 where
  pub none_read : read ≡ []
  pub kept : Keeps old new
  pub none : counts ≡ none_counted

-- What a fault of a run leaves, when these bytes were read. What was written is the report on some of the first lines
-- with its end, or a prefix of that after a failed write. If memory ran out, or a write failed, that report may have
-- only some of the first diagnostics on the last of these lines; each of those is whole, but for the one that a failed
-- write has cut.
abbrev pub Leaves : StopFault → FileSetting → LineLimits → Bool → Option (List ℕ) → List ℕ → Type 0 → LintCounts
    → Option (List ℕ) → Type 0
Leaves Memory setting limits is_first old read at_end counts new =
    WroteNothing old read counts new
    ⊎ WroteLines (IsPartWithin setting limits is_first) old read at_end counts new
Leaves Read setting limits is_first old read at_end counts new =
    WroteFirst (IsReportWithin setting limits is_first) old read (length (closed_lines read)) counts new
Leaves Write setting limits is_first old read at_end counts new =
    WrotePrefix (IsPartWithin setting limits is_first) old read counts new
Leaves TooManyLines setting limits is_first old read at_end counts new =
    WroteFirst (IsReportWithin setting limits is_first) old read limits.lines counts new
    × (limits.lines < length (lines_of read))
Leaves Endless setting limits is_first old read at_end counts new =
    WroteFirst (IsReportWithin setting limits is_first) old read (length (closed_lines read)) counts new
    × (2 ^ 64 - 1 ≤ length read)

-- how many reads have failed after a fault, of so many before: one more for a read, and perhaps for a write, since
-- what is after the diagnostics is written after a failed read too
abbrev pub FailsReads : StopFault → ℕ → ℕ → Type 0
FailsReads Read old new = new ≡ old + 1
FailsReads Write old new = (new ≡ old) ⊎ (new ≡ old + 1)
FailsReads _ old new = new ≡ old

-- the fault of a run over a file, by the fault of its run over lines
abbrev pub fault_of_run : LineFault AllocError → StopFault
fault_of_run (Own fault) = Memory
fault_of_run (Stop fault) = fault

-- what a run over lines answers, as a run over a file does
abbrev pub answer_of_run : Result (Unit {0}) (LineFault AllocError) → Result (Unit {0}) StopFault
answer_of_run (Ok u) = Ok u
answer_of_run (Err fault) = Err (fault_of_run fault)
