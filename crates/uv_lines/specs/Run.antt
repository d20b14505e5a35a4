-- What a run has written, and what its faults leave.
use Rattle.std.specs.Prelude.{ℕ, ◌-◌, ◌^◌, ◌≤◌, ◌<◌, ◌⊎◌, Bool, true, false, List, Option, length, take}
use Rattle.uv_lines.specs.declared.fault.LineFault.{LineFault}
use Rattle.uv_lines.specs.declared.fault.LineFault.TheVariants.{Own, Stop}
use Rattle.uv_lines.specs.declared.fault.ReportFault.{ReportFault}
use Rattle.uv_lines.specs.declared.fault.ReportFault.TheVariants as within
use Rattle.uv_lines.specs.declared.fault.StopFault.TheVariants.{Memory, Read, Write, TooManyLines, Endless}
use Rattle.uv_lines.specs.declared.limits.LineLimits.{LineLimits}
use Rattle.uv_lines.specs.Fault as stop
use Rattle.uv_lines.specs.Lines.{closed_lines, lines_of}
use Rattle.uv_lines.specs.Progress.{IsPartOfFirst, Stands, TakeFault}
use Rattle.uv_lines.specs.Reported.{Cut, Reported, ReportedPart, Wrote}
use Rattle.uv_lines.specs.Waiting.{Passes}

-- the report on the bytes was written, on no more lines than may come
pub record WroteAll {S : Type 0} (IsReport : List (List ℕ) → List ℕ → S → Type 0) (limits : LineLimits)
    (old : Option (List ℕ)) (read : List ℕ) (now : S) (new : Option (List ℕ)) : Type 0 where
  pub wrote : Wrote IsReport (lines_of read) old new now
  pub few : length (lines_of read) ≤ limits.lines

-- the report on so many of the first lines was written
abbrev pub WroteFirst : {S : Type 0} → (List (List ℕ) → List ℕ → S → Type 0) → Option (List ℕ) → List ℕ → ℕ → S
    → Option (List ℕ) → Type 0
WroteFirst IsReport old read count now new = Wrote IsReport (take count (lines_of read)) old new now

-- a beginning of the report on some of the first lines was written, perhaps cut within the report on a line
abbrev pub WrotePrefix : {S : Type 0} → (List (List ℕ) → List ℕ → S → Type 0) → Option (List ℕ) → List ℕ → S
    → Option (List ℕ) → Type 0
WrotePrefix IsReport old read now new =
    (count : ℕ) × (count ≤ length (lines_of read)) × Cut IsReport (take count (lines_of read)) old new now

-- The report on some of the first lines was written. They are lines that an LF has ended, but for a last one without LF
-- if no byte is left to come.
abbrev pub WroteLines : {S : Type 0} → (List (List ℕ) → List ℕ → S → Type 0) → Option (List ℕ) → List ℕ → Type 0 → S
    → Option (List ℕ) → Type 0
WroteLines IsReport old read at_end now new =
    (count : ℕ) × (count ≤ length (lines_of read)) × ((count ≤ length (closed_lines read)) ⊎ at_end)
    × WroteFirst IsReport old read count now new

-- What a fault of a run leaves, when these bytes were read. If the reporter can't report on a line, or a write fails
-- within one, what was written is a part of a report, of which the last line may only have been begun.
abbrev pub Leaves : {S F : Type 0} → (List (List ℕ) → List ℕ → S → Type 0) → (List (List ℕ) → List ℕ → S → Type 0)
    → LineLimits → LineFault F → Option (List ℕ) → List ℕ → Type 0 → S → Option (List ℕ) → Type 0
Leaves IsReport IsPart limits (Own fault) old read at_end now new = WroteLines IsPart old read at_end now new
Leaves IsReport IsPart limits (Stop Memory) old read at_end now new = WroteLines IsReport old read at_end now new
Leaves IsReport IsPart limits (Stop Read) old read at_end now new =
    WroteFirst IsReport old read (length (closed_lines read)) now new
Leaves IsReport IsPart limits (Stop Write) old read at_end now new = WrotePrefix IsPart old read now new
Leaves IsReport IsPart limits (Stop TooManyLines) old read at_end now new =
    WroteFirst IsReport old read limits.lines now new × (limits.lines < length (lines_of read))
Leaves IsReport IsPart limits (Stop Endless) old read at_end now new =
    WroteFirst IsReport old read (length (closed_lines read)) now new × (2 ^ 64 - 1 ≤ length read)

-- how many failed reads a fault stands for
abbrev pub reads_failed : {F : Type 0} → LineFault F → ℕ
reads_failed (Stop fault) = stop.reads_failed fault
reads_failed (Own fault) = 0

-- how many failed writes a fault stands for
abbrev pub writes_failed : {F : Type 0} → LineFault F → ℕ
writes_failed (Stop fault) = stop.writes_failed fault
writes_failed (Own fault) = 0

-- what was said of the lines: a beginning was written, and the rest waits to be
pub record Waits {S : Type 0} (reports : S → Option (List ℕ) → List ℕ → S → Type 0) (lines : S → ℕ) (line_bytes : ℕ)
    (start : S) (old : Option (List ℕ)) (read : List ℕ) (now : S) (begun text : List ℕ) (new : Option (List ℕ))
    : Type 0 where
  pub said : List ℕ
  pub passes : Passes said old new text
  pub stands : Stands reports lines line_bytes start said read now begun

-- What a fault leaves while lines are taken: after a failed write a prefix of a part of the report was written, after
-- each other one such a part was written or waits to be.
abbrev pub WaitFault : {S F : Type 0} → Bool → (S → Option (List ℕ) → List ℕ → S → Type 0)
    → (S → Option (List ℕ) → List ℕ → Type 0) → LineLimits → S → LineFault F → Option (List ℕ) → List ℕ → S → List ℕ
    → Option (List ℕ) → Type 0
WaitFault true reports begins limits start fault old read now text new =
    WrotePrefix (ReportedPart reports begins limits.line_bytes start) old read now new
WaitFault false reports begins limits start fault old read now text new =
    (said : List ℕ) × Passes said old new text × TakeFault reports begins limits start fault read now said

-- what a fault leaves while a piece is passed on
abbrev pub PassFault : {S F : Type 0} → (S → Option (List ℕ) → List ℕ → S → Type 0)
    → (S → Option (List ℕ) → List ℕ → Type 0) → LineLimits → S → LineFault F → Option (List ℕ) → List ℕ → S
    → Option (List ℕ) → Type 0
PassFault reports begins limits start (Stop Write) old read now new =
    WrotePrefix (ReportedPart reports begins limits.line_bytes start) old read now new
PassFault reports begins limits start (Own fault) old read now new =
    (count : ℕ) × (count ≤ length (closed_lines read))
    × WroteFirst (ReportedPart reports begins limits.line_bytes start) old read count now new
PassFault reports begins limits start (Stop Memory) old read now new =
    (count : ℕ) × (count ≤ length (closed_lines read))
    × WroteFirst (Reported reports limits.line_bytes start) old read count now new
PassFault reports begins limits start (Stop TooManyLines) old read now new =
    WroteFirst (Reported reports limits.line_bytes start) old read limits.lines now new
    × (limits.lines < length (lines_of read))
PassFault reports begins limits start _ old read now new = ⊥

-- what a fault leaves of the last line, if no LF ends it
abbrev pub EndFault : {S F : Type 0} → (S → Option (List ℕ) → List ℕ → S → Type 0)
    → (S → Option (List ℕ) → List ℕ → Type 0) → LineLimits → S → ReportFault F → Option (List ℕ) → List ℕ → S → List ℕ
    → Option (List ℕ) → Type 0
EndFault reports begins limits start within.Write old read now text new =
    WrotePrefix (ReportedPart reports begins limits.line_bytes start) old read now new
EndFault reports begins limits start (within.Reporter fault) old read now text new =
    (said : List ℕ) × Passes said old new text × (count : ℕ) × (count ≤ length (lines_of read))
    × IsPartOfFirst reports begins limits.line_bytes start read count now said

-- what a fault leaves of the last line, if no LF ends it and what waited was written
abbrev pub FinishFault : {S F : Type 0} → (S → Option (List ℕ) → List ℕ → S → Type 0)
    → (S → Option (List ℕ) → List ℕ → Type 0) → LineLimits → S → LineFault F → Option (List ℕ) → List ℕ → S
    → Option (List ℕ) → Type 0
FinishFault reports begins limits start (Stop Write) old read now new =
    WrotePrefix (ReportedPart reports begins limits.line_bytes start) old read now new
FinishFault reports begins limits start (Own fault) old read now new =
    (count : ℕ) × (count ≤ length (lines_of read))
    × WroteFirst (ReportedPart reports begins limits.line_bytes start) old read count now new
FinishFault reports begins limits start _ old read now new = ⊥
