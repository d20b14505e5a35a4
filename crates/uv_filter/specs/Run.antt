-- What a run has written, and what its faults leave.
use Rattle.std.specs.Prelude.{ℕ, ◌-◌, ◌^◌, ◌≤◌, ◌⊎◌, List, Option, length, take}
use Rattle.std.specs.Io.KnownBytes.{Appends}
use Rattle.std.specs.declared.alloc.AllocError.{AllocError}
use Rattle.uv_lines.specs.declared.fault.LineFault.{LineFault}
use Rattle.uv_lines.specs.declared.fault.LineFault.TheVariants.{Own, Stop}
use Rattle.uv_lines.specs.declared.fault.ReportFault.{ReportFault}
use Rattle.uv_lines.specs.declared.fault.ReportFault.TheVariants as within
use Rattle.uv_lines.specs.declared.fault.StopFault.{StopFault}
use Rattle.uv_lines.specs.declared.fault.StopFault.TheVariants.{Memory, Read, Write, TooManyLines, Endless}
use Rattle.uv_filter.specs.Filtered.{Filtered, Filtering}
use Rattle.uv_filter.specs.Lines.{Line, all_lines, ended_lines, ready_lines}

-- what the filter writes of the lines was written
pub record Wrote (start : Filtering) (lines : List Line) (old new : Option (List ℕ)) (now : Filtering) : Type 0 where
  pub text : List ℕ
  pub filtered : Filtered start lines text now
  pub wrote : Appends old new text

-- a prefix of it was
pub record Cut (start : Filtering) (lines : List Line) (old new : Option (List ℕ)) (now : Filtering) : Type 0 where
  pub text : List ℕ
  pub filtered : Filtered start lines text now
  pub prefix : ℕ
  pub wrote : Appends old new (take prefix text)

-- a prefix of what it writes of some of the first lines was written, perhaps cut within a line
abbrev pub WrotePrefix : Filtering → Option (List ℕ) → List ℕ → Filtering → Option (List ℕ) → Type 0
WrotePrefix start old read now new =
    (count : ℕ) × (count ≤ length (all_lines read)) × Cut start (take count (all_lines read)) old new now

-- What it writes of some of the first lines was written. They are lines that an LF has ended, but for a last one
-- without LF if no byte is left to come.
abbrev pub WroteLines : Filtering → Option (List ℕ) → List ℕ → Type 0 → Filtering → Option (List ℕ) → Type 0
WroteLines start old read at_end now new =
    (count : ℕ) × (count ≤ length (all_lines read)) × ((count ≤ length (ended_lines read)) ⊎ at_end)
    × Wrote start (take count (all_lines read)) old new now

-- What a fault of a run leaves, when these bytes were read. Lines are never too many.
abbrev pub Leaves : StopFault → Filtering → Option (List ℕ) → List ℕ → Type 0 → Filtering → Option (List ℕ) → Type 0
Leaves Memory start old read at_end now new = WroteLines start old read at_end now new
Leaves Read start old read at_end now new = Wrote start (ready_lines read) old new now
Leaves Write start old read at_end now new = WrotePrefix start old read now new
Leaves Endless start old read at_end now new =
    Wrote start (ready_lines read) old new now × (2 ^ 64 - 1 ≤ length read)
Leaves TooManyLines start old read at_end now new = ⊥

-- what a fault leaves while a piece is taken, where the bytes of the piece are among those that were read
abbrev pub TakeFault : ReportFault AllocError → Filtering → Option (List ℕ) → List ℕ → Filtering → Option (List ℕ)
    → Type 0
TakeFault (within.Reporter fault) start old read now new =
    (count : ℕ) × (count ≤ length (ended_lines read)) × Wrote start (take count (all_lines read)) old new now
TakeFault within.Write start old read now new = WrotePrefix start old read now new

-- what is left where memory ran out: the text that waited was written, or a prefix of it
abbrev pub Stops : ReportFault AllocError → List ℕ → Option (List ℕ) → Option (List ℕ) → Type 0
Stops (within.Reporter fault) text old new = Appends old new text
Stops within.Write text old new = (count : ℕ) × Appends old new (take count text)

-- the fault of a run, where one comes while its list is read
abbrev pub fault_of_list : LineFault (ReportFault AllocError) → StopFault
fault_of_list (Own (within.Reporter fault)) = Memory
fault_of_list (Own within.Write) = Write
fault_of_list (Stop fault) = fault
