-- What a run has written, and what its faults leave.
use Rattle.std.specs.Prelude.{◌≡◌, ℕ, ◌-◌, ◌^◌, ◌≤◌, ◌<◌, ◌⊎◌, List, [], Option, length, take}
use Rattle.std.specs.Io.KnownBytes.{Appends, Keeps}
use Rattle.uv_links.specs.declared.counts.Counts.{Counts}
use Rattle.uv_links.specs.declared.fault.LinkFault.{LinkFault}
use Rattle.uv_links.specs.declared.fault.LinkFault.TheVariants.{Stop, Overflow, BaseDiffers}
use Rattle.uv_lines.specs.declared.fault.StopFault.TheVariants.{Memory, Read, Write, TooManyLines, Endless}
use Rattle.uv_lines.specs.Lines.{closed_lines, lines_of}
use Rattle.uv_lines.specs.declared.fault.LineFault.{LineFault}
use Rattle.uv_lines.specs.declared.fault.LineFault.TheVariants as stopped
use Rattle.uv_compare.specs.declared.fault.RoomFault.{RoomFault}
use Rattle.uv_lines.specs.Fault as stop
use Rattle.uv_links.specs.Fault.{fault_of_room}
use Rattle.uv_links.specs.Report.{ListSetting, IsReport, IsReportOfFirst}
use Rattle.uv_compare.specs.Second.{AgreesOnBase}

-- the whole report on the bytes was written, on no more lines than may come, and these are its counts
pub record Reports (setting : ListSetting) (most : ℕ) (old : Option (List ℕ)) (read : List ℕ) (counts : Counts)
    (new : Option (List ℕ)) : Type 0 where
  pub text : List ℕ
  pub report : IsReport setting read text counts
  pub wrote : Appends old new text
  pub few : length (lines_of read) ≤ most

-- the report's lines on so many of the first lines were written
pub record WroteFirst (setting : ListSetting) (old : Option (List ℕ)) (read : List ℕ) (count : ℕ)
    (new : Option (List ℕ))
    : Type 0 where
  pub text : List ℕ
  pub report : IsReportOfFirst setting read count text
  pub wrote : Appends old new text

-- a text is the whole report, or its lines on some of the first lines
abbrev pub IsReportOrFirst : ListSetting → List ℕ → List ℕ → Type 0
IsReportOrFirst setting read text =
    ((counts : Counts) × IsReport setting read text counts)
    ⊎ ((count : ℕ) × (count ≤ length (lines_of read)) × IsReportOfFirst setting read count text)

-- a beginning of it was written, perhaps cut within a line
pub record WrotePrefix (setting : ListSetting) (old : Option (List ℕ)) (read : List ℕ)
    (new : Option (List ℕ)) : Type 0 where
  pub text : List ℕ
  pub report : IsReportOrFirst setting read text
  pub prefix : ℕ
  pub wrote : Appends old new (take prefix text)

-- The report's lines on the first lines were written, and no line of counts. They are lines that an LF has ended, but
-- for a last one without LF if no byte is left to come.
abbrev pub WroteLines : ListSetting → Option (List ℕ) → List ℕ → Type 0 → Option (List ℕ) → Type 0
WroteLines setting old read at_end new =
    (count : ℕ) × (count ≤ length (lines_of read)) × ((count ≤ length (closed_lines read)) ⊎ at_end)
    × WroteFirst setting old read count new

-- What a fault of a run leaves, when these bytes were read.
abbrev pub Leaves : LinkFault → ListSetting → ℕ → Option (List ℕ) → List ℕ → Type 0 → Option (List ℕ) → Type 0
Leaves (Stop Memory) setting most old read at_end new = WroteLines setting old read at_end new
Leaves Overflow setting most old read at_end new = WroteLines setting old read at_end new
Leaves (Stop Read) setting most old read at_end new = WroteFirst setting old read (length (closed_lines read)) new
Leaves (Stop Write) setting most old read at_end new = WrotePrefix setting old read new
Leaves BaseDiffers setting most old read at_end new = (read ≡ []) × Keeps old new × ¬ (AgreesOnBase setting.base)
Leaves (Stop TooManyLines) setting most old read at_end new =
    WroteFirst setting old read most new × (most < length (lines_of read))
Leaves (Stop Endless) setting most old read at_end new =
    WroteFirst setting old read (length (closed_lines read)) new × (2 ^ 64 - 1 ≤ length read)

-- how many failed reads a fault stands for
abbrev pub reads_failed : LinkFault → ℕ
reads_failed (Stop fault) = stop.reads_failed fault
reads_failed _ = 0

-- how many failed writes a fault stands for
abbrev pub writes_failed : LinkFault → ℕ
writes_failed (Stop fault) = stop.writes_failed fault
writes_failed _ = 0

-- the fault of a run over links, by the fault of its run over lines
abbrev pub fault_of_run : LineFault RoomFault → LinkFault
fault_of_run (stopped.Own fault) = fault_of_room fault
fault_of_run (stopped.Stop fault) = Stop fault
