-- Which faults of a run are faults of a write, after which nothing more is written, and how many failed calls they are.
use Rattle.std.specs.Prelude.{ℕ, Bool, true, false, not, Result, Ok, Err}
use Rattle.uv_lines.specs.declared.fault.LineFault.{LineFault}
use Rattle.uv_lines.specs.declared.fault.LineFault.TheVariants.{Own, Stop}
use Rattle.uv_lines.specs.declared.fault.ReportFault.{ReportFault}
use Rattle.uv_lines.specs.declared.fault.ReportFault.TheVariants as within
use Rattle.uv_lines.specs.declared.fault.StopFault.{StopFault}
use Rattle.uv_lines.specs.declared.fault.StopFault.TheVariants.{Read, Write}

-- whether a write failed
abbrev pub is_write : {F : Type 0} → LineFault F → Bool
is_write (Stop Write) = true
is_write _ = false

-- a further write may come after this answer
abbrev pub may_write : {F : Type 0} → Result (Unit {0}) (LineFault F) → Bool
may_write (Ok u) = true
may_write (Err fault) = not (is_write fault)

-- how many failed reads a fault stands for
abbrev pub reads_failed : StopFault → ℕ
reads_failed Read = 1
reads_failed _ = 0

-- how many failed writes a fault stands for
abbrev pub writes_failed : StopFault → ℕ
writes_failed Write = 1
writes_failed _ = 0

-- how many failed writes a fault within a line stands for
abbrev pub failed_within : {F : Type 0} → ReportFault F → ℕ
failed_within (within.Reporter fault) = 0
failed_within within.Write = 1

-- a run's fault where one comes within a line
abbrev pub fault_of_run : {F : Type 0} → ReportFault F → LineFault F
fault_of_run (within.Reporter fault) = Own fault
fault_of_run within.Write = Stop Write

-- a run's fault where one comes while its list is read
abbrev pub fault_of_list : {F : Type 0} → LineFault (LineFault F) → LineFault F
fault_of_list (Own fault) = fault
fault_of_list (Stop fault) = Stop fault
