-- The line of what stopped a run over lines.
use Rattle.std.specs.Prelude.{ℕ, List, [], Option, Some, None, codes}
use Rattle.uv_lines.specs.declared.fault.StopFault.{StopFault}
use Rattle.uv_lines.specs.declared.fault.StopFault.TheVariants.{Memory, Read, Write, TooManyLines, Endless}

-- the line of what stopped it
abbrev pub stop_text : StopFault → List ℕ
stop_text Memory = codes "memory\n"
stop_text Read = codes "read\n"
stop_text Write = codes "write\n"
stop_text TooManyLines = codes "too many lines\n"
stop_text Endless = codes "endless\n"

-- the line of what stopped it, if something did
abbrev pub stopped_text : Option StopFault → List ℕ
stopped_text None = []
stopped_text (Some fault) = stop_text fault
