-- How the program ends once its output is flushed.
use Rattle.std.specs.Prelude.{Bool, false, Option}
use Rattle.std.specs.declared.io.ErrorKind.{ErrorKind}
use Rattle.uv_cli.specs.Calls.{is_closed_by}
use Rattle.uv_cli.specs.Ends.{end_after_output}
use Rattle.uv_cli.specs.declared.ends.End.{End}
use Rattle.uv_cli.specs.declared.program.Ended.{Ended}

-- an end after which the output is still read
abbrev pub open_end : End → Ended
open_end end = record { end = end; is_closed = false }

-- the end once the output is flushed, or isn't, by the kind of the last error: if it isn't, as if a write had failed
abbrev pub ended_after : End → Bool → Option ErrorKind → Ended
ended_after end flushed fault = record { end = end_after_output end flushed; is_closed = is_closed_by fault }
