-- What is kept of the calls of a reader or a writer.
use Rattle.std.specs.Prelude.{Bool, true, false, Option, Some, Result, Ok, Err}
use Rattle.std.specs.IoError.{error_kind}
use Rattle.std.specs.declared.io.Error.{Error}
use Rattle.std.specs.declared.io.ErrorKind.{ErrorKind}
use Rattle.std.specs.declared.io.ErrorKind.TheVariants.{BrokenPipe}

-- the kind of the last error after a call: the call's, if it failed
abbrev pub fault_after : {A : Type 0} → Option ErrorKind → Result A Error → Option ErrorKind
fault_after fault (Ok given) = fault
fault_after fault (Err error) = Some (error_kind error)

-- anyone who read the output has gone
abbrev pub is_closed_by : Option ErrorKind → Bool
is_closed_by (Some BrokenPipe) = true
is_closed_by fault = false
