-- Why there are no bytes of a vector file.
use Rattle.std.specs.Prelude.{◌≡◌, ◌≢◌}
use Rattle.std.specs.declared.io.ErrorKind.{ErrorKind}
use Rattle.std.specs.declared.io.ErrorKind.TheVariants.{OutOfMemory}
use Rattle.uv_cli.specs.declared.vector_file.FileFault.{FileFault}
use Rattle.uv_cli.specs.declared.vector_file.FileFault.TheVariants as file

-- a file isn't read since memory ran out, or for the reason that the error's kind says
abbrev pub IsFault : ErrorKind → FileFault → Type 0
IsFault kind file.Memory = kind ≡ OutOfMemory
IsFault kind (file.Unread reason) = (kind ≢ OutOfMemory) × (reason ≡ kind)
