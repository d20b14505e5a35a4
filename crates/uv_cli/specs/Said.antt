-- The message on standard error before the last line.
use Rattle.std.specs.Prelude.{ℕ, Bool, false, nat_le}
use Rattle.uv_arguments.specs.declared.jobs.Job.{Job}
use Rattle.uv_arguments.specs.declared.jobs.Job.TheVariants as job
use Rattle.uv_cli.specs.Ends.{status_of}
use Rattle.uv_cli.specs.declared.ends.End.{End}

-- a check, or a run over a list or over a file of vectors, ended with the status 0 or 1: it says nothing unless
-- standard error goes to a terminal
abbrev pub ends_silently : Job → End → Bool
ends_silently (job.Check text base extent profile) end = nat_le (status_of end) 1
ends_silently (job.Links base profile) end = nat_le (status_of end) 1
ends_silently (job.Vectors file) end = nat_le (status_of end) 1
ends_silently other end = false
