-- How the program ends, by its arguments and by what its job came to.
use Rattle.std.specs.Prelude.{◌≡◌, ◌⊎◌, ℕ, Bool, false, List, Option, Some, None, Result, Ok, Err}
use Rattle.std.specs.Io.KnownBytes.{Keeps}
use Rattle.std.specs.declared.io.ErrorKind.{ErrorKind}
use Rattle.uv_cli.specs.declared.fault.CliFault.TheVariants as cli
use Rattle.uv_arguments.specs.Requests.{reason_of}
use Rattle.uv_arguments.specs.declared.jobs.Job.{Job}
use Rattle.uv_arguments.specs.declared.jobs.Job.TheVariants as job
use Rattle.uv_arguments.specs.declared.words_fault.Reason.{Reason}
use Rattle.uv_arguments.specs.declared.words_fault.Reason.TheVariants as reason
use Rattle.uv_arguments.specs.declared.words_fault.WordsFault.{WordsFault}
use Rattle.uv_cli.specs.Ends.{end_without_file, end_without_job, fixed_text, status_of}
use Rattle.uv_cli.specs.Flushed.{ended_after, open_end}
use Rattle.uv_cli.specs.Jobs.{HasDone}
use Rattle.uv_cli.specs.Stream.{Stream, stream}
use Rattle.uv_cli.specs.declared.ends.End.{End}
use Rattle.uv_cli.specs.declared.ends.End.TheVariants as end
use Rattle.uv_cli.specs.declared.program.Ended.{Ended}
use Rattle.uv_cli.specs.declared.vector_file.FileFault.{FileFault}

-- ---- a job

-- the job was done over the input and the output, which was flushed after its last write, or not: the end is the job's,
-- or the end of a failed write
abbrev pub HasRun : Job → List ℕ → Ended → Stream → Stream → Option (List ℕ) → Option (List ℕ) → Bool
    → Option ErrorKind → Type 0
HasRun asked file ended input rest old new flushed fault =
    (end : End) × (held : Option (List ℕ)) × (failed : ℕ)
    × HasDone asked file end input rest (stream old 0) (stream held failed)
    × Keeps held new × (ended ≡ ended_after end flushed fault)

-- the job was done over its file, an input that had these bytes to come, and an output that held those
abbrev pub HasRunOver : Job → List ℕ → Option (List ℕ) → Option (List ℕ) → Ended → Type 0
HasRunOver asked file input old ended =
    (rest : Stream) × (new : Option (List ℕ)) × (flushed : Bool) × (fault : Option ErrorKind)
    × HasRun asked file ended (stream input 0) rest old new flushed fault

-- the job has a file
abbrev pub HasFile : Job → Type 0
HasFile (job.Vectors file) = Unit {0}
HasFile other = ⊥

-- the job was done over some input and output, or its file wasn't read
abbrev pub HasEndedJob : Job → Ended → Type 0
HasEndedJob asked ended =
    ((file : List ℕ) × (input : Option (List ℕ)) × (old : Option (List ℕ)) × HasRunOver asked file input old ended)
    ⊎ (HasFile asked × ((fault : FileFault) × (ended ≡ open_end (end_without_file fault))))

-- ---- no job

-- help was shown, or wasn't; a refusal was reported
abbrev pub HasShown : Reason → Ended → Type 0
HasShown why ended =
    (ended ≡ open_end (end_without_job why))
    ⊎ ((why ≡ reason.Shown)
    × ((kind : Option ErrorKind) × (ended ≡ ended_after (end_without_job why) false kind)))

-- what the words ask for was done, or it was said why there is nothing to do
abbrev pub HasAnswered : Result (Option Job) WordsFault → Ended → Type 0
HasAnswered (Ok (Some asked)) ended = HasEndedJob asked ended
HasAnswered (Ok None) ended = ended ≡ open_end end.Words
HasAnswered (Err fault) ended = HasShown (reason_of fault) ended

-- ---- the status

-- the status is the end's, or, only when its last line has numbers, the status of no memory to say it
abbrev pub IsStatus : End → ℕ → Type 0
IsStatus ended status =
    (status ≡ status_of ended) ⊎ ((fixed_text ended ≡ None) × (status ≡ status_of (end.Fault cli.Memory)))
