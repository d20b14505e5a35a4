-- What a job has done with its streams, by the end that it gave.
use Rattle.std.specs.Prelude.{◌≡◌, ◌≢◌, ◌≤◌, ℕ, ◌+◌, ◌==◌, Bool, false, true, List, Option, None, String, length}
use Rattle.std.specs.Prelude.{option_map, string_bytes}
use Rattle.std.specs.Borrow.{Bor}
use Rattle.std.specs.Io.KnownBytes.{Consumes, IsAtEnd}
use Rattle.std.specs.Str.{chars}
use Rattle.std.specs.declared.alloc.Global.{Global}
use Rattle.uv_model.specs.declared.extent.Extent.{Extent}
use Rattle.uv_model.specs.declared.profile.Profile.{Profile}
use Rattle.uv_model.specs.Records.Url.{Url}
use Rattle.uv_links.specs.declared.counts.Counts.{Counts}
use Rattle.uv_links.specs.declared.fault.LinkFault.{LinkFault}
use Rattle.uv_links.specs.Report.{ListSetting}
use Rattle.uv_links.specs.Run.{Leaves, Reports, reads_failed, writes_failed}
use Rattle.uv_compare.specs.Second.{AgreesOnBase}
use Rattle.uv_resolve.specs.Base.{IsBase, IsBaseRefused}
use Rattle.uv_vectors.specs.Ends.{IsEndOf}
use Rattle.uv_vectors.specs.Run.{WritesVectors, WritesVectorsPrefix, is_checked, most_bytes}
use Rattle.uv_arguments.specs.declared.jobs.FilterJob.{FilterJob}
use Rattle.uv_arguments.specs.declared.jobs.Job.{Job}
use Rattle.uv_arguments.specs.declared.jobs.Job.TheVariants as job
use Rattle.uv_arguments.specs.declared.jobs.LintJob.{LintJob}
use Rattle.uv_arguments.specs.declared.jobs.Told.{Told}
use Rattle.uv_cli.specs.declared.check.CheckEnd.TheVariants as check
use Rattle.uv_cli.specs.declared.check.RefusedText.{RefusedText}
use Rattle.uv_cli.specs.declared.explain.ExplainEnd.TheVariants as explain
use Rattle.uv_cli.specs.declared.fault.CliFault.TheVariants as cli
use Rattle.uv_cli.specs.declared.ends.End.{End}
use Rattle.uv_cli.specs.declared.ends.End.TheVariants as end
use Rattle.uv_cli.specs.declared.jobs.Done.{Done}
use Rattle.uv_cli.specs.Check.{HasWritten, HasWrittenPrefix, IsKeptAt, RunsAgainst}
use Rattle.uv_cli.specs.Stream.{Stream}
use Rattle.uv_cli.specs.Explain.{HasExplained, HasExplainedPrefix}
use Rattle.uv_cli.specs.Lint.{HasLinted}
use Rattle.uv_cli.specs.Filter.{HasFiltered}
use Rattle.uv_cli.specs.InPlace.{HasMendedFiles, any_opens, any_replaces, any_stays}
use Rattle.uv_cli.specs.Mend.{HasMended}

-- ---- a check

-- what was written of the text against the base's text
abbrev pub HasChecked : Extent → Profile → Option (Bor (List ℕ)) → List ℕ → End → Stream → Stream → Type 0
HasChecked extent profile base text end.Valid old new =
    HasWritten extent profile base text check.Valid old.bytes new.bytes × (new.failed ≡ old.failed)
HasChecked extent profile base text end.Refused old new =
    HasWritten extent profile base text check.Refused old.bytes new.bytes × (new.failed ≡ old.failed)
HasChecked extent profile base text (end.BaseRefused refusal) old new =
    HasWritten extent profile base text (check.BaseRefused refusal) old.bytes new.bytes × (new ≡ old)
HasChecked extent profile base text (end.Fault cli.Memory) old new = new ≡ old
HasChecked extent profile base text (end.Fault cli.Write) old new =
    HasWrittenPrefix extent profile base text old.bytes new.bytes × (new.failed ≡ old.failed + 1)
HasChecked extent profile base text _ old new = ⊥

-- ---- a list of links

-- what the lines of a list are checked against, at the largest limits
abbrev pub list_setting : Profile → Option Url → ListSetting
list_setting profile base = record {
  profile = profile;
  base = base;
  line_bytes = 65536;
}

-- how many lines may come
abbrev pub most_lines : ℕ
most_lines = 1000000000

-- the list was read to its end, the whole report on it was written, and these are its counts
pub record HasReported (profile : Profile) (base : Option Url) (counts : Counts)
    (input rest old new : Stream) : Type 0 where
  pub read : List ℕ
  pub consumed : Consumes input.bytes rest.bytes read
  pub at_end : IsAtEnd rest.bytes
  pub reports : Reports (list_setting profile base) most_lines old.bytes read counts new.bytes
  pub agrees : AgreesOnBase base
  pub quiet : (rest.failed ≡ input.failed) × (new.failed ≡ old.failed)

-- the report stopped with this fault
pub record HasStopped (profile : Profile) (base : Option Url) (fault : LinkFault)
    (input rest old new : Stream) : Type 0 where
  pub read : List ℕ
  pub consumed : Consumes input.bytes rest.bytes read
  pub leaves : Leaves fault (list_setting profile base) most_lines old.bytes read (IsAtEnd rest.bytes) new.bytes
  pub failed : (rest.failed ≡ input.failed + reads_failed fault) × (new.failed ≡ old.failed + writes_failed fault)

-- what was read and written of the list against a URL as base
abbrev pub HasListedAgainst : Profile → Option Url → End → Stream → Stream → Stream → Stream → Type 0
HasListedAgainst profile base end.Valid input rest old new =
    (counts : Counts) × HasReported profile base counts input rest old new × (counts.ok ≡ counts.lines)
HasListedAgainst profile base end.Refused input rest old new =
    (counts : Counts) × HasReported profile base counts input rest old new × (counts.ok ≢ counts.lines)
HasListedAgainst profile base (end.Stopped fault) input rest old new = HasStopped profile base fault input rest old new
HasListedAgainst profile base _ input rest old new = ⊥

-- what was read and written of the list against the base's text, which is checked alone, before anything is read or
-- written
abbrev pub HasListed : Profile → Option (Bor (List ℕ)) → End → Stream → Stream → Stream → Stream → Type 0
HasListed profile base (end.BaseRefused refusal) input rest old new =
    IsBaseRefused profile base refusal × (rest ≡ input) × (new ≡ old)
HasListed profile base (end.Fault cli.Memory) input rest old new = (rest ≡ input) × (new ≡ old)
HasListed profile base end input rest old new =
    (url : Option Url) × IsBase profile base url × HasListedAgainst profile url end input rest old new

-- ---- a vector file

-- what a run over the bytes of a vector file has written
abbrev pub HasRunVectors : List ℕ → End → Stream → Stream → Type 0
HasRunVectors bytes (end.Vectors ended) old new =
    IsEndOf ended (λ told. WritesVectors bytes told old.bytes new.bytes × (is_checked told ≡ false → new ≡ old))
    × (new.failed ≡ old.failed)
HasRunVectors bytes (end.Fault cli.Memory) old new = (length bytes ≤ most_bytes) × (new ≡ old)
HasRunVectors bytes (end.Fault cli.Write) old new =
    WritesVectorsPrefix bytes old.bytes new.bytes × (new.failed ≡ old.failed + 1)
HasRunVectors bytes _ old new = ⊥

-- ---- an explanation

-- what was written of the rules with these names, or of each rule, as it was asked for
abbrev pub HasRunExplain : List (String Global) → Told → End → Stream → Stream → Type 0
HasRunExplain rules told end.Shown old new =
    HasExplained rules told explain.Explained old.bytes new.bytes × (new.failed ≡ old.failed)
HasRunExplain rules told end.UnknownRule old new =
    HasExplained rules told explain.Unknown old.bytes new.bytes × (new ≡ old)
HasRunExplain rules told (end.Fault cli.Memory) old new = new ≡ old
HasRunExplain rules told (end.Fault cli.Write) old new =
    HasExplainedPrefix rules told old.bytes new.bytes × (new.failed ≡ old.failed + 1)
HasRunExplain rules told _ old new = ⊥

-- ---- a job

-- it holds of a text of the job that may be absent, as it is lent to the run
abbrev pub AtLent : Option (String Global) → (Option (Bor (List ℕ)) → Type 0) → Type 0
AtLent text P =
    (lent : Option (Bor (List ℕ))) × (option_map (λ t. t.now) lent ≡ option_map string_bytes text) × P lent

-- what a lint has read and written
abbrev pub HasDoneLint : LintJob → End → Stream → Stream → Stream → Stream → Type 0
HasDoneLint asked end input rest old new =
    AtLent asked.base (λ base. AtLent asked.format (λ format. AtLent asked.columns (λ columns.
    HasLinted asked base format columns end input rest old new)))

-- what a filter has read and written
abbrev pub HasDoneFilter : FilterJob → End → Stream → Stream → Stream → Stream → Type 0
HasDoneFilter asked end input rest old new =
    AtLent asked.base (λ base. AtLent asked.only (λ only. HasFiltered asked base only end input rest old new))

-- how the mending of the lines of files in their place ends: refused if no file is named
abbrev pub EndsInPlace : Bool → List (String Global) → FilterJob → End → Type 0
EndsInPlace true files asked ended = ended ≡ end.Words
EndsInPlace false files asked ended =
    AtLent asked.base (λ base. AtLent asked.only (λ only.
    HasMendedFiles any_opens any_replaces any_stays files asked base only ended))

-- how it ends by the names of the files
abbrev pub HasDoneInPlace : List (String Global) → FilterJob → End → Type 0
HasDoneInPlace files asked ended = EndsInPlace (length files == 0) files asked ended

-- a job that ended so, of whose text nothing is kept
abbrev pub ended : End → Done
ended end = record { end = end; refused = None }

-- what is kept of the job's text is true of it
abbrev pub IsKeptOf : Job → Option RefusedText → Type 0
IsKeptOf (job.Check text base extent profile) kept =
    AtLent base (λ lent. IsKeptAt extent profile lent (chars (string_bytes text)) kept)
IsKeptOf other kept = kept ≡ None

-- what the job has read and written, where its file has these bytes
abbrev pub HasDone : Job → List ℕ → End → Stream → Stream → Stream → Stream → Type 0
HasDone (job.Check text base extent profile) bytes end input rest old new =
    AtLent base (λ lent. HasChecked extent profile lent (chars (string_bytes text)) end old new
    × RunsAgainst profile lent (chars (string_bytes text))) × (rest ≡ input)
HasDone (job.Lint asked) bytes end input rest old new = HasDoneLint asked end input rest old new
HasDone (job.Links base profile) bytes end input rest old new =
    AtLent base (λ lent. HasListed profile lent end input rest old new)
HasDone (job.Mend text base profile) bytes end input rest old new =
    AtLent base (λ lent. HasMended profile lent (string_bytes text) end old new) × (rest ≡ input)
HasDone (job.Filter asked) bytes end input rest old new = HasDoneFilter asked end input rest old new
HasDone job.LintWithoutInput bytes ended input rest old new = (ended ≡ end.Words) × (rest ≡ input) × (new ≡ old)
HasDone job.LintUnnamed bytes ended input rest old new = (ended ≡ end.Words) × (rest ≡ input) × (new ≡ old)
HasDone (job.UnknownColours name) bytes ended input rest old new =
    (ended ≡ end.Words) × (rest ≡ input) × (new ≡ old)
HasDone job.FilterOfText bytes ended input rest old new = (ended ≡ end.Words) × (rest ≡ input) × (new ≡ old)
HasDone job.SeveralTexts bytes ended input rest old new = (ended ≡ end.Words) × (rest ≡ input) × (new ≡ old)
HasDone (job.InPlace files asked) bytes ended input rest old new =
    HasDoneInPlace files.items asked ended × (rest ≡ input) × (new ≡ old)
HasDone (job.Vectors file) bytes end input rest old new = HasRunVectors bytes end old new × (rest ≡ input)
HasDone (job.Explain rules told) bytes end input rest old new =
    HasRunExplain rules.items told end old new × (rest ≡ input)
HasDone (job.UnknownProfile name) bytes ended input rest old new =
    (ended ≡ end.UnknownProfile) × (rest ≡ input) × (new ≡ old)
