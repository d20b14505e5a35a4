-- What a filter of lines has read and written, and what it has come to.
use Rattle.std.specs.Prelude.{◌≡◌, ℕ, ◌+◌, Bool, true, false, List, Option, Some, None, option_map}
use Rattle.std.specs.Borrow.{Bor}
use Rattle.std.specs.Io.KnownBytes.{Consumes, IsAtEnd}
use Rattle.uv_filter.specs.declared.counts.FilterCounts.{FilterCounts}
use Rattle.uv_lines.specs.declared.fault.StopFault.{StopFault}
use Rattle.uv_lines.specs.Fault.{reads_failed, writes_failed}
use Rattle.uv_filter.specs.Fates.{Mender}
use Rattle.uv_filter.specs.Filtered.{Filtering, starting}
use Rattle.uv_filter.specs.Lines.{all_lines}
use Rattle.uv_filter.specs.Run.{Leaves, Wrote}
use Rattle.uv_filter.specs.declared.setting.WrittenKinds.{WrittenKinds}
use Rattle.uv_filter.specs.declared.setting.WrittenKinds.TheVariants.{Every, Safe, Only}
use Rattle.uv_model.specs.MendKindName.{named_kind}
use Rattle.uv_model.specs.Records.Url.{Url}
use Rattle.uv_resolve.specs.Base.{IsBase, IsBaseRefused}
use Rattle.uv_cli.specs.declared.fault.CliFault.TheVariants as cli
use Rattle.uv_arguments.specs.declared.jobs.FilterJob.{FilterJob}
use Rattle.uv_cli.specs.declared.ends.End.{End}
use Rattle.uv_cli.specs.declared.ends.End.TheVariants as end
use Rattle.uv_cli.specs.declared.filtered.Filtered.{Filtered}
use Rattle.uv_cli.specs.Stream.{Stream}

-- the kind with this name, or these kinds if none is named; none if no kind has the name
abbrev pub kinds_of : WrittenKinds → Option (Bor (List ℕ)) → Option WrittenKinds
kinds_of unnamed None = Some unnamed
kinds_of unnamed (Some name) = option_map Only (named_kind name.now)

-- the kinds that are written to files if none is named: no other URL is, unless all mended texts are asked for
abbrev pub file_kinds : Bool → WrittenKinds
file_kinds true = Every
file_kinds false = Safe

-- by what the job asks lines to be mended
abbrev pub mender_of : FilterJob → Option Url → WrittenKinds → Mender
mender_of asked base kinds =
    record { profile = asked.profile; base = base; kinds = kinds; all = asked.all }

-- what was written of the bytes that were read, by what stopped the filter
abbrev pub FilteredBy : Option StopFault → Mender → List ℕ → Filtering → Stream → Stream → Stream → Stream → Type 0
FilteredBy None mender read now input rest old new =
    IsAtEnd rest.bytes × Wrote (starting mender) (all_lines read) old.bytes new.bytes now
    × (rest.failed ≡ input.failed) × (new.failed ≡ old.failed)
FilteredBy (Some fault) mender read now input rest old new =
    Leaves fault (starting mender) old.bytes read (IsAtEnd rest.bytes) now new.bytes
    × (rest.failed ≡ input.failed + reads_failed fault) × (new.failed ≡ old.failed + writes_failed fault)

-- the lines were written, and these are their counts
pub record IsFiltered (mender : Mender) (is_quiet : Bool) (filtered : Filtered) (input rest old new : Stream)
    : Type 0 where
  pub read : List ℕ
  pub now : Filtering
  pub consumed : Consumes input.bytes rest.bytes read
  pub written : FilteredBy filtered.stopped mender read now input rest old new
  pub counted : filtered.counts ≡ now.counts
  pub quiet : filtered.is_quiet ≡ is_quiet
  pub none_left : filtered.is_file_left ≡ false

-- What was read and written of the lines by the texts that the job has. The kind is found first, and then the base is
-- checked alone, before anything is read or written.
abbrev pub HasFiltered : FilterJob → Option (Bor (List ℕ)) → Option (Bor (List ℕ)) → End
    → Stream → Stream → Stream → Stream → Type 0
HasFiltered asked base name end.UnknownKind input rest old new =
    (kinds_of Every name ≡ None) × (rest ≡ input) × (new ≡ old)
HasFiltered asked base name (end.BaseRefused refusal) input rest old new =
    IsBaseRefused asked.profile base refusal × (rest ≡ input) × (new ≡ old)
HasFiltered asked base name (end.Fault cli.Memory) input rest old new = (rest ≡ input) × (new ≡ old)
HasFiltered asked base name (end.Filtered filtered) input rest old new =
    (url : Option Url) × (kinds : WrittenKinds) × IsBase asked.profile base url × (kinds_of Every name ≡ Some kinds)
    × IsFiltered (mender_of asked url kinds) asked.quiet filtered input rest old new
HasFiltered asked base name _ input rest old new = ⊥
