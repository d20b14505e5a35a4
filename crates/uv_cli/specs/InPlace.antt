-- What the mending of files in their place has read and written, and what it has come to.
use Rattle.std.specs.Prelude.{◌≡◌, ℕ, Bool, true, false, List, [], ◌∷◌, ◌⊎◌, Option, Some, None, Result, Ok, Err}
use Rattle.std.specs.Prelude.{String, is_some, map, string_bytes}
use Rattle.std.specs.Borrow.{Bor}
use Rattle.std.specs.Io.KnownBytes.{Consumes, IsAtEnd}
use Rattle.std.specs.declared.alloc.Global.{Global}
use Rattle.uv_filter.specs.declared.counts.FilterCounts.{FilterCounts}
use Rattle.uv_filter.specs.declared.setting.WrittenKinds.{WrittenKinds}
use Rattle.uv_filter.specs.Counts.{is_mended, none_counted}
use Rattle.uv_filter.specs.Fates.{Mender}
use Rattle.uv_filter.specs.Filtered.{Filtering, starting}
use Rattle.uv_filter.specs.Lines.{all_lines}
use Rattle.uv_filter.specs.Run.{Leaves, Wrote}
use Rattle.uv_lines.specs.declared.fault.StopFault.{StopFault}
use Rattle.uv_lines.specs.declared.fault.StopFault.TheVariants as stop
use Rattle.uv_model.specs.Records.Url.{Url}
use Rattle.uv_resolve.specs.Base.{IsBase, IsBaseRefused}
use Rattle.uv_arguments.specs.declared.jobs.FilterJob.{FilterJob}
use Rattle.uv_cli.specs.declared.ends.End.{End}
use Rattle.uv_cli.specs.declared.ends.End.TheVariants as end
use Rattle.uv_cli.specs.declared.fault.CliFault.TheVariants as cli
use Rattle.uv_cli.specs.declared.filtered.Filtered.{Filtered}
use Rattle.uv_cli.specs.declared.store.Left.{Left}
use Rattle.uv_cli.specs.declared.store.Left.TheVariants as left
use Rattle.uv_cli.specs.Filter.{file_kinds, kinds_of, mender_of}
use Rattle.uv_cli.specs.Filtered.{filtered_by, with_counts, with_fault, with_file_left}

-- ---- what files hold

-- the file with this name, at this path, gives the first bytes, and the new one next to it holds the second
abbrev pub Opens : Type 1
Opens = List ℕ → List ℕ → Option (List ℕ) → Option (List ℕ) → Type 0

-- the file at this path has come to hold these bytes
abbrev pub Replaces : Type 1
Replaces = List ℕ → Option (List ℕ) → Type 0

-- the file with this name, or at this path, stays as it was for this reason
abbrev pub Stays : Type 1
Stays = List ℕ → Left → Type 0

-- ---- one file

-- all these bytes were read, what a filter writes of their lines was written, and these are its counts
abbrev pub HasWrittenMended : Mender → Option (List ℕ) → Option (List ℕ) → Option (List ℕ) → FilterCounts → Type 0
HasWrittenMended mender bytes old new counts =
    (read : List ℕ) × (rest : Option (List ℕ)) × (now : Filtering) × Consumes bytes rest read × IsAtEnd rest
    × Wrote (starting mender) (all_lines read) old new now × (counts ≡ now.counts)

-- why a file stays as it was where this fault stopped the filter of its lines
abbrev pub IsLeftBy : StopFault → Left → Type 0
IsLeftBy stop.Memory left.Memory = Unit {0}
IsLeftBy stop.Write (left.Unwritten why) = Unit {0}
IsLeftBy stop.Read (left.Unread why) = Unit {0}
IsLeftBy stop.TooManyLines (left.Unread why) = Unit {0}
IsLeftBy stop.Endless (left.Unread why) = Unit {0}
IsLeftBy _ _ = ⊥

-- a fault stopped the filter of these bytes, for which a file stays as it was
abbrev pub HasStoppedWithin : Mender → Option (List ℕ) → Option (List ℕ) → Option (List ℕ) → Left → Type 0
HasStoppedWithin mender bytes old new why =
    (fault : StopFault) × (read : List ℕ) × (rest : Option (List ℕ)) × (now : Filtering) × Consumes bytes rest read
    × Leaves fault (starting mender) old read (IsAtEnd rest) now new × IsLeftBy fault why

-- what has come of the lines of a file, whose path is this and whose bytes are those, by what was written: that takes
-- the file's place if a line was mended
abbrev pub MendsLines : Replaces → Stays → Mender → List ℕ → Option (List ℕ) → Option (List ℕ) → Option (List ℕ)
    → Result FilterCounts Left → Type 0
MendsLines replaces stays mender path bytes old new (Ok counts) =
    HasWrittenMended mender bytes old new counts × (is_mended counts ≡ true → replaces path new)
MendsLines replaces stays mender path bytes old new (Err why) =
    HasStoppedWithin mender bytes old new why ⊎ stays path why

-- the file was opened, and this has come of its lines
pub record MendsOpened (opens : Opens) (replaces : Replaces) (stays : Stays) (mender : Mender) (file : List ℕ)
    (answer : Result FilterCounts Left) : Type 0 where
  pub path : List ℕ
  pub bytes : Option (List ℕ)
  pub old : Option (List ℕ)
  pub new : Option (List ℕ)
  pub opened : opens file path bytes old
  pub mends : MendsLines replaces stays mender path bytes old new answer

-- the file wasn't opened
abbrev pub IsUnopened : Stays → List ℕ → Result FilterCounts Left → Type 0
IsUnopened stays file (Ok counts) = ⊥
IsUnopened stays file (Err why) = stays file why

-- what has come of the file with this name
abbrev pub MendsFile : Opens → Replaces → Stays → Mender → List ℕ → Result FilterCounts Left → Type 0
MendsFile opens replaces stays mender file answer =
    MendsOpened opens replaces stays mender file answer ⊎ IsUnopened stays file answer

-- ---- the files

-- after a further file, of which this has come
abbrev pub with_answer : Filtered → Result FilterCounts Left → Filtered
with_answer before (Ok counts) = with_counts before counts
with_answer before (Err left.Memory) = with_fault before stop.Memory
with_answer before (Err why) = with_file_left before

-- the next file was mended, as far as it could be, or the filter had stopped
abbrev pub MendsNext : Bool → (Result FilterCounts Left → Type 0) → Filtered → Filtered → Type 0
MendsNext true Mends before after = after ≡ before
MendsNext false Mends before after =
    (answer : Result FilterCounts Left) × Mends answer × (after ≡ with_answer before answer)

-- these files were mended, as far as they could be, one after the other
abbrev pub MendsAll : (List ℕ → Result FilterCounts Left → Type 0) → List (List ℕ) → Filtered → Filtered → Type 0
MendsAll Mends [] before after = after ≡ before
MendsAll Mends (file ∷ files) before after =
    (next : Filtered) × MendsNext (is_some before.stopped) (Mends file) before next × MendsAll Mends files next after

-- before the first file
abbrev pub no_file : Bool → Filtered
no_file is_quiet = filtered_by none_counted (Ok tt) is_quiet

-- How the mending of files in their place ends, by the texts that the job has. The kind is found first, and then the
-- base is checked alone, before a file is opened.
abbrev pub HasMendedFiles : Opens → Replaces → Stays → List (String Global) → FilterJob → Option (Bor (List ℕ))
    → Option (Bor (List ℕ)) → End → Type 0
HasMendedFiles opens replaces stays files asked base name end.UnknownKind = kinds_of (file_kinds asked.all) name ≡ None
HasMendedFiles opens replaces stays files asked base name (end.BaseRefused refusal) =
    IsBaseRefused asked.profile base refusal
HasMendedFiles opens replaces stays files asked base name (end.Fault cli.Memory) = Unit {0}
HasMendedFiles opens replaces stays files asked base name (end.Filtered filtered) =
    (url : Option Url) × (kinds : WrittenKinds) × IsBase asked.profile base url
    × (kinds_of (file_kinds asked.all) name ≡ Some kinds)
    × MendsAll (MendsFile opens replaces stays (mender_of asked url kinds)) (map string_bytes files)
    (no_file asked.quiet) filtered
HasMendedFiles opens replaces stays files asked base name _ = ⊥

-- ---- the system's files

-- the library doesn't say what the system's files hold
abbrev pub any_opens : Opens
any_opens file path bytes old = Unit {0}

abbrev pub any_replaces : Replaces
any_replaces path new = Unit {0}

abbrev pub any_stays : Stays
any_stays file why = Unit {0}
