-- What the arguments of the command line ask for, by `clap`'s definition of the arguments that a command takes.
use Rattle.std.specs.Prelude.{◌||◌, Bool, List, [], ◌∷◌, Option, Some, None, Result, Ok, Err, true, false}
use Rattle.std.specs.Prelude.{String, codes, is_some, map, option_and_then, option_map, string_bytes, unwrap_or}
use Rattle.std.specs.Prelude.{if◌then◌else◌}
use Rattle.std.specs.List.{list_any}
use Rattle.std.specs.Option.{option_map_or}
use Rattle.std.specs.Str.{bytes_eq}
use Rattle.std.specs.declared.alloc.Global.{Global}
use Rattle.clap.specs.Words.{Row, Text, all_of, first_of}
use Rattle.clap.specs.Words.{HasKind, fault_of, kind_of}
use Rattle.clap.specs.declared.error.kind.ErrorKind.{ErrorKind}
use Rattle.clap.specs.declared.error.kind.ErrorKind.TheVariants.{DisplayHelp, DisplayVersion, OutOfMemory}
use Rattle.clap.specs.declared.error.kind.ErrorKind.TheVariants.{DisplayHelpOnMissingArgumentOrSubcommand}
use Rattle.clap.specs.declared.error.kind.ErrorKind.TheVariants.{InvalidSubcommand, UnknownArgument, InvalidValue}
use Rattle.clap.specs.declared.error.kind.ErrorKind.TheVariants.{MissingRequiredArgument}
use Rattle.uv_model.specs.declared.extent.Extent.{Extent}
use Rattle.uv_model.specs.declared.extent.Extent.TheVariants.{First, All}
use Rattle.uv_model.specs.declared.profile.Profile.{Profile}
use Rattle.uv_model.specs.declared.profile.Profile.TheVariants.{Standard, Wide}
use Rattle.uv_model.specs.ProfileName.{named_profile}
use Rattle.uv_arguments.specs.Colours.{colours_asked}
use Rattle.uv_arguments.specs.Commands.{urlcheck}
use Rattle.uv_arguments.specs.declared.colours.Colours.{Colours}
use Rattle.uv_arguments.specs.declared.profile.Asked.{Asked}
use Rattle.uv_arguments.specs.declared.profile.Asked.TheVariants as asked
use Rattle.uv_arguments.specs.declared.jobs.FilterJob.{FilterJob}
use Rattle.uv_arguments.specs.declared.jobs.Job.{Job}
use Rattle.uv_arguments.specs.declared.jobs.Job.TheVariants as job
use Rattle.uv_arguments.specs.declared.jobs.LintJob.{LintJob}
use Rattle.uv_arguments.specs.declared.jobs.Told.{Told}
use Rattle.uv_arguments.specs.declared.jobs.Told.TheVariants.{Address, Explanation}
use Rattle.uv_arguments.specs.declared.words_fault.Reason.{Reason}
use Rattle.uv_arguments.specs.declared.words_fault.Reason.TheVariants as reason
use Rattle.uv_arguments.specs.declared.words_fault.WordsFault.{WordsFault}

-- ---- what is asked for

-- what a lint asks for: the files, the base, how many violations of a line, the profile, the names of the format and of
-- the unit of columns, whether each line says where its link is, when there are colours, the name of standard input,
-- and whether no counts are wanted
pub record LintRequest : Type 0 where
  pub files : List Text
  pub base : Option Text
  pub extent : Extent
  pub profile : Profile
  pub format : Option Text
  pub columns : Option Text
  pub located : Bool
  pub colours : Colours
  pub stdin_name : Option Text
  pub quiet : Bool

-- what a filter asks for: the base, the profile, the name of the kind of the mended texts that are wanted, where not
-- all are, whether those are too that reports don't offer, and whether no counts are
pub record FilterRequest : Type 0 where
  pub base : Option Text
  pub profile : Profile
  pub only : Option Text
  pub all : Bool
  pub quiet : Bool

-- a command with its texts and options: of a check the text, the base, how many violations and the profile; of a list
-- the base and the profile; of a mending the text, the base and the profile, or it is asked by what only a filter has,
-- or of several texts, or it is of files in their place; of vectors the file; of an explanation the names of rules, and
-- what it tells of them; or a profile's name that none has; or a lint is asked by a name of standard input, which it
-- doesn't read, or by an empty one, or by a word that doesn't say when there are colours
pub data Request : Type 0 where
  check : Text → Option Text → Extent → Profile → Request
  lint : LintRequest → Request
  lint_without_input : Request
  lint_unnamed : Request
  links : Option Text → Profile → Request
  mend : Text → Option Text → Profile → Request
  filter : FilterRequest → Request
  filter_of_text : Request
  several_texts : Request
  in_place : List Text → FilterRequest → Request
  vectors : Text → Request
  explain : List Text → Told → Request
  unknown_profile : Text → Request
  unknown_colours : Text → Request

-- the base that was given
abbrev pub base_in : List Row → Option Text
base_in rows = first_of (codes "base") rows

-- the flag was given
abbrev pub has_flag : Text → List Row → Bool
has_flag id rows = option_map_or (λ text. bytes_eq text (codes "true")) (first_of id rows) false

-- all violations with `--all`, otherwise the first
abbrev pub extent_in : List Row → Extent
extent_in rows = if has_flag (codes "all") rows then All else First

-- ---- the profile

-- the profile that is asked for, or a name that no profile has
pub data Wanted : Type 0 where
  known : Profile → Wanted
  unknown : Text → Wanted

-- the profile with this name, if one has it
abbrev pub wanted_by_name : Text → Option Profile → Wanted
wanted_by_name name (Some profile) = known profile
wanted_by_name name None = unknown name

-- `--wide` stands for `--profile wide`, and only one of the two may be given. With neither the profile is the standard
-- one.
abbrev pub wanted_by : Bool → Option Text → Option Wanted
wanted_by false None = Some (known Standard)
wanted_by true None = Some (known Wide)
wanted_by false (Some name) = Some (wanted_by_name name (named_profile name))
wanted_by true (Some name) = None

-- the profile that the entries ask for
abbrev pub wanted_in : List Row → Option Wanted
wanted_in rows = wanted_by (has_flag (codes "wide") rows) (first_of (codes "profile") rows)

-- ---- the request

-- the request of a check, from its entries and under the profile
abbrev pub check_in : List Row → Profile → Option Request
check_in rows profile =
    option_map (λ text. check text (base_in rows) (extent_in rows) profile) (first_of (codes "TEXT") rows)

-- the request of a filter, from its entries and under the profile
abbrev pub filter_in : List Row → Profile → FilterRequest
filter_in rows profile = record {
  base = base_in rows;
  profile = profile;
  only = first_of (codes "only") rows;
  all = has_flag (codes "all-mended") rows;
  quiet = has_flag (codes "quiet") rows;
}

-- what only a filter has is given
abbrev pub is_filtered : List Row → Bool
is_filtered rows =
    (has_flag (codes "quiet") rows || has_flag (codes "all-mended") rows) || is_some (first_of (codes "only") rows)

-- the request of a mending, from its entries and under the profile: of its text, or of a filter where it has none
abbrev pub mend_by : Bool → List Text → List Row → Profile → Request
mend_by filtered [] rows profile = filter (filter_in rows profile)
mend_by true (text ∷ []) rows profile = filter_of_text
mend_by false (text ∷ []) rows profile = mend text (base_in rows) profile
mend_by filtered (text ∷ other ∷ rest) rows profile = several_texts

-- the request of a `mend` with these entries: with `--in-place` its texts are the names of files
abbrev pub mend_in : List Row → Profile → Option Request
mend_in rows profile =
    if has_flag (codes "in-place") rows
    then Some (in_place (unwrap_or (all_of (codes "TEXT") rows) []) (filter_in rows profile))
    else Some (mend_by (is_filtered rows) (unwrap_or (all_of (codes "TEXT") rows) []) rows profile)

-- the file with this name is standard input
abbrev pub is_input : Text → Bool
is_input file = bytes_eq file (codes "-")

-- what a lint of these files asks for, by its entries and under the profile
abbrev pub lint_of : List Text → List Row → Profile → Colours → LintRequest
lint_of files rows profile colours = record {
  files = files;
  base = base_in rows;
  extent = extent_in rows;
  profile = profile;
  format = first_of (codes "format") rows;
  columns = first_of (codes "columns") rows;
  located = has_flag (codes "located") rows;
  colours = colours;
  stdin_name = first_of (codes "stdin-name") rows;
  quiet = has_flag (codes "quiet") rows;
}

-- the request of a lint of these files, with colours at such times
abbrev pub lint_coloured : Result Colours Text → List Text → List Row → Profile → Request
lint_coloured (Ok colours) files rows profile = lint (lint_of files rows profile colours)
lint_coloured (Err name) files rows profile = unknown_colours name

-- the request of a lint of these files with the colours that are asked for
abbrev pub lint_asked : List Text → List Row → Profile → Request
lint_asked files rows profile = lint_coloured (colours_asked (first_of (codes "color") rows)) files rows profile

-- the request of a lint of these files, where standard input may have this name: one that isn't empty, and only when it
-- is one of the files
abbrev pub lint_by : Option Text → List Text → List Row → Profile → Request
lint_by None files rows profile = lint_asked files rows profile
lint_by (Some []) files rows profile = lint_unnamed
lint_by (Some name) files rows profile =
    if list_any is_input files then lint_asked files rows profile else lint_without_input

-- the request of a lint, from its entries and under the profile
abbrev pub lint_in : List Row → Profile → Option Request
lint_in rows profile =
    option_map (λ files. lint_by (first_of (codes "stdin-name") rows) files rows profile)
    (all_of (codes "FILE") rows)

-- the request of a command that checks by a profile
abbrev pub checked_in : Text → List Row → Profile → Option Request
checked_in name rows profile =
    if bytes_eq name (codes "check") then check_in rows profile
    else (if bytes_eq name (codes "lint") then lint_in rows profile
    else (if bytes_eq name (codes "links") then Some (links (base_in rows) profile)
    else (if bytes_eq name (codes "mend") then mend_in rows profile
    else None)))

-- the request of a command that checks under the profile that is named
abbrev pub profiled_in : Text → List Row → Option Wanted → Option Request
profiled_in name rows None = None
profiled_in name rows (Some (known profile)) = checked_in name rows profile
profiled_in name rows (Some (unknown other)) = Some (unknown_profile other)

-- the names of the rules that are to be explained
abbrev pub rules_in : List Row → List Text
rules_in rows = unwrap_or (all_of (codes "RULE") rows) []

-- the address of each rule's section with `--url`, otherwise its explanation
abbrev pub told_in : List Row → Told
told_in rows = if has_flag (codes "url") rows then Address else Explanation

-- the request that a command's name and its entries make
unfoldable pub request_in : Text → List Row → Option Request
request_in name rows =
    if bytes_eq name (codes "vectors") then option_map vectors (first_of (codes "FILE") rows)
    else (if bytes_eq name (codes "explain") then Some (explain (rules_in rows) (told_in rows))
    else profiled_in name rows (wanted_in rows))

-- the request of the command that `clap`'s definition finds in the arguments, if it finds one
abbrev pub request_of : Option (Text × List Row) → Option Request
request_of found = option_and_then (λ p. request_in p.0 p.1) found

-- ---- what a job asks for

-- the bytes of a text that may be absent
abbrev pub text_in : Option (String Global) → Option Text
text_in text = option_map string_bytes text

-- what a lint has of the request
abbrev pub request_by : LintJob → LintRequest
request_by asked = record {
  files = map string_bytes asked.files.items;
  base = text_in asked.base;
  extent = asked.extent;
  profile = asked.profile;
  format = text_in asked.format;
  columns = text_in asked.columns;
  located = asked.located;
  colours = asked.colours;
  stdin_name = text_in asked.stdin_name;
  quiet = asked.quiet;
}

-- what a filter has of the request
abbrev pub filter_by : FilterJob → FilterRequest
filter_by asked = record {
  base = text_in asked.base;
  profile = asked.profile;
  only = text_in asked.only;
  all = asked.all;
  quiet = asked.quiet;
}

-- what the job has of the request
abbrev pub asked_by : Job → Request
asked_by (job.Check text base extent profile) = check (string_bytes text) (text_in base) extent profile
asked_by (job.Lint asked) = lint (request_by asked)
asked_by job.LintWithoutInput = lint_without_input
asked_by job.LintUnnamed = lint_unnamed
asked_by (job.Links base profile) = links (text_in base) profile
asked_by (job.Mend text base profile) = mend (string_bytes text) (text_in base) profile
asked_by (job.Filter asked) = filter (filter_by asked)
asked_by job.FilterOfText = filter_of_text
asked_by job.SeveralTexts = several_texts
asked_by (job.InPlace files asked) = in_place (map string_bytes files.items) (filter_by asked)
asked_by (job.Vectors file) = vectors (string_bytes file)
asked_by (job.Explain rules told) = explain (map string_bytes rules.items) told
asked_by (job.UnknownProfile name) = unknown_profile (string_bytes name)
asked_by (job.UnknownColours name) = unknown_colours (string_bytes name)

-- what is read of the profile that is asked for
abbrev pub wanted_view : Asked → Wanted
wanted_view (asked.Known profile) = known profile
wanted_view (asked.Unknown name) = unknown name.now

-- ---- why there is none

-- the error has a kind that `clap`'s definition gives for the arguments, or memory ran out
abbrev pub IsFaultOf : List Text → WordsFault → Type 0
IsFaultOf words fault = HasKind (fault_of urlcheck words) fault.error

-- why there is no job, by the kind of the error
abbrev pub reason_by : ErrorKind → Reason
reason_by OutOfMemory = reason.Memory
reason_by DisplayHelp = reason.Shown
reason_by DisplayVersion = reason.Shown
reason_by DisplayHelpOnMissingArgumentOrSubcommand = reason.NoWords
reason_by InvalidSubcommand = reason.NoCommand
reason_by UnknownArgument = reason.Unexpected
reason_by MissingRequiredArgument = reason.Missing
reason_by InvalidValue = reason.NoValue
reason_by _ = reason.Other

-- why there is none
abbrev pub reason_of : WordsFault → Reason
reason_of fault = reason_by (kind_of fault.error)
