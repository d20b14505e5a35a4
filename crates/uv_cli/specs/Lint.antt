-- What a lint of files has read and written, and what it has come to.
use Rattle.std.specs.Prelude.{◌≡◌, ◌≢◌, ℕ, ◌+◌, ◌-◌, ◌^◌, Bool, true, false, List, [], ◌∷◌, ◌⊎◌, Option, Some, None}
use Rattle.std.specs.Prelude.{Result, Ok, Err, codes, map, string_bytes, take, if◌then◌else◌}
use Rattle.std.specs.Borrow.{Bor}
use Rattle.std.specs.Io.KnownBytes.{Appends, Consumes, IsAtEnd}
use Rattle.std.specs.Option.{option_map_or}
use Rattle.std.specs.Str.{bytes_eq}
use Rattle.std.specs.declared.io.ErrorKind.{ErrorKind}
use Rattle.std.specs.declared.io.ErrorKind.TheVariants.{OutOfMemory}
use Rattle.uv_model.specs.Records.Url.{Url}
use Rattle.uv_report.specs.declared.places.column.Columns.{Columns}
use Rattle.uv_report.specs.declared.format.Format.{Format}
use Rattle.uv_report.specs.declared.format.Format.TheVariants.{Gnu}
use Rattle.uv_report.specs.declared.look.Look.{Look}
use Rattle.uv_report.specs.declared.look.Look.TheVariants as look
use Rattle.uv_report.specs.Places.Column.{named_columns}
use Rattle.uv_report.specs.Format.{named_format, own_columns, takes_columns}
use Rattle.uv_report.specs.Report.{begin_text, end_text}
use Rattle.uv_rules.specs.RuleList.{listed_rules}
use Rattle.uv_lines.specs.declared.limits.LineLimits.{LineLimits}
use Rattle.uv_lint.specs.declared.counts.LintCounts.{LintCounts}
use Rattle.uv_lines.specs.declared.fault.StopFault.{StopFault}
use Rattle.uv_lines.specs.declared.fault.StopFault.TheVariants.{Memory, Read, Write}
use Rattle.uv_lines.specs.Fault.{writes_failed}
use Rattle.uv_lint.specs.declared.setting.LineForm.{LineForm}
use Rattle.uv_lint.specs.declared.setting.LineForm.TheVariants.{Plain, Located}
use Rattle.uv_lint.specs.LineViolations.{FileSetting}
use Rattle.uv_lint.specs.Report.{none_counted}
use Rattle.uv_lint.specs.Run.{FailsReads, Leaves, Reports}
use Rattle.uv_resolve.specs.Base.{IsBase, IsBaseRefused}
use Rattle.uv_arguments.specs.declared.colours.Colours.{Colours}
use Rattle.uv_arguments.specs.declared.colours.Colours.TheVariants as colours
use Rattle.uv_arguments.specs.declared.jobs.LintJob.{LintJob}
use Rattle.uv_cli.specs.declared.ends.End.{End}
use Rattle.uv_cli.specs.declared.ends.End.TheVariants as end
use Rattle.uv_cli.specs.declared.fault.CliFault.TheVariants as cli
use Rattle.uv_cli.specs.declared.linted.Linted.{Linted}
use Rattle.uv_cli.specs.Stream.{Stream}
use Rattle.uv_cli.specs.Linted.{completion_of, is_clean, is_stopped, is_writable, no_file, with_fault, with_file}

-- ---- what the job asks for

-- the format with this name, or the format of compilers if none is named
abbrev pub format_of : Option (Bor (List ℕ)) → Option Format
format_of None = Some Gnu
format_of (Some name) = named_format name.now

-- what the name says that columns count in a format, or if nothing is named what they count there
abbrev pub columns_of : Format → Option (Bor (List ℕ)) → Option Columns
columns_of format None = Some (own_columns format)
columns_of format (Some name) = named_columns name.now

-- what a line is: where each is to say where its link is, it is that, otherwise a text
abbrev pub form_of : Bool → LineForm
form_of true = Located
form_of false = Plain

-- how the report looks: in colours where they are always asked for
abbrev pub look_of : Colours → Look
look_of colours.Always = look.Coloured
look_of colours.Auto = look.Plain
look_of colours.Never = look.Plain

-- the name under which standard input is reported on: the one that the job gives, or `-`
abbrev pub input_name : LintJob → List ℕ
input_name asked = option_map_or string_bytes asked.stdin_name (codes "-")

-- the file with this name is the standard input
abbrev pub is_input : List ℕ → Bool
is_input file = bytes_eq file (codes "-")

-- the name under which a file is reported on, where standard input has that one
abbrev pub reported_name : List ℕ → List ℕ → List ℕ
reported_name input file = if is_input file then input else file

-- the setting of a file of the job, by its name
abbrev pub setting_of : LintJob → Option Url → Format → Columns → List ℕ → FileSetting
setting_of asked base format columns file = record {
  file = reported_name (input_name asked) file;
  base = base;
  profile = asked.profile;
  extent = asked.extent;
  format = format;
  look = look_of asked.colours;
  columns = columns;
  form = form_of asked.located;
}

-- ---- one file

-- the most bytes that a line may have, and the most lines of a file
abbrev pub most : LineLimits
most = record { line_bytes = 65536; lines = 1000000000 }

-- what was written of the bytes that were read of a file, by the answer of the run over it
abbrev pub WritesFile : FileSetting → Bool → Result (Unit {0}) StopFault → LintCounts → List ℕ → Option (List ℕ)
    → Option (List ℕ) → Option (List ℕ) → Type 0
WritesFile setting is_first (Ok done) counts read rest old new =
    IsAtEnd rest × Reports setting most is_first old read counts new
WritesFile setting is_first (Err fault) counts read rest old new =
    Leaves fault setting most is_first old read (IsAtEnd rest) counts new

-- how often the streams have failed after it
abbrev pub FailsAsAnswered : Result (Unit {0}) StopFault → Stream → Stream → Stream → Stream → Type 0
FailsAsAnswered (Ok done) input rest old new = (rest.failed ≡ input.failed) × (new.failed ≡ old.failed)
FailsAsAnswered (Err fault) input rest old new =
    FailsReads fault input.failed rest.failed × (new.failed ≡ old.failed + writes_failed fault)

-- a source was linted, of which so many lines were counted
pub record LintsSource (setting : FileSetting) (is_first : Bool) (counts : LintCounts)
    (answer : Result (Unit {0}) StopFault) (input rest old new : Stream) : Type 0 where
  pub read : List ℕ
  pub consumed : Consumes input.bytes rest.bytes read
  pub wrote : WritesFile setting is_first answer counts read rest.bytes old.bytes new.bytes
  pub failed : FailsAsAnswered answer input rest old new

-- a source that nothing else has read was linted: the file with this name
abbrev pub LintsOpened : FileSetting → Bool → LintCounts → Result (Unit {0}) StopFault → Stream → Stream → Type 0
LintsOpened setting is_first counts answer old new =
    (file : Stream) × (left : Stream) × LintsSource setting is_first counts answer file left old new

-- nothing of a file was read or written
abbrev pub LintsNothing : LintCounts → Stream → Stream → Type 0
LintsNothing counts old new = (counts ≡ none_counted) × (new ≡ old)

-- a file wasn't opened: it couldn't be, or memory ran out
abbrev pub IsUnopened : Result (Unit {0}) StopFault → Type 0
IsUnopened (Err Read) = Unit {0}
IsUnopened (Err Memory) = Unit {0}
IsUnopened _ = ⊥

-- a file wasn't opened since memory ran out, or for another reason, by the kind of the library's error
abbrev pub IsWhyUnopened : ErrorKind → StopFault → Type 0
IsWhyUnopened kind Memory = kind ≡ OutOfMemory
IsWhyUnopened kind Read = kind ≢ OutOfMemory
IsWhyUnopened kind _ = ⊥

-- the input isn't read where its count of failed reads is at its end
abbrev pub IsUnreadable : Result (Unit {0}) StopFault → Stream → Type 0
IsUnreadable answer input = (answer ≡ Err Read) × (input.failed ≡ 2 ^ 64 - 1)

-- the input was linted for the file that is named `-`, otherwise a file that was opened by its name, if it could be
abbrev pub LintsNamed : Bool → FileSetting → Bool → LintCounts → Result (Unit {0}) StopFault
    → Stream → Stream → Stream → Stream → Type 0
LintsNamed true setting is_first counts answer input rest old new =
    LintsSource setting is_first counts answer input rest old new
    ⊎ (LintsNothing counts old new × IsUnreadable answer input × (rest ≡ input))
LintsNamed false setting is_first counts answer input rest old new =
    (LintsOpened setting is_first counts answer old new
    ⊎ (LintsNothing counts old new × IsUnopened answer)) × (rest ≡ input)

-- the next file was linted, by its name, which looks like a document's or not
pub record LintsFile (file : List ℕ) (setting : FileSetting) (before after : Linted)
    (input rest old new : Stream) : Type 0 where
  pub counts : LintCounts
  pub answer : Result (Unit {0}) StopFault
  pub is_document : Bool
  pub named : LintsNamed (is_input file) setting (is_clean before) counts answer input rest old new
  pub is_after : after ≡ with_file before (is_input file) is_document counts answer

-- nothing is done after what stopped the lint
pub record StaysStopped (before after : Linted) (input rest old new : Stream) : Type 0 where
  pub is_after : after ≡ before
  pub unread : rest ≡ input
  pub unwritten : new ≡ old

-- ---- the files

-- the next file was linted, or the lint had stopped
abbrev pub LintsNext : Bool → List ℕ → FileSetting → Linted → Linted → Stream → Stream → Stream → Stream → Type 0
LintsNext true file setting before after input rest old new = StaysStopped before after input rest old new
LintsNext false file setting before after input rest old new = LintsFile file setting before after input rest old new

-- these files were linted, one after the other
abbrev pub LintsAll : (List ℕ → FileSetting) → List (List ℕ) → Linted → Linted
    → Stream → Stream → Stream → Stream → Type 0
LintsAll setting [] before after input rest old new = StaysStopped before after input rest old new
LintsAll setting (file ∷ files) before after input rest old new =
    (one : Linted) × (read : Stream) × (wrote : Stream)
    × LintsNext (is_stopped before) file (setting file) before one input read old wrote
    × LintsAll setting files one after read rest wrote new

-- ---- the whole report

-- a piece was written, or a prefix of it where a write failed, and then the lint has stopped
abbrev pub WritesOrStops : Bool → List ℕ → Linted → Linted → Stream → Stream → Type 0
WritesOrStops true piece before after old new =
    (after ≡ before) × Appends old.bytes new.bytes piece × (new.failed ≡ old.failed)
WritesOrStops false piece before after old new =
    (after ≡ with_fault before Write) × ((prefix : ℕ) × Appends old.bytes new.bytes (take prefix piece))
    × (new.failed ≡ old.failed + 1)

-- a piece was written if no write has failed before, and otherwise nothing
abbrev pub WritesPiece : Bool → List ℕ → Linted → Linted → Stream → Stream → Type 0
WritesPiece true piece before after old new = (is_out : Bool) × WritesOrStops is_out piece before after old new
WritesPiece false piece before after old new = (after ≡ before) × (new ≡ old)

-- the report on the files was written: what it begins with, the report on each file, and what it ends with
pub record IsLinted (setting : List ℕ → FileSetting) (format : Format) (columns : Columns) (files : List (List ℕ))
    (is_quiet : Bool) (linted : Linted) (input rest old new : Stream) : Type 0 where
  pub first : Linted
  pub last : Linted
  pub begun : Stream
  pub ended : Stream
  pub begins : WritesPiece true (begin_text format columns listed_rules) (no_file is_quiet) first old begun
  pub all : LintsAll setting files first last input rest begun ended
  pub ends : WritesPiece (is_writable last.stopped) (end_text format (completion_of last)) last linted ended new

-- what was read and written of the files against a URL as base
abbrev pub HasLintedAgainst : LintJob → Option Url → Format → Columns → End → Stream → Stream → Stream → Stream
    → Type 0
HasLintedAgainst asked base format columns (end.Linted linted) input rest old new =
    IsLinted (setting_of asked base format columns) format columns (map string_bytes asked.files.items) asked.quiet
    linted input rest old new
HasLintedAgainst asked base format columns (end.Fault cli.Memory) input rest old new = (rest ≡ input) × (new ≡ old)
HasLintedAgainst asked base format columns _ input rest old new = ⊥

-- these names say in which format it is reported, and what columns count; the format takes such columns, or doesn't
pub record AreNamed (name unit : Option (Bor (List ℕ))) (format : Format) (columns : Columns) (takes : Bool)
    : Type 0 where
  pub format_is : format_of name ≡ Some format
  pub columns_are : columns_of format unit ≡ Some columns
  pub takes_is : takes_columns format columns ≡ takes

-- What was read and written of the files by the texts that the job has: its base, the name of the format, and the name
-- of what columns count. Both names are looked up first, and then the base is checked alone, before anything is read or
-- written.
abbrev pub HasLinted : LintJob → Option (Bor (List ℕ)) → Option (Bor (List ℕ)) → Option (Bor (List ℕ)) → End
    → Stream → Stream → Stream → Stream → Type 0
HasLinted asked base name unit end.UnknownFormat input rest old new =
    (format_of name ≡ None) × (rest ≡ input) × (new ≡ old)
HasLinted asked base name unit end.UnknownColumns input rest old new =
    ((format : Format) × (format_of name ≡ Some format) × (columns_of format unit ≡ None))
    × (rest ≡ input) × (new ≡ old)
HasLinted asked base name unit end.ColumnsRefused input rest old new =
    ((format : Format) × (columns : Columns) × AreNamed name unit format columns false)
    × (rest ≡ input) × (new ≡ old)
HasLinted asked base name unit (end.BaseRefused refusal) input rest old new =
    IsBaseRefused asked.profile base refusal × (rest ≡ input) × (new ≡ old)
HasLinted asked base name unit (end.Fault cli.Memory) input rest old new = (rest ≡ input) × (new ≡ old)
HasLinted asked base name unit (end.Linted linted) input rest old new =
    (url : Option Url) × (format : Format) × (columns : Columns) × IsBase asked.profile base url
    × AreNamed name unit format columns true
    × HasLintedAgainst asked url format columns (end.Linted linted) input rest old new
HasLinted asked base name unit _ input rest old new = ⊥
