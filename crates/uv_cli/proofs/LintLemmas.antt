-- Files that were linted: a source, and one file after others.
use Rattle.std.proofs.Common.{◌≡◌, ◌∙◌, ◌+◌, ◌<◌, ◌≤◌, ℕ, Bool, true, false, List, [], ◌∷◌, ◌++◌, Option, Some, None}
use Rattle.std.proofs.Common.{Result, Ok, Err, IfErr, OnOk, String, Global, refl, sym, subst, ap, arith, inl, inr}
use Rattle.std.proofs.Common.{get_or, is_some, length, map, take, string_bytes}
use Rattle.std.proofs.lemmas.List.{map_more, take_all}
use Rattle.std.specs.Borrow.{Bor}
use Rattle.std.specs.Io.KnownBytes.{Consumes, IsAtEnd}
use Rattle.uv_lint.specs.declared.counts.LintCounts.{LintCounts}
use Rattle.uv_lines.specs.declared.fault.StopFault.{StopFault}
use Rattle.uv_lines.specs.declared.fault.StopFault.TheVariants.{Memory, Read, Write, TooManyLines, Endless}
use Rattle.uv_lines.specs.Fault.{writes_failed}
use Rattle.uv_lint.specs.declared.setting.LintSetting.{LintSetting}
use Rattle.uv_lint.specs.LineViolations.{FileSetting, file_setting}
use Rattle.uv_lint.specs.Run.{FailsReads, Leaves, Reports}
use Rattle.uv_report.specs.declared.places.column.Columns.{Columns}
use Rattle.uv_report.specs.declared.format.Format.{Format}
use Rattle.uv_model.specs.Records.Url.{Url}
use Rattle.uv_resolve.specs.Base.{IsBase}
use Rattle.uv_arguments.specs.declared.jobs.LintJob.{LintJob}
use Rattle.uv_cli.specs.declared.ends.End.{End}
use Rattle.uv_cli.specs.declared.ends.End.TheVariants as end
use Rattle.uv_cli.specs.declared.fault.CliFault.TheVariants as cli
use Rattle.uv_cli.specs.declared.linted.Linted.{Linted}
use Rattle.uv_cli.specs.Stream.{Stream, stream}
use Rattle.uv_cli.specs.Lint.{AreNamed, FailsAsAnswered, HasLinted, HasLintedAgainst, LintsAll, LintsNamed, LintsNext}
use Rattle.uv_cli.specs.Lint.{LintsSource, WritesPiece, most, reported_name}
use Rattle.uv_cli.specs.Linted.{is_stopped, is_writable, no_file, with_file}

-- what a run over a source has done
pub lints_source : (setting : FileSetting) (is_first : Bool) (counts : LintCounts)
    (answer : Result (Unit {0}) StopFault) (start rest old new : Option (List ℕ)) (a b c d : ℕ)
    → OnOk answer ((read : List ℕ) × Consumes start rest read × IsAtEnd rest
    × Reports setting most is_first old read counts new)
    → IfErr answer (λ e. (read : List ℕ) × Consumes start rest read
    × Leaves e setting most is_first old read (IsAtEnd rest) counts new)
    → IfErr answer (λ e. FailsReads e a b × (d ≡ c + writes_failed e))
    → OnOk answer ((b ≡ a) × (d ≡ c))
    → LintsSource setting is_first counts answer (stream start a)
    (stream rest b) (stream old c) (stream new d)
lints_source setting is_first counts (Ok u) start rest old new a b c d (read, consumed, end, reports) fault failed is =
    record { read = read; consumed = consumed; wrote = (end, reports); failed = is }
lints_source setting is_first counts (Err e) start rest old new a b c d report (read, consumed, leaves) failed quiet =
    record { read = read; consumed = consumed; wrote = leaves; failed = failed }

-- one file after others
pub all_more : (setting : List ℕ → FileSetting) (files : List (List ℕ)) (file : List ℕ) (before middle after : Linted)
    (input between rest old part new : Stream)
    → LintsAll setting files before middle input between old part
    → LintsNext (is_stopped middle) file (setting file) middle after between rest part new
    → LintsAll setting (files ++ file ∷ []) before after input rest old new
all_more setting [] file before middle after input between rest old part new all next = (
  after,
  rest,
  new,
  rw (← all.is_after, ← all.unread, ← all.unwritten) next,
  record { is_after = refl; unread = refl; unwritten = refl },
)
all_more setting (x ∷ xs) file before middle after input between rest old part new (one, read, wrote, first, all) next =
    (one, read, wrote, first, all_more setting xs file one middle after read between rest wrote part new all next)

-- the names up to the next file's
pub files_more : (files : List (String Global)) (at : ℕ) (file : String Global)
    → at < length files → file ≡ get_or files at file
    → map string_bytes (take (at + 1) files) ≡ map string_bytes (take at files) ++ string_bytes file ∷ []
files_more files at file within here =
    map_more string_bytes files at file within
    ∙ ap (λ f. map string_bytes (take at files) ++ string_bytes f ∷ []) (sym here)

-- the names of all files
pub files_all : (files : List (String Global)) (at : ℕ) → length files ≤ at
    → map string_bytes (take at files) ≡ map string_bytes files
files_all files at end = ap (map string_bytes) (take_all at files end)

-- a source that was linted: if no write has failed, none was counted
source_quiet : (before : Linted) (is_input is_document : Bool) (counts : LintCounts)
    (answer : Result (Unit {0}) StopFault) (input rest old new : Stream)
    → FailsAsAnswered answer input rest old new
    → is_writable (with_file before is_input is_document counts answer).stopped ≡ true → new.failed ≡ old.failed
source_quiet before is_input is_document counts (Ok u) input rest old new failed writable = failed.1
source_quiet before is_input is_document counts (Err Memory) input rest old new failed writable =
    let h = failed.1 in omega (arith, h)
source_quiet before is_input is_document counts (Err Read) input rest old new failed writable =
    let h = failed.1 in omega (arith, h)
source_quiet before is_input is_document counts (Err Write) input rest old new failed writable =
    grind (arith, writable)
source_quiet before is_input is_document counts (Err TooManyLines) input rest old new failed writable =
    let h = failed.1 in omega (arith, h)
source_quiet before is_input is_document counts (Err Endless) input rest old new failed writable =
    let h = failed.1 in omega (arith, h)

-- a file that was linted by its name: if no write has failed, none was counted
named_quiet : (is_input is_document : Bool) (setting : FileSetting) (is_first : Bool) (before : Linted)
    (counts : LintCounts) (answer : Result (Unit {0}) StopFault) (input rest old new : Stream)
    → LintsNamed is_input setting is_first counts answer input rest old new
    → is_writable (with_file before is_input is_document counts answer).stopped ≡ true → new.failed ≡ old.failed
named_quiet true is_document setting is_first before counts answer input rest old new named writable = elim named [
  | inl source ↦ source_quiet before true is_document counts answer input rest old new source.failed writable
  | inr nothing ↦ ap (λ d. d.failed) nothing.0.1
]
named_quiet false is_document setting is_first before counts answer input rest old new named writable = elim (named.0) [
  | inl opened ↦ source_quiet before false is_document counts answer opened.0 opened.1 old new opened.2.failed writable
  | inr nothing ↦ ap (λ d. d.failed) nothing.0.1
]

-- what hasn't stopped can write
writable_unstopped : (stopped : Option StopFault) → is_some stopped ≡ false → is_writable stopped ≡ true
writable_unstopped None h = refl
writable_unstopped (Some fault) h = grind (arith, h)

-- the next file: if no write has failed, none was counted, and none had failed before
quiet_by : (stopped : Bool) (file : List ℕ) (setting : FileSetting) (before after : Linted)
    (input rest old new : Stream)
    → is_stopped before ≡ stopped → LintsNext stopped file setting before after input rest old new
    → is_writable after.stopped ≡ true → (new.failed ≡ old.failed) × (is_writable before.stopped ≡ true)
quiet_by true file setting before after input rest old new is next writable = (
  ap (λ d. d.failed) next.unwritten,
  ap (λ l. is_writable l.stopped) (sym next.is_after) ∙ writable,
)
quiet_by false file setting before after input rest old new is next writable = (
  named_quiet _ _ setting _ before next.counts next.answer input rest old new next.named
      (ap (λ l. is_writable l.stopped) (sym next.is_after) ∙ writable),
  writable_unstopped before.stopped is,
)

pub next_quiet : (file : List ℕ) (setting : FileSetting) (before after : Linted) (input rest old new : Stream)
    → LintsNext (is_stopped before) file setting before after input rest old new
    → is_writable after.stopped ≡ true → (new.failed ≡ old.failed) × (is_writable before.stopped ≡ true)
next_quiet file setting before after input rest old new next writable =
    quiet_by (is_stopped before) file setting before after input rest old new refl next writable

-- ---- the whole report

-- the piece that a report begins with
pub begins_with : (piece text : List ℕ) (is_quiet : Bool) (none first : Linted) (old begun : Stream)
    → none ≡ no_file is_quiet → piece ≡ text
    → WritesPiece (is_writable none.stopped) piece none first old begun
    → WritesPiece true text (no_file is_quiet) first old begun
begins_with piece text is_quiet none first old begun is same wrote =
    subst (λ t. WritesPiece true t (no_file is_quiet) first old begun) same
    (subst (λ l. WritesPiece (is_writable l.stopped) piece l first old begun) is wrote)

-- what was linted under these names was linted under names that are equal to them
pub lints_files : (name : List ℕ) (setting : LintSetting) (files names : List (List ℕ)) (before after : Linted)
    (input rest old new : Stream)
    → files ≡ names
    → LintsAll (λ file. file_setting (reported_name name file) setting) files before after input rest old new
    → LintsAll (λ file. file_setting (reported_name name file) setting) names before after input rest old new
lints_files name setting files names before after input rest old new same all =
    subst (λ f. LintsAll (λ file. file_setting (reported_name name file) setting) f before after input rest old new)
    same all

-- what was done against the URL of the base's text
pub linted_against : (asked : LintJob) (base name unit : Option (Bor (List ℕ))) (url : Option Url) (format : Format)
    (columns : Columns) (end : End) (input rest old new : Stream)
    → IsBase asked.profile base url → AreNamed name unit format columns true
    → HasLintedAgainst asked url format columns end input rest old new
    → HasLinted asked base name unit end input rest old new
linted_against asked base name unit url format columns (end.Linted linted) input rest old new is named done =
    (url, format, columns, is, named, done)
linted_against asked base name unit url format columns (end.Fault cli.Memory) input rest old new is named done = done
linted_against asked base name unit url format columns (end.Fault cli.Write) input rest old new is named done =
    absurd done
linted_against asked base name unit url format columns end.Valid input rest old new is named done =
    absurd done
linted_against asked base name unit url format columns end.Refused input rest old new is named done =
    absurd done
linted_against asked base name unit url format columns end.Shown input rest old new is named done =
    absurd done
linted_against asked base name unit url format columns end.Words input rest old new is named done =
    absurd done
linted_against asked base name unit url format columns end.UnknownRule input rest old new is named done =
    absurd done
linted_against asked base name unit url format columns end.UnknownFormat input rest old new is named done =
    absurd done
linted_against asked base name unit url format columns end.UnknownColumns input rest old new is named done =
    absurd done
linted_against asked base name unit url format columns end.ColumnsRefused input rest old new is named done =
    absurd done
linted_against asked base name unit url format columns end.UnknownProfile input rest old new is named done =
    absurd done
linted_against asked base name unit url format columns end.UnknownKind input rest old new is named done =
    absurd done
linted_against asked base name unit url format columns (end.Filtered filtered) input rest old new is named done =
    absurd done
linted_against asked base name unit url format columns (end.BaseRefused refusal) input rest old new is named done =
    absurd done
linted_against asked base name unit url format columns (end.Stopped fault) input rest old new is named done =
    absurd done
linted_against asked base name unit url format columns (end.Vectors ended) input rest old new is named done =
    absurd done
linted_against asked base name unit url format columns end.Unread input rest old new is named done =
    absurd done
