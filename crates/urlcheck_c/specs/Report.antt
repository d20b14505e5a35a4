-- What is round the diagnostics of a report, by numbers.
use Rattle.std.specs.Prelude.{◌≡◌, ℕ, ◌⊎◌, Bool, true, false, List, Option, Some, None, IsUtf8}
use Rattle.uv_report.specs.declared.places.column.Columns.{Columns}
use Rattle.uv_report.specs.declared.completion.Completion.{Completion}
use Rattle.uv_report.specs.declared.format.Format.{Format}
use Rattle.uv_report.specs.declared.format.Format.TheVariants.{Sarif, Checkstyle, Junit}
use Rattle.uv_report.specs.Format.{takes_columns}
use Rattle.uv_report.specs.Format as reported
use Rattle.uv_report.specs.Report.{begin_text, end_text, file_begin_text, file_end_text}
use Rattle.uv_rules.specs.RuleList.{listed_rules}
use Rattle.urlcheck_c.specs.declared.finding.Finding.{Finding}
use Rattle.urlcheck_c.specs.declared.finding.CallOutcome.TheVariants.{NoFormat, NoUnit, NoCompletion, FileNoUtf8, Memory}
use Rattle.urlcheck_c.specs.declared.written.Written.{Written}
use Rattle.urlcheck_c.specs.ReportNumbers.{completion_of, format_of, unit_of}
use Rattle.urlcheck_c.specs.Request.{IsNoText}
use Rattle.urlcheck_c.specs.Written.{IsRefusedFor, IsTextGiven, IsUnwritten}

-- What a report begins with is given. Or memory ran out, which it may only in SARIF.
abbrev pub IsBeginGiven : Format → Columns → List ℕ → List ℕ → Written → Type 0
IsBeginGiven format columns old new answer =
    IsTextGiven (begin_text format columns listed_rules) old new answer
    ⊎ ((format ≡ Sarif) × IsRefusedFor Memory old new answer)

-- No format has the number; or no unit has, or the format has no word for it; otherwise what a report begins with is
-- given.
abbrev pub IsBeginAnswer : ℕ → ℕ → List ℕ → List ℕ → Written → Type 0
IsBeginAnswer format unit old new answer =
    ((format_of format ≡ None) × IsRefusedFor NoFormat old new answer)
    ⊎ (((unit_of unit ≡ None) × IsRefusedFor NoUnit old new answer)
    ⊎ ((known : Format) × (columns : Columns) × (format_of format ≡ Some known) × (unit_of unit ≡ Some columns)
    × (((takes_columns known columns ≡ false) × IsRefusedFor NoUnit old new answer)
    ⊎ ((takes_columns known columns ≡ true) × IsBeginGiven known columns old new answer))))

-- What is before the diagnostics of a file is given. Or memory ran out, which it may only in the two formats that write
-- something there.
abbrev pub IsFileBeginGiven : Format → List ℕ → List ℕ → List ℕ → Written → Type 0
IsFileBeginGiven format file old new answer =
    IsTextGiven (file_begin_text format file) old new answer
    ⊎ (((format ≡ Checkstyle) ⊎ (format ≡ Junit)) × IsRefusedFor Memory old new answer)

-- no format has the number, or the file's name isn't UTF-8; otherwise what is before its diagnostics is given
abbrev pub IsFileBeginAnswer : ℕ → List ℕ → List ℕ → List ℕ → Written → Type 0
IsFileBeginAnswer format file old new answer =
    ((format_of format ≡ None) × IsRefusedFor NoFormat old new answer)
    ⊎ ((known : Format) × (format_of format ≡ Some known)
    × (((finding : Finding) × IsNoText FileNoUtf8 file finding × IsUnwritten finding old new answer)
    ⊎ (IsUtf8 file × IsFileBeginGiven known file old new answer)))

-- no format has the number; otherwise what is after the diagnostics of a file is given, for which no memory is asked
abbrev pub IsFileEndAnswer : ℕ → List ℕ → List ℕ → Written → Type 0
IsFileEndAnswer format old new answer =
    ((format_of format ≡ None) × IsRefusedFor NoFormat old new answer)
    ⊎ ((known : Format) × (format_of format ≡ Some known) × IsTextGiven (file_end_text known) old new answer)

-- no format or no completion has the number; otherwise what a report ends with is given, for which no memory is asked
abbrev pub IsEndAnswer : ℕ → ℕ → List ℕ → List ℕ → Written → Type 0
IsEndAnswer format completion old new answer =
    ((format_of format ≡ None) × IsRefusedFor NoFormat old new answer)
    ⊎ (((completion_of completion ≡ None) × IsRefusedFor NoCompletion old new answer)
    ⊎ ((known : Format) × (ended : Completion) × (format_of format ≡ Some known)
    × (completion_of completion ≡ Some ended) × IsTextGiven (end_text known ended) old new answer))

-- ---- what is asked of formats and units

-- diagnostics of the format say what to write, where there is a format
abbrev pub shown_by : Option Format → Bool
shown_by None = false
shown_by (Some format) = reported.shows_mended format

-- diagnostics of the format with this number say what to write, where there is one
abbrev pub shows_mended : ℕ → Bool
shows_mended number = shown_by (format_of number)

-- the format takes columns in the unit, where there is a unit
abbrev pub takes_columns_of : Option Columns → Format → Bool
takes_columns_of None format = false
takes_columns_of (Some columns) format = takes_columns format columns

-- the format takes columns in the unit, where there are both
abbrev pub taken_by : Option Format → Option Columns → Bool
taken_by None columns = false
taken_by (Some format) columns = takes_columns_of columns format

-- the format with the one number takes columns in the unit with the other, where there are both
abbrev pub takes_unit : ℕ → ℕ → Bool
takes_unit format unit = taken_by (format_of format) (unit_of unit)
