-- The report on a file: what is before its diagnostics, the diagnostics on each line, in order and numbered from 1,
-- and what is after them.
use Rattle.std.specs.Prelude.{◌≡◌, ℕ, ◌+◌, ◌-◌, ◌^◌, ◌==◌, Bool, true, false, not, List, [], ◌∷◌, ◌++◌, Option, Some, None}
use Rattle.std.specs.Prelude.{if◌then◌else◌, length, map, min, option_map, sum_by, take}
use Rattle.std.specs.Str.{IsUtf8, chars}
use Rattle.std.specs.Str.Lossy.{utf8_valid_len}
use Rattle.uv_report.specs.declared.places.column.Columns.{Columns}
use Rattle.uv_report.specs.declared.diagnostic.Region.{Region}
use Rattle.uv_rules.specs.declared.line_violation.LineViolation.{LineViolation}
use Rattle.uv_rules.specs.declared.line_violation.LineViolation.TheVariants.{Refused}
use Rattle.uv_report.specs.declared.format.Format.{Format}
use Rattle.uv_report.specs.declared.look.Look.{Look}
use Rattle.uv_report.specs.Places.Column.{column_at, width}
use Rattle.uv_report.specs.Diagnostic.{DiagnosticView, FixView}
use Rattle.uv_rules.specs.LineViolation.{violation_address, violation_end, violation_index, violation_name}
use Rattle.uv_rules.specs.LineViolation.{violation_place}
use Rattle.uv_sentences.specs.Sentences.Message.{PlacedText}
use Rattle.uv_report.specs.Report.{diagnostic_text, file_begin_text, file_end_text, separator}
use Rattle.uv_lines.specs.Lines.{short_line, without_mark}
use Rattle.uv_lint.specs.declared.counts.LintCounts.{LintCounts}
use Rattle.uv_lint.specs.declared.setting.LineForm.{LineForm}
use Rattle.uv_lint.specs.declared.setting.LineForm.TheVariants.{Plain, Located}
use Rattle.uv_lint.specs.Findings.{AreAllFindings, Findings, MendedText, shown}
use Rattle.uv_lint.specs.LineViolations.{FileSetting, foreign_place, link_of}
use Rattle.uv_lint.specs.Located.{LocatedLink}

-- ---- the diagnostics

-- What is before the diagnostics of a file. If lines say where their links are, each diagnostic is about a file of its
-- own, and this is before each diagnostic.
abbrev pub list_begin_text : LineForm → Format → List ℕ → List ℕ
list_begin_text Plain format file = file_begin_text format file
list_begin_text Located format file = []

-- and what is after them
abbrev pub list_end_text : LineForm → Format → List ℕ
list_end_text Plain format = file_end_text format
list_end_text Located format = []

-- the text of a diagnostic about a file, with these round it or without
abbrev pub framed_text : LineForm → Format → List ℕ → List ℕ → List ℕ
framed_text Plain format file text = text
framed_text Located format file text = file_begin_text format file ++ (text ++ file_end_text format)

-- a text and where it is: the file, the number of the line, the column of its beginning, and what is shown of it
pub record ReportedText : Type 0 where
  pub file : List ℕ
  pub line : ℕ
  pub start : ℕ
  pub text : List ℕ

-- the column after a text that begins in this one
abbrev pub end_column : Columns → ℕ → List ℕ → ℕ
end_column columns start text = column_at columns start text (length (chars text))

-- from one column of its line to another
abbrev pub region_in : ReportedText → ℕ → ℕ → Region
region_in reported column end =
    record { line = reported.line; column = column; end_line = reported.line; end_column = end }

-- a mended text in place of all of it
abbrev pub fix_of : Columns → ReportedText → MendedText → FixView
fix_of columns reported mended = record {
  region = Some (region_in reported reported.start (end_column columns reported.start reported.text));
  text = mended.text;
  kind = mended.kind;
  is_offered = mended.is_offered;
  is_named = mended.is_named;
}

-- what a diagnostic carries of it
abbrev pub fix_on : Columns → ReportedText → Option MendedText → Option FixView
fix_on columns reported mended = option_map (fix_of columns reported) mended

-- the text is shown: it is refused, or some of a line that isn't checked is carried
abbrev pub is_shown : LineViolation → List ℕ → Bool
is_shown (Refused refusal) text = true
is_shown violation text = not (length text == 0)

-- a diagnostic on a text of which this is said, in this region
abbrev pub diagnostic_in : ReportedText → Region → Option FixView → LineViolation → PlacedText → DiagnosticView
diagnostic_in reported region fix violation message = record {
  file = reported.file;
  region = region;
  rule = violation_name violation;
  index = Some (violation_index violation);
  uri = violation_address violation;
  message = message.text;
  text = reported.text;
  is_shown = is_shown violation reported.text;
  place = violation_place violation;
  named = message.place;
  repeat = 0;
  fix = fix;
}

-- a diagnostic on a text of which this is said, from the column of the violation's place up to the column at which it
-- ends
abbrev pub diagnostic_on : Columns → ReportedText → Option FixView → LineViolation → PlacedText → DiagnosticView
diagnostic_on columns reported fix violation message =
    diagnostic_in reported
    (region_in reported (column_at columns reported.start reported.text (violation_place violation))
    (column_at columns reported.start reported.text (violation_end violation))) fix violation message

-- in each unit the column of bytes that aren't UTF-8 is that after their longest beginning that is
abbrev pub ForeignColumns : Type 0
ForeignColumns =
    (columns : Columns) (start : ℕ) (bytes : List ℕ) → ¬ (IsUtf8 bytes)
    → column_at columns start (shown (Some bytes)) (foreign_place bytes)
    ≡ min (start + width columns start (chars (take (utf8_valid_len bytes) bytes))) (2 ^ 64 - 1)

-- a diagnostic with what is before it and round it
abbrev pub one_text : LineForm → Format → Look → Bool → DiagnosticView → List ℕ
one_text form format look is_first found =
    separator format is_first ++ framed_text form format found.file (diagnostic_text format look found)

-- A diagnostic for each violation, with its message; the first of them is the first one of the report, or isn't, and
-- only it says what to write in place of the text.
abbrev pub diagnostics_text : LineForm → Format → Look → Columns → ReportedText → Bool → Option FixView
    → List LineViolation → List PlacedText → List ℕ
diagnostics_text form format look columns reported is_first fix (violation ∷ rest) (message ∷ messages) =
    one_text form format look is_first (diagnostic_on columns reported fix violation message)
    ++ diagnostics_text form format look columns reported false None rest messages
diagnostics_text form format look columns reported is_first fix _ _ = []

-- the diagnostics on a text of which this was found
abbrev pub text_diagnostics : FileSetting → ReportedText → Bool → Findings → List ℕ
text_diagnostics setting reported is_first findings =
    diagnostics_text setting.form setting.format setting.look setting.columns reported is_first
    (fix_on setting.columns reported findings.mended) findings.violations findings.messages

-- what the diagnostics on a line tell: its link, where the line says that it is, otherwise the line with this number
abbrev pub reported_by : List ℕ → ℕ → Option (List ℕ) → Option LocatedLink → ReportedText
reported_by file number line (Some link) =
    record { file = link.file; line = link.line; start = link.column; text = shown (Some link.link) }
reported_by file number line None = record { file = file; line = number; start = 1; text = shown line }

-- the diagnostics on a line with this number
abbrev pub line_text : FileSetting → ℕ → Option (List ℕ) → Bool → Findings → List ℕ
line_text setting number line is_first findings =
    text_diagnostics setting (reported_by setting.file number line (link_of setting.form line)) is_first findings

-- what was found, of the violations so many of the first
abbrev pub first_found : ℕ → Findings → Findings
first_found count findings = record findings { violations = take count findings.violations }

-- no diagnostic was written yet, nor for these violations
abbrev pub is_still_first : Bool → List LineViolation → Bool
is_still_first is_first [] = is_first
is_still_first is_first (violation ∷ rest) = false

-- the diagnostics on lines, from a number on
abbrev pub lines_text : FileSetting → ℕ → Bool → List (Option (List ℕ)) → List Findings → List ℕ
lines_text setting number is_first (line ∷ lines) (findings ∷ rest) =
    line_text setting number line is_first findings
    ++ lines_text setting (number + 1) (is_still_first is_first findings.violations) lines rest
lines_text setting number is_first _ _ = []

-- ---- the lines as they are checked

-- A line as it is checked after so many others: a byte order mark at the file's start isn't a part of the first one. It
-- is among the bytes that a line may have.
abbrev pub checked_line : ℕ → Option (List ℕ) → Option (List ℕ)
checked_line before line = if before == 0 then option_map without_mark line else line

-- lines as they are checked after so many others
abbrev pub checked_lines : ℕ → List (Option (List ℕ)) → List (Option (List ℕ))
checked_lines before [] = []
checked_lines before (line ∷ lines) = checked_line before line ∷ checked_lines (before + 1) lines

-- the lines of a file as they are checked, if none may have more than so many bytes
abbrev pub lines_within : ℕ → List (List ℕ) → List (Option (List ℕ))
lines_within line_bytes lines = checked_lines 0 (map (short_line line_bytes) lines)

-- ---- the counts

-- a checked line counts once; an empty one isn't checked
abbrev pub checked_of : Option (List ℕ) → ℕ
checked_of (Some []) = 0
checked_of _ = 1

-- and so does one of which something was found
abbrev pub refused_of : List LineViolation → ℕ
refused_of [] = 0
refused_of (violation ∷ rest) = 1

-- a line of which something was found counts once, by its findings
abbrev pub refused_in : Findings → ℕ
refused_in findings = refused_of findings.violations

-- no line was counted yet
abbrev pub none_counted : LintCounts
none_counted = record { lines = 0; refused = 0 }

-- the counts with a further line
abbrev pub counted : LintCounts → Option (List ℕ) → List LineViolation → LintCounts
counted counts line violations = record {
  lines = counts.lines + checked_of line;
  refused = counts.refused + refused_of violations;
}

-- the counts of lines
abbrev pub tally : List (Option (List ℕ)) → List Findings → LintCounts
tally lines findings = record { lines = sum_by checked_of lines; refused = sum_by refused_in findings }

-- ---- the report

-- The text is the report on lines of which none may have more than so many bytes, and these are its counts. Its first
-- diagnostic is the first one of the whole report, or isn't.
pub record IsReport (setting : FileSetting) (line_bytes : ℕ) (is_first : Bool) (lines : List (List ℕ))
    (text : List ℕ) (counts : LintCounts) : Type 0 where
  pub findings : List Findings
  pub found : AreAllFindings setting (lines_within line_bytes lines) findings
  pub whole : text
      ≡ list_begin_text setting.form setting.format setting.file
      ++ (lines_text setting 1 is_first (lines_within line_bytes lines) findings
      ++ list_end_text setting.form setting.format)
  pub counts_are : counts ≡ tally (lines_within line_bytes lines) findings

-- The text is the report on lines, on the last of which it has only some of the first diagnostics; its end is after
-- them. The lines before that are counted.
pub record IsReportBegun (setting : FileSetting) (line_bytes : ℕ) (is_first : Bool) (lines : List (List ℕ))
    (text : List ℕ) (counts : LintCounts) : Type 0 where
  pub before : List (List ℕ)
  pub line : List ℕ
  pub are : lines ≡ before ++ line ∷ []
  pub findings : List Findings
  pub last : Findings
  pub found : AreAllFindings setting (lines_within line_bytes (before ++ line ∷ [])) (findings ++ last ∷ [])
  pub count : ℕ
  pub whole : text
      ≡ list_begin_text setting.form setting.format setting.file
      ++ (lines_text setting 1 is_first (lines_within line_bytes (before ++ line ∷ []))
      (findings ++ first_found count last ∷ []) ++ list_end_text setting.form setting.format)
  pub counts_are : counts ≡ tally (lines_within line_bytes before) findings
