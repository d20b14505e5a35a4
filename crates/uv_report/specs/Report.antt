-- What a report is made of, in each format: a beginning, for each file a beginning of its own, its diagnostics and an
-- end, and then an end.
use Rattle.std.specs.Prelude.{ℕ, Bool, false, List, [], codes}
use Rattle.uv_report.specs.declared.places.column.Columns.{Columns}
use Rattle.uv_report.specs.declared.completion.Completion.{Completion}
use Rattle.uv_report.specs.declared.format.Format.{Format}
use Rattle.uv_report.specs.declared.format.Format.TheVariants.{Gnu, Caret, Json, Github, Sarif, Checkstyle}
use Rattle.uv_report.specs.declared.format.Format.TheVariants.{Junit, Gitlab, Rdjson}
use Rattle.uv_report.specs.declared.look.Look.{Look}
use Rattle.uv_report.specs.Diagnostic.{DiagnosticView}
use Rattle.uv_report.specs.Formats.Caret.{caret_text}
use Rattle.uv_report.specs.Formats.Checkstyle.{checkstyle_text, document_begin, document_end, file_begin, file_end}
use Rattle.uv_report.specs.Formats.Github.{github_text}
use Rattle.uv_report.specs.Formats.Gitlab.{gitlab_begin, gitlab_end, gitlab_text}
use Rattle.uv_report.specs.Formats.Gnu.{gnu_text}
use Rattle.uv_report.specs.Formats.Json.{json_line}
use Rattle.uv_report.specs.Formats.Junit.{junit_begin, junit_end, junit_text, suite_begin, suite_end}
use Rattle.uv_report.specs.Formats.Rdjson.{rdjson_begin, rdjson_end, rdjson_text}
use Rattle.uv_report.specs.Formats.Sarif.{sarif_begin, sarif_end, sarif_text}
use Rattle.uv_shown.specs.Rule.{RuleView}

-- what a report begins with; in SARIF that says what its columns count, and lists these rules
abbrev pub begin_text : Format → Columns → List RuleView → List ℕ
begin_text Sarif columns rules = sarif_begin columns rules
begin_text Checkstyle columns rules = document_begin
begin_text Junit columns rules = junit_begin
begin_text Gitlab columns rules = gitlab_begin
begin_text Rdjson columns rules = rdjson_begin
begin_text _ columns rules = []

-- what is before the diagnostics of a file
abbrev pub file_begin_text : Format → List ℕ → List ℕ
file_begin_text Checkstyle file = file_begin file
file_begin_text Junit file = suite_begin file
file_begin_text _ file = []

-- what is before a diagnostic, which is the first one of the report or isn't: in a list of JSON a comma but before the
-- first
abbrev pub separator : Format → Bool → List ℕ
separator Sarif false = codes ","
separator Gitlab false = codes ","
separator Rdjson false = codes ","
separator _ _ = []

-- a diagnostic, which looks so
abbrev pub diagnostic_text : Format → Look → DiagnosticView → List ℕ
diagnostic_text Gnu look found = gnu_text look found
diagnostic_text Caret look found = caret_text look found
diagnostic_text Json look found = json_line found
diagnostic_text Github look found = github_text found
diagnostic_text Sarif look found = sarif_text found
diagnostic_text Checkstyle look found = checkstyle_text found
diagnostic_text Junit look found = junit_text found
diagnostic_text Gitlab look found = gitlab_text found
diagnostic_text Rdjson look found = rdjson_text found

-- what is after the diagnostics of a file
abbrev pub file_end_text : Format → List ℕ
file_end_text Checkstyle = file_end
file_end_text Junit = suite_end
file_end_text _ = []

-- what a report ends with, by how the run over its files has ended
abbrev pub end_text : Format → Completion → List ℕ
end_text Sarif completion = sarif_end completion
end_text Checkstyle completion = document_end
end_text Junit completion = junit_end completion
end_text Gitlab completion = gitlab_end
end_text Rdjson completion = rdjson_end
end_text _ completion = []
