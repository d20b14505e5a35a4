-- A diagnostic as an issue of a report of GitLab on the quality of code, and the array round the issues (GitLab Docs,
-- Code Quality, report format).
use Rattle.std.specs.Prelude.{ℕ, List, ◌++◌, codes}
use Rattle.json.specs.Json.{Json, member, no_members, object, string}
use Rattle.uv_report.specs.Diagnostic.{DiagnosticView}
use Rattle.uv_report.specs.Formats.Fingerprint.{file_fingerprint}
use Rattle.uv_report.specs.Json.{json_text, whole}

-- what the array begins with
abbrev pub gitlab_begin : List ℕ
gitlab_begin = codes "[\n"

-- what it ends with
abbrev pub gitlab_end : List ℕ
gitlab_end = codes "]\n"

-- the line at which a diagnostic is, and the file
abbrev pub location_value : DiagnosticView → Json
location_value found =
    object (member (codes "lines") (object (member (codes "begin") (whole found.region.line) no_members))
    (member (codes "path") (string found.file) no_members))

-- the issue of a diagnostic; the third of the five severities stands for an error
abbrev pub issue_value : DiagnosticView → Json
issue_value found =
    object (member (codes "check_name") (string found.rule)
    (member (codes "description") (string found.message)
    (member (codes "fingerprint") (string (file_fingerprint found))
    (member (codes "location") (location_value found)
    (member (codes "severity") (string (codes "major")) no_members)))))

-- its text, and a line feed
unfoldable pub gitlab_text : DiagnosticView → List ℕ
gitlab_text found = json_text (issue_value found) ++ codes "\n"
