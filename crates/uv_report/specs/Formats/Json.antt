-- A diagnostic as an object of JSON.
use Rattle.std.specs.Prelude.{ℕ, List, ◌++◌, codes, Option, Some, None}
use Rattle.json.specs.Json.{Json, Members, boolean, member, no_members, object, string}
use Rattle.uv_model.specs.MendKindName.{kind_name}
use Rattle.uv_report.specs.Diagnostic.{DiagnosticView, FixView, carried_text}
use Rattle.uv_report.specs.Json.{json_text, whole}
use Rattle.uv_shown.specs.Places.Window.{is_cut}

-- the object of a diagnostic, by its members' names; a text has only the escapes of JSON
abbrev pub plain_value : DiagnosticView → Json
plain_value found =
    object (member (codes "column") (whole found.region.column)
    (member (codes "cut") (boolean (is_cut found.text))
    (member (codes "file") (string found.file)
    (member (codes "line") (whole found.region.line)
    (member (codes "message") (string found.message)
    (member (codes "rule") (string found.rule)
    (member (codes "text") (string (carried_text found)) no_members)))))))

-- with how a mended text is to the refused one, the mended text, which is whole, and whether it is offered
abbrev pub mended_value : DiagnosticView → FixView → Json
mended_value found fix =
    object (member (codes "column") (whole found.region.column)
    (member (codes "cut") (boolean (is_cut found.text))
    (member (codes "file") (string found.file)
    (member (codes "kind") (string (kind_name fix.kind))
    (member (codes "line") (whole found.region.line)
    (member (codes "mended") (string fix.text)
    (member (codes "message") (string found.message)
    (member (codes "offered") (boolean fix.is_offered)
    (member (codes "rule") (string found.rule)
    (member (codes "text") (string (carried_text found)) no_members))))))))))

-- by whether there is one
abbrev pub value_with : DiagnosticView → Option FixView → Json
value_with found None = plain_value found
value_with found (Some fix) = mended_value found fix

-- the object of a diagnostic
abbrev pub json_value : DiagnosticView → Json
json_value found = value_with found found.fix

-- its text, and a line feed
unfoldable pub json_line : DiagnosticView → List ℕ
json_line found = json_text (json_value found) ++ codes "\n"
