-- A diagnostic of reviewdog, and the document round the diagnostics (Reviewdog Diagnostic Format, rdjson).
use Rattle.std.specs.Prelude.{ℕ, ◌==◌, List, ◌++◌, codes, if◌then◌else◌, length, Option, Some, None}
use Rattle.json.specs.Json.{Json, Members, member, no_members, object, string}
use Rattle.uv_report.specs.declared.diagnostic.Region.{Region}
use Rattle.uv_report.specs.Diagnostic.{DiagnosticView, FixView, edit_of}
use Rattle.uv_report.specs.Json.{json_text, object_of, single, whole}

-- what the document begins with: who says it
abbrev pub rdjson_begin : List ℕ
rdjson_begin = codes "{\"source\":{\"name\":\"urlcheck\"},\"severity\":\"ERROR\",\"diagnostics\":[\n"

-- what it ends with
abbrev pub rdjson_end : List ℕ
rdjson_end = codes "]}\n"

-- a place
abbrev pub position_value : ℕ → ℕ → Json
position_value line column =
    object (member (codes "column") (whole column) (member (codes "line") (whole line) no_members))

-- what is in a region
abbrev pub range_value : Region → Json
range_value region =
    object (member (codes "end") (position_value region.end_line region.end_column)
    (member (codes "start") (position_value region.line region.column) no_members))

-- a rule without an address, and one with it
abbrev pub bare_code : List ℕ → Json
bare_code rule = object_of (codes "value") rule

abbrev pub addressed_code : List ℕ → List ℕ → Json
addressed_code uri rule =
    object (member (codes "url") (string uri) (member (codes "value") (string rule) no_members))

-- the rule, and its address where it has one
unfoldable pub code_value : List ℕ → List ℕ → Json
code_value uri rule = if length uri == 0 then bare_code rule else addressed_code uri rule

-- the file, and what is wrong in it
abbrev pub location_value : DiagnosticView → Json
location_value found =
    object (member (codes "path") (string found.file)
    (member (codes "range") (range_value found.region) no_members))

-- a mended text in place of all of the text, which is in this region
abbrev pub suggestion_value : Region × FixView → Json
suggestion_value edit =
    object (member (codes "range") (range_value edit.0)
    (member (codes "text") (string edit.1.text) no_members))

-- this suggestion as the last member; no member if nothing is offered, or may be written there
abbrev pub suggestions_member : Option (Region × FixView) → Members
suggestions_member None = no_members
suggestions_member (Some edit) = member (codes "suggestions") (single (suggestion_value edit)) no_members

-- where and what it is, with the mended text that is offered
unfoldable pub told_members : DiagnosticView → Members
told_members found =
    member (codes "location") (location_value found)
    (member (codes "message") (string found.message)
    (member (codes "severity") (string (codes "ERROR")) (suggestions_member (edit_of found.fix))))

-- the diagnostic
abbrev pub rdjson_value : DiagnosticView → Json
rdjson_value found = object (member (codes "code") (code_value found.uri found.rule) (told_members found))

-- its text, and a line feed
unfoldable pub rdjson_text : DiagnosticView → List ℕ
rdjson_text found = json_text (rdjson_value found) ++ codes "\n"
