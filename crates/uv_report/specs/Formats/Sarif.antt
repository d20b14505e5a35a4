-- A diagnostic as a result of SARIF 2.1.0 (sections 3.27 to 3.30, and 3.55 to 3.57), and the document round the
-- results.
use Rattle.std.specs.Prelude.{ℕ, ◌==◌, List, [], ◌∷◌, ◌++◌, codes, flat_map, if◌then◌else◌, length}
use Rattle.std.specs.Prelude.{Option, Some, None}
use Rattle.json.specs.Json.{Json, Members, boolean, member, no_members, object, string}
use Rattle.uv_model.specs.declared.mend_kind.MendKind.{MendKind}
use Rattle.uv_model.specs.declared.mend_kind.MendKind.TheVariants.{Same, Escaped, Changed}
use Rattle.uv_report.specs.declared.places.column.Columns.{Columns}
use Rattle.uv_report.specs.declared.places.column.Columns.TheVariants.{CodePoints, Utf16}
use Rattle.uv_report.specs.declared.completion.Completion.{Completion}
use Rattle.uv_report.specs.declared.diagnostic.Region.{Region}
use Rattle.uv_report.specs.declared.formats.sarif.TheConstants.{SAME_FIX, ESCAPED_FIX, CHANGED_FIX}
use Rattle.uv_report.specs.declared.completion.Completion.TheVariants.{Whole, Unread, Stopped}
use Rattle.uv_report.specs.Diagnostic.{DiagnosticView, FixView, carried_text, edit_of}
use Rattle.uv_report.specs.Formats.Uri.{uri_path}
use Rattle.uv_report.specs.Formats.Fingerprint.{text_fingerprint}
use Rattle.uv_report.specs.Json.{json_text, object_of, single, whole}
use Rattle.uv_shown.specs.Places.Window.{is_cut}
use Rattle.uv_shown.specs.Rule.{RuleView}

-- a text for people
abbrev pub message : List ℕ → Json
message text = object_of (codes "text") text

-- ---- the rules (section 3.49)

-- the rule's name, and what is wrong where it is violated
abbrev pub named_members : RuleView → Members
named_members rule =
    member (codes "id") (string rule.name)
    (member (codes "shortDescription") (message rule.sentence) no_members)

-- a rule that has no page, and one that has this one
abbrev pub bare_rule : RuleView → Json
bare_rule rule =
    object (member (codes "fullDescription") (message rule.help)
    (member (codes "help") (message rule.help) (named_members rule)))

abbrev pub paged_rule : RuleView → Json
paged_rule rule =
    object (member (codes "fullDescription") (message rule.help)
    (member (codes "help") (message rule.help)
    (member (codes "helpUri") (string rule.uri) (named_members rule))))

unfoldable pub rule_value : RuleView → Json
rule_value rule = if length rule.uri == 0 then bare_rule rule else paged_rule rule

-- its text
unfoldable pub rule_text : RuleView → List ℕ
rule_text rule = json_text (rule_value rule)

-- a rule after a comma
unfoldable pub next_rule : RuleView → List ℕ
next_rule rule = codes "," ++ rule_text rule

-- all of them, with commas between them
abbrev pub all_rules : List RuleView → List ℕ
all_rules [] = []
all_rules (first ∷ rest) = rule_text first ++ flat_map next_rule rest

-- ---- the document

-- what columns count (section 3.14), where SARIF has a word for it
abbrev pub column_kind : Columns → List ℕ
column_kind CodePoints = codes "\"columnKind\":\"unicodeCodePoints\","
column_kind Utf16 = codes "\"columnKind\":\"utf16CodeUnits\","
column_kind _ = []

-- the tool up to its rules (section 3.19): its name and its version
abbrev pub driver_begin : List ℕ
driver_begin = codes "\"tool\":{\"driver\":{\"name\":\"urlcheck\",\"version\":\"0.5.0\",\"rules\":["

-- what it begins with
unfoldable pub sarif_begin : Columns → List RuleView → List ℕ
sarif_begin columns rules =
    codes "{\"$schema\":\"https://json.schemastore.org/sarif-2.1.0.json\",\"version\":\"2.1.0\","
    ++ (codes "\"runs\":[{" ++ (column_kind columns
    ++ (driver_begin ++ (all_rules rules ++ codes "]}},\"results\":[\n"))))

-- a message to the one who reads how the run went
abbrev pub notification : List ℕ → List ℕ
notification message =
    codes "\"toolExecutionNotifications\":[{\"level\":\"error\",\"message\":{\"text\":\"" ++ (message ++ codes "\"}}]")

-- how the run went: whether every file was read to its end, and if not, what was in the way
abbrev pub invocation : Completion → List ℕ
invocation Whole = codes "\"executionSuccessful\":true"
invocation Unread =
    codes "\"executionSuccessful\":false," ++ notification (codes "a file can't be read, which standard error names")
invocation Stopped =
    codes "\"executionSuccessful\":false," ++ notification (codes "the run stopped, and standard error says why")

-- what it ends with
abbrev pub sarif_end : Completion → List ℕ
sarif_end completion = codes "],\"invocations\":[{" ++ (invocation completion ++ codes "}]}]}\n")

-- ---- the results

-- what is in one line (section 3.30)
abbrev pub line_region : Region → Json
line_region region =
    object (member (codes "endColumn") (whole region.end_column)
    (member (codes "startColumn") (whole region.column)
    (member (codes "startLine") (whole region.line) no_members)))

-- what ends in another line than it begins in
abbrev pub lines_region : Region → Json
lines_region region =
    object (member (codes "endColumn") (whole region.end_column)
    (member (codes "endLine") (whole region.end_line)
    (member (codes "startColumn") (whole region.column)
    (member (codes "startLine") (whole region.line) no_members))))

-- where something is
abbrev pub region_value : Region → Json
region_value region = if region.end_line == region.line then line_region region else lines_region region

-- a file, by the path of a URI reference
abbrev pub artifact_value : List ℕ → Json
artifact_value uri = object_of (codes "uri") uri

-- where in that file a diagnostic is
abbrev pub location_value : List ℕ → Region → Json
location_value uri region =
    object (member (codes "physicalLocation")
    (object (member (codes "artifactLocation") (artifact_value uri)
    (member (codes "region") (region_value region) no_members))) no_members)

-- the index of the rule among the rules of the document; no member for one that isn't among them
abbrev pub index_members : Option ℕ → Members
index_members None = no_members
index_members (Some index) = member (codes "ruleIndex") (whole index) no_members

-- what is carried of the text, and the violated rule
unfoldable pub violation_members : DiagnosticView → Members
violation_members found =
    member (codes "properties") (object (member (codes "cut") (boolean (is_cut found.text))
    (member (codes "text") (string (carried_text found)) no_members)))
    (member (codes "ruleId") (string found.rule)
    (index_members found.index))

-- The members of each result. What tells it from another in a later run too, wherever it is then (section 3.27.17), is
-- by a name whose number rises where it is made in another way.
abbrev pub result_members : DiagnosticView → Members
result_members found =
    member (codes "level") (string (codes "error"))
    (member (codes "locations") (single (location_value (uri_path found.file) found.region))
    (member (codes "message") (message found.message)
    (member (codes "partialFingerprints") (object_of (codes "urlcheckText/v1") (text_fingerprint found))
    (violation_members found))))

-- ---- the fix of a result (sections 3.55 to 3.57)

-- what it does, by how the mended text is to the refused one, in the words of the code, which the runs compare
abbrev pub fix_sentence : MendKind → List ℕ
fix_sentence Same = SAME_FIX.now
fix_sentence Escaped = ESCAPED_FIX.now
fix_sentence Changed = CHANGED_FIX.now

-- a text in place of what is in this region
abbrev pub replacement_value : Region → List ℕ → Json
replacement_value region text =
    object (member (codes "deletedRegion") (region_value region)
    (member (codes "insertedContent") (message text) no_members))

-- a text in place of what is in this region of a file
abbrev pub change_value : List ℕ → Region → List ℕ → Json
change_value uri region text =
    object (member (codes "artifactLocation") (artifact_value uri)
    (member (codes "replacements") (single (replacement_value region text)) no_members))

-- the mended text in place of all of the text, and what that does
abbrev pub fix_value : List ℕ → Region × FixView → Json
fix_value uri edit =
    object (member (codes "artifactChanges") (single (change_value uri edit.0 edit.1.text))
    (member (codes "description") (message (fix_sentence edit.1.kind)) no_members))

-- this fix before the members of each result; no member if nothing is offered, or may be written there
abbrev pub members_with : DiagnosticView → Option (Region × FixView) → Members
members_with found None = result_members found
members_with found (Some edit) = member (codes "fixes") (single (fix_value (uri_path found.file) edit)) (result_members found)

-- the result of a diagnostic: its fix writes the mended text that is offered
abbrev pub result_value : DiagnosticView → Json
result_value found = object (members_with found (edit_of found.fix))

-- its text, and a line feed
unfoldable pub sarif_text : DiagnosticView → List ℕ
sarif_text found = json_text (result_value found) ++ codes "\n"
