-- A diagnostic as a failed test of a document of JUnit, in XML 1.0, and the tests that are round it.
use Rattle.std.specs.Prelude.{ℕ, List, ◌++◌, codes, decimal}
use Rattle.uv_report.specs.declared.completion.Completion.{Completion}
use Rattle.uv_report.specs.declared.completion.Completion.TheVariants.{Whole, Unread, Stopped}
use Rattle.uv_shown.specs.declared.escaping.escapes.Escapes.TheVariants.{Attribute}
use Rattle.uv_report.specs.Diagnostic.{DiagnosticView, carried_text}
use Rattle.uv_shown.specs.Escaping.Escapes.{escaped}

-- ---- the document

-- what it begins with
abbrev pub junit_begin : List ℕ
junit_begin = codes "<?xml version=\"1.0\" encoding=\"UTF-8\"?>\n<testsuites name=\"urlcheck\">\n"

-- The suite of the run has one test: whether every file was read to its end. What was in the way is an error.
abbrev pub run_end : Completion → List ℕ
run_end Whole = codes "/>"
run_end Unread = codes "><error message=\"a file can't be read, which standard error names\"/></testcase>"
run_end Stopped = codes "><error message=\"the run stopped, and standard error says why\"/></testcase>"

-- that suite, and what the document ends with
abbrev pub junit_end : Completion → List ℕ
junit_end completion =
    codes "<testsuite name=\"urlcheck\">\n<testcase classname=\"urlcheck\" name=\"run\""
    ++ (run_end completion ++ codes "\n</testsuite>\n</testsuites>\n")

-- ---- a file

-- the start tag of a suite, and a test that passes: so the suite of a file has one even if nothing is wrong
unfoldable pub suite_begin : List ℕ → List ℕ
suite_begin file =
    codes "<testsuite name=\"" ++ (escaped Attribute file ++ (codes "\">\n<testcase classname=\""
    ++ (escaped Attribute file ++ codes "\" name=\"file\"/>\n")))

-- the end tag
abbrev pub suite_end : List ℕ
suite_end = codes "</testsuite>\n"

-- ---- a diagnostic

-- the start tag of its test, which is named by the place and the rule
unfoldable pub case_begin : DiagnosticView → List ℕ
case_begin found =
    codes "<testcase classname=\"" ++ (escaped Attribute found.file ++ (codes "\" name=\""
    ++ (decimal found.region.line ++ (codes ":" ++ (decimal found.region.column ++ (codes " "
    ++ (escaped Attribute found.rule ++ codes "\">")))))))

-- the failure: its rule, its message, and the text that is wrong, as far as a report carries it
unfoldable pub failure : DiagnosticView → List ℕ
failure found =
    codes "<failure type=\"" ++ (escaped Attribute found.rule ++ (codes "\" message=\""
    ++ (escaped Attribute found.message ++ (codes "\">"
    ++ (escaped Attribute (carried_text found) ++ codes "</failure></testcase>\n")))))

-- the test
unfoldable pub junit_text : DiagnosticView → List ℕ
junit_text found = case_begin found ++ failure found
