-- A diagnostic as an element of a document of Checkstyle, in XML 1.0.
use Rattle.std.specs.Prelude.{ℕ, List, ◌++◌, codes, decimal}
use Rattle.uv_shown.specs.declared.escaping.escapes.Escapes.TheVariants.{Attribute}
use Rattle.uv_report.specs.Diagnostic.{DiagnosticView}
use Rattle.uv_shown.specs.Escaping.Escapes.{escaped}

-- what a document begins with
abbrev pub document_begin : List ℕ
document_begin = codes "<?xml version=\"1.0\" encoding=\"UTF-8\"?>\n<checkstyle version=\"4.3\">\n"

-- what it ends with
abbrev pub document_end : List ℕ
document_end = codes "</checkstyle>\n"

-- the start tag of a file
unfoldable pub file_begin : List ℕ → List ℕ
file_begin file = codes "<file name=\"" ++ (escaped Attribute file ++ codes "\">\n")

-- the end tag of a file
abbrev pub file_end : List ℕ
file_end = codes "</file>\n"

-- the element of a diagnostic: the line, the column, the message and what it comes from
unfoldable pub checkstyle_text : DiagnosticView → List ℕ
checkstyle_text found =
    codes "<error line=\"" ++ (decimal found.region.line ++ (codes "\" column=\"" ++ (decimal found.region.column
    ++ (codes "\" severity=\"error\" message=\"" ++ (escaped Attribute found.message ++ (codes "\" source=\"urlcheck."
    ++ (escaped Attribute found.rule ++ codes "\"/>\n")))))))
