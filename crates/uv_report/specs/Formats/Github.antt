-- A diagnostic as a workflow command of GitHub (Workflow commands for GitHub Actions, Setting an error message).
use Rattle.std.specs.Prelude.{ℕ, List, ◌++◌, codes, decimal}
use Rattle.uv_shown.specs.declared.escaping.escapes.Escapes.TheVariants.{Message, Property}
use Rattle.uv_report.specs.Diagnostic.{DiagnosticView}
use Rattle.uv_shown.specs.Escaping.Escapes.{escaped}

-- `::error file=FILE,line=LINE,col=COLUMN,title=RULE::SENTENCE` and a line feed
unfoldable pub github_text : DiagnosticView → List ℕ
github_text found =
    codes "::error file=" ++ (escaped Property found.file ++ (codes ",line=" ++ (decimal found.region.line
    ++ (codes ",col=" ++ (decimal found.region.column ++ (codes ",title="
    ++ (escaped Property found.rule ++ (codes "::"
    ++ (escaped Message found.message ++ codes "\n")))))))))
