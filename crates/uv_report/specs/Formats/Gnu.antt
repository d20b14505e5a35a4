-- A diagnostic as compilers write it (GNU Coding Standards, Formatting Error Messages).
use Rattle.std.specs.Prelude.{ℕ, List, ◌++◌, codes, decimal}
use Rattle.uv_report.specs.declared.look.Look.{Look}
use Rattle.uv_shown.specs.declared.escaping.escapes.Escapes.TheVariants.{Shown}
use Rattle.uv_report.specs.Diagnostic.{DiagnosticView}
use Rattle.uv_report.specs.Look.{bold, dim, painted, red}
use Rattle.uv_shown.specs.Escaping.Escapes.{escaped}

-- `FILE:LINE:COLUMN:`
abbrev pub place_text : DiagnosticView → List ℕ
place_text found =
    escaped Shown found.file ++ (codes ":" ++ (decimal found.region.line ++ (codes ":" ++ (decimal found.region.column
    ++ codes ":"))))

-- `[RULE]`
abbrev pub rule_text : DiagnosticView → List ℕ
rule_text found = codes "[" ++ (escaped Shown found.rule ++ codes "]")

-- `FILE:LINE:COLUMN: error: SENTENCE [RULE]` and a line feed, where the place may be bold, `error:` red and the rule
-- dim
unfoldable pub gnu_text : Look → DiagnosticView → List ℕ
gnu_text look found =
    painted look bold (place_text found) ++ (codes " " ++ (painted look red (codes "error:") ++ (codes " "
    ++ (escaped Shown found.message ++ (codes " " ++ (painted look dim (rule_text found) ++ codes "\n"))))))

-- the same, by what is before the file, before the sentence, before the rule and after it
unfoldable pub gnu_line : List ℕ → List ℕ → List ℕ → List ℕ → DiagnosticView → List ℕ
gnu_line start error rule end found =
    start ++ (escaped Shown found.file ++ (codes ":" ++ (decimal found.region.line ++ (codes ":"
    ++ (decimal found.region.column ++ (error ++ (escaped Shown found.message ++ (rule ++ (escaped Shown found.rule
    ++ end)))))))))
