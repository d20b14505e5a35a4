-- The rows of lists that are written out.
use Rattle.uv_lint.proofs.ReportRowsLemmas.{lint_rows}
use Rattle.uv_lint.proofs.laws.lint_rows.Goals as goal

pub returns : goal.returns
returns c = lint_rows
