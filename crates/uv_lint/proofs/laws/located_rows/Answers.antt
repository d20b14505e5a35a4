-- The rows of located lines.
use Rattle.uv_lint.proofs.LocatedRowsLemmas.{located_rows}
use Rattle.uv_lint.proofs.laws.located_rows.Goals as goal

pub returns : goal.returns
returns c = located_rows
