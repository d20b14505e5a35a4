-- The rows of the definitions.
use Rattle.uv_parser.proofs.Rows.Definitions.{definition_rows_hold}
use Rattle.uv_parser.proofs.laws.definition_rows.Goals as goal

pub returns : goal.returns
returns c = definition_rows_hold
