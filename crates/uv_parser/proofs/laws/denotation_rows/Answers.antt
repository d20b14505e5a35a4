-- The tables of the denotation rows.
use Rattle.uv_parser.proofs.Rows.Denotation.{denotation_rows_hold}
use Rattle.uv_parser.proofs.laws.denotation_rows.Goals as goal

pub returns : goal.returns
returns c = denotation_rows_hold
