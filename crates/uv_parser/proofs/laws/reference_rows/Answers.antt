-- The tables of the reference rows.
use Rattle.uv_parser.proofs.Rows.References.{reference_rows_hold}
use Rattle.uv_parser.proofs.laws.reference_rows.Goals as goal

pub returns : goal.returns
returns c = reference_rows_hold
