-- The tables of the reference matrix rows.
use Rattle.uv_parser.proofs.Rows.ReferenceMatrix.{reference_matrix_rows_hold}
use Rattle.uv_parser.proofs.laws.reference_matrix_rows.Goals as goal

pub returns : goal.returns
returns c = reference_matrix_rows_hold
