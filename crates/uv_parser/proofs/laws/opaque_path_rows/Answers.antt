-- The tables of the opaque path rows.
use Rattle.uv_parser.proofs.Rows.OpaquePaths.{opaque_path_rows_hold}
use Rattle.uv_parser.proofs.laws.opaque_path_rows.Goals as goal

pub returns : goal.returns
returns c = opaque_path_rows_hold
