-- The tables of the other rows.
use Rattle.uv_parser.proofs.Rows.Other.{other_rows_hold}
use Rattle.uv_parser.proofs.laws.other_rows.Goals as goal

pub returns : goal.returns
returns c = other_rows_hold
