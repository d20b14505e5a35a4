-- The tables of the special rows.
use Rattle.uv_parser.proofs.Rows.Special.{special_rows_hold}
use Rattle.uv_parser.proofs.laws.special_rows.Goals as goal

pub returns : goal.returns
returns c = special_rows_hold
