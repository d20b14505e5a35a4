-- The rows of specs/Rows/Machine hold, by computation.
use Rattle.std.specs.Prelude.{refl}
use Rattle.uv_parser.specs.Rows.Machine.{MachineRows, machine_rows}
use Rattle.uv_parser.proofs.Rows.Computing.{parser}
use Rattle.uv_parser.proofs.Rows.RowsLemmas.{all_hold}

-- each row, by computation
pub machine_rows_hold : MachineRows
unfolding parser
machine_rows_hold = all_hold machine_rows refl
