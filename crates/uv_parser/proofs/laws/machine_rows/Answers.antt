-- The tables of the machine rows.
use Rattle.uv_parser.proofs.Rows.Machine.{machine_rows_hold}
use Rattle.uv_parser.proofs.laws.machine_rows.Goals as goal

pub returns : goal.returns
returns c = machine_rows_hold
