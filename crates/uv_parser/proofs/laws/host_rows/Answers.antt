-- The tables of the host rows.
use Rattle.uv_parser.proofs.Rows.Hosts.{host_rows_hold}
use Rattle.uv_parser.proofs.laws.host_rows.Goals as goal

pub returns : goal.returns
returns c = host_rows_hold
