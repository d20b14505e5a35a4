-- The tables of the host parser rows.
use Rattle.uv_parser.proofs.laws.host_parser_rows.Goals as goal
use Rattle.uv_parser.proofs.Rows.HostParser.{host_parser_rows}

pub returns : goal.returns
returns c = host_parser_rows
