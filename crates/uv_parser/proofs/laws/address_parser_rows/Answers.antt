-- The tables of the address parser rows.
use Rattle.uv_parser.proofs.laws.address_parser_rows.Goals as goal
use Rattle.uv_parser.proofs.Rows.AddressParsers.{address_parser_rows}

pub returns : goal.returns
returns c = address_parser_rows
