-- The IPv4 parser on the texts that it takes.
use Rattle.uv_parser.proofs.laws.ipv4_parser_takes_numbers.Goals as goal
use Rattle.uv_parser.proofs.HostParsing.Ipv4Taken.{ipv4_takes_numbers}

pub returns : goal.returns
returns c = ipv4_takes_numbers
