-- The IPv6 parser on the texts that it takes.
use Rattle.uv_parser.proofs.laws.ipv6_parser_takes_ipv6_texts.Goals as goal
use Rattle.uv_parser.proofs.HostParsing.Ipv6Taken.{ipv6_texts_alone}

pub returns : goal.returns
returns c = ipv6_texts_alone
