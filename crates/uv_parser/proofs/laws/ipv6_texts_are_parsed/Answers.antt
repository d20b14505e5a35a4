-- The IPv6 parser on IPv6 texts.
use Rattle.uv_parser.proofs.laws.ipv6_texts_are_parsed.Goals as goal
use Rattle.uv_parser.proofs.HostParsing.Ipv6ParserLemmas.{ipv6_parsed}

pub returns : goal.returns
returns c = ipv6_parsed
