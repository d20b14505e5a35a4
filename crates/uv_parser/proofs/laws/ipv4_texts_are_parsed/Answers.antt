-- The IPv4 parser on IPv4 texts.
use Rattle.uv_parser.proofs.laws.ipv4_texts_are_parsed.Goals as goal
use Rattle.uv_parser.proofs.HostParsing.Ipv4ParserLemmas.{ipv4_parsed}

pub returns : goal.returns
returns c = ipv4_parsed
