-- The host parser on IPv6 texts in brackets.
use Rattle.uv_parser.proofs.laws.ipv6_hosts_are_parsed.Goals as goal
use Rattle.uv_parser.proofs.HostParsing.HostParserLemmas as lemma

pub returns : goal.returns
returns c = lemma.ipv6_hosts_are_parsed
