-- The host parser on IPv4 texts.
use Rattle.uv_parser.proofs.laws.ipv4_hosts_are_parsed.Goals as goal
use Rattle.uv_parser.proofs.HostParsing.SpecialHosts as lemma

pub returns : goal.returns
returns c = lemma.ipv4_hosts_are_parsed
