-- The host parser on opaque-host strings.
use Rattle.uv_parser.proofs.laws.opaque_hosts_are_parsed.Goals as goal
use Rattle.uv_parser.proofs.HostParsing.HostParserLemmas as lemma

pub returns : goal.returns
returns c = lemma.opaque_hosts_are_parsed
