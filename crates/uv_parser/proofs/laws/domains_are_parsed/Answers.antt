-- The host parser on valid domains.
use Rattle.uv_parser.proofs.laws.domains_are_parsed.Goals as goal
use Rattle.uv_parser.proofs.HostParsing.SpecialHosts as lemma

pub returns : goal.returns
returns c = lemma.domains_are_parsed
