-- The host parser on the empty text.
use Rattle.uv_parser.proofs.laws.empty_host_is_parsed.Goals as goal
use Rattle.uv_parser.proofs.HostParsing.HostParserLemmas as lemma

pub returns : goal.returns
returns c = lemma.empty_host_is_parsed
