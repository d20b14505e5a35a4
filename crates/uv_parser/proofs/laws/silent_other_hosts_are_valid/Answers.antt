-- The law is the lemma.
use Rattle.uv_parser.proofs.laws.silent_other_hosts_are_valid.Goals as goal
use Rattle.uv_parser.proofs.HostParsing.OtherHosts.{silent_other_hosts_are_valid}

pub returns : goal.returns
returns c = silent_other_hosts_are_valid
