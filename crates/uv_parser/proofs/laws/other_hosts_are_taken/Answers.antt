-- The law is the lemma.
use Rattle.uv_parser.proofs.laws.other_hosts_are_taken.Goals as goal
use Rattle.uv_parser.proofs.HostParsing.OtherHostsTaken.{other_hosts_are_taken}

pub returns : goal.returns
returns c = other_hosts_are_taken
