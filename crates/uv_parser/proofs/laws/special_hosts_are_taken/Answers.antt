-- The hosts that the host parser of a special URL takes.
use Rattle.uv_parser.proofs.laws.special_hosts_are_taken.Goals as goal
use Rattle.uv_parser.proofs.HostParsing.SpecialHosts.{special_hosts_are_taken}

pub returns : goal.returns
returns c = special_hosts_are_taken
