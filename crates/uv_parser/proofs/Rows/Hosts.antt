-- The rows of specs/Rows/Hosts hold, by computation.
use Rattle.std.specs.Prelude.{refl}
use Rattle.uv_parser.specs.Rows.Hosts.{HostRows, domain_rows, ipv4_rows, ipv6_rows, ipv6_fault_rows}
use Rattle.uv_parser.proofs.Rows.Computing.{parser}
use Rattle.uv_parser.proofs.Rows.RowsLemmas.{all_hold}

-- the rows of hosts hold, each by computation
pub host_rows_hold : HostRows
unfolding parser
host_rows_hold = (
  all_hold domain_rows refl,
  all_hold ipv4_rows refl,
  all_hold ipv6_rows refl,
  all_hold ipv6_fault_rows refl,
)
