-- What the reader of the standard library answers is what an IPv6 text denotes.
use Rattle.uv_model.proofs.Addresses.AddressLemmas.{colon_hex_from_ipv6, ipv6_from_colon_hex}
use Rattle.uv_host.proofs.addresses.ipv6_of.Goals as goal

pub returns-in-Ok : goal.returns-in-Ok
returns-in-Ok k = rw k.segments.ensures (ipv6_from_colon_hex _ _ k.in-Ok.ensures)

pub returns-in-Err : goal.returns-in-Err
returns-in-Err k = λ pieces is. k.in-Err.ensures (record { segments = pieces }) (colon_hex_from_ipv6 _ _ is)
