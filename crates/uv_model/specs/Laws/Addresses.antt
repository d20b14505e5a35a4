-- What the host serializer (URL Standard, section 3.6) writes for an address is read as that address.
use Rattle.std.specs.Prelude.{◌≡◌, ℕ, List}
use Rattle.uv_model.specs.declared.host.Host.{Host}
use Rattle.uv_model.specs.declared.host.Host.TheVariants.{V4, V6}
use Rattle.uv_model.specs.Hosts.Address.{IsAddress, IsIpv4, IsBracketedIpv6}
use Rattle.uv_model.specs.Records.Serialize.{serial_host}

-- the text is an IPv4 text of the value, or an IPv6 text of the pieces in brackets
abbrev pub DenotesAddress : List ℕ → Host → Type 0
DenotesAddress text (V4 value) = IsIpv4 text value
DenotesAddress text (V6 pieces) = IsBracketedIpv6 text pieces
DenotesAddress text _ = ⊥

-- the law: what is written for an address denotes it, and no text denotes or is written for two addresses
pub record AddressesAreReadBack : Type 0 where
  pub read_back : (address : Host) → IsAddress address → DenotesAddress (serial_host address) address
  pub one_address : (text : List ℕ) (address other : Host) → DenotesAddress text address → DenotesAddress text other
      → address ≡ other
  pub one_text : (address other : Host) → IsAddress address → IsAddress other
      → serial_host address ≡ serial_host other → address ≡ other
