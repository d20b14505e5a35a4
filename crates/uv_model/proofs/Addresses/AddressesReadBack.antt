-- The texts that addresses are serialized as are read as those addresses.
use Rattle.std.proofs.Common.{◌≡◌, ℕ, ◌/◌, ◌%◌, ◌<◌, ◌^◌, List, refl, sym, ap, ◌∙◌, arith, true≢false}
use Rattle.std.specs.Net.Text.{hex_groups_text}
use Rattle.std.proofs.NetLemmas.Texts.{IsColonHex-hex_groups_text}
use Rattle.uv_model.specs.declared.host.Host.{Host}
use Rattle.uv_model.specs.declared.host.Host.TheVariants.{V4, V6}
use Rattle.uv_model.specs.Hosts.Address.{IsAddress, IsIpv4, IsBracketedIpv6}
use Rattle.uv_model.specs.Laws.Addresses.{DenotesAddress, AddressesAreReadBack}
use Rattle.uv_model.specs.Records.Serialize.{serial_ipv4, serial_host}
use Rattle.uv_model.proofs.Addresses.AddressLemmas.{ipv6_from_colon_hex}
use Rattle.uv_model.proofs.Addresses.AddressUniqueness.{ipv4_unique, bracketed_unique, ipv4_no_bracket}
use Rattle.uv_model.proofs.Addresses.AddressUniqueness.{bracketed_bracket}

-- what is written for a value is an IPv4 text of it
pub ipv4_written : (value : ℕ) → value < 2 ^ 32 → IsIpv4 (serial_ipv4 value) value
ipv4_written value small = (
  value / 16777216 % 256,
  value / 65536 % 256,
  value / 256 % 256,
  value % 256,
  record { fit = (omega arith, omega arith, omega arith, omega arith); spelled = refl },
  omega arith,
)

-- what is written for an address denotes it
pub read_back : (address : Host) → IsAddress address → DenotesAddress (serial_host address) address
unfolding serial_host
read_back (V4 value) small = ipv4_written value small
read_back (V6 pieces) (eight, small) =
    (hex_groups_text pieces, refl, ipv6_from_colon_hex _ pieces (IsColonHex-hex_groups_text pieces eight small))
read_back _ none = absurd none

-- a text is not both an IPv4 text and a bracketed one
not_both : (text : List ℕ) (value : ℕ) (pieces : List ℕ) → IsIpv4 text value → IsBracketedIpv6 text pieces → ⊥
not_both text value pieces plain bracketed =
    true≢false (sym (bracketed_bracket text pieces bracketed) ∙ ipv4_no_bracket text value plain)

-- a text denotes one address at most
pub one_address : (text : List ℕ) (address other : Host) → DenotesAddress text address → DenotesAddress text other
    → address ≡ other
one_address text (V4 value) (V4 other) is is' = ap V4 (ipv4_unique text value other is is')
one_address text (V6 pieces) (V6 other) is is' = ap V6 (bracketed_unique text pieces other is is')
one_address text (V4 value) (V6 pieces) is is' = absurd (not_both text value pieces is is')
one_address text (V6 pieces) (V4 value) is is' = absurd (not_both text value pieces is' is)
one_address text (V4 value) _ is none = absurd none
one_address text (V6 pieces) _ is none = absurd none
one_address text _ _ none is = absurd none

-- two addresses with one text are one
pub one_text : (address other : Host) → IsAddress address → IsAddress other → serial_host address ≡ serial_host other
    → address ≡ other
one_text address other is is' same =
    one_address (serial_host other) address other (rw same at (read_back address is)) (read_back other is')

-- the law of host texts
pub addresses_read_back : AddressesAreReadBack
addresses_read_back = record { read_back = read_back; one_address = one_address; one_text = one_text }
