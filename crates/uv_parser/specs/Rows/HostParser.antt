-- What the host parser (URL Standard, section 3.5), ended at its first validation error, makes of texts written out.
use Rattle.std.specs.Prelude.{◌≡◌, true, false, [], ◌∷◌, ◌++◌, codes, Some, None}
use Rattle.uv_model.specs.declared.host.Host.TheVariants.{Domain, V4, V6, Opaque, Empty}
use Rattle.uv_parser.specs.HostParser.{parse_host}

-- hosts of special URLs
pub record SpecialHostRows : Type 0 where
  pub upper_case : parse_host true (codes "EXAMPLE.COM") ≡ Some (Domain (codes "example.com"))
  pub root : parse_host true (codes "example.com.") ≡ Some (Domain (codes "example.com."))
  pub underscore : parse_host true (codes "a_b") ≡ Some (Domain (codes "a_b"))
  pub escaped_stop : parse_host true (codes "example%2Ecom") ≡ Some (Domain (codes "example.com"))
  pub escaped_letter : parse_host true (codes "b%C3%BCcher") ≡ Some (Domain (codes "xn--bcher-kva"))
  pub sharp_s : parse_host true (codes "fa" ++ 0xDF ∷ codes ".example") ≡ Some (Domain (codes "xn--fa-hia.example"))
  pub address : parse_host true (codes "1.2.3.4") ≡ Some (V4 0x01020304)
  pub mapped_address : parse_host true (0xFF11 ∷ codes ".2.3.4") ≡ Some (V4 0x01020304)
  pub three_numbers : parse_host true (codes "1.2.3") ≡ Some (V4 0x01020003)
  pub bracketed : parse_host true (codes "[0:0::1]") ≡ Some (V6 (0 ∷ 0 ∷ 0 ∷ 0 ∷ 0 ∷ 0 ∷ 0 ∷ 1 ∷ []))

-- texts on which the host parser of a special URL ends
pub record SpecialHostFailures : Type 0 where
  pub nothing_written : parse_host true [] ≡ None
  pub nothing_left : parse_host true (0xAD ∷ []) ≡ None
  pub no_utf8 : parse_host true (codes "%FF") ≡ None
  pub forbidden : parse_host true (codes "example^example") ≡ None
  pub escaped_percent : parse_host true (codes "a%25b") ≡ None
  pub large_number : parse_host true (codes "1.2.256") ≡ None
  pub last_number : parse_host true (codes "example.255") ≡ None
  pub hexadecimal : parse_host true (codes "0x") ≡ None
  pub octal : parse_host true (codes "09") ≡ None
  pub escaped_bracket : parse_host true (codes "[0:0::1%5D") ≡ None
  pub escaped_digit : parse_host true (codes "[0:0::%31]") ≡ None

-- hosts of URLs that aren't special
pub record OpaqueHostRows : Type 0 where
  pub nothing_written : parse_host false [] ≡ Some Empty
  pub upper_case : parse_host false (codes "EXAMPLE.COM") ≡ Some (Opaque (codes "EXAMPLE.COM"))
  pub escaped_stop : parse_host false (codes "example%2Ecom") ≡ Some (Opaque (codes "example%2Ecom"))
  pub sharp_s : parse_host false (codes "fa" ++ 0xDF ∷ codes ".example") ≡ Some (Opaque (codes "fa%C3%9F.example"))
  pub number : parse_host false (codes "0x") ≡ Some (Opaque (codes "0x"))
  pub bracketed : parse_host false (codes "[0:0::1]") ≡ Some (V6 (0 ∷ 0 ∷ 0 ∷ 0 ∷ 0 ∷ 0 ∷ 0 ∷ 1 ∷ []))
  pub forbidden : parse_host false (codes "example^example") ≡ None
  pub no_escape : parse_host false (codes "u%4") ≡ None
  pub escaped_bracket : parse_host false (codes "[0:0::1%5D") ≡ None

-- all of these
abbrev pub HostParserRows : Type 0
HostParserRows = SpecialHostRows × SpecialHostFailures × OpaqueHostRows
