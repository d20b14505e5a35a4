-- What the IPv4 and IPv6 parsers (URL Standard, section 3.5) make of texts that are written out.
use Rattle.std.specs.Prelude.{◌≡◌, [], ◌∷◌, codes, Some, None}
use Rattle.uv_parser.specs.Ipv4Parser.{parse_ipv4}
use Rattle.uv_parser.specs.Ipv6Parser.{parse_ipv6}

-- one to four numbers with their value, and texts that stop the IPv4 parser
pub record Ipv4Rows : Type 0 where
  pub zeros : parse_ipv4 (codes "0.0.0.0") ≡ Some 0
  pub largest : parse_ipv4 (codes "255.255.255.255") ≡ Some 4294967295
  pub private : parse_ipv4 (codes "192.168.0.1") ≡ Some 3232235521
  pub empty : parse_ipv4 [] ≡ None
  pub three_numbers : parse_ipv4 (codes "1.2.3") ≡ Some 0x01020003
  pub two_numbers : parse_ipv4 (codes "1.2") ≡ Some 0x01000002
  pub one_number : parse_ipv4 (codes "1") ≡ Some 1
  pub five_numbers : parse_ipv4 (codes "1.2.3.4.5") ≡ None
  pub empty_part : parse_ipv4 (codes "1..2") ≡ None
  pub octal : parse_ipv4 (codes "01") ≡ None
  pub hexadecimal : parse_ipv4 (codes "0x1") ≡ None
  pub last_256 : parse_ipv4 (codes "1.256") ≡ None
  pub leading_zero : parse_ipv4 (codes "01.2.3.4") ≡ None
  pub root_dot : parse_ipv4 (codes "1.2.3.4.") ≡ None
  pub octet_256 : parse_ipv4 (codes "256.0.0.1") ≡ None

-- IPv6 texts with their pieces
pub record Ipv6Rows : Type 0 where
  pub nothing_written : parse_ipv6 (codes "::") ≡ Some (0 ∷ 0 ∷ 0 ∷ 0 ∷ 0 ∷ 0 ∷ 0 ∷ 0 ∷ [])
  pub both_ends : parse_ipv6 (codes "1::8") ≡ Some (1 ∷ 0 ∷ 0 ∷ 0 ∷ 0 ∷ 0 ∷ 0 ∷ 8 ∷ [])
  pub dotted_end : parse_ipv6 (codes "1::1.2.3.4") ≡ Some (1 ∷ 0 ∷ 0 ∷ 0 ∷ 0 ∷ 0 ∷ 258 ∷ 772 ∷ [])
  pub dotted_whole : parse_ipv6 (codes "1:2:3:4:5:6:1.2.3.4") ≡ Some (1 ∷ 2 ∷ 3 ∷ 4 ∷ 5 ∷ 6 ∷ 258 ∷ 772 ∷ [])
  pub one_zero : parse_ipv6 (codes "::2:3:4:5:6:7:8") ≡ Some (0 ∷ 2 ∷ 3 ∷ 4 ∷ 5 ∷ 6 ∷ 7 ∷ 8 ∷ [])
  pub mapped : parse_ipv6 (codes "::ffff:1.2.3.4") ≡ Some (0 ∷ 0 ∷ 0 ∷ 0 ∷ 0 ∷ 0xffff ∷ 0x102 ∷ 0x304 ∷ [])

-- texts on which the IPv6 parser fails
pub record Ipv6Failures : Type 0 where
  pub twice_compressed : parse_ipv6 (codes "1::2::3") ≡ None
  pub empty : parse_ipv6 [] ≡ None
  pub colon_before : parse_ipv6 (codes ":1") ≡ None
  pub colon_after : parse_ipv6 (codes "1:") ≡ None
  pub three_colons : parse_ipv6 (codes ":::") ≡ None
  pub five_digits : parse_ipv6 (codes "12345::") ≡ None
  pub dotted_first : parse_ipv6 (codes "1.2.3.4::") ≡ None
  pub dotted_middle : parse_ipv6 (codes "1:1.2.3.4:5:6:7:8") ≡ None
  pub leading_zero : parse_ipv6 (codes "::1.2.3.04") ≡ None
  pub octet_256 : parse_ipv6 (codes "::1.2.3.256") ≡ None
  pub nine_pieces : parse_ipv6 (codes "1:2:3:4:5:6:7:1.2.3.4") ≡ None
  pub no_group_after : parse_ipv6 (codes "1:2:3:4:5:6:7:8::") ≡ None
  pub no_group_between : parse_ipv6 (codes "1:2:3:4::5:6:7:8") ≡ None

-- all of these
abbrev pub AddressParserRows : Type 0
AddressParserRows = Ipv4Rows × Ipv6Rows × Ipv6Failures
