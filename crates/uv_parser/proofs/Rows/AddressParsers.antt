-- The rows of the IPv4 and IPv6 parsers, by computation.
use Rattle.std.proofs.Common.{refl}
use Rattle.uv_parser.specs.Rows.AddressParsers.{Ipv4Rows, Ipv6Rows, Ipv6Failures, AddressParserRows}
use Rattle.uv_parser.proofs.Rows.Computing.{parser}

-- IPv4 texts, and texts that stop the parser
ipv4_rows : Ipv4Rows
unfolding parser
ipv4_rows = record {
  zeros = refl;
  largest = refl;
  private = refl;
  empty = refl;
  three_numbers = refl;
  two_numbers = refl;
  one_number = refl;
  five_numbers = refl;
  empty_part = refl;
  octal = refl;
  hexadecimal = refl;
  last_256 = refl;
  leading_zero = refl;
  root_dot = refl;
  octet_256 = refl;
}

-- IPv6 texts
ipv6_rows : Ipv6Rows
unfolding parser
ipv6_rows = record {
  nothing_written = refl;
  both_ends = refl;
  dotted_end = refl;
  dotted_whole = refl;
  one_zero = refl;
  mapped = refl;
}

-- texts on which the IPv6 parser fails
ipv6_failures : Ipv6Failures
unfolding parser
ipv6_failures = record {
  twice_compressed = refl;
  empty = refl;
  colon_before = refl;
  colon_after = refl;
  three_colons = refl;
  five_digits = refl;
  dotted_first = refl;
  dotted_middle = refl;
  leading_zero = refl;
  octet_256 = refl;
  nine_pieces = refl;
  no_group_after = refl;
  no_group_between = refl;
}

-- all rows
pub address_parser_rows : AddressParserRows
address_parser_rows = (ipv4_rows, ipv6_rows, ipv6_failures)
