-- The rows of the host parser, by computation.
use Rattle.std.proofs.Common.{refl}
use Rattle.uv_parser.specs.Rows.HostParser.{SpecialHostRows, SpecialHostFailures, OpaqueHostRows, HostParserRows}
use Rattle.uv_parser.proofs.Rows.Computing.{parser}

-- hosts of special URLs
special_host_rows : SpecialHostRows
unfolding parser
special_host_rows = record {
  upper_case = refl;
  root = refl;
  underscore = refl;
  escaped_stop = refl;
  escaped_letter = refl;
  sharp_s = refl;
  address = refl;
  mapped_address = refl;
  three_numbers = refl;
  bracketed = refl;
}

-- texts on which the host parser of a special URL ends
special_host_failures : SpecialHostFailures
unfolding parser
special_host_failures = record {
  nothing_written = refl;
  nothing_left = refl;
  no_utf8 = refl;
  forbidden = refl;
  escaped_percent = refl;
  large_number = refl;
  last_number = refl;
  hexadecimal = refl;
  octal = refl;
  escaped_bracket = refl;
  escaped_digit = refl;
}

-- hosts of URLs that aren't special
opaque_host_rows : OpaqueHostRows
unfolding parser
opaque_host_rows = record {
  nothing_written = refl;
  upper_case = refl;
  escaped_stop = refl;
  sharp_s = refl;
  number = refl;
  bracketed = refl;
  forbidden = refl;
  no_escape = refl;
  escaped_bracket = refl;
}

-- all rows
pub host_parser_rows : HostParserRows
host_parser_rows = (special_host_rows, special_host_failures, opaque_host_rows)
