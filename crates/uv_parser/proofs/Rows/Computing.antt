-- One name to unfold where a proof computes a run of the URL parser on a text that is written out.
use Rattle.std.specs.Str.{chars, is_utf8}
use Rattle.std.specs.Fmt.{digits}
use Rattle.std.specs.Net.Text.{hex, hex_groups_text}
use Rattle.percent_encoding.specs.Percent.{percent_decode, percent_encode_byte}
use Rattle.idna.proofs.Computing.{idna}
use Rattle.idna.specs.Uts46.{to_ascii}
use Rattle.uv_model.specs.Cut.{cut_of}
use Rattle.uv_model.specs.Records.Denote.{denote}
use Rattle.uv_model.specs.Hosts.Domain.{ends_in_number, has_permitted, parser_form}
use Rattle.uv_model.specs.Encoding.{encoded}
use Rattle.uv_parser.specs.HostParser.{parse_domain, parse_host}
use Rattle.uv_parser.specs.Ipv4Parser.{parse_ipv4, read_after, read_numbers}
use Rattle.uv_parser.specs.Ipv6Parser.{main_loop, move, parse_ipv6, read_digits, read_dotted, read_hex}
use Rattle.uv_model.specs.Parts.{written}
use Rattle.uv_model.specs.Path.{is_double_dot, is_single_dot, walk}
use Rattle.uv_parser.specs.Run.{run, run_from, step}
use Rattle.uv_model.specs.Removed.{first_removed}
use Rattle.uv_model.specs.Scheme.{default_port, scheme_class}
use Rattle.uv_model.specs.Records.Serialize.{serial, serial_host}
use Rattle.uv_model.specs.Units.{is_unit_at, is_url_code_point}

-- `unfolding parser` lets `refl` compute `run`, `serial` and `denote`, and the decisions on `Valid` and `Violation`
unfoldable pub parser : Unit {0}
unfolding idna chars is_utf8 digits hex hex_groups_text percent_decode percent_encode_byte denote ends_in_number
    parser_form encoded parse_domain parse_host parse_ipv4 read_after read_numbers main_loop move parse_ipv6
    read_digits read_dotted read_hex is_double_dot is_single_dot walk first_removed run run_from step default_port
    scheme_class serial serial_host is_unit_at is_url_code_point written cut_of has_permitted to_ascii
parser = tt
