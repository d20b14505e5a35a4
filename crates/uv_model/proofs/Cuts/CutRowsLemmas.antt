-- The rows of cuts and of violations, by computation.
use Rattle.std.proofs.Common.{refl}
use Rattle.uv_model.specs.Cut.{cut_of}
use Rattle.uv_model.specs.Laws.CutRows.{CutRows, ViolationRows, CutAndViolationRows}
use Rattle.uv_model.specs.Scheme.{scheme_class, default_port}
use Rattle.uv_model.specs.Units.{is_url_code_point}
use Rattle.uv_model.proofs.Deciding.DecidedViolations.{no_hosts, violates}

-- each cut
cut_rows : CutRows
unfolding cut_of scheme_class default_port
cut_rows = record {
  all_parts = refl;
  opaque_path = refl;
  first_colon = refl;
  open_bracket = refl;
  address = refl;
  file_authority = refl;
  no_base = refl;
  one_slash = refl;
  nothing = refl;
}

-- each violation
violation_rows : ViolationRows
unfolding cut_of scheme_class default_port is_url_code_point
violation_rows = record {
  no_scheme = violates no_hosts _ _ _ _ _ refl;
  no_scheme_nothing = violates no_hosts _ _ _ _ _ refl;
  no_scheme_path = violates no_hosts _ _ _ _ _ refl;
  more_than_fragment = violates no_hosts _ _ _ _ _ refl;
  no_fragment = violates no_hosts _ _ _ _ _ refl;
  no_slashes = violates no_hosts _ _ _ _ _ refl;
  one_slash = violates no_hosts _ _ _ _ _ refl;
  file_one_slash = violates no_hosts _ _ _ _ _ refl;
  special_host_missing = violates no_hosts _ _ _ _ _ refl;
  file_host_missing = violates no_hosts _ _ _ _ _ refl;
  other_host_missing = violates no_hosts _ _ _ _ _ refl;
  host_code_point = violates no_hosts _ _ _ _ _ refl;
  host_bracket = violates no_hosts _ _ _ _ _ refl;
  host_colon = violates no_hosts _ _ _ _ _ refl;
  port_digit = violates no_hosts _ _ _ _ _ refl;
  port_password = violates no_hosts _ _ _ _ _ refl;
  port_range = violates no_hosts _ _ _ _ _ refl;
  first_segment = violates no_hosts _ _ _ _ _ refl;
  file_first_segment = violates no_hosts _ _ _ _ _ refl;
  drive = violates no_hosts _ _ _ _ _ refl;
  localhost_drive = violates no_hosts _ _ _ _ _ refl;
  base_drive = violates no_hosts _ _ _ _ _ refl;
  path_percent = violates no_hosts _ _ _ _ _ refl;
  path_space = violates no_hosts _ _ _ _ _ refl;
  fragment_sign = violates no_hosts _ _ _ _ _ refl;
}

-- all rows
pub cut_and_violation_rows : CutAndViolationRows
cut_and_violation_rows = record { cuts = cut_rows; violations = violation_rows }
