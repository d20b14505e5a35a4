-- The rows of located lines, by computation.
use Rattle.std.proofs.Common.{refl}
use Rattle.std.specs.Char.{encode_utf8}
use Rattle.std.specs.Str.{chars, is_utf8}
use Rattle.uv_lint.specs.Located.{run_of}
use Rattle.uv_lint.specs.LocatedRows.{LocatedFaultRows, LocatedRows}

-- which lines are of the form
pub located_rows : LocatedRows
unfolding run_of is_utf8 chars encode_utf8
located_rows = record {
  page = refl;
  colon = refl;
  drive = refl;
  first = refl;
  broken = refl;
  port = refl;
  zeros = refl;
  empty_link = refl;
  most = refl;
  no_line = refl;
  no_column = refl;
  no_link = refl;
  no_file = refl;
  line_0 = refl;
  column_0 = refl;
  line_above = refl;
  column_above = refl;
  sign = refl;
  no_utf8 = refl;
}

-- why others aren't
pub located_fault_rows : LocatedFaultRows
unfolding run_of
located_fault_rows = record {
  no_line = refl;
  port = refl;
  no_column = refl;
  short = refl;
  sign = refl;
  broken = refl;
  no_link = refl;
  no_file = refl;
  line_0 = refl;
  column_0 = refl;
  line_above = refl;
  column_above = refl;
}
