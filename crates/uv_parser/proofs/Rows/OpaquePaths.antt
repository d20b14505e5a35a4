-- The rows of specs/Rows/OpaquePaths hold, by computation.
use Rattle.std.specs.Prelude.{refl}
use Rattle.uv_parser.specs.Rows.OpaquePaths.{OpaquePathRows, opaque_rows, space_rows, unit_rows, removed_rows}
use Rattle.uv_parser.proofs.Rows.Computing.{parser}
use Rattle.uv_parser.proofs.Rows.RowsLemmas.{all_hold}

-- the rows of opaque paths hold, each by computation
pub opaque_path_rows_hold : OpaquePathRows
unfolding parser
opaque_path_rows_hold = (
  all_hold opaque_rows refl,
  all_hold space_rows refl,
  all_hold unit_rows refl,
  all_hold removed_rows refl,
)
