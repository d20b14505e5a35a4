-- The rows of specs/Rows/Other hold, by computation.
use Rattle.std.specs.Prelude.{refl}
use Rattle.uv_parser.specs.Rows.Other.{OtherRows, authority_rows, path_rows}
use Rattle.uv_parser.proofs.Rows.Computing.{parser}
use Rattle.uv_parser.proofs.Rows.RowsLemmas.{all_hold}

-- the rows of class Other hold, each by computation
pub other_rows_hold : OtherRows
unfolding parser
other_rows_hold = (
  all_hold authority_rows refl,
  all_hold path_rows refl,
)
