-- The rows of specs/Rows/Special hold, by computation.
use Rattle.std.specs.Prelude.{refl}
use Rattle.uv_parser.specs.Rows.Special.{SpecialRows, scheme_rows, authority_rows, port_rows, path_rows, fault_rows}
use Rattle.uv_parser.proofs.Rows.Computing.{parser}
use Rattle.uv_parser.proofs.Rows.RowsLemmas.{all_hold}

-- the rows of class SpecialNotFile hold, each by computation
pub special_rows_hold : SpecialRows
unfolding parser
special_rows_hold = (
  all_hold scheme_rows refl,
  all_hold authority_rows refl,
  all_hold port_rows refl,
  all_hold path_rows refl,
  all_hold fault_rows refl,
)
