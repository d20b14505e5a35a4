-- The rows of specs/Rows/References hold, by computation.
use Rattle.std.specs.Prelude.{refl}
use Rattle.uv_parser.specs.Rows.References.{ReferenceRows, http_rows, root_rows, drive_rows, file_host_rows}
use Rattle.uv_parser.specs.Rows.References.{opaque_rows, other_rows}
use Rattle.uv_parser.proofs.Rows.Computing.{parser}
use Rattle.uv_parser.proofs.Rows.RowsLemmas.{all_hold}

-- the rows of references hold, each by computation
pub reference_rows_hold : ReferenceRows
unfolding parser
reference_rows_hold = (
  all_hold http_rows refl,
  all_hold root_rows refl,
  all_hold drive_rows refl,
  all_hold file_host_rows refl,
  all_hold opaque_rows refl,
  all_hold other_rows refl,
)
