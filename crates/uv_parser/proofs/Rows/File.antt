-- The rows of specs/Rows/File hold, by computation.
use Rattle.std.specs.Prelude.{refl}
use Rattle.uv_parser.specs.Rows.File.{FileRows, host_rows, drive_rows}
use Rattle.uv_parser.proofs.Rows.Computing.{parser}
use Rattle.uv_parser.proofs.Rows.RowsLemmas.{all_hold}

-- the rows of class File hold, each by computation
pub file_rows_hold : FileRows
unfolding parser
file_rows_hold = (
  all_hold host_rows refl,
  all_hold drive_rows refl,
)
