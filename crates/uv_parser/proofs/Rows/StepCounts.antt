-- The rows of specs/Rows/StepCounts hold, by computation.
use Rattle.std.specs.Prelude.{refl}
use Rattle.uv_parser.specs.Rows.StepCounts.{StepCountRows, step_count_rows}
use Rattle.uv_parser.proofs.Rows.Computing.{parser}
use Rattle.uv_parser.proofs.Rows.RowsLemmas.{all_hold}

-- each row, by computation
pub step_count_rows_hold : StepCountRows
unfolding parser
step_count_rows_hold = all_hold step_count_rows refl
