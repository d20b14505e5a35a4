-- Each row, by computation.
use Rattle.uv_parser.proofs.Rows.StepCounts.{step_count_rows_hold}
use Rattle.uv_parser.proofs.step_counts.step_count_rows.Goals as goal

pub returns : goal.returns
returns c = step_count_rows_hold
