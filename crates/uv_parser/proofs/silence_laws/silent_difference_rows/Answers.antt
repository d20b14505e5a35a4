use Rattle.uv_parser.proofs.Rows.SilentDifferences.{silent_difference_rows_hold}
use Rattle.uv_parser.proofs.silence_laws.silent_difference_rows.Goals as goal

pub returns : goal.returns
returns c = silent_difference_rows_hold
