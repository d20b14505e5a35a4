-- The rows of cuts and of violations.
use Rattle.uv_model.proofs.Cuts.CutRowsLemmas.{cut_and_violation_rows}
use Rattle.uv_model.proofs.laws.cut_and_violation_rows.Goals as goal

pub returns : goal.returns
returns c = cut_and_violation_rows
