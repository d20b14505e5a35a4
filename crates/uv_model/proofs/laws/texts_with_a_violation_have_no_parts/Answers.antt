-- A text with a violation has no valid parts.
use Rattle.uv_model.proofs.Violations.ViolationsExcludeParts.{faultless}
use Rattle.uv_model.proofs.laws.texts_with_a_violation_have_no_parts.Goals as goal

pub returns : goal.returns
returns c = faultless
