-- The parts of a valid text are unique.
use Rattle.uv_model.proofs.Cuts.UniqueParts.{parts_are_unique}
use Rattle.uv_model.proofs.laws.parts_of_a_valid_text_are_unique.Goals as goal

pub returns : goal.returns
returns c = parts_are_unique
