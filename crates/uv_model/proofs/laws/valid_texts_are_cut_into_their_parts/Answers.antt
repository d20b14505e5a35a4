-- The cut of a valid text has its parts.
use Rattle.uv_model.proofs.Cuts.ValidCutLemmas.{valid_is_cut}
use Rattle.uv_model.proofs.laws.valid_texts_are_cut_into_their_parts.Goals as goal

pub returns : goal.returns
returns c = valid_is_cut
