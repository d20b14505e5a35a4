-- Every text has exactly one cut.
use Rattle.uv_model.proofs.Cuts.CutLemmas.{one_cut}
use Rattle.uv_model.proofs.laws.every_text_has_one_cut.Goals as goal

pub returns : goal.returns
returns c = one_cut
