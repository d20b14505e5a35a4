-- Units and texts without a fault are the same.
use Rattle.uv_model.proofs.Texts.UnitsLemmas.{is_faultless-units, IsUnits-faultless}
use Rattle.uv_model.proofs.laws.units_are_faultless.Goals as goal

pub returns : goal.returns
returns c = λ text. (is_faultless-units text, IsUnits-faultless text)
