-- A text with a scheme is checked without looking at the base.
use Rattle.uv_model.proofs.Cuts.SchemesIgnoreBases.{ignores_the_base}
use Rattle.uv_model.proofs.laws.texts_with_a_scheme_ignore_the_base.Goals as goal

pub returns : goal.returns
returns c = ignores_the_base
