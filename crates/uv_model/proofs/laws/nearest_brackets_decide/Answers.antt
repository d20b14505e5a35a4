-- The law of brackets.
use Rattle.uv_model.proofs.Cuts.BracketLemmas as lemma
use Rattle.uv_model.proofs.laws.nearest_brackets_decide.Goals as goal

pub returns : goal.returns
returns c = lemma.nearest_brackets_decide
