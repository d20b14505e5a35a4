-- The text is its parts written out.
use Rattle.uv_grammar.proofs.VerdictLemmas.{parts_written}
use Rattle.uv_grammar.proofs.laws.parts_are_the_text.Goals as goal

pub returns : goal.returns
returns c = parts_written
