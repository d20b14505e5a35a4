-- The test gives the same on the bytes and on the code points.
use Rattle.uv_grammar.proofs.TestLemmas.{starts_with_number_sign-chars}
use Rattle.uv_grammar.proofs.marks.beginnings.has_number_sign.Goals as goal

pub returns : goal.returns
returns c = let same = starts_with_number_sign-chars c.args.text.now c.utf8.text in cc
