-- The test gives the same on the bytes and on the code points.
use Rattle.uv_grammar.proofs.TestLemmas.{digits-chars}
use Rattle.uv_grammar.proofs.marks.beginnings.are_digits.Goals as goal

pub returns : goal.returns
returns c = let same = digits-chars c.args.text.now c.utf8.text in cc
