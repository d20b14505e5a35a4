-- What the search finds is the first mark.
use Rattle.uv_grammar.proofs.SearchLemmas.{first_mark_found}
use Rattle.uv_grammar.proofs.marks.search.first_mark.Goals as goal

pub returns : goal.returns
returns c = first_mark_found c.args.mark c.args.bytes.now c.first_byte.result c.first_byte.ensures
