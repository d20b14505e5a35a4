-- A byte and a rest.
use Rattle.std.proofs.Common.{eqb-true}
use Rattle.uv_grammar.proofs.PlainPrefixLemmas.{first_byte}
use Rattle.uv_grammar.proofs.links.prefixes.begins_with.Goals as goal

pub returns-in-len1-up : goal.returns-in-len1-up
returns-in-len1-up c = λ is.
    first_byte c.args.mark c.args.bytes.now c.in-len1-up.len_at_least (eqb-true _ _ is)
