-- The first `:` with no `[` before it, and where the search finds no `:`, no port.
use Rattle.uv_grammar.proofs.AuthorityLemmas.{first_port, no_port}
use Rattle.uv_grammar.proofs.cut.port_mark.Goals as goal

pub returns-in-None-first_mark : goal.returns-in-None-first_mark
returns-in-None-first_mark c =
    first_port c.args.bytes.now c.in-Some.end c.in-Some.ensures c.in-None-first_mark.ensures

pub returns-in-None : goal.returns-in-None
returns-in-None c = no_port c.args.bytes.now c.in-None.ensures
