-- A text that isn't empty.
use Rattle.uv_grammar.proofs.HostLemmas.{some_iff}
use Rattle.uv_grammar.proofs.start_rules.holds_any.Goals as goal

pub returns : goal.returns
returns c = some_iff c.args.text.now c.is_empty.result c.utf8.text c.is_empty.ensures
