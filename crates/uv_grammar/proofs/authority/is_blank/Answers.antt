-- A text is empty when it has no code point.
use Rattle.std.proofs.Common.{◌∙◌}
use Rattle.uv_grammar.proofs.HostLemmas.{empty_same}
use Rattle.uv_grammar.proofs.authority.is_blank.Goals as goal

pub returns : goal.returns
returns c = c.is_empty.ensures ∙ empty_same c.args.text.now c.utf8.text
