-- Each text with its escapes is an escaping of it.
use Rattle.uv_mend.proofs.EscapeLemmas.{escaped_escaping}
use Rattle.uv_mend.proofs.laws.escaped_texts_are_escapings.Goals as goal

pub returns : goal.returns
returns c = escaped_escaping
