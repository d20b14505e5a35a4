-- The law is the lemma.
use Rattle.uv_resolve.proofs.RunLemmas.{scheme_texts_run}
use Rattle.uv_resolve.proofs.laws.scheme_texts_run_silently.Goals as goal

pub returns : goal.returns
returns c = scheme_texts_run
