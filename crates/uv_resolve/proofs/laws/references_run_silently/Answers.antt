-- The law is the lemma.
use Rattle.uv_resolve.proofs.RunLemmas.{references_run}
use Rattle.uv_resolve.proofs.laws.references_run_silently.Goals as goal

pub returns : goal.returns
returns c = references_run
