-- The law is the lemma.
use Rattle.uv_parser.proofs.Silence.ValidSilent.{valid_runs_silently}
use Rattle.uv_parser.proofs.silence_laws.valid_texts_run_silently.Goals as goal

pub returns : goal.returns
returns c = valid_runs_silently
