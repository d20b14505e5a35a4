-- The law is the lemma.
use Rattle.uv_parser.proofs.Counting.RunsEnded.{runs_keep_their_end}
use Rattle.uv_parser.proofs.step_counts.runs_keep_their_end.Goals as goal

pub returns : goal.returns
returns c = runs_keep_their_end
