-- The law is the lemma.
use Rattle.uv_parser.proofs.Counting.BoundTaken.{bound_is_taken}
use Rattle.uv_parser.proofs.step_counts.bound_is_taken.Goals as goal

pub returns : goal.returns
returns c = bound_is_taken
