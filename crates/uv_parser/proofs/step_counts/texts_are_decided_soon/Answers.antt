-- The law is the lemma.
use Rattle.uv_parser.proofs.Counting.DecidedSoon.{texts_are_decided_soon}
use Rattle.uv_parser.proofs.step_counts.texts_are_decided_soon.Goals as goal

pub returns : goal.returns
returns c = texts_are_decided_soon
