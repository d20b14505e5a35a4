-- The law is the lemma.
use Rattle.uv_parser.proofs.Differences.SilentDifferences.{silent_valid_or_differs}
use Rattle.uv_parser.proofs.silence_laws.silent_texts_are_valid_or_differ.Goals as goal

pub returns : goal.returns
returns c = silent_valid_or_differs
