-- The law is the lemma.
use Rattle.uv_parser.proofs.Done.DecidedBases.{texts_are_decided}
use Rattle.uv_parser.proofs.laws.texts_are_decided.Goals as goal

pub returns : goal.returns
returns c = texts_are_decided
