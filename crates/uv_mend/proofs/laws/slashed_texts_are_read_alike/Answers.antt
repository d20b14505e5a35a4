-- A slash mark is read as a slash, and new ones are read as those that was there.
use Rattle.uv_mend.proofs.ReadSlashed.{read_slashed}
use Rattle.uv_mend.proofs.laws.slashed_texts_are_read_alike.Goals as goal

pub returns : goal.returns
returns c = read_slashed
