-- What is passed over is taken off both texts.
use Rattle.uv_mend.proofs.ReadStripped.{read_stripped}
use Rattle.uv_mend.proofs.laws.stripped_texts_are_read_alike.Goals as goal

pub returns : goal.returns
returns c = read_stripped
