-- The cut of the whole as a tail.
use Rattle.uv_text.proofs.splits.split_units.Goals as goal

pub returns : goal.returns
returns c = rw c.as_str.ensures (rw c.of.ensures at c.split_tail-rest.ensures)
