-- The text without them was written.
use Rattle.uv_mend.proofs.TextLemmas.{begun, written}
use Rattle.uv_mend.proofs.stripped.on_one_line.Goals as goal

pub returns : goal.returns
returns c =
    written c.push_on_one_line.new.out _ (begun _ _ _ c.in_ok-out.ensures.bytes c.in_ok-push_on_one_line.ensures)
