-- Neither what was seen nor the byte has a bit.
use Rattle.std.proofs.Common.{◌==◌, ◌&&◌, ap, ◌∙◌}
use Rattle.uv_model.proofs.Texts.BitLemmas.{none_of_both}
use Rattle.uv_shown.proofs.escaping.printable.after_byte.Goals as goal

pub returns : goal.returns
returns c =
    none_of_both c.args.seen c.bit_of.result
    ∙ ap (λ printable. (c.args.seen == 0) && printable) c.bit_of.ensures
