-- The bytes of the text are seen.
use Rattle.std.proofs.Common.{◌∙◌, ap, sym}
use Rattle.std.specs.List.{list_all}
use Rattle.uv_resolve.specs.Kept.{is_never_encoded}
use Rattle.uv_resolve.proofs.kept.is_never_encoded.Goals as goal

pub returns : goal.returns
returns c = λ whole.
    ap (list_all is_never_encoded) (sym c.as_bytes.ensures.value) ∙ sym c.seen_in.ensures.encoded ∙ whole
