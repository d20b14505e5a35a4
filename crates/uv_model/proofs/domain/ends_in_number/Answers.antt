-- The number rule of a text by its bytes.
use Rattle.std.proofs.Common.{chars, ap, sym, ◌∙◌}
use Rattle.std.proofs.lemmas.Str.{encodes-chars}
use Rattle.uv_model.specs.Hosts.Domain.{ends_in_number}
use Rattle.uv_model.proofs.Hosts.LastLabelLemmas.{ends_in_number-encoded}
use Rattle.uv_model.proofs.domain.ends_in_number.Goals as goal

pub returns : goal.returns
returns c =
    let shown = c.as_bytes.ensures.value ∙ sym (encodes-chars c.args.text.now c.utf8.text) in
    c.bytes_end_in_number.ensures ∙ ap ends_in_number shown
    ∙ ends_in_number-encoded (chars c.args.text.now)
