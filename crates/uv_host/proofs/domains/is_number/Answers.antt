-- The number rule of an ASCII text, whose bytes are its code points.
use Rattle.std.proofs.Common.{ap, sym, ◌∙◌}
use Rattle.std.proofs.lemmas.Str.{chars-IsAscii}
use Rattle.uv_model.specs.Hosts.Domain.{ends_in_number}
use Rattle.uv_host.proofs.domains.is_number.Goals as goal

pub returns-then-ends_in_word : goal.returns-then-ends_in_word
returns-then-ends_in_word c =
    sym (ap ends_in_number (sym c.as_bytes.ensures.value) ∙ c.ends_in_word.ensures c.if-ends_in_word.true)

pub returns : goal.returns
returns c = c.ends_in_number.ensures ∙ ap ends_in_number (chars-IsAscii c.args.form.now c.requires)
