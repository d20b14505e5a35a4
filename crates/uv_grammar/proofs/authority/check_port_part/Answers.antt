-- The check of a valid port.
use Rattle.std.proofs.Common.{◌∙◌, ap, sym}
use Rattle.std.specs.Str.{chars}
use Rattle.uv_model.specs.Cut.{Cut}
use Rattle.uv_grammar.specs.PartValues.{without_default}
use Rattle.uv_grammar.specs.Slices.{chars_of_option}
use Rattle.uv_model.specs.Setting.{Setting}
use Rattle.uv_grammar.proofs.PartLemmas.{valid_port}
use Rattle.uv_grammar.proofs.authority.check_port_part.Goals as goal

pub returns-in-Valid : goal.returns-in-Valid
returns-in-Valid c =
    valid_port c.args.setting.now c.args.cut.now (chars c.in-Some-Some.host_text.now)
    (chars c.in-Some-Some.port_text.now)
    c.in-Valid.number c.without_default.result
    (ap (λ (cut : Cut). cut.host_text) (sym c.cut.view_is) ∙ ap chars_of_option c.in-Some-Some.is-0)
    (ap (λ (cut : Cut). cut.port_text) (sym c.cut.view_is) ∙ ap chars_of_option c.in-Some-Some.is-1)
    c.in-Valid.ensures.0
    (c.without_default.ensures ∙ ap (λ d. without_default d c.in-Valid.number)
    (ap (λ (s : Setting). s.default_port) c.setting.view_is))
