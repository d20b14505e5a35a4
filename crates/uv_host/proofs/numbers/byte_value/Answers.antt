-- The number of a shortest form.
use Rattle.std.proofs.Common.{ap, sym, ◌∙◌}
use Rattle.uv_host.specs.ParserHosts.{is_shortest}
use Rattle.uv_host.proofs.NumberTextLemmas.{not_shortest, parsed_byte, unparsed_byte}
use Rattle.uv_host.proofs.numbers.byte_value.Goals as goal

pub returns-then-not-is_shortest : goal.returns-then-not-is_shortest
returns-then-not-is_shortest c =
    not_shortest c.args.text.now
    (ap is_shortest (sym c.as_bytes.ensures.value) ∙ sym c.is_shortest.ensures ∙ c.if-not-is_shortest.true)

pub returns-in-Ok : goal.returns-in-Ok
returns-in-Ok c =
    parsed_byte c.args.text.now c.in-Ok.number
    (ap is_shortest (sym c.as_bytes.ensures.value) ∙ sym c.is_shortest.ensures ∙ c.if-not-is_shortest.false)
    c.in-Ok.ensures.value.0

pub returns-in-Err : goal.returns-in-Err
returns-in-Err c = unparsed_byte c.args.text.now c.in-Err.ensures.value.0
