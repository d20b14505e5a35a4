-- The check of a port of only digits.
use Rattle.std.proofs.Common.{◌∙◌, sym}
use Rattle.std.specs.Str.{chars}
use Rattle.uv_grammar.proofs.HostLemmas.{no_chars}
use Rattle.uv_grammar.proofs.PortLemmas.{empty_port, large_least, parsed_port, port_silent, unparsed_port}
use Rattle.uv_grammar.proofs.authority.port.check_digits.Goals as goal

pub returns-then-is_empty : goal.returns-then-is_empty
returns-then-is_empty c =
    let fits = empty_port (chars c.args.text.now)
    (no_chars c.args.text.now (sym c.is_empty.ensures ∙ c.if-is_empty.true)) in
    (fits, port_silent (chars c.args.text.now) fits.0)

pub returns-in-Ok : goal.returns-in-Ok
returns-in-Ok c =
    let fits = parsed_port c.args.text.now c.in-Ok.number c.utf8.text c.requires (sym c.is_empty.ensures
    ∙ c.if-is_empty.false) (c.in-Ok.ensures.value.0) in
    (fits, port_silent (chars c.args.text.now) fits.0)

pub returns-in-Err : goal.returns-in-Err
returns-in-Err c =
    large_least (chars c.args.text.now)
    (unparsed_port c.args.text.now c.utf8.text c.requires (sym c.is_empty.ensures
    ∙ c.if-is_empty.false) (c.in-Err.ensures.value.0))
