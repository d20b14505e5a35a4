-- The first code point that isn't a digit.
use Rattle.std.proofs.Common.{◌∙◌, sym}
use Rattle.std.specs.Str.{chars}
use Rattle.uv_grammar.proofs.PortLemmas.{digits_silent, foreign_least}
use Rattle.uv_grammar.proofs.authority.port.digit_fault.Goals as goal

pub returns-then-are_digits-clause-least : goal.returns-then-are_digits-clause-least
returns-then-are_digits-clause-least c =
    digits_silent (chars c.args.text.now) (sym c.are_digits.ensures ∙ c.if-are_digits.true)

pub returns-clause-least : goal.returns-clause-least
returns-clause-least c =
    rw c.digits_prefix.ensures
    (foreign_least (chars c.args.text.now) (sym c.are_digits.ensures ∙ c.if-are_digits.false))
