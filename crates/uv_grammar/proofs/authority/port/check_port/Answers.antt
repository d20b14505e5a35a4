-- A code point that isn't a digit is the least violation of the port.
use Rattle.std.specs.Str.{chars}
use Rattle.uv_grammar.proofs.PortLemmas.{port_least}
use Rattle.uv_grammar.proofs.authority.port.check_port.Goals as goal

pub returns-in-Some : goal.returns-in-Some
returns-in-Some c = port_least (chars c.args.text.now) c.in-Some.refusal c.in-Some.ensures.least
