-- A plain link is valid without a base.
use Rattle.std.specs.Prelude.{None}
use Rattle.uv_grammar.proofs.checker.check_alone.Goals as goal

pub returns-in-Some-plain_rest-clause-answer : goal.returns-in-Some-plain_rest-clause-answer
returns-in-Some-plain_rest-clause-answer c = c.plain_parts.ensures c.args.profile None
