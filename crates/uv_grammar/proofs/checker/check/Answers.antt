-- A plain link is valid against any base.
use Rattle.std.specs.Prelude.{option_copied}
use Rattle.uv_grammar.proofs.checker.check.Goals as goal

pub returns-in-Some-plain_rest-clause-answer : goal.returns-in-Some-plain_rest-clause-answer
returns-in-Some-plain_rest-clause-answer c = c.plain_parts.ensures c.args.profile (option_copied c.args.base)
