-- What `check` says of the text.
use Rattle.std.specs.Prelude.{option_copied}
use Rattle.std.specs.Str.{chars}
use Rattle.uv_grammar.proofs.validity.is_valid.Goals as goal

pub returns-clause-answer : goal.returns-clause-answer
returns-clause-answer c =
    c.says_yes.ensures c.args.profile (option_copied c.args.base) (chars c.args.text.now) c.in_ok-check.ensures.answer
