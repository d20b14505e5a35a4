-- What `check_of_kind` says of the text.
use Rattle.std.specs.Prelude.{Some}
use Rattle.std.specs.Str.{chars}
use Rattle.uv_grammar.proofs.validity.is_valid_of_kind.Goals as goal

pub returns-clause-answer : goal.returns-clause-answer
returns-clause-answer c = λ url is.
    c.says_yes.ensures c.args.profile (Some url) (chars c.args.text.now) (c.in_ok-check_of_kind.ensures.answer url is)
