-- Digits are UTF-8.
use Rattle.uv_lint.proofs.LocatedLemmas.{digits_utf8}
use Rattle.uv_lint.proofs.located.value_of.Goals as goal

pub returns-in-Err : goal.returns-in-Err
returns-in-Err c = absurd (c.in-Err.ensures.cases.0 (digits_utf8 c.args.digits.now c.requires))
