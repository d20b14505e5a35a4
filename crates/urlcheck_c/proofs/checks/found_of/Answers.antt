-- What was found is a part of the answer.
use Rattle.std.proofs.Common.{refl}
use Rattle.urlcheck_c.proofs.checks.found_of.Goals as goal

pub returns-clause-found : goal.returns-clause-found
returns-clause-found c = (c.answer_to.result, c.answer_to.ensures.answer, refl)
