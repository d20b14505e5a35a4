-- The base is the one that is given.
use Rattle.std.proofs.Common.{subst}
use Rattle.std.specs.Prelude.{Option}
use Rattle.urlcheck_c.specs.declared.bases.Base.{Base}
use Rattle.urlcheck_c.specs.Answer.{IsAnswerTo}
use Rattle.urlcheck_c.proofs.checks.urlcheck_check.Goals as goal

pub returns : goal.returns
returns c =
    subst (λ (base : Option Base). IsAnswerTo c.args.profile base c.args.text.now c.answer_to.result)
    c.given_base.ensures c.answer_to.ensures.answer
