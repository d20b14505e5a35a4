-- The verdict is that on the text, against each base of the kind where one is given.
use Rattle.urlcheck_c.proofs.BaseLemmas.{some_url}
use Rattle.urlcheck_c.proofs.checks.checked.Goals as goal

pub answer_of-requires : goal.answer_of-requires
answer_of-requires c =
    let url = some_url c.args.request.now.kind in
    (c.args.request.now.profile, url.0, c.verdict_on-verdict.ensures.verdict url.0 url.1)

pub returns-clause-answer : goal.returns-clause-answer
returns-clause-answer c = λ url is.
    c.answer_of.ensures.answer c.args.request.now.profile url (c.verdict_on-verdict.ensures.verdict url is)
    (c.verdict_on-verdict.ensures.memory url is)
