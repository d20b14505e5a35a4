-- The check of the host of a special URL.
use Rattle.uv_grammar.proofs.authority.host.check_special_host.Goals as goal

pub returns-in-Valid-clause-answer : goal.returns-in-Valid-clause-answer
returns-in-Valid-clause-answer c = rw c.in-Valid.is at c.in_ok-host.ensures.answer

pub returns-in-Refused-clause-answer : goal.returns-in-Refused-clause-answer
returns-in-Refused-clause-answer c = rw c.in-Refused.is at c.in_ok-host.ensures.answer
