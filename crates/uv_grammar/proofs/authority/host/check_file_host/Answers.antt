-- The check of the host of a file URL.
use Rattle.std.specs.Str.{chars}
use Rattle.uv_grammar.proofs.HostLemmas.{file_answer}
use Rattle.uv_grammar.proofs.authority.host.check_file_host.Goals as goal

pub returns-in-Valid-clause-answer : goal.returns-in-Valid-clause-answer
returns-in-Valid-clause-answer c =
    file_answer c.args.profile c.args.last (chars c.args.text.now) c.in-Valid.host c.without_localhost.result
    (rw c.in-Valid.is at c.in_ok-host.ensures.answer).0 c.without_localhost.ensures

pub returns-in-Refused-clause-answer : goal.returns-in-Refused-clause-answer
returns-in-Refused-clause-answer c = rw c.in-Refused.is at c.in_ok-host.ensures.answer
