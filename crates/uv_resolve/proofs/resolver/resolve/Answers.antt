-- What is answered under the parser's profile is what the parser does.
use Rattle.std.proofs.Common.{Err, chars, option_copied}
use Rattle.uv_resolve.specs.declared.fault.ResolveFault.TheVariants.{Refused}
use Rattle.uv_resolve.proofs.RunLemmas.{answers_as_parser, denoted_resolves}
use Rattle.uv_resolve.proofs.resolver.resolve.Goals as goal

pub returns-in-Yes-clause-parser : goal.returns-in-Yes-clause-parser
returns-in-Yes-clause-parser c =
    answers_as_parser c.args.profile (option_copied c.args.base) (chars c.args.text.now) c.denoted.result
    c.parser_decides.ensures
    (denoted_resolves c.args.profile (option_copied c.args.base) (chars c.args.text.now) c.in-Yes.parts c.denoted.result
    (rw c.in-Yes.is at c.in_ok-verdict.ensures.answer).valid c.denoted.ensures)

pub returns-in-Yes-clause-resolved : goal.returns-in-Yes-clause-resolved
returns-in-Yes-clause-resolved c =
    denoted_resolves c.args.profile (option_copied c.args.base) (chars c.args.text.now) c.in-Yes.parts c.denoted.result
    (rw c.in-Yes.is at c.in_ok-verdict.ensures.answer).valid c.denoted.ensures

pub returns-clause-parser : goal.returns-clause-parser
returns-clause-parser c =
    answers_as_parser c.args.profile (option_copied c.args.base) (chars c.args.text.now)
    (Err (Refused c.in-No.refusal)) c.parser_decides.ensures (rw c.in-No.is at c.in_ok-verdict.ensures.answer)
