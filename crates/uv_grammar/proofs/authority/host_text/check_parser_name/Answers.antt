-- A plain domain is its own form, and any other text is checked by what the host parser makes of it.
use Rattle.std.proofs.Common.{chars}
use Rattle.std.proofs.lemmas.Bool.{false≢true}
use Rattle.uv_model.specs.declared.profile.Profile.TheVariants.{Parser}
use Rattle.uv_model.proofs.Hosts.DomainLemmas.{IsAscii-form, domain_no_number}
use Rattle.uv_grammar.specs.declared.parts_host.PartsHost.TheVariants.{Plain}
use Rattle.uv_grammar.proofs.HostLemmas.{name_answer}
use Rattle.uv_grammar.proofs.authority.host_text.check_parser_name.Goals as goal

pub of-requires : goal.of-requires
of-requires c =
    IsAscii-form Parser (chars c.args.text.now) c.args.text.now
    (rw c.in-Some-Domain.field-0-is at c.in-Some-Domain.ensures.answer).0

pub returns-in-Some-Domain-clause-answer : goal.returns-in-Some-Domain-clause-answer
returns-in-Some-Domain-clause-answer c =
    rw c.of.ensures
    (name_answer Parser (chars c.args.text.now) (Plain c.args.text.now)
    (rw c.in-Some-Domain.field-0-is at c.in-Some-Domain.ensures.answer))

pub returns-in-Some-Number-clause-memory : goal.returns-in-Some-Number-clause-memory
returns-in-Some-Number-clause-memory c = λ plain.
    absurd (domain_no_number Parser (chars c.args.text.now) (chars c.args.text.now) plain.1
    (rw c.in-Some-Number.field-0-is at c.in-Some-Number.ensures.answer))

pub returns-in-Some-Not-clause-memory : goal.returns-in-Some-Not-clause-memory
returns-in-Some-Not-clause-memory c =
    λ plain. absurd ((rw c.in-Some-Not.field-0-is at c.in-Some-Not.ensures.answer) (chars c.args.text.now) plain.1.0)

pub returns-in-None-clause-memory : goal.returns-in-None-clause-memory
returns-in-None-clause-memory c = λ plain. absurd (false≢true (c.in-None.ensures.plain plain.0))
