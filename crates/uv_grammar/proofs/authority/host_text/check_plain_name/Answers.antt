-- A plain name is a valid domain, a number, or none.
use Rattle.std.specs.Str.{chars}
use Rattle.uv_model.specs.declared.rule.Rule.TheVariants.{HostDomain, HostNumber}
use Rattle.uv_model.proofs.Hosts.DomainLemmas.{IsAscii-form}
use Rattle.uv_grammar.specs.declared.parts_host.PartsHost.TheVariants.{Plain}
use Rattle.uv_grammar.proofs.HostLemmas.{name_answer, name_fault_least}
use Rattle.uv_grammar.proofs.authority.host_text.check_plain_name.Goals as goal

pub of-requires : goal.of-requires
of-requires c =
    IsAscii-form c.args.profile (chars c.args.text.now) c.args.text.now (rw c.in-Domain.is at c.requires.answer).0

pub returns-in-Domain : goal.returns-in-Domain
returns-in-Domain c =
    rw c.of.ensures
    (name_answer c.args.profile (chars c.args.text.now) (Plain c.args.text.now)
    (rw c.in-Domain.is at c.requires.answer))

pub returns-in-Number : goal.returns-in-Number
returns-in-Number c =
    rw c.at_start.ensures
    (name_fault_least c.args.profile (chars c.args.text.now) HostNumber
    (c.requires.text, rw c.in-Number.is at c.requires.answer))

pub returns-in-Not : goal.returns-in-Not
returns-in-Not c =
    rw c.at_start-in-Not.ensures
    (name_fault_least c.args.profile (chars c.args.text.now) HostDomain
    (c.requires.text, rw c.in-Not.is at c.requires.answer))
