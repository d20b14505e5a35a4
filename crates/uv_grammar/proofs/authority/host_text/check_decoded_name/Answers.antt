-- What the host parser makes of a text is its value, or says which rule it violates.
use Rattle.std.proofs.Common.{chars}
use Rattle.std.specs.String.{string_bytes}
use Rattle.uv_model.specs.declared.host.Host.TheVariants as host
use Rattle.uv_model.specs.declared.profile.Profile.TheVariants.{Parser}
use Rattle.uv_model.specs.declared.rule.Rule.TheVariants.{HostDomain, HostNumber}
use Rattle.uv_model.proofs.Hosts.DomainLemmas.{IsAscii-form}
use Rattle.uv_grammar.specs.declared.parts_host.PartsHost.TheVariants.{Made}
use Rattle.uv_grammar.proofs.HostLemmas.{name_answer, name_fault_least, number_violation, parser_no_form}
use Rattle.uv_grammar.proofs.authority.host_text.check_decoded_name.Goals as goal

pub of-requires : goal.of-requires
of-requires c =
    IsAscii-form Parser (chars c.args.text.now) (string_bytes c.in-Domain.form)
    (rw c.in-Domain.is at c.in_ok-form.ensures).0

pub returns-in-Domain : goal.returns-in-Domain
returns-in-Domain c =
    rw c.of.ensures
    (name_answer Parser (chars c.args.text.now) (Made (host.Domain (string_bytes c.in-Domain.form)))
    (rw c.in-Domain.is at c.in_ok-form.ensures))

pub returns-in-Address : goal.returns-in-Address
returns-in-Address c =
    name_answer Parser (chars c.args.text.now) (Made (host.V4 c.in-Address.value))
    (rw c.in-Address.is at c.in_ok-form.ensures)

pub returns-in-Number : goal.returns-in-Number
returns-in-Number c =
    rw c.at_start.ensures
    (name_fault_least Parser (chars c.args.text.now) HostNumber
    (number_violation (chars c.args.text.now) c.requires.some c.requires.plain
    (rw c.in-Number.is at c.in_ok-form.ensures)))

pub returns-in-Not : goal.returns-in-Not
returns-in-Not c =
    rw c.at_start-in-Not.ensures
    (name_fault_least Parser (chars c.args.text.now) HostDomain
    (parser_no_form (chars c.args.text.now) c.requires.some c.requires.plain
    (rw c.in-Not.is at c.in_ok-form.ensures)))
