-- The check of an IPv6 text in brackets.
use Rattle.std.specs.Str.{chars}
use Rattle.uv_model.specs.declared.host.Host.TheVariants.{V6}
use Rattle.uv_model.specs.declared.rule.Rule.TheVariants.{HostIpv6}
use Rattle.uv_model.proofs.Hosts.ParserForms.{bracketed_not_stopped}
use Rattle.uv_grammar.specs.declared.parts_host.PartsHost.TheVariants.{Made}
use Rattle.uv_grammar.proofs.HostLemmas.{fault_least, text_answer}
use Rattle.uv_grammar.proofs.authority.host_text.check_bracketed_host.Goals as goal

pub returns-in-Some : goal.returns-in-Some
returns-in-Some c =
    let text = chars c.args.text.now in
    text_answer c.args.profile c.args.class c.args.last text (Made (V6 c.in-Some.pieces))
    (bracketed_not_stopped c.args.profile c.args.class c.args.last text c.in-Some.pieces c.in-Some.ensures)
    c.in-Some.ensures

pub returns-in-None : goal.returns-in-None
returns-in-None c =
    rw c.at_start.ensures
    (fault_least c.args.profile c.args.class c.args.last (chars c.args.text.now) HostIpv6
    (record { bracket = c.requires; no_value = c.in-None.ensures }))
