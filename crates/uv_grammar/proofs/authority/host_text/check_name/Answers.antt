-- Four numbers are an address under each profile, and any other text is checked under the profile.
use Rattle.std.proofs.Common.{chars, inl, inr}
use Rattle.uv_model.specs.declared.host.Host.TheVariants as host
use Rattle.uv_model.proofs.Hosts.ParserForms.{ipv4_by_profile}
use Rattle.uv_grammar.specs.declared.parts_host.PartsHost.TheVariants.{Made}
use Rattle.uv_grammar.proofs.HostLemmas.{name_answer, parser_plain_domain}
use Rattle.uv_grammar.proofs.authority.host_text.check_name.Goals as goal

pub returns-in-Some-clause-answer : goal.returns-in-Some-clause-answer
returns-in-Some-clause-answer c =
    name_answer c.args.profile (chars c.args.text.now) (Made (host.V4 c.in-Some.value))
    (ipv4_by_profile c.args.profile (chars c.args.text.now) c.in-Some.value c.in-Some.ensures)

pub check_written_name-requires : goal.check_written_name-requires
check_written_name-requires c = elim c.in-Standard.is [
  | inl standard ↦ rw standard (record {
    written = tt;
    text = record { some = c.requires.some; no_bracket = c.requires.plain; no_ipv4 = c.in_default.ensures };
  })
  | inr wide ↦ rw wide (record {
    written = tt;
    text = record { some = c.requires.some; no_bracket = c.requires.plain; no_ipv4 = c.in_default.ensures };
  })
]

pub returns-in-Parser-clause-answer : goal.returns-in-Parser-clause-answer
returns-in-Parser-clause-answer c = rw c.in-Parser.is c.check_parser_name.ensures.answer

pub returns-in-Parser-clause-memory : goal.returns-in-Parser-clause-memory
returns-in-Parser-clause-memory c = λ h.
    c.check_parser_name.ensures.memory
    (parser_plain_domain (chars c.args.text.now) c.requires.plain c.in_default.ensures (rw c.in-Parser.is at h))
