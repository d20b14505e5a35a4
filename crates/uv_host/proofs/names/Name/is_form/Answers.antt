-- What the name is by the kinds that are seen.
use Rattle.std.proofs.Common.{ap, ◌∙◌}
use Rattle.std.specs.List.{list_all}
use Rattle.uv_model.specs.declared.profile.Profile.TheVariants.{Parser, Standard, Wide}
use Rattle.uv_model.specs.Hosts.Domain.{is_form_code_point}
use Rattle.uv_host.proofs.NameKindsLemmas.{seen_parser_form, seen_standard_form, seen_wide_form}
use Rattle.uv_host.proofs.names.Name.is_form.Goals as goal

pub returns-in-Standard : goal.returns-in-Standard
returns-in-Standard c =
    rw c.in-Standard.is
    (seen_standard_form c.self.inside.bytes.now c.self.inside.seen c.self.invariant
    ∙ ap (list_all (is_form_code_point Standard)) c.self.view_is)

pub returns-in-Wide : goal.returns-in-Wide
returns-in-Wide c =
    rw c.in-Wide.is
    (seen_wide_form c.self.inside.bytes.now c.self.inside.seen c.self.invariant
    ∙ ap (list_all (is_form_code_point Wide)) c.self.view_is)

pub returns-in-Parser : goal.returns-in-Parser
returns-in-Parser c =
    rw c.in-Parser.is
    (seen_parser_form c.self.inside.bytes.now c.self.inside.seen c.self.invariant
    ∙ ap (list_all (is_form_code_point Parser)) c.self.view_is)
