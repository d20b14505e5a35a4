-- The form of a text under the wide profile: what ToASCII gives with the lengths of a domain, and its code points.
use Rattle.std.proofs.Common.{chars, ◌≡◌, true, false, option_map, Some, sym, ap, ◌∙◌}
use Rattle.std.specs.Cow.{cow_str_bytes}
use Rattle.std.specs.List.{list_all}
use Rattle.idna.specs.declared.deny_list.TheConstants.AsciiDenyList.{EMPTY}
use Rattle.idna.specs.declared.options.Hyphens.TheVariants.{Allow}
use Rattle.uv_model.specs.declared.profile.Profile.TheVariants.{Wide}
use Rattle.uv_model.specs.Hosts.Domain.{is_form_code_point}
use Rattle.uv_model.proofs.Hosts.DomainLemmas.{IsForm-wide, no_letters}
use Rattle.uv_host.specs.FittingForms.{fitting_form}
use Rattle.uv_host.proofs.FittingFormLemmas.{fitting_parts, no_wide_form}
use Rattle.uv_host.proofs.domains.wide_form.Goals as goal

pub returns-in_default : goal.returns-in_default
returns-in_default c =
    no_wide_form (chars c.args.text.now) (sym c.in_ok-form.ensures ∙ ap (option_map cow_str_bytes) c.in_default.is)

pub returns-then-is_form : goal.returns-then-is_form
returns-then-is_form c =
    let text = chars c.args.text.now in
    let form = cow_str_bytes c.in-Some.form in
    let fits : fitting_form EMPTY Allow text ≡ Some form =
    sym c.in_ok-form.ensures ∙ ap (option_map cow_str_bytes) c.in-Some.is in
    let parts = fitting_parts EMPTY Allow text form fits in
    let bytes = c.of.ensures ∙ (c.as_bytes.ensures.value ∙ c.as_str.ensures.value) in
    let letters : list_all (is_form_code_point Wide) form ≡ true =
    ap (list_all (is_form_code_point Wide)) (sym bytes) ∙ (sym c.is_form.ensures ∙ c.if-is_form.true) in
    IsForm-wide text form c.requires parts.0 letters parts.1

pub returns : goal.returns
returns c =
    let text = chars c.args.text.now in
    let form = cow_str_bytes c.in-Some.form in
    let fits : fitting_form EMPTY Allow text ≡ Some form =
    sym c.in_ok-form.ensures ∙ ap (option_map cow_str_bytes) c.in-Some.is in
    let bytes = c.of.ensures ∙ (c.as_bytes.ensures.value ∙ c.as_str.ensures.value) in
    let wrong : list_all (is_form_code_point Wide) form ≡ false =
    ap (list_all (is_form_code_point Wide)) (sym bytes) ∙ (sym c.is_form.ensures ∙ c.if-is_form.false) in
    no_letters Wide text form tt (fitting_parts EMPTY Allow text form fits).0 wrong
