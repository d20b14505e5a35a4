-- The lower case of an ASCII text that ToASCII leaves as it is.
use Rattle.std.proofs.Common.{◌≡◌, List, ℕ, ap, chars, subst, sym, ◌∙◌}
use Rattle.std.specs.Char.{is_ascii}
use Rattle.std.specs.List.{list_all}
use Rattle.std.specs.Str.{IsAscii}
use Rattle.std.specs.String.{string_bytes}
use Rattle.uv_model.specs.Scheme.{lowercase}
use Rattle.uv_host.specs.Domains.{HasFormByLengths, IsOwnForm}
use Rattle.uv_host.proofs.LowerLemmas.{lower_form}
use Rattle.uv_model.proofs.Texts.AsciiLemmas.{IsAscii-from_test}
use Rattle.uv_host.proofs.domains.lower_form.Goals as goal

pub returns-then-is_own_form : goal.returns-then-is_own_form
returns-then-is_own_form c =
    let text = c.args.text.now in
    let ascii : IsAscii text
    = IsAscii-from_test text (ap (list_all is_ascii) (sym c.requires.name)
    ∙ sym c.if-not-is_ascii.ensures) in
    let same : string_bytes c.in_ok-form.form ≡ lowercase text = c.in_ok-form.ensures.ok in
    subst (λ (form : List ℕ). HasFormByLengths c.args.profile (chars text) form) (sym same)
    (lower_form c.args.profile text c.utf8.text ascii c.requires.permitted
    (subst (λ (form : List ℕ). IsOwnForm c.args.profile form)
    (c.of.ensures ∙ (c.as_bytes.ensures.value ∙ (c.as_str.ensures.value ∙ same)))
    (c.is_own_form.ensures c.if-is_own_form.true)))
