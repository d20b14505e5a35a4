-- The path of a text with an opaque one.
use Rattle.std.proofs.Common.{◌≡◌, IfOk, ap, chars, option_copied, subst, sym, ◌∙◌}
use Rattle.uv_grammar.specs.Form.{seen_form}
use Rattle.uv_model.specs.declared.path.UrlPath.{UrlPath}
use Rattle.uv_model.specs.declared.path.UrlPath.TheVariants.{Opaque}
use Rattle.uv_model.specs.Encoding.{encoded}
use Rattle.uv_model.specs.Records.Denote.{end_escaped, has_tail}
use Rattle.std.proofs.Common.{false}
use Rattle.uv_resolve.proofs.RecordLemmas.{opaque_path_denoted}
use Rattle.uv_resolve.proofs.paths.made_path.Goals as goal

pub returns-in-SchemeOpaque : goal.returns-in-SchemeOpaque
returns-in-SchemeOpaque c =
    let parts = c.args.parts.now in
    subst (λ (path : UrlPath). IfOk c.opaque_path.result (λ p. p ≡ path))
    (ap (λ followed. Opaque (encoded false (end_escaped followed (chars c.path_text.result.now)))) c.has_tail.ensures
    ∙ ap (λ text. Opaque (encoded false (end_escaped (has_tail parts) text))) c.path_text.ensures
    ∙ opaque_path_denoted (option_copied c.args.base) c.args.class parts
    (sym c.form.ensures ∙ ap seen_form c.in-SchemeOpaque.is))
    c.opaque_path.ensures
