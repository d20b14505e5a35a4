-- The report against the record of the base's text.
use Rattle.std.proofs.Common.{◌∙◌, option_copied, sym, subst, true}
use Rattle.uv_resolve.specs.Base.{IsBase}
use Rattle.uv_cli.specs.Lint.{AreNamed}
use Rattle.uv_cli.proofs.LintLemmas.{linted_against}
use Rattle.uv_cli.proofs.lint.lint_files.Goals as goal

pub returns-in-Ok : goal.returns-in-Ok
returns-in-Ok g c =
    let asked = c.args.job.now in
    let base : IsBase asked.profile c.args.base (option_copied c.as_ref.result) =
    subst (λ url. IsBase asked.profile c.args.base url) (sym c.as_ref.ensures.value)
    (rw c.in-Ok.is at c.resolve_base.ensures) in
    let named : AreNamed c.args.name c.args.unit c.in-Some.format c.in-Some-columns_of.columns true = record {
      format_is = sym c.format_of.ensures ∙ c.in-Some.is;
      columns_are = sym c.columns_of.ensures ∙ c.in-Some-columns_of.is;
      takes_is = sym c.takes_columns.ensures ∙ c.if-not-takes_columns.false;
    } in
    linted_against asked c.args.base c.args.name c.args.unit (option_copied c.as_ref.result) c.in-Some.format
    c.in-Some-columns_of.columns c.lint_against.result _ _ _ _ base named c.lint_against.ensures
