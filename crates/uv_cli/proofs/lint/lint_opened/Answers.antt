-- The file that was opened.
use Rattle.std.proofs.Common.{inl}
use Rattle.uv_cli.proofs.LintLemmas.{lints_source}
use Rattle.uv_cli.proofs.lint.lint_opened.Goals as goal

pub returns-in-Ok : goal.returns-in-Ok
returns-in-Ok g c =
    inl (
      _,
      _,
      lints_source _ c.args.is_first c.run_lint-answer.result.0 c.run_lint-answer.result.1 _ _ _ _ _ _ _ _
          c.run_lint-answer.ensures.report c.run_lint-answer.ensures.fault c.run_lint-answer.ensures.failed
          c.run_lint-answer.ensures.quiet,
    )
