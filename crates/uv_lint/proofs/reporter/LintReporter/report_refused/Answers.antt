-- The least violation of its text is found with the line.
use Rattle.std.proofs.Common.{[], ◌∷◌, chars, sym}
use Rattle.uv_rules.specs.declared.line_violation.LineViolation.TheVariants.{Refused}
use Rattle.uv_lint.proofs.LineViolationLemmas.{least_violation}
use Rattle.uv_lint.proofs.reporter.LintReporter.report_refused.Goals as goal

pub report_line-requires-clause-found : goal.report_line-requires-clause-found
report_line-requires-clause-found g c =
    c.requires.checked (Refused c.args.refusal ∷ [])
    (least_violation c.args.self.now.setting (chars c.args.checked.now) c.args.refusal (sym c.in-First.ensures)
    c.requires.refused)
