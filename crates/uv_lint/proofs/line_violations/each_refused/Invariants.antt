-- The violations so far, and the violations of the refusals that are left.
use Rattle.std.proofs.Common.{◌≡◌, ◌++◌, drop, map}
use Rattle.uv_rules.specs.declared.line_violation.LineViolation.TheVariants.{Refused}
use Rattle.uv_lint.proofs.line_violations.each_refused.Given as goal

abbrev pub invariant-loop-refusal : goal.invariant-loop-refusal
invariant-loop-refusal l =
    l.violations.items ++ map Refused (drop l.refusal-index l.refusals) ≡ map Refused l.refusals
