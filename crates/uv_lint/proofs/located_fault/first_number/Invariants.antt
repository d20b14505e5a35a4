-- No whole number is before the place.
use Rattle.std.proofs.Common.{◌≡◌, drop}
use Rattle.uv_lint.specs.LocatedFault.{first_number}
use Rattle.uv_lint.proofs.located_fault.first_number.Given as goal

abbrev pub invariant-loop-place : goal.invariant-loop-place
invariant-loop-place l = first_number l.line ≡ first_number (drop l.place l.line)
