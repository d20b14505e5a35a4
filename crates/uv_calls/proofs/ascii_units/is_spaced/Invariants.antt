-- What is left of the text has a fault exactly when the text has one.
use Rattle.std.proofs.Common.{◌≡◌, length}
use Rattle.uv_model.specs.Path.{is_spaced}
use Rattle.uv_calls.proofs.ascii_units.is_spaced.Given as goal

abbrev pub invariant-loop-left : goal.invariant-loop-left
invariant-loop-left l = is_spaced l.fn.text ≡ is_spaced l.left

abbrev pub decreases-loop-left : goal.decreases-loop-left
decreases-loop-left l = length l.left
