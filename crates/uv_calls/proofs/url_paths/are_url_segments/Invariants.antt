-- What is left of the list is segments exactly when the list is.
use Rattle.std.proofs.Common.{length}
use Rattle.uv_model.specs.Records.WellFormed.{AreUrlSegments}
use Rattle.uv_calls.proofs.url_paths.are_url_segments.Given as goal

abbrev pub invariant-loop-segment : goal.invariant-loop-segment
invariant-loop-segment l =
    (AreUrlSegments l.fn.segments → AreUrlSegments l.left) × (AreUrlSegments l.left → AreUrlSegments l.fn.segments)

abbrev pub decreases-loop-segment : goal.decreases-loop-segment
decreases-loop-segment l = length l.left
