-- A segment before this byte began as a dot segment does, or none did.
use Rattle.std.proofs.Common.{◌≡◌, ◌≤◌, ◌-◌, ◌==◌, ◌&&◌, drop, false, not, slice_index_or}
use Rattle.uv_model.specs.Ascii.{slash}
use Rattle.uv_resolve.specs.Kept.{has_no_dots}
use Rattle.uv_resolve.proofs.kept.is_window_without_dots.Given as goal

abbrev pub invariant-loop-at : goal.invariant-loop-at
invariant-loop-at l = (1 ≤ l.at) × ((not l.has_dots
    && has_no_dots (slice_index_or l.path (l.at - 1) 0 == slash) (drop l.at l.path)) ≡ has_no_dots false l.fn.path)
