-- A part encodes a byte before this one, or what is left decides.
use Rattle.std.proofs.Common.{◌≡◌, ◌&&◌, drop, not}
use Rattle.std.specs.List.{list_all}
use Rattle.uv_resolve.specs.Kept.{is_never_encoded}
use Rattle.uv_resolve.proofs.kept.is_window_never_encoded.Given as goal

abbrev pub invariant-loop-at : goal.invariant-loop-at
invariant-loop-at l =
    (not l.is_encoded && list_all is_never_encoded (drop l.at l.part)) ≡ list_all is_never_encoded l.fn.part
