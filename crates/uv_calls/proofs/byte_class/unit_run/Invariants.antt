-- The bytes so far are in the class.
use Rattle.std.proofs.Common.{◌≡◌, ◌+◌, ◌-◌, ◌≤◌, length, drop}
use Rattle.std.specs.List.{prefix_len}
use Rattle.uv_calls.specs.ByteClass.{in_class}
use Rattle.uv_calls.proofs.byte_class.unit_run.Given as goal

abbrev pub invariant-loop-run : goal.invariant-loop-run
invariant-loop-run l = record {
  in_bounds : l.run ≤ length l.bytes;
  so_far : prefix_len (in_class l.class) l.bytes ≡ l.run + prefix_len (in_class l.class) (drop l.run l.bytes);
}

abbrev pub decreases-loop-run : goal.decreases-loop-run
decreases-loop-run l = length l.bytes - l.run
