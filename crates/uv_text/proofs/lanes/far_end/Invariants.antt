-- The bytes so far are passed.
use Rattle.std.proofs.Common.{◌≡◌, ◌+◌, ◌-◌, ◌≤◌, length, drop}
use Rattle.std.specs.List.{prefix_len}
use Rattle.uv_text.specs.Rows.{is_in_rows}
use Rattle.uv_text.proofs.lanes.far_end.Given as goal

abbrev pub invariant-loop-end : goal.invariant-loop-end
invariant-loop-end l = record {
  in_bounds : l.end ≤ length l.bytes;
  passed : l.place + prefix_len (is_in_rows l.rows) (drop l.place l.bytes)
      ≡ l.end + prefix_len (is_in_rows l.rows) (drop l.end l.bytes);
}

abbrev pub decreases-loop-end : goal.decreases-loop-end
decreases-loop-end l = length l.bytes - l.end
