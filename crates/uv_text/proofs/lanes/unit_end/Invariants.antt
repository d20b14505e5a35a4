-- The bytes so far are passed, and how many of the next 32 begin units is known.
use Rattle.std.proofs.Common.{◌≡◌, ◌+◌, ◌-◌, ◌≤◌, length, drop, take}
use Rattle.uv_text.specs.Rows.{is_in_rows}
use Rattle.uv_text.specs.Splits.{ascii_unit_length}
use Rattle.uv_text.proofs.lanes.unit_end.Given as goal

abbrev pub invariant-loop-run : goal.invariant-loop-run
invariant-loop-run l = record {
  in_bounds : l.end ≤ length l.bytes;
  passed : l.place + ascii_unit_length (is_in_rows l.rows) (drop l.place l.bytes)
      ≡ l.end + ascii_unit_length (is_in_rows l.rows) (drop l.end l.bytes);
  prefix : l.run ≡ ascii_unit_length (is_in_rows l.rows) (take 32 (drop l.end l.bytes));
}

abbrev pub decreases-loop-run : goal.decreases-loop-run
decreases-loop-run l = length l.bytes - l.end
