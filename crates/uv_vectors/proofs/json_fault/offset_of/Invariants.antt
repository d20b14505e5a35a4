-- No byte so far is at the place, and where the next one is.
use Rattle.std.proofs.Common.{◌≡◌, ◌≢◌, ◌+◌, ◌<◌, ◌≤◌, ℕ, take}
use Rattle.uv_vectors.specs.JsonFault.{byte_place_after}
use Rattle.uv_vectors.proofs.json_fault.offset_of.Given as goal

abbrev pub invariant-loop-at : goal.invariant-loop-at
invariant-loop-at l = record {
  here : l.here ≡ byte_place_after (take l.at l.bytes);
  none : (other : ℕ) → other < l.at → byte_place_after (take other l.bytes) ≢ l.place;
  line : l.here.line ≤ l.at + 1;
  column : l.here.column ≤ l.at + 1;
}
