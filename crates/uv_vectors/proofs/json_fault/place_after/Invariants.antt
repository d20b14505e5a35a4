-- The place after the bytes so far.
use Rattle.std.proofs.Common.{◌≡◌, ◌+◌, ◌≤◌, take}
use Rattle.uv_vectors.specs.JsonFault.{place_after}
use Rattle.uv_vectors.proofs.json_fault.place_after.Given as goal

abbrev pub invariant-loop-byte : goal.invariant-loop-byte
invariant-loop-byte l = record {
  after : l.place ≡ place_after (take l.byte-index l.bytes);
  line : l.place.line ≤ l.byte-index + 1;
  column : l.place.column ≤ l.byte-index + 1;
}
