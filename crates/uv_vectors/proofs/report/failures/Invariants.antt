-- The lines of the values so far, and how many of these fail.
use Rattle.std.proofs.Common.{◌≤◌, map, take, string_bytes}
use Rattle.serde_json.specs.View.{view}
use Rattle.uv_vectors.specs.Report.{HasFailures}
use Rattle.uv_vectors.proofs.report.failures.Given as goal

abbrev pub invariant-loop-at : goal.invariant-loop-at
invariant-loop-at l = record {
  failures : HasFailures (map view (take l.at l.values)) l.failed (string_bytes l.text);
  most : l.failed ≤ l.at;
}
