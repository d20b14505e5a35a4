-- The run that begins at this piece, and the longest of those from it on.
use Rattle.std.proofs.Common.{◌≡◌, ◌+◌, ◌≤◌, length, drop}
use Rattle.std.specs.Net.Text.{zero_run, longest_zero_run}
use Rattle.uv_model.proofs.address_text.longest_zero_run.Given as goal

abbrev pub invariant-loop-at : goal.invariant-loop-at
invariant-loop-at l =
    (l.run ≡ zero_run (drop l.at l.pieces)) × (l.count ≡ (longest_zero_run (drop l.at l.pieces)).1)
    × (l.start ≡ l.at + (longest_zero_run (drop l.at l.pieces)).0)
    × (l.at + l.run ≤ length l.pieces) × (l.start + l.count ≤ length l.pieces)
