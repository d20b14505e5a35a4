-- The code points so far leave this count for the label that goes on.
use Rattle.std.proofs.Common.{◌≤◌}
use Rattle.uv_host.proofs.LabelCountLemmas.{LeavesCount}
use Rattle.uv_host.proofs.fitting_forms.has_long_label.Given as goal

abbrev pub invariant-loop-c : goal.invariant-loop-c
invariant-loop-c l = (l.length ≤ 63) × LeavesCount l.yielded l.length
