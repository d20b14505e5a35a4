-- If what is left of the text is scanned, the list has all its faults.
use Rattle.std.proofs.Common.{length}
use Rattle.std.specs.Str.{chars}
use Rattle.uv_grammar.proofs.ScanLemmas.{ScansOn}
use Rattle.uv_grammar.proofs.scan.push_scan.Given as goal

abbrev pub invariant-loop-refusal : goal.invariant-loop-refusal
invariant-loop-refusal l = ScansOn l.scan l.fn.start l.fn.text l.initial.found.items l.found.items l.here l.left

abbrev pub decreases-loop-refusal : goal.decreases-loop-refusal
decreases-loop-refusal l = length (chars l.left)
