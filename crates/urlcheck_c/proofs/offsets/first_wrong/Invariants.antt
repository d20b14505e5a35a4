-- The offsets of the texts so far ascend.
use Rattle.urlcheck_c.specs.Offsets.{AreRows}
use Rattle.urlcheck_c.proofs.offsets.first_wrong.Given as goal

abbrev pub invariant-loop-row : goal.invariant-loop-row
invariant-loop-row l = AreRows l.bytes l.offsets l.row
