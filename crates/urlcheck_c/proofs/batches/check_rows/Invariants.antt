-- The texts so far are checked.
use Rattle.std.specs.Prelude.{option_copied}
use Rattle.urlcheck_c.specs.Batch.{AreChecked, columns}
use Rattle.urlcheck_c.proofs.batches.check_rows.Given as goal

abbrev pub invariant-loop-row : goal.invariant-loop-row
invariant-loop-row l =
    AreChecked l.fn.profile (option_copied l.fn.base) l.fn.texts l.fn.offsets l.row
    (columns l.initial.verdicts l.initial.rules l.initial.places) (columns l.verdicts l.rules l.places) l.valid
