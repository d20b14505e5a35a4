-- The texts so far are resolved.
use Rattle.std.specs.Prelude.{ℕ, ◌≤◌, List, Option, string_bytes}
use Rattle.urlcheck_c.specs.ResolvedBatch.{AreRowsResolved, IsReadFor, resolved_columns}
use Rattle.urlcheck_c.proofs.records.resolved_batches.resolve_rows.Given as goal

abbrev pub invariant-loop-row : goal.invariant-loop-row
invariant-loop-row l =
    (l.valid ≤ l.row)
    × ((number : ℕ) (base : Option (List ℕ)) → IsReadFor number base l.fn.read
    → AreRowsResolved number base l.fn.texts l.fn.offsets l.row
    (resolved_columns l.initial.verdicts l.initial.rules l.initial.places l.fn.ends)
    (resolved_columns l.verdicts l.rules l.places l.ends) (string_bytes l.text) l.valid)
