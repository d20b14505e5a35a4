-- The mark of the place that the loop has come to.
use Rattle.std.proofs.Common.{◌≡◌, ℕ, List}
use Rattle.uv_report.specs.Places.ColumnCounter.{IsMark}
use Rattle.uv_report.proofs.places.column_counter.mark_by_steps.Given as goal

abbrev pub invariant-loop : goal.invariant-loop
invariant-loop l = record {
  place : l.mark.place ≡ l.counter;
  marks : (start : ℕ) (text : List ℕ) → IsMark l.columns start text l.from → IsMark l.columns start text l.mark;
}
