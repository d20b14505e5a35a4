-- The mark of the text's start.
use Rattle.uv_report.proofs.places.column_counter.ColumnCounter.new.Goals as goal

pub invariant_of-result : goal.invariant_of-result
invariant_of-result c = c.first_mark.ensures.mark c.args.columns
