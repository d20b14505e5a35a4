-- The mark after the first code point.
use Rattle.std.proofs.Common.{refl}
use Rattle.uv_report.proofs.ColumnLemmas.{next_is_mark}
use Rattle.uv_report.proofs.places.column_counter.next_mark.Goals as goal

pub returns-clause-next : goal.returns-clause-next
returns-clause-next c = λ start text is.
    next_is_mark c.args.columns start text _ c.in_ok-c.c c.args.mark _ is c.in_ok-c.ensures refl
    c.column_after.ensures refl
