-- At the text's end its mark is the mark of each place after.
use Rattle.std.proofs.Common.{◌≤◌, arith}
use Rattle.uv_report.proofs.ColumnLemmas.{end_tells}
use Rattle.uv_report.proofs.places.column_counter.mark_by_steps.Goals as goal

pub returns-in-None : goal.returns-in-None
returns-in-None c = λ start text is.
    let mark = c.loop.invariant.marks start text is in
    let before = c.loop-test.true in
    let here = c.loop.invariant.place in
    let within : c.loop.mark.place ≤ c.args.place = omega (arith, before, here) in
    end_tells c.args.columns start text c.args.place c.loop.mark mark (c.in-None.ensures.next start text mark) within
