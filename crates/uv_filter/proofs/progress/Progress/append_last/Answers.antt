-- The last line, which no LF ends.
use Rattle.std.proofs.Common.{◌<◌, arith, length}
use Rattle.std.proofs.lemmas.Grind.{common_steps}
use Rattle.std.proofs.lemmas.Result.{on_ok_weaker}
use Rattle.uv_filter.proofs.StandsLemmas.{Ends-begun, Ends-empty}
use Rattle.uv_filter.proofs.progress.Progress.append_last.Goals as goal

pub returns-then-is_empty-clause-ends : goal.returns-then-is_empty-clause-ends
returns-then-is_empty-clause-ends c = λ start old read new h.
    let p = c.args.self.now in
    Ends-empty start old read p.filter p.begun.items p.is_long p.text.items new h
    (grind (arith, common_steps, c.if-is_empty.true, c.is_empty.ensures))

pub returns-clause-ends : goal.returns-clause-ends
returns-clause-ends c =
    let p = c.args.self.now in
    let q = c.append_begun.new.self in
    let some : 0 < length p.begun.items = grind (arith, common_steps, c.if-is_empty.false, c.is_empty.ensures) in
    on_ok_weaker c.append_begun.result (λ added start old read new h.
    Ends-begun start old read p.filter q.filter p.begun.items p.is_long p.text.items q.text.items new h some added)
    c.append_begun.ensures.added
