-- The end of a list, written.
use Rattle.std.proofs.Common.{◌<◌, ◌∙◌, [], append-nil, refl, subst}
use Rattle.uv_filter.specs.Run.{TakeFault}
use Rattle.uv_filter.proofs.FaultLemmas.{ends-cut, ends-wrote, stops-left}
use Rattle.uv_filter.proofs.StandsLemmas.{begun_short}
use Rattle.uv_filter.proofs.taking.ProgressTaker.end_list.Goals as goal

pub returns-in-Err-clause-fault : goal.returns-in-Err-clause-fault
returns-in-Err-clause-fault g c = λ start old read h.
    let s = start.filter in
    let p = c.args.self.now in
    let q = c.append_last.new.self in
    let r = c.stop.new.self in
    let new = g.W.Sink.contents c.args.writer.now in
    let newer = g.W.Sink.contents c.stop.new.writer in
    let none = c.in-Err.ensures.none in
    subst (λ all. TakeFault c.stop.result s old all r.filter newer) (append-nil read)
    (stops-left c.stop.result s old read [] p.filter r.filter p.begun.items p.is_long p.text.items q.text.items new
    newer h (begun_short s old read p.filter p.begun.items p.is_long p.text.items new h
    (subst (λ n. 0 < n) p.begun.ok.0 c.in-Err.ensures.some))
    none.1 c.stop.ensures.stopped (c.stop.ensures.filter ∙ none.0))

pub returns-in-Ok-clause-ends : goal.returns-in-Ok-clause-ends
returns-in-Ok-clause-ends g c = λ start old read h.
    let s = start.filter in
    let q = c.append_last.new.self in
    let new = g.W.Sink.contents c.args.writer.now in
    ends-wrote s old read q.filter q.filter q.text.items new (g.W.Sink.contents c.write_out.new.writer)
    ((rw c.in_default.is at c.append_last.ensures.ends) s old read new h) c.in-Ok.ensures.whole refl

pub returns-in-Err-write_out-clause-fault : goal.returns-in-Err-write_out-clause-fault
returns-in-Err-write_out-clause-fault g c = λ start old read h.
    let s = start.filter in
    let q = c.append_last.new.self in
    let new = g.W.Sink.contents c.args.writer.now in
    let prefix = c.in-Err-write_out.ensures.prefix in
    ends-cut s old read q.filter q.filter q.text.items new (g.W.Sink.contents c.write_out.new.writer) prefix.0
    ((rw c.in_default.is at c.append_last.ensures.ends) s old read new h) prefix.1 refl
