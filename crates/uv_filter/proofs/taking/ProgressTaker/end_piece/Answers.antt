-- What waits at a piece's end, written.
use Rattle.std.proofs.Common.{refl}
use Rattle.uv_lines.proofs.WaitingLemmas.{passes_all}
use Rattle.uv_filter.proofs.FaultLemmas.{piece-cut}
use Rattle.uv_filter.proofs.StandsLemmas.{Stands-written}
use Rattle.uv_filter.proofs.taking.ProgressTaker.end_piece.Goals as goal

pub returns-in-Ok-clause-stands : goal.returns-in-Ok-clause-stands
returns-in-Ok-clause-stands g c = λ start old read h.
    let s = start.filter in
    let p = c.args.self.now in
    let now = g.W.Sink.contents c.args.writer.now in
    let new = g.W.Sink.contents c.write_out.new.writer in
    let left = c.write_out.new.text.items in
    Stands-written s old read p.filter p.begun.items p.is_long p.text.items left now new h
    (passes_all p.text.items now new left c.in-Ok.ensures.whole c.in-Ok.ensures.none)

pub returns-in-Err-clause-fault : goal.returns-in-Err-clause-fault
returns-in-Err-clause-fault g c = λ start old read h.
    let s = start.filter in
    let p = c.args.self.now in
    let prefix = c.in-Err.ensures.prefix in
    piece-cut s old read p.filter p.filter p.begun.items p.is_long p.text.items
    (g.W.Sink.contents c.args.writer.now) (g.W.Sink.contents c.write_out.new.writer) prefix.0 h prefix.1 refl
