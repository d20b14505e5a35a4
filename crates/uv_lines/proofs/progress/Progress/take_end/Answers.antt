-- The last line, which no LF ends.
use Rattle.std.proofs.Common.{arith}
use Rattle.std.proofs.lemmas.Grind.{common_steps}
use Rattle.uv_lines.proofs.PassLemmas.{end-begun, end-empty, end-fault}
use Rattle.uv_lines.proofs.progress.Progress.take_end.Goals as goal

pub returns-then-is_empty-clause-ends : goal.returns-then-is_empty-clause-ends
returns-then-is_empty-clause-ends g c = λ start old read h.
    let p = c.args.self.now in
    end-empty g.R.Reporter.reports g.R.Reporter.lines p.limits.line_bytes start old
    (g.W.Sink.contents c.args.writer.now) read p.reporter p.begun.items p.text.items h
    (grind (arith, common_steps, c.if-is_empty.true, c.is_empty.ensures))

pub returns-in-Ok-clause-ends : goal.returns-in-Ok-clause-ends
returns-in-Ok-clause-ends g c = λ start old read h.
    let p = c.args.self.now in
    let q = c.report_begun.new.self in
    end-begun g.R.Reporter.reports g.R.Reporter.lines p.limits.line_bytes start old
    (g.W.Sink.contents c.args.writer.now) (g.W.Sink.contents c.report_begun.new.writer) read p.reporter q.reporter
    p.begun.items p.text.items q.text.items h
    (grind (arith, common_steps, c.if-is_empty.false, c.is_empty.ensures)) c.in-Ok.ensures.added

pub returns-in-Err-clause-fault : goal.returns-in-Err-clause-fault
returns-in-Err-clause-fault g c = λ start old read h.
    let p = c.args.self.now in
    let q = c.report_begun.new.self in
    end-fault g.R.Reporter.reports g.R.Reporter.begins g.R.Reporter.lines p.limits start c.in-Err.fault old
    (g.W.Sink.contents c.args.writer.now) (g.W.Sink.contents c.report_begun.new.writer) read p.reporter q.reporter
    p.begun.items p.text.items q.text.items h
    (grind (arith, common_steps, c.if-is_empty.false, c.is_empty.ensures)) c.in-Err.ensures.fault c.in-Err.ensures.same
