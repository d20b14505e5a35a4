-- What waits is written where a fault came that isn't of a write.
use Rattle.std.proofs.Common.{◌∙◌, arith, refl, sym}
use Rattle.uv_lines.proofs.PassLemmas.{quiet_writes, stop-cut, stop-write, stop-wrote}
use Rattle.uv_lines.proofs.progress.Progress.stop.Goals as goal

pub write_out-requires : goal.write_out-requires
write_out-requires g c = c.requires (sym c.is_write.ensures ∙ c.if-is_write.false)

pub returns-then-is_write-clause-left : goal.returns-then-is_write-clause-left
returns-then-is_write-clause-left g c = λ limits start old read all.
    let p = c.args.self.now in
    stop-write g.R.Reporter.reports g.R.Reporter.begins limits start c.args.fault old
    (g.W.Sink.contents c.args.writer.now) read p.text.items p.reporter (sym c.is_write.ensures ∙ c.if-is_write.true) all

pub returns-in-Ok-clause-left : goal.returns-in-Ok-clause-left
returns-in-Ok-clause-left g c = λ limits start old read all.
    let p = c.args.self.now in
    stop-wrote g.R.Reporter.reports g.R.Reporter.begins limits start c.args.fault old
    (g.W.Sink.contents c.args.writer.now) (g.W.Sink.contents c.write_out.new.writer) read p.text.items p.reporter
    p.reporter (sym c.is_write.ensures ∙ c.if-is_write.false) all refl c.in-Ok.ensures.whole

pub returns-in-Ok-clause-failed : goal.returns-in-Ok-clause-failed
returns-in-Ok-clause-failed g c = λ before failed. c.in-Ok.ensures.quiet ∙ failed

pub returns-in-Err-clause-left : goal.returns-in-Err-clause-left
returns-in-Err-clause-left g c = λ limits start old read all.
    let p = c.args.self.now in
    stop-cut g.R.Reporter.reports g.R.Reporter.begins limits start c.args.fault old
    (g.W.Sink.contents c.args.writer.now) (g.W.Sink.contents c.write_out.new.writer) read p.text.items p.reporter
    p.reporter (sym c.is_write.ensures ∙ c.if-is_write.false) all refl c.in-Err.ensures.prefix

pub returns-in-Err-clause-failed : goal.returns-in-Err-clause-failed
returns-in-Err-clause-failed g c = λ before failed.
    let none = quiet_writes c.args.fault (sym c.is_write.ensures ∙ c.if-is_write.false) in
    let one = c.in-Err.ensures.failed in
    omega (arith, none, one, failed)
