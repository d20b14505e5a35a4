-- A line that has begun in an earlier piece ends.
use Rattle.std.proofs.Common.{◌∷◌, ◌++◌, ◌∙◌, true}
use Rattle.uv_lines.specs.Lines.{line_feed, short_line}
use Rattle.uv_lines.specs.Progress.{ended}
use Rattle.uv_lines.specs.Waiting.{Adds, LeavesLine}
use Rattle.uv_lines.proofs.PassLemmas.{Waits-closed, closing-fault, memory-fault, run_failed}
use Rattle.uv_lines.proofs.StandsLemmas.{kept_line}
use Rattle.uv_lines.proofs.progress.Progress.close_begun_line.Goals as goal

pub returns-in-Err-clause-fault : goal.returns-in-Err-clause-fault
returns-in-Err-clause-fault g c = λ rest start old read h.
    let p = c.args.self.now in
    let q = c.keep.new.self in
    let same = c.keep.ensures.rest in
    memory-fault g.R.Reporter.reports g.R.Reporter.lines p.limits start old
    (g.W.Sink.contents c.args.writer.now) read (c.args.prefix.now ++ line_feed ∷ rest) p.reporter q.reporter
    p.begun.items p.text.items q.text.items h same.0 same.2

pub returns-in-Ok-clause-waits : goal.returns-in-Ok-clause-waits
returns-in-Ok-clause-waits g c = λ start old read h.
    let p = c.args.self.now in
    let k = c.keep.new.self in
    let q = c.report_begun.new.self in
    let n = p.limits.line_bytes in
    let now = g.W.Sink.contents c.args.writer.now in
    let new = g.W.Sink.contents c.report_begun.new.writer in
    let same = c.keep.ensures.rest in
    let adds : Adds g.R.Reporter.reports g.R.Reporter.lines p.reporter p.text.items now
    (short_line n (ended true k.begun.items)) q.reporter q.text.items new =
    rw (← same.0, ← same.1, ← same.2) c.in-Ok.ensures.added in
    Waits-closed g.R.Reporter.reports g.R.Reporter.lines n start old now new read c.args.prefix.now
    (short_line n (ended true k.begun.items)) p.reporter q.reporter p.begun.items p.text.items q.begun.items
    q.text.items c.requires.line h
    (kept_line g.R.Reporter.reports g.R.Reporter.lines n start h.said read c.args.prefix.now p.reporter p.begun.items
    k.begun.items h.stands c.in_default.ensures.kept) adds c.in-Ok.ensures.begun

pub returns-in-Err-report_begun-clause-fault : goal.returns-in-Err-report_begun-clause-fault
returns-in-Err-report_begun-clause-fault g c = λ rest start old read h.
    let p = c.args.self.now in
    let k = c.keep.new.self in
    let q = c.report_begun.new.self in
    let n = p.limits.line_bytes in
    let now = g.W.Sink.contents c.args.writer.now in
    let new = g.W.Sink.contents c.report_begun.new.writer in
    let same = c.keep.ensures.rest in
    let e = c.in-Err-report_begun.fault in
    let left : LeavesLine g.R.Reporter.begins e p.reporter p.text.items now
    (short_line n (ended true k.begun.items)) q.text.items new =
    rw (← same.0, ← same.1, ← same.2) c.in-Err-report_begun.ensures.fault in
    rw c.of_run.ensures (closing-fault g.R.Reporter.reports g.R.Reporter.begins g.R.Reporter.lines p.limits start e old
    now new read c.args.prefix.now rest (short_line n (ended true k.begun.items)) p.reporter q.reporter p.begun.items
    p.text.items q.text.items c.requires.line h
    (kept_line g.R.Reporter.reports g.R.Reporter.lines n start h.said read c.args.prefix.now p.reporter p.begun.items
    k.begun.items h.stands c.in_default.ensures.kept) left (c.in-Err-report_begun.ensures.same ∙ same.0))

pub returns-in-Err-report_begun-clause-failed : goal.returns-in-Err-report_begun-clause-failed
returns-in-Err-report_begun-clause-failed g c =
    rw c.of_run.ensures (run_failed c.in-Err-report_begun.fault (g.W.Sink.failed c.args.writer.now)
    (g.W.Sink.failed c.report_begun.new.writer) c.in-Err-report_begun.ensures.failed)
