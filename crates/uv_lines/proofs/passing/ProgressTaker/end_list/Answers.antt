-- The report on the last line, written.
use Rattle.std.proofs.Common.{◌+◌, ◌∙◌, take, arith, ap, refl}
use Rattle.uv_lines.specs.Fault.{failed_within}
use Rattle.uv_lines.specs.Lines.{lines_of}
use Rattle.uv_lines.specs.Reported.{Reported, ReportedPart}
use Rattle.uv_lines.proofs.PassLemmas.{waits_ended, wrote_waiting, write-left}
use Rattle.uv_lines.proofs.passing.ProgressTaker.end_list.Goals as goal

pub returns-in-Ok-write_out-clause-ends : goal.returns-in-Ok-write_out-clause-ends
returns-in-Ok-write_out-clause-ends g c = λ start old read h.
    let p = c.args.self.now in
    let q = c.take_end.new.self in
    let ends = c.in-Ok.ensures.ends start.reporter old read (rw h.1 h.0) in
    rw (← h.1) (record {
      wrote = wrote_waiting (Reported g.R.Reporter.reports p.limits.line_bytes start.reporter) (lines_of read) old
          (g.W.Sink.contents c.take_end.new.writer) (g.W.Sink.contents c.write_out.new.writer) ends.0 q.text.items
          q.reporter q.reporter ends.1 ends.2 refl c.in-Ok-write_out.ensures.whole;
      few = (let most = ap (λ l. l.lines) c.in-Ok.ensures.setting in
          let count = ends.3 in
          let bound = q.few in
          omega (arith, most, count, bound));
    })

pub returns-in-Err-clause-fault : goal.returns-in-Err-clause-fault
returns-in-Err-clause-fault g c = λ start old read h.
    let p = c.args.self.now in
    let q = c.take_end.new.self in
    let n = p.limits.line_bytes in
    let reports = g.R.Reporter.reports in
    let begins = g.R.Reporter.begins in
    let ends = c.in-Ok.ensures.ends start.reporter old read (rw h.1 h.0) in
    rw (← h.1) (write-left reports begins n start.reporter old (g.W.Sink.contents c.take_end.new.writer)
    (g.W.Sink.contents c.write_out.new.writer) ends.0 read q.text.items q.reporter q.reporter ends.1
    (waits_ended reports begins n start.reporter read q.reporter ends.0 ends.2) refl c.in-Err.ensures.prefix)

pub returns-in-Ok-write_out-2-clause-fault : goal.returns-in-Ok-write_out-2-clause-fault
returns-in-Ok-write_out-2-clause-fault g c = λ start old read h.
    let p = c.args.self.now in
    let q = c.take_end.new.self in
    let left = (rw c.in-Err-Reporter.field-0-is at c.in-Err-Reporter.ensures.fault) start.reporter old read
    (rw h.1 h.0) in
    rw (← h.1) (
      left.2,
      left.3,
      wrote_waiting (ReportedPart g.R.Reporter.reports g.R.Reporter.begins p.limits.line_bytes start.reporter)
          (take left.2 (lines_of read)) old (g.W.Sink.contents c.take_end.new.writer)
          (g.W.Sink.contents c.write_out-in-Err-Reporter.new.writer) left.0 q.text.items q.reporter q.reporter left.1
          left.4 refl c.in-Ok-write_out-2.ensures.whole,
    )

pub returns-in-Ok-write_out-2-clause-failed : goal.returns-in-Ok-write_out-2-clause-failed
returns-in-Ok-write_out-2-clause-failed g c =
    c.in-Ok-write_out-2.ensures.quiet ∙ c.in-Err-Reporter.ensures.failed
    ∙ ap (λ e. g.W.Sink.failed c.args.writer.now + failed_within e) c.in-Err-Reporter.field-0-is

pub returns-in-Err-write_out-clause-fault : goal.returns-in-Err-write_out-clause-fault
returns-in-Err-write_out-clause-fault g c = λ start old read h.
    let p = c.args.self.now in
    let q = c.take_end.new.self in
    let left = (rw c.in-Err-Reporter.field-0-is at c.in-Err-Reporter.ensures.fault) start.reporter old read
    (rw h.1 h.0) in
    rw (← h.1) (write-left g.R.Reporter.reports g.R.Reporter.begins p.limits.line_bytes start.reporter old
    (g.W.Sink.contents c.take_end.new.writer) (g.W.Sink.contents c.write_out-in-Err-Reporter.new.writer) left.0
    read q.text.items q.reporter q.reporter left.1 (left.2, left.3, left.4) refl c.in-Err-write_out.ensures.prefix)

pub returns-in-Err-write_out-clause-failed : goal.returns-in-Err-write_out-clause-failed
returns-in-Err-write_out-clause-failed g c =
    let quiet = c.in-Err-Reporter.ensures.failed
    ∙ ap (λ e. g.W.Sink.failed c.args.writer.now + failed_within e) c.in-Err-Reporter.field-0-is in
    let failed = c.in-Err-write_out.ensures.failed in
    omega (arith, failed, quiet)

pub returns-in-Err-Write-clause-fault : goal.returns-in-Err-Write-clause-fault
returns-in-Err-Write-clause-fault g c = λ start old read h.
    rw (← h.1) ((rw c.in-Err-Write.field-0-is at c.in-Err-Write.ensures.fault) start.reporter old read (rw h.1 h.0))

pub returns-in-Err-Write-clause-failed : goal.returns-in-Err-Write-clause-failed
returns-in-Err-Write-clause-failed g c =
    c.in-Err-Write.ensures.failed
    ∙ ap (λ e. g.W.Sink.failed c.args.writer.now + failed_within e) c.in-Err-Write.field-0-is
