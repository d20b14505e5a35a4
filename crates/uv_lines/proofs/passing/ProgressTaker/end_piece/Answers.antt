-- What waits at a piece's end, written.
use Rattle.std.proofs.Common.{refl}
use Rattle.uv_lines.proofs.PassLemmas.{Waits-written, waits_standing, write-left}
use Rattle.uv_lines.proofs.WaitingLemmas.{passes_all}
use Rattle.uv_lines.proofs.passing.ProgressTaker.end_piece.Goals as goal

pub returns-in-Ok-clause-stands : goal.returns-in-Ok-clause-stands
returns-in-Ok-clause-stands g c = λ start old read h.
    let p = c.args.self.now in
    let now = g.W.Sink.contents c.args.writer.now in
    let new = g.W.Sink.contents c.write_out.new.writer in
    let left = c.write_out.new.text.items in (
      Waits-written g.R.Reporter.reports g.R.Reporter.lines start.limits.line_bytes start.reporter old now new read
          p.reporter p.reporter p.begun.items p.text.items p.begun.items left h.0
          (passes_all p.text.items now new left c.in-Ok.ensures.whole c.in-Ok.ensures.none) refl refl,
      h.1,
    )

pub returns-in-Err-clause-fault : goal.returns-in-Err-clause-fault
returns-in-Err-clause-fault g c = λ start old read h.
    let p = c.args.self.now in
    let waits = h.0 in
    write-left g.R.Reporter.reports g.R.Reporter.begins start.limits.line_bytes start.reporter old
    (g.W.Sink.contents c.args.writer.now) (g.W.Sink.contents c.write_out.new.writer) waits.said read p.text.items
    p.reporter p.reporter waits.passes
    (waits_standing g.R.Reporter.reports g.R.Reporter.begins g.R.Reporter.lines start.limits.line_bytes start.reporter
    waits.said read p.reporter p.begun.items waits.stands) refl c.in-Err.ensures.prefix
