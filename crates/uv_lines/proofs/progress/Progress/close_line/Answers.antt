-- A line ends in the piece in which it began.
use Rattle.std.proofs.Common.{◌≡◌, [], ◌∷◌, ◌++◌, arith, length-append}
use Rattle.std.proofs.lemmas.Grind.{common_steps}
use Rattle.std.specs.Str.Lines.{strip_carriage_return}
use Rattle.uv_lines.specs.Line.{bytes_of}
use Rattle.uv_lines.specs.Lines.{line_feed, short_line}
use Rattle.uv_lines.proofs.PassLemmas.{Waits-closed, closing-fault, many-fault, run_failed}
use Rattle.uv_lines.proofs.StandsLemmas.{whole_line}
use Rattle.uv_lines.proofs.progress.Progress.close_line.Goals as goal

pub returns-then-line_count-self-clause-fault : goal.returns-then-line_count-self-clause-fault
returns-then-line_count-self-clause-fault g c = λ rest start old read h.
    let p = c.args.self.now in
    many-fault g.R.Reporter.reports g.R.Reporter.lines p.limits start old
    (g.W.Sink.contents c.args.writer.now) read (bytes_of c.args.prefix ++ line_feed ∷ rest) p.reporter p.begun.items
    p.text.items h (grind (arith, common_steps, c.if-line_count-self.true, c.line_count.ensures))
    (rw (length-append (bytes_of c.args.prefix) (line_feed ∷ rest)) (omega arith))

pub returns-in-Ok-clause-waits : goal.returns-in-Ok-clause-waits
returns-in-Ok-clause-waits g c = λ start old read h.
    let p = c.args.self.now in
    let n = p.limits.line_bytes in
    let empty : p.begun.items ≡ [] = grind (arith, common_steps, c.if-not-is_empty.false, c.is_empty.ensures) in
    Waits-closed g.R.Reporter.reports g.R.Reporter.lines n start old (g.W.Sink.contents c.args.writer.now)
    (g.W.Sink.contents c.report_on.new.writer) read (bytes_of c.args.prefix)
    (short_line n (strip_carriage_return (bytes_of c.args.prefix))) p.reporter c.report_on.new.reporter p.begun.items
    p.text.items p.begun.items c.report_on.new.text.items c.requires.line h
    (whole_line g.R.Reporter.reports g.R.Reporter.lines n start h.said read (bytes_of c.args.prefix) p.reporter
    p.begun.items h.stands empty) (rw (← c.without_return-line.ensures) c.in-Ok.ensures.added) empty

pub returns-in-Err-clause-fault : goal.returns-in-Err-clause-fault
returns-in-Err-clause-fault g c = λ rest start old read h.
    let p = c.args.self.now in
    let n = p.limits.line_bytes in
    let empty : p.begun.items ≡ [] = grind (arith, common_steps, c.if-not-is_empty.false, c.is_empty.ensures) in
    rw c.of_run.ensures (closing-fault g.R.Reporter.reports g.R.Reporter.begins g.R.Reporter.lines p.limits start
    c.in-Err.fault old (g.W.Sink.contents c.args.writer.now) (g.W.Sink.contents c.report_on.new.writer) read
    (bytes_of c.args.prefix) rest (short_line n (strip_carriage_return (bytes_of c.args.prefix))) p.reporter
    c.report_on.new.reporter p.begun.items p.text.items c.report_on.new.text.items c.requires.line h
    (whole_line g.R.Reporter.reports g.R.Reporter.lines n start h.said read (bytes_of c.args.prefix) p.reporter
    p.begun.items h.stands empty) (rw (← c.without_return-line.ensures) c.in-Err.ensures.fault) c.in-Err.ensures.same)

pub returns-in-Err-clause-failed : goal.returns-in-Err-clause-failed
returns-in-Err-clause-failed g c =
    rw c.of_run.ensures (run_failed c.in-Err.fault (g.W.Sink.failed c.args.writer.now)
    (g.W.Sink.failed c.report_on.new.writer) c.in-Err.ensures.failed)
