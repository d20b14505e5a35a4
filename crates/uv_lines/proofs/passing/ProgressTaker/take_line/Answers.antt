-- A line that an LF ends.
use Rattle.std.proofs.Common.{[], ◌∷◌, ◌++◌, ◌∙◌, arith, refl, subst}
use Rattle.uv_lines.specs.Line.{bytes_of}
use Rattle.uv_lines.specs.Lines.{line_feed}
use Rattle.uv_lines.specs.Reported.{ReportedPart}
use Rattle.uv_lines.specs.Run.{WrotePrefix}
use Rattle.uv_lines.specs.Ways.{Waiting}
use Rattle.uv_lines.proofs.LineLemmas.{line_joined}
use Rattle.uv_lines.proofs.PassLemmas.{Waits-written, quiet_writes, write-cut}
use Rattle.uv_lines.proofs.passing.ProgressTaker.take_line.Goals as goal

pub stop-requires : goal.stop-requires
stop-requires g c = λ is.
    let none = quiet_writes c.in-Err.fault is in
    let failed = c.in-Err.ensures.failed in
    let few = c.requires.writes in
    omega (arith, none, failed, few)

pub returns-in-Err-clause-fault : goal.returns-in-Err-clause-fault
returns-in-Err-clause-fault g c = λ rest start old read h.
    c.stop.ensures.left start.limits start.reporter old (read ++ (bytes_of c.args.line ++ line_feed ∷ rest))
    (rw (← h.1) (c.in-Err.ensures.fault rest start.reporter old read (rw h.1 h.0)))

pub returns-in-Err-clause-failed : goal.returns-in-Err-clause-failed
returns-in-Err-clause-failed g c = c.stop.ensures.failed (g.W.Sink.failed c.args.writer.now) c.in-Err.ensures.failed

pub returns-in-Ok-clause-stands : goal.returns-in-Ok-clause-stands
returns-in-Ok-clause-stands g c = λ start old read h.
    let k = c.close_line.new.self in
    let now = g.W.Sink.contents c.close_line.new.writer in
    let new = g.W.Sink.contents c.end_part.new.writer in
    let one = c.in_default.ensures in
    let all = read ++ (bytes_of c.args.line ++ line_feed ∷ []) in
    let closed : Waiting start.limits start.reporter old all k now =
    rw (← h.1) (one.waits start.reporter old read (rw h.1 h.0)) in (
      Waits-written g.R.Reporter.reports g.R.Reporter.lines start.limits.line_bytes start.reporter old now new all
          k.reporter k.reporter k.begun.items k.text.items k.begun.items c.end_part.new.text.items closed
          c.in-Ok.ensures.passes refl refl,
      one.setting ∙ h.1,
    )

pub returns-in-Err-end_part-clause-fault : goal.returns-in-Err-end_part-clause-fault
returns-in-Err-end_part-clause-fault g c = λ rest start old read h.
    let k = c.close_line.new.self in
    let now = g.W.Sink.contents c.close_line.new.writer in
    let new = g.W.Sink.contents c.end_part.new.writer in
    let line = bytes_of c.args.line in
    let closed : Waiting start.limits start.reporter old (read ++ (line ++ line_feed ∷ [])) k now =
    rw (← h.1) (c.in_default.ensures.waits start.reporter old read (rw h.1 h.0)) in
    subst (λ all. WrotePrefix (ReportedPart g.R.Reporter.reports g.R.Reporter.begins start.limits.line_bytes
    start.reporter) old all k.reporter new) (line_joined read line rest)
    (write-cut g.R.Reporter.reports g.R.Reporter.begins g.R.Reporter.lines start.limits.line_bytes start.reporter old
    now new (read ++ (line ++ line_feed ∷ [])) rest k.reporter k.reporter k.begun.items k.text.items closed refl
    c.in-Err-end_part.ensures.prefix)
