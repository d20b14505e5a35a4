-- What a piece has of a line that goes on or begins.
use Rattle.std.proofs.Common.{◌++◌, ◌∙◌, arith}
use Rattle.uv_lines.proofs.PassLemmas.{quiet_writes}
use Rattle.uv_lines.proofs.passing.ProgressTaker.take_part.Goals as goal

pub returns-in-Ok-clause-stands : goal.returns-in-Ok-clause-stands
returns-in-Ok-clause-stands g c = λ start old read h. (
  rw (← h.1) (c.in-Ok.ensures.waits (g.W.Sink.contents c.args.writer.now) start.reporter old read (rw h.1 h.0)),
  c.in-Ok.ensures.setting ∙ h.1,
)

pub returns-in-Err-clause-fault : goal.returns-in-Err-clause-fault
returns-in-Err-clause-fault g c = λ start old read h.
    c.stop.ensures.left start.limits start.reporter old (read ++ c.args.part.now)
    (rw (← h.1) (c.in-Err.ensures.fault (g.W.Sink.contents c.args.writer.now) start.reporter old read (rw h.1 h.0)))

pub returns-in-Err-clause-failed : goal.returns-in-Err-clause-failed
returns-in-Err-clause-failed g c =
    let none = quiet_writes c.in-Err.fault c.in-Err.ensures.kind in
    c.stop.ensures.failed (g.W.Sink.failed c.args.writer.now) (omega (arith, none))
