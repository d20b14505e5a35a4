-- The report after the last line, and then the end.
use Rattle.std.proofs.Common.{Ok}
use Rattle.uv_lines.proofs.FramedLemmas.{follows_cut, follows_more}
use Rattle.uv_lines.proofs.framed.write_last.Goals as goal

pub returns-in-Ok : goal.returns-in-Ok
returns-in-Ok g c = λ u.
    follows_more c.args.last.now c.args.end.now (Ok u) c.follow.result (g.W.Sink.contents c.args.writer.now)
    (g.W.Sink.contents c.write_some.new.writer) (g.W.Sink.contents c.follow.new.writer)
    (g.W.Sink.failed c.args.writer.now) (g.W.Sink.failed c.write_some.new.writer)
    (g.W.Sink.failed c.follow.new.writer) c.in-Ok.ensures.whole c.in-Ok.ensures.quiet c.follow.ensures

pub returns-in-Err : goal.returns-in-Err
returns-in-Err g c = λ u.
    follows_cut c.args.last.now c.args.end.now (Ok u) (g.W.Sink.contents c.args.writer.now)
    (g.W.Sink.contents c.write_some.new.writer) (g.W.Sink.failed c.args.writer.now)
    (g.W.Sink.failed c.write_some.new.writer) c.in-Err.ensures.prefix.0 c.in-Err.ensures.some c.in-Err.ensures.prefix.1
    c.in-Err.ensures.failed
