-- What the reporter says after the last line is the text that is written.
use Rattle.std.proofs.Common.{◌++◌, ◌∙◌, Ok, inl, subst}
use Rattle.uv_lines.specs.Framed.{Follows}
use Rattle.uv_lines.proofs.framed.write_end.Goals as goal

pub returns-in-Ok-last : goal.returns-in-Ok-last
returns-in-Ok-last g c =
    let follows = subst (λ last. Follows (last ++ c.args.end.now) (Ok c.in-Ok.field-0) c.write_last.result
    (g.W.Sink.contents c.args.writer.now) (g.W.Sink.contents c.write_last.new.writer)
    (g.W.Sink.failed c.args.writer.now) (g.W.Sink.failed c.write_last.new.writer))
    (c.as_bytes.ensures.value ∙ c.in-Ok-last.ensures) (c.write_last.ensures c.in-Ok.field-0) in
    rw c.in-Ok.is (inl follows)
