-- What was written of three pieces where a write failed.
use Rattle.std.proofs.Common.{◌++◌, ℕ, Ok, Err, OnErr, take, subst}
use Rattle.std.specs.Io.KnownBytes.{Appends}
use Rattle.uv_filter.proofs.FaultLemmas.{second-cut, third-cut}
use Rattle.uv_filter.proofs.progress.Progress.pass_on.Goals as goal

pub returns-in-Err-write_whole-clause-prefix : goal.returns-in-Err-write_whole-clause-prefix
returns-in-Err-write_whole-clause-prefix g c =
    let p = c.args.self.now in
    let old = g.W.Sink.contents c.args.writer.now in
    let mid = g.W.Sink.contents c.write_out.new.writer in
    let new = g.W.Sink.contents c.write_whole.new.out in
    let prefix = c.in-Err-write_whole.ensures.prefix in
    second-cut old mid new p.text.items p.begun.items c.args.part.now prefix.0 c.in_default.ensures.whole
    (subst (λ t. Appends mid new (take prefix.0 t)) c.as_slice.ensures.value prefix.1)

pub returns-clause-prefix : goal.returns-clause-prefix
returns-clause-prefix g c =
    let p = c.args.self.now in
    let old = g.W.Sink.contents c.args.writer.now in
    let mid = g.W.Sink.contents c.write_out.new.writer in
    let low = g.W.Sink.contents c.write_whole.new.out in
    let new = g.W.Sink.contents c.write_whole-2.new.out in
    let part = c.args.part.now in
    let begun = subst (λ t. Appends mid low t) c.as_slice.ensures.value
    c.in_default-write_whole.ensures.whole in
    elim c.write_whole-2.result as (λ r. OnErr r ((n : ℕ) × Appends low new (take n part))
    → OnErr r ((n : ℕ) × Appends old new (take n (p.text.items ++ (p.begun.items ++ part))))) [
      | Ok _ ↦ λ prefix. tt
      | Err _ ↦ λ prefix. third-cut old mid low new p.text.items p.begun.items part prefix.0 c.in_default.ensures.whole
          begun prefix.1
    ] c.write_whole-2.ensures.prefix
