-- A line that goes on or begins at a piece's end.
use Rattle.std.proofs.Common.{◌≡◌, ◌++◌, true, arith, refl}
use Rattle.std.proofs.lemmas.Grind.{common_steps}
use Rattle.uv_lines.specs.Lines.{split}
use Rattle.uv_filter.specs.Lines.{is_over}
use Rattle.uv_filter.proofs.FaultLemmas.{pass-cut, stops-left}
use Rattle.uv_filter.proofs.StandsLemmas.{Stands-kept, Stands-passed, over_begun, over_known}
use Rattle.uv_filter.proofs.taking.ProgressTaker.take_part.Goals as goal
use Rattle.uv_filter.proofs.taking.ProgressTaker.take_part.Goals.{then-self-via-then-self}
use Rattle.uv_filter.proofs.taking.ProgressTaker.take_part.Goals.{then-self-via-else-self+then-part-len}

pub returns-in-Ok-clause-stands : goal.returns-in-Ok-clause-stands
returns-in-Ok-clause-stands g c = λ start old read h.
    let s = start.filter in
    let p = c.args.self.now in
    let q = c.pass_on.new.self in
    let rest = c.args.part.now in
    let new = g.W.Sink.contents c.args.writer.now in
    let over : is_over ((split read).1 ++ rest) ≡ true = elim c.then-self.branch [
      | then-self-via-then-self w ↦ over_known s old read p.filter p.begun.items p.is_long p.text.items new rest h
          w.if-self.true
      | then-self-via-else-self+then-part-len w ↦
          over_begun s old read p.filter p.begun.items p.is_long p.text.items new rest h w.if-self.false
          (grind (arith, common_steps, w.if-part-len.true, w.len.ensures))
    ] in
    let none = c.in-Ok.ensures.none in
    Stands-passed s old read rest p.filter q.filter p.begun.items q.begun.items p.is_long q.is_long p.text.items
    q.text.items new (g.W.Sink.contents c.pass_on.new.writer) c.requires.line h over c.in-Ok.ensures.whole
    c.in-Ok.ensures.counted none.1 none.2 none.0

pub returns-in-Err-clause-fault : goal.returns-in-Err-clause-fault
returns-in-Err-clause-fault g c = λ start old read h.
    let s = start.filter in
    let p = c.args.self.now in
    let q = c.pass_on.new.self in
    let rest = c.args.part.now in
    let new = g.W.Sink.contents c.args.writer.now in
    let over : is_over ((split read).1 ++ rest) ≡ true = elim c.then-self.branch [
      | then-self-via-then-self w ↦ over_known s old read p.filter p.begun.items p.is_long p.text.items new rest h
          w.if-self.true
      | then-self-via-else-self+then-part-len w ↦
          over_begun s old read p.filter p.begun.items p.is_long p.text.items new rest h w.if-self.false
          (grind (arith, common_steps, w.if-part-len.true, w.len.ensures))
    ] in
    let prefix = c.in-Err.ensures.prefix in
    pass-cut s old read rest p.filter q.filter p.begun.items p.is_long p.text.items new
    (g.W.Sink.contents c.pass_on.new.writer) prefix.0 c.requires.line h over prefix.1 c.in-Err.ensures.counted

pub returns-in-Ok-extend_from_slice-clause-stands : goal.returns-in-Ok-extend_from_slice-clause-stands
returns-in-Ok-extend_from_slice-clause-stands g c = λ start old read h.
    let s = start.filter in
    let p = c.args.self.now in
    let rest = c.args.part.now in
    let kept = c.extend_from_slice.new.self.items in
    let is : kept ≡ p.begun.items ++ rest = c.in-Ok-extend_from_slice.ensures.items in
    Stands-kept s old read rest p.filter p.begun.items kept p.is_long p.text.items
    (g.W.Sink.contents c.args.writer.now) c.requires.line h c.if-self.false is
    (grind (arith, common_steps, is, p.kept, c.if-part-len.false, c.len.ensures))

pub returns-in-Err-extend_from_slice-clause-fault : goal.returns-in-Err-extend_from_slice-clause-fault
returns-in-Err-extend_from_slice-clause-fault g c = λ start old read h.
    let s = start.filter in
    let p = c.args.self.now in
    let q = c.stop.new.self in
    stops-left c.stop.result s old read c.args.part.now p.filter q.filter p.begun.items p.is_long p.text.items
    p.text.items (g.W.Sink.contents c.args.writer.now) (g.W.Sink.contents c.stop.new.writer) h c.if-self.false refl
    c.stop.ensures.stopped c.stop.ensures.filter
