-- A line ends.
use Rattle.std.proofs.Common.{◌≡◌, ◌∙◌, ◌++◌, ◌∷◌, [], true, arith, refl, subst}
use Rattle.std.proofs.lemmas.Grind.{common_steps}
use Rattle.uv_lines.specs.Line.{bytes_of}
use Rattle.uv_lines.specs.Lines.{line_feed, split}
use Rattle.uv_lines.proofs.LineLemmas.{line_joined}
use Rattle.uv_filter.specs.Lines.{is_over}
use Rattle.uv_filter.specs.Run.{WrotePrefix}
use Rattle.uv_filter.proofs.FaultLemmas.{end-cut, stops-left, write-cut}
use Rattle.uv_filter.proofs.StandsLemmas.{Stands-closed, Stands-ended, Stands-written, over_begun, over_known}
use Rattle.uv_filter.proofs.taking.ProgressTaker.take_line.Goals as goal
use Rattle.uv_filter.proofs.taking.ProgressTaker.take_line.Goals.{then-self-via-then-self}
use Rattle.uv_filter.proofs.taking.ProgressTaker.take_line.Goals.{then-self-via-else-self+then-line-len}

pub returns-in-Ok-clause-stands : goal.returns-in-Ok-clause-stands
returns-in-Ok-clause-stands g c = λ start old read h.
    let s = start.filter in
    let p = c.args.self.now in
    let q = c.pass_on.new.self in
    let is = c.as_bytes-line.ensures in
    let prefix = c.as_bytes-line.result.now in
    let alone : split prefix ≡ ([], prefix) = rw is c.requires.line in
    let whole : c.args.whole.now ≡ prefix ++ line_feed ∷ [] = rw is c.requires.whole in
    let new = g.W.Sink.contents c.args.writer.now in
    let over : is_over ((split read).1 ++ prefix) ≡ true = elim c.then-self.branch [
      | then-self-via-then-self w ↦ over_known s old read p.filter p.begun.items p.is_long p.text.items new prefix h
          w.if-self.true
      | then-self-via-else-self+then-line-len w ↦
          over_begun s old read p.filter p.begun.items p.is_long p.text.items new prefix h w.if-self.false
          (grind (arith, common_steps, w.if-line-len.true, w.len.ensures))
    ] in
    let none = c.in-Ok.ensures.none in
    rw (← is) (Stands-ended s old read prefix c.args.whole.now p.filter q.filter p.begun.items q.begun.items p.is_long
    q.is_long p.text.items q.text.items new (g.W.Sink.contents c.pass_on.new.writer) alone h over whole
    c.in-Ok.ensures.whole c.in-Ok.ensures.counted none.1 none.2 none.0)

pub returns-in-Err-clause-fault : goal.returns-in-Err-clause-fault
returns-in-Err-clause-fault g c = λ rest start old read h.
    let s = start.filter in
    let p = c.args.self.now in
    let q = c.pass_on.new.self in
    let is = c.as_bytes-line.ensures in
    let prefix = c.as_bytes-line.result.now in
    let alone : split prefix ≡ ([], prefix) = rw is c.requires.line in
    let whole : c.args.whole.now ≡ prefix ++ line_feed ∷ [] = rw is c.requires.whole in
    let new = g.W.Sink.contents c.args.writer.now in
    let newer = g.W.Sink.contents c.pass_on.new.writer in
    let over : is_over ((split read).1 ++ prefix) ≡ true = elim c.then-self.branch [
      | then-self-via-then-self w ↦ over_known s old read p.filter p.begun.items p.is_long p.text.items new prefix h
          w.if-self.true
      | then-self-via-else-self+then-line-len w ↦
          over_begun s old read p.filter p.begun.items p.is_long p.text.items new prefix h w.if-self.false
          (grind (arith, common_steps, w.if-line-len.true, w.len.ensures))
    ] in
    let part = c.in-Err.ensures.prefix in
    rw (← is) (subst (λ all. WrotePrefix s old all q.filter newer) (line_joined read prefix rest)
    (end-cut s old read prefix c.args.whole.now rest p.filter q.filter p.begun.items p.is_long p.text.items new newer
    part.0 alone h over whole part.1 c.in-Err.ensures.counted))

pub returns-in-Err-close_short-clause-fault : goal.returns-in-Err-close_short-clause-fault
returns-in-Err-close_short-clause-fault g c = λ rest start old read h.
    let s = start.filter in
    let p = c.args.self.now in
    let q = c.close_short.new.self in
    let r = c.stop.new.self in
    let none = c.in-Err-close_short.ensures.none in
    stops-left c.stop.result s old read (bytes_of c.args.line ++ line_feed ∷ rest) p.filter r.filter p.begun.items
    p.is_long p.text.items q.text.items (g.W.Sink.contents c.args.writer.now) (g.W.Sink.contents c.stop.new.writer) h
    c.if-self.false none.1 c.stop.ensures.stopped (c.stop.ensures.filter ∙ none.0)

pub returns-in-Ok-end_part-clause-stands : goal.returns-in-Ok-end_part-clause-stands
returns-in-Ok-end_part-clause-stands g c = λ start old read h.
    let s = start.filter in
    let p = c.args.self.now in
    let q = c.close_short.new.self in
    let is = c.as_bytes-line.ensures in
    let line = c.as_bytes-line.result.now in
    let alone : split line ≡ ([], line) = rw is c.requires.line in
    let short = c.in_default.ensures in
    let now = g.W.Sink.contents c.args.writer.now in
    rw (← is) (Stands-written s old (read ++ (line ++ line_feed ∷ [])) q.filter q.begun.items q.is_long q.text.items
    c.end_part.new.text.items now (g.W.Sink.contents c.end_part.new.writer)
    (Stands-closed s old read line p.filter q.filter p.begun.items q.begun.items p.is_long q.is_long
    p.text.items q.text.items now alone h c.if-self.false short.added short.begun short.long)
    c.in-Ok-end_part.ensures.passes)

pub returns-in-Err-end_part-clause-fault : goal.returns-in-Err-end_part-clause-fault
returns-in-Err-end_part-clause-fault g c = λ rest start old read h.
    let s = start.filter in
    let p = c.args.self.now in
    let q = c.close_short.new.self in
    let is = c.as_bytes-line.ensures in
    let line = c.as_bytes-line.result.now in
    let alone : split line ≡ ([], line) = rw is c.requires.line in
    let now = g.W.Sink.contents c.args.writer.now in
    let new = g.W.Sink.contents c.end_part.new.writer in
    let short = c.in_default.ensures in
    let part = c.in-Err-end_part.ensures.prefix in
    rw (← is) (subst (λ all. WrotePrefix s old all q.filter new) (line_joined read line rest)
    (write-cut s old (read ++ (line ++ line_feed ∷ [])) rest q.filter q.filter q.begun.items q.is_long
    q.text.items now new part.0
    (Stands-closed s old read line p.filter q.filter p.begun.items q.begun.items p.is_long q.is_long
    p.text.items q.text.items now alone h c.if-self.false short.added short.begun short.long)
    (short.long ∙ c.if-self.false) part.1 refl))
