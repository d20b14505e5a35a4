-- A line that goes on or begins at a piece's end.
use Rattle.std.proofs.Common.{arith}
use Rattle.std.proofs.lemmas.Grind.{common_steps}
use Rattle.uv_lines.proofs.PassLemmas.{Waits-growing, many-fault, memory-fault, waits_nothing}
use Rattle.uv_lines.proofs.progress.Progress.begin_line.Goals as goal

pub returns-then-is_empty-clause-waits : goal.returns-then-is_empty-clause-waits
returns-then-is_empty-clause-waits g c = λ now start old read h.
    let p = c.args.self.now in
    waits_nothing g.R.Reporter.reports g.R.Reporter.lines p.limits.line_bytes start old now read c.args.rest.now
    p.reporter p.begun.items p.text.items (grind (arith, common_steps, c.if-is_empty.true, c.is_empty.ensures)) h

pub returns-then-line_count-self-clause-fault : goal.returns-then-line_count-self-clause-fault
returns-then-line_count-self-clause-fault g c = λ now start old read h.
    let p = c.args.self.now in
    many-fault g.R.Reporter.reports g.R.Reporter.lines p.limits start old now read c.args.rest.now
    p.reporter p.begun.items p.text.items h
    (grind (arith, common_steps, c.if-line_count-self.true, c.line_count.ensures))
    (grind (arith, common_steps, c.if-is_empty.false, c.is_empty.ensures))

pub returns-in-Ok-clause-waits : goal.returns-in-Ok-clause-waits
returns-in-Ok-clause-waits g c = λ now start old read h.
    let p = c.args.self.now in
    let q = c.keep.new.self in
    let same = c.in-Ok.ensures.rest in
    Waits-growing g.R.Reporter.reports g.R.Reporter.lines p.limits.line_bytes start old now read c.args.rest.now
    p.reporter q.reporter p.begun.items q.begun.items p.text.items q.text.items c.requires h c.in-Ok.ensures.kept
    same.0 same.2

pub returns-in-Err-clause-fault : goal.returns-in-Err-clause-fault
returns-in-Err-clause-fault g c = λ now start old read h.
    let p = c.args.self.now in
    let q = c.keep.new.self in
    let same = c.in-Err.ensures.rest in
    memory-fault g.R.Reporter.reports g.R.Reporter.lines p.limits start old now read
    c.args.rest.now p.reporter q.reporter p.begun.items p.text.items q.text.items h same.0 same.2
