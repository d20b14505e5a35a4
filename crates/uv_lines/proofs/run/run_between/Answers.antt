-- The list, taken line by line.
use Rattle.std.proofs.Common.{◌+◌, ◌∙◌, ap, refl, sym}
use Rattle.std.specs.Io.KnownBytes.{IsAtEnd}
use Rattle.uv_lines.proofs.PassLemmas.{Waits-start, list_to_run, waits_first}
use Rattle.uv_lines.proofs.run.run_between.Goals as goal

pub new-progress-requires-clause-short : goal.new-progress-requires-clause-short
new-progress-requires-clause-short g c = c.requires.short

pub new-progress-requires-clause-bounded : goal.new-progress-requires-clause-bounded
new-progress-requires-clause-bounded g c = c.requires.few

pub new-progress-requires-clause-start : goal.new-progress-requires-clause-start
new-progress-requires-clause-start g c = c.requires.start

pub take_list-requires-clause-reads : goal.take_list-requires-clause-reads
take_list-requires-clause-reads g c = c.requires.reads

pub take_list-requires-clause-writes : goal.take_list-requires-clause-writes
take_list-requires-clause-writes g c = c.requires.writes

pub take_list-requires-clause-start : goal.take_list-requires-clause-start
take_list-requires-clause-start g c =
    let p = c.new-progress.result in (
      Waits-start g.T.Reporter.reports g.T.Reporter.lines p.limits.line_bytes p.reporter
          (g.W.Sink.contents c.args.writer.now) p.begun.items p.text.items
          (rw c.new-progress.ensures.setting.0 c.requires.start) c.new-progress.ensures.begun
          c.new-progress.ensures.text,
      refl,
    )

pub take_list-requires-clause-rests : goal.take_list-requires-clause-rests
take_list-requires-clause-rests g c = c.new-progress.ensures.text

pub returns-in-Ok-clause-report : goal.returns-in-Ok-clause-report
returns-in-Ok-clause-report g c =
    rw (c.into_reporter.ensures, ← c.new-progress.ensures.setting.0, ← c.new-progress.ensures.setting.1)
    c.in-Ok.ensures.ends

pub returns-in-Ok-clause-quiet : goal.returns-in-Ok-clause-quiet
returns-in-Ok-clause-quiet g c = c.in-Ok.ensures.quiet

pub returns-in-Err-clause-fault : goal.returns-in-Err-clause-fault
returns-in-Err-clause-fault g c =
    let p = c.new-progress.result in
    let q = c.take_list.new.taker in
    let old = g.W.Sink.contents c.args.writer.now in
    let new = g.W.Sink.contents c.take_list.new.writer in
    let left = c.in-Err.ensures.fault in
    let is = list_to_run p (λ s. s.reporter) _ _ _ _ g.T.Reporter.reports g.T.Reporter.begins p.limits c.in-Err.fault
    old left.0 (IsAtEnd (g.R.Source.remaining c.take_list.new.reader)) q new (λ fault left. left) (λ fault left. left)
    (λ stands rests. waits_first g.T.Reporter.reports g.T.Reporter.lines p.limits p.reporter old new left.0 q.reporter
    q.begun.items q.text.items stands.0 rests) left.2 in
    rw (
      c.into_reporter-in-Err.ensures,
      c.fault_of_list.ensures,
      ← c.new-progress.ensures.setting.0,
      ← c.new-progress.ensures.setting.1,
    ) (left.0, left.1, is.0)

pub returns-in-Err-clause-failed : goal.returns-in-Err-clause-failed
returns-in-Err-clause-failed g c =
    let p = c.new-progress.result in
    let q = c.take_list.new.taker in
    let old = g.W.Sink.contents c.args.writer.now in
    let new = g.W.Sink.contents c.take_list.new.writer in
    let left = c.in-Err.ensures.fault in
    let is = list_to_run p (λ s. s.reporter) _ _ _ _ g.T.Reporter.reports g.T.Reporter.begins p.limits c.in-Err.fault
    old left.0 (IsAtEnd (g.R.Source.remaining c.take_list.new.reader)) q new (λ fault left. left) (λ fault left. left)
    (λ stands rests. waits_first g.T.Reporter.reports g.T.Reporter.lines p.limits p.reporter old new left.0 q.reporter
    q.begun.items q.text.items stands.0 rests) left.2 in
    let before = g.R.Source.failed c.args.reader.now in
    let written = g.W.Sink.failed c.args.writer.now in
    rw c.fault_of_list.ensures
    (left.3 ∙ ap (λ n. before + n) (sym is.1), left.4 ∙ ap (λ n. written + n) (sym is.2))
