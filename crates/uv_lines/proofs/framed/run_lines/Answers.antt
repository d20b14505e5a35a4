-- The frame's beginning first, then the lines, and what comes after them.
use Rattle.std.proofs.Common.{◌++◌, [], subst, inl, refl}
use Rattle.std.proofs.KnownBytes.{Consumes-nil}
use Rattle.std.specs.Io.KnownBytes.{Consumes, IsAtEnd}
use Rattle.uv_lines.specs.Reported.{Reported, ReportedPart}
use Rattle.uv_lines.specs.Framed.{Framed}
use Rattle.uv_lines.proofs.FramedLemmas.{Fails, begin_cut, ended, ended_err, ended_ok, fails, fails_err, fails_ok}
use Rattle.uv_lines.proofs.FramedLemmas.{may_go_on, ran, stops}
use Rattle.uv_lines.proofs.framed.run_lines.Goals as goal

pub write_whole-requires : goal.write_whole-requires
write_whole-requires g c = c.requires.writes

pub run_between-reporter-requires-clause-reads : goal.run_between-reporter-requires-clause-reads
run_between-reporter-requires-clause-reads g c = c.requires.reads

pub run_between-reporter-requires-clause-writes : goal.run_between-reporter-requires-clause-writes
run_between-reporter-requires-clause-writes g c = rw c.in_default.ensures.quiet c.requires.writes

pub run_between-reporter-requires-clause-short : goal.run_between-reporter-requires-clause-short
run_between-reporter-requires-clause-short g c = c.requires.short

pub run_between-reporter-requires-clause-few : goal.run_between-reporter-requires-clause-few
run_between-reporter-requires-clause-few g c = c.requires.few

pub run_between-reporter-requires-clause-start : goal.run_between-reporter-requires-clause-start
run_between-reporter-requires-clause-start g c = c.requires.start

pub write_end-answer-requires : goal.write_end-answer-requires
write_end-answer-requires g c =
    let reads = g.R.Source.failed c.args.reader.now in
    let reads' = g.R.Source.failed c.run_between-reporter.new.reader in
    let writes = g.W.Sink.failed c.write_whole.new.out in
    let writes' = g.W.Sink.failed c.run_between-reporter.new.writer in
    may_go_on c.run_between-reporter.result.1 reads reads' writes writes' 18446744073709551615
    (stops c.run_between-reporter.result.1 reads reads' writes writes' c.run_between-reporter.ensures.quiet
    c.run_between-reporter.ensures.failed)
    (rw c.in_default.ensures.quiet c.requires.writes)

-- where the first write failed
pub returns-in-Err-clause-fault : goal.returns-in-Err-clause-fault
returns-in-Err-clause-fault g c =
    let prefix = c.in-Err.ensures.prefix in (
      [],
      Consumes-nil (g.R.Source.remaining c.args.reader.now),
      inl (begin_cut (ReportedPart g.T.Reporter.reports g.T.Reporter.begins c.args.limits.line_bytes c.args.reporter)
          c.args.frame.begin.now (λ _. c.args.frame.end.now) c.args.reporter (g.W.Sink.contents c.args.writer.now)
          (g.W.Sink.contents c.write_whole.new.out) prefix.0 (inl (refl, refl)) prefix.1),
    )

pub returns-in-Err-clause-failed : goal.returns-in-Err-clause-failed
returns-in-Err-clause-failed g c = (inl refl, c.in-Err.ensures.failed)

-- after the lines
pub returns-clause-report : goal.returns-clause-report
returns-clause-report g c =
    let limits = c.args.limits in
    let P = Reported g.T.Reporter.reports limits.line_bytes c.args.reporter in
    let P' = ReportedPart g.T.Reporter.reports g.T.Reporter.begins limits.line_bytes c.args.reporter in
    let last = g.T.Reporter.last in
    let begin = c.args.frame.begin.now in
    let end = c.args.frame.end.now in
    let old = g.W.Sink.contents c.args.writer.now in
    let mid = g.W.Sink.contents c.write_whole.new.out in
    let now = g.W.Sink.contents c.run_between-reporter.new.writer in
    let new = g.W.Sink.contents c.write_end-answer.new.writer in
    let bytes = g.R.Source.remaining c.args.reader.now in
    let left = g.R.Source.remaining c.run_between-reporter.new.reader in
    let answer = c.run_between-reporter.result.1 in
    let q = c.run_between-reporter.result.0 in
    let lines = ran P P' limits answer (λ read. Consumes bytes left read) mid
    (IsAtEnd left) q now c.run_between-reporter.ensures.report c.run_between-reporter.ensures.fault in
    ended_ok (Framed P begin (λ _. end)) (Framed P' begin (λ _. end)) (Framed P begin (λ s. last s ++ end)) limits
    c.write_end-answer.result (λ read. Consumes bytes left read) old lines.0 (IsAtEnd left) q new lines.1
    (ended P P' limits begin end last answer c.write_end-answer.result old mid now new lines.0 (IsAtEnd left) q
    (g.W.Sink.failed c.run_between-reporter.new.writer) (g.W.Sink.failed c.write_end-answer.new.writer)
    (λ lines text all. inl all) c.in_default.ensures.whole lines.2 c.write_end-answer.ensures)

pub returns-clause-fault : goal.returns-clause-fault
returns-clause-fault g c =
    let limits = c.args.limits in
    let P = Reported g.T.Reporter.reports limits.line_bytes c.args.reporter in
    let P' = ReportedPart g.T.Reporter.reports g.T.Reporter.begins limits.line_bytes c.args.reporter in
    let last = g.T.Reporter.last in
    let begin = c.args.frame.begin.now in
    let end = c.args.frame.end.now in
    let old = g.W.Sink.contents c.args.writer.now in
    let mid = g.W.Sink.contents c.write_whole.new.out in
    let now = g.W.Sink.contents c.run_between-reporter.new.writer in
    let new = g.W.Sink.contents c.write_end-answer.new.writer in
    let bytes = g.R.Source.remaining c.args.reader.now in
    let left = g.R.Source.remaining c.run_between-reporter.new.reader in
    let answer = c.run_between-reporter.result.1 in
    let q = c.run_between-reporter.result.0 in
    let lines = ran P P' limits answer (λ read. Consumes bytes left read) mid
    (IsAtEnd left) q now c.run_between-reporter.ensures.report c.run_between-reporter.ensures.fault in
    ended_err (Framed P begin (λ _. end)) (Framed P' begin (λ _. end)) (Framed P begin (λ s. last s ++ end)) limits
    c.write_end-answer.result (λ read. Consumes bytes left read) old lines.0 (IsAtEnd left) q new lines.1
    (ended P P' limits begin end last answer c.write_end-answer.result old mid now new lines.0 (IsAtEnd left) q
    (g.W.Sink.failed c.run_between-reporter.new.writer) (g.W.Sink.failed c.write_end-answer.new.writer)
    (λ lines text all. inl all) c.in_default.ensures.whole lines.2 c.write_end-answer.ensures)

pub returns-clause-failed : goal.returns-clause-failed
returns-clause-failed g c =
    let answer = c.run_between-reporter.result.1 in
    let result = c.write_end-answer.result in
    let end = c.args.frame.end.now in
    let last = g.T.Reporter.last c.run_between-reporter.result.0 in
    let reads = g.R.Source.failed c.args.reader.now in
    let reads' = g.R.Source.failed c.run_between-reporter.new.reader in
    let writes = g.W.Sink.failed c.write_whole.new.out in
    let writes' = g.W.Sink.failed c.run_between-reporter.new.writer in
    let writes'' = g.W.Sink.failed c.write_end-answer.new.writer in
    fails_err end result reads reads' (g.W.Sink.failed c.args.writer.now) writes''
    (subst (λ n. Fails end result reads reads' n writes'') c.in_default.ensures.quiet
    (fails last end answer result (g.W.Sink.contents c.run_between-reporter.new.writer)
    (g.W.Sink.contents c.write_end-answer.new.writer) reads reads' writes writes' writes''
    (stops answer reads reads' writes writes' c.run_between-reporter.ensures.quiet
    c.run_between-reporter.ensures.failed) c.write_end-answer.ensures))

pub returns-clause-quiet : goal.returns-clause-quiet
returns-clause-quiet g c =
    let answer = c.run_between-reporter.result.1 in
    let result = c.write_end-answer.result in
    let end = c.args.frame.end.now in
    let last = g.T.Reporter.last c.run_between-reporter.result.0 in
    let reads = g.R.Source.failed c.args.reader.now in
    let reads' = g.R.Source.failed c.run_between-reporter.new.reader in
    let writes = g.W.Sink.failed c.write_whole.new.out in
    let writes' = g.W.Sink.failed c.run_between-reporter.new.writer in
    let writes'' = g.W.Sink.failed c.write_end-answer.new.writer in
    fails_ok end result reads reads' (g.W.Sink.failed c.args.writer.now) writes''
    (subst (λ n. Fails end result reads reads' n writes'') c.in_default.ensures.quiet
    (fails last end answer result (g.W.Sink.contents c.run_between-reporter.new.writer)
    (g.W.Sink.contents c.write_end-answer.new.writer) reads reads' writes writes' writes''
    (stops answer reads reads' writes writes' c.run_between-reporter.ensures.quiet
    c.run_between-reporter.ensures.failed) c.write_end-answer.ensures))
