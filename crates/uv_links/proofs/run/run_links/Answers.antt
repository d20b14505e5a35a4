-- The base's text first, then the lines, and the line of counts.
use Rattle.std.proofs.Common.{◌≡◌, ◌+◌, ◌∙◌, [], ◌++◌, option_copied, sym, ap, subst, add-zero}
use Rattle.std.proofs.KnownBytes.{Consumes-nil}
use Rattle.std.specs.Io.KnownBytes.{IsAtEnd}
use Rattle.uv_lines.specs.declared.limits.LineLimits.{LineLimits}
use Rattle.uv_lines.specs.Framed.{Framed}
use Rattle.uv_lines.specs.Reported.{Reported}
use Rattle.uv_lines.specs.Run as run
use Rattle.uv_links.specs.Report.{ListSetting, count_line}
use Rattle.uv_links.specs.Reporting.{Says}
use Rattle.uv_links.specs.Run.{Leaves, Reports}
use Rattle.uv_links.proofs.ReportedLemmas.{Whole, base-left, fresh, leaves_by, run-failed, run-left, run-reports}
use Rattle.uv_links.proofs.run.run_links.Goals as goal

pub new-requires : goal.new-requires
new-requires g c = c.line_bytes.ensures.bounded

pub returns-in-Err-clause-fault : goal.returns-in-Err-clause-fault
returns-in-Err-clause-fault g c =
    let setting : ListSetting = record
    { profile = c.args.profile; base = option_copied c.args.base; line_bytes = c.args.limits.line_bytes } in
    let left = base-left c.in-Err.fault setting c.args.limits.lines (g.W.Sink.contents c.args.writer.now)
    (IsAtEnd (g.R.Source.remaining c.args.reader.now)) c.in-Err.ensures.fault in
    ([], Consumes-nil (g.R.Source.remaining c.args.reader.now), left.0)

pub returns-in-Err-clause-failed : goal.returns-in-Err-clause-failed
returns-in-Err-clause-failed g c =
    let setting : ListSetting = record
    { profile = c.args.profile; base = option_copied c.args.base; line_bytes = c.args.limits.line_bytes } in
    let left = base-left c.in-Err.fault setting c.args.limits.lines (g.W.Sink.contents c.args.writer.now)
    (IsAtEnd (g.R.Source.remaining c.args.reader.now)) c.in-Err.ensures.fault in
    let reads = g.R.Source.failed c.args.reader.now in
    let writes = g.W.Sink.failed c.args.writer.now in
    (sym (add-zero reads) ∙ ap (λ n. reads + n) (sym left.1), sym (add-zero writes) ∙ ap (λ n. writes + n) (sym left.2))

pub run_lines-reporter-requires-clause-reads : goal.run_lines-reporter-requires-clause-reads
run_lines-reporter-requires-clause-reads g c = c.requires.reads

pub run_lines-reporter-requires-clause-writes : goal.run_lines-reporter-requires-clause-writes
run_lines-reporter-requires-clause-writes g c = c.requires.writes

pub run_lines-reporter-requires-clause-short : goal.run_lines-reporter-requires-clause-short
run_lines-reporter-requires-clause-short g c = c.line_bytes-2.ensures.bounded

pub run_lines-reporter-requires-clause-few : goal.run_lines-reporter-requires-clause-few
run_lines-reporter-requires-clause-few g c = c.lines.ensures.bounded

pub run_lines-reporter-requires-clause-start : goal.run_lines-reporter-requires-clause-start
run_lines-reporter-requires-clause-start g c = ap (λ r. r.counts.lines) c.new-reporter.ensures

pub returns-in-Ok-answer-clause-report : goal.returns-in-Ok-answer-clause-report
returns-in-Ok-answer-clause-report g c =
    let setting : ListSetting = record
    { profile = c.args.profile; base = option_copied c.args.base; line_bytes = c.args.limits.line_bytes } in
    let limits : LineLimits = record { line_bytes = c.args.limits.line_bytes; lines = c.args.limits.lines } in
    let given : LineLimits = record { line_bytes = c.line_bytes-2.result; lines = c.lines.result } in
    let same_limits : given ≡ limits =
    ap (λ n. let l : LineLimits = record { line_bytes = n; lines = c.lines.result } in l) c.line_bytes-2.ensures.value
    ∙ ap (λ n. let l : LineLimits = record { line_bytes = c.args.limits.line_bytes; lines = n } in l)
    c.lines.ensures.value in
    let starts : c.new-reporter.result ≡ fresh setting =
    c.new-reporter.ensures ∙ ap fresh (c.in-Ok.ensures.setting
    ∙ ap (λ n. let s : ListSetting =
    record { profile = c.args.profile; base = option_copied c.args.base; line_bytes = n } in s)
    c.line_bytes.ensures.value) in
    let old = g.W.Sink.contents c.args.writer.now in
    let new = g.W.Sink.contents c.run_lines-reporter.new.writer in
    let q = c.run_lines-reporter.result.0 in
    let at_end = IsAtEnd (g.R.Source.remaining c.run_lines-reporter.new.reader) in
    let begin = c.none.result.begin.now in
    let end = c.none.result.end.now in
    let start = c.new-reporter.result in
    let r = rw c.in-Ok-answer.is at c.run_lines-reporter.ensures.report in
    let all : run.WroteAll (Whole setting) limits old r.0 q new =
    subst (λ p. run.WroteAll (Framed (Reported Says setting.line_bytes p) [] (λ s. count_line s.counts ++ [])) limits
    old r.0 q new) starts
    (subst (λ e. run.WroteAll (Framed (Reported Says setting.line_bytes start) [] (λ s. count_line s.counts ++ e))
    limits old r.0 q new) c.none.ensures.end
    (subst (λ b. run.WroteAll (Framed (Reported Says setting.line_bytes start) b (λ s. count_line s.counts ++ end))
    limits old r.0 q new) c.none.ensures.begin
    (subst (λ l. run.WroteAll (Framed (Reported Says l.line_bytes start) begin (λ s. count_line s.counts ++ end))
    l old r.0 q new) same_limits r.3))) in (
      r.0,
      r.1,
      r.2,
      subst (λ k. Reports setting c.args.limits.lines old r.0 k new) (sym c.counts.ensures)
          (run-reports setting c.args.limits.lines old new r.0 q all),
    )

pub returns-in-Ok-answer-clause-base : goal.returns-in-Ok-answer-clause-base
returns-in-Ok-answer-clause-base g c = c.in-Ok.ensures.agrees

pub returns-in-Ok-answer-clause-quiet : goal.returns-in-Ok-answer-clause-quiet
returns-in-Ok-answer-clause-quiet g c = rw c.in-Ok-answer.is at c.run_lines-reporter.ensures.quiet

pub returns-clause-fault : goal.returns-clause-fault
returns-clause-fault g c =
    let setting : ListSetting = record
    { profile = c.args.profile; base = option_copied c.args.base; line_bytes = c.args.limits.line_bytes } in
    let limits : LineLimits = record { line_bytes = c.args.limits.line_bytes; lines = c.args.limits.lines } in
    let given : LineLimits = record { line_bytes = c.line_bytes-2.result; lines = c.lines.result } in
    let same_limits : given ≡ limits =
    ap (λ n. let l : LineLimits = record { line_bytes = n; lines = c.lines.result } in l) c.line_bytes-2.ensures.value
    ∙ ap (λ n. let l : LineLimits = record { line_bytes = c.args.limits.line_bytes; lines = n } in l)
    c.lines.ensures.value in
    let starts : c.new-reporter.result ≡ fresh setting =
    c.new-reporter.ensures ∙ ap fresh (c.in-Ok.ensures.setting
    ∙ ap (λ n. let s : ListSetting =
    record { profile = c.args.profile; base = option_copied c.args.base; line_bytes = n } in s)
    c.line_bytes.ensures.value) in
    let old = g.W.Sink.contents c.args.writer.now in
    let new = g.W.Sink.contents c.run_lines-reporter.new.writer in
    let q = c.run_lines-reporter.result.0 in
    let at_end = IsAtEnd (g.R.Source.remaining c.run_lines-reporter.new.reader) in
    let begin = c.none.result.begin.now in
    let end = c.none.result.end.now in
    let start = c.new-reporter.result in
    let e = c.in-Err-answer.fault in
    let r = rw c.in-Err-answer.is at c.run_lines-reporter.ensures.fault in
    let left = leaves_by given limits begin end start (fresh setting) e old r.0 at_end q new same_limits
    c.none.ensures.begin c.none.ensures.end starts r.2 in (
      r.0,
      r.1,
      subst (λ f. Leaves f setting c.args.limits.lines old r.0 at_end new) (sym c.fault_of_run.ensures)
          (run-left e setting c.args.limits.lines old r.0 at_end q new left),
    )

pub returns-clause-failed : goal.returns-clause-failed
returns-clause-failed g c =
    let r = rw (c.in-Err-answer.is, c.none.ensures.end) at c.run_lines-reporter.ensures.failed in
    rw c.fault_of_run.ensures (run-failed c.in-Err-answer.fault (g.R.Source.failed c.args.reader.now)
    (g.R.Source.failed c.run_lines-reporter.new.reader) (g.W.Sink.failed c.args.writer.now)
    (g.W.Sink.failed c.run_lines-reporter.new.writer) r)
