-- The frame of a file, and the run over its lines in it.
use Rattle.std.proofs.Common.{◌≡◌, ◌+◌, ℕ, List, [], sym, ap, ◌∙◌, inl, add-zero, refl}
use Rattle.std.proofs.KnownBytes.{Consumes-nil, Keeps-refl}
use Rattle.std.specs.Io.KnownBytes.{Consumes, IsAtEnd}
use Rattle.uv_lines.specs.Fault.{writes_failed}
use Rattle.uv_lines.specs.Framed as framed
use Rattle.uv_lines.specs.Framed.{Framed, LeavesPart}
use Rattle.uv_lines.specs.Reported.{Reported, ReportedPart}
use Rattle.uv_lines.specs.Run as run
use Rattle.uv_lines.proofs.FramedLemmas.{LeavesPart-map, Wrote-map}
use Rattle.uv_lint.specs.LineViolations.{file_setting}
use Rattle.uv_lint.specs.Reporting.{Begins, Says}
use Rattle.uv_lint.specs.Run.{FailsReads, IsPartWithin, IsReportWithin, Leaves, Reports}
use Rattle.uv_lint.proofs.RunLemmas.{answers_err, answers_ok, failed, is_part, is_report, left}
use Rattle.uv_lint.proofs.run.run_within.Goals as goal

pub run_lines-reporter-requires-clause-reads : goal.run_lines-reporter-requires-clause-reads
run_lines-reporter-requires-clause-reads g c = c.requires.reads

pub run_lines-reporter-requires-clause-writes : goal.run_lines-reporter-requires-clause-writes
run_lines-reporter-requires-clause-writes g c = c.requires.writes

pub run_lines-reporter-requires-clause-short : goal.run_lines-reporter-requires-clause-short
run_lines-reporter-requires-clause-short g c = c.requires.short

pub run_lines-reporter-requires-clause-few : goal.run_lines-reporter-requires-clause-few
run_lines-reporter-requires-clause-few g c = c.requires.few

pub run_lines-reporter-requires-clause-start : goal.run_lines-reporter-requires-clause-start
run_lines-reporter-requires-clause-start g c = ap (λ r. r.lines) c.new-reporter.ensures

pub same-reporter : goal.same-reporter
same-reporter g c = refl

-- if no memory was left before the first write
pub returns-in_default-clause-fault : goal.returns-in_default-clause-fault
returns-in_default-clause-fault g c = (
  [],
  Consumes-nil (g.R.Source.remaining c.args.reader.now),
  inl (record {
    none_read = refl;
    kept = Keeps-refl (g.W.Sink.contents c.args.writer.now);
    none = c.counts.ensures ∙ ap (λ r. r.counts) c.new-reporter.ensures;
  }),
)

pub returns-in_default-clause-failed : goal.returns-in_default-clause-failed
returns-in_default-clause-failed g c = (refl, sym (add-zero (g.W.Sink.failed c.args.writer.now)))

-- the run over the lines
pub returns-clause-report : goal.returns-clause-report
returns-clause-report g c =
    let setting = file_setting c.args.file.now c.args.setting in
    let limits = c.args.limits in
    let n = limits.line_bytes in
    let is_first = c.args.is_first in
    let old = g.W.Sink.contents c.args.writer.now in
    let new = g.W.Sink.contents c.run_lines-reporter.new.writer in
    let bytes = g.R.Source.remaining c.args.reader.now in
    let rest = g.R.Source.remaining c.run_lines-reporter.new.reader in
    let begin = c.as_bytes.result.now in
    let end = c.as_bytes-2.result.now in
    let start = c.new-reporter.result in
    let q = c.run_lines-reporter.result.0 in
    let P = Framed (Reported Says n start) begin (λ _. end) in
    let Q = IsReportWithin setting limits is_first in
    rw (c.counts-2.ensures, c.answer_of_run.ensures) (answers_ok c.run_lines-reporter.result.1
    ((read : List ℕ) × Consumes bytes rest read × IsAtEnd rest × run.WroteAll P limits old read q new)
    ((read : List ℕ) × Consumes bytes rest read × IsAtEnd rest
    × Reports setting limits is_first old read q.counts new)
    (λ all. (
      all.0,
      all.1,
      all.2,
      record {
        wrote = Wrote-map P Q _ old new q q.counts (λ lines text.
            is_report setting n is_first begin end start q lines text c.new-reporter.ensures
            (c.as_bytes.ensures.value ∙ c.in-Ok.ensures)
            (c.as_bytes-2.ensures.value ∙ c.list_end-end.ensures)) all.3.wrote;
        few = all.3.few;
      },
    )) c.run_lines-reporter.ensures.report)

pub returns-clause-fault : goal.returns-clause-fault
returns-clause-fault g c =
    let setting = file_setting c.args.file.now c.args.setting in
    let limits = c.args.limits in
    let n = limits.line_bytes in
    let is_first = c.args.is_first in
    let old = g.W.Sink.contents c.args.writer.now in
    let new = g.W.Sink.contents c.run_lines-reporter.new.writer in
    let bytes = g.R.Source.remaining c.args.reader.now in
    let rest = g.R.Source.remaining c.run_lines-reporter.new.reader in
    let begin = c.as_bytes.result.now in
    let end = c.as_bytes-2.result.now in
    let start = c.new-reporter.result in
    let q = c.run_lines-reporter.result.0 in
    let P = Framed (Reported Says n start) begin (λ _. end) in
    let P' = Framed (ReportedPart Says Begins n start) begin (λ _. end) in
    let Q = IsReportWithin setting limits is_first in
    let Q' = IsPartWithin setting limits is_first in
    let part : (lines : List (List ℕ)) (text : List ℕ) → P' lines text q → Q' lines text q.counts =
    λ lines text. is_part setting limits is_first begin end start q lines text
    c.new-reporter.ensures (c.as_bytes.ensures.value ∙ c.in-Ok.ensures)
    (c.as_bytes-2.ensures.value ∙ c.list_end-end.ensures) in
    let is : (lines : List (List ℕ)) (text : List ℕ) → P lines text q → Q lines text q.counts =
    λ lines text. is_report setting n is_first begin end start q lines text
    c.new-reporter.ensures (c.as_bytes.ensures.value ∙ c.in-Ok.ensures)
    (c.as_bytes-2.ensures.value ∙ c.list_end-end.ensures) in
    rw (c.counts-2.ensures, c.answer_of_run.ensures) (answers_err c.run_lines-reporter.result.1
    (λ e. (read : List ℕ) × Consumes bytes rest read × LeavesPart P P' P limits e old read (IsAtEnd rest) q new)
    (λ e. (read : List ℕ) × Consumes bytes rest read
    × Leaves e setting limits is_first old read (IsAtEnd rest) q.counts new)
    (λ e all. (
      all.0,
      all.1,
      left e setting limits is_first old all.0 (IsAtEnd rest) q.counts new
          (LeavesPart-map P P' P Q Q' limits e old new all.0 (IsAtEnd rest) q q.counts is part
          (λ lines text whole. inl (is lines text whole)) all.2),
    ))
    c.run_lines-reporter.ensures.fault)

pub returns-clause-failed : goal.returns-clause-failed
returns-clause-failed g c =
    let reads = g.R.Source.failed c.args.reader.now in
    let reads' = g.R.Source.failed c.run_lines-reporter.new.reader in
    let writes = g.W.Sink.failed c.args.writer.now in
    let writes' = g.W.Sink.failed c.run_lines-reporter.new.writer in
    let end = c.as_bytes-2.result.now in
    rw c.answer_of_run.ensures (answers_err c.run_lines-reporter.result.1
    (λ e. framed.FailsReads end e reads reads' × (writes' ≡ writes + run.writes_failed e))
    (λ e. FailsReads e reads reads' × (writes' ≡ writes + writes_failed e))
    (λ e. failed e end reads reads' writes writes') c.run_lines-reporter.ensures.failed)

pub returns-clause-quiet : goal.returns-clause-quiet
returns-clause-quiet g c =
    let reads = g.R.Source.failed c.args.reader.now in
    let reads' = g.R.Source.failed c.run_lines-reporter.new.reader in
    let writes = g.W.Sink.failed c.args.writer.now in
    let writes' = g.W.Sink.failed c.run_lines-reporter.new.writer in
    rw c.answer_of_run.ensures (answers_ok c.run_lines-reporter.result.1
    ((reads' ≡ reads) × (writes' ≡ writes)) ((reads' ≡ reads) × (writes' ≡ writes)) (λ same. same)
    c.run_lines-reporter.ensures.quiet)
