-- Nothing is found with a line that isn't checked, and so it isn't reported.
use Rattle.std.proofs.Common.{◌∙◌, [], ap, option_map, sym}
use Rattle.uv_lines.specs.Line.{bytes_of}
use Rattle.uv_lint.specs.Report.{checked_of}
use Rattle.uv_lint.specs.Reporting.{with_line}
use Rattle.uv_lint.proofs.LineViolationLemmas.{unchecked_violations}
use Rattle.uv_lint.proofs.ReporterLemmas.{fine_line}
use Rattle.uv_lint.proofs.reporter.LintReporter.report_other.Goals as goal

pub returns-then-not-is_checked-clause-text : goal.returns-then-not-is_checked-clause-text
returns-then-not-is_checked-clause-text g c =
    let before = c.args.self.now in
    let line = option_map bytes_of c.args.line in
    fine_line before c.count.new.self line c.args.text.now.items (g.W.Sink.contents c.args.writer.now)
    (unchecked_violations before.setting line (sym (ap checked_of c.line_bytes-bytes.ensures)
    ∙ c.if-not-is_checked.ensures)) (c.count.ensures ∙ ap (λ l. with_line before l []) c.line_bytes-bytes.ensures)
