-- The report on a line, and what a fault leaves of it.
use Rattle.std.proofs.Common.{◌∙◌, Some, ap, option_map, sym}
use Rattle.uv_lines.specs.Line.{bytes_of}
use Rattle.uv_lint.proofs.ReporterLemmas.{adds_line, leaves_line}
use Rattle.uv_lint.proofs.reporter.LintReporterReporter.report.Goals as goal

pub returns-in-Some-clause-added : goal.returns-in-Some-clause-added
returns-in-Some-clause-added g c =
    adds_line c.report_checked.result c.args.self.now c.report_checked.new.self c.self.inside.lines
    (option_map bytes_of c.args.line) (Some c.as_bytes.result.now) c.args.text.now.items
    (g.W.Sink.contents c.args.writer.now) (g.W.Sink.contents c.report_checked.new.writer)
    c.report_checked.new.text.items (sym (ap (λ r. r.lines) c.self.view_is))
    (ap Some c.as_bytes.ensures.value ∙ sym c.in-Some.ensures.whole ∙ c.checked_line-line.ensures)
    c.report_checked.ensures.text

pub returns-in-Some-clause-fault : goal.returns-in-Some-clause-fault
returns-in-Some-clause-fault g c =
    leaves_line c.report_checked.result c.args.self.now c.self.inside.lines (option_map bytes_of c.args.line)
    (Some c.as_bytes.result.now) c.args.text.now.items (g.W.Sink.contents c.args.writer.now)
    (g.W.Sink.contents c.report_checked.new.writer) c.report_checked.new.text.items
    (sym (ap (λ r. r.lines) c.self.view_is))
    (ap Some c.as_bytes.ensures.value ∙ sym c.in-Some.ensures.whole ∙ c.checked_line-line.ensures)
    c.report_checked.ensures.fault

pub returns-in-None-clause-added : goal.returns-in-None-clause-added
returns-in-None-clause-added g c =
    adds_line c.report_other.result c.args.self.now c.report_other.new.self c.self.inside.lines
    (option_map bytes_of c.args.line) (option_map bytes_of c.checked_line-line.result) c.args.text.now.items
    (g.W.Sink.contents c.args.writer.now) (g.W.Sink.contents c.report_other.new.writer)
    c.report_other.new.text.items (sym (ap (λ r. r.lines) c.self.view_is)) c.checked_line-line.ensures
    c.report_other.ensures.text

pub returns-in-None-clause-fault : goal.returns-in-None-clause-fault
returns-in-None-clause-fault g c =
    leaves_line c.report_other.result c.args.self.now c.self.inside.lines (option_map bytes_of c.args.line)
    (option_map bytes_of c.checked_line-line.result) c.args.text.now.items (g.W.Sink.contents c.args.writer.now)
    (g.W.Sink.contents c.report_other.new.writer) c.report_other.new.text.items
    (sym (ap (λ r. r.lines) c.self.view_is)) c.checked_line-line.ensures c.report_other.ensures.fault
