-- Nothing is found with a valid text, and so its line isn't reported.
use Rattle.std.proofs.Common.{[], chars, option_copied, rules}
use Rattle.uv_grammar.specs.Verdict.{IsAccepted}
use Rattle.uv_lint.proofs.LineViolationLemmas.{valid_violations}
use Rattle.uv_lint.proofs.ReporterLemmas.{fine_line}
use Rattle.uv_lint.proofs.reporter.LintReporter.report_checked.Goals as goal

pub returns-in-Ok-Yes-clause-text : goal.returns-in-Ok-Yes-clause-text
returns-in-Ok-Yes-clause-text g c =
    let setting = c.args.self.now.setting in
    let text = chars c.args.checked.now in
    let parts = c.in-Ok-Yes.field-0-0 in
    let accepted : IsAccepted setting.profile setting.base text parts = search rules in
    fine_line c.args.self.now c.count.new.self (option_copied c.args.line) c.args.text.now.items
    (g.W.Sink.contents c.args.writer.now) (c.requires.checked [] (valid_violations setting text parts accepted))
    c.count.ensures
