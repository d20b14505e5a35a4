-- What is shown of a text that is there is what is shown of the line.
use Rattle.std.proofs.Common.{◌≡◌, ◌+◌, ◌∙◌, option_copied, ap, subst, sym}
use Rattle.uv_lint.specs.Findings.{IsRefusedFirst, IsUtf8WhereRefused, bytes_by, text_by}
use Rattle.uv_lint.specs.LineViolations.{link_of}
use Rattle.uv_lint.specs.Report.{reported_by}
use Rattle.uv_lint.specs.ReportedView.{place_view, shown_at}
use Rattle.uv_lint.specs.Reporting.{HasBegun, HasBegunLine, next_text, with_line}
use Rattle.uv_lint.proofs.LineViolationLemmas.{read_line, refused_line}
use Rattle.uv_lint.proofs.ReporterLemmas.{LeavesParts-map, line_begun, line_reported, reported_text}
use Rattle.uv_lint.proofs.reporter.LintReporter.report_line.Goals as goal

-- where a rule is violated, they are UTF-8
pub shown_text-requires : goal.shown_text-requires
shown_text-requires g c =
    let setting = c.args.self.now.setting in
    let line = option_copied c.args.line in
    let inside = c.self.inside in
    let is : option_copied c.of-place.result.bytes ≡ bytes_by (link_of setting.form line) line =
    c.of-place.ensures.bytes
    ∙ ap (λ l. bytes_by l line) c.link_of-link.ensures
    ∙ ap (λ r. bytes_by (link_of r.setting.form line) line) c.self.view_is in
    subst (λ b. IsUtf8WhereRefused c.args.violations.now b) (sym is)
    (read_line setting (link_of setting.form line) line c.args.violations.now c.requires.found)

pub report_text-requires-clause-refused : goal.report_text-requires-clause-refused
report_text-requires-clause-refused g c =
    let before = c.args.self.now in
    let line = option_copied c.args.line in
    let link = link_of before.setting.form line in
    let inside = c.self.inside in
    let stands : place_view c.of-place.result ≡ reported_by before.setting.file (before.lines + 1) line link =
    c.of-place.ensures.place
    ∙ ap (λ l. reported_by inside.file.now (inside.lines + 1) line l) c.link_of-link.ensures
    ∙ ap (λ r. reported_by r.setting.file (r.lines + 1) line (link_of r.setting.form line)) c.self.view_is in
    let is : c.as_str.result.now ≡ text_by link line =
    c.as_str.ensures.value ∙ c.in-Ok.ensures ∙ ap (λ r. r.text) stands
    ∙ reported_text before.setting.file (before.lines + 1) line link in
    subst (λ t. IsRefusedFirst before.setting.profile before.setting.base c.args.violations.now t) (sym is)
    (refused_line before.setting link line c.args.violations.now c.requires.found)

pub returns-in-Ok-report_text-clause-text : goal.returns-in-Ok-report_text-clause-text
returns-in-Ok-report_text-clause-text g c =
    let before = c.args.self.now in
    let line = option_copied c.args.line in
    let violations = c.args.violations.now in
    let inside = c.self.inside in
    let stands : place_view c.of-place.result ≡ next_text before line =
    c.of-place.ensures.place
    ∙ ap (λ link. reported_by inside.file.now (inside.lines + 1) line link) c.link_of-link.ensures
    ∙ ap (λ r. next_text r line) c.self.view_is in
    record {
      violations = violations;
      found = c.requires.found;
      said = line_reported before line c.of-place.result c.as_str.result.now violations c.args.text.now.items
          (g.W.Sink.contents c.args.writer.now) (g.W.Sink.contents c.report_text.new.writer)
          c.report_text.new.text.items stands (c.as_str.ensures.value ∙ c.in-Ok.ensures)
          c.in-Ok-report_text.ensures.text;
      left = c.count.ensures ∙ ap (λ r. with_line r line violations) c.report_text.ensures.same;
    }

pub returns-clause-fault : goal.returns-clause-fault
returns-clause-fault g c =
    let before = c.args.self.now in
    let line = option_copied c.args.line in
    let violations = c.args.violations.now in
    let inside = c.self.inside in
    let stands : place_view c.of-place.result ≡ next_text before line =
    c.of-place.ensures.place
    ∙ ap (λ link. reported_by inside.file.now (inside.lines + 1) line link) c.link_of-link.ensures
    ∙ ap (λ r. next_text r line) c.self.view_is in
    LeavesParts-map (HasBegun before (shown_at c.of-place.result c.as_str.result.now) violations)
    (HasBegunLine before line) c.in-Err.fault c.args.text.now.items (g.W.Sink.contents c.args.writer.now)
    c.report_text.new.text.items (g.W.Sink.contents c.report_text.new.writer)
    (λ parts begun. line_begun before line c.of-place.result c.as_str.result.now violations parts stands
    (c.as_str.ensures.value ∙ c.in-Ok.ensures) c.requires.found begun) c.in-Err.ensures.fault
