-- What is asked for is what the first diagnostic says, and the diagnostics on the text come to what waits.
use Rattle.std.proofs.Common.{option_map, subst, refl, inl, inr}
use Rattle.uv_lint.specs.ReportedView.{mended_line_view, shown_at}
use Rattle.uv_lint.specs.Reporting.{HasBegun, HasReported}
use Rattle.uv_lint.proofs.ReporterLemmas.{left_none, on_ok, parts_left}
use Rattle.uv_lint.proofs.reporter.LintReporter.report_text.Goals as goal

pub returns-in_default-clause-fault : goal.returns-in_default-clause-fault
returns-in_default-clause-fault g c =
    left_none (HasBegun c.args.self.now (shown_at c.args.place c.args.shown.now) c.args.violations.now)
    c.args.text.now.items c.args.text.now.items (g.W.Sink.contents c.args.writer.now) (inl refl) refl

pub returns-clause-text : goal.returns-clause-text
returns-clause-text g c =
    let reported = shown_at c.args.place c.args.shown.now in
    let old = g.W.Sink.contents c.args.writer.now in
    let new = g.W.Sink.contents c.push.new.writer in
    on_ok c.push.result _ _
    (λ said. subst (λ p. HasReported p reported c.args.violations.now c.args.text.now.items old new
    c.push.new.text.items) c.self.view_is (option_map mended_line_view c.in-Ok.mended, rw c.known_text-known.ensures at c.in-Ok.ensures, said))
    c.push.ensures.text

pub returns-clause-fault : goal.returns-clause-fault
returns-clause-fault g c =
    let reported = shown_at c.args.place c.args.shown.now in
    let old = g.W.Sink.contents c.args.writer.now in
    let new = g.W.Sink.contents c.push.new.writer in
    parts_left c.push.result _ (HasBegun c.args.self.now reported c.args.violations.now) c.args.text.now.items old
    c.push.new.text.items new
    (λ parts first. subst (λ p. HasBegun p reported c.args.violations.now parts) c.self.view_is
    (inr (option_map mended_line_view c.in-Ok.mended, rw c.known_text-known.ensures at c.in-Ok.ensures, first))) c.push.ensures.fault
