-- The diagnostics so far were said: a beginning of them was written, and the rest waits. The columns belong to the
-- text's places.
use Rattle.std.proofs.Common.{◌≡◌, ◌++◌, ℕ, List, option_map, take}
use Rattle.uv_lines.specs.Waiting.{Passes}
use Rattle.uv_report.specs.Diagnostic.{fix_view}
use Rattle.uv_sentences.specs.Sentences.Message.{PlacedText}
use Rattle.uv_lint.specs.Findings.{AreMessages}
use Rattle.uv_lint.specs.Report.{fix_on}
use Rattle.uv_lint.specs.ReportedView.{mended_line_view, reported_view}
use Rattle.uv_lint.proofs.DiagnosticLemmas.{IsSaidBefore}
use Rattle.uv_lint.proofs.reported_line.ReportedLine.push.Given as goal

abbrev pub invariant-loop-violation : goal.invariant-loop-violation
invariant-loop-violation g l = record {
  said : (said : List ℕ) × Passes (l.initial.text.items ++ said) (g.W.Sink.contents l.initial.writer)
      (g.W.Sink.contents l.writer) l.text.items
      × ((messages : List PlacedText) × AreMessages (take l.violation-index l.violations) messages
      × IsSaidBefore l.setting.form l.setting.format l.setting.look l.setting.columns (reported_view l.self) l.is_first-2
      (fix_on l.setting.columns (reported_view l.self) (option_map mended_line_view l.mended))
      (take l.violation-index l.violations) messages said l.is_first (option_map fix_view l.fix));
  quiet : g.W.Sink.failed l.writer ≡ g.W.Sink.failed l.initial.writer;
  counter : l.counter ≡ record {
    columns = l.setting.columns;
    start = l.self.start;
    text = l.self.text.now;
  };
  known : l.known ≡ l.self.text.now;
}
