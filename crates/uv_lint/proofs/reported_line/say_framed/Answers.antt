-- The diagnostic comes to what waits whole, or not at all.
use Rattle.std.proofs.Common.{refl, subst, inl, inr}
use Rattle.uv_lines.specs.Waiting.{CutsOff, Passes}
use Rattle.uv_report.specs.Diagnostic.{diagnostic_view}
use Rattle.uv_lint.specs.Report.{one_text}
use Rattle.uv_lint.specs.Reporting.{IsNoneOr}
use Rattle.uv_lint.proofs.ReporterLemmas.{left_none}
use Rattle.uv_lint.proofs.reported_line.say_framed.Goals as goal

pub returns-in-Err-clause-fault : goal.returns-in-Err-clause-fault
returns-in-Err-clause-fault g c =
    let one = one_text c.args.setting.form c.args.setting.format c.args.setting.look c.args.is_first
    (diagnostic_view c.args.diagnostic.now) in
    left_none (IsNoneOr one) c.args.text.now.items c.append_framed.new.text.items
    (g.W.Sink.contents c.args.writer.now) (inl refl) c.in-Err.ensures.none

pub returns-in-Ok-clause-text : goal.returns-in-Ok-clause-text
returns-in-Ok-clause-text g c =
    subst (λ t. Passes t (g.W.Sink.contents c.args.writer.now) (g.W.Sink.contents c.end_part.new.writer)
    c.end_part.new.text.items) c.in_default.ensures.text c.in-Ok.ensures.passes

pub returns-in-Err-end_part-clause-fault : goal.returns-in-Err-end_part-clause-fault
returns-in-Err-end_part-clause-fault g c =
    let one = one_text c.args.setting.form c.args.setting.format c.args.setting.look c.args.is_first
    (diagnostic_view c.args.diagnostic.now) in (
      one,
      inr refl,
      subst (λ t. CutsOff t (g.W.Sink.contents c.args.writer.now) (g.W.Sink.contents c.end_part.new.writer))
          c.in_default.ensures.text c.in-Err-end_part.ensures.prefix,
    )
