-- The counts after the lines.
use Rattle.std.proofs.Common.{◌++◌, ◌∙◌, ap, length, string_bytes}
use Rattle.serde_json.specs.View.{items_view}
use Rattle.uv_vectors.specs.Case.{list_of}
use Rattle.uv_vectors.proofs.ReportLemmas.{length-items_view, report_of}
use Rattle.uv_vectors.proofs.report.report_on.Goals as goal

pub returns : goal.returns
returns c =
    let values = c.args.values.now in
    let lines = string_bytes c.in_ok-failed.text in
    report_of (list_of (items_view values)) c.end_after.result (length values) c.in_ok-failed.failed lines
    (string_bytes c.push_str.new.self) c.in_ok-failed.ensures.lines (length-items_view values)
    (c.in_ok-push_str.ensures.bytes ∙ ap (λ t. lines ++ t) (c.as_str.ensures.value ∙ c.in_ok-counts.ensures))
    c.end_after.ensures
