-- The six pieces of the beginning.
use Rattle.std.proofs.Common.{map, string_bytes}
use Rattle.uv_shown.specs.Rule.{rule_view}
use Rattle.uv_report.specs.Formats.Sarif.{all_rules, driver_begin, sarif_begin}
use Rattle.uv_report.proofs.PieceLemmas.{six_pieces}
use Rattle.uv_report.proofs.formats.sarif.push_sarif_begin.Goals as goal

pub returns : goal.returns
unfolding sarif_begin
returns c =
    rw (← c.column_kind.ensures)
    (six_pieces (string_bytes c.args.text.now) _ _ c.column_kind.result.now driver_begin
    (all_rules (map rule_view c.args.rules.now)) _
    c.in_ok-push_str.ensures.bytes c.in_ok-push_str-2.ensures.bytes c.in_ok-push_str-3.ensures.bytes
    c.in_ok-push_str-4.ensures.bytes c.in_ok-push_rules.ensures c.in_ok-push_str-5.ensures.bytes)
