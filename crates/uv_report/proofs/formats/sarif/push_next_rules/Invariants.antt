-- The rules so far are after their commas.
use Rattle.std.proofs.Common.{◌≡◌, ◌++◌, flat_map, take, string_bytes}
use Rattle.uv_report.specs.Formats.Sarif.{next_rule}
use Rattle.uv_shown.specs.Rule.{rule_view}
use Rattle.uv_report.proofs.formats.sarif.push_next_rules.Given as goal

abbrev pub invariant-loop-rule : goal.invariant-loop-rule
invariant-loop-rule l =
    string_bytes l.text
    ≡ string_bytes l.initial.text ++ flat_map (λ rule. next_rule (rule_view rule)) (take l.rule-index l.rules)
