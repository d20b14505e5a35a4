-- The first rule, and each of the others after a comma.
use Rattle.std.proofs.Common.{◌≡◌, ◌∙◌, ◌++◌, OnOk, ap, append_assoc, flat_map, map, string_bytes, subst, sym}
use Rattle.uv_report.specs.Formats.Sarif.{all_rules, next_rule, rule_text}
use Rattle.uv_shown.specs.Rule.{rule_view}
use Rattle.uv_report.proofs.PieceLemmas.{flat_map_mapped}
use Rattle.uv_report.proofs.formats.sarif.push_rules.Goals as goal

pub returns : goal.returns
returns c =
    let old = string_bytes c.args.text.now in
    let rest = c.in-Some.rest.now in
    let first = rule_text (rule_view c.in-Some.first.now) in
    let others = flat_map (λ rule. next_rule (rule_view rule)) rest in
    let all : string_bytes c.push_rule.new.text ++ others ≡ old ++ all_rules (map rule_view c.args.rules.now) =
    ap (λ t. t ++ others) c.in_ok-push_rule.ensures ∙ append_assoc old first others
    ∙ ap (λ t. old ++ (first ++ t)) (flat_map_mapped next_rule rule_view rest)
    ∙ ap (λ rules. old ++ all_rules (map rule_view rules)) (sym c.in-Some.ensures.cases.0) in
    subst (λ t. OnOk c.push_next_rules.result (string_bytes c.push_next_rules.new.text ≡ t)) all
    c.push_next_rules.ensures
