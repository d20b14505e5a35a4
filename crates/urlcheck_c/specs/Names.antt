-- The rules by their numbers.
use Rattle.std.specs.Prelude.{ℕ, ◌==◌, Option, find}
use Rattle.uv_model.specs.declared.rule.Rule.{Rule}
use Rattle.uv_model.specs.Violations.Rule.{rule_number, rules_in_order}

-- the rule with a number, where there is one
abbrev pub rule_with_number : ℕ → Option Rule
rule_with_number number = find (λ rule. rule_number rule == number) rules_in_order
