-- The rules so far have their topics.
use Rattle.std.proofs.Common.{◌≡◌, map, take}
use Rattle.uv_model.specs.Violations.Rule.{rules_in_order}
use Rattle.uv_messages.specs.Explanations.{rule_topic}
use Rattle.uv_messages.proofs.explanations.rules.Given as goal

abbrev pub invariant-loop-rule : goal.invariant-loop-rule
invariant-loop-rule l = l.topics.items ≡ map rule_topic (take l.rule-index rules_in_order)
