-- The rules as reports list them.
use Rattle.std.specs.Prelude.{List, ◌∷◌, map}
use Rattle.uv_model.specs.Violations.Rule.{rules_in_order}
use Rattle.uv_rules.specs.declared.line_violation.LineViolation.{LineViolation}
use Rattle.uv_rules.specs.declared.line_violation.LineViolation.TheVariants.{Refused, NotUtf8, TooLong, NotLocated}
use Rattle.uv_rules.specs.declared.located_fault.LocatedFault.TheVariants.{NoFile}
use Rattle.uv_rules.specs.LineViolation.{violation_address, violation_help, violation_name, violation_sentence}
use Rattle.uv_shown.specs.Rule.{RuleView}

-- the rule of a violation, wherever that is
abbrev pub shown_rule : LineViolation → RuleView
shown_rule violation = record {
  name = violation_name violation;
  sentence = violation_sentence violation;
  help = violation_help violation;
  uri = violation_address violation;
}

-- all of them, in the order of their indices
abbrev pub listed_rules : List RuleView
listed_rules =
    shown_rule (NotUtf8 0) ∷ shown_rule TooLong ∷ shown_rule (NotLocated NoFile)
    ∷ map (λ rule. shown_rule (Refused (record { place = 0; rule = rule }))) rules_in_order
