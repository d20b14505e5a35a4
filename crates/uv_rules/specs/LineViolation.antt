-- What is wrong with a line: its name, its sentence and its place.
use Rattle.std.specs.Prelude.{ℕ, ◌+◌, ◌-◌, ◌^◌, List, [], ◌∷◌, codes, min, Option, find}
use Rattle.std.specs.Option.{option_map, option_or}
use Rattle.std.specs.Str.{bytes_eq}
use Rattle.uv_model.specs.Violations.Rule.{named_rule, rule_name, rule_number, rule_sentence}
use Rattle.uv_rules.specs.declared.line_violation.LineViolation.{LineViolation}
use Rattle.uv_rules.specs.Explanation.{rule_asks, rule_uri}
use Rattle.uv_rules.specs.declared.line_violation.LineViolation.TheVariants.{Refused, NotUtf8, TooLong, NotLocated}
use Rattle.uv_rules.specs.declared.line_violation.TheConstants.{NOT_UTF8_SENTENCE, TOO_LONG_SENTENCE}
use Rattle.uv_rules.specs.declared.line_violation.TheConstants.{NOT_LOCATED_SENTENCE, NOT_UTF8_HELP, TOO_LONG_HELP}
use Rattle.uv_rules.specs.declared.line_violation.TheConstants.{NOT_LOCATED_HELP}
use Rattle.uv_rules.specs.declared.located_fault.LocatedFault.TheVariants.{NoFile}

-- the name of the violated rule, or one of its own
abbrev pub violation_name : LineViolation → List ℕ
violation_name (Refused refusal) = rule_name refusal.rule
violation_name (NotUtf8 place) = codes "not-utf8"
violation_name TooLong = codes "line-too-long"
violation_name (NotLocated fault) = codes "not-located"

-- the first violation with a name that is about no refusal, by its place or the reason, where there is one
abbrev pub named_violation : List ℕ → Option LineViolation
named_violation name =
    find (λ violation. bytes_eq name (violation_name violation)) (NotUtf8 0 ∷ TooLong ∷ NotLocated NoFile ∷ [])

-- what is wrong at the place, in the words of the code, which the runs compare
abbrev pub violation_sentence : LineViolation → List ℕ
violation_sentence (Refused refusal) = rule_sentence refusal.rule
violation_sentence (NotUtf8 place) = NOT_UTF8_SENTENCE.now
violation_sentence TooLong = TOO_LONG_SENTENCE.now
violation_sentence (NotLocated fault) = NOT_LOCATED_SENTENCE.now

-- what a line is asked, in such words
abbrev pub violation_help : LineViolation → List ℕ
violation_help (Refused refusal) = rule_asks refusal.rule
violation_help (NotUtf8 place) = NOT_UTF8_HELP.now
violation_help TooLong = TOO_LONG_HELP.now
violation_help (NotLocated fault) = NOT_LOCATED_HELP.now

-- where that is: the section of the rule; none of a rule of lines
abbrev pub violation_address : LineViolation → List ℕ
violation_address (Refused refusal) = rule_uri refusal.rule
violation_address violation = []

-- where its rule is among all of them, from 0: after the three that refuse nothing, by the rule's number
abbrev pub violation_index : LineViolation → ℕ
violation_index (Refused refusal) = rule_number refusal.rule + 2
violation_index (NotUtf8 place) = 0
violation_index TooLong = 1
violation_index (NotLocated fault) = 2

-- where the rule with this name is among all of them, from 0, if it is among them
abbrev pub rule_index : List ℕ → Option ℕ
rule_index name =
    option_or (option_map violation_index (named_violation name))
    (option_map (λ rule. rule_number rule + 2) (named_rule name))

-- the place at which a line is wrong
abbrev pub violation_place : LineViolation → ℕ
violation_place (Refused refusal) = refusal.place
violation_place (NotUtf8 place) = place
violation_place TooLong = 0
violation_place (NotLocated fault) = 0

-- The place at which what is wrong ends: that after the code point that violates a rule. No code point of a line that
-- isn't checked is wrong: what is wrong ends where it begins. The greatest number of 64 bits stands for each place
-- beyond it.
abbrev pub violation_end : LineViolation → ℕ
violation_end (Refused refusal) = min (refusal.place + 1) (2 ^ 64 - 1)
violation_end violation = violation_place violation
