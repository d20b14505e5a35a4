-- The rules of valid URL strings (URL Standard, sections 3.4 and 4.3), by their numbers, names and sentences.
use Rattle.std.specs.Prelude.{◌≢◌, ℕ, List, [], ◌∷◌, codes, Option, find}
use Rattle.std.specs.Str.{bytes_eq}
use Rattle.uv_model.specs.declared.rule.Rule.{Rule}
use Rattle.uv_model.specs.declared.rule.Rule.TheVariants.{NoScheme, OpaqueBase, TwoSlashes, HostMissing, HostDomain}
use Rattle.uv_model.specs.declared.rule.Rule.TheVariants.{HostNumber, HostIpv6, HostCodePoint, PortDigit, PortRange}
use Rattle.uv_model.specs.declared.rule.Rule.TheVariants.{FirstSegmentEmpty, DriveAfterHost, CodePoint, Percent}
use Rattle.uv_model.specs.declared.rule.TheConstants.{NO_SCHEME_SENTENCE, OPAQUE_BASE_SENTENCE, TWO_SLASHES_SENTENCE}
use Rattle.uv_model.specs.declared.rule.TheConstants.{HOST_MISSING_SENTENCE, HOST_DOMAIN_SENTENCE, HOST_NUMBER_SENTENCE}
use Rattle.uv_model.specs.declared.rule.TheConstants.{HOST_IPV6_SENTENCE, HOST_CODE_POINT_SENTENCE, PORT_DIGIT_SENTENCE}
use Rattle.uv_model.specs.declared.rule.TheConstants.{PORT_RANGE_SENTENCE, FIRST_SEGMENT_EMPTY_SENTENCE}
use Rattle.uv_model.specs.declared.rule.TheConstants.{DRIVE_AFTER_HOST_SENTENCE, CODE_POINT_SENTENCE, PERCENT_SENTENCE}

-- the number of a rule
abbrev pub rule_number : Rule → ℕ
rule_number NoScheme = 1
rule_number OpaqueBase = 2
rule_number TwoSlashes = 3
rule_number HostMissing = 4
rule_number HostDomain = 5
rule_number HostNumber = 6
rule_number HostIpv6 = 7
rule_number HostCodePoint = 8
rule_number PortDigit = 9
rule_number PortRange = 10
rule_number FirstSegmentEmpty = 11
rule_number DriveAfterHost = 12
rule_number CodePoint = 13
rule_number Percent = 14

-- the name of a rule
abbrev pub rule_name : Rule → List ℕ
rule_name NoScheme = codes "no-scheme"
rule_name OpaqueBase = codes "opaque-base"
rule_name TwoSlashes = codes "two-slashes"
rule_name HostMissing = codes "host-missing"
rule_name HostDomain = codes "host-domain"
rule_name HostNumber = codes "host-number"
rule_name HostIpv6 = codes "host-ipv6"
rule_name HostCodePoint = codes "host-code-point"
rule_name PortDigit = codes "port-digit"
rule_name PortRange = codes "port-range"
rule_name FirstSegmentEmpty = codes "first-segment-empty"
rule_name DriveAfterHost = codes "drive-after-host"
rule_name CodePoint = codes "code-point"
rule_name Percent = codes "percent"

-- what is wrong at the place of a refusal by a rule, in the words of the code, which the runs compare
abbrev pub rule_sentence : Rule → List ℕ
rule_sentence NoScheme = NO_SCHEME_SENTENCE.now
rule_sentence OpaqueBase = OPAQUE_BASE_SENTENCE.now
rule_sentence TwoSlashes = TWO_SLASHES_SENTENCE.now
rule_sentence HostMissing = HOST_MISSING_SENTENCE.now
rule_sentence HostDomain = HOST_DOMAIN_SENTENCE.now
rule_sentence HostNumber = HOST_NUMBER_SENTENCE.now
rule_sentence HostIpv6 = HOST_IPV6_SENTENCE.now
rule_sentence HostCodePoint = HOST_CODE_POINT_SENTENCE.now
rule_sentence PortDigit = PORT_DIGIT_SENTENCE.now
rule_sentence PortRange = PORT_RANGE_SENTENCE.now
rule_sentence FirstSegmentEmpty = FIRST_SEGMENT_EMPTY_SENTENCE.now
rule_sentence DriveAfterHost = DRIVE_AFTER_HOST_SENTENCE.now
rule_sentence CodePoint = CODE_POINT_SENTENCE.now
rule_sentence Percent = PERCENT_SENTENCE.now

-- the rules in the order of their numbers
abbrev pub rules_in_order : List Rule
rules_in_order =
    NoScheme ∷ OpaqueBase ∷ TwoSlashes ∷ HostMissing ∷ HostDomain ∷ HostNumber ∷ HostIpv6 ∷ HostCodePoint ∷ PortDigit
    ∷ PortRange ∷ FirstSegmentEmpty ∷ DriveAfterHost ∷ CodePoint ∷ Percent ∷ []

-- the rule with a name, where there is one
abbrev pub named_rule : List ℕ → Option Rule
named_rule name = find (λ rule. bytes_eq name (rule_name rule)) rules_in_order

-- the text is the name of no rule
abbrev pub IsNoName : List ℕ → Type 0
IsNoName text = (rule : Rule) → text ≢ rule_name rule
