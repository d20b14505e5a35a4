-- What each rule of valid URL strings asks (URL Standard, sections 3.4 and 4.3), where it is, and at which place its
-- example is refused. The words of the example, and what the section is called, are for people: no clause says them.
use Rattle.std.specs.Prelude.{ℕ, List, codes}
use Rattle.uv_model.specs.declared.rule.Rule.{Rule}
use Rattle.uv_model.specs.declared.rule.Rule.TheVariants.{NoScheme, OpaqueBase, TwoSlashes, HostMissing, HostDomain}
use Rattle.uv_model.specs.declared.rule.Rule.TheVariants.{HostNumber, HostIpv6, HostCodePoint, PortDigit, PortRange}
use Rattle.uv_model.specs.declared.rule.Rule.TheVariants.{FirstSegmentEmpty, DriveAfterHost, CodePoint, Percent}
use Rattle.uv_rules.specs.declared.explanation.TheConstants.{NO_SCHEME_ASKS, OPAQUE_BASE_ASKS}
use Rattle.uv_rules.specs.declared.explanation.TheConstants.{TWO_SLASHES_ASKS, HOST_MISSING_ASKS}
use Rattle.uv_rules.specs.declared.explanation.TheConstants.{HOST_DOMAIN_ASKS, HOST_NUMBER_ASKS}
use Rattle.uv_rules.specs.declared.explanation.TheConstants.{HOST_IPV6_ASKS, HOST_CODE_POINT_ASKS}
use Rattle.uv_rules.specs.declared.explanation.TheConstants.{PORT_DIGIT_ASKS, PORT_RANGE_ASKS}
use Rattle.uv_rules.specs.declared.explanation.TheConstants.{FIRST_SEGMENT_EMPTY_ASKS, DRIVE_AFTER_HOST_ASKS}
use Rattle.uv_rules.specs.declared.explanation.TheConstants.{CODE_POINT_ASKS, PERCENT_ASKS}

-- what the rule requires of a text, in the words of the code, which the runs compare
abbrev pub rule_asks : Rule → List ℕ
rule_asks NoScheme = NO_SCHEME_ASKS.now
rule_asks OpaqueBase = OPAQUE_BASE_ASKS.now
rule_asks TwoSlashes = TWO_SLASHES_ASKS.now
rule_asks HostMissing = HOST_MISSING_ASKS.now
rule_asks HostDomain = HOST_DOMAIN_ASKS.now
rule_asks HostNumber = HOST_NUMBER_ASKS.now
rule_asks HostIpv6 = HOST_IPV6_ASKS.now
rule_asks HostCodePoint = HOST_CODE_POINT_ASKS.now
rule_asks PortDigit = PORT_DIGIT_ASKS.now
rule_asks PortRange = PORT_RANGE_ASKS.now
rule_asks FirstSegmentEmpty = FIRST_SEGMENT_EMPTY_ASKS.now
rule_asks DriveAfterHost = DRIVE_AFTER_HOST_ASKS.now
rule_asks CodePoint = CODE_POINT_ASKS.now
rule_asks Percent = PERCENT_ASKS.now

-- the address of the section of the URL Standard that asks it
abbrev pub rule_uri : Rule → List ℕ
rule_uri NoScheme = codes "https://url.spec.whatwg.org/#relative-url-string"
rule_uri OpaqueBase = codes "https://url.spec.whatwg.org/#no-scheme-state"
rule_uri TwoSlashes = codes "https://url.spec.whatwg.org/#absolute-url-string"
rule_uri HostMissing = codes "https://url.spec.whatwg.org/#valid-host-string"
rule_uri HostDomain = codes "https://url.spec.whatwg.org/#valid-domain-string"
rule_uri HostNumber = codes "https://url.spec.whatwg.org/#ends-in-a-number-checker"
rule_uri HostIpv6 = codes "https://url.spec.whatwg.org/#valid-ipv6-address-string"
rule_uri HostCodePoint = codes "https://url.spec.whatwg.org/#valid-opaque-host-string"
rule_uri PortDigit = codes "https://url.spec.whatwg.org/#url-port-string"
rule_uri PortRange = codes "https://url.spec.whatwg.org/#url-port-string"
rule_uri FirstSegmentEmpty = codes "https://url.spec.whatwg.org/#path-absolute-url-string"
rule_uri DriveAfterHost = codes "https://url.spec.whatwg.org/#path-absolute-non-windows-file-url-string"
rule_uri CodePoint = codes "https://url.spec.whatwg.org/#url-code-points"
rule_uri Percent = codes "https://url.spec.whatwg.org/#url-units"

-- the place at which the example of a rule is refused, in code points from 0
abbrev pub rule_place : Rule → ℕ
rule_place NoScheme = 0
rule_place OpaqueBase = 0
rule_place TwoSlashes = 6
rule_place HostMissing = 8
rule_place HostDomain = 7
rule_place HostNumber = 7
rule_place HostIpv6 = 7
rule_place HostCodePoint = 7
rule_place PortDigit = 10
rule_place PortRange = 9
rule_place FirstSegmentEmpty = 20
rule_place DriveAfterHost = 8
rule_place CodePoint = 10
rule_place Percent = 12
