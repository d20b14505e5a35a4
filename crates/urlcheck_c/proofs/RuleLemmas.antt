-- The numbers of the rules are small.
use Rattle.std.proofs.Common.{◌≡◌, ◌<◌, Bool, true, arith, refl}
use Rattle.std.specs.Prelude.{nat_le}
use Rattle.std.proofs.lemmas.Bool.{leb-true}
use Rattle.uv_model.specs.declared.rule.Rule.{Rule}
use Rattle.uv_model.specs.declared.rule.Rule.TheVariants.{NoScheme, OpaqueBase, TwoSlashes, HostMissing, HostDomain}
use Rattle.uv_model.specs.declared.rule.Rule.TheVariants.{HostNumber, HostIpv6, HostCodePoint, PortDigit, PortRange}
use Rattle.uv_model.specs.declared.rule.Rule.TheVariants.{FirstSegmentEmpty, DriveAfterHost, CodePoint, Percent}
use Rattle.uv_model.specs.Violations.Rule.{rule_number}

-- there are 14
pub rule_fits : (rule : Rule) → nat_le (rule_number rule) 14 ≡ true
rule_fits NoScheme = refl
rule_fits OpaqueBase = refl
rule_fits TwoSlashes = refl
rule_fits HostMissing = refl
rule_fits HostDomain = refl
rule_fits HostNumber = refl
rule_fits HostIpv6 = refl
rule_fits HostCodePoint = refl
rule_fits PortDigit = refl
rule_fits PortRange = refl
rule_fits FirstSegmentEmpty = refl
rule_fits DriveAfterHost = refl
rule_fits CodePoint = refl
rule_fits Percent = refl

-- so a number fits into a byte
pub small_rule : (rule : Rule) → rule_number rule < 256
small_rule rule = let few = leb-true (rule_number rule) 14 (rule_fits rule) in omega (arith, few)
