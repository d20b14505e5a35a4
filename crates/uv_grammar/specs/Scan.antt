-- The violations of texts that are checked code point by code point, after the URL Standard, sections 3.2, 3.4 and 4.3.
use Rattle.std.specs.Prelude.{ℕ, true, List}
use Rattle.uv_model.specs.declared.profile.Profile.TheVariants.{Parser}
use Rattle.uv_grammar.specs.declared.scan.Scan.{Scan}
use Rattle.uv_grammar.specs.declared.scan.Scan.TheVariants.{Units, SpacedUnits, OpaqueHost, Digits}
use Rattle.uv_model.specs.declared.rule.Rule.{Rule}
use Rattle.uv_model.specs.declared.rule.Rule.TheVariants.{PortDigit}
use Rattle.uv_model.specs.Violations.Violation.{HasForeignDigit}
use Rattle.uv_model.specs.Violations.UnitViolation.{PathUnitViolation, UnitViolation}
use Rattle.uv_host.specs.OpaqueHosts.{HostUnitViolation}

-- a code point that isn't a digit
abbrev pub DigitViolation : List ℕ → ℕ → Rule → Type 0
DigitViolation text place PortDigit = HasForeignDigit text place
DigitViolation text place _ = ⊥

-- the violations of a text that should consist of this
abbrev pub ScanViolation : Scan → List ℕ → ℕ → Rule → Type 0
ScanViolation Units = UnitViolation
ScanViolation (SpacedUnits followed) = PathUnitViolation Parser true followed
ScanViolation OpaqueHost = HostUnitViolation
ScanViolation Digits = DigitViolation
