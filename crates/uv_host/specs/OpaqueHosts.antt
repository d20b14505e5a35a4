-- The text of an opaque host, checked code point by code point (URL Standard, sections 3.2, 3.4 and 4.3).
use Rattle.std.specs.Prelude.{◌≡◌, ℕ, ◌+◌, ◌⊎◌, not, ◌||◌, ◌==◌, List, [], ◌∷◌, Option, Some, None, if◌then◌else◌}
use Rattle.uv_model.specs.declared.rule.Rule.{Rule}
use Rattle.uv_model.specs.declared.rule.Rule.TheVariants.{HostCodePoint, Percent}
use Rattle.uv_model.specs.declared.rule.Refusal.{Refusal}
use Rattle.uv_model.specs.Hosts.Address.{IsBracketedIpv6}
use Rattle.uv_model.specs.Ascii.{percent_sign}
use Rattle.uv_model.specs.Hosts.OpaqueHost.{is_forbidden_host, IsOpaqueHost}
use Rattle.uv_model.specs.Units.{is_url_code_point, starts_with_two_hex}
use Rattle.uv_model.specs.Violations.OpaqueHostViolation.{HasForeignHostCodePoint}
use Rattle.uv_model.specs.Violations.UnitViolation.{HasBarePercent}

-- a code point that no opaque host holds, or a `%` without two hex digits
abbrev pub HostUnitViolation : List ℕ → ℕ → Rule → Type 0
HostUnitViolation text place HostCodePoint = HasForeignHostCodePoint text place
HostUnitViolation text place Percent = HasBarePercent text place
HostUnitViolation text place _ = ⊥

-- the rule that a code point violates if no unit of an opaque host begins
abbrev pub host_rule : ℕ → Rule
host_rule c = if c == percent_sign then Percent else HostCodePoint

-- the rule that a code point violates, by what follows it
abbrev pub host_fault : ℕ → List ℕ → Option Rule
host_fault c rest =
    if c == percent_sign then (if starts_with_two_hex rest then None else Some Percent)
    else (if is_forbidden_host c || not (is_url_code_point c) then Some HostCodePoint else None)

-- the fault at this place, or what is found later
abbrev pub fault_at_or : ℕ → Option Rule → Option Refusal → Option Refusal
fault_at_or place None later = later
fault_at_or place (Some rule) later = Some (record { place = place; rule = rule })

-- the first fault of the text, where so many code points are before it
abbrev pub first_host_fault : ℕ → List ℕ → Option Refusal
first_host_fault place [] = None
first_host_fault place (c ∷ rest) = fault_at_or place (host_fault c rest) (first_host_fault (place + 1) rest)

-- the text is empty, an IPv6 text in brackets, or an opaque host without brackets
abbrev pub IsOpaqueHostOrEmpty : List ℕ → Type 0
IsOpaqueHostOrEmpty text = (text ≡ []) ⊎ (((pieces : List ℕ) × IsBracketedIpv6 text pieces) ⊎ IsOpaqueHost text)
