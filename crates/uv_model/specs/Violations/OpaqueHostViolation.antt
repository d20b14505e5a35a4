-- The faults of an opaque host, after the URL Standard, sections 3.2 and 3.4.
use Rattle.std.specs.Prelude.{◌≡◌, ◌≢◌, ℕ, ◌⊎◌, true, false, List, ◌∷◌, drop}
use Rattle.uv_model.specs.declared.rule.Rule.{Rule}
use Rattle.uv_model.specs.declared.rule.Rule.TheVariants.{HostIpv6, HostCodePoint, Percent}
use Rattle.uv_model.specs.Hosts.Address.{IsBracketedIpv6}
use Rattle.uv_model.specs.Ascii.{percent_sign}
use Rattle.uv_model.specs.Hosts.OpaqueHost.{is_forbidden_host, starts_with_bracket}
use Rattle.uv_model.specs.Violations.UnitViolation.{HasBarePercent}
use Rattle.uv_model.specs.Units.{is_url_code_point}

-- the text begins with `[` and isn't an IPv6 text in brackets
pub record IsBadIpv6 (text : List ℕ) : Type 0 where
  pub bracket : starts_with_bracket text ≡ true
  pub no_value : (pieces : List ℕ) → ¬ (IsBracketedIpv6 text pieces)

-- at the place is a forbidden host code point, or one that is neither a URL code point nor `%`
pub record HasForeignHostCodePoint (text : List ℕ) (place : ℕ) : Type 0 where
  pub code_point : ℕ
  pub rest : List ℕ
  pub here : drop place text ≡ code_point ∷ rest
  pub foreign :
      (is_forbidden_host code_point ≡ true) ⊎ ((is_url_code_point code_point ≡ false) × (code_point ≢ percent_sign))

-- the rules that an opaque host can violate by what it holds
abbrev pub OpaqueHostViolation : List ℕ → ℕ → Rule → Type 0
OpaqueHostViolation text place HostIpv6 = IsBadIpv6 text × (place ≡ 0)
OpaqueHostViolation text place HostCodePoint = (starts_with_bracket text ≡ false) × HasForeignHostCodePoint text place
OpaqueHostViolation text place Percent = (starts_with_bracket text ≡ false) × HasBarePercent text place
OpaqueHostViolation text place _ = ⊥
