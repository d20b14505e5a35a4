-- The refusal of a text without a scheme, computed.
use Rattle.std.specs.Prelude.{ℕ, not, ◌&&◌, List, Option, Some, None, if◌then◌else◌}
use Rattle.uv_model.specs.declared.rule.Refusal.{Refusal}
use Rattle.uv_model.specs.declared.rule.Rule.TheVariants.{NoScheme, OpaqueBase}
use Rattle.uv_model.specs.Violations.Violation.{starts_with_number_sign}
use Rattle.uv_model.specs.Records.Url.{Url, is_opaque}

-- there is no base, or it has an opaque path and the text is more than a fragment
abbrev pub base_fault : Option Url → List ℕ → Option Refusal
base_fault None text = Some (record { place = 0; rule = NoScheme })
base_fault (Some base) text =
    if is_opaque base.path && not (starts_with_number_sign text) then Some
    (record { place = 0; rule = OpaqueBase }) else None
