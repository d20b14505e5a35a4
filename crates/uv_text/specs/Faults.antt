-- The first fault of a text that should be URL units, found from code point to code point.
use Rattle.std.specs.Prelude.{ℕ, suc, List, [], ◌∷◌, Option, Some, None, if◌then◌else◌}
use Rattle.uv_model.specs.declared.rule.Refusal.{Refusal}
use Rattle.uv_model.specs.Violations.UnitViolation.{unit_rule}
use Rattle.uv_model.specs.Units.{is_unit_at}

-- the first fault of a text whose first code point is at the place
abbrev pub fault_from : ℕ → List ℕ → Option Refusal
fault_from place [] = None
fault_from place (c ∷ rest) =
    if is_unit_at c rest then fault_from (suc place) rest else Some (record { place = place; rule = unit_rule c })
