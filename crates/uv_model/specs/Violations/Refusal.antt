-- The least of the violations of a text: the least place, and there the rule with the least number.
use Rattle.std.specs.Prelude.{ℕ, ◌<◌, ◌≤◌, List, length, Option, Some, None}
use Rattle.uv_model.specs.declared.rule.Rule.{Rule}
use Rattle.uv_model.specs.declared.rule.Refusal.{Refusal}
use Rattle.uv_model.specs.Violations.Rule.{rule_number}

-- the refusal is among these violations, at no larger place than each, and there with no larger number
pub record IsLeastRefusal (violation : ℕ → Rule → Type 0) (refusal : Refusal) : Type 0 where
  pub stands : violation refusal.place refusal.rule
  pub first : (place : ℕ) (rule : Rule) → violation place rule → refusal.place ≤ place
  pub lowest : (rule : Rule) → violation refusal.place rule → rule_number refusal.rule ≤ rule_number rule

-- the refusal, where there is one, is before the text's end
abbrev pub StandsWithin : List ℕ → Option Refusal → Type 0
StandsWithin text None = Unit {0}
StandsWithin text (Some refusal) = refusal.place < length text

-- the least of these violations, or none if there is no violation
abbrev pub IsLeast : (ℕ → Rule → Type 0) → Option Refusal → Type 0
IsLeast violation None = (place : ℕ) (rule : Rule) → violation place rule → ⊥
IsLeast violation (Some refusal) = IsLeastRefusal violation refusal
