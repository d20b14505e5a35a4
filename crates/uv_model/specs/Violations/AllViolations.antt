-- All the violations of a text as one list, after the order of URL Standard, section 4.3: by place, and at one place
-- by the number of the rule.
use Rattle.std.specs.Prelude.{◌≡◌, ℕ, ◌<◌, ◌⊎◌, ◌↔◌, List, [], ◌∷◌, Option, Some, None}
use Rattle.std.specs.List.{Contains}
use Rattle.uv_model.specs.declared.profile.Profile.{Profile}
use Rattle.uv_model.specs.declared.rule.Rule.{Rule}
use Rattle.uv_model.specs.declared.rule.Refusal.{Refusal}
use Rattle.uv_model.specs.Violations.Violation.{Violation}
use Rattle.uv_model.specs.Parts.{Parts}
use Rattle.uv_model.specs.Violations.Refusal.{IsLeast}
use Rattle.uv_model.specs.Violations.Rule.{rule_number}
use Rattle.uv_model.specs.Records.Url.{Url}
use Rattle.uv_model.specs.Valid.{Valid}

-- the violation is after the refusal: at a later place, or there under a rule with a larger number
abbrev pub StandsAfter : Refusal → ℕ → Rule → Type 0
StandsAfter refusal place rule =
    (refusal.place < place) ⊎ ((refusal.place ≡ place) × (rule_number refusal.rule < rule_number rule))

-- each refusal of the list is after all before it
abbrev pub IsOrdered : List Refusal → Type 0
IsOrdered [] = Unit {0}
IsOrdered (refusal ∷ rest) =
    ((other : Refusal) → Contains rest other → StandsAfter refusal other.place other.rule) × IsOrdered rest

-- the list has exactly these violations, each once, in their order
pub record ListsViolations (violation : ℕ → Rule → Type 0) (refusals : List Refusal) : Type 0 where
  pub each : (refusal : Refusal) → Contains refusals refusal ↔ violation refusal.place refusal.rule
  pub ordered : IsOrdered refusals

-- the first refusal of a list, if there is any
abbrev pub first_refusal : List Refusal → Option Refusal
first_refusal [] = None
first_refusal (refusal ∷ rest) = Some refusal

-- The list has exactly the violations of the text, each once, in their order. So its first is the least of them, and it
-- is empty when the text is valid.
pub record AreFaults (profile : Profile) (base : Option Url) (text : List ℕ) (refusals : List Refusal) : Type 0 where
  pub lists : ListsViolations (Violation profile base text) refusals
  pub least : IsLeast (Violation profile base text) (first_refusal refusals)
  pub none : (parts : Parts) → Valid profile base text parts → refusals ≡ []
