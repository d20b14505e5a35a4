-- Lists to which the violations of parts are added, after the order of URL Standard, section 4.3.
use Rattle.std.specs.Prelude.{◌≡◌, ℕ, ◌⊎◌, List, [], ◌∷◌, ◌++◌, Option, Some, None}
use Rattle.uv_model.specs.declared.rule.Rule.{Rule}
use Rattle.uv_model.specs.declared.rule.Refusal.{Refusal}
use Rattle.uv_model.specs.Violations.AllViolations.{ListsViolations}
use Rattle.uv_model.specs.Violations.Violation.{CheckedViolation, IsStarted, StartViolation}
use Rattle.uv_model.specs.Cut.{Cut}
use Rattle.uv_model.specs.Setting.{Setting}

-- what is added to the list are exactly these violations, each once, in their order
pub record AddsViolations (violation : ℕ → Rule → Type 0) (before after : List Refusal) : Type 0 where
  pub added : List Refusal
  pub joined : after ≡ before ++ added
  pub lists : ListsViolations violation added

-- the fault, where there is one
abbrev pub fault_list : Option Refusal → List Refusal
fault_list None = []
fault_list (Some refusal) = refusal ∷ []

-- the faults of the start, or where it has none, of the host, the port and the path's start
abbrev pub FirstViolation : Setting → List ℕ → Cut → ℕ → Rule → Type 0
FirstViolation setting text cut place rule =
    StartViolation setting text cut place rule
    ⊎ (IsStarted setting text cut × CheckedViolation setting cut place rule)
