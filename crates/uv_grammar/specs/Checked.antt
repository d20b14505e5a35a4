-- What the check of a part says, after the order of URL Standard, section 4.3.
use Rattle.std.specs.Prelude.{ℕ, Option, Some, None}
use Rattle.uv_grammar.specs.declared.checked.Checked.{Checked}
use Rattle.uv_grammar.specs.declared.checked.Checked.TheVariants.{Valid, Refused}
use Rattle.uv_model.specs.declared.rule.Refusal.{Refusal}
use Rattle.uv_model.specs.declared.rule.Rule.{Rule}
use Rattle.uv_model.specs.Violations.Refusal.{IsLeast}

-- a value that fits if there is no violation, and otherwise the least violation
abbrev pub IsChecked : {A : Type 0} → (A → Type 0) → (ℕ → Rule → Type 0) → Checked A → Type 0
IsChecked fits violation (Valid value) = fits value × IsLeast violation None
IsChecked fits violation (Refused refusal) = IsLeast violation (Some refusal)

-- the refusal of a part that isn't valid
abbrev pub refusal_of : {A : Type 0} → Checked A → Option Refusal
refusal_of (Valid value) = None
refusal_of (Refused refusal) = Some refusal
