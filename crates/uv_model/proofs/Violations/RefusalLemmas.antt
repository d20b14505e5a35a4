-- The least of a text's violations.
use Rattle.std.proofs.Common.{ℕ, Option, Some, None}
use Rattle.uv_model.specs.declared.rule.Rule.{Rule}
use Rattle.uv_model.specs.declared.rule.Refusal.{Refusal}
use Rattle.uv_model.specs.Violations.Refusal.{IsLeast}

-- violations that are the same have the same least one
pub IsLeast-like : (F G : ℕ → Rule → Type 0) → ((place : ℕ) (rule : Rule) → F place rule → G place rule)
    → ((place : ℕ) (rule : Rule) → G place rule → F place rule) → (least : Option Refusal)
    → IsLeast F least → IsLeast G least
IsLeast-like F G to from None none = λ place rule h. none place rule (from place rule h)
IsLeast-like F G to from (Some refusal) is =
    record {
      stands = to refusal.place refusal.rule is.stands;
      first = λ place rule h. is.first place rule (from place rule h);
      lowest = λ rule h. is.lowest rule (from refusal.place rule h);
    }
