-- The least of the violations of two kinds, where each of the one kind comes before each of the other.
use Rattle.std.proofs.Common.{◌≡◌, ℕ, ◌<◌, ◌≤◌, ◌⊎◌, Option, Some, None, inl, inr, arith, refl, subst}
use Rattle.std.proofs.lemmas.Bool.{cases_order}
use Rattle.uv_model.specs.declared.rule.Rule.{Rule}
use Rattle.uv_model.specs.declared.rule.Refusal.{Refusal}
use Rattle.uv_model.specs.Violations.Refusal.{IsLeast, IsLeastRefusal}
use Rattle.uv_model.specs.Violations.Rule.{rule_number}
use Rattle.uv_model.specs.Violations.Violation.{After, fault_after}

-- a violation of either kind
abbrev pub Either : (ℕ → Rule → Type 0) → (ℕ → Rule → Type 0) → ℕ → Rule → Type 0
Either F G place rule = F place rule ⊎ G place rule

-- each violation is before the place, or no further than it with a number up to `number`
pub record Ends (violation : ℕ → Rule → Type 0) (end number : ℕ) : Type 0 where
  pub by : (place : ℕ) (rule : Rule) → violation place rule
      → (place < end) ⊎ ((place ≤ end) × (rule_number rule ≤ number))

-- no violation is before the place, and each has a number from `number` on
pub record Begins (violation : ℕ → Rule → Type 0) (start number : ℕ) : Type 0 where
  pub from : (place : ℕ) (rule : Rule) → violation place rule → (start ≤ place) × (number ≤ rule_number rule)

-- a violation of the one kind is refused before one of the other
pub record Precedes (F G : ℕ → Rule → Type 0) : Type 0 where
  pub order : (place later : ℕ) (rule other : Rule) → F place rule → G later other
      → (place < later) ⊎ ((place ≡ later) × (rule_number rule < rule_number other))

-- where the one kind ends before the other begins
pub precedes : (F G : ℕ → Rule → Type 0) (middle number larger : ℕ) → number < larger → Ends F middle number
    → Begins G middle larger → Precedes F G
precedes F G middle number larger less ends begins = record { order = order }
  where
    order : (place later : ℕ) (rule other : Rule) → F place rule → G later other
        → (place < later) ⊎ ((place ≡ later) × (rule_number rule < rule_number other))
    order place later rule other f g =
        let start = begins.from later other g in
        elim (ends.by place rule f) [
          | inl before ↦ inl (omega arith)
          | inr at ↦ elim (cases_order place later) [
            | inl same ↦ inr (same, omega arith)
            | inr (inl less) ↦ inl less
            | inr (inr more) ↦ absurd (omega arith)
          ]
        ]

-- the least of the first kind is the least of both
pub least_first : (F G : ℕ → Rule → Type 0) (refusal : Refusal) → Precedes F G → IsLeastRefusal F refusal
    → IsLeastRefusal (Either F G) refusal
least_first F G refusal before least = record { stands = inl least.stands; first = first; lowest = lowest }
  where
    first : (place : ℕ) (rule : Rule) → Either F G place rule → refusal.place ≤ place
    first place rule (inl f) = least.first place rule f
    first place rule (inr g) = elim (before.order refusal.place place refusal.rule rule least.stands g) [
      | inl less ↦ omega arith
      | inr (same, number) ↦ omega arith
    ]

    lowest : (rule : Rule) → Either F G refusal.place rule → rule_number refusal.rule ≤ rule_number rule
    lowest rule (inl f) = least.lowest rule f
    lowest rule (inr g) = elim (before.order refusal.place refusal.place refusal.rule rule least.stands g) [
      | inl less ↦ absurd (omega arith)
      | inr (same, number) ↦ omega arith
    ]

-- if none of the first kind is, the least of the second is the least of both
pub least_second : (F G : ℕ → Rule → Type 0) (least : Option Refusal) → IsLeast F None → IsLeast G least
    → IsLeast (Either F G) least
least_second F G None none other = λ place rule. either place rule
  where
    either : (place : ℕ) (rule : Rule) → Either F G place rule → ⊥
    either place rule (inl f) = none place rule f
    either place rule (inr g) = other place rule g
least_second F G (Some refusal) none is = record { stands = inr is.stands; first = first; lowest = lowest }
  where
    first : (place : ℕ) (rule : Rule) → Either F G place rule → refusal.place ≤ place
    first place rule (inl f) = absurd (none place rule f)
    first place rule (inr g) = is.first place rule g

    lowest : (rule : Rule) → Either F G refusal.place rule → rule_number refusal.rule ≤ rule_number rule
    lowest rule (inl f) = absurd (none refusal.place rule f)
    lowest rule (inr g) = is.lowest rule g

-- ---- violations of a part, after the start of the text

-- the least violation of a part is the least one after its start
pub least_after : (start : ℕ) (F : ℕ → Rule → Type 0) (least : Option Refusal) → IsLeast F least
    → IsLeast (After start F) (fault_after start least)
least_after start F None none = λ place rule h. none h.inner rule h.holds
least_after start F (Some refusal) is = record {
  stands = record { inner = refusal.place; moved = refl; holds = is.stands };
  first = λ place rule h. (let later = is.first h.inner rule h.holds in omega (arith, h.moved));
  lowest = λ rule h.
      (let same : h.inner ≡ refusal.place = omega (arith, h.moved) in
      is.lowest rule (subst (λ (place : ℕ). F place rule) same h.holds));
}

-- ---- where violations begin and end

-- the violations of either kind begin where both begin
pub begins_either : (F G : ℕ → Rule → Type 0) (start number : ℕ) → Begins F start number → Begins G start number
    → Begins (Either F G) start number
begins_either F G start number first second = record { from = from }
  where
    from : (place : ℕ) (rule : Rule) → Either F G place rule → (start ≤ place) × (number ≤ rule_number rule)
    from place rule (inl f) = first.from place rule f
    from place rule (inr g) = second.from place rule g

-- and they begin at each earlier place
pub begins_earlier : (F : ℕ → Rule → Type 0) (start number earlier lower : ℕ) → Begins F start number → earlier ≤ start
    → lower ≤ number → Begins F earlier lower
begins_earlier F start number earlier lower begins le less = record { from = from }
  where
    from : (place : ℕ) (rule : Rule) → F place rule → (earlier ≤ place) × (lower ≤ rule_number rule)
    from place rule f =
        let both = begins.from place rule f in
        (omega arith, omega arith)
