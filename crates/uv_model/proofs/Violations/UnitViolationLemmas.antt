-- The faults of a text of units, from code point to code point.
use Rattle.std.proofs.Common.{◌≡◌, ◌≢◌, ℕ, zero, suc, true, false, List, [], ◌∷◌, drop, refl, sym, ap, ◌∙◌, inl, inr}
use Rattle.std.proofs.lemmas.Bool.{false≢true, cases_eq, and_parts, and_from, ne_eqb, true_from_ne_false}
use Rattle.uv_model.specs.declared.rule.Rule.{Rule}
use Rattle.uv_model.specs.declared.rule.Rule.TheVariants.{CodePoint, Percent}
use Rattle.uv_model.specs.Ascii.{percent_sign}
use Rattle.uv_model.specs.Violations.UnitViolation.{UnitViolation, unit_rule}
use Rattle.uv_model.specs.Units.{is_url_code_point, starts_with_two_hex, is_unit_at, is_faultless, IsUnits}
use Rattle.uv_model.proofs.Texts.UnitsLemmas.{is_faultless-units, IsUnits-faultless}

-- a fault of a text is one place later after one more code point
pub UnitViolation-later : (c : ℕ) (rest : List ℕ) (place : ℕ) (rule : Rule) → UnitViolation rest place rule
    → UnitViolation (c ∷ rest) (suc place) rule
UnitViolation-later c rest place CodePoint h =
    record { code_point = h.code_point; rest = h.rest; here = h.here; foreign = h.foreign; no_escape = h.no_escape }
UnitViolation-later c rest place Percent h = record { rest = h.rest; here = h.here; bare = h.bare }
UnitViolation-later c rest place _ h = absurd h

-- a fault after the first code point is one place earlier in the text without it
pub UnitViolation-earlier : (c : ℕ) (rest : List ℕ) (place : ℕ) (rule : Rule)
    → UnitViolation (c ∷ rest) (suc place) rule
    → UnitViolation rest place rule
UnitViolation-earlier c rest place CodePoint h =
    record { code_point = h.code_point; rest = h.rest; here = h.here; foreign = h.foreign; no_escape = h.no_escape }
UnitViolation-earlier c rest place Percent h = record { rest = h.rest; here = h.here; bare = h.bare }
UnitViolation-earlier c rest place _ h = absurd h

-- no code point is in the empty text
pub nothing_at : (place c : ℕ) (rest : List ℕ) → drop place [] ≡ c ∷ rest → ⊥
nothing_at zero c rest h = cc
nothing_at (suc place) c rest h = cc

-- the empty text has no fault
pub UnitViolation-nil : (place : ℕ) (rule : Rule) → UnitViolation [] place rule → ⊥
UnitViolation-nil place CodePoint h = nothing_at place _ _ h.here
UnitViolation-nil place Percent h = nothing_at place _ _ h.here
UnitViolation-nil place _ h = h

-- ---- the first code point of a text

-- a code point that, with what follows it, isn't a unit violates its rule
pub UnitViolation-here : (c : ℕ) (rest : List ℕ) → is_unit_at c rest ≡ false
    → UnitViolation (c ∷ rest) 0 (unit_rule c)
unfolding is_unit_at
UnitViolation-here c rest fault =
    elim (cases_eq c percent_sign) [
      | inl same ↦
          let bare : starts_with_two_hex rest ≡ false = rw same at fault in
          rw same (record { rest = rest; here = refl; bare = bare })
      | inr other ↦
          let foreign : is_url_code_point c ≡ false = rw (ne_eqb c percent_sign other) at fault in
          rw (ne_eqb c percent_sign other)
          (record { code_point = c; rest = rest; here = refl; foreign = foreign; no_escape = other })
    ]

-- the code point and what follows it where the violation is at the first place
pub head_same : (c d : ℕ) (rest after : List ℕ) → c ∷ rest ≡ d ∷ after → d ≡ c
head_same c d rest after e = cc

pub tail_same : (c d : ℕ) (rest after : List ℕ) → c ∷ rest ≡ d ∷ after → after ≡ rest
tail_same c d rest after e = cc

-- what a fault of the first code point says
pub UnitViolation-said : (c : ℕ) (rest : List ℕ) (rule : Rule) → UnitViolation (c ∷ rest) 0 rule
    → (is_unit_at c rest ≡ false) × (rule ≡ unit_rule c)
unfolding is_unit_at
UnitViolation-said c rest CodePoint h =
    let same = head_same c h.code_point rest h.rest h.here in
    let other : c ≢ percent_sign = λ e. h.no_escape (same ∙ e) in
    rw (ne_eqb c percent_sign other) (ap is_url_code_point (sym same) ∙ h.foreign, refl)
UnitViolation-said c rest Percent h =
    let same : c ≡ percent_sign = sym (head_same c percent_sign rest h.rest h.here) in
    rw same (ap starts_with_two_hex (sym (tail_same c percent_sign rest h.rest h.here)) ∙ h.bare, refl)
UnitViolation-said c rest _ h = absurd h

-- ---- the faults of a text, and units

-- a text of units has no fault
pub no_violation-faultless : (text : List ℕ) → is_faultless text ≡ true → (place : ℕ) (rule : Rule)
    → UnitViolation text place rule → ⊥
no_violation-faultless [] none place rule h = UnitViolation-nil place rule h
no_violation-faultless (c ∷ rest) none zero rule h =
    false≢true (sym (UnitViolation-said c rest rule h).0 ∙ (and_parts _ _ none).0)
no_violation-faultless (c ∷ rest) none (suc place) rule h =
    no_violation-faultless rest (and_parts _ _ none).1 place rule (UnitViolation-earlier c rest place rule h)

-- a text of units has no fault
pub no_violation-units : (text : List ℕ) → IsUnits text → (place : ℕ) (rule : Rule)
    → UnitViolation text place rule → ⊥
no_violation-units text units = no_violation-faultless text (is_faultless-units text units)

-- a text with no fault at any place passes from code point to code point
faultless_without_violation : (text : List ℕ) → ((place : ℕ) (rule : Rule) → UnitViolation text place rule → ⊥)
    → is_faultless text ≡ true
faultless_without_violation [] none = refl
faultless_without_violation (c ∷ rest) none =
    and_from _ _
    (true_from_ne_false (is_unit_at c rest) (λ fault. none 0 (unit_rule c) (UnitViolation-here c rest fault)))
    (faultless_without_violation rest (λ place rule h. none (suc place) rule (UnitViolation-later c rest place rule h)))

-- a text with no fault at any place is units
pub units_without_violation : (text : List ℕ) → ((place : ℕ) (rule : Rule) → UnitViolation text place rule → ⊥)
    → IsUnits text
units_without_violation text none = IsUnits-faultless text (faultless_without_violation text none)
