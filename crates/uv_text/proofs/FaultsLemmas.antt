-- The first fault that is found from code point to code point is the least violation of units.
use Rattle.std.proofs.Common.{◌≡◌, ℕ, zero, suc, ◌+◌, ◌≤◌, ◌==◌, Bool, true, false, ◌&&◌, ◌||◌, List, [], ◌∷◌, drop}
use Rattle.std.proofs.Common.{Option, Some, None, refl, sym, ap, ◌∙◌, subst, inl, inr, arith, lt-ltb, le-ltb, ne_eqb}
use Rattle.std.specs.Prelude.{IsNone, ◌↔◌, nat_le}
use Rattle.std.specs.Char.{is_ascii}
use Rattle.std.proofs.lemmas.Bool.{cases_Bool, cases_eq, cases_lt, false≢true}
use Rattle.std.proofs.lemmas.Bool.Decides.{nat_tests}
use Rattle.uv_model.specs.declared.rule.Rule.{Rule}
use Rattle.uv_model.specs.declared.rule.Refusal.{Refusal}
use Rattle.uv_model.specs.Violations.Violation.{After}
use Rattle.uv_model.specs.Violations.Refusal.{IsLeast}
use Rattle.uv_model.specs.Violations.Rule.{rule_number}
use Rattle.uv_model.specs.Violations.UnitViolation.{UnitViolation, unit_rule}
use Rattle.uv_model.specs.Ascii.{percent_sign}
use Rattle.uv_model.specs.Units.{IsUnits, is_unit_at, is_url_code_point}
use Rattle.uv_model.proofs.Violations.RefusalLemmas.{IsLeast-like}
use Rattle.uv_model.proofs.Violations.UnitViolationLemmas.{UnitViolation-earlier, UnitViolation-here}
use Rattle.uv_model.proofs.Violations.UnitViolationLemmas.{UnitViolation-later, UnitViolation-nil, UnitViolation-said}
use Rattle.uv_model.proofs.Violations.UnitViolationLemmas.{no_violation-units, units_without_violation}
use Rattle.uv_text.specs.Class.{HoldsUrlBytes}
use Rattle.uv_text.specs.Faults.{fault_from}
use Rattle.uv_text.specs.Splits.{begins_unit, unit_length}
use Rattle.std.proofs.Math.Bool.{or-false}

-- the faults of a text whose first code point is at the place
abbrev From : ℕ → List ℕ → ℕ → Rule → Type 0
From start text place rule = After start (UnitViolation text) place rule

-- the first code point is the least fault where it is one
least_here : (start c : ℕ) (rest : List ℕ) → is_unit_at c rest ≡ false
    → IsLeast (From start (c ∷ rest)) (Some (record { place = start; rule = unit_rule c }))
least_here start c rest fault =
    record {
      stands = record { inner = 0; moved = omega arith; holds = UnitViolation-here c rest fault };
      first = λ place rule h. let moved = h.moved in omega arith;
      lowest = λ rule h. one_rule rule h;
    }
  where
    one_rule : (rule : Rule) → From start (c ∷ rest) start rule → rule_number (unit_rule c) ≤ rule_number rule
    one_rule rule h =
        let moved = h.moved in
        let here : h.inner ≡ 0 = omega arith in
        let violation = subst (λ n. UnitViolation (c ∷ rest) n rule) here h.holds in
        rw (UnitViolation-said c rest rule violation).1 (omega arith)

-- a fault after a first code point that isn't one
to_whole : (start c : ℕ) (rest : List ℕ) (place : ℕ) (rule : Rule) → From (suc start) rest place rule
    → From start (c ∷ rest) place rule
to_whole start c rest place rule h =
    let moved = h.moved in
    record { inner = suc h.inner; moved = omega arith; holds = UnitViolation-later c rest h.inner rule h.holds }

-- and back
to_rest : (start c : ℕ) (rest : List ℕ) → is_unit_at c rest ≡ true → (place : ℕ) (rule : Rule)
    → From start (c ∷ rest) place rule → From (suc start) rest place rule
to_rest start c rest unit place rule h = at_inner h.inner h.moved h.holds
  where
    at_inner : (inner : ℕ) → place ≡ start + inner → UnitViolation (c ∷ rest) inner rule
        → From (suc start) rest place rule
    at_inner zero moved holds = absurd (false≢true (sym (UnitViolation-said c rest rule holds).0 ∙ unit))
    at_inner (suc inner) moved holds =
        record { inner = inner; moved = omega arith; holds = UnitViolation-earlier c rest inner rule holds }

-- the fault that is found is the least
pub least_from : (start : ℕ) (text : List ℕ) → IsLeast (From start text) (fault_from start text)
least_from start [] = λ place rule h. UnitViolation-nil h.inner rule h.holds
least_from start (c ∷ rest) =
    elim (cases_Bool (is_unit_at c rest)) [
      | inl unit ↦
          rw unit
          (IsLeast-like (From (suc start) rest) (From start (c ∷ rest)) (to_whole start c rest)
          (to_rest start c rest unit) (fault_from (suc start) rest) (least_from (suc start) rest))
      | inr fault ↦ rw fault (least_here start c rest fault)
    ]

-- the first fault of a text is the least of its violations
pub least_fault : (text : List ℕ) → IsLeast (UnitViolation text) (fault_from 0 text)
least_fault text =
    IsLeast-like (From 0 text) (UnitViolation text) to_text from_text (fault_from 0 text) (least_from 0 text)
  where
    to_text : (place : ℕ) (rule : Rule) → From 0 text place rule → UnitViolation text place rule
    to_text place rule h =
        let moved = h.moved in
        let same : h.inner ≡ place = omega arith in
        subst (λ n. UnitViolation text n rule) same h.holds

    from_text : (place : ℕ) (rule : Rule) → UnitViolation text place rule → From 0 text place rule
    from_text place rule h = record { inner = place; moved = omega arith; holds = h }

-- none is found exactly in units
pub none_in_units : (text : List ℕ) → (least : Option Refusal) → IsLeast (UnitViolation text) least
    → IsNone least ↔ IsUnits text
none_in_units text None none = (λ same. units_without_violation text none, λ units. refl)
none_in_units text (Some refusal) is = (
  λ same. absurd (false≢true (sym same)),
  λ units. absurd (no_violation-units text units refusal.place refusal.rule is.stands),
)

-- ---- the cut after the units

-- the first code point of a rest, as the fault at the place
abbrev pub fault_at : ℕ → List ℕ → Option Refusal
fault_at place [] = None
fault_at place (c ∷ rest) = Some (record { place = place; rule = unit_rule c })

-- `%` isn't a URL code point
no_percent_unit : (is_ascii percent_sign && is_url_code_point percent_sign) ≡ false
unfolding is_url_code_point
no_percent_unit = refl

-- a unit of the class is one of the grammar
-- a unit of such a class is one of the grammar
pub begins_url : (held : ℕ → Bool) → HoldsUrlBytes held → (c : ℕ) (rest : List ℕ)
    → begins_unit held c rest ≡ is_unit_at c rest
unfolding is_unit_at
begins_url held holds c rest =
    elim (cases_eq c percent_sign) [
      | inl same ↦
          let none : held percent_sign ≡ false = holds percent_sign ∙ no_percent_unit in
          rw same (rw none refl)
      | inr other ↦
          let no_percent : (c == percent_sign) ≡ false = ne_eqb c percent_sign other in
          rw (no_percent, holds c) (either c)
    ]
  where
    either : (c : ℕ) → (is_ascii c && is_url_code_point c || nat_le 128 c && is_url_code_point c) ≡ is_url_code_point c
    either c =
        elim (cases_lt c 128) [
          | inl small ↦
              let below : nat_le 128 c ≡ false = grind (arith, nat_tests, small) in
              rw (lt-ltb c 128 small, below) (or-false (is_url_code_point c))
          | inr large ↦
              let beyond : nat_le 128 c ≡ true = grind (arith, nat_tests, large) in
              rw (le-ltb c 128 large, beyond) refl
        ]

-- the first fault is the code point after the units, at the place that counts them
pub fault_after : (held : ℕ → Bool) → HoldsUrlBytes held → (place : ℕ) (text : List ℕ)
    → fault_from place text ≡ fault_at (place + unit_length held text) (drop (unit_length held text) text)
fault_after held holds place [] = refl
fault_after held holds place (c ∷ rest) =
    elim (cases_Bool (is_unit_at c rest)) [
      | inl unit ↦
          let begins = begins_url held holds c rest ∙ unit in
          let next : suc place + unit_length held rest ≡ place + suc (unit_length held rest) = omega arith in
          let more = fault_after held holds (suc place) rest in
          let after = drop (unit_length held rest) rest in
          rw (unit, begins) (more ∙ ap (λ p. fault_at p after) next)
      | inr fault ↦
          let stops = begins_url held holds c rest ∙ fault in
          rw (fault, stops) (ap (λ p. Some (record { place = p; rule = unit_rule c })) (omega arith))
    ]
