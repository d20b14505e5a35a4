-- The code point after the units is the first fault, and the place counts the units.
use Rattle.std.proofs.Common.{◌≡◌, ◌↔◌, ◌∷◌, ℕ, Bool, refl, List, [], Option, None, Some, drop, length, arith, sym, ap}
use Rattle.std.proofs.Common.{◌∙◌, subst}
use Rattle.std.specs.Prelude.{IsNone}
use Rattle.std.specs.Str.{chars}
use Rattle.std.proofs.lemmas.List.{length-take-le}
use Rattle.uv_model.specs.declared.rule.Rule.{Rule}
use Rattle.uv_model.specs.declared.rule.Refusal.{Refusal}
use Rattle.uv_model.specs.Violations.Refusal.{IsLeast, StandsWithin}
use Rattle.uv_model.specs.Violations.UnitViolation.{UnitViolation, unit_rule}
use Rattle.uv_model.specs.Units.{IsUnits}
use Rattle.uv_model.proofs.Violations.ViolationLemmas.{least_unit_fault_within}
use Rattle.uv_text.specs.Class.{HoldsUrlBytes}
use Rattle.uv_text.specs.Splits.{IsUnitSplit, class_has, unit_length}
use Rattle.uv_text.specs.declared.units.UnitClass.TheVariants.{Url}
use Rattle.uv_text.proofs.FaultsLemmas.{fault_after, fault_at, least_fault, none_in_units}
use Rattle.uv_text.proofs.SplitsLemmas.{unit_length-le}
use Rattle.uv_text.proofs.faults.first_fault.Goals as goal

-- what the function ensures of its answer
record Answers (bytes : List ℕ) (answer : Option Refusal) : Type 0 where
  least : IsLeast (UnitViolation (chars bytes)) answer
  within : StandsWithin (chars bytes) answer
  none : IsNone answer ↔ IsUnits (chars bytes)

-- the first code point after the units is what the function ensures
answers : (held : ℕ → Bool) (bytes : List ℕ) (answer : Option Refusal) → HoldsUrlBytes held
    → answer ≡ fault_at (unit_length held (chars bytes)) (drop (unit_length held (chars bytes)) (chars bytes))
    → Answers bytes answer
answers held bytes answer holds is =
    let text = chars bytes in
    let n = unit_length held text in
    let found = fault_after held holds 0 text ∙ ap (λ p. fault_at p (drop n text)) (omega arith) in
    let least = subst (λ a. IsLeast (UnitViolation text) a) (found ∙ sym is) (least_fault text) in
    record {
      least = least;
      within = least_unit_fault_within text answer least;
      none = none_in_units text answer least;
    }

-- a code point after the units
fault_found : (held : ℕ → Bool) (bytes prefix rest : List ℕ) (c : ℕ) (more : List ℕ) (place : ℕ) (rule : Rule)
    → HoldsUrlBytes held → IsUnitSplit held (chars bytes) (chars prefix) (chars rest) → chars rest ≡ c ∷ more
    → place ≡ length (chars prefix) → rule ≡ unit_rule c → Answers bytes (Some (record { place = place; rule = rule }))
fault_found held bytes prefix rest c more place rule holds cut first counted named =
    let text = chars bytes in
    let n = unit_length held text in
    let here : place ≡ n = counted ∙ ap length cut.is_prefix ∙ length-take-le n text (unit_length-le held text) in
    answers held bytes (Some (record { place = place; rule = rule })) holds
    (rw (here, named) (ap (fault_at n) (sym first ∙ cut.is_rest)))

-- none after them
no_fault : (held : ℕ → Bool) (bytes prefix rest : List ℕ) → HoldsUrlBytes held
    → IsUnitSplit held (chars bytes) (chars prefix) (chars rest) → chars rest ≡ [] → Answers bytes None
no_fault held bytes prefix rest holds cut none =
    answers held bytes None holds (ap (fault_at (unit_length held (chars bytes))) (sym none ∙ cut.is_rest))

pub returns-in-Some-clause-least : goal.returns-in-Some-clause-least
returns-in-Some-clause-least c =
    (fault_found (class_has Url) c.args.text.now c.split_units.result.0.now c.split_units.result.1.now c.in-Some.c
    (chars c.in-Some.field-0-1.now) c.count_code_points.result c.unit_rule.result (λ byte. refl)
    c.split_units.ensures
    c.in-Some.ensures c.count_code_points.ensures c.unit_rule.ensures).least

pub returns-in-Some-clause-within : goal.returns-in-Some-clause-within
returns-in-Some-clause-within c =
    (fault_found (class_has Url) c.args.text.now c.split_units.result.0.now c.split_units.result.1.now c.in-Some.c
    (chars c.in-Some.field-0-1.now) c.count_code_points.result c.unit_rule.result (λ byte. refl)
    c.split_units.ensures
    c.in-Some.ensures c.count_code_points.ensures c.unit_rule.ensures).within

pub returns-in-Some-clause-none : goal.returns-in-Some-clause-none
returns-in-Some-clause-none c =
    (fault_found (class_has Url) c.args.text.now c.split_units.result.0.now c.split_units.result.1.now c.in-Some.c
    (chars c.in-Some.field-0-1.now) c.count_code_points.result c.unit_rule.result (λ byte. refl)
    c.split_units.ensures
    c.in-Some.ensures c.count_code_points.ensures c.unit_rule.ensures).none

pub returns-in-None-clause-least : goal.returns-in-None-clause-least
returns-in-None-clause-least c =
    (no_fault (class_has Url) c.args.text.now c.split_units.result.0.now c.split_units.result.1.now
    (λ byte. refl)
    c.split_units.ensures c.in-None.ensures).least

pub returns-in-None-clause-none : goal.returns-in-None-clause-none
returns-in-None-clause-none c =
    (no_fault (class_has Url) c.args.text.now c.split_units.result.0.now c.split_units.result.1.now
    (λ byte. refl)
    c.split_units.ensures c.in-None.ensures).none
