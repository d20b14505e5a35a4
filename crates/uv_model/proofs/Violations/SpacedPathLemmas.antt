-- The violations of a path by what it holds, which are violations of units. In an opaque path of the parser's profile
-- the spaces that it takes aren't among them.
use Rattle.std.proofs.Common.{◌≡◌, ℕ, zero, suc, Bool, true, false, ◌||◌, ◌==◌, List, [], ◌∷◌, drop, refl, sym, ap}
use Rattle.std.proofs.Common.{◌∙◌, inl, inr, eqb-true}
use Rattle.std.proofs.lemmas.Bool.{false≢true, and_parts, and_from, cases_Bool, false_from_ne_true, true_from_ne_false}
use Rattle.uv_model.specs.declared.profile.Profile.{Profile}
use Rattle.uv_model.specs.declared.profile.Profile.TheVariants.{Standard, Wide, Parser}
use Rattle.uv_model.specs.declared.rule.Rule.{Rule}
use Rattle.uv_model.specs.Ascii.{space}
use Rattle.uv_model.specs.Path.{IsTakenSpacedPath, ends_with_space, is_spaced}
use Rattle.uv_model.specs.Units.{is_unit_at, is_url_code_point}
use Rattle.uv_model.specs.Violations.UnitViolation.{IsTakenSpace, PathUnitViolation, UnitViolation, only_spaces}
use Rattle.uv_model.specs.Violations.UnitViolation.{unit_rule}
use Rattle.uv_model.proofs.Violations.UnitViolationLemmas.{UnitViolation-earlier, UnitViolation-here}
use Rattle.uv_model.proofs.Violations.UnitViolationLemmas.{UnitViolation-later, UnitViolation-nil, UnitViolation-said}

-- each is one of units
pub path_violation-unit : (profile : Profile) (opaque followed : Bool) (text : List ℕ) (place : ℕ) (rule : Rule)
    → PathUnitViolation profile opaque followed text place rule → UnitViolation text place rule
path_violation-unit Standard opaque followed text place rule h = h
path_violation-unit Wide opaque followed text place rule h = h
path_violation-unit Parser false followed text place rule h = h
path_violation-unit Parser true followed text place rule h = h.0

-- and in a path that isn't opaque each of units is one
pub path_violation-plain : (profile : Profile) (followed : Bool) (text : List ℕ) (place : ℕ) (rule : Rule)
    → UnitViolation text place rule → PathUnitViolation profile false followed text place rule
path_violation-plain Standard followed text place rule h = h
path_violation-plain Wide followed text place rule h = h
path_violation-plain Parser followed text place rule h = h

-- ---- a path of units and spaces

-- the only violations of units in it are its spaces
space_at : (text : List ℕ) (place : ℕ) (rule : Rule) → is_spaced text ≡ true → UnitViolation text place rule
    → (rest : List ℕ) × (drop place text ≡ space ∷ rest)
space_at [] place rule spaced h = absurd (UnitViolation-nil place rule h)
space_at (c ∷ rest) zero rule spaced h =
    let parts = and_parts ((c == space) || is_unit_at c rest) (is_spaced rest) spaced in
    elim (cases_Bool (c == space)) [
      | inl same ↦ (rest, rw (eqb-true c space same) refl)
      | inr other ↦ absurd (false≢true (sym (UnitViolation-said c rest rule h).0 ∙ rw other at parts.0))
    ]
space_at (c ∷ rest) (suc place) rule spaced h =
    space_at rest place rule (and_parts ((c == space) || is_unit_at c rest) (is_spaced rest) spaced).1
    (UnitViolation-earlier c rest place rule h)

-- a text of spaces ends with one
spaces_end : (c : ℕ) (rest : List ℕ) → (c == space) ≡ true → only_spaces rest ≡ true → ends_with_space (c ∷ rest) ≡ true
spaces_end c [] is only = is
spaces_end c (next ∷ rest) is only =
    let parts = and_parts (next == space) (only_spaces rest) only in
    spaces_end next rest parts.0 parts.1

-- a space that only spaces follow is one of the text's end
last_spaces : (text : List ℕ) (place : ℕ) (remaining : List ℕ) → drop place text ≡ space ∷ remaining
    → only_spaces remaining ≡ true → ends_with_space text ≡ true
last_spaces [] zero remaining here only = absurd cc
last_spaces [] (suc place) remaining here only = absurd cc
last_spaces (c ∷ rest) zero remaining here only =
    let same : c ≡ space = cc in
    let left : rest ≡ remaining = cc in
    spaces_end c rest (rw same refl) (ap only_spaces left ∙ only)
last_spaces (c ∷ []) (suc zero) remaining here only = absurd cc
last_spaces (c ∷ []) (suc (suc place)) remaining here only = absurd cc
last_spaces (c ∷ next ∷ rest) (suc place) remaining here only = last_spaces (next ∷ rest) place remaining here only

-- an opaque path that the parser takes has no violation
pub taken_faultless : (followed : Bool) (text : List ℕ) → IsTakenSpacedPath followed text → (place : ℕ) (rule : Rule)
    → PathUnitViolation Parser true followed text place rule → ⊥
taken_faultless followed text is place rule (unit, foreign) =
    let (rest, here) = space_at text place rule is.spaced.units unit in
    foreign (record { rest = rest; here = here; after = after rest here })
  where
    after : (rest : List ℕ) → drop place text ≡ space ∷ rest → followed ≡ false → only_spaces rest ≡ false
    after rest here alone =
        false_from_ne_true (only_spaces rest)
        (λ only. false≢true (sym (is.end alone) ∙ last_spaces text place rest here only))

-- ---- a path without a violation

-- the violations of a path of the parser's profile after its first code point
taken_later : (c : ℕ) (rest : List ℕ) (followed : Bool) (place : ℕ) (rule : Rule)
    → PathUnitViolation Parser true followed rest place rule
    → PathUnitViolation Parser true followed (c ∷ rest) (suc place) rule
taken_later c rest followed place rule (unit, foreign) = (
  UnitViolation-later c rest place rule unit,
  λ taken. foreign (record { rest = taken.rest; here = taken.here; after = taken.after }),
)

-- an opaque path without a violation is units and spaces
pub spaced_without_violation : (followed : Bool) (text : List ℕ)
    → ((place : ℕ) (rule : Rule) → PathUnitViolation Parser true followed text place rule → ⊥)
    → is_spaced text ≡ true
spaced_without_violation followed [] none = refl
spaced_without_violation followed (c ∷ rest) none =
    and_from _ _ here
    (spaced_without_violation followed rest
    (λ place rule h. none (suc place) rule (taken_later c rest followed place rule h)))
  where
    no_space : (c == space) ≡ false → IsTakenSpace followed (c ∷ rest) 0 → ⊥
    no_space other taken = (let same : c ≡ space = cc in false≢true (sym other ∙ rw same refl))

    here : ((c == space) || is_unit_at c rest) ≡ true
    here = elim (cases_Bool (c == space)) [
      | inl same ↦ rw same refl
      | inr other ↦
          let unit : is_unit_at c rest ≡ true
          = true_from_ne_false (is_unit_at c rest)
          (λ fault. none 0 (unit_rule c) (UnitViolation-here c rest fault, no_space other)) in
          rw (other, unit) refl
    ]

-- a space is a violation of units
space_violates : (rest : List ℕ) → UnitViolation (space ∷ rest) 0 (unit_rule space)
unfolding is_unit_at is_url_code_point
space_violates rest = UnitViolation-here space rest refl

-- and it ends with no space unless a query or a fragment follows it
pub unspaced_end_without_violation : (followed : Bool) (text : List ℕ)
    → ((place : ℕ) (rule : Rule) → PathUnitViolation Parser true followed text place rule → ⊥)
    → followed ≡ false → ends_with_space text ≡ false
unspaced_end_without_violation followed [] none alone = refl
unspaced_end_without_violation followed (c ∷ []) none alone = elim (cases_Bool (c == space)) [
  | inl same ↦
      let is : c ≡ space = eqb-true c space same in
      absurd (none 0 (unit_rule space) (
        rw is (space_violates []),
        λ taken. let none : taken.rest ≡ [] = cc in false≢true (sym (taken.after alone) ∙ ap only_spaces none),
      ))
  | inr other ↦ other
]
unspaced_end_without_violation followed (c ∷ next ∷ rest) none alone =
    unspaced_end_without_violation followed (next ∷ rest)
    (λ place rule h. none (suc place) rule (taken_later c (next ∷ rest) followed place rule h)) alone
