-- A walk is a step for each segment, and an empty segment where the last one is a dot segment.
use Rattle.std.proofs.Common.{◌≡◌, ℕ, Bool, true, false, List, [], ◌∷◌, ◌++◌, refl, inl, inr}
use Rattle.std.proofs.lemmas.Bool.{cases_Bool}
use Rattle.uv_model.specs.declared.scheme.Class.{Class}
use Rattle.uv_model.specs.Path.{is_single_dot, is_double_dot, walk_one, walk}
use Rattle.uv_resolve.specs.Walk.{is_dots}

-- the empty segment after a dot segment
abbrev pub after_dots : Bool → List (List ℕ) → List (List ℕ)
after_dots true path = path ++ ([] ∷ [])
after_dots false path = path

-- a walk that goes on over the segments that are left, where the one before them was a dot segment or none
abbrev pub continued : Class → List (List ℕ) → Bool → List (List ℕ) → List (List ℕ)
continued class path dots [] = after_dots dots path
continued class path dots (segment ∷ rest) = continued class (walk_one class false path segment) (is_dots segment) rest

-- the last segment of a walk
last_one : (class : Class) (path : List (List ℕ)) (segment : List ℕ)
    → walk_one class true path segment ≡ after_dots (is_dots segment) (walk_one class false path segment)
last_one class path segment =
    elim (cases_Bool (is_double_dot segment)) [
      | inl double ↦ rw double refl
      | inr other ↦ elim (cases_Bool (is_single_dot segment)) [
        | inl single ↦ rw (other, single) refl
        | inr plain ↦ rw (other, plain) refl
      ]
    ]

-- a walk goes on from its first segment
continued-some : (class : Class) (path : List (List ℕ)) (dots : Bool) (segment : List ℕ) (rest : List (List ℕ))
    → walk class path (segment ∷ rest) ≡ continued class path dots (segment ∷ rest)
unfolding walk
continued-some class path dots segment [] = last_one class path segment
continued-some class path dots segment (next ∷ rest) =
    continued-some class (walk_one class false path segment) (is_dots segment) next rest

-- a walk goes on from its start
pub walk-continued : (class : Class) (path segments : List (List ℕ))
    → walk class path segments ≡ continued class path false segments
unfolding walk
walk-continued class path [] = refl
walk-continued class path (segment ∷ rest) = continued-some class path false segment rest
