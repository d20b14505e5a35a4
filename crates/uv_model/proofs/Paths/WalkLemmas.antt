-- Walks: from segments of records over the segments of a text to segments of records.
use Rattle.std.proofs.Common.{◌≡◌, ℕ, Bool, true, false, List, [], ◌∷◌, ◌++◌, refl, inl, inr}
use Rattle.std.specs.Prelude.{if◌then◌else◌}
use Rattle.std.proofs.lemmas.Bool.{cases_Bool}
use Rattle.uv_model.specs.declared.scheme.Class.{Class}
use Rattle.uv_model.specs.declared.scheme.Class.TheVariants.{SpecialNotFile, File, Other}
use Rattle.uv_model.specs.Encoding.{encoded}
use Rattle.uv_model.specs.Path.{AreSegments, IsSegment, is_double_dot, is_lone_drive, is_single_dot, shorten, walk}
use Rattle.uv_model.specs.Path.{walk_one, without_last}
use Rattle.uv_model.specs.Records.WellFormed.{AreUrlSegments}
use Rattle.uv_model.proofs.Records.WellFormedLemmas.{IsUrlSegment-encoded, IsUrlSegment-nil}

-- ---- lists of segments of records

-- two lists in a row
AreUrlSegments-append : (xs ys : List (List ℕ)) → AreUrlSegments xs → AreUrlSegments ys → AreUrlSegments (xs ++ ys)
AreUrlSegments-append [] ys first second = second
AreUrlSegments-append (x ∷ xs) ys first second = (first.0, AreUrlSegments-append xs ys first.1 second)

-- a list without its last
AreUrlSegments-without_last : (path : List (List ℕ)) → AreUrlSegments path → AreUrlSegments (without_last path)
AreUrlSegments-without_last [] are = tt
AreUrlSegments-without_last (segment ∷ []) are = tt
AreUrlSegments-without_last (segment ∷ next ∷ rest) are = (are.0, AreUrlSegments-without_last (next ∷ rest) are.1)

-- a shortened path
pub AreUrlSegments-shorten : (class : Class) (path : List (List ℕ)) → AreUrlSegments path
    → AreUrlSegments (shorten class path)
AreUrlSegments-shorten SpecialNotFile path are = AreUrlSegments-without_last path are
AreUrlSegments-shorten Other path are = AreUrlSegments-without_last path are
AreUrlSegments-shorten File path are =
    elim (cases_Bool (is_lone_drive path)) [
      | inl lone ↦ rw lone are
      | inr other ↦ rw other (AreUrlSegments-without_last path are)
    ]

-- ---- one segment of a walk

-- the list that a walk leaves at a dot segment
AreUrlSegments-dots : (last : Bool) (path : List (List ℕ)) → AreUrlSegments path
    → AreUrlSegments (if last then path ++ ([] ∷ []) else path)
AreUrlSegments-dots true path are = AreUrlSegments-append path ([] ∷ []) are (IsUrlSegment-nil, tt)
AreUrlSegments-dots false path are = are

AreUrlSegments-walk_one : (class : Class) (last : Bool) (path : List (List ℕ)) (segment : List ℕ) → AreUrlSegments path
    → IsSegment segment → AreUrlSegments (walk_one class last path segment)
AreUrlSegments-walk_one class last path segment are is =
    elim (cases_Bool (is_double_dot segment)) [
      | inl double ↦ rw double (AreUrlSegments-dots last (shorten class path) (AreUrlSegments-shorten class path are))
      | inr other ↦ elim (cases_Bool (is_single_dot segment)) [
        | inl single ↦ rw (other, single) (AreUrlSegments-dots last path are)
        | inr plain ↦ rw (other, plain)
            (AreUrlSegments-append path (encoded false segment ∷ []) are
            (IsUrlSegment-encoded segment is plain other, tt))
      ]
    ]

-- ---- walks

-- what a walk over segments of a text leaves are segments of a record
pub AreUrlSegments-walk : (class : Class) (path segments : List (List ℕ)) → AreUrlSegments path → AreSegments segments
    → AreUrlSegments (walk class path segments)
unfolding walk
AreUrlSegments-walk class path [] are each = are
AreUrlSegments-walk class path (segment ∷ []) are each = AreUrlSegments-walk_one class true path segment are each.0
AreUrlSegments-walk class path (segment ∷ next ∷ rest) are each =
    AreUrlSegments-walk class (walk_one class false path segment) (next ∷ rest)
    (AreUrlSegments-walk_one class false path segment are each.0) each.1

-- the list has a segment
pub record HasSegment (list : List (List ℕ)) : Type 0 where
  pub first : List ℕ
  pub others : List (List ℕ)
  pub some : list ≡ first ∷ others

-- a list with one more has one
HasSegment-append : (path : List (List ℕ)) (segment : List ℕ) → HasSegment (path ++ (segment ∷ []))
HasSegment-append [] segment = record { first = segment; others = []; some = refl }
HasSegment-append (first ∷ others) segment = record { first = first; others = others ++ (segment ∷ []); some = refl }

-- the last segment of a walk leaves one
HasSegment-walk_one : (class : Class) (path : List (List ℕ)) (segment : List ℕ)
    → HasSegment (walk_one class true path segment)
HasSegment-walk_one class path segment =
    elim (cases_Bool (is_double_dot segment)) [
      | inl double ↦ rw double (HasSegment-append (shorten class path) [])
      | inr other ↦ elim (cases_Bool (is_single_dot segment)) [
        | inl single ↦ rw (other, single) (HasSegment-append path [])
        | inr plain ↦ rw (other, plain) (HasSegment-append path (encoded false segment))
      ]
    ]

-- a walk over one segment or more leaves one
pub HasSegment-walk : (class : Class) (path : List (List ℕ)) (segment : List ℕ) (rest : List (List ℕ))
    → HasSegment (walk class path (segment ∷ rest))
unfolding walk
HasSegment-walk class path segment [] = HasSegment-walk_one class path segment
HasSegment-walk class path segment (next ∷ rest) = HasSegment-walk class (walk_one class false path segment) next rest
