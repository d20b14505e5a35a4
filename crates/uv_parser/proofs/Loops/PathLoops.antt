-- Laws of the parser machine over a path of segments: each segment is walked as the denotation walks it, and after the
-- path a run ends through the query and the fragment.
use Rattle.std.proofs.Common.{◌≡◌, ℕ, Bool, true, false, not, ◌==◌, List, [], ◌∷◌, ◌++◌, Option, refl, ap, inl, inr}
use Rattle.std.proofs.Common.{append_assoc, append-nil}
use Rattle.std.specs.List.{join_with_byte}
use Rattle.std.proofs.lemmas.Bool.{and_parts, cases_Bool}
use Rattle.uv_model.specs.declared.path.UrlPath.TheVariants.{Segments}
use Rattle.uv_model.specs.Ascii.{slash, question_mark, number_sign}
use Rattle.uv_model.specs.Encoding.{encoded_code_point, encoded}
use Rattle.uv_model.specs.Path.{AreSegments, is_without, is_single_dot, is_double_dot, walk, walk_one}
use Rattle.uv_model.specs.Scheme.{scheme_class}
use Rattle.uv_model.specs.Units.{is_unit_at, is_faultless}
use Rattle.uv_model.specs.Records.Url.{Url}
use Rattle.uv_model.specs.Valid.{MayBeUnits}
use Rattle.uv_parser.specs.Machine.{Variables, turn, onward, to_query, to_fragment, PathState, with_more, with_path}
use Rattle.uv_parser.specs.Machine.{segment_ended}
use Rattle.uv_model.proofs.Paths.DotSegmentLemmas.{is_single_dot-encoded, is_double_dot-encoded}
use Rattle.uv_parser.proofs.Running.Steps.{Reaches, Ends, reaches_none, onward_then, ends_step, ends_after}
use Rattle.uv_parser.proofs.Loops.Tails.{bare, tail, with_tail, TurnsToTail, tail_ends}
use Rattle.uv_model.proofs.Texts.UnitsAhead.{is_unit_at-ahead, unit_not_number_sign}
use Rattle.uv_model.proofs.Texts.UnitsLemmas.{is_faultless-units}
use Rattle.uv_model.proofs.Texts.MarkLemmas.{is_without-cons}

-- the variables with these segments, and with no buffer and no fragment
abbrev pub walking : List (List ℕ) → Variables → Variables
walking path v = with_path (Segments path) (bare v)

-- what a segment's end makes of the variables is one step of the walk
segment_walked : (slash_follows : Bool) (path : List (List ℕ)) (segment : List ℕ) (v : Variables)
    → segment_ended slash_follows (with_more (encoded false segment) (walking path v))
    ≡ walking (walk_one (scheme_class v.url.scheme) (not slash_follows) path segment) v
segment_walked true path segment v =
    let double = is_double_dot-encoded segment in
    let single = is_single_dot-encoded segment in
    elim (cases_Bool (is_double_dot segment)) [
      | inl up ↦ rw (double, up) refl
      | inr not_up ↦
          elim (cases_Bool (is_single_dot segment)) [
            | inl here ↦ rw (double, not_up, single, here) refl
            | inr other ↦ rw (double, not_up, single, other) refl
          ]
    ]
segment_walked false path segment v =
    let double = is_double_dot-encoded segment in
    let single = is_single_dot-encoded segment in
    elim (cases_Bool (is_double_dot segment)) [
      | inl up ↦ rw (double, up) refl
      | inr not_up ↦
          elim (cases_Bool (is_single_dot segment)) [
            | inl here ↦ rw (double, not_up, single, here) refl
            | inr other ↦ rw (double, not_up, single, other) refl
          ]
    ]

module _ (base : Option Url) where
  -- the row of a unit of a segment
  pub path_row_on : (c : ℕ) (rest : List ℕ) (v : Variables) (p : ℕ) → (c == slash) ≡ false
      → (c == question_mark) ≡ false
      → is_unit_at c rest ≡ true
      → turn base PathState p v (c ∷ rest) ≡ onward PathState (with_more (encoded_code_point false c) v)
  path_row_on c rest v p not_slash other ok =
      let fragment : (c == number_sign) ≡ false = unit_not_number_sign c rest ok in
      simp (not_slash, other, fragment, ok) refl

  -- units without `/` and `?` go into the buffer, encoded
  pub segment_law : (cs rest : List ℕ) (v : Variables) → is_faultless cs ≡ true → is_without slash cs ≡ true
      → is_without question_mark cs ≡ true
      → Reaches base PathState v (cs ++ rest) PathState (with_more (encoded false cs) v) rest
  unfolding encoded
  segment_law [] rest v units no_slash no_mark = rw (append-nil v.buffer) (reaches_none base PathState v rest)
  segment_law (c ∷ cs) rest v units no_slash no_mark =
      let unit = and_parts (is_unit_at c cs) (is_faultless cs) units in
      let first = is_without-cons slash c cs no_slash in
      let second = is_without-cons question_mark c cs no_mark in
      rw (← append_assoc v.buffer (encoded_code_point false c) (encoded false cs))
      (onward_then base (λ p. path_row_on c (cs ++ rest) v p first.0 second.0 (is_unit_at-ahead c cs rest unit.0))
      (segment_law cs rest (with_more (encoded_code_point false c) v) unit.1 first.1 second.1))

  -- the variables at the end of a segment
  abbrev segment_variables : List (List ℕ) → List ℕ → Variables → Variables
  segment_variables path segment v = with_more (encoded false segment) (walking path v)

  -- the last segment, and after it the tail
  last_segment_turns : (path : List (List ℕ)) (segment : List ℕ) (v : Variables)
      → TurnsToTail base PathState (segment_variables path segment v)
      (walking (walk_one (scheme_class v.url.scheme) true path segment) v)
  last_segment_turns path segment v = record {
    at_end = λ p. ap (λ g. onward PathState g) (segment_walked false path segment v);
    at_query = λ p rest. ap (λ g. to_query g) (segment_walked false path segment v);
    at_fragment = λ p rest. ap (λ g. to_fragment g) (segment_walked false path segment v);
  }

  -- one segment or more, and after them the tail
  pub path_ends : (first : List ℕ) (others path : List (List ℕ)) (query fragment : Option (List ℕ)) (v : Variables)
      → AreSegments (first ∷ others) → MayBeUnits query → MayBeUnits fragment
      → Ends base PathState (walking path v) (join_with_byte slash (first ∷ others) ++ tail query fragment)
      (with_tail query fragment (walking (walk (scheme_class v.url.scheme) path (first ∷ others)) v))
  unfolding walk
  path_ends first [] path query fragment v each query_units fragment_units =
      let units = is_faultless-units first each.0.units in
      ends_after base
      (segment_law first (tail query fragment) (walking path v) units each.0.no_slash each.0.no_question_mark)
      (tail_ends base PathState _ _ query fragment (last_segment_turns path first v) query_units fragment_units)
  path_ends first (next ∷ rest) path query fragment v each query_units fragment_units =
      let units = is_faultless-units first each.0.units in
      let later = join_with_byte slash (next ∷ rest) in
      let walked = walk_one (scheme_class v.url.scheme) false path first in
      rw (append_assoc first (slash ∷ later) (tail query fragment))
      (ends_after base
      (segment_law first (slash ∷ (later ++ tail query fragment))
      (walking path v) units each.0.no_slash each.0.no_question_mark)
      (ends_step base (λ p. ap (λ g. onward PathState g) (segment_walked true path first v))
      (path_ends next rest walked query fragment v each.1 query_units fragment_units)))
