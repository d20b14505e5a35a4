-- The parser machine from the end of an authority on: the path, by the class of the scheme, the query and the fragment.
use Rattle.std.proofs.Common.{◌≡◌, ℕ, true, List, [], ◌∷◌, ◌++◌, Option, Some, None, refl, ap, ◌∙◌, inl, inr}
use Rattle.std.specs.List.{join_with_byte}
use Rattle.uv_model.specs.declared.scheme.Class.{Class}
use Rattle.uv_model.specs.declared.scheme.Class.TheVariants.{SpecialNotFile, File, Other}
use Rattle.uv_model.specs.Ascii.{slash}
use Rattle.uv_model.specs.Records.Denote.{authority_path}
use Rattle.uv_model.specs.Encoding.{encoded}
use Rattle.uv_model.specs.Path.{MayBePathSlashed, AreSegments, IsPathRelative, IsPathSlashed, JoinsTo, is_single_dot}
use Rattle.uv_model.specs.Path.{is_double_dot, walk}
use Rattle.uv_model.specs.Scheme.{scheme_class}
use Rattle.uv_model.specs.Records.Url.{Url}
use Rattle.uv_model.specs.Valid.{MayBeUnits}
use Rattle.uv_parser.specs.Machine.{Variables, turn, again, at_pointer, path_start_at, PathStartState, PathState}
use Rattle.uv_parser.proofs.Running.Steps.{Ends, ends_step, ends_again}
use Rattle.uv_parser.proofs.Loops.PathLoops.{walking, path_ends}
use Rattle.uv_model.proofs.Texts.UnitsLemmas.{IsUnits-nil}
use Rattle.uv_parser.proofs.Loops.Tails.{tail, with_tail, tail_ends}

-- a tail doesn't begin with `/`, so that a special URL's path begins there without one
pub special_row : (query fragment : Option (List ℕ)) (v : Variables)
    → path_start_at true v (at_pointer (tail query fragment)) ≡ again PathState v
special_row (Some query) fragment v = refl
special_row None (Some fragment) v = refl
special_row None None v = refl

-- a path of one empty segment
empty_walk : (class : Class) → walk class [] ([] ∷ []) ≡ [] ∷ []
unfolding walk is_double_dot is_single_dot encoded
empty_walk class = refl

empty_segment : AreSegments ([] ∷ [])
empty_segment = (record { units = IsUnits-nil; no_slash = refl; no_question_mark = refl }, tt)

-- with segments the path after an authority is their walk
some_walk : (class : Class) (first : List ℕ) (others : List (List ℕ))
    → authority_path class (first ∷ others) ≡ walk class [] (first ∷ others)
some_walk SpecialNotFile first others = refl
some_walk File first others = refl
some_walk Other first others = refl

module _ (base : Option Url) (query fragment : Option (List ℕ)) (query_units : MayBeUnits query)
    (fragment_units : MayBeUnits fragment) where
  -- segments in the path state
  pub joins_ends : (segments : List (List ℕ)) (text : List ℕ) (v : Variables) → JoinsTo segments text
      → Ends base PathState (walking [] v) (text ++ tail query fragment)
      (with_tail query fragment (walking (walk (scheme_class v.url.scheme) [] segments) v))
  joins_ends segments text v joins =
      let spelled : text ≡ join_with_byte slash (joins.first ∷ joins.others)
      = joins.joined ∙ ap (join_with_byte slash) joins.some in
      let each : AreSegments (joins.first ∷ joins.others) = rw joins.some at joins.each in
      rw (spelled, joins.some)
      (path_ends base joins.first joins.others [] query fragment v each query_units fragment_units)

  -- a path-relative string in the path state
  pub relative_ends : (segments : List (List ℕ)) (text : List ℕ) (v : Variables) → IsPathRelative segments text
      → Ends base PathState (walking [] v) (text ++ tail query fragment)
      (with_tail query fragment (walking (walk (scheme_class v.url.scheme) [] segments) v))
  relative_ends segments text v path = joins_ends segments text v path.joins

  -- `/` and segments after an authority
  slashed_ends : (segments : List (List ℕ)) (text : List ℕ) (v : Variables) → IsPathSlashed segments text
      → Ends base PathStartState (walking [] v) (text ++ tail query fragment)
      (with_tail query fragment (walking (authority_path (scheme_class v.url.scheme) segments) v))
  slashed_ends segments text v path =
      let joins = path.joins in
      let same : authority_path (scheme_class v.url.scheme) segments ≡ walk (scheme_class v.url.scheme) [] segments
      = rw joins.some (some_walk (scheme_class v.url.scheme) joins.first joins.others) in
      rw (path.slashed, same)
      (ends_step base (λ p. refl) (joins_ends segments path.after v path.joins))

  -- a special URL has one empty segment if no path is there
  empty_segment_ends : (v : Variables)
      → ((p : ℕ) → turn base PathStartState p (walking [] v) (tail query fragment) ≡ again PathState (walking [] v))
      → Ends base PathStartState (walking [] v) (tail query fragment)
      (with_tail query fragment (walking ([] ∷ []) v))
  empty_segment_ends v row =
      let ends : Ends base PathState (walking [] v) (tail query fragment)
      (with_tail query fragment (walking ([] ∷ []) v))
      = rw (empty_walk (scheme_class v.url.scheme)) at
      (path_ends base [] [] [] query fragment v empty_segment query_units fragment_units) in
      ends_again base row ends

  -- no path at all after an authority
  no_path_ends : (class : Class) (v : Variables) → scheme_class v.url.scheme ≡ class
      → Ends base PathStartState (walking [] v) (tail query fragment)
      (with_tail query fragment (walking (authority_path class []) v))
  no_path_ends SpecialNotFile v of_class =
      empty_segment_ends v (λ p. rw of_class (special_row query fragment (walking [] v)))
  no_path_ends File v of_class = empty_segment_ends v (λ p. rw of_class (special_row query fragment (walking [] v)))
  no_path_ends Other v of_class =
      tail_ends base PathStartState _ _ query fragment (record {
        at_end =
            λ p. rw of_class refl;
        at_query =
            λ p rest. rw of_class refl;
        at_fragment = λ p rest. rw of_class refl;
      }) query_units fragment_units

  -- `/` and segments or nothing after an authority
  pub path_start_ends : (segments : List (List ℕ)) (text : List ℕ) (v : Variables) → MayBePathSlashed segments text
      → Ends base PathStartState (walking [] v) (text ++ tail query fragment)
      (with_tail query fragment (walking (authority_path (scheme_class v.url.scheme) segments) v))
  path_start_ends segments text v (inl none) =
      rw (none.0, none.1)
      (no_path_ends (scheme_class v.url.scheme) v refl)
  path_start_ends segments text v (inr path) = slashed_ends segments text v path
