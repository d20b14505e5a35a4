-- The parser machine's loops over a path, an opaque path, a query and a fragment stop at the first fault of units,
-- whatever the variables are before it and whatever text follows that doesn't begin with a hex digit.
use Rattle.std.proofs.Common.{◌≡◌, ℕ, Bool, true, false, not, ◌==◌, List, [], ◌∷◌, ◌++◌, Option, refl, ◌∙◌, inl, inr}
use Rattle.std.proofs.Common.{append-nil, eqb-true}
use Rattle.std.specs.Char.{is_ascii_hexdigit}
use Rattle.std.proofs.lemmas.Bool.{true≢false, cases_Bool, not-true}
use Rattle.uv_model.specs.Ascii.{slash, space, question_mark, number_sign}
use Rattle.uv_model.specs.Path.{is_without, is_spaced}
use Rattle.uv_model.specs.Units.{is_url_code_point, is_unit_at, is_faultless}
use Rattle.uv_model.specs.Records.Url.{Url}
use Rattle.uv_model.specs.Encoding.{encoded_code_point}
use Rattle.uv_parser.specs.Machine.{Variables, turn, onward, stop, PathState, OpaquePathState, QueryState}
use Rattle.uv_parser.specs.Machine.{FragmentState, with_fragment, more_fragment}
use Rattle.uv_parser.proofs.Loops.Looping.{opaque_row_on, opaque_row_space, query_row_on}
use Rattle.uv_parser.proofs.Loops.PathLoops.{path_row_on}
use Rattle.uv_parser.proofs.Running.Steps.{Stops, stops_here, ends_step}
use Rattle.uv_model.proofs.Texts.UnitsLemmas.{is_unit_at-mark}
use Rattle.uv_model.proofs.Texts.MarkLemmas.{is_without-cons}

-- the text doesn't begin with a hex digit
abbrev pub no_hex_first : List ℕ → Bool
no_hex_first [] = true
no_hex_first (c ∷ rest) = not (is_ascii_hexdigit c)

-- before such a text a code point is a fault or none as it is without it
unit_before : (c : ℕ) (xs ys : List ℕ) → no_hex_first ys ≡ true → is_unit_at c (xs ++ ys) ≡ is_unit_at c xs
unit_before c xs [] first = rw (append-nil xs) refl
unit_before c xs (y ∷ ys) first = is_unit_at-mark y c xs ys (not-true _ first)

-- `/` and `?` aren't faults
fault_no_slash : (c : ℕ) (rest : List ℕ) → is_unit_at c rest ≡ false → (c == slash) ≡ false
unfolding is_unit_at is_url_code_point
fault_no_slash c rest fault =
    elim (cases_Bool (c == slash)) [
      | inl same ↦ absurd (true≢false (rw (eqb-true c slash same) at fault))
      | inr other ↦ other
    ]

fault_no_question_mark : (c : ℕ) (rest : List ℕ) → is_unit_at c rest ≡ false → (c == question_mark) ≡ false
unfolding is_unit_at is_url_code_point
fault_no_question_mark c rest fault =
    elim (cases_Bool (c == question_mark)) [
      | inl same ↦ absurd (true≢false (rw (eqb-true c question_mark same) at fault))
      | inr other ↦ other
    ]

module _ (base : Option Url) where
  -- ---- the query

  query_row_fault : (c : ℕ) (rest : List ℕ) (v : Variables) (p : ℕ) → (c == number_sign) ≡ false
      → is_unit_at c rest ≡ false
      → turn base QueryState p v (c ∷ rest) ≡ stop
  query_row_fault c rest v p mark fault =
      simp (fault_no_slash c rest fault, fault_no_question_mark c rest fault, mark, fault) refl

  -- a query with a fault stops
  pub query_stops : (cs rest : List ℕ) (v : Variables) → is_faultless cs ≡ false → is_without number_sign cs ≡ true
      → no_hex_first rest ≡ true → Stops base QueryState v (cs ++ rest)
  query_stops [] rest v fault without first = absurd (true≢false fault)
  query_stops (c ∷ cs) rest v fault without first =
      let other = is_without-cons number_sign c cs without in
      let same = unit_before c cs rest first in
      elim (cases_Bool (is_unit_at c cs)) [
        | inl unit ↦
            ends_step base (λ p. query_row_on base c (cs ++ rest) v p (same ∙ unit))
            (query_stops cs rest _ (rw unit at fault) other.1 first)
        | inr bad ↦ stops_here base (λ p. query_row_fault c (cs ++ rest) v p other.0 (same ∙ bad))
      ]

  -- ---- the fragment

  fragment_row_on : (c : ℕ) (rest : List ℕ) (v : Variables) (p : ℕ) → is_unit_at c rest ≡ true
      → turn base FragmentState p v (c ∷ rest)
      ≡ onward FragmentState (with_fragment (more_fragment (encoded_code_point false c) v.url.fragment) v)
  fragment_row_on c rest v p ok = rw ok refl

  fragment_row_fault : (c : ℕ) (rest : List ℕ) (v : Variables) (p : ℕ) → is_unit_at c rest ≡ false
      → turn base FragmentState p v (c ∷ rest) ≡ stop
  fragment_row_fault c rest v p fault = rw fault refl

  -- a fragment with a fault stops
  pub fragment_stops : (cs rest : List ℕ) (v : Variables) → is_faultless cs ≡ false → no_hex_first rest ≡ true
      → Stops base FragmentState v (cs ++ rest)
  fragment_stops [] rest v fault first = absurd (true≢false fault)
  fragment_stops (c ∷ cs) rest v fault first =
      let same = unit_before c cs rest first in
      elim (cases_Bool (is_unit_at c cs)) [
        | inl unit ↦
            ends_step base (λ p. fragment_row_on c (cs ++ rest) v p (same ∙ unit))
            (fragment_stops cs rest _ (rw unit at fault) first)
        | inr bad ↦ stops_here base (λ p. fragment_row_fault c (cs ++ rest) v p (same ∙ bad))
      ]

  -- ---- the opaque path

  opaque_row_fault : (c : ℕ) (rest : List ℕ) (v : Variables) (p : ℕ) → (c == number_sign) ≡ false
      → (c == space) ≡ false → is_unit_at c rest ≡ false
      → turn base OpaquePathState p v (c ∷ rest) ≡ stop
  opaque_row_fault c rest v p mark other fault =
      simp (fault_no_slash c rest fault, fault_no_question_mark c rest fault, mark, other, fault) refl

  -- an opaque path with a fault that isn't a space stops
  pub opaque_path_stops : (cs rest : List ℕ) (v : Variables) → is_spaced cs ≡ false
      → is_without question_mark cs ≡ true → is_without number_sign cs ≡ true
      → no_hex_first rest ≡ true → Stops base OpaquePathState v (cs ++ rest)
  opaque_path_stops [] rest v fault no_question no_number first = absurd (true≢false fault)
  opaque_path_stops (c ∷ cs) rest v fault no_question no_number first =
      let question = is_without-cons question_mark c cs no_question in
      let number = is_without-cons number_sign c cs no_number in
      let same = unit_before c cs rest first in
      elim (cases_Bool (c == space)) [
        | inl is ↦
            ends_step base (λ p. opaque_row_space base c (cs ++ rest) v p is)
            (opaque_path_stops cs rest _ (rw is at fault) question.1 number.1 first)
        | inr other ↦ elim (cases_Bool (is_unit_at c cs)) [
          | inl unit ↦
              ends_step base (λ p. opaque_row_on base c (cs ++ rest) v p question.0 (same ∙ unit))
              (opaque_path_stops cs rest _ (rw (other, unit) at fault) question.1 number.1 first)
          | inr bad ↦ stops_here base (λ p. opaque_row_fault c (cs ++ rest) v p number.0 other (same ∙ bad))
        ]
      ]

  -- ---- the path

  path_row_fault : (c : ℕ) (rest : List ℕ) (v : Variables) (p : ℕ) → (c == number_sign) ≡ false
      → is_unit_at c rest ≡ false
      → turn base PathState p v (c ∷ rest) ≡ stop
  path_row_fault c rest v p mark fault =
      simp (fault_no_slash c rest fault, fault_no_question_mark c rest fault, mark, fault) refl

  -- a path with a fault stops, in whichever segment the fault is
  pub path_stops : (cs rest : List ℕ) (v : Variables) → is_faultless cs ≡ false
      → is_without question_mark cs ≡ true → is_without number_sign cs ≡ true
      → no_hex_first rest ≡ true → Stops base PathState v (cs ++ rest)
  path_stops [] rest v fault no_question no_number first = absurd (true≢false fault)
  path_stops (c ∷ cs) rest v fault no_question no_number first =
      let question = is_without-cons question_mark c cs no_question in
      let number = is_without-cons number_sign c cs no_number in
      let same = unit_before c cs rest first in
      elim (cases_Bool (is_unit_at c cs)) [
        | inl unit ↦
            let later : is_faultless cs ≡ false = rw unit at fault in
            elim (cases_Bool (c == slash)) [
              | inl is ↦
                  rw (eqb-true c slash is)
                  (ends_step base (λ p. refl) (path_stops cs rest _ later question.1 number.1 first))
              | inr other ↦
                  ends_step base (λ p. path_row_on base c (cs ++ rest) v p other question.0 (same ∙ unit))
                  (path_stops cs rest _ later question.1 number.1 first)
            ]
        | inr bad ↦ stops_here base (λ p. path_row_fault c (cs ++ rest) v p number.0 (same ∙ bad))
      ]
