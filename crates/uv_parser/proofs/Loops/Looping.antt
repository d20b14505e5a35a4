-- Laws of the parser machine's loops over a scheme, an opaque path, a query and a fragment: it is led after what the
-- state reads, whatever the variables are before it and whatever text follows it.
use Rattle.std.proofs.Common.{◌≡◌, ℕ, Bool, true, false, ◌&&◌, ◌||◌, ◌==◌, List, [], ◌∷◌, ◌++◌, codes, Option, Some}
use Rattle.std.proofs.Common.{refl, ap, ◌∙◌, append_assoc, append-nil, eqb-true, inl, inr}
use Rattle.std.specs.Prelude.{if◌then◌else◌}
use Rattle.std.specs.List.{list_all}
use Rattle.std.specs.Char.{to_ascii_lowercase}
use Rattle.std.proofs.lemmas.Bool.{and_parts, cases_Bool}
use Rattle.uv_model.proofs.Texts.UnitsAhead.{is_unit_at-ahead, unit_not_number_sign}
use Rattle.uv_model.specs.declared.path.UrlPath.TheVariants.{Opaque}
use Rattle.uv_model.specs.Ascii.{slash, space, question_mark, number_sign}
use Rattle.uv_model.specs.Encoding.{encoded_code_point, encoded}
use Rattle.uv_model.specs.Path.{is_without, is_spaced}
use Rattle.uv_model.specs.Records.Denote.{end_escaped}
use Rattle.uv_model.specs.Scheme.{is_scheme_code_point, lowercase}
use Rattle.uv_model.specs.Units.{is_unit_at, is_faultless}
use Rattle.uv_model.specs.Records.Url.{Url}
use Rattle.uv_parser.specs.Machine.{Variables, turn, onward, SchemeState, OpaquePathState, QueryState, FragmentState}
use Rattle.uv_parser.specs.Machine.{begins_tail, opaque_space, put, with_more, with_path, with_opaque}
use Rattle.uv_parser.specs.Machine.{with_opaque_text, with_fragment}
use Rattle.uv_parser.proofs.Running.Steps.{Reaches, reaches_none, onward_then}
use Rattle.uv_model.proofs.Paths.OpaquePaths.{unit_not_space}
use Rattle.uv_model.proofs.Paths.SpacedPaths.{spaced_ahead}
use Rattle.uv_model.proofs.Texts.MarkLemmas.{is_without-cons}

module _ (base : Option Url) where
  -- ---- the scheme

  -- the row of a code point of a scheme
  pub scheme_row_on : (c : ℕ) (rest : List ℕ) (v : Variables) (p : ℕ) → is_scheme_code_point c ≡ true
      → turn base SchemeState p v (c ∷ rest) ≡ onward SchemeState (put (to_ascii_lowercase c) v)
  scheme_row_on c rest v p ok = rw ok refl

  -- code points of a scheme go into the buffer in lower case
  pub scheme_law : (cs rest : List ℕ) (v : Variables) → list_all is_scheme_code_point cs ≡ true
      → Reaches base SchemeState v (cs ++ rest) SchemeState (with_more (lowercase cs) v) rest
  scheme_law [] rest v ok = rw (append-nil v.buffer) (reaches_none base SchemeState v rest)
  scheme_law (c ∷ cs) rest v ok =
      let parts = and_parts (is_scheme_code_point c) (list_all is_scheme_code_point cs) ok in
      rw (← append_assoc v.buffer (to_ascii_lowercase c ∷ []) (lowercase cs))
      (onward_then base (λ p. scheme_row_on c (cs ++ rest) v p parts.0)
      (scheme_law cs rest (put (to_ascii_lowercase c) v) parts.1))

  -- ---- the opaque path

  -- the row of a unit of an opaque path
  pub opaque_row_on : (c : ℕ) (rest : List ℕ) (v : Variables) (p : ℕ) → (c == question_mark) ≡ false
      → is_unit_at c rest ≡ true
      → turn base OpaquePathState p v (c ∷ rest) ≡ onward OpaquePathState (with_opaque c v)
  opaque_row_on c rest v p other ok =
      let fragment : (c == number_sign) ≡ false = unit_not_number_sign c rest ok in
      elim (cases_Bool (c == slash)) [
        | inl same ↦ rw (eqb-true c slash same) refl
        | inr not_slash ↦ simp (not_slash, other, fragment, unit_not_space c rest ok, ok) refl
      ]

  -- the row of a space of an opaque path
  pub opaque_row_space : (c : ℕ) (rest : List ℕ) (v : Variables) (p : ℕ) → (c == space) ≡ true
      → turn base OpaquePathState p v (c ∷ rest) ≡ onward OpaquePathState (with_opaque_text (opaque_space rest) v)
  opaque_row_space c rest v p same = rw (eqb-true c space same) refl

  -- the row of a code point of an opaque path before a rest, and what it adds to the path
  opaque_row_spaced : (c : ℕ) (rest path : List ℕ) (v : Variables) (p : ℕ) → (c == question_mark) ≡ false
      → ((c == space) || is_unit_at c rest) ≡ true
      → turn base OpaquePathState p (with_path (Opaque path) v) (c ∷ rest)
      ≡ onward OpaquePathState
      (with_path (Opaque (path ++ encoded false (end_escaped (begins_tail rest) (c ∷ [])))) v)
  unfolding encoded
  opaque_row_spaced c rest path v p other ok =
      elim (cases_Bool (c == space)) [
        | inl same ↦
            rw (eqb-true c space same)
            (elim (cases_Bool (begins_tail rest)) [
              | inl followed ↦ rw followed refl
              | inr free ↦ rw free refl
            ])
        | inr not_space ↦
            rw (not_space, append-nil (encoded_code_point false c))
            (opaque_row_on c rest (with_path (Opaque path) v) p other (rw not_space at ok))
      ]

  -- a code point without `?` and `#` begins no tail
  no_tail : (c : ℕ) (rest : List ℕ) → (c == question_mark) ≡ false → ((c == space) || is_unit_at c rest) ≡ true
      → (ahead : List ℕ) → begins_tail (c ∷ ahead) ≡ false
  no_tail c rest other ok ahead =
      elim (cases_Bool (c == space)) [
        | inl same ↦ rw (eqb-true c space same) refl
        | inr not_space ↦ rw (other, unit_not_number_sign c rest (rw not_space at ok)) refl
      ]

  -- units and spaces without `?` go to the opaque path, encoded, the last space by what follows
  pub opaque_path_law : (cs rest path : List ℕ) (v : Variables) → is_spaced cs ≡ true
      → is_without question_mark cs ≡ true
      → Reaches base OpaquePathState (with_path (Opaque path) v) (cs ++ rest)
      OpaquePathState (with_path (Opaque (path ++ encoded false (end_escaped (begins_tail rest) cs))) v) rest
  unfolding encoded
  opaque_path_law [] rest path v units without =
      rw (append-nil path) (reaches_none base OpaquePathState (with_path (Opaque path) v) rest)
  opaque_path_law (c ∷ []) rest path v units without =
      let unit = and_parts ((c == space) || is_unit_at c []) true units in
      let other = is_without-cons question_mark c [] without in
      onward_then base (λ p. opaque_row_spaced c rest path v p other.0 (spaced_ahead c [] rest unit.0))
      (reaches_none base OpaquePathState _ rest)
  opaque_path_law (c ∷ next ∷ cs) rest path v units without =
      let unit = and_parts ((c == space) || is_unit_at c (next ∷ cs)) (is_spaced (next ∷ cs)) units in
      let other = is_without-cons question_mark c (next ∷ cs) without in
      let later = and_parts ((next == space) || is_unit_at next cs) (is_spaced cs) unit.1 in
      let free : begins_tail (next ∷ (cs ++ rest)) ≡ false
      = no_tail next cs (is_without-cons question_mark next cs other.1).0 later.0 (cs ++ rest) in
      let end : List ℕ = end_escaped (begins_tail rest) (next ∷ cs) in
      let one : end_escaped (begins_tail (next ∷ (cs ++ rest))) (c ∷ []) ≡ c ∷ []
      = rw free (plain (c == space) c) in
      let added : encoded false (end_escaped (begins_tail (next ∷ (cs ++ rest))) (c ∷ []))
      ≡ encoded_code_point false c
      = ap (encoded false) one ∙ append-nil (encoded_code_point false c) in
      rw (← append_assoc path (encoded_code_point false c) (encoded false end))
      (onward_then base
      (λ p. opaque_row_spaced c (next ∷ (cs ++ rest)) path v p other.0
      (spaced_ahead c (next ∷ cs) rest unit.0)
      ∙ ap (λ xs. onward OpaquePathState (with_path (Opaque (path ++ xs)) v)) added)
      (opaque_path_law (next ∷ cs) rest (path ++ encoded_code_point false c) v unit.1 other.1))
    where
      plain : (is : Bool) (d : ℕ) → (if is && false then codes "%20" else d ∷ []) ≡ d ∷ []
      plain true d = refl
      plain false d = refl

  -- ---- the query

  -- the row of a unit of a query
  pub query_row_on : (c : ℕ) (rest : List ℕ) (v : Variables) (p : ℕ) → is_unit_at c rest ≡ true
      → turn base QueryState p v (c ∷ rest) ≡ onward QueryState (put c v)
  query_row_on c rest v p ok =
      let fragment : (c == number_sign) ≡ false = unit_not_number_sign c rest ok in
      elim (cases_Bool (c == slash)) [
        | inl same ↦ rw (eqb-true c slash same) refl
        | inr not_slash ↦
            elim (cases_Bool (c == question_mark)) [
              | inl same ↦ rw (eqb-true c question_mark same) refl
              | inr other ↦ simp (not_slash, other, fragment, ok) refl
            ]
      ]

  -- units go into the buffer
  pub query_law : (cs rest : List ℕ) (v : Variables) → is_faultless cs ≡ true
      → Reaches base QueryState v (cs ++ rest) QueryState (with_more cs v) rest
  query_law [] rest v units = rw (append-nil v.buffer) (reaches_none base QueryState v rest)
  query_law (c ∷ cs) rest v units =
      let unit = and_parts (is_unit_at c cs) (is_faultless cs) units in
      rw (← append_assoc v.buffer (c ∷ []) cs)
      (onward_then base (λ p. query_row_on c (cs ++ rest) v p (is_unit_at-ahead c cs rest unit.0))
      (query_law cs rest (put c v) unit.1))

  -- ---- the fragment

  -- units go to the fragment, encoded
  pub fragment_law : (cs rest fragment : List ℕ) (v : Variables) → is_faultless cs ≡ true
      → Reaches base FragmentState (with_fragment (Some fragment) v) (cs ++ rest)
      FragmentState (with_fragment (Some (fragment ++ encoded false cs)) v) rest
  unfolding encoded
  fragment_law [] rest fragment v units =
      rw (append-nil fragment) (reaches_none base FragmentState (with_fragment (Some fragment) v) rest)
  fragment_law (c ∷ cs) rest fragment v units =
      let unit = and_parts (is_unit_at c cs) (is_faultless cs) units in
      rw (← append_assoc fragment (encoded_code_point false c) (encoded false cs))
      (onward_then base (λ p. rw (is_unit_at-ahead c cs rest unit.0) refl)
      (fragment_law cs rest (fragment ++ encoded_code_point false c) v unit.1))
