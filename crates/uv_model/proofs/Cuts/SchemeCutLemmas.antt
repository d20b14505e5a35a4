-- The scheme at the start of a text: a text is written with it in one way.
use Rattle.std.proofs.Common.{◌≡◌, ℕ, true, false, ◌&&◌, ◌==◌, List, [], ◌∷◌, ◌++◌, Option, Some, None, refl, ap, ◌∙◌}
use Rattle.std.proofs.Common.{inl, inr, arith, append_assoc}
use Rattle.std.specs.List.{after_first, list_all}
use Rattle.std.specs.Char.{is_ascii_alphabetic}
use Rattle.std.proofs.lemmas.Bool.{false≢true, cases_Bool, and_parts, and_from, or_cases, or_right, eqb-true}
use Rattle.std.proofs.lemmas.Bool.Decides.{nat_tests}
use Rattle.uv_model.specs.Ascii.{colon}
use Rattle.uv_model.specs.Parts.{written_scheme}
use Rattle.uv_model.specs.Path.{is_without}
use Rattle.uv_model.specs.Scheme.{is_scheme, is_scheme_code_point}
use Rattle.uv_model.specs.Scheme.{starts_with_scheme, goes_on_to_colon}
use Rattle.uv_model.specs.Cut.{IsSchemeCut, after_scheme, scheme_cut, text_before}
use Rattle.uv_model.proofs.Texts.MarkLemmas.{after_first-mark, is_without-more, text_before-mark}

-- a code point of a scheme isn't `:`
pub scheme_not_colon : (c : ℕ) → is_scheme_code_point c ≡ true → (c == colon) ≡ false
scheme_not_colon c is = grind (arith, nat_tests)

-- a letter isn't `:`
pub letter_not_colon : (c : ℕ) → is_ascii_alphabetic c ≡ true → (c == colon) ≡ false
letter_not_colon c is = grind (arith, nat_tests)

-- code points of a scheme hold no `:`
scheme_tail_without_colon : (text : List ℕ) → list_all is_scheme_code_point text ≡ true → is_without colon text ≡ true
scheme_tail_without_colon [] each = refl
scheme_tail_without_colon (c ∷ rest) each =
    let parts = and_parts (is_scheme_code_point c) (list_all is_scheme_code_point rest) each in
    is_without-more colon c rest (scheme_not_colon c parts.0) (scheme_tail_without_colon rest parts.1)

-- a scheme holds no `:`
pub scheme_without_colon : (scheme : List ℕ) → is_scheme scheme ≡ true → is_without colon scheme ≡ true
scheme_without_colon [] is = refl
scheme_without_colon (c ∷ rest) is =
    let parts = and_parts (is_ascii_alphabetic c) (list_all is_scheme_code_point rest) is in
    is_without-more colon c rest (letter_not_colon c parts.0) (scheme_tail_without_colon rest parts.1)

goes_on_written : (scheme rest : List ℕ) → list_all is_scheme_code_point scheme ≡ true
    → goes_on_to_colon (scheme ++ colon ∷ rest) ≡ true
goes_on_written [] rest each = refl
goes_on_written (c ∷ scheme) rest each =
    let parts = and_parts (is_scheme_code_point c) (list_all is_scheme_code_point scheme) each in
    or_right _ _ (and_from _ _ parts.0 (goes_on_written scheme rest parts.1))

-- a scheme and `:` begin a text with a scheme
pub starts_with_written_scheme : (scheme rest : List ℕ) → is_scheme scheme ≡ true
    → starts_with_scheme (scheme ++ colon ∷ rest) ≡ true
starts_with_written_scheme [] rest is = absurd (false≢true is)
starts_with_written_scheme (c ∷ scheme) rest is =
    let parts = and_parts (is_ascii_alphabetic c) (list_all is_scheme_code_point scheme) is in
    and_from _ _ parts.0 (goes_on_written scheme rest parts.1)

-- what is before the first `:` of such a text
record Before (text : List ℕ) : Type 0 where
  prefix : List ℕ
  rest : List ℕ
  joined : text ≡ prefix ++ colon ∷ rest
  each : list_all is_scheme_code_point prefix ≡ true

before_colon : (text : List ℕ) → goes_on_to_colon text ≡ true → Before text
before_colon [] goes = absurd (false≢true goes)
before_colon (c ∷ rest) goes =
    elim (or_cases (c == colon) (is_scheme_code_point c && goes_on_to_colon rest) goes) [
      | inl same ↦ record { prefix = []; rest = rest; joined = ap (λ x. x ∷ rest) (eqb-true c colon same); each = refl }
      | inr later ↦
          let parts = and_parts (is_scheme_code_point c) (goes_on_to_colon rest) later in
          let more = before_colon rest parts.1 in
          record {
            prefix = c ∷ more.prefix;
            rest = more.rest;
            joined = ap (λ xs. c ∷ xs) more.joined;
            each = and_from _ _ parts.0 more.each;
          }
    ]

-- a text that begins with a scheme and `:` is that scheme, `:` and a rest
pub record SplitsAtScheme (text : List ℕ) : Type 0 where
  pub scheme : List ℕ
  pub rest : List ℕ
  pub joined : text ≡ scheme ++ colon ∷ rest
  pub is : is_scheme scheme ≡ true

-- such a text splits there
pub splits_at_scheme : (text : List ℕ) → starts_with_scheme text ≡ true → SplitsAtScheme text
splits_at_scheme [] starts = absurd (false≢true starts)
splits_at_scheme (c ∷ rest) starts =
    let parts = and_parts (is_ascii_alphabetic c) (goes_on_to_colon rest) starts in
    let more = before_colon rest parts.1 in
    record {
      scheme = c ∷ more.prefix;
      rest = more.rest;
      joined = ap (λ xs. c ∷ xs) more.joined;
      is = and_from _ _ parts.0 more.each;
    }

-- the scheme of a start that is written with one or without
pub scheme_cut-written : (scheme : Option (List ℕ)) (middle : List ℕ) → IsSchemeCut scheme middle
    → scheme_cut (written_scheme scheme ++ middle) ≡ scheme
scheme_cut-written None middle is = rw is refl
scheme_cut-written (Some scheme) middle is =
    rw (append_assoc scheme (colon ∷ []) middle, starts_with_written_scheme scheme middle is)
    (ap Some (text_before-mark colon scheme middle (scheme_without_colon scheme is)))

-- what follows that scheme
pub after_scheme-written : (scheme : Option (List ℕ)) (middle : List ℕ) → IsSchemeCut scheme middle
    → after_scheme (written_scheme scheme ++ middle) ≡ middle
after_scheme-written None middle is = rw is refl
after_scheme-written (Some scheme) middle is =
    rw (append_assoc scheme (colon ∷ []) middle, starts_with_written_scheme scheme middle is)
    (after_first-mark colon scheme middle (scheme_without_colon scheme is))

-- a start is its scheme and what follows it
pub written_scheme_cut : (start : List ℕ) → start ≡ written_scheme (scheme_cut start) ++ after_scheme start
written_scheme_cut start = elim (cases_Bool (starts_with_scheme start)) [
  | inl starts ↦
      let split = splits_at_scheme start starts in
      let none = scheme_without_colon split.scheme split.is in
      let before : text_before colon start ≡ split.scheme
      = ap (text_before colon) split.joined ∙ text_before-mark colon split.scheme split.rest none in
      let after : after_first (λ c. c == colon) start ≡ split.rest
      = ap (after_first (λ c. c == colon)) split.joined ∙ after_first-mark colon split.scheme split.rest none in
      rw (starts, before, after, append_assoc split.scheme (colon ∷ []) split.rest) split.joined
  | inr other ↦ rw other refl
]

-- the computed scheme is a cut
pub scheme_cut-is : (start : List ℕ) → IsSchemeCut (scheme_cut start) (after_scheme start)
scheme_cut-is start = elim (cases_Bool (starts_with_scheme start)) [
  | inl starts ↦
      let split = splits_at_scheme start starts in
      let none = scheme_without_colon split.scheme split.is in
      let before : text_before colon start ≡ split.scheme
      = ap (text_before colon) split.joined ∙ text_before-mark colon split.scheme split.rest none in
      rw (starts, before) split.is
  | inr other ↦ rw other other
]
