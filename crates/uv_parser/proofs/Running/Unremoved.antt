-- Code points above U+0020, which the parser never removes before its first step: in a scheme, in units, and in a query
-- and a fragment after their marks.
use Rattle.std.proofs.Common.{◌≡◌, ℕ, Bool, true, ◌==◌, List, [], ◌∷◌, ◌++◌, Option, Some, None, inl, inr}
use Rattle.std.proofs.Common.{refl, ◌∙◌, arith}
use Rattle.std.specs.Prelude.{nat_lt}
use Rattle.std.specs.List.{list_all}
use Rattle.std.specs.Char.{is_ascii_alphabetic}
use Rattle.std.proofs.lemmas.Bool.{cases_Bool, and_parts, and_from, eqb-true}
use Rattle.std.proofs.lemmas.Bool.Decides.{nat_tests}
use Rattle.std.proofs.lemmas.List.Folds.{list_all-append}
use Rattle.uv_model.specs.Ascii.{percent_sign, question_mark, number_sign}
use Rattle.uv_model.specs.Parts.{written_after}
use Rattle.uv_model.specs.Scheme.{is_scheme, is_scheme_code_point}
use Rattle.uv_model.specs.Units.{is_url_code_point, is_unit_at, is_faultless}
use Rattle.uv_model.specs.Valid.{MayBeUnits}
use Rattle.uv_model.proofs.Texts.UnitsLemmas.{is_faultless-units}

-- a code point above U+0020, which is never removed
abbrev pub is_unremoved : ℕ → Bool
is_unremoved c = nat_lt 0x20 c

-- ---- the parts of a valid text

unremoved_url : (c : ℕ) → is_url_code_point c ≡ true → is_unremoved c ≡ true
unfolding is_url_code_point
unremoved_url c url = grind (arith, nat_tests)

pub unremoved_unit_at : (c : ℕ) (rest : List ℕ) → is_unit_at c rest ≡ true → is_unremoved c ≡ true
unfolding is_unit_at
unremoved_unit_at c rest ok =
    elim (cases_Bool (c == percent_sign)) [
      | inl same ↦ rw (eqb-true c percent_sign same) refl
      | inr other ↦ unremoved_url c (rw other at ok)
    ]

-- a text without a fault of units
pub unremoved_faultless : (text : List ℕ) → is_faultless text ≡ true → list_all is_unremoved text ≡ true
unremoved_faultless [] none = refl
unremoved_faultless (c ∷ rest) none =
    let parts = and_parts (is_unit_at c rest) (is_faultless rest) none in
    and_from _ _ (unremoved_unit_at c rest parts.0) (unremoved_faultless rest parts.1)

unremoved_scheme_code_point : (c : ℕ) → is_scheme_code_point c ≡ true → is_unremoved c ≡ true
unremoved_scheme_code_point c ok = grind (arith, nat_tests)

unremoved_scheme_rest : (text : List ℕ) → list_all is_scheme_code_point text ≡ true → list_all is_unremoved text ≡ true
unremoved_scheme_rest [] ok = refl
unremoved_scheme_rest (c ∷ rest) ok =
    let parts = and_parts (is_scheme_code_point c) (list_all is_scheme_code_point rest) ok in
    and_from _ _ (unremoved_scheme_code_point c parts.0) (unremoved_scheme_rest rest parts.1)

unremoved_letter : (c : ℕ) → is_ascii_alphabetic c ≡ true → is_unremoved c ≡ true
unremoved_letter c ok = grind (arith, nat_tests)

-- a scheme
pub unremoved_scheme : (text : List ℕ) → is_scheme text ≡ true → list_all is_unremoved text ≡ true
unremoved_scheme [] ok = refl
unremoved_scheme (c ∷ rest) ok =
    let parts = and_parts (is_ascii_alphabetic c) (list_all is_scheme_code_point rest) ok in
    and_from _ _ (unremoved_letter c parts.0) (unremoved_scheme_rest rest parts.1)

-- one text after another
pub unremoved_append : (xs ys : List ℕ) → list_all is_unremoved xs ≡ true → list_all is_unremoved ys ≡ true
    → list_all is_unremoved (xs ++ ys) ≡ true
unremoved_append xs ys first second = list_all-append is_unremoved xs ys ∙ and_from _ _ first second

-- a query and a fragment, each after its mark
pub unremoved_tail : (query fragment : Option (List ℕ)) → MayBeUnits query → MayBeUnits fragment
    → list_all is_unremoved (written_after question_mark query ++ written_after number_sign fragment) ≡ true
unremoved_tail None None query_units fragment_units = refl
unremoved_tail None (Some fragment) query_units fragment_units =
    unremoved_faultless fragment (is_faultless-units fragment fragment_units)
unremoved_tail (Some query) None query_units fragment_units =
    unremoved_append query [] (unremoved_faultless query (is_faultless-units query query_units)) refl
unremoved_tail (Some query) (Some fragment) query_units fragment_units =
    unremoved_append query (number_sign ∷ fragment) (unremoved_faultless query (is_faultless-units query query_units))
    (unremoved_faultless fragment (is_faultless-units fragment fragment_units))
