-- Opaque paths of URL units and spaces: path-relative strings are such, and what is denoted by one is ASCII units and
-- spaces of which none is the last code point.
use Rattle.std.proofs.Common.{◌≡◌, ℕ, suc, zero, Bool, true, false, ◌||◌, ◌==◌, ◌⊎◌, List, [], ◌∷◌, ◌++◌, codes, refl}
use Rattle.std.proofs.Common.{sym, ap}
use Rattle.std.proofs.Common.{◌∙◌, append-nil, arith, eqb-true, inl, inr, length}
use Rattle.std.specs.Prelude.{slice_index_or}
use Rattle.std.specs.Char.{is_ascii, is_ascii_hexdigit}
use Rattle.std.proofs.lemmas.Bool.{and_from, and_parts, cases_Bool, false≢true, or_right}
use Rattle.std.proofs.lemmas.Bool.Decides.{nat_tests}
use Rattle.uv_model.specs.Ascii.{percent_sign, question_mark, space}
use Rattle.uv_model.specs.Encoding.{encoded, encoded_code_point}
use Rattle.uv_model.specs.Path.{IsPathRelative, IsSpacedPath, IsTakenSpacedPath, ends_with_space, is_spaced}
use Rattle.uv_model.specs.Path.{is_without, starts_with_slash}
use Rattle.uv_model.specs.Records.Denote.{end_escaped}
use Rattle.uv_model.specs.Records.WellFormed.{IsEncodedSpacedPath}
use Rattle.uv_model.specs.Units.{is_faultless, is_unit_at, is_url_code_point, starts_with_two_hex}
use Rattle.uv_model.proofs.Paths.JoinedSegments.{faultless_path, without_path}
use Rattle.uv_model.proofs.Paths.OpaquePaths.{unit_not_space}
use Rattle.uv_model.proofs.Records.WellFormedLemmas.{no_question_mark-encoded}
use Rattle.uv_model.proofs.Texts.EncodingLemmas.{IsUnits-encoded, encoded-some, encoded_code_point-kept}
use Rattle.uv_model.proofs.Texts.EncodingLemmas.{is_ascii-encoded, starts_with_slash-encoded}
use Rattle.uv_model.proofs.Texts.MarkLemmas.{is_without-append, is_without-parts, is_without-cons}
use Rattle.uv_model.proofs.Texts.UnitsAhead.{is_unit_at-ahead}
use Rattle.uv_model.proofs.Texts.UnitsLemmas.{IsUnits-faultless, is_faultless-units, is_unit_at-mark}

-- ---- texts of units

-- a text without a fault of units is one of units and spaces
pub spaced_units : (text : List ℕ) → is_faultless text ≡ true → is_spaced text ≡ true
spaced_units [] units = refl
spaced_units (c ∷ rest) units =
    let parts = and_parts (is_unit_at c rest) (is_faultless rest) units in
    and_from _ _ (or_right (c == space) (is_unit_at c rest) parts.0) (spaced_units rest parts.1)

-- units and spaces without a space have no fault of units
pub units_without_space : (text : List ℕ) → is_spaced text ≡ true → is_without space text ≡ true
    → is_faultless text ≡ true
units_without_space [] spaced without = refl
units_without_space (c ∷ rest) spaced without =
    let parts = and_parts ((c == space) || is_unit_at c rest) (is_spaced rest) spaced in
    let other = is_without-cons space c rest without in
    and_from _ _ (rw other.0 at parts.0) (units_without_space rest parts.1 other.1)

-- a path-relative string is one of units and spaces
pub spaced_path : (segments : List (List ℕ)) (text : List ℕ) → IsPathRelative segments text → IsSpacedPath text
spaced_path segments text path = record {
  units = spaced_units text (faultless_path segments text path);
  no_question_mark = without_path segments text path;
  start = path.start;
}

-- ---- units and spaces

-- a space or no fault stays one with more text after it
pub spaced_ahead : (c : ℕ) (xs ys : List ℕ) → ((c == space) || is_unit_at c xs) ≡ true
    → ((c == space) || is_unit_at c (xs ++ ys)) ≡ true
spaced_ahead c xs ys is =
    elim (cases_Bool (c == space)) [
      | inl same ↦ rw same refl
      | inr other ↦ rw other (is_unit_at-ahead c xs ys (rw other at is))
    ]

-- one text of units and spaces after another
spaced_append : (xs ys : List ℕ) → is_spaced xs ≡ true → is_spaced ys ≡ true → is_spaced (xs ++ ys) ≡ true
spaced_append [] ys first second = second
spaced_append (c ∷ xs) ys first second =
    let parts = and_parts ((c == space) || is_unit_at c xs) (is_spaced xs) first in
    and_from _ _ (spaced_ahead c xs ys parts.0) (spaced_append xs ys parts.1 second)

-- what is before a space
spaced_before : (xs : List ℕ) → is_spaced (xs ++ (space ∷ [])) ≡ true → is_spaced xs ≡ true
spaced_before [] is = refl
spaced_before (c ∷ xs) is =
    let parts = and_parts ((c == space) || is_unit_at c (xs ++ (space ∷ []))) (is_spaced (xs ++ (space ∷ []))) is in
    let same : is_unit_at c (xs ++ (space ∷ [])) ≡ is_unit_at c xs = is_unit_at-mark space c xs [] refl in
    and_from _ _ (rw same at parts.0) (spaced_before xs parts.1)

-- ---- the space at the end

-- a text stays, or a space at its end is escaped
escaped_cases : (followed : Bool) (text : List ℕ)
    → (end_escaped followed text ≡ text)
    ⊎ ((xs : List ℕ) × (text ≡ xs ++ (space ∷ [])) × (end_escaped followed text ≡ xs ++ codes "%20"))
escaped_cases followed [] = inl refl
escaped_cases true (c ∷ []) =
    elim (cases_Bool (c == space)) [
      | inl same ↦ inr ([], ap (λ d. d ∷ []) (eqb-true c space same), rw same refl)
      | inr other ↦ inl (rw other refl)
    ]
escaped_cases false (c ∷ []) =
    inl (elim (cases_Bool (c == space)) [ inl same ↦ rw same refl | inr other ↦ rw other refl ])
escaped_cases followed (c ∷ next ∷ rest) =
    elim (escaped_cases followed (next ∷ rest)) [
      | inl same ↦ inl (ap (λ xs. c ∷ xs) same)
      | inr (xs, spelled, escaped) ↦ inr (c ∷ xs, ap (λ ys. c ∷ ys) spelled, ap (λ ys. c ∷ ys) escaped)
    ]

-- units and spaces stay such
spaced_escaped : (followed : Bool) (text : List ℕ) → is_spaced text ≡ true
    → is_spaced (end_escaped followed text) ≡ true
unfolding is_unit_at is_url_code_point
spaced_escaped followed text is =
    elim (escaped_cases followed text) [
      | inl same ↦ rw same is
      | inr (xs, spelled, escaped) ↦
          rw escaped (spaced_append xs (codes "%20") (spaced_before xs (rw spelled at is)) refl)
    ]

-- and no `?` comes
without_escaped : (followed : Bool) (text : List ℕ) → is_without question_mark text ≡ true
    → is_without question_mark (end_escaped followed text) ≡ true
without_escaped followed text without =
    elim (escaped_cases followed text) [
      | inl same ↦ rw same without
      | inr (xs, spelled, escaped) ↦
          rw escaped
          (is_without-append question_mark xs (codes "%20")
          (is_without-parts question_mark xs (space ∷ []) (rw spelled at without)).0 refl)
    ]

-- nor a `/` at the start
start_escaped : (followed : Bool) (text : List ℕ) → starts_with_slash text ≡ false
    → starts_with_slash (end_escaped followed text) ≡ false
start_escaped followed text start =
    elim (escaped_cases followed text) [
      | inl same ↦ rw same start
      | inr (xs, spelled, escaped) ↦ rw escaped (by_first xs (rw spelled at start))
    ]
  where
    by_first : (xs : List ℕ) → starts_with_slash (xs ++ (space ∷ [])) ≡ false
        → starts_with_slash (xs ++ codes "%20") ≡ false
    by_first [] none = refl
    by_first (c ∷ rest) none = none

-- where something follows, no space is left at the end
ends_escaped : (text : List ℕ) → ends_with_space (end_escaped true text) ≡ false
ends_escaped [] = refl
ends_escaped (c ∷ []) = elim (cases_Bool (c == space)) [ inl same ↦ rw same refl | inr other ↦ rw other other ]
ends_escaped (c ∷ next ∷ []) =
    elim (cases_Bool (next == space)) [ inl same ↦ rw same refl | inr other ↦ rw other other ]
ends_escaped (c ∷ next ∷ third ∷ rest) = ends_escaped (next ∷ third ∷ rest)

-- if nothing follows, the text stays
pub escaped_alone : (text : List ℕ) → end_escaped false text ≡ text
escaped_alone [] = refl
escaped_alone (c ∷ []) = elim (cases_Bool (c == space)) [ inl same ↦ rw same refl | inr other ↦ rw other refl ]
escaped_alone (c ∷ next ∷ rest) = ap (λ xs. c ∷ xs) (escaped_alone (next ∷ rest))

-- a text that doesn't end with a space stays in any case
pub escaped_kept : (followed : Bool) (text : List ℕ) → ends_with_space text ≡ false → end_escaped followed text ≡ text
escaped_kept followed [] end = refl
escaped_kept followed (c ∷ []) end = rw end refl
escaped_kept followed (c ∷ next ∷ rest) end = ap (λ xs. c ∷ xs) (escaped_kept followed (next ∷ rest) end)

-- so no space is left at the end, if nothing follows a text without one there
ends_escaped_by : (followed : Bool) (text : List ℕ) → (followed ≡ false → ends_with_space text ≡ false)
    → ends_with_space (end_escaped followed text) ≡ false
ends_escaped_by true text end = ends_escaped text
ends_escaped_by false text end = rw (escaped_alone text) (end refl)

-- ---- encoding

-- two hex digits stay
two_hex_encoded : (text : List ℕ) → starts_with_two_hex text ≡ true → starts_with_two_hex (encoded false text) ≡ true
unfolding encoded
two_hex_encoded [] is = absurd (false≢true is)
two_hex_encoded (high ∷ []) is = absurd (false≢true is)
two_hex_encoded (high ∷ low ∷ rest) is =
    let parts = and_parts (is_ascii_hexdigit high) (is_ascii_hexdigit low) is in
    let first = encoded_code_point-kept false high (and_from _ _ (hex_is_ascii high parts.0) refl) in
    let second = encoded_code_point-kept false low (and_from _ _ (hex_is_ascii low parts.1) refl) in
    rw (first, second) is
  where
    hex_is_ascii : (c : ℕ) → is_ascii_hexdigit c ≡ true → is_ascii c ≡ true
    hex_is_ascii c is = grind (arith, nat_tests)

-- no fault before a text isn't one before the text encoded
unit_before_encoded : (c : ℕ) (rest : List ℕ) → is_unit_at c rest ≡ true → is_unit_at c (encoded false rest) ≡ true
unfolding is_unit_at
unit_before_encoded c rest is =
    elim (cases_Bool (c == percent_sign)) [
      | inl same ↦ rw same (two_hex_encoded rest (rw same at is))
      | inr other ↦ rw other (rw other at is)
    ]

-- a code point beyond ASCII that isn't a fault isn't one by itself
alone_beyond : (c : ℕ) (rest : List ℕ) → is_ascii c ≡ false → is_unit_at c rest ≡ true → is_faultless (c ∷ []) ≡ true
unfolding is_unit_at
alone_beyond c rest beyond is =
    elim (cases_Bool (c == percent_sign)) [
      | inl same ↦ absurd (false≢true (sym beyond ∙ rw (eqb-true c percent_sign same) refl))
      | inr other ↦ rw other (and_from _ _ (rw other at is) refl)
    ]

-- a code point that isn't a fault by itself has an encoding without a fault
faultless_alone : (c : ℕ) → is_faultless (c ∷ []) ≡ true → is_faultless (encoded_code_point false c) ≡ true
unfolding encoded
faultless_alone c is =
    rw append-nil at
    (is_faultless-units (encoded false (c ∷ []))
    (IsUnits-encoded false (c ∷ []) (IsUnits-faultless (c ∷ []) is)))

-- units and spaces encoded are such
spaced_encoded : (text : List ℕ) → is_spaced text ≡ true → is_spaced (encoded false text) ≡ true
unfolding encoded
spaced_encoded [] is = refl
spaced_encoded (c ∷ rest) is =
    let parts = and_parts ((c == space) || is_unit_at c rest) (is_spaced rest) is in
    let later = spaced_encoded rest parts.1 in
    elim (cases_Bool (c == space)) [
      | inl same ↦ rw (eqb-true c space same) later
      | inr other ↦
          let unit : is_unit_at c rest ≡ true = rw other at parts.0 in
          elim (cases_Bool (is_ascii c)) [
            | inl ascii ↦
                let first : ((c == space) || is_unit_at c (encoded false rest)) ≡ true
                = or_right (c == space) (is_unit_at c (encoded false rest)) (unit_before_encoded c rest unit) in
                rw (encoded_code_point-kept false c (and_from _ _ ascii refl)) (and_from _ _ first later)
            | inr beyond ↦
                spaced_append (encoded_code_point false c) (encoded false rest)
                (spaced_units (encoded_code_point false c) (faultless_alone c (alone_beyond c rest beyond unit))) later
          ]
    ]

-- a text without a fault doesn't end with a space
pub ends_faultless : (text : List ℕ) → is_faultless text ≡ true → ends_with_space text ≡ false
ends_faultless [] is = refl
ends_faultless (c ∷ []) is = unit_not_space c [] (and_parts (is_unit_at c []) true is).0
ends_faultless (c ∷ next ∷ rest) is =
    ends_faultless (next ∷ rest) (and_parts (is_unit_at c (next ∷ rest)) (is_faultless (next ∷ rest)) is).1

-- a text ends with a space where what is after another does
pub ends_after : (xs : List ℕ) (c : ℕ) (rest : List ℕ)
    → ends_with_space (xs ++ (c ∷ rest)) ≡ ends_with_space (c ∷ rest)
ends_after [] c rest = refl
ends_after (x ∷ []) c rest = refl
ends_after (x ∷ next ∷ xs) c rest = ends_after (next ∷ xs) c rest

-- the last code point decides
pub ends_with_space-last : (text : List ℕ) (last : ℕ) → length text ≡ suc last
    → (slice_index_or text last 0 == space) ≡ ends_with_space text
ends_with_space-last [] last some = absurd (omega arith)
ends_with_space-last (c ∷ []) zero some = refl
ends_with_space-last (c ∷ []) (suc last) some = absurd (omega arith)
ends_with_space-last (c ∷ next ∷ rest) zero some = absurd (omega arith)
ends_with_space-last (c ∷ next ∷ rest) (suc last) some = ends_with_space-last (next ∷ rest) last (omega arith)

-- what doesn't end with a space doesn't encoded
ends_encoded : (text : List ℕ) → is_spaced text ≡ true → ends_with_space text ≡ false
    → ends_with_space (encoded false text) ≡ false
unfolding encoded
ends_encoded [] is end = refl
ends_encoded (c ∷ []) is end =
    let unit : is_unit_at c [] ≡ true = rw end at (and_parts ((c == space) || is_unit_at c []) true is).0 in
    let alone = faultless_alone c (and_from _ _ unit refl) in
    rw (append-nil (encoded_code_point false c))
    (ends_faultless (encoded_code_point false c) alone)
ends_encoded (c ∷ next ∷ rest) is end =
    let parts = and_parts ((c == space) || is_unit_at c (next ∷ rest)) (is_spaced (next ∷ rest)) is in
    let later = ends_encoded (next ∷ rest) parts.1 end in
    let (first, others, shown) = encoded-some next rest in
    rw shown (ends_after (encoded_code_point false c) first others ∙ (rw shown at later))

-- ---- the path

-- what the parser makes of the opaque path of a text
pub spaced_path_encoded : (followed : Bool) (text : List ℕ) → IsTakenSpacedPath followed text
    → IsEncodedSpacedPath (encoded false (end_escaped followed text))
spaced_path_encoded followed text path =
    let is = path.spaced in
    let escaped : List ℕ = end_escaped followed text in
    let spaced = spaced_escaped followed text is.units in
    record {
      spaced = record {
        units = spaced_encoded escaped spaced;
        no_question_mark =
            no_question_mark-encoded false escaped (without_escaped followed text is.no_question_mark);
        start = starts_with_slash-encoded false escaped (start_escaped followed text is.start);
      };
      ascii = is_ascii-encoded false escaped;
      end = ends_encoded escaped spaced (ends_escaped_by followed text path.end);
    }
