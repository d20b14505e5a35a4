-- Dot segments and percent-encoding: an encoded segment is a dot segment exactly when the segment is.
use Rattle.std.proofs.Common.{◌≡◌, ℕ, ◌+◌, ◌-◌, ◌/◌, ◌%◌, ◌<◌, Bool, true, false, ◌||◌, ◌==◌, List, [], ◌∷◌, ◌++◌}
use Rattle.std.proofs.Common.{refl, sym, ap, ◌∙◌, subst, inl, inr, arith, codes}
use Rattle.std.specs.List.{list_all}
use Rattle.std.specs.Str.{bytes_eq}
use Rattle.std.specs.Char.{is_ascii, to_ascii_lowercase}
use Rattle.std.specs.Fmt.{digit_glyph}
use Rattle.std.proofs.lemmas.Bool.{cases_Bool, and_parts, and_cases, and_left, and_right, or_from, agree_below_at}
use Rattle.std.proofs.lemmas.Bool.{both_ways, false_from_ne_true}
use Rattle.std.proofs.lemmas.Bool.Decides.{nat_tests}
use Rattle.std.proofs.lemmas.List.Folds.{list_all-append}
use Rattle.std.proofs.lemmas.Slice.Eq.{bytes_eq-Decides}
use Rattle.percent_encoding.specs.Percent.{percent_encode_byte}
use Rattle.uv_model.specs.Encoding.{encoded, encoded_code_point}
use Rattle.uv_model.specs.Path.{is_single_dot, is_double_dot}
use Rattle.uv_model.specs.Scheme.{lowercase}
use Rattle.uv_model.proofs.Texts.EncodingLemmas.{encoded-beyond}

-- a code point of the dot segments in lower case
abbrev is_dot_letter : ℕ → Bool
is_dot_letter c = (c == 0x2E) || ((c == 0x25) || ((c == 0x32) || (c == 0x65)))

-- ---- a text that is ASCII stays, and any other isn't a dot segment, encoded or not

encoded-ascii : (text : List ℕ) → list_all is_ascii text ≡ true → encoded false text ≡ text
unfolding encoded
encoded-ascii [] ascii = refl
encoded-ascii (c ∷ rest) ascii =
    let parts = and_parts (is_ascii c) (list_all is_ascii rest) ascii in
    rw parts.0 (ap (λ xs. c ∷ xs) (encoded-ascii rest parts.1))

-- the first digit of an escape of a byte from 128 to 191
digit_beyond : (bits : ℕ) → is_dot_letter (to_ascii_lowercase (digit_glyph true ((128 + bits % 64) / 16 % 16))) ≡ false
digit_beyond bits =
    let n = (128 + bits % 64) / 16 % 16 in
    let small : n - 8 < 4 = omega arith in
    let whole : 8 + (n - 8) ≡ n = omega arith in
    subst (λ (d : ℕ). is_dot_letter (to_ascii_lowercase (digit_glyph true d)) ≡ false) whole
    (agree_below_at (λ d. is_dot_letter (to_ascii_lowercase (digit_glyph true (8 + d)))) (λ d. false) 4
    (n - 8) refl small)

-- a code point beyond ASCII isn't in a dot segment
letter_beyond : (c : ℕ) → is_ascii c ≡ false → is_dot_letter (to_ascii_lowercase c) ≡ false
letter_beyond c beyond = grind (arith, nat_tests)

-- and neither are its escapes
escapes_beyond : (c : ℕ) → is_ascii c ≡ false → list_all is_dot_letter (lowercase (encoded_code_point false c)) ≡ false
unfolding percent_encode_byte
escapes_beyond c beyond =
    let (first, bits, rest, spelled) = encoded-beyond false c beyond in
    rw spelled
    (and_right (is_dot_letter (to_ascii_lowercase (digit_glyph true (first / 16 % 16)))) _
    (and_right (is_dot_letter (to_ascii_lowercase (digit_glyph true (first % 16)))) _
    (and_left _ _ (digit_beyond bits))))

-- a text with a code point beyond ASCII
plain_beyond : (text : List ℕ) → list_all is_ascii text ≡ false → list_all is_dot_letter (lowercase text) ≡ false
plain_beyond [] beyond = beyond
plain_beyond (c ∷ rest) beyond =
    elim (and_cases (is_ascii c) (list_all is_ascii rest) beyond) [
      | inl first ↦ and_left _ _ (letter_beyond c first)
      | inr later ↦ and_right (is_dot_letter (to_ascii_lowercase c)) _ (plain_beyond rest later)
    ]

lowercase-append : (xs ys : List ℕ) → lowercase (xs ++ ys) ≡ lowercase xs ++ lowercase ys
lowercase-append [] ys = refl
lowercase-append (x ∷ xs) ys = ap (λ zs. to_ascii_lowercase x ∷ zs) (lowercase-append xs ys)

-- the encoding of a text with a code point beyond ASCII
encoded_beyond : (text : List ℕ) → list_all is_ascii text ≡ false
    → list_all is_dot_letter (lowercase (encoded false text)) ≡ false
unfolding encoded
encoded_beyond [] beyond = beyond
encoded_beyond (c ∷ rest) beyond =
    let first = encoded_code_point false c in
    ap (λ xs. list_all is_dot_letter xs) (lowercase-append first (encoded false rest))
    ∙ (list_all-append is_dot_letter (lowercase first) (lowercase (encoded false rest))
    ∙ elim (and_cases (is_ascii c) (list_all is_ascii rest) beyond) [
      | inl here ↦ and_left _ _ (escapes_beyond c here)
      | inr later ↦ and_right (list_all is_dot_letter (lowercase first)) _ (encoded_beyond rest later)
    ])

-- a text with another letter isn't the word
not_word : (text word : List ℕ) → list_all is_dot_letter text ≡ false → list_all is_dot_letter word ≡ true
    → bytes_eq text word ≡ false
not_word text word other ok =
    false_from_ne_true (bytes_eq text word)
    (λ same. both_ways (list_all is_dot_letter text) other
    (ap (λ xs. list_all is_dot_letter xs) ((bytes_eq-Decides text word).0 same) ∙ ok))

no_single_dot : (text : List ℕ) → list_all is_dot_letter (lowercase text) ≡ false → is_single_dot text ≡ false
unfolding is_single_dot
no_single_dot text other =
    or_from _ _ (not_word (lowercase text) (codes ".") other refl) (not_word (lowercase text) (codes "%2e") other refl)

no_double_dot : (text : List ℕ) → list_all is_dot_letter (lowercase text) ≡ false → is_double_dot text ≡ false
unfolding is_double_dot
no_double_dot text other =
    or_from _ _ (not_word (lowercase text) (codes "..") other refl)
    (or_from _ _ (not_word (lowercase text) (codes ".%2e") other refl)
    (or_from _ _ (not_word (lowercase text) (codes "%2e.") other refl)
    (not_word (lowercase text) (codes "%2e%2e") other refl)))

-- ---- the tests

-- an encoded segment is a single-dot segment exactly when the segment is
pub is_single_dot-encoded : (text : List ℕ) → is_single_dot (encoded false text) ≡ is_single_dot text
is_single_dot-encoded text =
    elim (cases_Bool (list_all is_ascii text)) [
      | inl ascii ↦ ap is_single_dot (encoded-ascii text ascii)
      | inr beyond ↦ no_single_dot (encoded false text) (encoded_beyond text beyond) ∙ sym
          (no_single_dot text (plain_beyond text beyond))
    ]

-- an encoded segment is a double-dot segment exactly when the segment is
pub is_double_dot-encoded : (text : List ℕ) → is_double_dot (encoded false text) ≡ is_double_dot text
is_double_dot-encoded text =
    elim (cases_Bool (list_all is_ascii text)) [
      | inl ascii ↦ ap is_double_dot (encoded-ascii text ascii)
      | inr beyond ↦ no_double_dot (encoded false text) (encoded_beyond text beyond) ∙ sym
          (no_double_dot text (plain_beyond text beyond))
    ]
