-- URL units: a concatenation of units is a text without a fault, and what each of its code points is.
use Rattle.std.proofs.Common.{chars, encode_utf8_all, le-ltb, ◌≡◌, ◌≢◌, ℕ, ◌≤◌, true, false, ◌&&◌, ◌==◌, List, []}
use Rattle.std.proofs.Common.{◌∷◌, ◌++◌, refl, sym, ap, ◌∙◌, inl, inr, arith, lt-ltb}
use Rattle.std.specs.List.{concat, list_all}
use Rattle.std.specs.Char.{encode_utf8, is_ascii_hexdigit}
use Rattle.std.specs.Str.{IsUtf8}
use Rattle.std.proofs.lemmas.Bool.{false≢true, and_parts, and_from, and_left, and_right, cases_eq, cases_lt, ne_eqb}
use Rattle.std.proofs.lemmas.Bool.Decides.{nat_tests}
use Rattle.std.proofs.lemmas.List.Folds.{list_all-append, concat-append}
use Rattle.std.proofs.lemmas.Str.{encode_ascii, encodes-chars}
use Rattle.uv_model.specs.Ascii.{percent_sign}
use Rattle.uv_model.specs.Units.{is_url_code_point, starts_with_two_hex, is_unit, IsUnits, is_unit_at, is_faultless}

-- ---- one code point

-- a URL code point isn't `%`
pub url_not_percent : (c : ℕ) → is_url_code_point c ≡ true → (c == percent_sign) ≡ false
unfolding is_url_code_point
url_not_percent c url = grind (arith, nat_tests)

-- a hex digit is a URL code point
pub hex_is_url : (c : ℕ) → is_ascii_hexdigit c ≡ true → is_url_code_point c ≡ true
unfolding is_url_code_point
hex_is_url c hex = grind (arith, nat_tests)

-- a URL code point isn't a fault, whatever follows it
pub is_unit_at-url : (c : ℕ) (rest : List ℕ) → is_url_code_point c ≡ true → is_unit_at c rest ≡ true
unfolding is_unit_at
is_unit_at-url c rest url = rw (url_not_percent c url) url

-- what isn't a fault and no `%` is a URL code point
pub url_from_unit_at : (c : ℕ) (rest : List ℕ) → c ≢ percent_sign → is_unit_at c rest ≡ true
    → is_url_code_point c ≡ true
unfolding is_unit_at
url_from_unit_at c rest other ok = rw (ne_eqb c percent_sign other) at ok

-- ---- from units to no fault

-- one unit before a text without a fault
is_faultless-unit : (unit text : List ℕ) → is_unit unit ≡ true → is_faultless text ≡ true
    → is_faultless (unit ++ text) ≡ true
unfolding is_unit_at
is_faultless-unit [] text unit rest = absurd (false≢true unit)
is_faultless-unit (c ∷ []) text unit rest = and_from _ _ (is_unit_at-url c text unit) rest
is_faultless-unit (c ∷ high ∷ []) text unit rest = absurd (false≢true unit)
is_faultless-unit (c ∷ high ∷ low ∷ []) text unit rest =
    let parts = and_parts (c == percent_sign) (is_ascii_hexdigit high && is_ascii_hexdigit low) unit in
    let hex = and_parts _ _ parts.1 in
    and_from _ _ (rw parts.0 parts.1)
    (and_from _ _ (is_unit_at-url high (low ∷ text) (hex_is_url high hex.0))
    (and_from _ _ (is_unit_at-url low text (hex_is_url low hex.1)) rest))
is_faultless-unit (c ∷ high ∷ low ∷ more ∷ others) text unit rest = absurd (false≢true unit)

is_faultless-concat : (units : List (List ℕ)) → list_all is_unit units ≡ true → is_faultless (concat units) ≡ true
is_faultless-concat [] each = refl
is_faultless-concat (unit ∷ units) each =
    let parts = and_parts _ _ each in
    is_faultless-unit unit (concat units) parts.0 (is_faultless-concat units parts.1)

-- a concatenation of units has no fault
pub is_faultless-units : (text : List ℕ) → IsUnits text → is_faultless text ≡ true
is_faultless-units text is = rw is.joined (is_faultless-concat is.units is.each)

-- ---- from no fault to units

-- the empty text is units
pub IsUnits-nil : IsUnits []
IsUnits-nil = record { units = []; each = refl; joined = refl }

-- one unit before units
pub IsUnits-unit : (unit text : List ℕ) → is_unit unit ≡ true → IsUnits text → IsUnits (unit ++ text)
IsUnits-unit unit text first rest =
    record {
      units = unit ∷ rest.units;
      each = and_from _ _ first rest.each;
      joined = ap (λ xs. unit ++ xs) rest.joined;
    }

-- at a `%` that isn't a fault two hex digits follow
two_hex_from_unit_at : (c : ℕ) (rest : List ℕ) → c ≡ percent_sign → is_unit_at c rest ≡ true
    → starts_with_two_hex rest ≡ true
unfolding is_unit_at
two_hex_from_unit_at c rest same ok = rw same at ok

-- a URL code point before units
IsUnits-url : (c : ℕ) (rest : List ℕ) → c ≢ percent_sign → is_unit_at c rest ≡ true → IsUnits rest
    → IsUnits (c ∷ rest)
IsUnits-url c rest other ok units = IsUnits-unit (c ∷ []) rest (url_from_unit_at c rest other ok) units

-- a percent-encoded byte before units
IsUnits-escape : (c high low : ℕ) (rest : List ℕ) → c ≡ percent_sign → is_unit_at c (high ∷ low ∷ rest) ≡ true
    → IsUnits rest → IsUnits (c ∷ high ∷ low ∷ rest)
IsUnits-escape c high low rest same ok units =
    IsUnits-unit (c ∷ high ∷ low ∷ []) rest (rw same (two_hex_from_unit_at c (high ∷ low ∷ rest) same ok)) units

-- a text without a fault is a concatenation of units
pub IsUnits-faultless : (text : List ℕ) → is_faultless text ≡ true → IsUnits text
IsUnits-faultless [] none = IsUnits-nil
IsUnits-faultless (c ∷ []) none =
    let parts = and_parts _ _ none in
    elim (cases_eq c percent_sign) [
      | inl same ↦ absurd (false≢true (two_hex_from_unit_at c [] same parts.0))
      | inr other ↦ IsUnits-url c [] other parts.0 IsUnits-nil
    ]
IsUnits-faultless (c ∷ high ∷ []) none =
    let parts = and_parts _ _ none in
    elim (cases_eq c percent_sign) [
      | inl same ↦ absurd (false≢true (two_hex_from_unit_at c (high ∷ []) same parts.0))
      | inr other ↦ IsUnits-url c (high ∷ []) other parts.0 (IsUnits-faultless (high ∷ []) parts.1)
    ]
IsUnits-faultless (c ∷ high ∷ low ∷ rest) none =
    let parts = and_parts _ _ none in
    let after = and_parts _ _ (and_parts _ _ parts.1).1 in
    elim (cases_eq c percent_sign) [
      | inl same ↦ IsUnits-escape c high low rest same parts.0 (IsUnits-faultless rest after.1)
      | inr other ↦ IsUnits-url c (high ∷ low ∷ rest) other parts.0 (IsUnits-faultless (high ∷ low ∷ rest) parts.1)
    ]

-- ---- units of texts joined

-- units after units are units
pub IsUnits-append : (xs ys : List ℕ) → IsUnits xs → IsUnits ys → IsUnits (xs ++ ys)
IsUnits-append xs ys first second =
    record {
      units = first.units ++ second.units;
      each = list_all-append is_unit first.units second.units ∙ and_from _ _ first.each second.each;
      joined = rw (first.joined, second.joined) (sym (concat-append first.units second.units));
    }

-- ---- units of a text cut at a mark

-- a mark that isn't a hex digit ends the digits that a `%` could have
starts_with_two_hex-mark : (mark : ℕ) (xs ys : List ℕ) → is_ascii_hexdigit mark ≡ false
    → starts_with_two_hex (xs ++ mark ∷ ys) ≡ starts_with_two_hex xs
starts_with_two_hex-mark mark [] [] other = refl
starts_with_two_hex-mark mark [] (y ∷ ys) other = rw other
starts_with_two_hex-mark mark (x ∷ []) ys other = and_right _ _ other
starts_with_two_hex-mark mark (x ∷ next ∷ xs) ys other = refl

-- so a code point before the mark is a fault or none as it is without the mark
pub is_unit_at-mark : (mark c : ℕ) (xs ys : List ℕ) → is_ascii_hexdigit mark ≡ false
    → is_unit_at c (xs ++ mark ∷ ys) ≡ is_unit_at c xs
unfolding is_unit_at
is_unit_at-mark mark c xs ys other = rw (starts_with_two_hex-mark mark xs ys other)

-- units before and after a URL code point are units with it
pub IsUnits-joined : (mark : ℕ) (xs ys : List ℕ) → is_url_code_point mark ≡ true → IsUnits xs → IsUnits ys
    → IsUnits (xs ++ mark ∷ ys)
IsUnits-joined mark xs ys url first second =
    IsUnits-append xs (mark ∷ ys) first (IsUnits-unit (mark ∷ []) ys url second)

-- ---- hex digits in the bytes of a text

-- what holds of each list that begins with a byte above 127 holds of a code point beyond ASCII in UTF-8
encode_beyond : (P : List ℕ → Type 0) → ((b : ℕ) (bs : List ℕ) → 128 ≤ b → P (b ∷ bs)) → (c : ℕ) → 128 ≤ c
    → P (encode_utf8 c)
unfolding encode_utf8
encode_beyond P high c beyond =
    elim (cases_lt c 2048) [
      | inl two ↦ rw (le-ltb c 128 beyond, lt-ltb c 2048 two) (high _ _ (omega arith))
      | inr more ↦ elim (cases_lt c 65536) [
        | inl three ↦ rw (le-ltb c 128 beyond, le-ltb c 2048 more, lt-ltb c 65536 three) (high _ _ (omega arith))
        | inr four ↦ rw (le-ltb c 128 beyond, le-ltb c 2048 more, le-ltb c 65536 four) (high _ _ (omega arith))
      ]
    ]

pub beyond_no_hex : (b : ℕ) → 128 ≤ b → is_ascii_hexdigit b ≡ false
beyond_no_hex b beyond = grind (arith, nat_tests)

-- no two hex digits are where the first is beyond ASCII
no_hex_first : (b : ℕ) (rest : List ℕ) → 128 ≤ b → starts_with_two_hex (b ∷ rest) ≡ false
no_hex_first b [] beyond = refl
no_hex_first b (next ∷ rest) beyond = and_left _ _ (beyond_no_hex b beyond)

-- the bytes of a text begin with two hex digits exactly when the text does
starts_with_two_hex-encodes : (text : List ℕ)
    → starts_with_two_hex (encode_utf8_all text) ≡ starts_with_two_hex text
starts_with_two_hex-encodes [] = refl
starts_with_two_hex-encodes (c ∷ []) =
    elim (cases_lt c 128) [
      | inl small ↦ rw (encode_ascii c small)
      | inr large ↦
          encode_beyond (λ bs. starts_with_two_hex (bs ++ []) ≡ false) (λ b bs high. no_hex_first b (bs ++ []) high)
          c large
    ]
starts_with_two_hex-encodes (c ∷ next ∷ rest) =
    elim (cases_lt c 128) [
      | inl small ↦ elim (cases_lt next 128) [
        | inl both ↦ rw (encode_ascii c small, encode_ascii next both)
        | inr large ↦
            let after : starts_with_two_hex (c ∷ (encode_utf8 next ++ encode_utf8_all rest)) ≡ false =
            encode_beyond (λ bs. starts_with_two_hex (c ∷ (bs ++ encode_utf8_all rest)) ≡ false)
            (λ b bs high. and_right _ _ (beyond_no_hex b high)) next large in
            rw (encode_ascii c small) (after ∙ sym (and_right _ _ (beyond_no_hex next large)))
      ]
      | inr large ↦
          let first : starts_with_two_hex (encode_utf8 c ++ (encode_utf8 next ++ encode_utf8_all rest)) ≡ false =
          encode_beyond (λ bs. starts_with_two_hex (bs ++ (encode_utf8 next ++ encode_utf8_all rest)) ≡ false)
          (λ b bs high. no_hex_first b (bs ++ (encode_utf8 next ++ encode_utf8_all rest)) high) c large in
          first ∙ sym (and_left _ _ (beyond_no_hex c large))
    ]

-- the bytes begin with two hex digits exactly when their code points do
pub starts_with_two_hex-chars : (bytes : List ℕ) → IsUtf8 bytes
    → starts_with_two_hex bytes ≡ starts_with_two_hex (chars bytes)
starts_with_two_hex-chars bytes utf8 =
    ap starts_with_two_hex (sym (encodes-chars bytes utf8)) ∙ starts_with_two_hex-encodes (chars bytes)
