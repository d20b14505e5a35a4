-- Percent-encoded texts: units stay units and become ASCII, and what holds of escapes holds of the encoded text.
use Rattle.std.proofs.Common.{◌≡◌, ℕ, ◌<◌, ◌≤◌, ◌+◌, ◌/◌, ◌%◌, Bool, true, false, not, ◌&&◌, ◌||◌, ◌==◌, List, []}
use Rattle.std.proofs.Common.{◌∷◌, ◌++◌, flat_map, codes, refl, ◌∙◌, inl, inr, arith, lit<, append-nil}
use Rattle.std.specs.Prelude.{if◌then◌else◌}
use Rattle.std.specs.List.{concat, list_all}
use Rattle.std.specs.Char.{encode_utf8, is_ascii, is_ascii_hexdigit}
use Rattle.std.specs.Fmt.{digit_glyph}
use Rattle.std.proofs.lemmas.Bool.{false≢true, cases_Bool, and_parts, and_from, or_right, not-true, agree_below_at}
use Rattle.std.proofs.lemmas.Bool.{cases_lt, ltb-false, le-ltb, lt-ltb}
use Rattle.std.proofs.lemmas.Bool.Decides.{nat_tests}
use Rattle.std.proofs.lemmas.List.Concat.{flat_map-append}
use Rattle.std.proofs.lemmas.List.Folds.{list_all-append}
use Rattle.percent_encoding.specs.Percent.{percent_encode_byte}
use Rattle.uv_model.specs.Ascii.{apostrophe, percent_sign}
use Rattle.uv_model.specs.Encoding.{encoded, encoded_code_point}
use Rattle.uv_model.specs.Path.{starts_with_slash}
use Rattle.uv_model.specs.Units.{IsUnits, is_unit, is_url_code_point}
use Rattle.uv_model.proofs.Texts.UnitsLemmas.{IsUnits-append, IsUnits-nil, IsUnits-unit}

-- ---- escapes

-- what holds of each digit of an escape
below_sixteen : (n : ℕ) → n % 16 < 16
below_sixteen n = omega arith

-- a test that `%` and the sixteen digits pass
abbrev pub PassesEscapes : (ℕ → Bool) → Type 0
PassesEscapes test = (test percent_sign ≡ true) × ((digit : ℕ) → digit < 16 → test (digit_glyph true digit) ≡ true)

-- an escape passes
passes-escape : (test : ℕ → Bool) → PassesEscapes test → (byte : ℕ) → list_all test (percent_encode_byte byte) ≡ true
unfolding percent_encode_byte
passes-escape test escapes byte =
    and_from _ _ escapes.0
    (and_from _ _ (escapes.1 (byte / 16 % 16) (below_sixteen (byte / 16)))
    (and_from _ _ (escapes.1 (byte % 16) (below_sixteen byte)) refl))

-- and so do escapes
passes-escapes : (test : ℕ → Bool) → PassesEscapes test → (bytes : List ℕ)
    → list_all test (flat_map percent_encode_byte bytes) ≡ true
passes-escapes test escapes [] = refl
passes-escapes test escapes (byte ∷ rest) =
    list_all-append test (percent_encode_byte byte) (flat_map percent_encode_byte rest)
    ∙ and_from _ _ (passes-escape test escapes byte) (passes-escapes test escapes rest)

-- an escape is a unit
is_unit-escape : (byte : ℕ) → is_unit (percent_encode_byte byte) ≡ true
unfolding percent_encode_byte
is_unit-escape byte =
    and_from _ _ (hex (byte / 16 % 16) (below_sixteen (byte / 16))) (hex (byte % 16) (below_sixteen byte))
  where
    hex : (digit : ℕ) → digit < 16 → is_ascii_hexdigit (digit_glyph true digit) ≡ true
    hex digit small = agree_below_at (λ d. is_ascii_hexdigit (digit_glyph true d)) (λ d. true) 16 digit refl small

-- escapes are units
IsUnits-escapes : (bytes : List ℕ) → IsUnits (flat_map percent_encode_byte bytes)
IsUnits-escapes [] = IsUnits-nil
IsUnits-escapes (byte ∷ rest) =
    IsUnits-unit (percent_encode_byte byte) (flat_map percent_encode_byte rest) (is_unit-escape byte)
    (IsUnits-escapes rest)

-- ---- texts

-- the empty text stays
pub encoded-nil : (quote : Bool) → encoded quote [] ≡ []
unfolding encoded
encoded-nil quote = refl

-- a text is encoded part by part
pub encoded-append : (quote : Bool) (xs ys : List ℕ) → encoded quote (xs ++ ys) ≡ encoded quote xs ++ encoded quote ys
unfolding encoded
encoded-append quote xs ys = flat_map-append (encoded_code_point quote) xs ys

-- the code point is in the encoded text
abbrev pub is_kept : Bool → ℕ → Bool
is_kept quote c = is_ascii c && not (quote && (c == apostrophe))

-- such a code point stays
pub encoded_code_point-kept : (quote : Bool) (c : ℕ) → is_kept quote c ≡ true → encoded_code_point quote c ≡ c ∷ []
encoded_code_point-kept quote c kept =
    let parts = and_parts (is_ascii c) (not (quote && (c == apostrophe))) kept in
    let other = not-true (quote && (c == apostrophe)) parts.1 in
    rw (parts.0, other) refl

-- what each code point that stays and each escape pass, the encoded code point passes
passes-code_point : (test : ℕ → Bool) → PassesEscapes test → (quote : Bool) (c : ℕ)
    → (not (is_kept quote c) || test c) ≡ true → list_all test (encoded_code_point quote c) ≡ true
passes-code_point test escapes quote c passes =
    elim (cases_Bool (is_ascii c)) [
      | inl ascii ↦ elim (cases_Bool (quote && (c == apostrophe))) [
        | inl same ↦ rw (ascii, same)
            (and_from _ _ escapes.0 (and_from _ _ (escapes.1 2 (lit< tt)) (and_from _ _ (escapes.1 7 (lit< tt)) refl)))
        | inr other ↦ rw (ascii, other) (and_from _ _ (rw (ascii, other) at passes) refl)
      ]
      | inr beyond ↦ rw beyond (passes-escapes test escapes (encode_utf8 c))
    ]

-- what each code point of the text that stays and each escape pass, the encoded text passes
pub passes-encoded : (test : ℕ → Bool) → PassesEscapes test → (quote : Bool) (text : List ℕ)
    → list_all (λ c. not (is_kept quote c) || test c) text ≡ true → list_all test (encoded quote text) ≡ true
unfolding encoded
passes-encoded test escapes quote [] passes = refl
passes-encoded test escapes quote (c ∷ rest) passes =
    let parts =
    and_parts (not (is_kept quote c) || test c) (list_all (λ d. not (is_kept quote d) || test d) rest) passes
    in
    list_all-append test (encoded_code_point quote c) (flat_map (encoded_code_point quote) rest)
    ∙ and_from _ _ (passes-code_point test escapes quote c parts.0) (passes-encoded test escapes quote rest parts.1)

-- a text that passes passes encoded
pub passes-encoded_whole : (test : ℕ → Bool) → PassesEscapes test → (quote : Bool) (text : List ℕ)
    → list_all test text ≡ true → list_all test (encoded quote text) ≡ true
passes-encoded_whole test escapes quote text passes = passes-encoded test escapes quote text (weaker text passes)
  where
    weaker : (text : List ℕ) → list_all test text ≡ true → list_all (λ c. not (is_kept quote c) || test c) text ≡ true
    weaker [] passes = refl
    weaker (c ∷ rest) passes =
        let parts = and_parts (test c) (list_all test rest) passes in
        and_from _ _ (or_right _ _ parts.0) (weaker rest parts.1)

-- an encoded text is ASCII
pub is_ascii-encoded : (quote : Bool) (text : List ℕ) → list_all is_ascii (encoded quote text) ≡ true
is_ascii-encoded quote text = passes-encoded is_ascii (refl, ascii_digit) quote text (each text)
  where
    ascii_digit : (digit : ℕ) → digit < 16 → is_ascii (digit_glyph true digit) ≡ true
    ascii_digit digit small = agree_below_at (λ d. is_ascii (digit_glyph true d)) (λ d. true) 16 digit refl small

    one : (c : ℕ) → (not (is_kept quote c) || is_ascii c) ≡ true
    one c =
        elim (cases_Bool (is_ascii c)) [
          | inl ascii ↦ or_right (not (is_kept quote c)) (is_ascii c) ascii
          | inr beyond ↦ rw beyond refl
        ]

    each : (text : List ℕ) → list_all (λ c. not (is_kept quote c) || is_ascii c) text ≡ true
    each [] = refl
    each (c ∷ rest) = and_from _ _ (one c) (each rest)

-- with `quote` no `'` is in an encoded text
pub no_apostrophe-encoded : (text : List ℕ)
    → list_all (λ c. if c == apostrophe then false else true) (encoded true text) ≡ true
no_apostrophe-encoded text =
    passes-encoded (λ c. if c == apostrophe then false else true) (refl, other_digit) true text (each text)
  where
    other_digit : (digit : ℕ) → digit < 16 → (if digit_glyph true digit == apostrophe then false else true) ≡ true
    other_digit digit small =
        agree_below_at (λ d. if digit_glyph true d == apostrophe then false else true) (λ d. true) 16 digit refl small

    one : (c : ℕ) → (not (is_kept true c) || (if c == apostrophe then false else true)) ≡ true
    one c =
        elim (cases_Bool (c == apostrophe)) [
          | inl same ↦ elim (cases_Bool (is_ascii c)) [
            | inl ascii ↦ rw (ascii, same) refl
            | inr beyond ↦ rw beyond refl
          ]
          | inr other ↦ or_right (not (is_kept true c)) (if c == apostrophe then false else true) (rw other refl)
        ]

    each : (text : List ℕ)
        → list_all (λ c. not (is_kept true c) || (if c == apostrophe then false else true)) text ≡ true
    each [] = refl
    each (c ∷ rest) = and_from _ _ (one c) (each rest)

-- ---- units

-- a unit of an escape stays
hex_kept : (quote : Bool) (c : ℕ) → is_ascii_hexdigit c ≡ true → is_kept quote c ≡ true
hex_kept true c hex = grind (arith, nat_tests)
hex_kept false c hex = grind (arith, nat_tests)

percent_kept : (quote : Bool) (c : ℕ) → (c == percent_sign) ≡ true → is_kept quote c ≡ true
percent_kept true c same = grind (arith, nat_tests)
percent_kept false c same = grind (arith, nat_tests)

-- a URL code point encoded is units
IsUnits-code_point : (quote : Bool) (c : ℕ) → is_url_code_point c ≡ true → IsUnits (encoded_code_point quote c)
IsUnits-code_point quote c url =
    elim (cases_Bool (is_ascii c)) [
      | inl ascii ↦ elim (cases_Bool (quote && (c == apostrophe))) [
        | inl same ↦ rw (ascii, same) (IsUnits-unit (codes "%27") [] refl IsUnits-nil)
        | inr other ↦ rw (ascii, other) (IsUnits-unit (c ∷ []) [] url IsUnits-nil)
      ]
      | inr beyond ↦ rw beyond (IsUnits-escapes (encode_utf8 c))
    ]

-- a unit encoded is units
IsUnits-unit_encoded : (quote : Bool) (unit : List ℕ) → is_unit unit ≡ true → IsUnits (encoded quote unit)
unfolding encoded
IsUnits-unit_encoded quote [] is = absurd (false≢true is)
IsUnits-unit_encoded quote (c ∷ []) is = rw (append-nil (encoded_code_point quote c)) (IsUnits-code_point quote c is)
IsUnits-unit_encoded quote (c ∷ high ∷ []) is = absurd (false≢true is)
IsUnits-unit_encoded quote (c ∷ high ∷ low ∷ []) is =
    let parts = and_parts (c == percent_sign) (is_ascii_hexdigit high && is_ascii_hexdigit low) is in
    let hex = and_parts (is_ascii_hexdigit high) (is_ascii_hexdigit low) parts.1 in
    let first : encoded_code_point quote c ≡ c ∷ [] = encoded_code_point-kept quote c (percent_kept quote c parts.0) in
    let second : encoded_code_point quote high ≡ high ∷ []
    = encoded_code_point-kept quote high (hex_kept quote high hex.0)
    in
    let third : encoded_code_point quote low ≡ low ∷ []
    = encoded_code_point-kept quote low (hex_kept quote low hex.1)
    in
    rw (first, second, third) (IsUnits-unit (c ∷ high ∷ low ∷ []) [] is IsUnits-nil)
IsUnits-unit_encoded quote (c ∷ high ∷ low ∷ more ∷ rest) is = absurd (false≢true is)

-- units encoded are units
pub IsUnits-encoded : (quote : Bool) (text : List ℕ) → IsUnits text → IsUnits (encoded quote text)
IsUnits-encoded quote text is = rw is.joined (each is.units is.each)
  where
    each : (units : List (List ℕ)) → list_all is_unit units ≡ true → IsUnits (encoded quote (concat units))
    each [] all = rw (encoded-nil quote) IsUnits-nil
    each (unit ∷ units) all =
        let parts = and_parts (is_unit unit) (list_all is_unit units) all in
        rw (encoded-append quote unit (concat units))
        (IsUnits-append (encoded quote unit) (encoded quote (concat units)) (IsUnits-unit_encoded quote unit parts.0)
        (each units parts.1))

-- ---- the prefix of an encoded text

-- a code point beyond ASCII has two bytes or more, of which the second goes on with the first
encode_beyond : (c : ℕ) → is_ascii c ≡ false
    → (first : ℕ) × (bits : ℕ) × (rest : List ℕ) × (encode_utf8 c ≡ first ∷ (128 + bits % 64) ∷ rest)
unfolding encode_utf8
encode_beyond c beyond =
    let high : 128 ≤ c = ltb-false c 128 beyond in
    elim (cases_lt c 2048) [
      | inl two ↦ (192 + c / 64, c, [], rw (le-ltb c 128 high, lt-ltb c 2048 two) refl)
      | inr more ↦ elim (cases_lt c 65536) [
        | inl three ↦ (
          224 + c / 4096,
          c / 64,
          (128 + c % 64) ∷ [],
          rw (le-ltb c 128 high, le-ltb c 2048 more, lt-ltb c 65536 three) refl,
        )
        | inr four ↦ (
          240 + c / 262144,
          c / 4096,
          (128 + c / 64 % 64) ∷ (128 + c % 64) ∷ [],
          rw (le-ltb c 128 high, le-ltb c 2048 more, le-ltb c 65536 four) refl,
        )
      ]
    ]

-- such a code point encoded is two escapes or more, of which the second escapes a byte from 128 to 191
pub encoded-beyond : (quote : Bool) (c : ℕ) → is_ascii c ≡ false
    → (first : ℕ) × (bits : ℕ) × (rest : List ℕ)
    × (encoded_code_point quote c ≡ percent_encode_byte first ++ (percent_encode_byte (128 + bits % 64) ++ rest))
encoded-beyond quote c beyond =
    let (first, bits, rest, bytes) = encode_beyond c beyond in
    (first, bits, flat_map percent_encode_byte rest, rw (beyond, bytes) refl)

-- an encoded text begins with `/` if the text does
pub starts_with_slash-encoded : (quote : Bool) (text : List ℕ) → starts_with_slash text ≡ false
    → starts_with_slash (encoded quote text) ≡ false
unfolding encoded percent_encode_byte
starts_with_slash-encoded quote [] start = refl
starts_with_slash-encoded quote (c ∷ rest) start =
    elim (cases_Bool (is_ascii c)) [
      | inl ascii ↦ elim (cases_Bool (quote && (c == apostrophe))) [
        | inl same ↦ rw (ascii, same) refl
        | inr other ↦ rw (ascii, other) start
      ]
      | inr beyond ↦ let parts = encoded-beyond quote c beyond in
          rw (parts.3) refl
    ]

-- the encoding of a text that isn't empty isn't empty
pub encoded-some : (c : ℕ) (rest : List ℕ)
    → (first : ℕ) × (others : List ℕ) × (encoded false (c ∷ rest) ≡ first ∷ others)
unfolding encoded percent_encode_byte
encoded-some c rest =
    elim (cases_Bool (is_ascii c)) [
      | inl ascii ↦ (c, encoded false rest, rw (encoded_code_point-kept false c (and_from _ _ ascii refl)) refl)
      | inr beyond ↦ let parts = encoded-beyond false c beyond in
          let second : List ℕ = percent_encode_byte (128 + parts.1 % 64) ++ parts.2 in
          let digits : List ℕ = digit_glyph true (parts.0 / 16 % 16) ∷ digit_glyph true (parts.0 % 16) ∷ second in
          (percent_sign, digits ++ encoded false rest, rw parts.3 refl)
    ]
