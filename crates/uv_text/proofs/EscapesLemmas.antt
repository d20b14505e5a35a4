-- The percent-encoding of the bytes of a text is the text encoded code point by code point.
use Rattle.std.proofs.Common.{◌≡◌, ℕ, ◌<◌, ◌≤◌, Bool, true, false, ◌&&◌, ◌==◌, List, [], ◌∷◌, ◌++◌, flat_map, codes}
use Rattle.std.proofs.Common.{chars, encode_utf8_all, refl, ap, ◌∙◌, subst, inl, inr, arith, lt-ltb, le-ltb, ne_eqb}
use Rattle.std.specs.Prelude.{if◌then◌else◌, IsUtf8}
use Rattle.std.specs.Char.{encode_utf8}
use Rattle.std.specs.Str.{IsAscii}
use Rattle.std.proofs.lemmas.Bool.{agree_below_at, cases_lt, cases_eq}
use Rattle.std.proofs.lemmas.Str.{encode_ascii, chars-encodes}
use Rattle.percent_encoding.specs.declared.ascii_set.AsciiSet.{AsciiSet}
use Rattle.percent_encoding.specs.AsciiSet.{contains, should_percent_encode}
use Rattle.percent_encoding.specs.Percent.{percent_encode_byte, encode_byte, percent_encode}
use Rattle.percent_encoding.proofs.PercentLemmas.{IsAscii-percent_encode, percent_encode-nil, percent_encode-append}
use Rattle.uv_model.specs.Ascii.{apostrophe}
use Rattle.uv_model.specs.Encoding.{encoded_code_point, encoded}
use Rattle.uv_model.proofs.Texts.AsciiLemmas.{AreBeyond, AreBeyond-encode}
use Rattle.uv_text.specs.declared.escapes.TheConstants.{BEYOND_ASCII, SPECIAL_QUERY}

-- the set of bytes that the code hands to the library
abbrev pub set_of : Bool → AsciiSet
set_of true = SPECIAL_QUERY
set_of false = BEYOND_ASCII

-- the set holds only `'` among the ASCII bytes, and that only with `quote`
contains-set_of : (quote : Bool) (b : ℕ) → b < 128 → contains (set_of quote) b ≡ (quote && (b == apostrophe))
contains-set_of true b small = agree_below_at (contains SPECIAL_QUERY) (λ c. c == apostrophe) 128 b refl small
contains-set_of false b small = agree_below_at (contains BEYOND_ASCII) (λ c. false) 128 b refl small

-- ---- bytes beyond ASCII

encode_byte-high : (set : AsciiSet) (b : ℕ) → 128 ≤ b → encode_byte set b ≡ percent_encode_byte b
unfolding should_percent_encode
encode_byte-high set b high = rw (le-ltb b 128 high)

-- such bytes become escapes with any set
escapes-high : (set : AsciiSet) (bytes : List ℕ) → AreBeyond bytes
    → flat_map (encode_byte set) bytes ≡ flat_map percent_encode_byte bytes
escapes-high set [] high = refl
escapes-high set (b ∷ bytes) high =
    rw (encode_byte-high set b high.0)
    (ap (λ rest. percent_encode_byte b ++ rest) (escapes-high set bytes high.1))

-- ---- one code point

encode-quote : (quote : Bool)
    → (if quote && true then codes "%27" else apostrophe ∷ []) ++ []
    ≡ (if quote && true then codes "%27" else apostrophe ∷ [])
encode-quote true = refl
encode-quote false = refl

encode-plain : (quote : Bool) (c : ℕ)
    → (if quote && false then percent_encode_byte c else c ∷ []) ++ []
    ≡ (if quote && false then codes "%27" else c ∷ [])
encode-plain true c = refl
encode-plain false c = refl

percent_encode-ascii : (quote : Bool) (c : ℕ) → c < 128
    → percent_encode (set_of quote) (c ∷ []) ≡ encoded_code_point quote c
unfolding percent_encode should_percent_encode percent_encode_byte
percent_encode-ascii quote c small =
    elim (cases_eq c apostrophe) [
      | inl same ↦ rw (same, contains-set_of quote apostrophe (omega arith)) (encode-quote quote)
      | inr other ↦
          rw (lt-ltb c 128 small, contains-set_of quote c small, ne_eqb c apostrophe other) (encode-plain quote c)
    ]

percent_encode-beyond : (quote : Bool) (c : ℕ) → 128 ≤ c
    → percent_encode (set_of quote) (encode_utf8 c) ≡ encoded_code_point quote c
unfolding percent_encode
percent_encode-beyond quote c high =
    rw (le-ltb c 128 high) (escapes-high (set_of quote) (encode_utf8 c) (AreBeyond-encode c high))

-- the bytes of one code point become the code point encoded
percent_encode-code_point : (quote : Bool) (c : ℕ)
    → percent_encode (set_of quote) (encode_utf8 c) ≡ encoded_code_point quote c
percent_encode-code_point quote c =
    elim (cases_lt c 128) [
      | inl small ↦
          ap (λ bytes. percent_encode (set_of quote) bytes) (encode_ascii c small) ∙ percent_encode-ascii quote c small
      | inr high ↦ percent_encode-beyond quote c high
    ]

-- ---- texts

percent_encode-encodes : (quote : Bool) (text : List ℕ)
    → percent_encode (set_of quote) (encode_utf8_all text) ≡ encoded quote text
unfolding encoded
percent_encode-encodes quote [] = percent_encode-nil (set_of quote)
percent_encode-encodes quote (c ∷ text) =
    percent_encode-append (set_of quote) (encode_utf8 c) (encode_utf8_all text)
    ∙ rw (percent_encode-code_point quote c, percent_encode-encodes quote text) refl

-- the bytes of a text become the text encoded
pub percent_encode-chars : (quote : Bool) (bytes : List ℕ) → IsUtf8 bytes
    → percent_encode (set_of quote) bytes ≡ encoded quote (chars bytes)
percent_encode-chars quote bytes (text, (scalars, spelled)) =
    rw (← spelled, chars-encodes text scalars) (percent_encode-encodes quote text)

-- an encoded text is ASCII
pub IsAscii-encoded : (quote : Bool) (text : List ℕ) → IsUtf8 text → IsAscii (encoded quote (chars text))
IsAscii-encoded quote text utf8 =
    subst IsAscii (percent_encode-chars quote text utf8) (IsAscii-percent_encode (set_of quote) text)
