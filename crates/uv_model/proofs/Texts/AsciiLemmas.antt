-- Texts of ASCII code points, whose bytes are their code points, and the bytes of the others.
use Rattle.std.proofs.Common.{◌≡◌, ℕ, ◌≤◌, true, false, ◌==◌, length, List, [], ◌∷◌, ◌∙◌, refl, sym, inl, inr, arith}
use Rattle.std.proofs.Common.{le-ltb, lt-ltb}
use Rattle.std.specs.List.{list_all}
use Rattle.std.specs.Char.{encode_utf8, is_ascii}
use Rattle.std.specs.Str.{IsAscii, IsUtf8, chars}
use Rattle.std.proofs.lemmas.Bool.{and_parts, cases_lt, ltb-true}
use Rattle.std.proofs.lemmas.Str.{encodes-IsAscii, encodes-chars}
use Rattle.std.proofs.lemmas.Str.Ascii.{IsAscii-nil, IsAscii-cons}

-- a text of which each code point is ASCII
pub IsAscii-from_test : (text : List ℕ) → list_all is_ascii text ≡ true → IsAscii text
IsAscii-from_test [] passes = IsAscii-nil
IsAscii-from_test (c ∷ rest) passes =
    let parts = and_parts (is_ascii c) (list_all is_ascii rest) passes in
    IsAscii-cons c rest (ltb-true c 128 parts.0) (IsAscii-from_test rest parts.1)

-- ASCII code points are the bytes
pub chars-from_IsAscii : (bytes : List ℕ) → IsUtf8 bytes → IsAscii (chars bytes) → chars bytes ≡ bytes
chars-from_IsAscii bytes utf8 ascii = sym (encodes-IsAscii (chars bytes) ascii) ∙ encodes-chars bytes utf8

-- the first code point of a text that isn't empty, and the others
pub first_of : (text : List ℕ) → (length text == 0) ≡ false → (first : ℕ) × (rest : List ℕ) × (text ≡ first ∷ rest)
first_of [] some = absurd cc
first_of (c ∷ rest) some = (c, rest, refl)

-- ---- bytes beyond ASCII

-- each is beyond ASCII
abbrev pub AreBeyond : List ℕ → Type 0
AreBeyond [] = Unit {0}
AreBeyond (b ∷ bs) = (128 ≤ b) × AreBeyond bs

-- the bytes of a code point beyond ASCII are beyond ASCII
pub AreBeyond-encode : (c : ℕ) → 128 ≤ c → AreBeyond (encode_utf8 c)
unfolding encode_utf8
AreBeyond-encode c high =
    elim (cases_lt c 2048) [
      | inl two ↦ rw (le-ltb c 128 high, lt-ltb c 2048 two) (omega arith, (omega arith, tt))
      | inr more ↦ elim (cases_lt c 65536) [
        | inl three ↦
            rw (le-ltb c 128 high, le-ltb c 2048 more, lt-ltb c 65536 three)
            (omega arith, (omega arith, (omega arith, tt)))
        | inr four ↦
            rw (le-ltb c 128 high, le-ltb c 2048 more, le-ltb c 65536 four)
            (omega arith, (omega arith, (omega arith, (omega arith, tt))))
      ]
    ]
