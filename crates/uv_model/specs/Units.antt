-- URL code points and URL units, after the URL Standard, section 4.3.
use Rattle.std.specs.Prelude.{◌≡◌, ℕ, ◌%◌, Bool, true, false, not, ◌&&◌, ◌||◌, ◌==◌, nat_le, List, [], ◌∷◌, codes}
use Rattle.std.specs.Prelude.{if◌then◌else◌}
use Rattle.std.specs.Int.{is_in_range}
use Rattle.std.specs.List.{concat, list_all, list_any}
use Rattle.std.specs.Char.{is_ascii_alphanumeric, is_ascii_hexdigit}
use Rattle.uv_model.specs.Ascii.{percent_sign}

-- U+D800 to U+DFFF (Infra Standard, section 4.6)
abbrev pub is_surrogate : ℕ → Bool
is_surrogate c = is_in_range 0xD800 0xDFFF c

-- U+FDD0 to U+FDEF, and the last two code points of each plane (Infra Standard, section 4.6)
abbrev pub is_noncharacter : ℕ → Bool
is_noncharacter c = is_in_range 0xFDD0 0xFDEF c || nat_le 0xFFFE (c % 0x10000)

-- the ASCII URL code points that are neither letters nor digits
abbrev pub is_url_punctuation : ℕ → Bool
is_url_punctuation c = list_any (λ b. b == c) (codes "!$&'()*+,-./:;=?@_~")

-- U+00A0 to U+10FFFD without surrogates and noncharacters
abbrev pub is_url_beyond_ascii : ℕ → Bool
is_url_beyond_ascii c = is_in_range 0xA0 0x10FFFD c && (not (is_surrogate c) && not (is_noncharacter c))

-- a URL code point
unfoldable pub is_url_code_point : ℕ → Bool
is_url_code_point c = is_ascii_alphanumeric c || (is_url_punctuation c || is_url_beyond_ascii c)

-- the text begins with two hex digits
abbrev pub starts_with_two_hex : List ℕ → Bool
starts_with_two_hex (high ∷ low ∷ rest) = is_ascii_hexdigit high && is_ascii_hexdigit low
starts_with_two_hex _ = false

-- a URL unit: a URL code point, or `%` and two hex digits
abbrev pub is_unit : List ℕ → Bool
is_unit (c ∷ []) = is_url_code_point c
is_unit (percent ∷ high ∷ low ∷ []) = (percent == percent_sign) && (is_ascii_hexdigit high && is_ascii_hexdigit low)
is_unit _ = false

-- the text is a concatenation of URL units
pub record IsUnits (text : List ℕ) : Type 0 where
  pub units : List (List ℕ)
  pub each : list_all is_unit units ≡ true
  pub joined : text ≡ concat units

-- a code point with what follows it isn't a fault of units: it is a URL code point, or `%` before two hex digits
unfoldable pub is_unit_at : ℕ → List ℕ → Bool
is_unit_at c rest = if c == percent_sign then starts_with_two_hex rest else is_url_code_point c

-- from code point to code point no fault of units: what a concatenation of URL units is, said without its cuts
abbrev pub is_faultless : List ℕ → Bool
is_faultless [] = true
is_faultless (c ∷ rest) = is_unit_at c rest && is_faultless rest
