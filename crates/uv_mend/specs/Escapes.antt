-- Code points that aren't URL units, written as the escapes of their UTF-8 (URL Standard, sections 1.3 and 4.3).
use Rattle.std.specs.Prelude.{◌≡◌, ◌⊎◌, ℕ, Bool, false, not, ◌&&◌, ◌||◌, ◌==◌, List, [], ◌∷◌, ◌++◌, flat_map}
use Rattle.std.specs.Prelude.{encode_utf8_all, if◌then◌else◌, length, ◌≤◌}
use Rattle.std.specs.Char.{encode_utf8}
use Rattle.percent_encoding.specs.Percent.{percent_encode_byte}
use Rattle.uv_model.specs.Ascii.{number_sign}
use Rattle.uv_model.specs.Units.{is_unit_at}
use Rattle.uv_mend.specs.Prefixes.{after_authority, after_scheme, authority_prefix, scheme_prefix}

-- the escapes of a code point's UTF-8, as `%25` of `%`
unfoldable pub escape : ℕ → List ℕ
escape c = flat_map percent_encode_byte (encode_utf8 c)

-- A code point of a path, a query or a fragment with what follows it: it stays where it is a unit or begins one, and
-- where it is the `#` before the fragment.
unfoldable pub as_unit : Bool → ℕ → List ℕ → List ℕ
as_unit in_fragment c rest =
    if not in_fragment && (c == number_sign) then c ∷ [] else (if is_unit_at c rest then c ∷ [] else escape c)

-- each of them
abbrev pub as_units : Bool → List ℕ → List ℕ
as_units in_fragment [] = []
as_units in_fragment (c ∷ rest) =
    as_unit in_fragment c rest ++ as_units (in_fragment || (c == number_sign)) rest

-- the text goes on with the rest after code points that all stay, and these were appended
abbrev pub PassesRun : List ℕ → List ℕ → List ℕ → List ℕ → Type 0
PassesRun old new text rest =
    ((in_fragment : Bool) → new ++ encode_utf8_all (as_units in_fragment rest)
    ≡ old ++ encode_utf8_all (as_units in_fragment text)) × (length rest ≤ length text)

-- the text after a scheme: its authority stays
abbrev pub escaped_after : List ℕ → List ℕ
escaped_after text = authority_prefix text ++ as_units false (after_authority text)

-- the text with each code point of the path, the query and the fragment that isn't a unit written as escapes
unfoldable pub escaped : List ℕ → List ℕ
escaped text = scheme_prefix text ++ escaped_after (after_scheme text)

-- ---- what such a text is

-- the other text is this one, in which some code points are written as their escapes, and all others stay
abbrev pub IsEscapingOf : List ℕ → List ℕ → Type 0
IsEscapingOf [] other = other ≡ []
IsEscapingOf (c ∷ rest) other =
    (after : List ℕ) × ((other ≡ c ∷ after) ⊎ (other ≡ escape c ++ after)) × IsEscapingOf rest after

-- ---- a law

-- each text with its escapes is one
abbrev pub EscapedTextsAreEscapings : Type 0
EscapedTextsAreEscapings = (text : List ℕ) → IsEscapingOf text (escaped text)
