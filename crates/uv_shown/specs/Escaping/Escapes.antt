-- What is in a text in place of the code points that may not be there as they are.
use Rattle.std.specs.Prelude.{ℕ, Bool, ◌||◌, ◌==◌, List, [], ◌∷◌, codes, encode_utf8, if◌then◌else◌}
use Rattle.std.specs.Int.{is_in_range}
use Rattle.std.specs.List.{flat_map}
use Rattle.std.specs.Str.{chars}
use Rattle.percent_encoding.specs.Percent.{percent_encode_byte}
use Rattle.uv_shown.specs.declared.escaping.escapes.Escapes.{Escapes}
use Rattle.uv_shown.specs.declared.escaping.escapes.Escapes.TheVariants.{Shown, Copied, Message, Property, Attribute}

-- ---- on a terminal

-- a control (U+0000 to U+001F, and U+007F to U+009F), but the tab
abbrev pub is_control : ℕ → Bool
is_control c = is_in_range 0 0x8 c || (is_in_range 0xA 0x1F c || is_in_range 0x7F 0x9F c)

-- a mark of direction, an embedding, an override or an isolate of the Unicode Bidirectional Algorithm, or a separator
-- of lines or paragraphs (U+2028 and U+2029)
abbrev pub turns_text : ℕ → Bool
turns_text c =
    (c == 0x61C) || ((c == 0x200E) || ((c == 0x200F)
    || (is_in_range 0x2028 0x202E c || is_in_range 0x2066 0x2069 c)))

-- a code point that isn't shown as it is
abbrev pub is_hidden : ℕ → Bool
is_hidden c = is_control c || turns_text c

-- the UTF-8 bytes of U+FFFD
abbrev pub replacement : List ℕ
replacement = 0xEF ∷ 0xBF ∷ 0xBD ∷ []

-- what is shown of a code point
abbrev pub shown : ℕ → List ℕ
shown c = if is_hidden c then replacement else encode_utf8 c

-- a code point percent-encoded: each byte of its UTF-8 encoding is (URL Standard, section 1.3)
unfoldable pub percent_encoded : ℕ → List ℕ
percent_encoded c = flat_map percent_encode_byte (encode_utf8 c)

-- what is in a URL that is copied from there, which may have the code points that turn a text or end a line of it
abbrev pub copied : ℕ → List ℕ
copied c = if turns_text c then percent_encoded c else shown c

-- ---- in workflow commands

-- in a message `%` and what ends a line are percent-encoded
abbrev pub in_message : ℕ → List ℕ
in_message c = if (c == 0x25) || ((c == 0xD) || (c == 0xA)) then percent_encode_byte c else encode_utf8 c

-- in a property also `:` and `,`
abbrev pub in_property : ℕ → List ℕ
in_property c = if (c == 0x3A) || (c == 0x2C) then percent_encode_byte c else in_message c

-- ---- in an attribute of XML 1.0 between `"` (sections 2.2, 2.4 and 3.3.3)

-- a code point that XML 1.0 doesn't allow, after the tab and the line ends, which it does
abbrev pub is_no_xml : ℕ → Bool
is_no_xml c = is_in_range 0 0x1F c || ((c == 0xFFFE) || (c == 0xFFFF))

-- what stands for a code point there
abbrev pub in_attribute : ℕ → List ℕ
in_attribute c =
    if c == 0x26 then codes "&amp;"
    else if c == 0x3C then codes "&lt;"
    else if c == 0x3E then codes "&gt;"
    else if c == 0x22 then codes "&quot;"
    else if c == 0x9 then codes "&#9;"
    else if c == 0xA then codes "&#10;"
    else if c == 0xD then codes "&#13;"
    else if is_no_xml c then replacement
    else encode_utf8 c

-- ---- all of these

-- what stands for a code point
abbrev pub escape : Escapes → ℕ → List ℕ
escape Shown c = shown c
escape Copied c = copied c
escape Message c = in_message c
escape Property c = in_property c
escape Attribute c = in_attribute c

-- a text, each of its code points as it may be
unfoldable pub escaped : Escapes → List ℕ → List ℕ
escaped escapes text = flat_map (escape escapes) (chars text)

-- a text as a terminal may show it
abbrev pub shown_text : List ℕ → List ℕ
shown_text text = escaped Shown text
