-- Percent-encoding of a text of URL units, after the URL Standard, section 1.3.
use Rattle.std.specs.Prelude.{ℕ, Bool, ◌&&◌, ◌==◌, List, [], ◌∷◌, flat_map, codes, if◌then◌else◌}
use Rattle.std.specs.Char.{encode_utf8, is_ascii}
use Rattle.percent_encoding.specs.Percent.{percent_encode_byte}
use Rattle.uv_model.specs.Ascii.{apostrophe}

-- A code point beyond ASCII as the escapes of its UTF-8 bytes, and with `quote` also `'`. On units the C0 control, path
-- and fragment percent-encode sets change only the first kind, and the special-query set also the second.
abbrev pub encoded_code_point : Bool → ℕ → List ℕ
encoded_code_point quote c =
    if is_ascii c then (if quote && (c == apostrophe) then codes "%27" else c ∷ [])
    else flat_map percent_encode_byte (encode_utf8 c)

-- each code point encoded
unfoldable pub encoded : Bool → List ℕ → List ℕ
encoded quote text = flat_map (encoded_code_point quote) text
