-- A file's name as the path of a URI reference (RFC 3986, sections 2.3, 3.3 and 4.2).
use Rattle.std.specs.Prelude.{ℕ, Bool, ◌||◌, ◌==◌, List, [], ◌∷◌, ◌++◌, codes, flat_map, if◌then◌else◌, Option, Some}
use Rattle.std.specs.Prelude.{None}
use Rattle.std.specs.Char.{is_ascii_alphanumeric}
use Rattle.std.specs.Option.{option_and_then}
use Rattle.percent_encoding.specs.Percent.{percent_encode_byte}

-- an unreserved character: an ASCII letter or digit, `-`, `.`, `_` or `~` (section 2.3)
abbrev pub is_unreserved : ℕ → Bool
is_unreserved b = is_ascii_alphanumeric b || ((b == 0x2D) || ((b == 0x2E) || ((b == 0x5F) || (b == 0x7E))))

-- A byte of a name that is as it is: an unreserved character, or the `/` between two segments. All others are
-- escaped, so that none ends the path (`?` and `#`), begins an escape (`%`) or ends a scheme (`:`).
abbrev pub stays : ℕ → Bool
stays b = is_unreserved b || (b == 0x2F)

-- what stands for a byte of a name
abbrev pub uri_byte : ℕ → List ℕ
uri_byte b = if stays b then b ∷ [] else percent_encode_byte b

-- what stands for a name, or for a part of one
unfoldable pub uri_part : List ℕ → List ℕ
uri_part name = flat_map uri_byte name

-- what follows the `/` that a name begins with
abbrev pub after_slash : List ℕ → Option (List ℕ)
after_slash [] = None
after_slash (b ∷ rest) = if b == 0x2F then Some rest else None

-- what follows the `//` that a name begins with
abbrev pub after_slashes : List ℕ → Option (List ℕ)
after_slashes name = option_and_then after_slash (after_slash name)

-- the path of a name, and what follows the `//` that it begins with
abbrev pub path_of : List ℕ → Option (List ℕ) → List ℕ
path_of name None = uri_part name
path_of name (Some rest) = codes "/%2F" ++ uri_part rest

-- The path of a name. A reference that begins with `//` names a host (section 4.2), so the second `/` of such a name is
-- escaped.
unfoldable pub uri_path : List ℕ → List ℕ
uri_path name = path_of name (after_slashes name)
