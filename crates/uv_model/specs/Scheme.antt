-- Schemes, after the URL Standard, sections 4.2 and 4.3.
use Rattle.std.specs.Prelude.{ℕ, Bool, false, not, ◌&&◌, ◌||◌, ◌==◌, List, [], ◌∷◌, map, codes, Option, Some, None}
use Rattle.std.specs.Prelude.{is_some, if◌then◌else◌}
use Rattle.std.specs.List.{list_all}
use Rattle.std.specs.Str.{bytes_eq}
use Rattle.std.specs.Char.{is_ascii, is_ascii_alphabetic, is_ascii_alphanumeric, is_ascii_uppercase, to_ascii_lowercase}
use Rattle.uv_model.specs.Ascii.{plus_sign, hyphen, full_stop, colon}
use Rattle.uv_model.specs.declared.scheme.Class.{Class}
use Rattle.uv_model.specs.declared.scheme.Class.TheVariants.{SpecialNotFile, File, Other}

-- the text in ASCII lower case
abbrev pub lowercase : List ℕ → List ℕ
lowercase text = map to_ascii_lowercase text

-- ASCII without upper case
abbrev pub is_lowercase_ascii : List ℕ → Bool
is_lowercase_ascii text = list_all (λ c. is_ascii c && not (is_ascii_uppercase c)) text

-- a code point of a scheme after its first
abbrev pub is_scheme_code_point : ℕ → Bool
is_scheme_code_point c = is_ascii_alphanumeric c || ((c == plus_sign) || ((c == hyphen) || (c == full_stop)))

-- a URL-scheme string: an ASCII letter, and then letters, digits, `+`, `-` and `.` (section 4.3)
abbrev pub is_scheme : List ℕ → Bool
is_scheme [] = false
is_scheme (c ∷ rest) = is_ascii_alphabetic c && list_all is_scheme_code_point rest

-- code points of a scheme, and then `:`
abbrev pub goes_on_to_colon : List ℕ → Bool
goes_on_to_colon [] = false
goes_on_to_colon (d ∷ rest) = (d == colon) || (is_scheme_code_point d && goes_on_to_colon rest)

-- the text begins with a URL-scheme string and `:`
abbrev pub starts_with_scheme : List ℕ → Bool
starts_with_scheme [] = false
starts_with_scheme (c ∷ rest) = is_ascii_alphabetic c && goes_on_to_colon rest

-- the special schemes but `file`, each with its default port (section 4.2)
abbrev pub special_schemes : List (List ℕ × ℕ)
special_schemes =
    (codes "ftp", 21) ∷ (codes "http", 80) ∷ (codes "https", 443) ∷ (codes "ws", 80) ∷ (codes "wss", 443) ∷ []

-- the port next to the name in a table of schemes
abbrev pub port_beside : List ℕ → List (List ℕ × ℕ) → Option ℕ
port_beside name [] = None
port_beside name ((scheme, port) ∷ rest) = if bytes_eq name scheme then Some port else port_beside name rest

-- the default port of a scheme in any case
unfoldable pub default_port : List ℕ → Option ℕ
default_port scheme = port_beside (lowercase scheme) special_schemes

-- the class of a scheme in any case
unfoldable pub scheme_class : List ℕ → Class
scheme_class scheme =
    if bytes_eq (lowercase scheme) (codes "file") then File
    else (if is_some (default_port scheme) then SpecialNotFile else Other)
