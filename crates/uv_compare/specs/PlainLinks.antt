-- Links that the second parser writes as they are: `https://` or `http://`, a plain name, and a path, a query and a
-- fragment of plain bytes.
use Rattle.std.specs.Prelude.{◌≡◌, ◌⊎◌, ◌+◌, ◌<◌, ℕ, Bool, true, false, not, ◌&&◌, ◌||◌, ◌==◌, nat_lt, List, []}
use Rattle.std.specs.Prelude.{◌∷◌, ◌++◌, codes, length, slice_index}
use Rattle.std.specs.Char.{is_ascii_digit, is_ascii_lowercase}
use Rattle.url.specs.Ascii.{backslash, dot, hyphen, percent_sign, slash, space}
use Rattle.url.specs.Host.{IsDomain}
use Rattle.url.specs.Path.{dot_len}

-- ---- up to the name

-- the scheme of a link
abbrev pub IsWebScheme : List ℕ → Type 0
IsWebScheme scheme = (scheme ≡ codes "https") ⊎ (scheme ≡ codes "http")

-- the byte may be in a plain name: a small letter, a digit, `-`, `.` or `_`
abbrev pub is_name_byte : ℕ → Bool
is_name_byte b = is_ascii_lowercase b || (is_ascii_digit b || ((b == hyphen) || ((b == dot) || (b == 0x5F))))

-- the domain of a link, which is written as it is
abbrev pub IsName : List ℕ → Type 0
IsName name = IsDomain name × (0 < length name)

-- a text begins with such a scheme and `://`, and goes on with this
pub record FollowsScheme (text rest : List ℕ) : Type 0 where
  pub scheme : List ℕ
  pub web : IsWebScheme scheme
  pub joined : text ≡ scheme ++ (codes "://" ++ rest)

-- a text begins with these and a name, and goes on with this
pub record FollowsName (text rest : List ℕ) : Type 0 where
  pub scheme : List ℕ
  pub name : List ℕ
  pub web : IsWebScheme scheme
  pub named : IsName name
  pub joined : text ≡ scheme ++ (codes "://" ++ (name ++ rest))

-- ---- after the name

-- the byte is written as it is in a path, a query and a fragment, and isn't a backslash, which is read as a slash
abbrev pub is_plain_byte : ℕ → Bool
is_plain_byte b =
    nat_lt space b && (nat_lt b 0x7F
    && (not (b == 0x22) && (not (b == 0x27) && (not (b == 0x3C) && (not (b == 0x3E) && (not (b == backslash)
    && (not (b == 0x5E) && (not (b == 0x60) && (not (b == 0x7B) && not (b == 0x7D))))))))))

-- the byte is such, and where it is a slash, no dot follows it, nor the escape of one
unfoldable pub is_plain_at : ℕ → List ℕ → Bool
is_plain_at b rest = is_plain_byte b && (not (b == slash) || (dot_len rest == 0))

-- each byte is such
abbrev pub is_plain : List ℕ → Bool
is_plain [] = true
is_plain (b ∷ rest) = is_plain_at b rest && is_plain rest

-- the byte is a dot, or may begin the escape of one
abbrev pub may_be_dot : ℕ → Bool
may_be_dot b = (b == dot) || (b == percent_sign)

-- no such byte follows a slash before this place
abbrev pub HasNoDots : List ℕ → ℕ → Type 0
HasNoDots bytes end =
    (k : ℕ) → k + 1 < end → slice_index bytes k ≡ slash → may_be_dot (slice_index bytes (k + 1)) ≡ false
