-- The slashes of a text of class SpecialNotFile or File, as the URL parser reads them (URL Standard, section 4.4, the
-- special
-- authority states and the file states): `\` is `/` before the query, and after a special scheme come any number.
use Rattle.std.specs.Prelude.{◌≡◌, ℕ, Bool, false, not, ◌&&◌, ◌||◌, ◌==◌, List, [], ◌∷◌, ◌++◌, codes, Option}
use Rattle.std.specs.Prelude.{if◌then◌else◌}
use Rattle.uv_model.specs.declared.scheme.Class.{Class}
use Rattle.uv_model.specs.declared.scheme.Class.TheVariants.{SpecialNotFile, File, Other}
use Rattle.uv_model.specs.Ascii.{slash, backslash}
use Rattle.uv_model.specs.Cut.{starts_with_two_slashes}
use Rattle.uv_model.specs.Records.Url.{Url}
use Rattle.uv_model.specs.Scheme.{starts_with_scheme}
use Rattle.uv_mend.specs.declared.prefixes.Stop.TheVariants.{Start}
use Rattle.uv_mend.specs.CodePoints.{after_one}
use Rattle.uv_mend.specs.Prefixes.{after_scheme, class_against, scheme_prefix, stops}

-- `/` or `\`
abbrev pub is_slash_mark : ℕ → Bool
is_slash_mark c = (c == slash) || (c == backslash)

-- the text begins with two of them
abbrev pub starts_with_two_marks : List ℕ → Bool
starts_with_two_marks (c ∷ d ∷ rest) = is_slash_mark c && is_slash_mark d
starts_with_two_marks _ = false

-- the text begins with one of them
abbrev pub starts_with_mark : List ℕ → Bool
starts_with_mark [] = false
starts_with_mark (c ∷ rest) = is_slash_mark c

-- the text after those at its start
abbrev pub after_marks : List ℕ → List ℕ
after_marks [] = []
after_marks (c ∷ rest) = if is_slash_mark c then after_marks rest else c ∷ rest

-- a code point before the query and the fragment, by the class
unfoldable pub as_slash : Class → ℕ → ℕ
as_slash Other c = c
as_slash _ c = if c == backslash then slash else c

-- each of them; the query and the fragment stay
abbrev pub with_slashes : Class → List ℕ → List ℕ
with_slashes class [] = []
with_slashes class (c ∷ rest) = if stops Start c then c ∷ rest else as_slash class c ∷ with_slashes class rest

-- The slashes at the start of what follows a scheme, or of a text without one, are written again: in class
-- SpecialNotFile after a scheme, and where there are two or more; in class File where there are fewer than two after a
-- scheme.
unfoldable pub renews_slashes : Class → Bool → List ℕ → Bool
renews_slashes SpecialNotFile has_scheme text = has_scheme || starts_with_two_marks text
renews_slashes File has_scheme text = has_scheme && not (starts_with_two_marks text)
renews_slashes Other has_scheme text = false

-- what is written there: `//`, and for class File an empty authority's `//` and the path's `/`
abbrev pub new_slashes : Class → List ℕ
new_slashes SpecialNotFile = codes "//"
new_slashes File = codes "///"
new_slashes Other = []

-- what follows a scheme, or a text without one, with its slashes as they are read
unfoldable pub slashed_after : Class → Bool → List ℕ → List ℕ
slashed_after class has_scheme text =
    if renews_slashes class has_scheme text then new_slashes class ++ with_slashes class (after_marks text)
    else with_slashes class text

-- what follows a scheme, or a text without one, begins with `//` and no further slash mark, or without two slash marks
-- where it has no scheme
abbrev pub begins_slashed : Bool → List ℕ → Bool
begins_slashed has_scheme text =
    if starts_with_two_marks text
    then starts_with_two_slashes text && not (starts_with_mark (after_one (after_one text)))
    else not has_scheme

-- its slashes are as they are read, whatever the class
abbrev pub IsSlashed : Bool → List ℕ → Type 0
IsSlashed has_scheme text = (class : Class) → slashed_after class has_scheme text ≡ text

-- the text with its slashes as they are read
abbrev pub slashed : Option Url → List ℕ → List ℕ
slashed base text =
    scheme_prefix text ++ slashed_after (class_against base text) (starts_with_scheme text) (after_scheme text)
