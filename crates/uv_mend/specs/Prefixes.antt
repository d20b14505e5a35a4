-- The prefixes of a text: its scheme with `:`, and `//` with the authority (URL Standard, section 4.3). They are kept
-- as the author wrote them.
use Rattle.std.specs.Prelude.{ℕ, Bool, ◌||◌, ◌==◌, List, [], ◌∷◌, ◌++◌, Option, Some, None}
use Rattle.std.specs.Prelude.{if◌then◌else◌}
use Rattle.uv_model.specs.declared.scheme.Class.{Class}
use Rattle.uv_model.specs.Ascii.{slash, colon, question_mark, number_sign}
use Rattle.uv_model.specs.Cut.{class_in, starts_with_two_slashes}
use Rattle.uv_model.specs.Records.Url.{Url}
use Rattle.uv_model.specs.Scheme.{starts_with_scheme}
use Rattle.uv_mend.specs.declared.prefixes.Stop.{Stop}
use Rattle.uv_mend.specs.declared.prefixes.Stop.TheVariants.{Scheme, Start, Authority}
use Rattle.uv_mend.specs.CodePoints.{after_one, first_alone}

-- the code point ends what is before it: a scheme, the start up to the query and the fragment, an authority
abbrev pub stops : Stop → ℕ → Bool
stops Scheme c = c == colon
stops Start c = (c == question_mark) || (c == number_sign)
stops Authority c = (c == slash) || ((c == question_mark) || (c == number_sign))

-- what is before the first such code point
abbrev pub before : Stop → List ℕ → List ℕ
before stop [] = []
before stop (c ∷ rest) = if stops stop c then [] else c ∷ before stop rest

-- the text from there on
abbrev pub onward : Stop → List ℕ → List ℕ
onward stop [] = []
onward stop (c ∷ rest) = if stops stop c then c ∷ rest else onward stop rest

-- the scheme of a text that begins with one
abbrev pub scheme_of : List ℕ → Option (List ℕ)
scheme_of text = if starts_with_scheme text then Some (before Scheme text) else None

-- the class of the base's scheme, or Other
abbrev pub class_of_base : Option Url → Class
class_of_base base = class_in base None

-- the class of that scheme, otherwise of the base's, otherwise Other
abbrev pub class_against : Option Url → List ℕ → Class
class_against base text = class_in base (scheme_of text)

-- the scheme and its `:`, where the text begins with them
unfoldable pub scheme_prefix : List ℕ → List ℕ
scheme_prefix text =
    if starts_with_scheme text then before Scheme text ++ first_alone (onward Scheme text) else []

-- what is after them
unfoldable pub after_scheme : List ℕ → List ℕ
after_scheme text = if starts_with_scheme text then after_one (onward Scheme text) else text

-- `//` and the authority, where the text begins with them
unfoldable pub authority_prefix : List ℕ → List ℕ
authority_prefix text =
    if starts_with_two_slashes text then slash ∷ slash ∷ before Authority (after_one (after_one text)) else []

-- what is after them
unfoldable pub after_authority : List ℕ → List ℕ
after_authority text =
    if starts_with_two_slashes text then onward Authority (after_one (after_one text)) else text
