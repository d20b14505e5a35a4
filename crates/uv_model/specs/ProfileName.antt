-- The profiles by their names.
use Rattle.std.specs.Prelude.{ℕ, List, [], ◌∷◌, codes, Option, find}
use Rattle.std.specs.Str.{bytes_eq}
use Rattle.uv_model.specs.declared.profile.Profile.{Profile}
use Rattle.uv_model.specs.declared.profile.Profile.TheVariants.{Standard, Wide, Parser}

-- the name of a profile
abbrev pub profile_name : Profile → List ℕ
profile_name Standard = codes "standard"
profile_name Wide = codes "wide"
profile_name Parser = codes "parser"

-- the profiles, from the narrowest on
abbrev pub profiles_in_order : List Profile
profiles_in_order = Standard ∷ Wide ∷ Parser ∷ []

-- the profile with a name, where there is one
abbrev pub named_profile : List ℕ → Option Profile
named_profile name = find (λ profile. bytes_eq name (profile_name profile)) profiles_in_order
