-- The agreement of the URL parser (URL Standard, section 4.4) with what valid texts denote: with a scheme, and without.
use Rattle.std.specs.Prelude.{◌≡◌, ℕ, true, false, List, Option, Some}
use Rattle.uv_model.specs.declared.profile.Profile.{Profile}
use Rattle.uv_model.specs.declared.profile.Profile.TheVariants.{Parser}
use Rattle.uv_model.specs.Parts.{Parts, has_scheme}
use Rattle.uv_parser.specs.Laws.Silence.{RunsSilently}
use Rattle.uv_model.specs.Records.Url.{Url}
use Rattle.uv_model.specs.Valid.{Valid}
use Rattle.uv_model.specs.Records.WellFormed.{WellFormed}

-- against every base and none the parser is silent on each valid text of any profile that has a scheme, with an
-- opaque path or of any class, and gives the URL that its parts denote
abbrev pub SchemeTextsRunSilently : Type 0
SchemeTextsRunSilently =
    (profile : Profile) (base : Option Url) (text : List ℕ) (parts : Parts)
    → Valid profile base text parts → has_scheme parts.form ≡ true → RunsSilently base text parts

-- against each well-formed base the parser is silent on each valid text of any profile that has no scheme, of whichever
-- form, and gives the URL that its parts denote
abbrev pub ReferencesRunSilently : Type 0
ReferencesRunSilently =
    (profile : Profile) (base : Url) (text : List ℕ) (parts : Parts) → WellFormed Parser base
    → Valid profile (Some base) text parts → has_scheme parts.form ≡ false → RunsSilently (Some base) text parts
