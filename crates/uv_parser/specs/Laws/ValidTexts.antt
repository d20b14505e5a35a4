-- The law of valid texts (URL Standard, section 4.3): on the valid texts of each profile the URL parser (section 4.4)
-- is silent.
use Rattle.std.specs.Prelude.{ℕ, List, Option}
use Rattle.uv_model.specs.declared.profile.Profile.{Profile}
use Rattle.uv_model.specs.declared.profile.Profile.TheVariants.{Parser}
use Rattle.uv_model.specs.Parts.{Parts}
use Rattle.uv_model.specs.Records.Url.{Url}
use Rattle.uv_model.specs.Records.WellFormed.{MayBeWellFormed}
use Rattle.uv_model.specs.Valid.{Valid}
use Rattle.uv_parser.specs.Laws.Silence.{RunsSilently}

-- against no base and against each base that is well formed under the parser's profile, the parser is silent on each
-- valid text of any profile, and gives the URL that its parts denote
abbrev pub ValidTextsRunSilently : Type 0
ValidTextsRunSilently =
    (profile : Profile) (base : Option Url) (text : List ℕ) (parts : Parts) → MayBeWellFormed Parser base
    → Valid profile base text parts
    → RunsSilently base text parts
