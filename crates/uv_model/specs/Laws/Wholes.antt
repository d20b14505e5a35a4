-- The laws that public functions carry, each over every text.
use Rattle.std.specs.Prelude.{◌≡◌, ◌↔◌, ℕ, true, List, Option}
use Rattle.uv_model.specs.declared.profile.Profile.{Profile}
use Rattle.uv_model.specs.declared.profile.Profile.TheVariants.{Standard, Wide, Parser}
use Rattle.uv_model.specs.Records.Denote.{denote}
use Rattle.uv_model.specs.Parts.{Parts}
use Rattle.uv_model.specs.Units.{IsUnits, is_faultless}
use Rattle.uv_model.specs.Records.Url.{Url}
use Rattle.uv_model.specs.Valid.{Valid}
use Rattle.uv_model.specs.Records.WellFormed.{MayBeWellFormed, WellFormed}

-- a text is a concatenation of URL units exactly when no code point of it is a fault of units
abbrev pub UnitsAreFaultless : Type 0
UnitsAreFaultless = (text : List ℕ) → IsUnits text ↔ (is_faultless text ≡ true)

-- What a valid text denotes, alone or against a base that is well formed under the same profile, is well formed by it.
-- And against a base that is well formed under the parser's profile it is well formed under the parser's profile.
pub record DenotedRecordsAreWellFormed : Type 0 where
  pub same :
      (profile : Profile) (base : Option Url) (text : List ℕ) (parts : Parts) → MayBeWellFormed profile base
      → Valid profile base text parts → WellFormed profile (denote base parts)
  pub widest :
      (profile : Profile) (base : Option Url) (text : List ℕ) (parts : Parts) → MayBeWellFormed Parser base
      → Valid profile base text parts → WellFormed Parser (denote base parts)

-- a valid text of the standard profile is one of the wide profile, against the same base and with the same parts
abbrev pub StandardTextsAreWide : Type 0
StandardTextsAreWide =
    (base : Option Url) (text : List ℕ) (parts : Parts) → Valid Standard base text parts → Valid Wide base text parts

-- a valid text of the wide profile is one of the parser's profile, against the same base and with the same parts
abbrev pub WideTextsAreParsers : Type 0
WideTextsAreParsers =
    (base : Option Url) (text : List ℕ) (parts : Parts) → Valid Wide base text parts → Valid Parser base text parts
