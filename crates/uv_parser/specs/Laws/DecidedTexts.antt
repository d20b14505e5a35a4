-- The law of the texts on which the URL parser (URL Standard, section 4.4) is silent: they are exactly the valid texts
-- of the parser's profile. The machine stops at a domain above the limits of `idna`'s ToASCII (a label beyond ASCII of
-- 1,000 code points, Punycode of 2,000 bytes); on each other text on which the standard's parser is silent it is done.
use Rattle.std.specs.Prelude.{◌≡◌, ℕ, ◌⊎◌, List, Option}
use Rattle.uv_model.specs.declared.profile.Profile.TheVariants.{Parser}
use Rattle.uv_model.specs.Parts.{Parts}
use Rattle.uv_model.specs.Records.Denote.{denote}
use Rattle.uv_model.specs.Records.Url.{Url}
use Rattle.uv_model.specs.Records.WellFormed.{MayBeWellFormed}
use Rattle.uv_model.specs.Valid.{Valid}
use Rattle.uv_parser.specs.Run.{Done, Stopped, run, step_bound}

-- Within so many steps the run of a text ends with the URL that the parts denote exactly when the text is valid under
-- the parser's profile with these parts, and otherwise it stops.
pub record IsDecidedWithin (steps : ℕ) (base : Option Url) (text : List ℕ) : Type 0 where
  pub silent : (parts : Parts) → Valid Parser base text parts → run base text steps ≡ Done (denote base parts)
  pub only : (url : Url) → run base text steps ≡ Done url
      → (parts : Parts) × Valid Parser base text parts × (url ≡ denote base parts)
  pub ended :
      ((parts : Parts) × Valid Parser base text parts) ⊎ ((place : ℕ) × (run base text steps ≡ Stopped place))

-- it is decided within the bound on its steps
abbrev pub IsDecided : Option Url → List ℕ → Type 0
IsDecided base text = IsDecidedWithin (step_bound text) base text

-- against each base that is well formed under the parser's profile, and without a base, each text is decided
abbrev pub TextsAreDecided : Type 0
TextsAreDecided = (base : Option Url) (text : List ℕ) → MayBeWellFormed Parser base → IsDecided base text
