-- Whether bytes are a valid URL string, without more.
use Rattle.std.specs.Prelude.{◌≡◌, ◌⊎◌, ℕ, Bool, true, false, List, Option}
use Rattle.std.specs.Str.{chars}
use Rattle.uv_model.specs.declared.profile.Profile.{Profile}
use Rattle.uv_model.specs.Parts.{Parts}
use Rattle.uv_model.specs.Records.Url.{Url}
use Rattle.uv_model.specs.Valid.{Valid}
use Rattle.urlcheck_c.specs.declared.bases.Base.{Base}
use Rattle.urlcheck_c.specs.declared.finding.Finding.{Finding}
use Rattle.uv_grammar.specs.NoMemory.{TakesNoMemoryAgainst}
use Rattle.urlcheck_c.specs.Base.{IsMadeOf, IsStray}
use Rattle.urlcheck_c.specs.Request.{IsRequest, IsUnchecked}

-- the text is valid against the base; or it is not, or memory ran out of a text that isn't checked without it
abbrev pub IsKnownValid : Profile → Option Url → List ℕ → Bool → Type 0
IsKnownValid profile base bytes true = (parts : Parts) × Valid profile base (chars bytes) parts
IsKnownValid profile base bytes false =
    ((parts : Parts) → ¬ (Valid profile base (chars bytes) parts)) ⊎ ¬ (TakesNoMemoryAgainst profile base (chars bytes))

-- the text isn't checked, which is said as no; or it is checked against the base, if one is given
abbrev pub IsValidityAnswer : ℕ → Option (List ℕ) → List ℕ → Bool → Type 0
IsValidityAnswer number base bytes answer =
    ((answer ≡ false) × (finding : Finding) × IsUnchecked number base bytes finding)
    ⊎ ((profile : Profile) × (url : Option Url) × IsRequest number base bytes profile url
    × IsKnownValid profile url bytes answer)

-- what is answered against the base of a call; against a base that the profile refuses, the answer is `no`
pub record IsValidityTo (number : ℕ) (base : Option Base) (bytes : List ℕ) (answer : Bool) : Type 0 where
  pub made : (of : Option (List ℕ)) → IsMadeOf number base of → IsValidityAnswer number of bytes answer
  pub stray : IsStray number base → answer ≡ false
