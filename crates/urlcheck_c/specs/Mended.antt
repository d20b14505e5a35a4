-- What is made of a refused text, in the caller's buffer.
use Rattle.std.specs.Prelude.{◌≡◌, ℕ, ◌⊎◌, Bool, List, Option, string_bytes}
use Rattle.uv_model.specs.declared.profile.Profile.{Profile}
use Rattle.uv_model.specs.Records.Url.{Url}
use Rattle.uv_mend.specs.declared.answer.Mending.{Mending}
use Rattle.uv_mend.specs.declared.answer.Mending.TheVariants as answer
use Rattle.uv_model.specs.declared.mend_kind.MendKind.{MendKind}
use Rattle.uv_model.specs.declared.mend_kind.MendKind.TheVariants.{Same, Escaped, Changed}
use Rattle.uv_mend.specs.Mending.{IsMending}
use Rattle.urlcheck_c.specs.declared.finding.Finding.{Finding}
use Rattle.urlcheck_c.specs.declared.finding.CallOutcome.TheVariants as outcome
use Rattle.urlcheck_c.specs.declared.mended.Mended.{Mended}
use Rattle.urlcheck_c.specs.Base.{flag_number}
use Rattle.urlcheck_c.specs.Buffer.{IsWritten}
use Rattle.urlcheck_c.specs.Finding.{plain_finding, refused_finding}
use Rattle.urlcheck_c.specs.Request.{IsNoRequest, IsRequest, LacksMemoryUnlessValid}

-- the number of a kind
abbrev pub kind_number : MendKind → ℕ
kind_number Same = 1
kind_number Escaped = 2
kind_number Changed = 3

-- no mended text
abbrev pub unmended : Finding → Mended
unmended finding = record { found = finding; kind = 0; offered = 0; length = 0 }

-- The mended text is at the start of the buffer where it fits; its kind and its length are given, and whether it is
-- offered, which is a judgement of what was meant.
pub record IsMendedText (mended : List ℕ) (kind : MendKind) (old new : List ℕ) (given : Mended) : Type 0 where
  pub found : given.found ≡ plain_finding outcome.Mended
  pub kind_is : given.kind ≡ kind_number kind
  pub is_offered : Bool
  pub offered : given.offered ≡ flag_number is_offered
  pub written : IsWritten mended old new given.length

-- The answer about a text, by its bytes: it is valid; or this is the mended text; or it is refused. But for a mended
-- text nothing is written.
abbrev pub IsSaid : List ℕ → Mending → List ℕ → List ℕ → Mended → Type 0
IsSaid bytes answer.Valid old new given = (given ≡ unmended (plain_finding outcome.Valid)) × (new ≡ old)
IsSaid bytes (answer.Mended mended kind) old new given = IsMendedText (string_bytes mended) kind old new given
IsSaid bytes (answer.Refused refusal) old new given =
    (given ≡ unmended (refused_finding outcome.Refused bytes refusal)) × (new ≡ old)

-- What is to be written in place of the text is said. Or memory ran out and nothing was written: of a text that is
-- valid without memory it is said all the same.
abbrev pub IsRequestMended : Profile → Option Url → List ℕ → List ℕ → List ℕ → Mended → Type 0
IsRequestMended profile base bytes old new given =
    ((mending : Mending) × IsMending profile base bytes mending × IsSaid bytes mending old new given)
    ⊎ ((given ≡ unmended given.found) × (new ≡ old) × LacksMemoryUnlessValid profile base bytes given.found)

-- the text isn't checked, and nothing was written; or it is checked against the base, if one is given
abbrev pub IsMendedAnswer : ℕ → Option (List ℕ) → List ℕ → List ℕ → List ℕ → Mended → Type 0
IsMendedAnswer number base bytes old new given =
    ((given ≡ unmended given.found) × (new ≡ old) × IsNoRequest number base bytes given.found)
    ⊎ ((profile : Profile) × (url : Option Url) × IsRequest number base bytes profile url
    × IsRequestMended profile url bytes old new given)
