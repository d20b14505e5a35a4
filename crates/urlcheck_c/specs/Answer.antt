-- The answer on a text: valid with the places of its parts, refused, or not checked.
use Rattle.std.specs.Prelude.{◌≡◌, ℕ, ◌⊎◌, List, Option}
use Rattle.std.specs.Str.{chars}
use Rattle.uv_model.specs.declared.profile.Profile.{Profile}
use Rattle.uv_model.specs.Parts.{Parts}
use Rattle.uv_model.specs.Records.Url.{Url}
use Rattle.uv_grammar.specs.Verdict.{IsAccepted}
use Rattle.urlcheck_c.specs.declared.bases.Base.{Base}
use Rattle.urlcheck_c.specs.declared.checks.Answer.{Answer}
use Rattle.urlcheck_c.specs.declared.finding.Finding.{Finding}
use Rattle.urlcheck_c.specs.declared.finding.CallOutcome.TheVariants.{Valid, Refused}
use Rattle.urlcheck_c.specs.Base.{IsMadeOf, IsStray, IsUnasked}
use Rattle.urlcheck_c.specs.Finding.{plain_finding}
use Rattle.urlcheck_c.specs.Request.{IsOutOfMemory, IsRefusedText, IsRequest, IsUnchecked}
use Rattle.urlcheck_c.specs.Span.{AreSpans, no_spans}

-- the text is valid against the base, and the spans belong to its parts
pub record IsValidAnswer (profile : Profile) (base : Option Url) (bytes : List ℕ) (answer : Answer) : Type 0 where
  pub parts : Parts
  pub accepted : IsAccepted profile base (chars bytes) parts
  pub spans : AreSpans bytes parts answer.parts
  pub found : answer.found ≡ plain_finding Valid

-- the text is valid; or it has no spans, and it is refused, or memory ran out
abbrev pub IsChecked : Profile → Option Url → List ℕ → Answer → Type 0
IsChecked profile base bytes answer =
    IsValidAnswer profile base bytes answer
    ⊎ ((answer.parts ≡ no_spans)
    × (IsRefusedText Refused profile base bytes answer.found ⊎ IsOutOfMemory profile base bytes answer.found))

-- the text isn't checked, and has no spans; or it is checked against the base, if one is given
abbrev pub IsAnswer : ℕ → Option (List ℕ) → List ℕ → Answer → Type 0
IsAnswer number base bytes answer =
    ((answer.parts ≡ no_spans) × IsUnchecked number base bytes answer.found)
    ⊎ ((profile : Profile) × (url : Option Url) × IsRequest number base bytes profile url
    × IsChecked profile url bytes answer)

-- The answer on bytes, alone or against the base that a call is given: against one that was made of bytes it is the
-- answer against these, and against one that isn't one under the profile nothing is checked.
pub record IsAnswerTo (number : ℕ) (base : Option Base) (bytes : List ℕ) (answer : Answer) : Type 0 where
  pub made : (of : Option (List ℕ)) → IsMadeOf number base of → IsAnswer number of bytes answer
  pub stray : IsStray number base → (answer.parts ≡ no_spans) × IsUnasked number base bytes answer.found

-- this is what that answer has found
abbrev pub IsFound : ℕ → Option Base → List ℕ → Finding → Type 0
IsFound number base bytes finding =
    (answer : Answer) × IsAnswerTo number base bytes answer × (answer.found ≡ finding)
