-- When a verdict is given: the other direction of what an answer says.
use Rattle.std.specs.Prelude.{◌≡◌, ℕ, List, Option, Some, None, IsUtf8}
use Rattle.uv_model.specs.declared.profile.Profile.{Profile}
use Rattle.urlcheck_c.specs.declared.checks.Answer.{Answer}
use Rattle.urlcheck_c.specs.declared.finding.CallOutcome.TheVariants.{NoUtf8, BaseNoUtf8, NoProfile}
use Rattle.urlcheck_c.specs.Answer.{IsAnswer}
use Rattle.urlcheck_c.specs.Finding.{no_utf8_finding, plain_finding, profile_of}

-- a number of no profile is reported, whatever the text and the base
abbrev pub NoProfileIsReported : Type 0
NoProfileIsReported =
    (number : ℕ) (base : Option (List ℕ)) (bytes : List ℕ) (answer : Answer) → IsAnswer number base bytes answer
    → profile_of number ≡ None → answer.found ≡ plain_finding NoProfile

-- a text that isn't UTF-8 is reported in each profile, alone and whatever the base
abbrev pub NoUtf8IsReported : Type 0
NoUtf8IsReported =
    (number : ℕ) (base : Option (List ℕ)) (bytes : List ℕ) (answer : Answer) → IsAnswer number base bytes answer
    → (profile : Profile) → profile_of number ≡ Some profile → ¬ (IsUtf8 bytes)
    → answer.found ≡ no_utf8_finding NoUtf8 bytes

-- a base that isn't UTF-8 is reported in each profile of each text that is
abbrev pub NoBaseUtf8IsReported : Type 0
NoBaseUtf8IsReported =
    (number : ℕ) (base bytes : List ℕ) (answer : Answer) → IsAnswer number (Some base) bytes answer
    → (profile : Profile) → profile_of number ≡ Some profile → IsUtf8 bytes → ¬ (IsUtf8 base)
    → answer.found ≡ no_utf8_finding BaseNoUtf8 base
