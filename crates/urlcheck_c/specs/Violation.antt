-- What is wrong with a text, by numbers.
use Rattle.std.specs.Prelude.{◌≡◌, ℕ, ◌⊎◌, ◌≤◌, ◌<◌, List, length, Option, Some, None, Result, Ok, Err}
use Rattle.std.specs.Str.{chars}
use Rattle.uv_rules.specs.declared.line_violation.LineViolation.{LineViolation}
use Rattle.uv_sentences.specs.Sentences.Message.{IsMessage, PlacedText}
use Rattle.urlcheck_c.specs.declared.bases.Base.{Base}
use Rattle.urlcheck_c.specs.declared.bases.CheckRequest.{CheckRequest}
use Rattle.urlcheck_c.specs.declared.finding.Finding.{Finding}
use Rattle.urlcheck_c.specs.declared.finding.CallOutcome.TheVariants.{Done, Memory, NoRule, NoPlace, NoWording}
use Rattle.urlcheck_c.specs.declared.reports.messages.FoundViolation.{FoundViolation}
use Rattle.urlcheck_c.specs.declared.written.Written.{Written}
use Rattle.urlcheck_c.specs.Base.{IsAsked, IsUnasked}
use Rattle.urlcheck_c.specs.Buffer.{IsWritten}
use Rattle.urlcheck_c.specs.Finding.{placed_finding, plain_finding}
use Rattle.urlcheck_c.specs.ReportNumbers.{violation_of}
use Rattle.urlcheck_c.specs.Written.{IsRefusedFor, IsUnwritten}

-- The text is checked under a profile, alone or against the base that is given, and the numbers say what is wrong with
-- it at the place, which is not after its end.
pub record IsViolation (number : ℕ) (base : Option Base) (rule place : ℕ) (bytes : List ℕ) (request : CheckRequest)
    (violation : LineViolation) : Type 0 where
  pub asked : IsAsked number base bytes (Ok request)
  pub violation_is : violation_of rule place ≡ Some violation
  pub within : place ≤ length (chars bytes)

-- They don't: the text isn't checked, no rule has the number, or the place is after the text's end.
abbrev pub IsNoViolation : ℕ → Option Base → ℕ → ℕ → List ℕ → Finding → Type 0
IsNoViolation number base rule place bytes finding =
    IsUnasked number base bytes finding
    ⊎ (((violation_of rule place ≡ None) × (finding ≡ plain_finding NoRule))
    ⊎ ((length (chars bytes) < place) × (finding ≡ plain_finding NoPlace)))

-- what the numbers say, or why they don't say it
abbrev pub IsViolationRead : ℕ → Option Base → ℕ → ℕ → List ℕ → Result FoundViolation Finding → Type 0
IsViolationRead number base rule place bytes (Ok found) =
    IsViolation number base rule place bytes found.request found.violation
IsViolationRead number base rule place bytes (Err finding) = IsNoViolation number base rule place bytes finding

-- a message on the text is given, with the place that it names, or memory ran out and nothing was written
abbrev pub IsMessageGiven : List ℕ → List ℕ → List ℕ → Written → Type 0
IsMessageGiven bytes old new answer =
    ((said : PlacedText) × IsMessage said.text × (answer.found ≡ placed_finding Done bytes said.place)
    × IsWritten said.text old new answer.length) ⊎ IsRefusedFor Memory old new answer

-- there is no report, and nothing was written; or the report on the text is given
abbrev pub IsSentenceGiven : ℕ → Option Base → ℕ → ℕ → List ℕ → List ℕ → List ℕ → Written → Type 0
IsSentenceGiven number base rule place bytes old new answer =
    ((finding : Finding) × IsNoViolation number base rule place bytes finding × IsUnwritten finding old new answer)
    ⊎ ((request : CheckRequest) × (violation : LineViolation)
    × IsViolation number base rule place bytes request violation × IsMessageGiven bytes old new answer)

-- no wording has the number, and nothing was written; otherwise the sentence is given, or it is told why there is none
abbrev pub IsMessageAnswer : ℕ → Option Base → ℕ → ℕ → ℕ → List ℕ → List ℕ → List ℕ → Written → Type 0
IsMessageAnswer number base wording rule place bytes old new answer =
    ((3 < wording) × IsRefusedFor NoWording old new answer)
    ⊎ ((wording ≤ 3) × IsSentenceGiven number base rule place bytes old new answer)
