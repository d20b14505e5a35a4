-- The record of a text, and the run of the URL parser on it (URL Standard, sections 4.3 and 4.4).
use Rattle.std.specs.Prelude.{◌≡◌, ℕ, List, Option, Result, Ok, Err}
use Rattle.std.specs.Str.{chars}
use Rattle.uv_model.specs.declared.profile.Profile.{Profile}
use Rattle.uv_model.specs.declared.profile.Profile.TheVariants.{Parser}
use Rattle.uv_model.specs.declared.rule.Refusal.{Refusal}
use Rattle.uv_model.specs.Records.Denote.{denote}
use Rattle.uv_model.specs.Parts.{Parts}
use Rattle.uv_parser.specs.Laws.Silence.{RunsSilently}
use Rattle.uv_parser.specs.Laws.StepCounts.{least_step_bound}
use Rattle.uv_parser.specs.Run.{Done, run}
use Rattle.uv_model.specs.Records.Serialize.{serial}
use Rattle.uv_model.specs.Records.Url.{Url}
use Rattle.uv_model.specs.Valid.{Valid}
use Rattle.uv_model.specs.Records.WellFormed.{MayBeWellFormed, WellFormed}
use Rattle.uv_grammar.specs.NoMemory.{TakesNoMemoryAgainst}
use Rattle.uv_grammar.specs.Verdict.{IsRefused}
use Rattle.uv_resolve.specs.declared.fault.ResolveFault.{ResolveFault}
use Rattle.uv_resolve.specs.declared.fault.ResolveFault.TheVariants.{Refused, Memory}

-- the text is valid with parts that denote the URL
abbrev pub Denotes : Profile → Option Url → List ℕ → Url → Type 0
Denotes profile base text url = (parts : Parts) × Valid profile base text parts × (url ≡ denote base parts)

-- the text, given by its bytes, denotes a URL with this text
abbrev pub DenotesText : Profile → Option Url → List ℕ → List ℕ → Type 0
DenotesText profile base bytes text = (url : Url) × Denotes profile base (chars bytes) url × (text ≡ serial url)

-- the parts belong to some valid text, of any profile
abbrev pub HaveValidText : Option Url → Parts → Type 0
HaveValidText base parts = (profile : Profile) × (text : List ℕ) × Valid profile base text parts

-- the record that a valid text denotes, or the least violation of a text that is valid with no parts; a call out of
-- memory is left open
abbrev pub IsResolved : Profile → Option Url → List ℕ → Result Url ResolveFault → Type 0
IsResolved profile base text (Ok url) = Denotes profile base text url
IsResolved profile base text (Err (Refused refusal)) = IsRefused profile base text refusal
IsResolved profile base text (Err (Memory error)) = Unit {0}

-- the URL is answered, or memory ran out
abbrev pub IsDenoted : Url → Result Url ResolveFault → Type 0
IsDenoted url (Ok made) = made ≡ url
IsDenoted url (Err (Refused refusal)) = ⊥
IsDenoted url (Err (Memory error)) = Unit {0}

-- the text is valid with no parts, and is checked without memory
abbrev pub IsRefusedWithoutMemory : Profile → Option Url → List ℕ → Type 0
IsRefusedWithoutMemory profile base text =
    TakesNoMemoryAgainst profile base text × ((parts : Parts) → ¬ (Valid profile base text parts))

-- such a text is answered by a refusal, whatever memory there is
abbrev pub RefusesWithoutMemory : {X : Type 0} → Profile → Option Url → List ℕ → Result X ResolveFault → Type 0
RefusesWithoutMemory profile base text result =
    TakesNoMemoryAgainst profile base text → ((parts : Parts) → ¬ (Valid profile base text parts))
    → (refusal : Refusal) × (result ≡ Err (Refused refusal))

-- The parser runs on the text to its end with no validation error and no failure, within the bound on its steps and
-- within the least such bound, and its record is the one that the parts denote. That is well formed under the parser's
-- profile, and by the text's own profile where the base is.
pub record RunsToRecordOf (profile : Profile) (base : Option Url) (text : List ℕ) (parts : Parts) : Type 0 where
  pub runs : RunsSilently base text parts
  pub soon : run base text (least_step_bound text) ≡ Done (denote base parts)
  pub well_formed : WellFormed Parser (denote base parts)
  pub by_profile : MayBeWellFormed profile base → WellFormed profile (denote base parts)

-- so it does where the text is valid
abbrev pub RunsToItsRecord : Profile → Option Url → List ℕ → Type 0
RunsToItsRecord profile base text =
    (parts : Parts) → Valid profile base text parts → RunsToRecordOf profile base text parts
