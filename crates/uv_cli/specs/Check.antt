-- What a check says of a text, and what it writes.
use Rattle.std.specs.Prelude.{◌≡◌, ℕ, List, Option, Some, None, take}
use Rattle.std.specs.Borrow.{Bor}
use Rattle.std.specs.Io.KnownBytes.{Appends}
use Rattle.std.specs.Str.{chars}
use Rattle.uv_model.specs.declared.extent.Extent.{Extent}
use Rattle.uv_model.specs.declared.extent.Extent.TheVariants.{First, All}
use Rattle.uv_model.specs.declared.profile.Profile.{Profile}
use Rattle.uv_model.specs.declared.rule.Refusal.{Refusal}
use Rattle.uv_model.specs.Violations.AllViolations.{AreFaults}
use Rattle.uv_model.specs.Records.Denote.{denote}
use Rattle.uv_model.specs.Parts.{Parts}
use Rattle.uv_parser.specs.Laws.Silence.{RunsSilently}
use Rattle.uv_model.specs.Records.Url.{Url}
use Rattle.uv_model.specs.Valid.{Valid}
use Rattle.uv_grammar.specs.Verdict.{IsRefused}
use Rattle.uv_resolve.specs.Base.{IsBase, IsBaseRefused}
use Rattle.uv_resolve.specs.Resolve.{RunsToItsRecord}
use Rattle.uv_cli.specs.declared.check.CheckEnd.{CheckEnd}
use Rattle.uv_cli.specs.declared.check.CheckEnd.TheVariants as check
use Rattle.uv_cli.specs.declared.check.Checked.{Checked}
use Rattle.uv_cli.specs.declared.check.Checked.TheVariants as checked
use Rattle.uv_cli.specs.declared.check.Found.{Found}
use Rattle.uv_cli.specs.declared.check.RefusedText.{RefusedText}
use Rattle.uv_messages.specs.CheckText.{check_text, faults_text, refused_text}

-- ---- what is found of a refused text

-- the first of its violations, and each of them, if all were asked for
abbrev pub IsFound : Extent → Profile → Option Url → List ℕ → Found → Type 0
IsFound First profile base text found = IsRefused profile base text found.refusal
IsFound All profile base text found =
    IsRefused profile base text found.refusal × AreFaults profile base text found.faults.items

-- the line of the first, or a line for each
abbrev pub found_text : Extent → Found → List ℕ
found_text First found = refused_text found.refusal
found_text All found = faults_text found.faults.items

-- how a check ends that has come to this
abbrev pub end_of : Checked → CheckEnd
end_of checked.Valid = check.Valid
end_of (checked.Refused text) = check.Refused
end_of (checked.BaseRefused refusal) = check.BaseRefused refusal

-- what is kept of a text that is refused against a URL as base
abbrev pub IsKeptAgainst : Extent → Profile → Option Url → List ℕ → Option RefusedText → Type 0
IsKeptAgainst extent profile base text (Some kept) =
    (kept.base ≡ base) × IsFound extent profile base text kept.found
IsKeptAgainst extent profile base text None = Unit {0}

-- what is kept of a text that is refused against the base's text
abbrev pub IsKeptAt : Extent → Profile → Option (Bor (List ℕ)) → List ℕ → Option RefusedText → Type 0
IsKeptAt extent profile base text (Some kept) =
    IsBase profile base kept.base × IsFound extent profile kept.base text kept.found
IsKeptAt extent profile base text None = Unit {0}

-- what a check has kept
abbrev pub kept_of : Checked → Option RefusedText
kept_of (checked.Refused kept) = Some kept
kept_of _ = None

-- ---- what is written

-- the line of a refused text's first violation, or a line for each of its violations, in their order
abbrev pub SaysRefused : Extent → Profile → Option Url → List ℕ → List ℕ → Type 0
SaysRefused First profile base text whole =
    (refusal : Refusal) × IsRefused profile base text refusal × (whole ≡ refused_text refusal)
SaysRefused All profile base text whole =
    ((refusal : Refusal) × IsRefused profile base text refusal)
    × ((refusals : List Refusal) × AreFaults profile base text refusals × (whole ≡ faults_text refusals))

-- What a check says of a text against a URL as base, and how it ends: the lines of the URL that the text denotes, or a
-- line for each violation. On a valid text the URL parser is silent, and gives the URL that is denoted.
abbrev pub Says : Extent → Profile → Option Url → List ℕ → CheckEnd → List ℕ → Type 0
Says extent profile base text check.Valid whole =
    (parts : Parts) × Valid profile base text parts × RunsSilently base text parts
    × (whole ≡ check_text (denote base parts))
Says extent profile base text check.Refused whole = SaysRefused extent profile base text whole
Says extent profile base text (check.BaseRefused refusal) whole = ⊥

-- it says this of what was found, or of a valid text
abbrev pub SaysFound : Extent → Profile → Option Url → List ℕ → Option Found → List ℕ → Type 0
SaysFound extent profile base text None whole = Says extent profile base text check.Valid whole
SaysFound extent profile base text (Some found) whole =
    IsFound extent profile base text found × (whole ≡ found_text extent found)

-- all that a command says of the text was written
pub record WritesWhole (extent : Extent) (profile : Profile) (base : Option Url) (text : List ℕ)
    (end : CheckEnd)
    (old new : Option (List ℕ)) : Type 0 where
  pub whole : List ℕ
  pub says : Says extent profile base text end whole
  pub wrote : Appends old new whole

-- a prefix of what a command says of the text was written
pub record WritesPrefix (extent : Extent) (profile : Profile) (base : Option Url) (text : List ℕ)
    (old new : Option (List ℕ)) : Type 0 where
  pub end : CheckEnd
  pub whole : List ℕ
  pub says : Says extent profile base text end whole
  pub count : ℕ
  pub wrote : Appends old new (take count whole)

-- what a command says of the text against the base's text was written, or the base is refused
abbrev pub HasWritten
    : Extent → Profile → Option (Bor (List ℕ)) → List ℕ → CheckEnd → Option (List ℕ) → Option (List ℕ) → Type 0
HasWritten extent profile base text (check.BaseRefused refusal) old new = IsBaseRefused profile base refusal
HasWritten extent profile base text end old new =
    (url : Option Url) × IsBase profile base url × WritesWhole extent profile url text end old new

-- a prefix of what a command says of the text against the base's text was written
abbrev pub HasWrittenPrefix
    : Extent → Profile → Option (Bor (List ℕ)) → List ℕ → Option (List ℕ) → Option (List ℕ) → Type 0
HasWrittenPrefix extent profile base text old new =
    (url : Option Url) × IsBase profile base url × WritesPrefix extent profile url text old new

-- the parser runs to the record of the text where it is valid, alone or against the URL that the base's text denotes,
-- and to the record of the base's text where that is valid by itself
abbrev pub RunsAgainst : Profile → Option (Bor (List ℕ)) → List ℕ → Type 0
RunsAgainst profile None text = RunsToItsRecord profile None text
RunsAgainst profile (Some base) text =
    RunsToItsRecord profile None (chars base.now)
    × ((parts : Parts) → Valid profile None (chars base.now) parts
    → RunsToItsRecord profile (Some (denote None parts)) text)
