-- What a call asks, or why nothing is checked.
use Rattle.std.specs.Prelude.{◌≡◌, ℕ, ◌⊎◌, Bool, true, false, List, Option, Some, None, Result, Ok, Err, IsUtf8}
use Rattle.std.specs.Borrow.{Bor}
use Rattle.std.specs.Str.{chars}
use Rattle.uv_model.specs.declared.profile.Profile.{Profile}
use Rattle.uv_model.specs.declared.rule.Refusal.{Refusal}
use Rattle.uv_model.specs.Parts.{Parts}
use Rattle.uv_model.specs.Records.Url.{Url}
use Rattle.uv_model.specs.Valid.{Valid}
use Rattle.uv_grammar.specs.NoMemory.{TakesNoMemoryAgainst}
use Rattle.uv_grammar.specs.Verdict.{IsRefused}
use Rattle.uv_resolve.specs.Resolve.{Denotes, IsRefusedWithoutMemory}
use Rattle.urlcheck_c.specs.declared.finding.Finding.{Finding}
use Rattle.urlcheck_c.specs.declared.finding.CallOutcome.{CallOutcome}
use Rattle.urlcheck_c.specs.declared.finding.CallOutcome.TheVariants.{NoUtf8, BaseRefused, BaseNoUtf8, Memory}
use Rattle.urlcheck_c.specs.declared.finding.CallOutcome.TheVariants.{NoProfile}
use Rattle.urlcheck_c.specs.declared.request.Request.{Request}
use Rattle.urlcheck_c.specs.Finding.{no_utf8_finding, plain_finding, profile_of, refused_finding}

-- the bytes aren't UTF-8, and the finding says so with this outcome
pub record IsNoText (outcome : CallOutcome) (bytes : List ℕ) (finding : Finding) : Type 0 where
  pub none : ¬ (IsUtf8 bytes)
  pub said : finding ≡ no_utf8_finding outcome bytes

-- the bytes are refused against the base, and the finding says so with this outcome
pub record IsRefusedText (outcome : CallOutcome) (profile : Profile) (base : Option Url) (bytes : List ℕ)
    (finding : Finding) : Type 0 where
  pub refusal : Refusal
  pub utf8 : IsUtf8 bytes
  pub refused : IsRefused profile base (chars bytes) refusal
  pub said : finding ≡ refused_finding outcome bytes refusal

-- memory ran out
abbrev pub IsMemory : Finding → Type 0
IsMemory finding = finding ≡ plain_finding Memory

-- memory ran out, of bytes that aren't checked without it
pub record IsOutOfMemory (profile : Profile) (base : Option Url) (bytes : List ℕ) (finding : Finding) : Type 0 where
  pub said : IsMemory finding
  pub needed : ¬ (TakesNoMemoryAgainst profile base (chars bytes))

-- memory ran out, of bytes that aren't refused without it
abbrev pub LacksMemory : Profile → Option Url → List ℕ → Finding → Type 0
LacksMemory profile base bytes finding = IsMemory finding × ¬ (IsRefusedWithoutMemory profile base (chars bytes))

-- the text is valid, and is checked without memory
abbrev pub IsValidWithoutMemory : Profile → Option Url → List ℕ → Type 0
IsValidWithoutMemory profile base text =
    TakesNoMemoryAgainst profile base text × ((parts : Parts) × Valid profile base text parts)

-- memory ran out, of bytes that aren't found valid without it
abbrev pub LacksMemoryUnlessValid : Profile → Option Url → List ℕ → Finding → Type 0
LacksMemoryUnlessValid profile base bytes finding =
    IsMemory finding × ¬ (IsValidWithoutMemory profile base (chars bytes))

-- the bytes of a text, or why they aren't a text
abbrev pub IsTextRead : CallOutcome → List ℕ → Result (Bor (List ℕ)) Finding → Type 0
IsTextRead outcome bytes (Ok text) = (text.now ≡ bytes) × IsUtf8 bytes
IsTextRead outcome bytes (Err finding) = IsNoText outcome bytes finding

-- the bytes of a base aren't UTF-8; otherwise they are refused, or memory ran out where their check asks for it
abbrev pub IsNoBase : Profile → List ℕ → Finding → Type 0
IsNoBase profile bytes finding =
    IsNoText BaseNoUtf8 bytes finding
    ⊎ (IsUtf8 bytes
    × (IsRefusedText BaseRefused profile None bytes finding ⊎ IsOutOfMemory profile None bytes finding))

-- memory ran out for the record of a base
pub record IsNoRecord (profile : Profile) (bytes : List ℕ) (finding : Finding) : Type 0 where
  pub utf8 : IsUtf8 bytes
  pub lacks : LacksMemory profile None bytes finding

-- what the bytes of a base denote by themselves, or why they denote nothing
abbrev pub IsBaseRead : Profile → List ℕ → Result Url Finding → Type 0
IsBaseRead profile bytes (Ok url) = IsUtf8 bytes × Denotes profile None (chars bytes) url
IsBaseRead profile bytes (Err finding) = IsNoBase profile bytes finding ⊎ IsNoRecord profile bytes finding

-- there is no base, or its bytes denote the URL by themselves
abbrev pub IsBase : Profile → Option (List ℕ) → Option Url → Type 0
IsBase profile None url = url ≡ None
IsBase profile (Some bytes) None = ⊥
IsBase profile (Some bytes) (Some url) = IsUtf8 bytes × Denotes profile None (chars bytes) url

-- a base is given from which nothing is read
abbrev pub IsNoBaseGiven : Profile → Option (List ℕ) → Finding → Type 0
IsNoBaseGiven profile None finding = ⊥
IsNoBaseGiven profile (Some bytes) finding = IsNoBase profile bytes finding

-- No profile has the number; otherwise the text isn't UTF-8; otherwise nothing is read from the base.
abbrev pub IsUnchecked : ℕ → Option (List ℕ) → List ℕ → Finding → Type 0
IsUnchecked number base bytes finding =
    ((profile_of number ≡ None) × (finding ≡ plain_finding NoProfile))
    ⊎ ((profile : Profile) × (profile_of number ≡ Some profile)
    × (IsNoText NoUtf8 bytes finding ⊎ (IsUtf8 bytes × IsNoBaseGiven profile base finding)))

-- memory ran out for the record of a base that is given
abbrev pub IsNoRecordGiven : Profile → Option (List ℕ) → Finding → Type 0
IsNoRecordGiven profile None finding = ⊥
IsNoRecordGiven profile (Some bytes) finding = IsNoRecord profile bytes finding

-- what the base that is given denotes by itself, or why its bytes denote nothing
abbrev pub IsBaseGivenRead : Profile → Option (List ℕ) → Result (Option Url) Finding → Type 0
IsBaseGivenRead profile base (Ok url) = IsBase profile base url
IsBaseGivenRead profile base (Err finding) =
    IsNoBaseGiven profile base finding ⊎ IsNoRecordGiven profile base finding

-- the text isn't checked; or memory ran out before that, for the record of the base
abbrev pub IsNoRequest : ℕ → Option (List ℕ) → List ℕ → Finding → Type 0
IsNoRequest number base bytes finding =
    IsUnchecked number base bytes finding
    ⊎ ((profile : Profile) × (profile_of number ≡ Some profile) × IsUtf8 bytes × IsNoRecordGiven profile base finding)

-- the number is the profile's, the bytes are UTF-8, and the base is read
pub record IsRequest (number : ℕ) (base : Option (List ℕ)) (bytes : List ℕ) (profile : Profile)
    (url : Option Url) : Type 0 where
  pub profile_is : profile_of number ≡ Some profile
  pub utf8 : IsUtf8 bytes
  pub base_is : IsBase profile base url

-- what is to be checked against the record of a base, or why nothing is
abbrev pub IsPrepared : ℕ → Option (List ℕ) → List ℕ → Result Request Finding → Type 0
IsPrepared number base bytes (Ok request) =
    (request.text.now ≡ bytes) × IsRequest number base bytes request.profile request.base
IsPrepared number base bytes (Err finding) = IsNoRequest number base bytes finding

-- ---- what a caller may leave out

-- what is given, or none
abbrev pub given : {X : Type 0} → Bool → X → Option X
given false value = None
given true value = Some value
