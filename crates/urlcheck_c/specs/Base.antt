-- A base that is checked once and held between calls.
use Rattle.std.specs.Prelude.{◌≡◌, ◌≢◌, ℕ, ◌⊎◌, Bool, true, false, not, ◌||◌, ◌&&◌, ◌==◌, nat_le, List, Option}
use Rattle.std.specs.Prelude.{Some, None, Result, Ok, Err, IsUtf8, if◌then◌else◌, option_map}
use Rattle.uv_model.specs.declared.profile.Profile.{Profile}
use Rattle.uv_model.specs.Records.Url.{Url}
use Rattle.uv_grammar.specs.declared.bases.BaseKind.{BaseKind}
use Rattle.uv_grammar.specs.declared.bases.BaseScheme.{BaseScheme}
use Rattle.uv_grammar.specs.declared.bases.BaseScheme.TheVariants.{Ftp, Http, Https, File, Other}
use Rattle.uv_grammar.specs.Bases.{IsOfKind}
use Rattle.urlcheck_c.specs.declared.bases.Base.{Base}
use Rattle.urlcheck_c.specs.declared.bases.CheckRequest.{CheckRequest}
use Rattle.urlcheck_c.specs.declared.finding.Finding.{Finding}
use Rattle.urlcheck_c.specs.declared.finding.CallOutcome.TheVariants.{BaseRefused, BaseNoUtf8, Memory, NoBase}
use Rattle.urlcheck_c.specs.declared.finding.CallOutcome.TheVariants.{NoProfile}
use Rattle.urlcheck_c.specs.declared.finding.CallOutcome.TheVariants.{NoUtf8, Valid as valid_outcome}
use Rattle.urlcheck_c.specs.Finding.{outcome_number, plain_finding, profile_of}
use Rattle.urlcheck_c.specs.Request.{IsBase, IsNoBase, IsNoText}

-- ---- a base as numbers

-- the number of a scheme
abbrev pub scheme_number : BaseScheme → ℕ
scheme_number Ftp = 1
scheme_number Http = 2
scheme_number Https = 3
scheme_number File = 4
scheme_number Other = 5

-- the scheme with a number
abbrev pub scheme_with : ℕ → Option BaseScheme
scheme_with number =
    if number == 1 then Some Ftp
    else (if number == 2 then Some Http
    else (if number == 3 then Some Https
    else (if number == 4 then Some File else (if number == 5 then Some Other else None))))

-- 1 for yes and 0 for no
abbrev pub flag_number : Bool → ℕ
flag_number true = 1
flag_number false = 0

-- a base of the kind, which is valid under the profile with this number
abbrev pub held_base : ℕ → BaseKind → Base
held_base number kind = record {
  found = plain_finding valid_outcome;
  profile = number;
  scheme = scheme_number kind.scheme;
  opaque_path = flag_number kind.has_opaque_path;
  empty_host = flag_number kind.has_empty_host;
}

-- a base from which nothing is read under the profile with this number, for this reason
abbrev pub unread_base : ℕ → Finding → Base
unread_base number why = record { found = why; profile = number; scheme = 0; opaque_path = 0; empty_host = 0 }

-- the kind with a scheme, and what else the numbers of a base say
abbrev pub kind_with : Base → BaseScheme → BaseKind
kind_with base scheme = record {
  scheme = scheme;
  has_opaque_path = not (base.opaque_path == 0);
  has_empty_host = not (base.empty_host == 0);
}

-- the kind that the numbers of a base say, where they say one
abbrev pub kind_in : Base → Option BaseKind
kind_in base = option_map (kind_with base) (scheme_with base.scheme)

-- ---- what was read of a base

-- nothing is read from the bytes: no profile has the number, or they aren't a base by it
abbrev pub IsUnread : ℕ → List ℕ → Finding → Type 0
IsUnread number bytes finding =
    ((profile_of number ≡ None) × (finding ≡ plain_finding NoProfile))
    ⊎ ((profile : Profile) × (profile_of number ≡ Some profile) × IsNoBase profile bytes finding)

-- the bytes denote a URL of this kind without a base
pub record IsBaseOfKind (number : ℕ) (bytes : List ℕ) (kind : BaseKind) : Type 0 where
  pub profile : Profile
  pub url : Url
  pub profile_is : profile_of number ≡ Some profile
  pub base_is : IsBase profile (Some bytes) (Some url)
  pub kind_is : IsOfKind url kind

-- the kind of what the bytes denote without a base under the profile, or why they denote nothing
abbrev pub IsKindDenoted : Profile → List ℕ → Result BaseKind Finding → Type 0
IsKindDenoted profile bytes (Ok kind) = (url : Url) × IsBase profile (Some bytes) (Some url) × IsOfKind url kind
IsKindDenoted profile bytes (Err finding) = IsNoBase profile bytes finding

-- the kind of what the bytes denote without a base under the profile with this number, or why they denote nothing
abbrev pub IsKindRead : ℕ → List ℕ → Result BaseKind Finding → Type 0
IsKindRead number bytes (Ok kind) = IsBaseOfKind number bytes kind
IsKindRead number bytes (Err finding) = IsUnread number bytes finding

-- what was read of the bytes: the kind of what they denote, or why they denote nothing
abbrev pub IsPreparedBase : ℕ → List ℕ → Base → Type 0
IsPreparedBase number bytes base =
    (IsUnread number bytes base.found × (base ≡ unread_base number base.found))
    ⊎ ((kind : BaseKind) × IsBaseOfKind number bytes kind × (base ≡ held_base number kind))

-- ---- what is checked against it

-- The base was made of these bytes under the profile with this number. If no base is given, there are no bytes.
abbrev pub IsMadeOf : ℕ → Option Base → Option (List ℕ) → Type 0
IsMadeOf number (Some base) (Some bytes) = IsPreparedBase number bytes base
IsMadeOf number (Some base) None = ⊥
IsMadeOf number None bytes = bytes ≡ None

-- the base is one of another profile, or its numbers say no kind
abbrev pub SaysNoBase : ℕ → Base → Type 0
SaysNoBase number base = (base.profile ≢ number) ⊎ (kind_in base ≡ None)

-- a base is given, which isn't one under the profile with this number
abbrev pub IsStray : ℕ → Option Base → Type 0
IsStray number None = ⊥
IsStray number (Some base) = SaysNoBase number base

-- whether that is found of a base that its profile refuses
abbrev pub is_refused_base : Finding → Bool
is_refused_base found =
    (found.verdict == outcome_number BaseRefused
    || (found.verdict == outcome_number BaseNoUtf8 || found.verdict == outcome_number Memory))
    && nat_le found.rule 14

-- what was found of a base that this profile refuses; of any other, that none was prepared by it
abbrev pub base_fault : ℕ → Base → Finding
base_fault number base =
    if base.profile == number && is_refused_base base.found then base.found else plain_finding NoBase

-- the kind of a base under the profile with this number, or why there is none
abbrev pub IsKindBy : ℕ → Base → Result BaseKind Finding → Type 0
IsKindBy number base (Ok kind) = (base.profile ≡ number) × (kind_in base ≡ Some kind)
IsKindBy number base (Err finding) = SaysNoBase number base × (finding ≡ base_fault number base)

-- the kind of the base that is given
abbrev pub IsKindGiven : ℕ → Option Base → Option BaseKind → Type 0
IsKindGiven number (Some base) (Some kind) = IsKindBy number base (Ok kind)
IsKindGiven number (Some base) None = ⊥
IsKindGiven number None kind = kind ≡ None

-- a base is given that has no kind under the profile, and why
abbrev pub IsNoKindGiven : ℕ → Option Base → Finding → Type 0
IsNoKindGiven number None finding = ⊥
IsNoKindGiven number (Some base) finding = IsKindBy number base (Err finding)

-- No profile has the number; otherwise the text isn't UTF-8; otherwise no kind is read of the base.
abbrev pub IsUnasked : ℕ → Option Base → List ℕ → Finding → Type 0
IsUnasked number base bytes finding =
    ((profile_of number ≡ None) × (finding ≡ plain_finding NoProfile))
    ⊎ ((profile : Profile) × (profile_of number ≡ Some profile)
    × (IsNoText NoUtf8 bytes finding ⊎ (IsUtf8 bytes × IsNoKindGiven number base finding)))

-- what is to be checked, or why nothing is
abbrev pub IsAsked : ℕ → Option Base → List ℕ → Result CheckRequest Finding → Type 0
IsAsked number base bytes (Ok request) =
    (request.text.now ≡ bytes) × (profile_of number ≡ Some request.profile) × IsUtf8 bytes
    × IsKindGiven number base request.kind
IsAsked number base bytes (Err finding) = IsUnasked number base bytes finding

-- the URL is of the kind, or there is neither
abbrev pub IsOfKindGiven : Option Url → Option BaseKind → Type 0
IsOfKindGiven url None = url ≡ None
IsOfKindGiven None (Some kind) = ⊥
IsOfKindGiven (Some url) (Some kind) = IsOfKind url kind
