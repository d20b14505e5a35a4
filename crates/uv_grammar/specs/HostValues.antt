-- The values of valid hosts, after the URL Standard, sections 3.4 and 4.3.
use Rattle.std.specs.Prelude.{◌≡◌, ◌≢◌, ℕ, ◌⊎◌, Bool, true, false, not, List, [], ◌∷◌, Option, Some, None}
use Rattle.uv_model.specs.declared.host.Host.{Host}
use Rattle.uv_model.specs.declared.host.Host.TheVariants.{Empty}
use Rattle.uv_model.specs.declared.profile.Profile.{Profile}
use Rattle.uv_model.specs.declared.profile.Profile.TheVariants.{Parser}
use Rattle.uv_model.specs.declared.rule.Rule.{Rule}
use Rattle.uv_model.specs.declared.rule.Rule.TheVariants.{HostDomain, HostNumber}
use Rattle.uv_model.specs.declared.scheme.Class.{Class}
use Rattle.uv_model.specs.declared.scheme.Class.TheVariants.{SpecialNotFile, File, Other}
use Rattle.uv_model.specs.Hosts.Domain.{HasNoForm, IsNumberText}
use Rattle.uv_model.specs.Hosts.OpaqueHost.{starts_with_bracket}
use Rattle.uv_model.specs.Hosts.StoppedHost.{is_stopped}
use Rattle.uv_model.specs.Violations.Violation.{ShouldBeDomain}
use Rattle.uv_model.specs.Path.{starts_with_slash}
use Rattle.uv_model.specs.Valid.{IsFileHostText, IsHostText, IsOpaqueHostText}

-- A valid host that isn't empty, by the class, with the value that it gives: an opaque host gives none. The parser
-- doesn't stop at the host of a special or a file URL, if the profile requires that.
abbrev pub FitsSomeHost : Profile → Class → Bool → List ℕ → Option Host → Type 0
FitsSomeHost profile SpecialNotFile last text None = ⊥
FitsSomeHost profile SpecialNotFile last text (Some host) =
    (is_stopped profile SpecialNotFile last text ≡ false) × IsHostText profile text host
FitsSomeHost profile File last text None = ⊥
FitsSomeHost profile File last text (Some host) =
    (is_stopped profile File last text ≡ false) × IsFileHostText profile text host
FitsSomeHost profile Other last text host = IsOpaqueHostText text host

-- the empty host of a file URL may be before this path
abbrev pub MayBeEmptyFile : Profile → List ℕ → Type 0
MayBeEmptyFile Parser path_text = Unit {0}
MayBeEmptyFile _ path_text = starts_with_slash path_text ≡ true

-- an empty host may be before this path, or without a port
abbrev pub MayBeEmpty : Profile → Class → Option (List ℕ) → List ℕ → Type 0
MayBeEmpty profile SpecialNotFile port_text path_text = ⊥
MayBeEmpty profile File port_text path_text = MayBeEmptyFile profile path_text
MayBeEmpty profile Other port_text path_text = port_text ≡ None

-- a valid host of the class, or an empty one; `last` says that nothing of the text follows the host
abbrev pub FitsHost : Profile → Class → Bool → List ℕ → Option (List ℕ) → List ℕ → Option Host → Type 0
FitsHost profile class last text port_text path_text host =
    ((text ≢ []) × FitsSomeHost profile class last text host)
    ⊎ ((text ≡ []) × (host ≡ Some Empty) × MayBeEmpty profile class port_text path_text)

-- a violation of a whole host is at its start
abbrev pub AtStart : (Rule → Type 0) → ℕ → Rule → Type 0
AtStart violation place rule = violation rule × (place ≡ 0)

-- what a host at which the parser doesn't stop can violate, as a name
abbrev pub NameViolation : Profile → List ℕ → Rule → Type 0
NameViolation profile text HostDomain = ShouldBeDomain profile text × HasNoForm profile text
NameViolation profile text HostNumber = ShouldBeDomain profile text × IsNumberText profile text
NameViolation profile text _ = ⊥

-- the text of an opaque host that is neither empty nor in brackets, which is checked code point by code point
abbrev pub is_scanned : Class → List ℕ → Bool
is_scanned Other [] = false
is_scanned Other (c ∷ rest) = not (starts_with_bracket (c ∷ rest))
is_scanned _ text = false
