-- The hosts of URLs of class Other: the URL parser (URL Standard, sections 3.5 and 4.4) is silent only on the valid
-- ones.
use Rattle.std.specs.Prelude.{◌≡◌, ◌↔◌, ◌⊎◌, ℕ, true, false, List, [], Option, Some, None}
use Rattle.uv_model.specs.declared.host.Host.{Host}
use Rattle.uv_model.specs.declared.host.Host.TheVariants.{Opaque, Empty}
use Rattle.uv_model.specs.Ascii.{at_sign}
use Rattle.uv_parser.specs.HostParser.{parse_host}
use Rattle.uv_model.specs.Path.{is_without}
use Rattle.uv_model.specs.Valid.{IsOpaqueHostText}

-- an opaque host has its text alone, and each other host its value
abbrev pub own_value : Host → Option Host
own_value (Opaque text) = None
own_value value = Some value

-- what the parser is silent on: no `@`, and the host parser gives a host
abbrev pub IsSilentOtherHost : List ℕ → Option Host → Type 0
IsSilentOtherHost text host =
    (value : Host) × (is_without at_sign text ≡ true) × (parse_host false text ≡ Some value) × (host ≡ own_value value)

-- what is valid: an opaque-host string or an IPv6 text in brackets, or nothing, which is the empty host
abbrev pub IsValidOtherHost : List ℕ → Option Host → Type 0
IsValidOtherHost text host = IsOpaqueHostText text host ⊎ ((text ≡ []) × (host ≡ Some Empty))

-- what it is silent on is what is valid
abbrev pub SilentOtherHostsAreValid : Type 0
SilentOtherHostsAreValid =
    (text : List ℕ) (host : Option Host) → IsSilentOtherHost text host ↔ IsValidOtherHost text host
