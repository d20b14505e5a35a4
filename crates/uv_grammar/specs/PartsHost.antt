-- The hosts that the hosts of parts and lent hosts stand for.
use Rattle.std.specs.Prelude.{◌≡◌, ℕ, Bool, false, List, Option, option_map}
use Rattle.uv_model.specs.declared.host.Host.{Host}
use Rattle.uv_model.specs.declared.host.Host.TheVariants as host
use Rattle.uv_model.specs.declared.profile.Profile.{Profile}
use Rattle.uv_model.specs.declared.scheme.Class.{Class}
use Rattle.uv_model.specs.Hosts.StoppedHost.{is_stopped}
use Rattle.uv_model.specs.Valid.{IsHostText}
use Rattle.uv_grammar.specs.declared.parts_host.PartsHost.{PartsHost}
use Rattle.uv_grammar.specs.declared.parts_host.PartsHost.TheVariants.{Made, Plain}
use Rattle.uv_grammar.specs.declared.parts_host.HostRef.{HostRef}
use Rattle.uv_grammar.specs.declared.parts_host.HostRef.TheVariants as lent

-- the host that a host of parts stands for
abbrev pub as_host : PartsHost → Host
as_host (Made value) = value
as_host (Plain name) = host.Domain name

-- the host that a lent host stands for
abbrev pub referred : HostRef → Host
referred (lent.Domain form) = host.Domain form
referred (lent.V4 value) = host.V4 value
referred (lent.V6 pieces) = host.V6 pieces
referred (lent.Opaque text) = host.Opaque text
referred lent.Empty = host.Empty

-- what is asked of a host, asked of the one that a host of parts stands for
abbrev pub FitsPartsHost : (Option Host → Type 0) → Option PartsHost → Type 0
FitsPartsHost fits host = fits (option_map as_host host)

-- a valid host string of a host of parts
abbrev pub IsPartsHostText : Profile → List ℕ → PartsHost → Type 0
IsPartsHostText profile text host = IsHostText profile text (as_host host)

-- a valid host string of a host of parts, at which the parser doesn't stop
abbrev pub IsUnstoppedHostText : Profile → Class → Bool → List ℕ → PartsHost → Type 0
IsUnstoppedHostText profile class last text host =
    (is_stopped profile class last text ≡ false) × IsPartsHostText profile text host
