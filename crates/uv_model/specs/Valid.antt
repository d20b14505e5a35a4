-- Valid URL strings of each profile and their parts, after the URL Standard, sections 3.4 and 4.3.
use Rattle.std.specs.Prelude.{◌≡◌, ◌≢◌, ℕ, ◌≤◌, ◌⊎◌, Bool, true, false, ◌==◌, List, [], ◌∷◌, codes}
use Rattle.std.specs.Prelude.{Option, Some, None, IsSome, if◌then◌else◌}
use Rattle.std.specs.List.{list_all}
use Rattle.std.specs.Str.{bytes_eq}
use Rattle.std.specs.Char.{is_ascii_digit}
use Rattle.std.specs.Str.Parse.{digits_value}
use Rattle.uv_model.specs.declared.profile.Profile.{Profile}
use Rattle.uv_model.specs.declared.profile.Profile.TheVariants.{Standard, Parser}
use Rattle.uv_model.specs.declared.scheme.Class.{Class}
use Rattle.uv_model.specs.declared.scheme.Class.TheVariants.{SpecialNotFile, File, Other}
use Rattle.uv_model.specs.declared.host.Host.{Host}
use Rattle.uv_model.specs.declared.host.Host.TheVariants.{Domain, V4, V6, Opaque, Empty}
use Rattle.uv_model.specs.Hosts.Address.{IsBracketedIpv6}
use Rattle.uv_model.specs.Hosts.OpaqueHost.{IsOpaqueHost}
use Rattle.uv_model.specs.Hosts.Domain.{IsDomain}
use Rattle.uv_model.specs.Hosts.Numbers.{IsIpv4Text}
use Rattle.uv_model.specs.Hosts.StoppedHost.{is_stopped}
use Rattle.uv_model.specs.Cut.{IsCut, ends_at_host, is_followed, texts_of}
use Rattle.uv_model.specs.Units.{IsUnits}
use Rattle.uv_model.specs.Scheme.{is_scheme, scheme_class, default_port, starts_with_scheme}
use Rattle.uv_model.specs.Path.{IsPathAbsolute, IsPathRelative, IsPathSlashed, IsTakenSpacedPath}
use Rattle.uv_model.specs.Path.{starts_with_drive_segment}
use Rattle.uv_model.specs.Setting.{Setting, scheme_or, setting_of}
use Rattle.uv_model.specs.Records.Url.{Url, is_opaque}
use Rattle.uv_model.specs.Parts.{Form, SchemeAuthority, SchemePath, SchemeOpaque, Authority, PathAbsolute}
use Rattle.uv_model.specs.Parts.{PathRelative, NoPath, Parts, has_scheme, written}

-- ---- hosts (section 3.4)

-- a valid host string: a domain, an IPv4 text, or an IPv6 text in brackets; under the parser's profile what the host
-- parser takes for a special URL
abbrev pub IsHostText : Profile → List ℕ → Host → Type 0
IsHostText profile text (Domain form) = IsDomain profile text form
IsHostText profile text (V4 value) = IsIpv4Text profile text value
IsHostText profile text (V6 pieces) = IsBracketedIpv6 text pieces
IsHostText profile text (Opaque host) = ⊥
IsHostText profile text Empty = ⊥

-- a valid host string of a file URL, where the domain `localhost` is the empty host
abbrev pub IsFileHostText : Profile → List ℕ → Host → Type 0
IsFileHostText profile text (Domain form) = IsDomain profile text form × (form ≢ codes "localhost")
IsFileHostText profile text (V4 value) = IsIpv4Text profile text value
IsFileHostText profile text (V6 pieces) = IsBracketedIpv6 text pieces
IsFileHostText profile text (Opaque host) = ⊥
IsFileHostText profile text Empty = IsDomain profile text (codes "localhost")

-- the host of a file URL that a host becomes: the domain `localhost` is the empty host (section 4.4)
abbrev pub without_localhost : Host → Host
without_localhost (Domain form) = if bytes_eq form (codes "localhost") then Empty else Domain form
without_localhost host = host

-- a valid opaque-host string: IPv6 in brackets, and only this has a value, or units
abbrev pub IsOpaqueHostText : List ℕ → Option Host → Type 0
IsOpaqueHostText text (Some (V6 pieces)) = IsBracketedIpv6 text pieces
IsOpaqueHostText text (Some _) = ⊥
IsOpaqueHostText text None = IsOpaqueHost text

-- ---- ports (section 4.3)

-- a URL-port string: no code point, or digits that denote 65535 at most
pub record IsPortText (text : List ℕ) : Type 0 where
  pub digits : list_all is_ascii_digit text ≡ true
  pub range : digits_value 10 text ≤ 65535

-- the port is the default, where there is one
abbrev pub is_default : Option ℕ → ℕ → Bool
is_default None port = false
is_default (Some default) port = port == default

-- the port is the scheme's default
abbrev pub is_default_port : List ℕ → ℕ → Bool
is_default_port scheme port = is_default (default_port scheme) port

-- the port that a port text gives, given the scheme's default port: none where it is empty, or denotes the default
abbrev pub port_given : Option ℕ → Option (List ℕ) → Option ℕ
port_given default None = None
port_given default (Some []) = None
port_given default (Some (digit ∷ rest)) =
    if is_default default (digits_value 10 (digit ∷ rest)) then None else Some (digits_value 10 (digit ∷ rest))

-- an absent port text, or a valid one
abbrev pub MayBePortText : Option (List ℕ) → Type 0
MayBePortText None = Unit {0}
MayBePortText (Some text) = IsPortText text

-- ---- what follows `//`

-- a path after an authority: a path-absolute string, and by the wider profiles `/` and any segments
abbrev pub IsPathAfter : Profile → List (List ℕ) → List ℕ → Type 0
IsPathAfter Standard segments text = IsPathAbsolute segments text
IsPathAfter _ segments text = IsPathSlashed segments text

-- no code point and no segment, or such a path
abbrev pub MayBePathAfter : Profile → List (List ℕ) → List ℕ → Type 0
MayBePathAfter profile segments text = ((text ≡ []) × (segments ≡ [])) ⊎ IsPathAfter profile segments text

-- a special URL has a host and may have a port and a path
pub record IsSpecialAuthority (setting : Setting) (host_text : List ℕ) (parts : Parts) : Type 0 where
  pub unstopped : is_stopped setting.profile SpecialNotFile (ends_at_host (texts_of parts)) host_text ≡ false
  pub value : Host
  pub host : IsHostText setting.profile host_text value
  pub valued : parts.host ≡ Some value
  pub port_text : MayBePortText parts.port_text
  pub port : parts.port ≡ port_given setting.default_port parts.port_text
  pub path : MayBePathAfter setting.profile parts.segments parts.path_text

-- the path doesn't begin with `/`, a drive letter and `/`, where the profile asks for that
abbrev pub IsWithoutDrive : Profile → List ℕ → Type 0
IsWithoutDrive Parser text = Unit {0}
IsWithoutDrive _ text = starts_with_drive_segment text ≡ false

-- a file URL's host, after which there may be a path
pub record HasFileHost (profile : Profile) (host_text : List ℕ) (parts : Parts) : Type 0 where
  pub unstopped : is_stopped profile File (ends_at_host (texts_of parts)) host_text ≡ false
  pub value : Host
  pub host : IsFileHostText profile host_text value
  pub valued : parts.host ≡ Some value
  pub path : MayBePathAfter profile parts.segments parts.path_text
  pub no_drive : IsWithoutDrive profile parts.path_text

-- a path without a host before it; under the parser's profile there may be none
abbrev pub IsPathAlone : Profile → List (List ℕ) → List ℕ → Type 0
IsPathAlone Parser segments text = MayBePathAfter Parser segments text
IsPathAlone profile segments text = IsPathAfter profile segments text

-- a file URL has a host and may have a path, or it has only a path
abbrev pub IsFileAuthority : Setting → List ℕ → Parts → Type 0
IsFileAuthority setting host_text parts =
    (parts.port_text ≡ None) × (parts.port ≡ None)
    × (HasFileHost setting.profile host_text parts
    ⊎ ((host_text ≡ []) × (parts.host ≡ Some Empty)
    × IsPathAlone setting.profile parts.segments parts.path_text))

-- any other URL may have a host, with a port or without one, and a path
abbrev pub IsOtherAuthority : Setting → List ℕ → Parts → Type 0
IsOtherAuthority setting host_text parts =
    ((IsOpaqueHostText host_text parts.host × MayBePortText parts.port_text)
    ⊎ ((host_text ≡ []) × (parts.host ≡ Some Empty) × (parts.port_text ≡ None)))
    × (parts.port ≡ port_given setting.default_port parts.port_text)
    × MayBePathAfter setting.profile parts.segments parts.path_text

-- what follows `//`, by the class
abbrev pub FitsAuthority : Class → Setting → List ℕ → Parts → Type 0
FitsAuthority SpecialNotFile setting host_text parts = IsSpecialAuthority setting host_text parts
FitsAuthority File setting host_text parts = IsFileAuthority setting host_text parts
FitsAuthority Other setting host_text parts = IsOtherAuthority setting host_text parts

-- ---- the forms

-- the scheme of the text, otherwise the base's
abbrev pub scheme_in : Option Url → Parts → List ℕ
scheme_in base parts = scheme_or base parts.scheme

-- a path-absolute reference to a file base with a host doesn't begin with `/`, a drive letter and `/`, where the
-- profile asks for that
abbrev pub FitsDrive : Profile → Option Url → List ℕ → Type 0
FitsDrive profile None path = Unit {0}
FitsDrive profile (Some base) path =
    scheme_class base.scheme ≡ File → base.host ≢ Some Empty → IsWithoutDrive profile path

-- a host text with which what follows `//` fits the class
abbrev pub FitsHostText : Setting → Parts → Option (List ℕ) → Type 0
FitsHostText setting parts None = ⊥
FitsHostText setting parts (Some host_text) = FitsAuthority setting.class setting host_text parts

-- an authority has a host text, and what follows `//` fits the class
abbrev pub HasAuthority : Setting → Parts → Type 0
HasAuthority setting parts = FitsHostText setting parts parts.host_text

-- there is neither a host nor a port
pub record HasNoAuthority (parts : Parts) : Type 0 where
  pub host_text : parts.host_text ≡ None
  pub host : parts.host ≡ None
  pub port_text : parts.port_text ≡ None
  pub port : parts.port ≡ None

-- a path-relative string, also an empty one, which has no segments as an opaque path; under the parser's profile with
-- spaces too
abbrev pub IsOpaquePath : Profile → Bool → List ℕ → Type 0
IsOpaquePath Parser followed text = IsTakenSpacedPath followed text
IsOpaquePath _ followed text = (segments : List (List ℕ)) × IsPathRelative segments text

-- the host, the port and the path by the form
abbrev pub FitsForm : Setting → Form → Parts → Type 0
FitsForm setting SchemeAuthority parts = HasAuthority setting parts
FitsForm setting SchemePath parts =
    HasNoAuthority parts × (setting.class ≡ Other) × IsPathAbsolute parts.segments parts.path_text
FitsForm setting SchemeOpaque parts =
    HasNoAuthority parts × (setting.class ≡ Other)
    × IsOpaquePath setting.profile (is_followed (texts_of parts)) parts.path_text × (parts.segments ≡ [])
FitsForm setting Authority parts = HasAuthority setting parts
FitsForm setting PathAbsolute parts =
    HasNoAuthority parts × IsPathAbsolute parts.segments parts.path_text
    × FitsDrive setting.profile setting.base parts.path_text
FitsForm setting PathRelative parts =
    HasNoAuthority parts × IsPathRelative parts.segments parts.path_text × (parts.path_text ≢ [])
    × (starts_with_scheme parts.path_text ≡ false)
FitsForm setting NoPath parts = HasNoAuthority parts × (parts.path_text ≡ []) × (parts.segments ≡ [])

-- a scheme where the form has one
abbrev pub FitsScheme : Bool → Option (List ℕ) → Type 0
FitsScheme true (Some scheme) = is_scheme scheme ≡ true
FitsScheme true None = ⊥
FitsScheme false scheme = scheme ≡ None

-- a text without a scheme has a base, which has a path of segments, or otherwise the text is `#` and a fragment
abbrev pub FitsBase : Option Url → Parts → Type 0
FitsBase None parts = IsSome parts.scheme
FitsBase (Some base) parts =
    IsSome parts.scheme ⊎ ((is_opaque base.path ≡ false)
    ⊎ ((parts.form ≡ NoPath) × (parts.query ≡ None) × IsSome parts.fragment))

-- an absent text, or URL units
abbrev pub MayBeUnits : Option (List ℕ) → Type 0
MayBeUnits None = Unit {0}
MayBeUnits (Some text) = IsUnits text

-- The parts of the parser's profile are the parts of the text's cut. Under the other profiles they are so anyway.
abbrev pub FitsCut : Profile → Option Url → List ℕ → Parts → Type 0
FitsCut Parser base text parts = IsCut base text (texts_of parts)
FitsCut _ base text parts = Unit {0}

-- the text is valid under the profile, against the base, with these parts
pub record Valid (profile : Profile) (base : Option Url) (text : List ℕ) (parts : Parts) : Type 0 where
  pub whole : text ≡ written parts
  pub cut : FitsCut profile base text parts
  pub scheme : FitsScheme (has_scheme parts.form) parts.scheme
  pub against : FitsBase base parts
  pub form : FitsForm (setting_of profile base parts.scheme) parts.form parts
  pub query : MayBeUnits parts.query
  pub fragment : MayBeUnits parts.fragment
