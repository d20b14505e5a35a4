-- The violations of a text by a profile, against a base: which rule its cut violates at which place, after the URL
-- Standard, sections 3.4 and 4.3.
use Rattle.std.specs.Prelude.{◌≡◌, ◌≢◌, ℕ, ◌+◌, ◌<◌, ◌⊎◌, Bool, true, false, not, ◌&&◌, ◌||◌, ◌==◌, List, [], ◌∷◌}
use Rattle.std.specs.Prelude.{drop, Option, Some, None, IsSome, is_some, if◌then◌else◌}
use Rattle.std.specs.List.{list_all}
use Rattle.std.specs.Char.{is_ascii_digit}
use Rattle.std.specs.Str.Parse.{digits_value}
use Rattle.uv_model.specs.declared.profile.Profile.{Profile}
use Rattle.uv_model.specs.declared.profile.Profile.TheVariants.{Standard, Parser}
use Rattle.uv_model.specs.declared.scheme.Class.{Class}
use Rattle.uv_model.specs.declared.scheme.Class.TheVariants.{SpecialNotFile, File, Other}
use Rattle.uv_model.specs.declared.host.Host.TheVariants.{Empty}
use Rattle.uv_model.specs.declared.rule.Refusal.{Refusal}
use Rattle.uv_model.specs.declared.rule.Rule.{Rule}
use Rattle.uv_model.specs.declared.rule.Rule.TheVariants.{NoScheme, OpaqueBase, TwoSlashes, HostMissing, HostDomain}
use Rattle.uv_model.specs.declared.rule.Rule.TheVariants.{HostNumber, HostIpv6, PortDigit, PortRange}
use Rattle.uv_model.specs.declared.rule.Rule.TheVariants.{FirstSegmentEmpty, DriveAfterHost}
use Rattle.uv_model.specs.Hosts.Numbers.{IsIpv4Text}
use Rattle.uv_model.specs.Ascii.{number_sign}
use Rattle.uv_model.specs.Cut.{Cut, cut_of, starts_with_two_slashes, scheme_end, host_place, port_place, path_place}
use Rattle.uv_model.specs.Cut.{query_place, fragment_place, ends_at_host, is_followed}
use Rattle.uv_model.specs.Hosts.Domain.{IsNumberText, HasNoForm}
use Rattle.uv_model.specs.Hosts.OpaqueHost.{starts_with_bracket}
use Rattle.uv_model.specs.Hosts.StoppedHost.{is_stopped}
use Rattle.uv_model.specs.Violations.OpaqueHostViolation.{IsBadIpv6, OpaqueHostViolation}
use Rattle.uv_model.specs.Path.{starts_with_slash, starts_with_drive_segment}
use Rattle.uv_model.specs.Setting.{Setting, setting_of}
use Rattle.uv_model.specs.Violations.UnitViolation.{PathUnitViolation, UnitViolation}
use Rattle.uv_model.specs.Records.Url.{Url, is_opaque}

-- ---- before any part: a scheme, a base and `//`

-- the text begins with `#`
abbrev pub starts_with_number_sign : List ℕ → Bool
starts_with_number_sign [] = false
starts_with_number_sign (c ∷ rest) = c == number_sign

-- the base has an opaque path
abbrev pub HasOpaquePath : Option Url → Type 0
HasOpaquePath None = ⊥
HasOpaquePath (Some base) = is_opaque base.path ≡ true

-- a scheme other than of class Other, without the `//` that it needs
abbrev pub LacksSlashes : Setting → Cut → Type 0
LacksSlashes setting cut = IsSome cut.scheme × (setting.class ≢ Other) × (cut.host_text ≡ None)

-- the first of the two code points after a scheme and `:` that isn't `/`, or the text's end
abbrev pub slashes_place : Cut → ℕ
slashes_place cut = scheme_end cut + (if starts_with_slash cut.path_text then 1 else 0)

-- the rules under which no host, port and path start is checked
abbrev pub StartViolation : Setting → List ℕ → Cut → ℕ → Rule → Type 0
StartViolation setting text cut place NoScheme = (cut.scheme ≡ None) × (setting.base ≡ None) × (place ≡ 0)
StartViolation setting text cut place OpaqueBase =
    (cut.scheme ≡ None) × HasOpaquePath setting.base × (starts_with_number_sign text ≡ false) × (place ≡ 0)
StartViolation setting text cut place TwoSlashes = LacksSlashes setting cut × (place ≡ slashes_place cut)
StartViolation setting text cut place _ = ⊥

-- ---- the host, by the class; places count from its first code point

-- the text isn't empty, doesn't begin with `[` and isn't an IPv4 text, so that it should be a domain
pub record ShouldBeDomain (profile : Profile) (text : List ℕ) : Type 0 where
  pub some : text ≢ []
  pub no_bracket : starts_with_bracket text ≡ false
  pub no_ipv4 : (value : ℕ) → ¬ (IsIpv4Text profile text value)

-- a text that isn't empty and doesn't begin with `[`, at which the parser stops
pub record IsStoppedName (profile : Profile) (class : Class) (last : Bool) (text : List ℕ) : Type 0 where
  pub some : text ≢ []
  pub no_bracket : starts_with_bracket text ≡ false
  pub stopped : is_stopped profile class last text ≡ true

-- The rules of the host of a URL of class SpecialNotFile or File, but for the rule of a missing host; `last` says that
-- nothing
-- of the text follows the host.
abbrev pub HostTextViolation : Profile → Class → Bool → List ℕ → Rule → Type 0
HostTextViolation profile class last host_text HostDomain =
    IsStoppedName profile class last host_text ⊎ (ShouldBeDomain profile host_text × HasNoForm profile host_text)
HostTextViolation profile class last host_text HostNumber =
    (is_stopped profile class last host_text ≡ false) × ShouldBeDomain profile host_text
    × IsNumberText profile host_text
HostTextViolation profile class last host_text HostIpv6 = IsBadIpv6 host_text
HostTextViolation profile class last host_text _ = ⊥

-- no path follows the empty host of a file URL, where the profile asks for one
abbrev pub LacksFileHost : Profile → List ℕ → List ℕ → Type 0
LacksFileHost Parser host_text path_text = ⊥
LacksFileHost _ host_text path_text = (host_text ≡ []) × (starts_with_slash path_text ≡ false)

-- The host is missing: in class SpecialNotFile wherever it is empty, in class File if no path follows it, and otherwise
-- where a port follows it.
abbrev pub LacksHost : Profile → Class → List ℕ → Option (List ℕ) → List ℕ → Type 0
LacksHost profile SpecialNotFile host_text port_text path_text = host_text ≡ []
LacksHost profile File host_text port_text path_text = LacksFileHost profile host_text path_text
LacksHost profile Other host_text port_text path_text = (host_text ≡ []) × IsSome port_text

-- the rules of a host by what it holds
abbrev pub HostContentViolation : Profile → Class → Bool → List ℕ → ℕ → Rule → Type 0
HostContentViolation profile Other last host_text place rule = OpaqueHostViolation host_text place rule
HostContentViolation profile class last host_text place rule =
    HostTextViolation profile class last host_text rule × (place ≡ 0)

-- the rules of a host
abbrev pub HostViolation : Profile → Class → Bool → List ℕ → Option (List ℕ) → List ℕ → ℕ → Rule → Type 0
HostViolation profile class last host_text port_text path_text place HostMissing =
    LacksHost profile class host_text port_text path_text × (place ≡ 0)
HostViolation profile class last host_text port_text path_text place rule =
    HostContentViolation profile class last host_text place rule

-- ---- the port; places count from its first code point

-- at the place is a code point that isn't a digit
pub record HasForeignDigit (text : List ℕ) (place : ℕ) : Type 0 where
  pub code_point : ℕ
  pub rest : List ℕ
  pub here : drop place text ≡ code_point ∷ rest
  pub foreign : is_ascii_digit code_point ≡ false

-- only digits, which denote more than 65535
pub record IsTooLarge (text : List ℕ) : Type 0 where
  pub digits : list_all is_ascii_digit text ≡ true
  pub large : 65535 < digits_value 10 text

-- the rules of a port
abbrev pub PortViolation : List ℕ → ℕ → Rule → Type 0
PortViolation port_text place PortDigit = HasForeignDigit port_text place
PortViolation port_text place PortRange = IsTooLarge port_text × (place ≡ 0)
PortViolation port_text place _ = ⊥

-- ---- the start of the path; places count from its first code point

-- a host that keeps a drive letter out of the path: the text's, or without a scheme and an authority the base's
abbrev pub HasHost : Option Url → Option (List ℕ) → Option (List ℕ) → Type 0
HasHost base scheme (Some host_text) = host_text ≢ []
HasHost (Some url) None None = url.host ≢ Some Empty
HasHost _ _ None = ⊥

-- an empty first segment that isn't the only one, where the profile forbids it
abbrev pub HasEmptyFirst : Profile → List ℕ → Type 0
HasEmptyFirst Standard path_text = starts_with_two_slashes path_text ≡ true
HasEmptyFirst _ path_text = ⊥

-- `/`, a drive letter and `/` at the start, where the profile forbids it
abbrev pub HasDrive : Profile → List ℕ → Type 0
HasDrive Parser path_text = ⊥
HasDrive _ path_text = starts_with_drive_segment path_text ≡ true

-- the rules of the start of a path
abbrev pub PathStartViolation : Setting → Cut → ℕ → Rule → Type 0
PathStartViolation setting cut place FirstSegmentEmpty =
    HasEmptyFirst setting.profile cut.path_text × (place ≡ 1)
PathStartViolation setting cut place DriveAfterHost =
    (setting.class ≡ File) × HasHost setting.base cut.scheme cut.host_text
    × HasDrive setting.profile cut.path_text × (place ≡ 0)
PathStartViolation setting cut place _ = ⊥

-- ---- the whole text

-- the violations of a part that begins after so many code points
pub record After (start : ℕ) (violation : ℕ → Rule → Type 0) (place : ℕ) (rule : Rule) : Type 0 where
  pub inner : ℕ
  pub moved : place ≡ start + inner
  pub holds : violation inner rule

-- the refusal of a part that begins after so many code points
abbrev pub refusal_after : ℕ → Refusal → Refusal
refusal_after start refusal = record { place = start + refusal.place; rule = refusal.rule }

-- the fault of such a part, if there is one
abbrev pub fault_after : ℕ → Option Refusal → Option Refusal
fault_after start None = None
fault_after start (Some refusal) = Some (refusal_after start refusal)

-- the violations of the host, where there is an authority
abbrev pub HostPartViolation : Setting → Cut → ℕ → Rule → Type 0
HostPartViolation setting cut place rule = of_host cut.host_text
  where
    of_host : Option (List ℕ) → Type 0
    of_host None = ⊥
    of_host (Some host_text) =
        After (host_place cut)
        (HostViolation setting.profile setting.class (ends_at_host cut) host_text cut.port_text cut.path_text) place
        rule

-- the violations of the port, where there is one
abbrev pub PortPartViolation : Cut → ℕ → Rule → Type 0
PortPartViolation cut place rule = of_port cut.host_text cut.port_text
  where
    of_port : Option (List ℕ) → Option (List ℕ) → Type 0
    of_port (Some host_text) (Some port_text) = After (port_place host_text cut) (PortViolation port_text) place rule
    of_port _ _ = ⊥

-- the violations of the parts that are checked if no rule of the start is violated
abbrev pub CheckedViolation : Setting → Cut → ℕ → Rule → Type 0
CheckedViolation setting cut place rule =
    HostPartViolation setting cut place rule ⊎ (PortPartViolation cut place rule
    ⊎ After (path_place cut) (PathStartViolation setting cut) place rule)

-- the violations of a text that may be absent, by what it holds
abbrev pub MayBeUnitViolation : ℕ → Option (List ℕ) → ℕ → Rule → Type 0
MayBeUnitViolation start None place rule = ⊥
MayBeUnitViolation start (Some text) place rule = After start (UnitViolation text) place rule

-- the path is opaque: after a scheme of class Other without an authority, and it doesn't begin with `/`
abbrev pub has_opaque_path : Class → Cut → Bool
has_opaque_path Other cut =
    is_some cut.scheme && not (is_some cut.host_text || starts_with_slash cut.path_text)
has_opaque_path _ cut = false

-- the violations of the path by what it holds
abbrev pub PathContentViolation : Setting → Cut → ℕ → Rule → Type 0
PathContentViolation setting cut place rule =
    PathUnitViolation setting.profile (has_opaque_path setting.class cut) (is_followed cut) cut.path_text place rule

-- the violations of the path, the query and the fragment by what they hold
abbrev pub ContentViolation : Setting → Cut → ℕ → Rule → Type 0
ContentViolation setting cut place rule =
    After (path_place cut) (PathContentViolation setting cut) place rule
    ⊎ (MayBeUnitViolation (query_place cut) cut.query place rule
    ⊎ MayBeUnitViolation (fragment_place cut) cut.fragment place rule)

-- no rule of the start is violated
abbrev pub IsStarted : Setting → List ℕ → Cut → Type 0
IsStarted setting text cut = (place : ℕ) (rule : Rule) → ¬ (StartViolation setting text cut place rule)

-- the text with this cut violates the rule at the place
abbrev pub ViolationOf : Setting → List ℕ → Cut → ℕ → Rule → Type 0
ViolationOf setting text cut place rule =
    StartViolation setting text cut place rule
    ⊎ ((IsStarted setting text cut × CheckedViolation setting cut place rule) ⊎ ContentViolation setting cut place rule)

-- the text, against the base, violates the rule of the profile at the place
unfoldable pub Violation : Profile → Option Url → List ℕ → ℕ → Rule → Type 0
Violation profile base text place rule =
    let cut = cut_of base text in ViolationOf (setting_of profile base cut.scheme) text cut place rule
