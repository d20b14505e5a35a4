-- Texts checked without memory: no form of a domain is made of the host, or the host is its own form, after the URL
-- Standard, sections 3.3 and 4.3.
use Rattle.std.specs.Prelude.{◌≡◌, ℕ, ◌⊎◌, true, false, List, [], Option, Some, None}
use Rattle.uv_model.specs.declared.profile.Profile.{Profile}
use Rattle.uv_model.specs.declared.profile.Profile.TheVariants.{Parser}
use Rattle.uv_model.specs.declared.rule.Rule.{Rule}
use Rattle.uv_model.specs.declared.scheme.Class.{Class}
use Rattle.uv_model.specs.declared.scheme.Class.TheVariants.{Other}
use Rattle.uv_model.specs.Violations.Violation.{StartViolation}
use Rattle.uv_model.specs.Cut.{Cut, cut_of}
use Rattle.uv_model.specs.Hosts.Address.{IsIpv4}
use Rattle.uv_model.specs.Hosts.Domain.{IsDomain, has_permitted}
use Rattle.uv_model.specs.Hosts.OpaqueHost.{starts_with_bracket}
use Rattle.uv_model.specs.Records.Url.{Url}
use Rattle.uv_model.specs.Setting.{Setting, setting_of}
use Rattle.uv_host.specs.Domains.{is_plain_name}

-- a plain name that is under the parser's profile a domain, which is its own form
abbrev pub IsPlainDomain : List ℕ → Type 0
IsPlainDomain text = (is_plain_name text ≡ true) × IsDomain Parser text text

-- the text begins with `[`, is an IPv4 text, has a code point that no domain of the profile holds, or is a plain name;
-- under the parser's profile a plain domain
abbrev pub MakesNoForm : Profile → List ℕ → Type 0
MakesNoForm Parser text =
    (starts_with_bracket text ≡ true)
    ⊎ (((value : ℕ) × IsIpv4 text value) ⊎ IsPlainDomain text)
MakesNoForm profile text =
    (starts_with_bracket text ≡ true)
    ⊎ (((value : ℕ) × IsIpv4 text value) ⊎ ((has_permitted profile text ≡ false) ⊎ (is_plain_name text ≡ true)))

-- the class is Other, or the host is empty or such a text
abbrev pub HostTakesNoMemory : Profile → Class → List ℕ → Type 0
HostTakesNoMemory profile class text = (class ≡ Other) ⊎ ((text ≡ []) ⊎ MakesNoForm profile text)

-- there is no host, or such a one
abbrev pub HostPartTakesNoMemory : Setting → Option (List ℕ) → Type 0
HostPartTakesNoMemory setting None = Unit {0}
HostPartTakesNoMemory setting (Some text) = HostTakesNoMemory setting.profile setting.class text

-- the start of the text violates a rule, so that no host is checked, or there is no host or such a one
abbrev pub TakesNoMemory : Setting → List ℕ → Cut → Type 0
TakesNoMemory setting text cut =
    ((place : ℕ) × (rule : Rule) × StartViolation setting text cut place rule)
    ⊎ HostPartTakesNoMemory setting cut.host_text

-- the text is checked against the base without memory
abbrev pub TakesNoMemoryAgainst : Profile → Option Url → List ℕ → Type 0
TakesNoMemoryAgainst profile base text =
    TakesNoMemory (setting_of profile base (cut_of base text).scheme) text (cut_of base text)
