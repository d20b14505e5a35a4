-- The differences between the valid texts of the parser's profile, on which the URL parser (URL Standard, section 4.4)
-- is silent, and valid URL strings (sections 3.4 and 4.3), each by its name, and the law that there are no others.
use Rattle.std.specs.Prelude.{◌≡◌, ◌≢◌, ℕ, ◌<◌, ◌⊎◌, true, false, List, [], length, Option, Some, IsSome}
use Rattle.uv_model.specs.declared.profile.Profile.TheVariants.{Standard, Parser}
use Rattle.uv_model.specs.declared.host.Host.{Host}
use Rattle.uv_model.specs.declared.host.Host.TheVariants.{Domain, V4}
use Rattle.uv_model.specs.declared.scheme.Class.TheVariants.{File, Other}
use Rattle.uv_model.specs.Ascii.{space}
use Rattle.uv_model.specs.Violations.Violation.{HasHost}
use Rattle.uv_model.specs.Cut.{class_in, starts_with_two_slashes}
use Rattle.uv_model.specs.Hosts.Domain.{has_lengths, has_permitted, strict_form}
use Rattle.uv_model.specs.Hosts.Numbers.{AreNumbers, IsNumbersText}
use Rattle.uv_model.specs.Parts.{Parts}
use Rattle.uv_model.specs.Path.{is_without, starts_with_drive_segment}
use Rattle.uv_model.specs.Records.Url.{Url}
use Rattle.uv_model.specs.Valid.{IsHostText, Valid}

-- ---- the host of a special URL or of a file URL

-- an ASCII code point of the text isn't a letter, digit, hyphen or full stop, as `_` or the `%` of an escape (section
-- 3.4)
abbrev pub HasForeignDomainCodePoint : List ℕ → Type 0
HasForeignDomainCodePoint text = has_permitted Standard text ≡ false

-- ToASCII at the strict settings doesn't give the form, as where a label begins with a hyphen, or where a code point is
-- mapped to a foreign one (section 3.4; UTS #46, section 4)
abbrev pub LacksStrictForm : List ℕ → List ℕ → Type 0
LacksStrictForm text form = strict_form text ≢ Some form

-- a label of the form is empty or too long, or the whole form is (UTS #46, section 4)
abbrev pub HasWrongLengths : List ℕ → Type 0
HasWrongLengths form = has_lengths form ≡ false

-- the text, of which an IPv4 address is made, isn't one to four numbers itself: it is mapped to such (section 3.5)
abbrev pub IsMappedToIpv4 : List ℕ → Type 0
IsMappedToIpv4 text = (value : ℕ) → ¬ (IsNumbersText text value)

-- the text is fewer than the four numbers of a valid IPv4 text, as `1.2.3` (section 3.4)
abbrev pub HasFewerNumbers : List ℕ → Type 0
HasFewerNumbers text = (numbers : List ℕ) × AreNumbers numbers text × (length numbers < 4)

-- what a text with this host can have that a valid host text hasn't; an IPv6 text in brackets has nothing
abbrev pub HostDiffers : List ℕ → Host → Type 0
HostDiffers text (Domain form) = HasForeignDomainCodePoint text ⊎ (LacksStrictForm text form ⊎ HasWrongLengths form)
HostDiffers text (V4 value) = IsMappedToIpv4 text ⊎ HasFewerNumbers text
HostDiffers text _ = ⊥

-- The host text of a special URL or of a file URL is a host under the parser's profile, and no valid host text.
pub record HasForeignHost (base : Option Url) (parts : Parts) : Type 0 where
  pub class : class_in base parts.scheme ≢ Other
  pub text : List ℕ
  pub given : parts.host_text ≡ Some text
  pub host : Host
  pub taken : IsHostText Parser text host
  pub differs : HostDiffers text host

-- ---- the path

-- after an authority the path begins with an empty segment, so with `//` (section 4.3, path-absolute-URL string)
abbrev pub HasEmptyFirstSegment : Parts → Type 0
HasEmptyFirstSegment parts = IsSome parts.host_text × (starts_with_two_slashes parts.path_text ≡ true)

-- a file URL's path begins with a drive letter after a host: the text's, or without a scheme and an authority the
-- base's (section 4.3, path-absolute-non-Windows-file-URL string)
abbrev pub HasDriveAfterHost : Option Url → Parts → Type 0
HasDriveAfterHost base parts =
    (class_in base parts.scheme ≡ File) × HasHost base parts.scheme parts.host_text
    × (starts_with_drive_segment parts.path_text ≡ true)

-- nothing follows the `//` of a file URL before its query and its fragment (section 4.3, scheme-relative-file-URL
-- string)
abbrev pub HasEmptyAuthority : Option Url → Parts → Type 0
HasEmptyAuthority base parts =
    (class_in base parts.scheme ≡ File) × (parts.host_text ≡ Some []) × (parts.path_text ≡ [])

-- the path has a space, which the parser leaves unreported only in an opaque path (sections 4.3 and 4.4)
abbrev pub HasSpaceInPath : Parts → Type 0
HasSpaceInPath parts = is_without space parts.path_text ≡ false

-- ---- the law

-- a difference of the two profiles
abbrev pub Differs : Option Url → Parts → Type 0
Differs base parts =
    HasForeignHost base parts
    ⊎ (HasEmptyFirstSegment parts
    ⊎ (HasDriveAfterHost base parts ⊎ (HasEmptyAuthority base parts ⊎ HasSpaceInPath parts)))

-- A text on which the parser is silent is valid with the same parts, or it has a difference, and then it has no valid
-- parts.
pub record IsValidOrDiffers (base : Option Url) (text : List ℕ) (parts : Parts) : Type 0 where
  pub either : Valid Standard base text parts ⊎ Differs base parts
  pub never_both : Differs base parts → (other : Parts) → ¬ (Valid Standard base text other)

-- every text on which the parser is silent, against every base and none, is valid exactly when it has no difference
abbrev pub SilentTextsAreValidOrDiffer : Type 0
SilentTextsAreValidOrDiffer =
    (base : Option Url) (text : List ℕ) (parts : Parts) → Valid Parser base text parts
    → IsValidOrDiffers base text parts
