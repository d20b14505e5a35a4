-- Well-formed records: what the URL Standard, section 4.1, asks of a URL, and what the texts of each profile give.
use Rattle.std.specs.Prelude.{◌≡◌, ◌≢◌, ℕ, ◌<◌, ◌^◌, Bool, true, false, not, List, [], ◌∷◌, codes, Option, Some, None}
use Rattle.std.specs.List.{list_all}
use Rattle.std.specs.Char.{is_ascii, is_ascii_uppercase}
use Rattle.uv_model.specs.declared.profile.Profile.{Profile}
use Rattle.uv_model.specs.declared.profile.Profile.TheVariants.{Standard, Wide, Parser}
use Rattle.uv_model.specs.declared.scheme.Class.{Class}
use Rattle.uv_model.specs.declared.scheme.Class.TheVariants.{SpecialNotFile, File, Other}
use Rattle.uv_model.specs.declared.host.Host.{Host}
use Rattle.uv_model.specs.declared.host.Host.TheVariants as host
use Rattle.uv_model.specs.declared.path.UrlPath.{UrlPath}
use Rattle.uv_model.specs.declared.path.UrlPath.TheVariants.{Opaque, Segments}
use Rattle.uv_model.specs.Ascii.{question_mark, apostrophe}
use Rattle.uv_model.specs.Hosts.Address.{IsAddress}
use Rattle.uv_model.specs.Hosts.Domain.{ends_in_number, is_form_code_point}
use Rattle.uv_model.specs.Hosts.OpaqueHost.{IsOpaqueHost}
use Rattle.uv_model.specs.Path.{IsSegment, IsSpacedPath, ends_with_space, is_without, starts_with_slash}
use Rattle.uv_model.specs.Path.{is_single_dot, is_double_dot}
use Rattle.uv_model.specs.Scheme.{is_scheme, scheme_class}
use Rattle.uv_model.specs.Units.{IsUnits}
use Rattle.uv_model.specs.Records.Url.{Url}
use Rattle.uv_model.specs.Valid.{is_default_port}

-- ASCII alone
abbrev pub is_ascii_text : List ℕ → Bool
is_ascii_text text = list_all is_ascii text

-- an absent text, or ASCII
abbrev pub MayBeAscii : Option (List ℕ) → Type 0
MayBeAscii None = Unit {0}
MayBeAscii (Some text) = is_ascii_text text ≡ true

-- ASCII URL units
pub record IsAsciiUnits (text : List ℕ) : Type 0 where
  pub units : IsUnits text
  pub ascii : is_ascii_text text ≡ true

-- a URL-scheme string without upper case
pub record IsUrlScheme (scheme : List ℕ) : Type 0 where
  pub spelled : is_scheme scheme ≡ true
  pub lower : list_all (λ c. not (is_ascii_uppercase c)) scheme ≡ true

-- a domain: lower-case letters, digits and the profile's marks, at least one, and not ending in a number; under the
-- parser's profile ASCII without forbidden domain code points
pub record IsUrlDomain (profile : Profile) (form : List ℕ) : Type 0 where
  pub first : ℕ
  pub rest : List ℕ
  pub some : form ≡ first ∷ rest
  pub letters : list_all (is_form_code_point profile) form ≡ true
  pub name : ends_in_number form ≡ false

-- an opaque host: ASCII, units without forbidden host code points
pub record IsUrlOpaqueHost (text : List ℕ) : Type 0 where
  pub host : IsOpaqueHost text
  pub ascii : is_ascii_text text ≡ true

-- the host of a URL of class SpecialNotFile: a domain or an address
abbrev pub IsSpecialHost : Profile → Option Host → Type 0
IsSpecialHost profile (Some (host.Domain form)) = IsUrlDomain profile form
IsSpecialHost profile (Some (host.V4 value)) = IsAddress (host.V4 value)
IsSpecialHost profile (Some (host.V6 pieces)) = IsAddress (host.V6 pieces)
IsSpecialHost profile _ = ⊥

-- the host of a file URL: a domain but `localhost`, an address, or the empty host
abbrev pub IsFileHost : Profile → Option Host → Type 0
IsFileHost profile (Some (host.Domain form)) = IsUrlDomain profile form × (form ≢ codes "localhost")
IsFileHost profile (Some (host.V4 value)) = IsAddress (host.V4 value)
IsFileHost profile (Some (host.V6 pieces)) = IsAddress (host.V6 pieces)
IsFileHost profile (Some host.Empty) = Unit {0}
IsFileHost profile _ = ⊥

-- the host of any other URL: none, an opaque host, an IPv6 address, or the empty host
abbrev pub IsOtherHost : Option Host → Type 0
IsOtherHost None = Unit {0}
IsOtherHost (Some (host.Opaque text)) = IsUrlOpaqueHost text
IsOtherHost (Some (host.V6 pieces)) = IsAddress (host.V6 pieces)
IsOtherHost (Some host.Empty) = Unit {0}
IsOtherHost _ = ⊥

-- the host by the class of the scheme
abbrev pub IsUrlHost : Profile → Class → Option Host → Type 0
IsUrlHost profile SpecialNotFile host = IsSpecialHost profile host
IsUrlHost profile File host = IsFileHost profile host
IsUrlHost profile Other host = IsOtherHost host

-- a host that a port may follow
abbrev pub takes_port : Class → Option Host → Bool
takes_port File host = false
takes_port _ None = false
takes_port _ (Some host.Empty) = false
takes_port _ (Some _) = true

-- no port, or one of 16 bits after a host that isn't the scheme's default
abbrev pub IsUrlPort : List ℕ → Option Host → Option ℕ → Type 0
IsUrlPort scheme host None = Unit {0}
IsUrlPort scheme host (Some port) =
    (takes_port (scheme_class scheme) host ≡ true) × (is_default_port scheme port ≡ false) × (port < 2 ^ 16)

-- ASCII URL units without `?` that don't begin with `/`
pub record IsUnspacedPath (text : List ℕ) : Type 0 where
  pub units : IsAsciiUnits text
  pub no_question_mark : is_without question_mark text ≡ true
  pub start : starts_with_slash text ≡ false

-- ASCII with spaces too, of which none is the last code point, where the parser would remove it
pub record IsEncodedSpacedPath (text : List ℕ) : Type 0 where
  pub spaced : IsSpacedPath text
  pub ascii : is_ascii_text text ≡ true
  pub end : ends_with_space text ≡ false

-- an opaque path under the profile
abbrev pub IsUrlOpaquePath : Profile → List ℕ → Type 0
IsUrlOpaquePath Parser text = IsEncodedSpacedPath text
IsUrlOpaquePath _ text = IsUnspacedPath text

-- a segment of a path: ASCII units without `/` and `?`, and no dot segment
pub record IsUrlSegment (segment : List ℕ) : Type 0 where
  pub units : IsSegment segment
  pub ascii : is_ascii_text segment ≡ true
  pub no_single_dot : is_single_dot segment ≡ false
  pub no_double_dot : is_double_dot segment ≡ false

-- each is a segment of a path
abbrev pub AreUrlSegments : List (List ℕ) → Type 0
AreUrlSegments [] = Unit {0}
AreUrlSegments (segment ∷ rest) = IsUrlSegment segment × AreUrlSegments rest

-- the path may be empty in class Other after a host alone
abbrev pub may_be_empty : Class → Option Host → Bool
may_be_empty Other (Some host) = true
may_be_empty _ _ = false

-- the segments of a path
abbrev pub AreSegmentsOf : Class → Option Host → List (List ℕ) → Type 0
AreSegmentsOf class host [] = may_be_empty class host ≡ true
AreSegmentsOf class host (segment ∷ rest) = AreUrlSegments (segment ∷ rest)

-- a path of segments, or in class Other without a host an opaque one
abbrev pub IsUrlPath : Profile → Class → Option Host → UrlPath → Type 0
IsUrlPath profile class host (Segments segments) = AreSegmentsOf class host segments
IsUrlPath profile class host (Opaque text) = (class ≡ Other) × (host ≡ None) × IsUrlOpaquePath profile text

-- an absent query, or ASCII units, in class SpecialNotFile and File without `'`
abbrev pub IsUrlQuery : Class → Option (List ℕ) → Type 0
IsUrlQuery class None = Unit {0}
IsUrlQuery Other (Some query) = IsAsciiUnits query
IsUrlQuery _ (Some query) = IsAsciiUnits query × (is_without apostrophe query ≡ true)

-- an absent fragment, or ASCII units
abbrev pub IsUrlFragment : Option (List ℕ) → Type 0
IsUrlFragment None = Unit {0}
IsUrlFragment (Some fragment) = IsAsciiUnits fragment

-- the record is well formed, under the profile
pub record WellFormed (profile : Profile) (url : Url) : Type 0 where
  pub scheme : IsUrlScheme url.scheme
  pub host : IsUrlHost profile (scheme_class url.scheme) url.host
  pub port : IsUrlPort url.scheme url.host url.port
  pub path : IsUrlPath profile (scheme_class url.scheme) url.host url.path
  pub query : IsUrlQuery (scheme_class url.scheme) url.query
  pub fragment : IsUrlFragment url.fragment

-- an absent record, or a well-formed one, as a base is
abbrev pub MayBeWellFormed : Profile → Option Url → Type 0
MayBeWellFormed profile None = Unit {0}
MayBeWellFormed profile (Some url) = WellFormed profile url

-- ---- laws

-- a record that is well formed under the standard profile is so under the wide profile
abbrev pub StandardRecordsAreWide : Type 0
StandardRecordsAreWide = (url : Url) → WellFormed Standard url → WellFormed Wide url

-- and one that is so under the wide profile is so under the parser's profile
abbrev pub WideRecordsAreParsers : Type 0
WideRecordsAreParsers = (url : Url) → WellFormed Wide url → WellFormed Parser url
