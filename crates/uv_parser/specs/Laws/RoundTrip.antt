-- The round trip: the URL parser (URL Standard, section 4.4) makes of the text that the URL serializer (section 4.5)
-- writes of a URL that same URL.
use Rattle.std.specs.Prelude.{◌≡◌, ℕ, true, List, Option, Some, None}
use Rattle.uv_model.specs.declared.profile.Profile.{Profile}
use Rattle.uv_model.specs.declared.profile.Profile.TheVariants.{Parser}
use Rattle.uv_model.specs.declared.host.Host.{Host}
use Rattle.uv_model.specs.declared.host.Host.TheVariants.{Domain}
use Rattle.uv_model.specs.Parts.{Parts}
use Rattle.uv_model.specs.Records.Denote.{denote}
use Rattle.uv_model.specs.Records.Serialize.{serial}
use Rattle.uv_model.specs.Records.Url.{Url}
use Rattle.uv_model.specs.Records.WellFormed.{MayBeWellFormed, WellFormed}
use Rattle.uv_model.specs.Valid.{Valid}
use Rattle.uv_parser.specs.HostParser.{parse_host}
use Rattle.uv_parser.specs.Run.{Done, run, step_bound}

-- The host is a domain of which the host parser makes that domain, or it isn't one. A domain whose label begins with
-- `xn--` before what isn't Punycode isn't such a host: ToASCII fails on it.
abbrev pub IsStableHost : Option Host → Type 0
IsStableHost (Some (Domain form)) = parse_host true form ≡ Some (Domain form)
IsStableHost _ = Unit {0}

-- the URL has such a host
abbrev pub IsStable : Url → Type 0
IsStable url = IsStableHost url.host

-- no URL, or one that is stable, as a base is
abbrev pub MayBeStable : Option Url → Type 0
MayBeStable None = Unit {0}
MayBeStable (Some url) = IsStable url

-- ---- the laws

-- the parser makes of the URL's text the URL
abbrev pub IsReadBack : Url → Type 0
IsReadBack url = run None (serial url) (step_bound (serial url)) ≡ Done url

-- each stable URL that is well formed under the parser's profile is read back
abbrev pub StableUrlsAreReadBack : Type 0
StableUrlsAreReadBack = (url : Url) → WellFormed Parser url → IsStable url → IsReadBack url

-- The URL with which a run is done, alone or against a stable base that is well formed under the parser's profile, is
-- such a URL again, and so it is read back.
pub record ParsedUrlsAreReadBack : Type 0 where
  pub well_formed :
      (base : Option Url) (text : List ℕ) (url : Url) → MayBeWellFormed Parser base
      → run base text (step_bound text) ≡ Done url → WellFormed Parser url
  pub stable :
      (base : Option Url) (text : List ℕ) (url : Url) → MayBeWellFormed Parser base → MayBeStable base
      → run base text (step_bound text) ≡ Done url → IsStable url
  pub read_back :
      (base : Option Url) (text : List ℕ) (url : Url) → MayBeWellFormed Parser base → MayBeStable base
      → run base text (step_bound text) ≡ Done url → IsReadBack url

-- what a valid text of any profile denotes is stable, and it is read back
pub record DenotedUrlsAreReadBack : Type 0 where
  pub stable :
      (profile : Profile) (base : Option Url) (text : List ℕ) (parts : Parts) → MayBeStable base
      → Valid profile base text parts
      → IsStable (denote base parts)
  pub read_back :
      (profile : Profile) (base : Option Url) (text : List ℕ) (parts : Parts) → MayBeWellFormed Parser base
      → MayBeStable base → Valid profile base text parts → IsReadBack (denote base parts)
