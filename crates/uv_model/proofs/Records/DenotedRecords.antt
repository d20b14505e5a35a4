-- What a valid text denotes is well formed, form by form.
use Rattle.std.proofs.Common.{◌≡◌, ℕ, Bool, true, false, not, ◌&&◌, List, [], ◌∷◌, Option, Some, None, refl, sym, subst}
use Rattle.std.proofs.Common.{inl, inr}
use Rattle.std.specs.Prelude.{option_map}
use Rattle.std.proofs.lemmas.Bool.{cases_Bool, false≢true}
use Rattle.uv_model.specs.declared.profile.Profile.{Profile}
use Rattle.uv_model.specs.declared.profile.Profile.TheVariants.{Standard, Wide, Parser}
use Rattle.uv_model.specs.declared.scheme.Class.{Class}
use Rattle.uv_model.specs.declared.scheme.Class.TheVariants.{SpecialNotFile, File, Other}
use Rattle.uv_model.specs.declared.host.Host.{Host}
use Rattle.uv_model.specs.declared.path.UrlPath.{UrlPath}
use Rattle.uv_model.specs.declared.path.UrlPath.TheVariants.{Opaque, Segments}
use Rattle.uv_model.specs.Records.Denote.{authority_host, authority_path, denote, denoted_host, denoted_path}
use Rattle.uv_model.specs.Records.Denote.{denoted_port, denoted_query, denoted_scheme, end_escaped, has_tail}
use Rattle.uv_model.specs.Records.Denote.{kept_drive}
use Rattle.uv_model.specs.Records.Denote.{listed_segments}
use Rattle.uv_model.specs.Encoding.{encoded}
use Rattle.uv_model.specs.Parts.{Form, Parts, SchemeAuthority, SchemePath, SchemeOpaque, Authority, PathAbsolute}
use Rattle.uv_model.specs.Parts.{PathRelative, NoPath, has_scheme}
use Rattle.uv_model.specs.Scheme.{default_port, is_scheme, lowercase, scheme_class}
use Rattle.uv_model.specs.Setting.{setting_of}
use Rattle.uv_model.specs.Records.Url.{Url}
use Rattle.uv_model.specs.Valid.{FitsBase, FitsForm, FitsScheme, HasAuthority, IsOpaquePath, MayBeUnits, Valid}
use Rattle.uv_model.specs.Valid.{scheme_in}
use Rattle.uv_model.specs.Records.WellFormed.{AreUrlSegments, IsUrlHost, IsUrlOpaquePath, IsUrlPath, IsUrlPort}
use Rattle.uv_model.specs.Records.WellFormed.{IsUrlQuery}
use Rattle.uv_model.specs.Records.WellFormed.{IsUrlScheme, MayBeWellFormed, WellFormed}
use Rattle.uv_model.specs.Laws.Wholes.{DenotedRecordsAreWellFormed}
use Rattle.uv_model.specs.Path.{IsPathAbsolute, IsPathRelative, is_drive_letter, is_normalized_drive_letter, shorten}
use Rattle.uv_model.proofs.Cuts.AuthorityLemmas.{IsAuthority, IsAuthority-fits, IsUrlPath-authority, IsUrlPath-joined}
use Rattle.uv_model.proofs.Paths.OpaquePaths.{end_escaped-opaque}
use Rattle.uv_model.proofs.Paths.WalkLemmas.{AreUrlSegments-shorten}
use Rattle.uv_model.proofs.SchemeLemmas.{default_port-lowercase, is_scheme-lowercase, no_uppercase-lowercase}
use Rattle.uv_model.proofs.SchemeLemmas.{scheme_class-lowercase}
use Rattle.uv_model.proofs.Hosts.ParserTexts.{wide_texts_are_parsers}
use Rattle.uv_model.proofs.Hosts.StandardTexts.{standard_texts_are_wide}
use Rattle.uv_model.proofs.Paths.SpacedPaths.{spaced_path_encoded}
use Rattle.uv_model.proofs.Records.WellFormedLemmas.{IsUnspacedPath-encoded, IsUrlFragment-encoded, IsUrlQuery-encoded}

-- the scheme of a text in lower case
IsUrlScheme-lowercase : (scheme : List ℕ) → is_scheme scheme ≡ true → IsUrlScheme (lowercase scheme)
IsUrlScheme-lowercase scheme is =
    record { spelled = is_scheme-lowercase scheme is; lower = no_uppercase-lowercase scheme }

-- a denoted scheme has the class of the scheme that the text is read by
pub class-denoted : (base : Option Url) (parts : Parts) (scheme : Option (List ℕ)) → parts.scheme ≡ scheme
    → scheme_class (scheme_in base parts) ≡ scheme_class (denoted_scheme base parts.scheme)
class-denoted base parts (Some scheme) e = rw e (sym (scheme_class-lowercase scheme))
class-denoted (Some url) parts None e = rw e refl
class-denoted None parts None e = rw e refl

-- the scheme of a form that has one
pub IsUrlScheme-own : (base : Option Url) (scheme : Option (List ℕ)) → FitsScheme true scheme
    → IsUrlScheme (denoted_scheme base scheme)
IsUrlScheme-own base (Some scheme) fits = IsUrlScheme-lowercase scheme fits
IsUrlScheme-own base None fits = absurd fits

-- the query where the text has one, or the form another than the empty path
pub IsUrlQuery-own : (base : Option Url) (class : Class) (form : Form) (query : Option (List ℕ)) → MayBeUnits query
    → (form ≡ NoPath → query ≡ None → IsUrlQuery class (denoted_query base class NoPath None))
    → IsUrlQuery class (denoted_query base class form query)
IsUrlQuery-own base class form (Some query) units kept = IsUrlQuery-encoded class query units
IsUrlQuery-own base class NoPath None units kept = kept refl refl
IsUrlQuery-own base class _ None units kept = tt

-- the URL that the parts denote, read as of this form
abbrev pub denote_as : Option Url → Form → Parts → Url
denote_as base form parts =
    let class = scheme_class (scheme_in base parts) in
    record {
      scheme = denoted_scheme base parts.scheme;
      host = denoted_host base form parts;
      port = denoted_port base form parts;
      path = denoted_path base class form parts;
      query = denoted_query base class form parts.query;
      fragment = option_map (encoded false) parts.fragment;
    }

-- what the forms differ in: all but the fragment, by the class that the text is read by
pub record AreDenoted (profile : Profile) (base : Option Url) (class : Class) (form : Form) (parts : Parts) : Type 0
  where
    pub scheme : IsUrlScheme (denoted_scheme base parts.scheme)
    pub host : IsUrlHost profile class (denoted_host base form parts)
    pub port :
        IsUrlPort (denoted_scheme base parts.scheme) (denoted_host base form parts) (denoted_port base form parts)
    pub path : IsUrlPath profile class (denoted_host base form parts) (denoted_path base class form parts)
    pub query : IsUrlQuery class (denoted_query base class form parts.query)

-- the whole record
pub WellFormed-denoted : (profile : Profile) (base : Option Url) (form : Form) (parts : Parts)
    → MayBeUnits parts.fragment → AreDenoted profile base (scheme_class (scheme_in base parts)) form parts
    → WellFormed profile (denote_as base form parts)
WellFormed-denoted profile base form parts units are =
    let class = scheme_class (scheme_in base parts) in
    let same = class-denoted base parts parts.scheme refl in
    let host : Option Host = denoted_host base form parts in
    let path : UrlPath = denoted_path base class form parts in
    record {
      scheme = are.scheme;
      host = subst (λ (k : Class). IsUrlHost profile k host) same are.host;
      port = are.port;
      path = subst (λ (k : Class). IsUrlPath profile k host path) same are.path;
      query = subst (λ (k : Class). IsUrlQuery k (denoted_query base class form parts.query)) same are.query;
      fragment = IsUrlFragment-encoded parts.fragment units;
    }

-- ---- an opaque path

-- what is denoted by an opaque path
IsUrlOpaquePath-denoted : (profile : Profile) (followed : Bool) (text : List ℕ) → IsOpaquePath profile followed text
    → IsUrlOpaquePath profile (encoded false (end_escaped followed text))
IsUrlOpaquePath-denoted Standard followed text (segments, path) =
    rw (end_escaped-opaque followed segments text path) (IsUnspacedPath-encoded segments text path)
IsUrlOpaquePath-denoted Wide followed text (segments, path) =
    rw (end_escaped-opaque followed segments text path) (IsUnspacedPath-encoded segments text path)
IsUrlOpaquePath-denoted Parser followed text path = spaced_path_encoded followed text path

AreDenoted-opaque : (profile : Profile) (base : Option Url) (parts : Parts) → FitsScheme true parts.scheme
    → FitsForm (setting_of profile base parts.scheme) SchemeOpaque parts
    → MayBeUnits parts.query → AreDenoted profile base (scheme_class (scheme_in base parts)) SchemeOpaque parts
AreDenoted-opaque profile base parts scheme fits query =
    record {
      scheme = IsUrlScheme-own base parts.scheme scheme;
      host = rw fits.1 tt;
      port = tt;
      path = (
        fits.1,
        refl,
        IsUrlOpaquePath-denoted profile (has_tail parts) parts.path_text fits.2,
      );
      query = IsUrlQuery-own base (scheme_class (scheme_in base parts)) SchemeOpaque parts.query query (λ e. absurd cc);
    }

-- ---- an authority

-- a denoted scheme has the same default port as the scheme that the text is read by
pub default_port-denoted : (base : Option Url) (parts : Parts) (scheme : Option (List ℕ)) → parts.scheme ≡ scheme
    → default_port (denoted_scheme base parts.scheme) ≡ default_port (scheme_in base parts)
default_port-denoted base parts (Some scheme) e = rw e (default_port-lowercase scheme)
default_port-denoted (Some url) parts None e = rw e refl
default_port-denoted None parts None e = rw e refl

-- schemes of one class and one default port have the same ports
pub IsUrlPort-same : (scheme other : List ℕ) (host : Option Host) (port : Option ℕ)
    → scheme_class scheme ≡ scheme_class other
    → default_port scheme ≡ default_port other → IsUrlPort other host port → IsUrlPort scheme host port
IsUrlPort-same scheme other host None class default is = tt
IsUrlPort-same scheme other host (Some port) class default is = (rw class is.0, rw default is.1, is.2)

-- what is after `//`, by the host text
IsAuthority-has : (profile : Profile) (base : Option Url) (parts : Parts) (text : Option (List ℕ))
    → HasAuthority (setting_of profile base parts.scheme) (record parts { host_text = text })
    → IsAuthority profile (scheme_class (scheme_in base parts)) (scheme_in base parts)
    (record parts { host_text = text })
IsAuthority-has profile base parts None fits = absurd fits
IsAuthority-has profile base parts (Some text) fits =
    IsAuthority-fits (scheme_class (scheme_in base parts)) (setting_of profile base parts.scheme)
    (scheme_in base parts) text (record parts { host_text = Some text }) refl refl refl fits

-- the host, the port and the path of a form with an authority
record AreOfAuthority (profile : Profile) (base : Option Url) (class : Class) (parts : Parts) : Type 0 where
  host : IsUrlHost profile class (authority_host parts)
  port : IsUrlPort (denoted_scheme base parts.scheme) (authority_host parts) parts.port
  path : IsUrlPath profile class (authority_host parts) (Segments (authority_path class parts.segments))

AreOfAuthority-has : (profile : Profile) (base : Option Url) (parts : Parts)
    → HasAuthority (setting_of profile base parts.scheme) parts
    → AreOfAuthority profile base (scheme_class (scheme_in base parts)) parts
AreOfAuthority-has profile base parts has =
    let class : Class = scheme_class (scheme_in base parts) in
    let is : IsAuthority profile class (scheme_in base parts) parts =
    IsAuthority-has profile base parts parts.host_text has in
    let same = sym (class-denoted base parts parts.scheme refl) in
    let default = default_port-denoted base parts parts.scheme refl in
    let scheme : List ℕ = denoted_scheme base parts.scheme in
    let port : IsUrlPort scheme (Some is.value) parts.port
    = IsUrlPort-same scheme (scheme_in base parts) (Some is.value) parts.port same default is.port
    in
    record {
      host = subst (λ (h : Option Host). IsUrlHost profile class h) (sym is.valued) is.host;
      port =
          subst (λ (h : Option Host). IsUrlPort (denoted_scheme base parts.scheme) h parts.port) (sym is.valued) port;
      path =
          subst (λ (h : Option Host). IsUrlPath profile class h (Segments (authority_path class parts.segments)))
          (sym is.valued)
          (IsUrlPath-authority profile class is.value parts.segments is.each);
    }

AreDenoted-scheme_authority : (profile : Profile) (base : Option Url) (parts : Parts) → FitsScheme true parts.scheme
    → HasAuthority (setting_of profile base parts.scheme) parts
    → MayBeUnits parts.query → AreDenoted profile base (scheme_class (scheme_in base parts)) SchemeAuthority parts
AreDenoted-scheme_authority profile base parts scheme fits query =
    let are = AreOfAuthority-has profile base parts fits in
    record {
      scheme = IsUrlScheme-own base parts.scheme scheme;
      host = are.host;
      port = are.port;
      path = are.path;
      query =
          IsUrlQuery-own base (scheme_class (scheme_in base parts)) SchemeAuthority parts.query query (λ e. absurd cc);
    }

-- ---- a path after a scheme

AreDenoted-path : (profile : Profile) (base : Option Url) (parts : Parts) → FitsScheme true parts.scheme
    → FitsForm (setting_of profile base parts.scheme) SchemePath parts
    → MayBeUnits parts.query → AreDenoted profile base (scheme_class (scheme_in base parts)) SchemePath parts
AreDenoted-path profile base parts scheme fits query =
    let class : Class = scheme_class (scheme_in base parts) in
    record {
      scheme = IsUrlScheme-own base parts.scheme scheme;
      host = rw fits.1 tt;
      port = tt;
      path = IsUrlPath-joined profile class None [] parts.segments fits.2.after tt fits.2.relative.joins;
      query = IsUrlQuery-own base class SchemePath parts.query query (λ e. absurd cc);
    }

-- ---- references

-- and is read by its class
class-reference : (url : Url) (parts : Parts) → parts.scheme ≡ None
    → scheme_class (scheme_in (Some url) parts) ≡ scheme_class url.scheme
class-reference url parts e = rw e refl

-- what a reference with an authority denotes, but for the class
AreDenoted-reference_authority : (profile : Profile) (url : Url) (parts : Parts) → WellFormed profile url
    → parts.scheme ≡ None
    → HasAuthority (setting_of profile (Some url) parts.scheme) parts → MayBeUnits parts.query
    → AreDenoted profile (Some url) (scheme_class (scheme_in (Some url) parts)) Authority parts
AreDenoted-reference_authority profile url parts base none fits query =
    let are = AreOfAuthority-has profile (Some url) parts fits in
    record {
      scheme = rw none base.scheme;
      host = are.host;
      port = are.port;
      path = are.path;
      query =
          IsUrlQuery-own (Some url) (scheme_class (scheme_in (Some url) parts)) Authority parts.query query
          (λ e. absurd cc);
    }

-- the segments of a base's path
AreUrlSegments-base : (profile : Profile) (class : Class) (host : Option Host) (path : UrlPath)
    → IsUrlPath profile class host path → AreUrlSegments (listed_segments path)
AreUrlSegments-base profile class host (Opaque text) is = tt
AreUrlSegments-base profile class host (Segments []) is = tt
AreUrlSegments-base profile class host (Segments (segment ∷ rest)) is = is

-- the drive letter that is kept of them
AreUrlSegments-kept_drive : (class : Class) (path segments : List (List ℕ)) → AreUrlSegments path
    → AreUrlSegments (kept_drive class path segments)
AreUrlSegments-kept_drive SpecialNotFile path segments are = tt
AreUrlSegments-kept_drive Other path segments are = tt
AreUrlSegments-kept_drive File [] segments are = tt
AreUrlSegments-kept_drive File (drive ∷ others) [] are = tt
AreUrlSegments-kept_drive File (drive ∷ others) (first ∷ rest) are =
    elim (cases_Bool (is_normalized_drive_letter drive && not (is_drive_letter first))) [
      | inl keeps ↦ rw keeps (are.0, tt)
      | inr drops ↦ rw drops tt
    ]

-- what a reference without an authority takes from its base
pub AreDenoted-reference : (profile : Profile) (url : Url) (form : Form) (parts : Parts) → WellFormed profile url
    → parts.scheme ≡ None
    → denoted_host (Some url) form parts ≡ url.host → denoted_port (Some url) form parts ≡ url.port
    → IsUrlPath profile (scheme_class url.scheme) url.host
    (denoted_path (Some url) (scheme_class url.scheme) form parts)
    → MayBeUnits parts.query → AreDenoted profile (Some url) (scheme_class (scheme_in (Some url) parts)) form parts
AreDenoted-reference profile url form parts base none host port path query =
    subst (λ (class : Class). AreDenoted profile (Some url) class form parts) (sym (class-reference url parts none))
    (record {
      scheme = rw none base.scheme;
      host = rw host base.host;
      port = rw (host, port, none) base.port;
      path = rw host path;
      query = IsUrlQuery-own (Some url) (scheme_class url.scheme) form parts.query query (λ is gone. base.query);
    })

-- the path of a path-absolute reference
pub IsUrlPath-absolute : (profile : Profile) (url : Url) (parts : Parts) → WellFormed profile url
    → IsPathAbsolute parts.segments parts.path_text
    → IsUrlPath profile (scheme_class url.scheme) url.host
    (denoted_path (Some url) (scheme_class url.scheme) PathAbsolute parts)
IsUrlPath-absolute profile url parts base path =
    let class : Class = scheme_class url.scheme in
    let segments : List (List ℕ) = listed_segments url.path in
    let start : AreUrlSegments (kept_drive class segments parts.segments)
    = AreUrlSegments-kept_drive class segments parts.segments
    (AreUrlSegments-base profile class url.host url.path base.path)
    in
    IsUrlPath-joined profile class url.host (kept_drive class segments parts.segments) parts.segments path.after start
    path.relative.joins

-- the path of a path-relative reference
IsUrlPath-relative : (profile : Profile) (url : Url) (parts : Parts) → WellFormed profile url
    → IsPathRelative parts.segments parts.path_text
    → IsUrlPath profile (scheme_class url.scheme) url.host
    (denoted_path (Some url) (scheme_class url.scheme) PathRelative parts)
IsUrlPath-relative profile url parts base path =
    let class : Class = scheme_class url.scheme in
    let segments : List (List ℕ) = listed_segments url.path in
    let start : AreUrlSegments (shorten class segments)
    = AreUrlSegments-shorten class segments (AreUrlSegments-base profile class url.host url.path base.path)
    in
    IsUrlPath-joined profile class url.host (shorten class segments) parts.segments parts.path_text start path.joins

-- ---- all forms

-- the forms without a scheme, against a base
AreDenoted-against : (profile : Profile) (url : Url) (form : Form) (parts : Parts) → WellFormed profile url
    → has_scheme form ≡ false
    → parts.scheme ≡ None
    → FitsForm (setting_of profile (Some url) parts.scheme) form parts → MayBeUnits parts.query
    → AreDenoted profile (Some url) (scheme_class (scheme_in (Some url) parts)) form parts
AreDenoted-against profile url SchemeAuthority parts base other none fits query = cc
AreDenoted-against profile url SchemePath parts base other none fits query = cc
AreDenoted-against profile url SchemeOpaque parts base other none fits query = cc
AreDenoted-against profile url Authority parts base other none fits query =
    AreDenoted-reference_authority profile url parts base none fits query
AreDenoted-against profile url PathAbsolute parts base other none fits query =
    AreDenoted-reference profile url PathAbsolute parts base none refl refl
    (IsUrlPath-absolute profile url parts base fits.1) query
AreDenoted-against profile url PathRelative parts base other none fits query =
    AreDenoted-reference profile url PathRelative parts base none refl refl
    (IsUrlPath-relative profile url parts base fits.1) query
AreDenoted-against profile url NoPath parts base other none fits query =
    AreDenoted-reference profile url NoPath parts base none refl refl base.path query

-- a text without a scheme has a base
AreDenoted-reference_form : (profile : Profile) (base : Option Url) (form : Form) (parts : Parts)
    → MayBeWellFormed profile base
    → has_scheme form ≡ false
    → parts.scheme ≡ None → FitsBase base parts → FitsForm (setting_of profile base parts.scheme) form parts
    → MayBeUnits parts.query
    → AreDenoted profile base (scheme_class (scheme_in base parts)) form parts
AreDenoted-reference_form profile None form parts base other none against fits query =
    absurd (false≢true (rw none at against))
AreDenoted-reference_form profile (Some url) form parts base other none against fits query =
    AreDenoted-against profile url form parts base other none fits query

-- each form
AreDenoted-form : (profile : Profile) (base : Option Url) (form : Form) (parts : Parts) → MayBeWellFormed profile base
    → FitsScheme (has_scheme form) parts.scheme → FitsBase base parts
    → FitsForm (setting_of profile base parts.scheme) form parts
    → MayBeUnits parts.query
    → AreDenoted profile base (scheme_class (scheme_in base parts)) form parts
AreDenoted-form profile base SchemeAuthority parts may scheme against fits query =
    AreDenoted-scheme_authority profile base parts scheme fits query
AreDenoted-form profile base SchemePath parts may scheme against fits query =
    AreDenoted-path profile base parts scheme fits query
AreDenoted-form profile base SchemeOpaque parts may scheme against fits query =
    AreDenoted-opaque profile base parts scheme fits query
AreDenoted-form profile base Authority parts may scheme against fits query =
    AreDenoted-reference_form profile base Authority parts may refl scheme against fits query
AreDenoted-form profile base PathAbsolute parts may scheme against fits query =
    AreDenoted-reference_form profile base PathAbsolute parts may refl scheme against fits query
AreDenoted-form profile base PathRelative parts may scheme against fits query =
    AreDenoted-reference_form profile base PathRelative parts may refl scheme against fits query
AreDenoted-form profile base NoPath parts may scheme against fits query =
    AreDenoted-reference_form profile base NoPath parts may refl scheme against fits query

-- what a valid text denotes against a base of the same profile is well formed
denoted_same : (profile : Profile) (base : Option Url) (text : List ℕ) (parts : Parts) → MayBeWellFormed profile base
    → Valid profile base text parts → WellFormed profile (denote base parts)
unfolding denote
denoted_same profile base text parts may valid =
    WellFormed-denoted profile base parts.form parts valid.fragment
    (AreDenoted-form profile base parts.form parts may valid.scheme valid.against valid.form valid.query)

-- against a base of the parser's profile it is a record of that profile
denoted_widest : (profile : Profile) (base : Option Url) (text : List ℕ) (parts : Parts) → MayBeWellFormed Parser base
    → Valid profile base text parts → WellFormed Parser (denote base parts)
denoted_widest Standard base text parts may valid =
    denoted_same Parser base text parts may
    (wide_texts_are_parsers base text parts (standard_texts_are_wide base text parts valid))
denoted_widest Wide base text parts may valid =
    denoted_same Parser base text parts may (wide_texts_are_parsers base text parts valid)
denoted_widest Parser base text parts may valid = denoted_same Parser base text parts may valid

-- what a valid text denotes is well formed
pub denoted_records_are_well_formed : DenotedRecordsAreWellFormed
denoted_records_are_well_formed = record { same = denoted_same; widest = denoted_widest }
