-- The round trip: the parser makes of the serialized text of a stable URL that is well formed by its profile that URL,
-- and what a valid text denotes and what a run gives is such a URL.
use Rattle.std.proofs.Common.{◌≡◌, ℕ, false, List, ◌∷◌, [], Option, Some, None, refl, sym, ap, subst, ◌∙◌, inl, inr}
use Rattle.std.proofs.lemmas.Bool.{false≢true}
use Rattle.uv_model.specs.declared.profile.Profile.{Profile}
use Rattle.uv_model.specs.declared.profile.Profile.TheVariants.{Parser}
use Rattle.uv_model.specs.declared.scheme.Class.{Class}
use Rattle.uv_model.specs.declared.scheme.Class.TheVariants.{SpecialNotFile, File, Other}
use Rattle.uv_model.specs.declared.host.Host.{Host}
use Rattle.uv_model.specs.declared.host.Host.TheVariants as host
use Rattle.uv_model.specs.declared.path.UrlPath.{UrlPath}
use Rattle.uv_model.specs.declared.path.UrlPath.TheVariants.{Opaque, Segments}
use Rattle.uv_model.specs.Parts.{Form, Parts, SchemeAuthority, SchemePath, SchemeOpaque, Authority, PathAbsolute}
use Rattle.uv_model.specs.Parts.{PathRelative, NoPath, written}
use Rattle.uv_model.specs.Records.Denote.{authority_host, base_host, denote, denoted_host}
use Rattle.uv_model.specs.Records.Url.{Url}
use Rattle.uv_model.specs.Records.WellFormed.{IsUrlHost, IsUrlPort, MayBeWellFormed, WellFormed, may_be_empty}
use Rattle.uv_model.specs.Scheme.{scheme_class}
use Rattle.uv_model.specs.Setting.{Setting, setting_of}
use Rattle.uv_model.specs.Valid.{FitsAuthority, FitsForm, FitsHostText, Valid}
use Rattle.uv_model.proofs.Records.DenotedRecords.{denoted_records_are_well_formed}
use Rattle.uv_parser.specs.Laws.RoundTrip.{DenotedUrlsAreReadBack, IsReadBack, IsStable, IsStableHost, MayBeStable}
use Rattle.uv_parser.specs.Laws.RoundTrip.{ParsedUrlsAreReadBack, StableUrlsAreReadBack}
use Rattle.uv_parser.specs.Run.{Done, run, step_bound}
use Rattle.uv_parser.proofs.Done.DecidedBases.{takes_none, texts_are_decided}
use Rattle.uv_parser.proofs.RoundTrip.SerializedAuthorities.{authority_read}
use Rattle.uv_parser.proofs.RoundTrip.SerializedPaths.{IsSilentOn, opaque_read, path_read, url_of}
use Rattle.uv_parser.proofs.RoundTrip.StableHosts.{authority_host_stable, file_host_stable, host_stable}
use Rattle.uv_parser.proofs.RoundTrip.StableHosts.{opaque_host_stable}

-- ---- each well-formed stable URL

-- a URL on whose text the parser is silent with parts that denote it is read back
read_back_from : (url : Url) → IsSilentOn url → IsReadBack url
read_back_from url is =
    ap (λ text. run None text (step_bound text)) (sym is.written)
    ∙ (texts_are_decided None (written is.parts) tt).silent is.parts is.valid
    ∙ ap Done is.denoted

-- a URL without a host is of class Other
other_without : (class : Class) → IsUrlHost Parser class None → class ≡ Other
other_without SpecialNotFile is = absurd is
other_without File is = absurd is
other_without Other is = refl

-- and has a segment
some_without : (class : Class) → may_be_empty class None ≡ false
some_without SpecialNotFile = refl
some_without File = refl
some_without Other = refl

-- a URL without a host has no port
no_port : (scheme : List ℕ) (port : Option ℕ) → IsUrlPort scheme None port → port ≡ None
no_port scheme None is = refl
no_port scheme (Some port) is = absurd (false≢true (sym (takes_none (scheme_class scheme)) ∙ is.0))

-- by its host and its path
silent_on : (scheme : List ℕ) (value : Option Host) (port : Option ℕ) (path : UrlPath)
    (query fragment : Option (List ℕ)) → WellFormed Parser (url_of scheme value port path query fragment)
    → IsStableHost value
    → IsSilentOn (url_of scheme value port path query fragment)
silent_on scheme None port (Opaque text) query fragment well stable =
    let none : port ≡ None = no_port scheme port well.port in
    rw none
    (opaque_read scheme query fragment well.scheme (other_without (scheme_class scheme) well.host) well.query
    well.fragment text well.path.2)
silent_on scheme None port (Segments []) query fragment well stable =
    absurd (false≢true (sym (some_without (scheme_class scheme)) ∙ well.path))
silent_on scheme None port (Segments (segment ∷ rest)) query fragment well stable =
    let none : port ≡ None = no_port scheme port well.port in
    rw none
    (path_read scheme query fragment well.scheme (other_without (scheme_class scheme) well.host) well.query
    well.fragment segment rest well.path)
silent_on scheme (Some value) port (Opaque text) query fragment well stable =
    absurd (let none : Some value ≡ None = well.path.1 in cc)
silent_on scheme (Some value) port (Segments segments) query fragment well stable =
    authority_read scheme value port segments query fragment well.scheme well.host stable well.port
    well.path well.query well.fragment

-- it is read back
pub stable_urls_are_read_back : StableUrlsAreReadBack
stable_urls_are_read_back url well stable =
    read_back_from url (silent_on url.scheme url.host url.port url.path url.query url.fragment well stable)

-- ---- what a valid text denotes

-- the host of an authority
authority_stable : (class : Class) (setting : Setting) (host_text : List ℕ) (parts : Parts)
    → parts.host_text ≡ Some host_text
    → FitsAuthority class setting host_text parts
    → IsStableHost (authority_host parts)
authority_stable SpecialNotFile setting host_text parts text is =
    authority_host_stable parts (Some is.value) (Some host_text) is.valued text
    (host_stable setting.profile host_text is.value is.host)
authority_stable File setting host_text parts text (none, absent, inl is) =
    authority_host_stable parts (Some is.value) (Some host_text) is.valued text
    (file_host_stable setting.profile host_text is.value is.host)
authority_stable File setting host_text parts text (none, absent, inr (nothing, valued, path)) =
    authority_host_stable parts (Some host.Empty) (Some host_text) valued text tt
authority_stable Other setting host_text parts text (inl (named, port), given, path) =
    authority_host_stable parts parts.host (Some host_text) refl text (opaque_host_stable host_text parts.host named)
authority_stable Other setting host_text parts text (inr (nothing, valued, none), given, path) =
    authority_host_stable parts (Some host.Empty) (Some host_text) valued text tt

-- the text of a form with an authority
stable_with : (setting : Setting) (parts : Parts) (host_text : Option (List ℕ)) → parts.host_text ≡ host_text
    → FitsHostText setting parts host_text → IsStableHost (authority_host parts)
stable_with setting parts None text is = absurd is
stable_with setting parts (Some host_text) text is =
    authority_stable setting.class setting host_text parts text is

-- the text of a base
base_stable : (base : Option Url) → MayBeStable base → IsStableHost (base_host base)
base_stable None is = tt
base_stable (Some url) is = is

-- that which is denoted, by the form
stable_as : (profile : Profile) (base : Option Url) (form : Form) (parts : Parts) → MayBeStable base
    → FitsForm (setting_of profile base parts.scheme) form parts
    → IsStableHost (denoted_host base form parts)
stable_as profile base SchemeAuthority parts is fits =
    stable_with (setting_of profile base parts.scheme) parts parts.host_text refl fits
stable_as profile base SchemePath parts is fits = tt
stable_as profile base SchemeOpaque parts is fits = tt
stable_as profile base Authority parts is fits =
    stable_with (setting_of profile base parts.scheme) parts parts.host_text refl fits
stable_as profile base PathAbsolute parts is fits = base_stable base is
stable_as profile base PathRelative parts is fits = base_stable base is
stable_as profile base NoPath parts is fits = base_stable base is

-- what a valid text denotes against a stable base is stable
denoted_is_stable : (profile : Profile) (base : Option Url) (text : List ℕ) (parts : Parts) → MayBeStable base
    → Valid profile base text parts → IsStable (denote base parts)
unfolding denote
denoted_is_stable profile base text parts is valid = stable_as profile base parts.form parts is valid.form

-- so it is read back
pub denoted_urls_are_read_back : DenotedUrlsAreReadBack
denoted_urls_are_read_back = record {
  stable = denoted_is_stable;
  read_back = λ profile base text parts well is valid.
      stable_urls_are_read_back (denote base parts)
      (denoted_records_are_well_formed.widest profile base text parts well valid)
      (denoted_is_stable profile base text parts is valid);
}

-- ---- what a run gives

-- the URL with which a run is done is well formed
parsed_well_formed : (base : Option Url) (text : List ℕ) (url : Url) → MayBeWellFormed Parser base
    → run base text (step_bound text) ≡ Done url → WellFormed Parser url
parsed_well_formed base text url well done =
    let (parts, valid, same) = (texts_are_decided base text well).only url done in
    subst (λ (u : Url). WellFormed Parser u) (sym same)
    (denoted_records_are_well_formed.widest Parser base text parts well valid)

-- and stable, where the base is
parsed_stable : (base : Option Url) (text : List ℕ) (url : Url) → MayBeWellFormed Parser base → MayBeStable base
    → run base text (step_bound text) ≡ Done url → IsStable url
parsed_stable base text url well stable done =
    let (parts, valid, same) = (texts_are_decided base text well).only url done in
    subst (λ (u : Url). IsStable u) (sym same) (denoted_is_stable Parser base text parts stable valid)

-- so it is read back
pub parsed_urls_are_read_back : ParsedUrlsAreReadBack
parsed_urls_are_read_back = record {
  well_formed = parsed_well_formed;
  stable = parsed_stable;
  read_back = λ base text url well stable done.
      stable_urls_are_read_back url (parsed_well_formed base text url well done)
      (parsed_stable base text url well stable done);
}
