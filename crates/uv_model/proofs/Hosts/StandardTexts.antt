-- What is valid or well formed under the standard profile is so under the wide profile.
use Rattle.std.proofs.Common.{◌≡◌, ℕ, true, List, [], ◌∷◌, Option, Some, None, refl, inl, inr}
use Rattle.std.specs.List.{list_all}
use Rattle.std.proofs.lemmas.Bool.{and_from, and_parts}
use Rattle.uv_model.specs.declared.profile.Profile.TheVariants.{Standard, Wide}
use Rattle.uv_model.specs.declared.scheme.Class.{Class}
use Rattle.uv_model.specs.declared.scheme.Class.TheVariants.{SpecialNotFile, File, Other}
use Rattle.uv_model.specs.declared.host.Host.{Host}
use Rattle.uv_model.specs.declared.host.Host.TheVariants.{Domain, V4, V6, Empty}
use Rattle.uv_model.specs.declared.host.Host.TheVariants as host
use Rattle.uv_model.specs.Hosts.Domain.{is_form_code_point}
use Rattle.uv_model.specs.Laws.Wholes.{StandardTextsAreWide}
use Rattle.uv_model.specs.Parts.{Form, SchemeAuthority, SchemePath, SchemeOpaque, Authority, PathAbsolute}
use Rattle.uv_model.specs.Parts.{PathRelative, NoPath, Parts}
use Rattle.uv_model.specs.Setting.{setting_of}
use Rattle.uv_model.specs.Records.Url.{Url}
use Rattle.uv_model.specs.Valid.{FitsAuthority, FitsDrive, FitsForm, FitsHostText, IsFileHostText, IsHostText}
use Rattle.uv_model.specs.Valid.{MayBePathAfter}
use Rattle.uv_model.specs.Records.WellFormed.{IsUrlDomain, IsUrlHost, IsUrlPath, StandardRecordsAreWide}
use Rattle.uv_model.specs.declared.path.UrlPath.{UrlPath}
use Rattle.uv_model.specs.declared.path.UrlPath.TheVariants.{Opaque, Segments}
use Rattle.uv_model.proofs.Hosts.DomainLemmas.{standard_domains_are_wide, wide_letter}
use Rattle.uv_model.proofs.Paths.SlashedPaths.{slashed_absolute}

-- ---- texts

-- a host of class SpecialNotFile
wide_host : (text : List ℕ) (value : Host) → IsHostText Standard text value → IsHostText Wide text value
wide_host text (Domain form) is = standard_domains_are_wide text form is
wide_host text (V4 value) is = is
wide_host text (V6 pieces) is = is
wide_host text (host.Opaque opaque) is = is
wide_host text Empty is = is

-- a host of class File
wide_file_host : (text : List ℕ) (value : Host) → IsFileHostText Standard text value → IsFileHostText Wide text value
wide_file_host text (Domain form) is = (standard_domains_are_wide text form is.0, is.1)
wide_file_host text (V4 value) is = is
wide_file_host text (V6 pieces) is = is
wide_file_host text (host.Opaque opaque) is = is
wide_file_host text Empty is = standard_domains_are_wide text _ is

-- a path after an authority
wide_path : (segments : List (List ℕ)) (text : List ℕ) → MayBePathAfter Standard segments text
    → MayBePathAfter Wide segments text
wide_path segments text (inl none) = inl none
wide_path segments text (inr path) = inr (slashed_absolute segments text path)

-- what follows `//`
wide_authority : (class : Class) (base : Option Url) (scheme : Option (List ℕ)) (host_text : List ℕ) (parts : Parts)
    → FitsAuthority class (setting_of Standard base scheme) host_text parts
    → FitsAuthority class (setting_of Wide base scheme) host_text parts
wide_authority SpecialNotFile base scheme host_text parts is = record {
  unstopped = refl;
  value = is.value;
  host = wide_host host_text is.value is.host;
  valued = is.valued;
  port_text = is.port_text;
  port = is.port;
  path = wide_path parts.segments parts.path_text is.path;
}
wide_authority File base scheme host_text parts (no_text, none, inl is) = (
  no_text,
  none,
  inl (record {
    unstopped = refl;
    value = is.value;
    host = wide_file_host host_text is.value is.host;
    valued = is.valued;
    path = wide_path parts.segments parts.path_text is.path;
    no_drive = is.no_drive;
  }),
)
wide_authority File base scheme host_text parts (no_text, none, inr (nothing, valued, path)) =
    (no_text, none, inr (nothing, valued, slashed_absolute parts.segments parts.path_text path))
wide_authority Other base scheme host_text parts (host, port, path) =
    (host, port, wide_path parts.segments parts.path_text path)

-- with a host text
wide_host_text : (base : Option Url) (scheme host_text : Option (List ℕ)) (parts : Parts)
    → FitsHostText (setting_of Standard base scheme) parts host_text
    → FitsHostText (setting_of Wide base scheme) parts host_text
wide_host_text base scheme None parts is = is
wide_host_text base scheme (Some host_text) parts is = wide_authority _ base scheme host_text parts is

-- in each form
wide_form : (base : Option Url) (form : Form) (parts : Parts)
    → FitsForm (setting_of Standard base parts.scheme) form parts
    → FitsForm (setting_of Wide base parts.scheme) form parts
wide_form base SchemeAuthority parts is = wide_host_text base parts.scheme parts.host_text parts is
wide_form base Authority parts is = wide_host_text base parts.scheme parts.host_text parts is
wide_form base SchemePath parts is = is
wide_form base SchemeOpaque parts is = is
wide_form base PathAbsolute parts (none, path, drive) = (none, path, wide_drive base drive)
  where
    wide_drive : (base : Option Url) → FitsDrive Standard base parts.path_text → FitsDrive Wide base parts.path_text
    wide_drive None drive = tt
    wide_drive (Some url) drive = drive
wide_form base PathRelative parts is = is
wide_form base NoPath parts is = is

-- a valid text is valid with the same parts
pub standard_texts_are_wide : StandardTextsAreWide
standard_texts_are_wide base text parts valid = record {
  whole = valid.whole;
  cut = tt;
  scheme = valid.scheme;
  against = valid.against;
  form = wide_form base parts.form parts valid.form;
  query = valid.query;
  fragment = valid.fragment;
}

-- ---- records

-- the code points of a domain
wide_letters : (form : List ℕ) → list_all (is_form_code_point Standard) form ≡ true
    → list_all (is_form_code_point Wide) form ≡ true
wide_letters [] is = is
wide_letters (c ∷ rest) is =
    let parts = and_parts (is_form_code_point Standard c) (list_all (is_form_code_point Standard) rest) is in
    and_from _ _ (wide_letter c parts.0) (wide_letters rest parts.1)

-- a domain
wide_domain : (form : List ℕ) → IsUrlDomain Standard form → IsUrlDomain Wide form
wide_domain form is = record {
  first = is.first;
  rest = is.rest;
  some = is.some;
  letters = wide_letters form is.letters;
  name = is.name;
}

-- a host
wide_url_host : (class : Class) (host : Option Host) → IsUrlHost Standard class host → IsUrlHost Wide class host
wide_url_host SpecialNotFile (Some (Domain form)) is = wide_domain form is
wide_url_host SpecialNotFile (Some (V4 value)) is = is
wide_url_host SpecialNotFile (Some (V6 pieces)) is = is
wide_url_host SpecialNotFile (Some (host.Opaque text)) is = is
wide_url_host SpecialNotFile (Some Empty) is = is
wide_url_host SpecialNotFile None is = is
wide_url_host File (Some (Domain form)) is = (wide_domain form is.0, is.1)
wide_url_host File (Some (V4 value)) is = is
wide_url_host File (Some (V6 pieces)) is = is
wide_url_host File (Some (host.Opaque text)) is = is
wide_url_host File (Some Empty) is = is
wide_url_host File None is = is
wide_url_host Other host is = is

-- a path
wide_url_path : (class : Class) (host : Option Host) (path : UrlPath) → IsUrlPath Standard class host path
    → IsUrlPath Wide class host path
wide_url_path class host (Segments []) is = is
wide_url_path class host (Segments (segment ∷ rest)) is = is
wide_url_path class host (Opaque text) is = is

-- a well-formed record
pub standard_records_are_wide : StandardRecordsAreWide
standard_records_are_wide url is = record {
  scheme = is.scheme;
  host = wide_url_host _ url.host is.host;
  port = is.port;
  path = wide_url_path _ url.host url.path is.path;
  query = is.query;
  fragment = is.fragment;
}
