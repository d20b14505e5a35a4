-- What is valid or well formed under the wide profile is so under the parser's profile.
use Rattle.std.proofs.Common.{◌≡◌, ℕ, Bool, true, List, [], ◌∷◌, Option, Some, None, refl, inl, inr, arith}
use Rattle.std.specs.List.{list_all}
use Rattle.std.proofs.lemmas.Bool.{and_from, and_parts}
use Rattle.std.proofs.lemmas.Bool.Decides.{nat_tests}
use Rattle.uv_model.specs.declared.profile.Profile.TheVariants.{Wide, Parser}
use Rattle.uv_model.specs.declared.scheme.Class.{Class}
use Rattle.uv_model.specs.declared.scheme.Class.TheVariants.{SpecialNotFile, File, Other}
use Rattle.uv_model.specs.declared.host.Host.{Host}
use Rattle.uv_model.specs.declared.host.Host.TheVariants.{Domain, V4, V6, Opaque, Empty}
use Rattle.uv_model.specs.declared.path.UrlPath.{UrlPath}
use Rattle.uv_model.specs.declared.path.UrlPath.TheVariants as path
use Rattle.uv_model.specs.Cut.{IsCut, ends_at_host, texts_of}
use Rattle.uv_model.specs.Hosts.Domain.{is_form_code_point}
use Rattle.uv_model.specs.Laws.Wholes.{WideTextsAreParsers}
use Rattle.uv_model.specs.Parts.{Form, SchemeAuthority, SchemePath, SchemeOpaque, Authority, PathAbsolute}
use Rattle.uv_model.specs.Parts.{PathRelative, NoPath, Parts}
use Rattle.uv_model.specs.Path.{IsPathRelative, IsTakenSpacedPath}
use Rattle.uv_model.specs.Records.Url.{Url}
use Rattle.uv_model.specs.Records.WellFormed.{IsEncodedSpacedPath, IsUnspacedPath, IsUrlDomain, IsUrlHost, IsUrlPath}
use Rattle.uv_model.specs.Records.WellFormed.{WideRecordsAreParsers}
use Rattle.uv_model.specs.Setting.{setting_of}
use Rattle.uv_model.specs.Valid.{FitsAuthority, FitsDrive, FitsForm, FitsHostText, Valid}
use Rattle.uv_model.proofs.Cuts.ValidCutLemmas.{valid_is_cut}
use Rattle.uv_model.proofs.Hosts.ParserForms.{wide_file_host_not_stopped, wide_file_hosts_are_parsers}
use Rattle.uv_model.proofs.Hosts.ParserForms.{wide_host_not_stopped, wide_hosts_are_parsers}
use Rattle.uv_model.proofs.Paths.JoinedSegments.{faultless_path}
use Rattle.uv_model.proofs.Paths.SpacedPaths.{ends_faultless, spaced_path, spaced_units}
use Rattle.uv_model.proofs.Texts.UnitsLemmas.{is_faultless-units}

-- ---- opaque paths

-- a path-relative string is an opaque path on which the parser is silent
pub taken_path : (followed : Bool) (segments : List (List ℕ)) (text : List ℕ) → IsPathRelative segments text
    → IsTakenSpacedPath followed text
taken_path followed segments text path = record {
  spaced = spaced_path segments text path;
  end = λ alone. ends_faultless text (faultless_path segments text path);
}

-- ---- texts

-- what follows `//`
parsers_authority : (class : Class) (base : Option Url) (scheme : Option (List ℕ)) (host_text : List ℕ) (parts : Parts)
    → FitsAuthority class (setting_of Wide base scheme) host_text parts
    → FitsAuthority class (setting_of Parser base scheme) host_text parts
parsers_authority SpecialNotFile base scheme host_text parts is = record {
  unstopped = wide_host_not_stopped SpecialNotFile (ends_at_host (texts_of parts)) host_text is.value is.host;
  value = is.value;
  host = wide_hosts_are_parsers host_text is.value is.host;
  valued = is.valued;
  port_text = is.port_text;
  port = is.port;
  path = is.path;
}
parsers_authority File base scheme host_text parts (no_text, none, inl is) = (
  no_text,
  none,
  inl (record {
    unstopped = wide_file_host_not_stopped File (ends_at_host (texts_of parts)) host_text is.value is.host;
    value = is.value;
    host = wide_file_hosts_are_parsers host_text is.value is.host;
    valued = is.valued;
    path = is.path;
    no_drive = tt;
  }),
)
parsers_authority File base scheme host_text parts (no_text, none, inr (nothing, valued, path)) =
    (no_text, none, inr (nothing, valued, inr path))
parsers_authority Other base scheme host_text parts is = is

-- with a host text
parsers_host_text : (base : Option Url) (scheme host_text : Option (List ℕ)) (parts : Parts)
    → FitsHostText (setting_of Wide base scheme) parts host_text
    → FitsHostText (setting_of Parser base scheme) parts host_text
parsers_host_text base scheme None parts is = is
parsers_host_text base scheme (Some host_text) parts is = parsers_authority _ base scheme host_text parts is

-- the parser asks nothing of drive letters
no_drive_asked : (base : Option Url) (text : List ℕ) → FitsDrive Parser base text
no_drive_asked None text = tt
no_drive_asked (Some base) text = λ file some. tt

-- in each form
parsers_form : (base : Option Url) (form : Form) (parts : Parts)
    → FitsForm (setting_of Wide base parts.scheme) form parts
    → FitsForm (setting_of Parser base parts.scheme) form parts
parsers_form base SchemeAuthority parts is = parsers_host_text base parts.scheme parts.host_text parts is
parsers_form base Authority parts is = parsers_host_text base parts.scheme parts.host_text parts is
parsers_form base SchemePath parts is = is
parsers_form base SchemeOpaque parts (none, other, (segments, path), empty) =
    (none, other, taken_path _ segments parts.path_text path, empty)
parsers_form base PathAbsolute parts (none, path, drive) = (none, path, no_drive_asked base parts.path_text)
parsers_form base PathRelative parts is = is
parsers_form base NoPath parts is = is

-- a text whose parts are the parts of its cut
with_cut : (base : Option Url) (text : List ℕ) (parts : Parts) → IsCut base text (texts_of parts)
    → Valid Wide base text parts → Valid Parser base text parts
with_cut base text parts cut valid = record {
  whole = valid.whole;
  cut = cut;
  scheme = valid.scheme;
  against = valid.against;
  form = parsers_form base parts.form parts valid.form;
  query = valid.query;
  fragment = valid.fragment;
}

-- a valid text is valid with the same parts
pub wide_texts_are_parsers : WideTextsAreParsers
wide_texts_are_parsers base text parts valid =
    with_cut base text parts (valid_is_cut Wide base text parts valid) valid

-- ---- records

-- a code point of a domain
parsers_letter : (c : ℕ) → is_form_code_point Wide c ≡ true → is_form_code_point Parser c ≡ true
parsers_letter c is = grind (arith, nat_tests)

-- the code points of a domain
parsers_letters : (form : List ℕ) → list_all (is_form_code_point Wide) form ≡ true
    → list_all (is_form_code_point Parser) form ≡ true
parsers_letters [] is = refl
parsers_letters (c ∷ rest) is =
    let parts = and_parts (is_form_code_point Wide c) (list_all (is_form_code_point Wide) rest) is in
    and_from _ _ (parsers_letter c parts.0) (parsers_letters rest parts.1)

-- a domain
parsers_domain : (form : List ℕ) → IsUrlDomain Wide form → IsUrlDomain Parser form
parsers_domain form is = record {
  first = is.first;
  rest = is.rest;
  some = is.some;
  letters = parsers_letters form is.letters;
  name = is.name;
}

-- a host
parsers_url_host : (class : Class) (host : Option Host) → IsUrlHost Wide class host → IsUrlHost Parser class host
parsers_url_host SpecialNotFile (Some (Domain form)) is = parsers_domain form is
parsers_url_host SpecialNotFile (Some (V4 value)) is = is
parsers_url_host SpecialNotFile (Some (V6 pieces)) is = is
parsers_url_host SpecialNotFile (Some (Opaque text)) is = is
parsers_url_host SpecialNotFile (Some Empty) is = is
parsers_url_host SpecialNotFile None is = is
parsers_url_host File (Some (Domain form)) is = (parsers_domain form is.0, is.1)
parsers_url_host File (Some (V4 value)) is = is
parsers_url_host File (Some (V6 pieces)) is = is
parsers_url_host File (Some (Opaque text)) is = is
parsers_url_host File (Some Empty) is = is
parsers_url_host File None is = is
parsers_url_host Other host is = is

-- an opaque path
pub parsers_opaque_path : (text : List ℕ) → IsUnspacedPath text → IsEncodedSpacedPath text
parsers_opaque_path text is =
    let units = is_faultless-units text is.units.units in
    record {
      spaced = record {
        units = spaced_units text units;
        no_question_mark = is.no_question_mark;
        start = is.start;
      };
      ascii = is.units.ascii;
      end = ends_faultless text units;
    }

-- a path
parsers_path : (class : Class) (host : Option Host) (path : UrlPath) → IsUrlPath Wide class host path
    → IsUrlPath Parser class host path
parsers_path class host (path.Segments []) is = is
parsers_path class host (path.Segments (segment ∷ rest)) is = is
parsers_path class host (path.Opaque text) (other, none, opaque) = (other, none, parsers_opaque_path text opaque)

-- a well-formed record
pub wide_records_are_parsers : WideRecordsAreParsers
wide_records_are_parsers url is = record {
  scheme = is.scheme;
  host = parsers_url_host _ url.host is.host;
  port = is.port;
  path = parsers_path _ url.host url.path is.path;
  query = is.query;
  fragment = is.fragment;
}
