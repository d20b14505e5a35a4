-- The parts built from a cut without a violation are valid.
use Rattle.std.proofs.Common.{◌≡◌, ◌≢◌, ℕ, List, [], ◌∷◌, ◌++◌, true, false, Option, Some, None, refl, sym, ap, ◌∙◌}
use Rattle.std.proofs.Common.{subst, inl, inr}
use Rattle.std.specs.Prelude.{◌⊎◌, ◌+◌, IsSome, is_some}
use Rattle.std.proofs.lemmas.Bool.{cases_Bool, false_from_ne_true, false≢true}
use Rattle.uv_model.specs.declared.host.Host.{Host}
use Rattle.uv_model.specs.declared.profile.Profile.{Profile}
use Rattle.uv_model.specs.declared.profile.Profile.TheVariants.{Standard, Wide, Parser}
use Rattle.uv_model.specs.declared.rule.Rule.{Rule}
use Rattle.uv_model.specs.declared.rule.Rule.TheVariants.{NoScheme, OpaqueBase, TwoSlashes, FirstSegmentEmpty}
use Rattle.uv_model.specs.declared.rule.Rule.TheVariants.{DriveAfterHost}
use Rattle.uv_model.specs.declared.scheme.Class.{Class}
use Rattle.uv_model.specs.declared.scheme.Class.TheVariants.{SpecialNotFile, File, Other}
use Rattle.uv_model.specs.Ascii.{number_sign, question_mark}
use Rattle.uv_model.specs.Violations.Violation.{HasEmptyFirst, HasHost, MayBeUnitViolation, IsStarted}
use Rattle.uv_model.specs.Violations.Violation.{HasDrive, PathContentViolation, has_opaque_path}
use Rattle.uv_model.specs.Violations.Violation.{starts_with_number_sign}
use Rattle.uv_model.specs.Violations.UnitViolation.{PathUnitViolation}
use Rattle.uv_model.specs.Cut.{Cut, IsCut, IsHostCut, IsSchemeCut, class_in, path_place, query_place, fragment_place}
use Rattle.uv_model.specs.Cut.{ends_at_host, is_followed, starts_with_two_slashes, texts_of, written_prefix}
use Rattle.uv_model.specs.Cut.{written_middle, written_start}
use Rattle.uv_model.specs.Parts.{Form, NoPath, Parts, PathAbsolute, PathRelative, SchemeOpaque, SchemePath, has_scheme}
use Rattle.uv_model.specs.Parts.{written_after, written_authority, written_scheme}
use Rattle.uv_model.specs.Path.{IsPathAbsolute, IsPathRelative, is_without, starts_with_drive_segment}
use Rattle.uv_model.specs.Path.{starts_with_slash}
use Rattle.uv_model.specs.Violations.Refusal.{IsLeast}
use Rattle.uv_model.specs.Scheme.{scheme_class}
use Rattle.uv_model.specs.Units.{IsUnits}
use Rattle.uv_model.specs.Records.Url.{Url, is_opaque}
use Rattle.uv_model.specs.Setting.{Setting, setting_of}
use Rattle.uv_model.specs.Valid.{FitsAuthority, FitsBase, FitsDrive, FitsForm, HasAuthority, HasNoAuthority}
use Rattle.uv_model.specs.Valid.{IsOpaqueHostText, IsOpaquePath, FitsScheme, IsPathAfter, MayBePathAfter}
use Rattle.uv_model.specs.Valid.{FitsCut, IsPathAlone, IsWithoutDrive, MayBePortText, MayBeUnits, Valid, port_given}
use Rattle.uv_model.specs.Scheme.{starts_with_scheme}
use Rattle.uv_model.proofs.Violations.ViolationLemmas.{cut_with}
use Rattle.uv_model.proofs.Texts.MarkLemmas.{is_without-cons, is_without-parts}
use Rattle.uv_model.proofs.Violations.SpacedPathLemmas.{path_violation-plain, spaced_without_violation}
use Rattle.uv_model.proofs.Violations.SpacedPathLemmas.{unspaced_end_without_violation}
use Rattle.uv_model.proofs.Violations.UnitViolationLemmas.{units_without_violation}
use Rattle.uv_model.proofs.Cuts.ValidCutLemmas.{written_as_cut}
use Rattle.uv_grammar.specs.Built.{built, form_of, form_with, segments_in}
use Rattle.uv_model.specs.Path.{pieces, segments_of}
use Rattle.uv_grammar.specs.HostValues.{FitsHost, MayBeEmptyFile}
use Rattle.uv_grammar.specs.PartViolations.{AfterAuthority}
use Rattle.uv_grammar.specs.PartValues.{FitsHostPart, FitsPortPart}
use Rattle.uv_grammar.proofs.SegmentLemmas.{path_absolute, path_relative, path_slashed, relative_path}
use Rattle.uv_model.proofs.Texts.MarkLemmas.{append_none}

-- ---- what the absence of violations says

-- the path's start, the path, the query and the fragment have no violation
record IsQuiet (setting : Setting) (cut : Cut) : Type 0 where
  first : HasEmptyFirst setting.profile cut.path_text → ⊥
  drive : setting.class ≡ File → HasHost setting.base cut.scheme cut.host_text
      → IsWithoutDrive setting.profile cut.path_text
  path : (place : ℕ) (rule : Rule) → PathContentViolation setting cut place rule → ⊥
  query : MayBeUnits cut.query
  fragment : MayBeUnits cut.fragment

no_violation_units : (start : ℕ) (text : Option (List ℕ))
    → ((place : ℕ) (rule : Rule) → MayBeUnitViolation start text place rule → ⊥) → MayBeUnits text
no_violation_units start None none = tt
no_violation_units start (Some text) none =
    units_without_violation text
    (λ place rule h. none (start + place) rule (record { inner = place; moved = refl; holds = h }))

-- a path that has no drive letter which the profile forbids
without_drive : (profile : Profile) (path : List ℕ) → (HasDrive profile path → ⊥) → IsWithoutDrive profile path
without_drive Standard path none = false_from_ne_true (starts_with_drive_segment path) none
without_drive Wide path none = false_from_ne_true (starts_with_drive_segment path) none
without_drive Parser path none = tt

-- without a scheme, after an authority or `/` no path is opaque
no_opaque_host : (class : Class) (scheme port_text : Option (List ℕ)) (host_text path : List ℕ)
    (query fragment : Option (List ℕ))
    → has_opaque_path class (cut_with scheme (Some host_text) port_text path query fragment) ≡ false
no_opaque_host SpecialNotFile scheme port_text host_text path query fragment = refl
no_opaque_host File scheme port_text host_text path query fragment = refl
no_opaque_host Other None port_text host_text path query fragment = refl
no_opaque_host Other (Some scheme) port_text host_text path query fragment = refl

no_opaque_slash : (class : Class) (scheme port_text : Option (List ℕ)) (path : List ℕ)
    (query fragment : Option (List ℕ)) → starts_with_slash path ≡ true
    → has_opaque_path class (cut_with scheme None port_text path query fragment) ≡ false
no_opaque_slash SpecialNotFile scheme port_text path query fragment start = refl
no_opaque_slash File scheme port_text path query fragment start = refl
no_opaque_slash Other None port_text path query fragment start = refl
no_opaque_slash Other (Some scheme) port_text path query fragment start = rw start refl

no_opaque_reference : (class : Class) (port_text : Option (List ℕ)) (path : List ℕ)
    (query fragment : Option (List ℕ))
    → has_opaque_path class (cut_with None None port_text path query fragment) ≡ false
no_opaque_reference SpecialNotFile port_text path query fragment = refl
no_opaque_reference File port_text path query fragment = refl
no_opaque_reference Other port_text path query fragment = refl

-- so it is units, where it has no violation
units_of_path : (setting : Setting) (cut : Cut) → has_opaque_path setting.class cut ≡ false
    → ((place : ℕ) (rule : Rule) → PathContentViolation setting cut place rule → ⊥) → IsUnits cut.path_text
units_of_path setting cut plain none =
    units_without_violation cut.path_text
    (λ place rule h. none place rule
    (rw plain (path_violation-plain setting.profile (is_followed cut) cut.path_text place rule h)))

-- an opaque path is units, and under the parser's profile spaces too
opaque_path : (profile : Profile) (base : Option Url) (scheme : List ℕ) (port_text : Option (List ℕ)) (path : List ℕ)
    (query fragment : Option (List ℕ)) → scheme_class scheme ≡ Other → starts_with_slash path ≡ false
    → is_without question_mark path ≡ true
    → ((place : ℕ) (rule : Rule) → PathContentViolation (setting_of profile base (Some scheme))
    (cut_with (Some scheme) None port_text path query fragment) place rule → ⊥)
    → IsOpaquePath profile (is_followed (cut_with (Some scheme) None port_text path query fragment)) path
opaque_path Standard base scheme port_text path query fragment other start none quiet =
    (pieces path, path_relative path (units_without_violation path quiet) none start)
opaque_path Wide base scheme port_text path query fragment other start none quiet =
    (pieces path, path_relative path (units_without_violation path quiet) none start)
opaque_path Parser base scheme port_text path query fragment other start none quiet =
    let followed = is_followed (cut_with (Some scheme) None port_text path query fragment) in
    let taken : (place : ℕ) (rule : Rule) → PathUnitViolation Parser true followed path place rule → ⊥
    = λ place rule h. quiet place rule (rw (other, start) h) in
    record {
      spaced = record {
        units = spaced_without_violation followed path taken;
        no_question_mark = none;
        start = start;
      };
      end = unspaced_end_without_violation followed path taken;
    }

-- from no violation to what it says
quiet : (setting : Setting) (cut : Cut) → IsLeast (AfterAuthority setting cut) None → IsQuiet setting cut
quiet setting cut none = record {
  first = λ empty.
      none (path_place cut + 1) FirstSegmentEmpty
      (inl (record { inner = 1; moved = refl; holds = (empty, refl) }));
  drive = λ file host. without_drive setting.profile cut.path_text
      (λ drive. none (path_place cut + 0) DriveAfterHost
      (inl (record { inner = 0; moved = refl; holds = (file, host, drive, refl) })));
  path = λ place rule h. none (path_place cut + place) rule
      (inr (inl (record { inner = place; moved = refl; holds = h })));
  query = no_violation_units (query_place cut) cut.query (λ place rule h. none place rule (inr (inr (inl h))));
  fragment = no_violation_units (fragment_place cut) cut.fragment (λ place rule h. none place rule (inr (inr (inr h))));
}

-- the path of a cut text holds no `?`
path_without : (base : Option Url) (text : List ℕ) (cut : Cut) → IsCut base text cut
    → is_without question_mark cut.path_text ≡ true
path_without base text cut is =
    let middle = (is_without-parts question_mark (written_scheme cut.scheme) (written_middle cut) is.start).1 in
    (is_without-parts question_mark (written_authority cut.host_text cut.port_text) cut.path_text middle).1

-- ---- paths

-- a path that begins with one `/`, where the profile forbids another
path_of : (profile : Profile) (path : List ℕ) → starts_with_slash path ≡ true
    → (HasEmptyFirst profile path → ⊥) → IsUnits path → is_without question_mark path ≡ true
    → IsPathAfter profile (segments_of path) path
path_of Wide path start first units none = path_slashed path units none start
path_of Parser path start first units none = path_slashed path units none start
path_of Standard path start first units none = elim (cases_Bool (starts_with_two_slashes path)) [
  | inl two ↦ absurd (first two)
  | inr one ↦ path_absolute path units none start one
]

-- after an authority the path is empty or such a path
path_after : (profile : Profile) (path : List ℕ) → (path ≢ [] → starts_with_slash path ≡ true)
    → (HasEmptyFirst profile path → ⊥) → IsUnits path → is_without question_mark path ≡ true
    → MayBePathAfter profile (segments_of path) path
path_after profile [] start first units none = inl (refl, refl)
path_after profile (c ∷ rest) start first units none =
    inr (path_of profile (c ∷ rest) (start (λ e. cc)) first units none)

-- a path that begins with `/` isn't empty
slashed_path : (profile : Profile) (segments : List (List ℕ)) (path : List ℕ) → MayBePathAfter profile segments path
    → starts_with_slash path ≡ true → IsPathAfter profile segments path
slashed_path profile segments path (inl (empty, none)) start = absurd (false≢true (rw empty at start))
slashed_path profile segments path (inr is) start = is

-- a path without a host before it
path_alone : (profile : Profile) (segments : List (List ℕ)) (path : List ℕ) → MayBePathAfter profile segments path
    → MayBeEmptyFile profile path → IsPathAlone profile segments path
path_alone Standard segments path is start = slashed_path Standard segments path is start
path_alone Wide segments path is start = slashed_path Wide segments path is start
path_alone Parser segments path is start = is

-- ---- authorities

-- a valid authority of a special URL
special_fits : (setting : Setting) (host_text : List ℕ) (parts : Parts) (host : Option Host) → parts.host ≡ host
    → FitsHost setting.profile SpecialNotFile (ends_at_host (texts_of parts)) host_text parts.port_text parts.path_text
    host
    → MayBePortText parts.port_text → parts.port ≡ port_given setting.default_port parts.port_text
    → MayBePathAfter setting.profile parts.segments parts.path_text
    → FitsAuthority SpecialNotFile setting host_text parts
special_fits setting host_text parts None same (inl (some, fits)) port_text port path = absurd fits
special_fits setting host_text parts (Some value) same (inl (some, fits)) port_text port path = record {
  unstopped = fits.0;
  value = value;
  host = fits.1;
  valued = same;
  port_text = port_text;
  port = port;
  path = path;
}
special_fits setting host_text parts host same (inr (empty, is, may)) port_text port path = absurd may

-- a valid authority of a file URL, which has no port
file_fits : (setting : Setting) (host_text : List ℕ) (parts : Parts) (host : Option Host) → parts.host ≡ host
    → FitsHost setting.profile File (ends_at_host (texts_of parts)) host_text parts.port_text parts.path_text host
    → IsHostCut File host_text parts.port_text → parts.port ≡ port_given setting.default_port parts.port_text
    → MayBePathAfter setting.profile parts.segments parts.path_text
    → (host_text ≢ [] → IsWithoutDrive setting.profile parts.path_text) → FitsAuthority File setting host_text parts
file_fits setting host_text parts None same (inl (some, fits)) cut port path drive = absurd fits
file_fits setting host_text parts (Some value) same (inl (some, fits)) cut port path drive = (
  cut,
  port ∙ ap (port_given setting.default_port) cut,
  inl (record {
    unstopped = fits.0;
    value = value;
    host = fits.1;
    valued = same;
    path = path;
    no_drive = drive some;
  }),
)
file_fits setting host_text parts host same (inr (empty, is, may)) cut port path drive = (
  cut,
  port ∙ ap (port_given setting.default_port) cut,
  inr (empty, same ∙ is, path_alone setting.profile parts.segments parts.path_text path may),
)

-- a valid authority of the class
authority_fits : (kind : Class) (setting : Setting) (host_text : List ℕ) (parts : Parts) (host : Option Host)
    → parts.host ≡ host
    → FitsHost setting.profile kind (ends_at_host (texts_of parts)) host_text parts.port_text parts.path_text host
    → IsHostCut kind host_text parts.port_text
    → MayBePortText parts.port_text → parts.port ≡ port_given setting.default_port parts.port_text
    → MayBePathAfter setting.profile parts.segments parts.path_text
    → (kind ≡ File → host_text ≢ [] → IsWithoutDrive setting.profile parts.path_text)
    → FitsAuthority kind setting host_text parts
authority_fits SpecialNotFile setting host_text parts host same fits cut port_text port path drive =
    special_fits setting host_text parts host same fits port_text port path
authority_fits File setting host_text parts host same fits cut port_text port path drive =
    file_fits setting host_text parts host same fits cut port path (drive refl)
authority_fits Other setting host_text parts host same (inl (some, fits)) cut port_text port path drive =
    (inl (subst (λ (h : Option Host). IsOpaqueHostText host_text h) (sym same) fits, port_text), port, path)
authority_fits Other setting host_text parts host same (inr (empty, is, may)) cut port_text port path drive =
    (inr (empty, same ∙ is, may), port, path)

-- a valid port after a host, or none
record IsPort (default : Option ℕ) (port_text : Option (List ℕ)) (port : Option ℕ) : Type 0 where
  may : MayBePortText port_text
  given : port ≡ port_given default port_text

port_facts : (setting : Setting) (scheme : Option (List ℕ)) (host_text : List ℕ) (port_text : Option (List ℕ))
    (path : List ℕ)
    (query fragment : Option (List ℕ)) (port : Option ℕ)
    → FitsPortPart setting (cut_with scheme (Some host_text) port_text path query fragment) port
    → IsPort setting.default_port port_text port
port_facts setting scheme host_text None path query fragment port fits = record { may = tt; given = fits }
port_facts setting scheme host_text (Some port_text) path query fragment port fits =
    record { may = fits.0; given = fits.1 }

-- an authority fits the form of the text
has_authority : (profile : Profile) (base : Option Url) (text : List ℕ) (scheme : Option (List ℕ)) (host_text : List ℕ)
    (port_text : Option (List ℕ))
    (path : List ℕ) (query fragment : Option (List ℕ)) (host : Option Host) (port : Option ℕ)
    → IsCut base text (cut_with scheme (Some host_text) port_text path query fragment)
    → FitsHostPart (setting_of profile base scheme)
    (cut_with scheme (Some host_text) port_text path query fragment) host
    → FitsPortPart (setting_of profile base scheme)
    (cut_with scheme (Some host_text) port_text path query fragment) port
    → IsQuiet (setting_of profile base scheme) (cut_with scheme (Some host_text) port_text path query fragment)
    → is_without question_mark path ≡ true
    → (built (cut_with scheme (Some host_text) port_text path query fragment) host port).segments ≡ segments_of path
    → HasAuthority (setting_of profile base scheme)
    (built (cut_with scheme (Some host_text) port_text path query fragment) host port)
has_authority profile base text scheme host_text port_text path query fragment host port is fits_host fits_port q none
    segments =
    let p = port_facts (setting_of profile base scheme) scheme host_text port_text path query fragment port fits_port in
    authority_fits (class_in base scheme) (setting_of profile base scheme) host_text
    (built (cut_with scheme
    (Some host_text) port_text path query fragment) host port) host refl fits_host is.authority.2
    p.may p.given
    (subst (λ (s : List (List ℕ)). MayBePathAfter profile s path) (sym segments)
    (path_after profile path is.authority.1 q.first
    (units_of_path (setting_of profile base scheme)
    (cut_with scheme (Some host_text) port_text path query fragment)
    (no_opaque_host (class_in base scheme) scheme port_text host_text path query fragment) q.path) none))
    (λ file some. q.drive file some)

-- ---- texts without an authority

-- neither a host nor a port
no_authority : (base : Option Url) (text : List ℕ) (scheme port_text : Option (List ℕ)) (path : List ℕ)
    (query fragment : Option (List ℕ)) (host : Option Host) (port : Option ℕ)
    → IsCut base text (cut_with scheme None port_text path query fragment) → host ≡ None → port ≡ None
    → HasNoAuthority (built (cut_with scheme None port_text path query fragment) host port)
no_authority base text scheme port_text path query fragment host port is no_host no_port =
    record { host_text = refl; host = no_host; port_text = is.authority.0; port = no_port }

-- a class is Other or isn't
class_cases : (kind : Class) → (kind ≡ Other) ⊎ (kind ≢ Other)
class_cases Other = inl refl
class_cases SpecialNotFile = inr (λ same. cc)
class_cases File = inr (λ same. cc)

-- a scheme without an authority is of class Other
other_scheme : (profile : Profile) (base : Option Url) (text scheme : List ℕ) (port_text : Option (List ℕ))
    (path : List ℕ)
    (query fragment : Option (List ℕ))
    → IsStarted (setting_of profile base (Some scheme)) text
    (cut_with (Some scheme) None port_text path query fragment)
    → scheme_class scheme ≡ Other
other_scheme profile base text scheme port_text path query fragment started = elim (class_cases (scheme_class scheme)) [
  | inl other ↦ other
  | inr kind ↦ absurd (started _ TwoSlashes ((refl, kind, refl), refl))
]

-- no drive letter after a base's host
fits_drive : (profile : Profile) (base : Option Url) (path : List ℕ)
    → (class_in base None ≡ File → HasHost base None None → IsWithoutDrive profile path)
    → FitsDrive profile base path
fits_drive profile None path drive = tt
fits_drive profile (Some url) path drive = drive

-- ---- forms that a test of the path decides

absolute_form : (setting : Setting) (parts : Parts) → parts.form ≡ PathAbsolute → HasNoAuthority parts
    → IsPathAbsolute parts.segments parts.path_text → FitsDrive setting.profile setting.base parts.path_text
    → FitsForm setting parts.form parts
absolute_form setting parts form a b d = subst (λ (f : Form). FitsForm setting f parts) (sym form) (a, b, d)

relative_form : (setting : Setting) (parts : Parts) → parts.form ≡ PathRelative → HasNoAuthority parts
    → IsPathRelative parts.segments parts.path_text → parts.path_text ≢ [] → starts_with_scheme parts.path_text ≡ false
    → FitsForm setting parts.form parts
relative_form setting parts form a b d e = subst (λ (f : Form). FitsForm setting f parts) (sym form) (a, b, d, e)

path_form : (setting : Setting) (parts : Parts) → parts.form ≡ SchemePath → HasNoAuthority parts
    → setting.class ≡ Other → IsPathAbsolute parts.segments parts.path_text
    → FitsForm setting parts.form parts
path_form setting parts form a b d = subst (λ (f : Form). FitsForm setting f parts) (sym form) (a, b, d)

opaque_form : (setting : Setting) (parts : Parts) → parts.form ≡ SchemeOpaque → HasNoAuthority parts
    → setting.class ≡ Other → IsOpaquePath setting.profile (is_followed (texts_of parts)) parts.path_text
    → parts.segments ≡ []
    → FitsForm setting parts.form parts
opaque_form setting parts form a b d e = subst (λ (f : Form). FitsForm setting f parts) (sym form) (a, b, d, e)

-- the segments of a known form
known_segments : (form other : Form) (path : List ℕ) (P : List (List ℕ) → Type 0) → form ≡ other
    → P (segments_in other path)
    → P (segments_in form path)
known_segments form other path P same holds = subst (λ (f : Form). P (segments_in f path)) (sym same) holds

-- ---- the parts of the theorem

-- what is known of a cut whose parts are built
record IsSound (profile : Profile) (base : Option Url) (text : List ℕ) (cut : Cut) (host : Option Host)
    (port : Option ℕ) : Type 0 where
  is : IsCut base text cut
  started : IsStarted (setting_of profile base cut.scheme) text cut
  fits_host : FitsHostPart (setting_of profile base cut.scheme) cut host
  fits_port : FitsPortPart (setting_of profile base cut.scheme) cut port
  quiet : IsQuiet (setting_of profile base cut.scheme) cut
  none : is_without question_mark cut.path_text ≡ true

-- a scheme and a path
scheme_path_fits : (profile : Profile) (base : Option Url) (text scheme : List ℕ) (port_text : Option (List ℕ))
    (path : List ℕ)
    (query fragment : Option (List ℕ)) (host : Option Host) (port : Option ℕ)
    → IsSound profile base text (cut_with (Some scheme) None port_text path query fragment) host port
    → FitsForm (setting_of profile base (Some scheme)) (form_with true false path)
    (built (cut_with (Some scheme) None port_text path query fragment) host port)
scheme_path_fits profile base text scheme port_text path query fragment host port s =
    let a = no_authority base text (Some scheme) port_text path query fragment host port s.is s.fits_host s.fits_port in
    let other = other_scheme profile base text scheme port_text path query fragment s.started in
    elim (cases_Bool (starts_with_slash path)) [
      | inl start ↦
          let form : form_with true false path ≡ SchemePath = rw start refl in
          path_form (setting_of profile base (Some scheme)) _ form a other
          (known_segments (form_with true false path) SchemePath path (λ l. IsPathAbsolute l path) form
          (path_absolute path (units start) s.none start s.is.authority.1))
      | inr start ↦
          let form : form_with true false path ≡ SchemeOpaque = rw start refl in
          opaque_form (setting_of profile base (Some scheme)) _ form a other
          (opaque_path profile base scheme port_text path query fragment other start s.none s.quiet.path)
          (ap (λ f. segments_in f path) form)
    ]
  where
    units : starts_with_slash path ≡ true → IsUnits path
    units start =
        units_of_path (setting_of profile base (Some scheme))
        (cut_with (Some scheme) None port_text path query fragment)
        (no_opaque_slash (class_in base (Some scheme)) (Some scheme) port_text path query fragment start) s.quiet.path

-- only a path
reference_fits : (profile : Profile) (base : Option Url) (text : List ℕ) (port_text : Option (List ℕ)) (c : ℕ)
    (rest : List ℕ)
    (query fragment : Option (List ℕ)) (host : Option Host) (port : Option ℕ)
    → IsSound profile base text (cut_with None None port_text (c ∷ rest) query fragment) host port
    → FitsForm (setting_of profile base None) (form_with false false (c ∷ rest))
    (built (cut_with None None port_text (c ∷ rest) query fragment) host port)
reference_fits profile base text port_text c rest query fragment host port s =
    let path : List ℕ = c ∷ rest in
    let a = no_authority base text None port_text path query fragment host port s.is s.fits_host s.fits_port in
    let some : path ≢ [] = λ same. cc in
    elim (cases_Bool (starts_with_slash path)) [
      | inl start ↦
          let form : form_with false false path ≡ PathAbsolute = rw start refl in
          absolute_form (setting_of profile base None) _ form a
          (known_segments (form_with false false path) PathAbsolute path (λ l. IsPathAbsolute l path) form
          (path_absolute path units s.none start s.is.authority.1))
          (fits_drive profile base path s.quiet.drive)
      | inr start ↦
          let form : form_with false false path ≡ PathRelative = rw start refl in
          relative_form (setting_of profile base None) _ form a
          (known_segments (form_with false false path) PathRelative path (λ l. IsPathRelative l path) form
          (relative_path path some units s.none start))
          some s.is.scheme
    ]
  where
    units : IsUnits (c ∷ rest)
    units =
        units_of_path (setting_of profile base None) (cut_with None None port_text (c ∷ rest) query fragment)
        (no_opaque_reference (class_in base None) port_text (c ∷ rest) query fragment) s.quiet.path

-- the parts fit the form
form_fits : (profile : Profile) (base : Option Url) (text : List ℕ) (scheme host_text port_text : Option (List ℕ))
    (path : List ℕ)
    (query fragment : Option (List ℕ)) (host : Option Host) (port : Option ℕ)
    → IsSound profile base text (cut_with scheme host_text port_text path query fragment) host port
    → FitsForm (setting_of profile base scheme) (form_with (is_some scheme) (is_some host_text) path)
    (built (cut_with scheme host_text port_text path query fragment) host port)
form_fits profile base text (Some scheme) (Some host_text) port_text path query fragment host port s =
    has_authority profile base text (Some scheme) host_text port_text path query fragment host port
    s.is s.fits_host s.fits_port s.quiet s.none refl
form_fits profile base text None (Some host_text) port_text path query fragment host port s =
    has_authority profile base text None host_text port_text path query fragment host port
    s.is s.fits_host s.fits_port s.quiet s.none refl
form_fits profile base text (Some scheme) None port_text path query fragment host port s =
    scheme_path_fits profile base text scheme port_text path query fragment host port s
form_fits profile base text None None port_text [] query fragment host port s =
    (no_authority base text None port_text [] query fragment host port s.is s.fits_host s.fits_port, refl, refl)
form_fits profile base text None None port_text (c ∷ rest) query fragment host port s =
    reference_fits profile base text port_text c rest query fragment host port s

-- a form with a scheme has one
scheme_fits : (scheme host_text : Option (List ℕ)) (path middle : List ℕ) → IsSchemeCut scheme middle
    → FitsScheme (has_scheme (form_with (is_some scheme) (is_some host_text) path)) scheme
scheme_fits (Some scheme) (Some host_text) path middle is = is
scheme_fits None (Some host_text) path middle is = refl
scheme_fits (Some scheme) None path middle is = elim (cases_Bool (starts_with_slash path)) [
  | inl start ↦ rw start is
  | inr start ↦ rw start is
]
scheme_fits None None [] middle is = refl
scheme_fits None None (c ∷ rest) middle is = elim (cases_Bool (starts_with_slash (c ∷ rest))) [
  | inl start ↦ rw start refl
  | inr start ↦ rw start refl
]

-- ---- the base

-- a text that begins with `#` is only a fragment
number_sign_first : (prefix : List ℕ) (fragment : Option (List ℕ)) → is_without number_sign prefix ≡ true
    → starts_with_number_sign (prefix ++ written_after number_sign fragment) ≡ true → (prefix ≡ []) × IsSome fragment
number_sign_first [] None none start = absurd (false≢true start)
number_sign_first [] (Some fragment) none start = (refl, refl)
number_sign_first (c ∷ prefix) fragment none start =
    absurd (false≢true (sym (is_without-cons number_sign c prefix none).0 ∙ start))

nothing_after : (mark : ℕ) (text : Option (List ℕ)) → written_after mark text ≡ [] → text ≡ None
nothing_after mark None same = refl
nothing_after mark (Some text) same = absurd cc

no_authority_text : (host_text port_text : Option (List ℕ)) → written_authority host_text port_text ≡ []
    → host_text ≡ None
no_authority_text None port_text same = refl
no_authority_text (Some host_text) port_text same = absurd cc

-- nothing is before the fragment
empty_prefix : (cut : Cut) → cut.scheme ≡ None → written_prefix cut ≡ []
    → (form_of cut ≡ NoPath) × (cut.query ≡ None)
empty_prefix cut scheme same =
    let prefix = append_none (written_start cut) (written_after question_mark cut.query) same in
    let start = append_none (written_scheme cut.scheme) (written_middle cut) prefix.0 in
    let middle = append_none (written_authority cut.host_text cut.port_text) cut.path_text start.1 in
    let host = no_authority_text cut.host_text cut.port_text middle.0 in
    (rw (scheme, host, middle.1) refl, nothing_after question_mark cut.query prefix.1)

scheme_there : (scheme : Option (List ℕ)) → (scheme ≡ None → ⊥) → IsSome scheme
scheme_there None some = absurd (some refl)
scheme_there (Some scheme) some = refl

scheme_or_none : (scheme : Option (List ℕ)) → IsSome scheme ⊎ (scheme ≡ None)
scheme_or_none None = inr refl
scheme_or_none (Some scheme) = inl refl

-- a text without a scheme fits its base
base_fits : (profile : Profile) (base : Option Url) (text : List ℕ) (cut : Cut) (host : Option Host) (port : Option ℕ)
    → IsCut base text cut
    → IsStarted (setting_of profile base cut.scheme) text cut → FitsBase base (built cut host port)
base_fits profile None text cut host port is started =
    scheme_there cut.scheme (λ none. started 0 NoScheme (none, refl, refl))
base_fits profile (Some url) text cut host port is started = elim (scheme_or_none cut.scheme) [
  | inl some ↦ inl some
  | inr none ↦ elim (cases_Bool (is_opaque url.path)) [
    | inr other ↦ inr (inl other)
    | inl opaque ↦ elim (cases_Bool (starts_with_number_sign text)) [
      | inr other ↦ absurd (started 0 OpaqueBase (none, opaque, other, refl))
      | inl start ↦
          let f = number_sign_first (written_prefix cut) cut.fragment is.prefix
          (subst (λ (t : List ℕ). starts_with_number_sign t ≡ true) is.whole start) in
          let e = empty_prefix cut none f.0 in
          inr (inr (e.0, e.1, f.1))
    ]
  ]
]

-- the cut of the parts is the cut
fits_cut : (profile : Profile) (base : Option Url) (text : List ℕ) (cut : Cut) (host : Option Host) (port : Option ℕ)
    → IsCut base text cut → FitsCut profile base text (built cut host port)
fits_cut Standard base text cut host port is = tt
fits_cut Wide base text cut host port is = tt
fits_cut Parser base text cut host port is = is

-- The parts built from a cut are valid where its start, its host and its port are, and nothing after them has a
-- violation.
pub valid_built : (profile : Profile) (base : Option Url) (text : List ℕ) (cut : Cut) (host : Option Host)
    (port : Option ℕ)
    → IsCut base text cut → IsStarted (setting_of profile base cut.scheme) text cut
    → FitsHostPart (setting_of profile base cut.scheme) cut host
    → FitsPortPart (setting_of profile base cut.scheme) cut port
    → IsLeast (AfterAuthority (setting_of profile base cut.scheme) cut) None
    → Valid profile base text (built cut host port)
valid_built profile base text cut host port is started fits_host fits_port silent =
    let q = quiet (setting_of profile base cut.scheme) cut silent in
    record {
      whole = is.whole ∙ sym (written_as_cut (built cut host port));
      cut = fits_cut profile base text cut host port is;
      scheme = scheme_fits cut.scheme cut.host_text cut.path_text (written_middle cut) is.scheme;
      against = base_fits profile base text cut host port is started;
      form = form_fits profile base text cut.scheme cut.host_text cut.port_text cut.path_text cut.query cut.fragment
          host port
          (record {
            is = is;
            started = started;
            fits_host = fits_host;
            fits_port = fits_port;
            quiet = q;
            none = path_without base text cut is;
          });
      query = q.query;
      fragment = q.fragment;
    }
