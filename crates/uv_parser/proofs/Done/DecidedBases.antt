-- Against no base and against each well-formed base each text is decided.
use Rattle.std.proofs.Common.{◌≡◌, ℕ, true, false, not, ◌⊎◌, List, [], ◌∷◌, ◌++◌, codes, Option, Some, None, refl, sym}
use Rattle.std.proofs.Common.{ap, subst, ◌∙◌, inl, inr}
use Rattle.std.specs.Prelude.{IsSome}
use Rattle.std.specs.List.{list_all}
use Rattle.std.specs.Char.{is_ascii_uppercase}
use Rattle.std.proofs.lemmas.Bool.{and_parts, cases_Bool, false≢true, not-true, true≢false}
use Rattle.uv_model.specs.declared.host.Host.{Host}
use Rattle.uv_model.specs.declared.profile.Profile.TheVariants.{Parser}
use Rattle.uv_model.specs.declared.scheme.Class.{Class}
use Rattle.uv_model.specs.declared.scheme.Class.TheVariants.{SpecialNotFile, File, Other}
use Rattle.uv_model.specs.declared.path.UrlPath.{UrlPath}
use Rattle.uv_model.specs.declared.path.UrlPath.TheVariants.{Opaque, Segments}
use Rattle.uv_model.specs.Ascii.{number_sign}
use Rattle.uv_parser.specs.Machine.{empty_variables, is_file, with_opaque_base}
use Rattle.uv_model.specs.Parts.{Form, Parts, SchemeAuthority, SchemePath, SchemeOpaque, Authority, PathAbsolute}
use Rattle.uv_model.specs.Parts.{PathRelative, NoPath, has_scheme}
use Rattle.uv_parser.specs.Laws.DecidedTexts.{IsDecided}
use Rattle.uv_model.specs.Scheme.{lowercase, scheme_class}
use Rattle.uv_parser.specs.Laws.Silence.{RunsSilently}
use Rattle.uv_model.specs.Records.Url.{Url, is_opaque}
use Rattle.uv_model.specs.Valid.{FitsScheme, Valid}
use Rattle.uv_model.specs.Records.WellFormed.{IsUrlPath, IsUrlPort, MayBeWellFormed, WellFormed, takes_port}
use Rattle.uv_parser.proofs.Done.Decided.{is_decided, fits_form}
use Rattle.uv_parser.proofs.Done.DecidedAlone.{option_some, texts_alone_are_decided}
use Rattle.uv_parser.proofs.Decided.AuthorityTexts.{class_cases}
use Rattle.uv_parser.proofs.Done.DecidedTexts.{scheme_done}
use Rattle.uv_parser.proofs.Done.DoneBases.{other_reference_done, special_reference_done}
use Rattle.uv_parser.proofs.Done.DoneReferences.{absolute_done, no_path_done, path_text, reference_query}
use Rattle.uv_parser.proofs.Done.DoneReferences.{reference_runs, relative_done}
use Rattle.uv_parser.proofs.Done.DoneFileBases.{file_authority_done, file_no_path_done, file_relative_done}
use Rattle.uv_parser.proofs.Done.KeptDrives.{file_absolute_done}
use Rattle.uv_parser.proofs.Loops.FileHosts.{file_scheme}
use Rattle.uv_parser.proofs.Decided.SilentOrStopped.{silent_or_stops}
use Rattle.uv_parser.proofs.Silence.SilentSchemes.{special_of_class}
use Rattle.uv_parser.proofs.Running.Steps.{ends_step}
use Rattle.uv_parser.proofs.Loops.Tails.{fragment_ends, tail}
use Rattle.uv_model.proofs.SchemeLemmas.{lowercase_code_point}

-- ---- what well-formed bases are

-- a text without upper case is its own lower case
pub lower_same : (xs : List ℕ) → list_all (λ c. not (is_ascii_uppercase c)) xs ≡ true → lowercase xs ≡ xs
lower_same [] each = refl
lower_same (c ∷ xs) each =
    let parts = and_parts (not (is_ascii_uppercase c)) _ each in
    rw (lowercase_code_point c (not-true _ parts.0), lower_same xs parts.1) refl

-- where a host takes no port there is none
port_absent : (scheme : List ℕ) (host : Option Host) (port : Option ℕ) → IsUrlPort scheme host port
    → takes_port (scheme_class scheme) host ≡ false → port ≡ None
port_absent scheme host None is none = refl
port_absent scheme host (Some port) is none = absurd (true≢false (sym is.0 ∙ none))

-- no host takes no port
pub takes_none : (class : Class) → takes_port class None ≡ false
takes_none SpecialNotFile = refl
takes_none File = refl
takes_none Other = refl

-- with an opaque path there is neither a host nor a port
opaque_facts : (url : Url) → WellFormed Parser url → is_opaque url.path ≡ true → (url.host ≡ None) × (url.port ≡ None)
opaque_facts url is opaque = by_path url.path refl is.path
  where
    by_path : (path : UrlPath) → url.path ≡ path → IsUrlPath Parser (scheme_class url.scheme) url.host path
        → (url.host ≡ None) × (url.port ≡ None)
    by_path (Opaque text) e fits = (
      fits.1,
      port_absent url.scheme url.host url.port is.port
          (ap (takes_port (scheme_class url.scheme)) fits.1 ∙ takes_none (scheme_class url.scheme)),
    )
    by_path (Segments list) e fits = absurd (false≢true (sym (ap is_opaque e) ∙ opaque))

-- ---- a base with an opaque path

-- the run of `#` and a fragment against a base with an opaque path
opaque_base_done : (url : Url) (text : List ℕ) (parts : Parts) → WellFormed Parser url → is_opaque url.path ≡ true
    → Valid Parser (Some url) text parts → parts.scheme ≡ None → parts.form ≡ NoPath → parts.query ≡ None
    → (fragment : List ℕ) → parts.fragment ≡ Some fragment → RunsSilently (Some url) text parts
opaque_base_done url text parts well opaque is none form no_query fragment given =
    let fits = fits_form (Some url) text parts NoPath is form in
    let facts = opaque_facts url well opaque in
    let whole : text ≡ number_sign ∷ fragment
    = path_text url text parts is none fits.0.host_text
    ∙ (ap (λ xs. xs ++ tail parts.query parts.fragment) fits.1
    ∙ (ap (λ q. tail q parts.fragment) no_query ∙ ap (λ f. tail None f) given)) in
    let v = with_opaque_base url empty_variables in
    let units = rw given at is.fragment in
    reference_runs url text (number_sign ∷ fragment) parts NoPath v whole is form none
    (record {
      scheme = refl;
      host = sym facts.0;
      port = sym facts.1;
      path = refl;
      query = reference_query url (scheme_class url.scheme) NoPath parts.query v
          (special_of_class (scheme_class url.scheme) url.scheme refl) refl;
    })
    (rw (no_query, given) (ends_step (Some url) (λ p. rw opaque refl) (fragment_ends (Some url) fragment v units)))

-- ---- every text

-- a file base has the scheme `file` and no port
file_facts : (url : Url) → WellFormed Parser url → scheme_class url.scheme ≡ File
    → (is_file url.scheme ≡ true) × (url.scheme ≡ codes "file") × (url.port ≡ None)
file_facts url is file = (
  rw file refl,
  sym (lower_same url.scheme is.scheme.lower) ∙ file_scheme url.scheme file,
  port_absent url.scheme url.host url.port is.port (ap (λ k. takes_port k url.host) file),
)

-- a base is of class File, with all of that, or of another class
file_cases : (url : Url) → WellFormed Parser url
    → ((scheme_class url.scheme ≡ File)
    × ((is_file url.scheme ≡ true) × (url.scheme ≡ codes "file") × (url.port ≡ None)))
    ⊎ (is_file url.scheme ≡ false)
file_cases url is =
    elim (class_cases (scheme_class url.scheme)) [
      | inl special ↦ inr (rw special refl)
      | inr (inl file) ↦ inl (file, file_facts url is file)
      | inr (inr other) ↦ inr (rw other refl)
    ]

-- a form with a scheme has one
scheme_missing : (scheme : Option (List ℕ)) → scheme ≡ None → FitsScheme true scheme → ⊥
scheme_missing None none fits = fits
scheme_missing (Some scheme) none fits = cc

-- without a scheme
absent_done : (url : Url) (text : List ℕ) (parts : Parts) (form : Form) → WellFormed Parser url
    → is_opaque url.path ≡ false → Valid Parser (Some url) text parts → parts.form ≡ form
    → parts.scheme ≡ None → RunsSilently (Some url) text parts
absent_done url text parts SchemeAuthority well segments is e none = absurd (scheme_missing parts.scheme none (subst
    (λ (f : Form). FitsScheme (has_scheme f) parts.scheme) e is.scheme))
absent_done url text parts SchemePath well segments is e none = absurd (scheme_missing parts.scheme none (subst (λ (f
    : Form). FitsScheme (has_scheme f) parts.scheme) e is.scheme))
absent_done url text parts SchemeOpaque well segments is e none = absurd (scheme_missing parts.scheme none (subst (λ
    (f : Form). FitsScheme (has_scheme f) parts.scheme) e is.scheme))
absent_done url text parts Authority well segments is e none =
    let lower = lower_same url.scheme well.scheme.lower in
    elim (class_cases (scheme_class url.scheme)) [
      | inl special ↦ special_reference_done url text parts is segments none lower e special
      | inr (inl file) ↦
          let f = file_facts url well file in
          file_authority_done url text parts is segments f.0 file none f.1 f.2 e
      | inr (inr other) ↦ other_reference_done url text parts is segments none lower e other
    ]
absent_done url text parts PathAbsolute well segments is e none =
    elim (file_cases url well) [
      | inl (file, f) ↦ file_absolute_done url text parts is segments f.0 file none f.1 f.2 e
      | inr plain ↦ absolute_done url text parts is segments plain none e
    ]
absent_done url text parts PathRelative well segments is e none =
    elim (file_cases url well) [
      | inl (file, f) ↦ file_relative_done url text parts is segments f.0 file none f.1 f.2 e
      | inr plain ↦ relative_done url text parts is segments plain none e
    ]
absent_done url text parts NoPath well segments is e none =
    elim (file_cases url well) [
      | inl (file, f) ↦ file_no_path_done url text parts is segments f.0 file none f.1 f.2 e
      | inr plain ↦ no_path_done url text parts is segments plain none e
    ]

-- with a scheme or without one
silent_done : (url : Url) (text : List ℕ) (parts : Parts) (scheme : Option (List ℕ)) → WellFormed Parser url
    → Valid Parser (Some url) text parts → parts.scheme ≡ scheme
    → RunsSilently (Some url) text parts
silent_done url text parts (Some scheme) well is named =
    scheme_done (Some url) text scheme parts parts.form is refl named
silent_done url text parts None well is none =
    elim (cases_Bool (is_opaque url.path)) [
      | inl opaque ↦ against opaque is.against
      | inr segments ↦ absent_done url text parts parts.form well segments is refl none
    ]
  where
    against : is_opaque url.path ≡ true
        → IsSome parts.scheme ⊎ ((is_opaque url.path ≡ false)
        ⊎ ((parts.form ≡ NoPath) × (parts.query ≡ None) × IsSome parts.fragment)) → RunsSilently (Some url) text parts
    against opaque (inl some) =
        absurd (false≢true (subst (λ (o : Option (List ℕ)). IsSome o) none some))
    against opaque (inr (inl segments)) = absurd (true≢false (sym opaque ∙ segments))
    against opaque (inr (inr (form, no_query, some))) =
        let (fragment, given) = option_some parts.fragment some in
        opaque_base_done url text parts well opaque is none form no_query fragment given

-- each text
pub texts_are_decided : (base : Option Url) (text : List ℕ) → MayBeWellFormed Parser base → IsDecided base text
texts_are_decided None text well = texts_alone_are_decided text
texts_are_decided (Some url) text well =
    is_decided (Some url) text (λ parts is. silent_done url text parts parts.scheme well is refl)
    (silent_or_stops (Some url) text)
