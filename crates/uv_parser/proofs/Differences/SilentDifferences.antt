-- A text on which the parser is silent is valid with the same parts exactly when it has none of the named differences.
use Rattle.std.proofs.Common.{◌≡◌, ◌≢◌, ℕ, ◌⊎◌, List, [], Option, Some, None, refl, sym, ap, subst, ◌∙◌, inl}
use Rattle.std.proofs.Common.{inr}
use Rattle.std.proofs.lemmas.Bool.{cases_Bool, false≢true}
use Rattle.std.proofs.lemmas.Option.{same_Some}
use Rattle.uv_model.specs.declared.profile.Profile.TheVariants.{Standard}
use Rattle.uv_model.specs.declared.host.Host.{Host}
use Rattle.uv_model.specs.declared.host.Host.TheVariants as host
use Rattle.uv_model.specs.declared.rule.Rule.TheVariants.{DriveAfterHost, FirstSegmentEmpty}
use Rattle.uv_model.specs.declared.scheme.Class.{Class}
use Rattle.uv_model.specs.declared.scheme.Class.TheVariants.{SpecialNotFile, File, Other}
use Rattle.uv_model.specs.Violations.Violation.{HasHost}
use Rattle.uv_model.specs.Cut.{class_in}
use Rattle.uv_model.specs.Parts.{Form, SchemeAuthority, SchemePath, SchemeOpaque, Authority, PathAbsolute, PathRelative}
use Rattle.uv_model.specs.Parts.{NoPath, Parts, has_scheme}
use Rattle.uv_model.specs.Path.{starts_with_drive_segment}
use Rattle.uv_model.specs.Scheme.{scheme_class}
use Rattle.uv_parser.specs.Laws.Differences.{Differs, HasDriveAfterHost, HasEmptyAuthority, HasForeignHost}
use Rattle.uv_parser.specs.Laws.Differences.{SilentTextsAreValidOrDiffer}
use Rattle.uv_model.specs.Setting.{setting_of}
use Rattle.uv_model.specs.Records.Url.{Url}
use Rattle.uv_model.specs.Valid.{FitsAuthority, FitsDrive, FitsForm, FitsHostText, FitsScheme, IsFileHostText}
use Rattle.uv_model.specs.Valid.{IsHostText, MayBePathAfter, Valid}
use Rattle.uv_model.proofs.Hosts.FileHosts.{file_host_fits}
use Rattle.uv_model.proofs.Violations.FaultlessHosts.{file_host_is_host, host_not_empty}
use Rattle.uv_model.proofs.Violations.ViolationsExcludeParts.{faultless_form}
use Rattle.uv_model.specs.Cut.{is_followed, texts_of}
use Rattle.uv_model.specs.Valid.{HasFileHost}
use Rattle.uv_model.specs.declared.profile.Profile.TheVariants.{Parser}
use Rattle.uv_model.proofs.Cuts.UniqueParts.{parts_are_unique}
use Rattle.uv_model.proofs.Hosts.HostUniqueness.{one_host}
use Rattle.uv_model.specs.Path.{pieces}
use Rattle.uv_parser.proofs.HostParsing.SpecialHosts.{host_by_parser, host_of_file}
use Rattle.uv_parser.proofs.Silence.ValidSilent.{valid_by_parser}
use Rattle.uv_parser.proofs.Differences.PathDifferences.{no_space, opaque_or_spaced, path_after, slashed_cases}
use Rattle.uv_parser.proofs.Differences.HostDifferences.{host_not_differs, host_or_differs}

-- ---- from the parser's profile to the standard one

-- a class is not both
file_not_other : (class : Class) → class ≡ File → class ≡ Other → ⊥
file_not_other class file other = absurd cc

-- and neither is this one
special_not_other : (class : Class) → class ≡ SpecialNotFile → class ≡ Other → ⊥
special_not_other class special other = absurd cc

-- what follows `//` in a URL of class File, where the host has a text
file_or_differs : (base : Option Url) (host_text : List ℕ) (parts : Parts)
    → class_in base parts.scheme ≡ File → parts.host_text ≡ Some host_text
    → (parts.port_text ≡ None) × (parts.port ≡ None) → HasFileHost Parser host_text parts
    → MayBePathAfter Standard parts.segments parts.path_text
    → FitsAuthority File (setting_of Standard base parts.scheme) host_text parts ⊎ Differs base parts
file_or_differs base host_text parts class given no_port is path =
    let (value, taken, made) = host_of_file host_text is.value is.host in
    elim (host_or_differs host_text value taken) [
      | inr differs ↦ inr (inl (record {
        class = λ other. absurd (file_not_other (class_in base parts.scheme) class other);
        text = host_text;
        given = given;
        host = value;
        taken = taken;
        differs = differs;
      }))
      | inl valid ↦
          let text_is : IsFileHostText Standard host_text is.value
          = subst (λ (v : Host). IsFileHostText Standard host_text v) made
          (file_host_fits Standard host_text value valid) in
          elim (cases_Bool (starts_with_drive_segment parts.path_text)) [
            | inl drive ↦
                let some = host_not_empty Parser host_text value taken in
                let has : HasHost base parts.scheme parts.host_text = rw given some in
                inr (inr (inr (inl (class, has, drive))))
            | inr bare ↦
                inl (
                  no_port.0,
                  no_port.1,
                  inl (record {
                    unstopped = refl;
                    value = is.value;
                    host = text_is;
                    valued = is.valued;
                    path = path;
                    no_drive = bare;
                  }),
                )
          ]
    ]

-- what follows `//` by the class
authority_or_differs : (base : Option Url) (class : Class) (host_text : List ℕ) (parts : Parts)
    → class_in base parts.scheme ≡ class → parts.host_text ≡ Some host_text
    → FitsAuthority class (setting_of Parser base parts.scheme) host_text parts
    → MayBePathAfter Standard parts.segments parts.path_text
    → FitsAuthority class (setting_of Standard base parts.scheme) host_text parts ⊎ Differs base parts
authority_or_differs base SpecialNotFile host_text parts class given is path =
    elim (host_or_differs host_text is.value is.host) [
      | inl valid ↦ inl (record {
        unstopped = refl;
        value = is.value;
        host = valid;
        valued = is.valued;
        port_text = is.port_text;
        port = is.port;
        path = path;
      })
      | inr differs ↦ inr (inl (record {
        class = λ other. absurd (special_not_other (class_in base parts.scheme) class other);
        text = host_text;
        given = given;
        host = is.value;
        taken = is.host;
        differs = differs;
      }))
    ]
authority_or_differs base File host_text parts class given (no_text, none, inl is) path =
    file_or_differs base host_text parts class given (no_text, none) is path
authority_or_differs base File host_text parts class given (no_text, none, inr (empty, valued, alone)) path =
    by_path path
  where
    by_path : MayBePathAfter Standard parts.segments parts.path_text
        → FitsAuthority File (setting_of Standard base parts.scheme) host_text parts ⊎ Differs base parts
    by_path (inl (nothing, no_segment)) = inr (inr (inr (inr (inl (class, given ∙ ap Some empty, nothing)))))
    by_path (inr absolute) = inl (no_text, none, inr (empty, valued, absolute))
authority_or_differs base Other host_text parts class given (host_and_port, port, slashed) path =
    inl (host_and_port, port, path)

-- with a host text
host_text_or_differs : (base : Option Url) (parts : Parts) (host_text : Option (List ℕ)) → parts.host_text ≡ host_text
    → FitsHostText (setting_of Parser base parts.scheme) parts host_text
    → FitsHostText (setting_of Standard base parts.scheme) parts host_text ⊎ Differs base parts
host_text_or_differs base parts None given fits = absurd fits
host_text_or_differs base parts (Some host_text) given fits =
    let class = class_in base parts.scheme in
    elim (slashed_cases parts.segments parts.path_text
    (path_after class (setting_of Parser base parts.scheme) host_text parts fits)) [
      | inl absolute ↦ authority_or_differs base class host_text parts refl given fits absolute
      | inr starts ↦ inr (inr (inl (rw given refl, starts)))
    ]

-- ---- a drive letter after the base's host

-- a host that is there is empty, or not
empty_cases : (value : Option Host) → (value ≡ Some host.Empty) ⊎ (value ≢ Some host.Empty)
empty_cases None = inr (λ e. absurd cc)
empty_cases (Some host.Empty) = inl refl
empty_cases (Some (host.Domain form)) = inr (λ e. absurd cc)
empty_cases (Some (host.V4 value)) = inr (λ e. absurd cc)
empty_cases (Some (host.V6 pieces)) = inr (λ e. absurd cc)
empty_cases (Some (host.Opaque text)) = inr (λ e. absurd cc)

-- a class is File, or not
file_cases : (class : Class) → (class ≡ File) ⊎ (class ≢ File)
file_cases SpecialNotFile = inr (λ e. absurd cc)
file_cases File = inl refl
file_cases Other = inr (λ e. absurd cc)

-- a path-absolute reference has no drive letter that its base forbids, or it has one
drive_or_differs : (base : Option Url) (parts : Parts) → parts.scheme ≡ None → parts.host_text ≡ None
    → FitsDrive Standard base parts.path_text ⊎ HasDriveAfterHost base parts
drive_or_differs None parts named none = inl tt
drive_or_differs (Some url) parts named none =
    elim (cases_Bool (starts_with_drive_segment parts.path_text)) [
      | inr bare ↦ inl (λ class some. bare)
      | inl drive ↦
          elim (file_cases (scheme_class url.scheme)) [
            | inr other ↦ inl (λ class some. absurd (other class))
            | inl file ↦
                elim (empty_cases url.host) [
                  | inl empty ↦ inl (λ class some. absurd (some empty))
                  | inr some ↦
                      let class : class_in (Some url) parts.scheme ≡ File = rw named file in
                      let has : HasHost (Some url) parts.scheme parts.host_text = rw (named, none) some in
                      inr (class, has, drive)
                ]
          ]
    ]

-- ---- each form

-- by the form
form_or_differs : (base : Option Url) (form : Form) (parts : Parts) → FitsScheme (has_scheme form) parts.scheme
    → FitsForm (setting_of Parser base parts.scheme) form parts
    → FitsForm (setting_of Standard base parts.scheme) form parts ⊎ Differs base parts
form_or_differs base SchemeAuthority parts named fits =
    host_text_or_differs base parts parts.host_text refl fits
form_or_differs base Authority parts named fits =
    host_text_or_differs base parts parts.host_text refl fits
form_or_differs base SchemePath parts named fits = inl fits
form_or_differs base SchemeOpaque parts named (none, other, path, empty) =
    elim (opaque_or_spaced (is_followed (texts_of parts)) parts.path_text path) [
      | inl opaque ↦ inl (none, other, opaque, empty)
      | inr spaced ↦ inr (inr (inr (inr (inr spaced))))
    ]
form_or_differs base PathAbsolute parts named (none, path, asked) =
    elim (drive_or_differs base parts named none.host_text) [
      | inl fits ↦ inl (none, path, fits)
      | inr drive ↦ inr (inr (inr (inl drive)))
    ]
form_or_differs base PathRelative parts named fits = inl fits
form_or_differs base NoPath parts named fits = inl fits

-- where the form fits, the parts are valid
valid_from : (base : Option Url) (text : List ℕ) (parts : Parts) → Valid Parser base text parts
    → FitsForm (setting_of Standard base parts.scheme) parts.form parts → Valid Standard base text parts
valid_from base text parts silent fits = record {
  whole = silent.whole;
  cut = tt;
  scheme = silent.scheme;
  against = silent.against;
  form = fits;
  query = silent.query;
  fragment = silent.fragment;
}

-- what the parser is silent on is valid, or it differs
valid_or_differs : (base : Option Url) (text : List ℕ) (parts : Parts) → Valid Parser base text parts
    → Valid Standard base text parts ⊎ Differs base parts
valid_or_differs base text parts silent =
    elim (form_or_differs base parts.form parts silent.scheme silent.form) [
      | inl fits ↦ inl (valid_from base text parts silent fits)
      | inr differs ↦ inr differs
    ]

-- ---- never both

-- what follows `//` fits, where there is a host text
fits_given : (base : Option Url) (form : Form) (parts : Parts) (text : List ℕ)
    → FitsForm (setting_of Standard base parts.scheme) form parts
    → parts.host_text ≡ Some text → FitsHostText (setting_of Standard base parts.scheme) parts (Some text)
fits_given base SchemeAuthority parts text is given =
    subst (λ (o : Option (List ℕ)). FitsHostText (setting_of Standard base parts.scheme) parts o) given is
fits_given base Authority parts text is given =
    subst (λ (o : Option (List ℕ)). FitsHostText (setting_of Standard base parts.scheme) parts o) given is
fits_given base SchemePath parts text is given = absurd cc
fits_given base SchemeOpaque parts text is given = absurd cc
fits_given base PathAbsolute parts text is given = absurd cc
fits_given base PathRelative parts text is given = absurd cc
fits_given base NoPath parts text is given = absurd cc

-- a valid authority has a valid host text or, in class File, none
valid_host : (class : Class) (base : Option Url) (scheme : Option (List ℕ)) (text : List ℕ) (parts : Parts)
    → class ≢ Other
    → FitsAuthority class (setting_of Standard base scheme) text parts
    → ((value : Host) × IsHostText Standard text value) ⊎ (text ≡ [])
valid_host SpecialNotFile base scheme text parts plain is = inl (is.value, is.host)
valid_host File base scheme text parts plain (no_port, absent, inl is) =
    inl (file_host_is_host Standard text is.value is.host)
valid_host File base scheme text parts plain (no_port, absent, inr (nothing, valued, path)) = inr nothing
valid_host Other base scheme text parts plain is = absurd (plain refl)

-- a valid text has no foreign host
no_foreign_host : (base : Option Url) (text : List ℕ) (parts : Parts) → Valid Standard base text parts
    → ¬ (HasForeignHost base parts)
no_foreign_host base text parts valid foreign =
    elim (valid_host (class_in base parts.scheme) base parts.scheme foreign.text parts foreign.class
    (fits_given base parts.form parts foreign.text valid.form foreign.given)) [
      | inl (value, is) ↦
          let taken = host_by_parser Standard foreign.text value is in
          let same : value ≡ foreign.host
          = same_Some value foreign.host
          (one_host Parser SpecialNotFile (Some foreign.text) (Some value) (Some foreign.host) (value, taken, refl)
          (foreign.host, foreign.taken, refl)) in
          host_not_differs foreign.text foreign.host (subst (λ (v : Host). IsHostText Standard foreign.text v) same is)
          foreign.differs
      | inr nothing ↦ host_not_empty Parser foreign.text foreign.host foreign.taken nothing
    ]

-- nor an empty authority of class File with nothing after it
no_empty_authority : (base : Option Url) (text : List ℕ) (parts : Parts) → Valid Standard base text parts
    → ¬ (HasEmptyAuthority base parts)
no_empty_authority base text parts valid (class, given, bare) =
    let fits = fits_given base parts.form parts [] valid.form given in
    nothing_there (subst (λ (k : Class). FitsAuthority k (setting_of Standard base parts.scheme) [] parts) class fits)
  where
    nothing_there : FitsAuthority File (setting_of Standard base parts.scheme) [] parts → ⊥
    nothing_there (no_port, absent, inl is) =
        let (other, host) = file_host_is_host Standard [] is.value is.host in
        host_not_empty Standard [] other host refl
    nothing_there (no_port, absent, inr (nothing, valued, path)) = absurd (let slashed = path.slashed in cc)

-- a valid text has no difference
valid_not_differs : (base : Option Url) (text : List ℕ) (parts : Parts) → Valid Standard base text parts
    → ¬ (Differs base parts)
valid_not_differs base text parts valid (inl foreign) = no_foreign_host base text parts valid foreign
valid_not_differs base text parts valid (inr (inl (has, starts))) =
    (faultless_form Standard base parts.form parts valid.form valid.scheme).start 1 FirstSegmentEmpty (starts, refl)
valid_not_differs base text parts valid (inr (inr (inl (class, has, drive)))) =
    (faultless_form Standard base parts.form parts valid.form valid.scheme).start 0 DriveAfterHost (
      class,
      has,
      drive,
      refl,
    )
valid_not_differs base text parts valid (inr (inr (inr (inl empty)))) = no_empty_authority base text parts valid empty
valid_not_differs base text parts valid (inr (inr (inr (inr spaced)))) =
    false≢true (sym spaced ∙ no_space base parts.form parts valid.form)

-- ---- the law

-- a text on which the parser is silent is valid, or it has a difference, and not both
pub silent_valid_or_differs : SilentTextsAreValidOrDiffer
silent_valid_or_differs base text parts silent = record {
  either = valid_or_differs base text parts silent;
  never_both = λ differs other valid.
      let same : other ≡ parts
      = parts_are_unique Parser base text other parts (valid_by_parser Standard base text other valid) silent in
      valid_not_differs base text parts (subst (λ (q : Parts). Valid Standard base text q) same valid) differs;
}
