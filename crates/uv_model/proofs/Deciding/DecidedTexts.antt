-- Valid texts are decided: that a text is valid with parts that are written out is proved by computing.
use Rattle.std.proofs.Common.{◌≡◌, ℕ, Bool, true, false, List, [], ◌∷◌, Option, Some, None, codes, refl, ap}
use Rattle.std.proofs.Common.{subst}
use Rattle.std.specs.Prelude.{IsSome, is_some, not, option_map}
use Rattle.std.specs.List.{join_with_byte, list_all}
use Rattle.std.specs.Char.{is_ascii_digit}
use Rattle.std.specs.Str.Parse.{digits_value}
use Rattle.uv_model.specs.declared.profile.Profile.{Profile}
use Rattle.uv_model.specs.declared.profile.Profile.TheVariants.{Standard, Wide, Parser}
use Rattle.uv_model.specs.declared.scheme.Class.{Class}
use Rattle.uv_model.specs.declared.scheme.Class.TheVariants.{SpecialNotFile, File, Other}
use Rattle.uv_model.specs.declared.host.Host.{Host}
use Rattle.uv_model.specs.declared.host.Host.TheVariants.{Domain, V4, V6, Opaque, Empty}
use Rattle.uv_model.specs.Ascii.{question_mark, slash}
use Rattle.uv_model.specs.Cut.{Cut, IsCut, cut_of, ends_at_host, is_followed, texts_of}
use Rattle.uv_model.specs.Hosts.OpaqueHost.{IsOpaqueHost, is_forbidden_host}
use Rattle.uv_model.specs.Hosts.StoppedHost.{is_stopped}
use Rattle.uv_model.specs.Parts.{Form, SchemeAuthority, SchemePath, SchemeOpaque, Authority, PathAbsolute}
use Rattle.uv_model.specs.Parts.{PathRelative, NoPath, Parts, has_scheme, written}
use Rattle.uv_model.specs.Path.{AreSegments, IsPathAbsolute, IsPathRelative, IsPathSlashed, IsSegment, JoinsTo}
use Rattle.uv_model.specs.Path.{ends_with_space, is_spaced, is_without, starts_with_drive_segment, starts_with_slash}
use Rattle.uv_model.specs.Records.Url.{Url, is_opaque}
use Rattle.uv_model.specs.Scheme.{is_scheme, starts_with_scheme}
use Rattle.uv_model.specs.Setting.{Setting, setting_of}
use Rattle.uv_model.specs.Units.{IsUnits, is_faultless}
use Rattle.uv_model.specs.Valid.{FitsAuthority, FitsBase, FitsCut, FitsDrive, FitsForm, FitsScheme, HasAuthority}
use Rattle.uv_model.specs.Valid.{HasFileHost, HasNoAuthority, IsFileHostText, IsOpaqueHostText}
use Rattle.uv_model.specs.Valid.{IsOpaquePath, IsPathAlone, IsPathAfter}
use Rattle.uv_model.specs.Valid.{IsSpecialAuthority, IsWithoutDrive, MayBePathAfter, MayBePortText, MayBeUnits, Valid}
use Rattle.uv_model.specs.Valid.{port_given}
use Rattle.uv_model.proofs.Cuts.CutLemmas.{computed_is_cut}
use Rattle.uv_model.proofs.Deciding.Decisions.{and_then, all_four, all_three, at_most, both, either, is_absent, is_false}
use Rattle.uv_model.proofs.Deciding.Decisions.{is_other_class, is_true, other_text, present, proof_of}
use Rattle.uv_model.proofs.Deciding.Decisions.{same_number, same_option, same_text, same_texts}
use Rattle.uv_model.proofs.Deciding.DecidedViolations.{HostDecisions}
use Rattle.uv_model.proofs.Paths.PathPieces.{path_relative}
use Rattle.uv_model.specs.Path.{pieces}
use Rattle.uv_model.proofs.Texts.UnitsLemmas.{IsUnits-faultless}

-- ---- units and paths

-- URL units
abbrev units : (text : List ℕ) → Option (IsUnits text)
units text = option_map (λ faultless. IsUnits-faultless text faultless) (is_true (is_faultless text))

-- URL units, or an absent text
abbrev units_or_none : (text : Option (List ℕ)) → Option (MayBeUnits text)
units_or_none None = Some tt
units_or_none (Some text) = units text

-- a segment
abbrev segment : (text : List ℕ) → Option (IsSegment text)
segment text =
    and_then (units text)
    (λ are. and_then (is_true (is_without slash text))
    (λ no_slash. option_map
    (λ no_question_mark. record { units = are; no_slash = no_slash; no_question_mark = no_question_mark })
    (is_true (is_without question_mark text))))

-- segments
abbrev segments : (texts : List (List ℕ)) → Option (AreSegments texts)
segments [] = Some tt
segments (text ∷ rest) = both (segment text) (segments rest)

-- segments joined
abbrev joined : (texts : List (List ℕ)) (text : List ℕ) → Option (JoinsTo texts text)
joined [] text = None
joined (first ∷ others) text =
    and_then (segments (first ∷ others))
    (λ each. option_map
    (λ whole. record { first = first; others = others; some = refl; each = each; joined = whole })
    (same_text text (join_with_byte slash (first ∷ others))))

-- a path-relative string
abbrev relative : (texts : List (List ℕ)) (text : List ℕ) → Option (IsPathRelative texts text)
relative texts text =
    and_then (joined texts text)
    (λ joins. option_map (λ start. record { joins = joins; start = start }) (is_false (starts_with_slash text)))

-- `/`, and a decision on what follows it
abbrev after_slash : {V : Type 0} → (text : List ℕ)
    → ((after : List ℕ) → text ≡ slash ∷ after → Option V) → Option V
after_slash [] next = None
after_slash (c ∷ rest) next =
    and_then (same_number c slash) (λ same. next rest (ap (λ (d : ℕ). d ∷ rest) same))

-- a path-absolute string
abbrev absolute : (texts : List (List ℕ)) (text : List ℕ) → Option (IsPathAbsolute texts text)
absolute texts text =
    after_slash text
    (λ after slashed. option_map (λ rest. record { after = after; slashed = slashed; relative = rest })
    (relative texts after))

-- `/` and any segments
abbrev slashed_path : (texts : List (List ℕ)) (text : List ℕ) → Option (IsPathSlashed texts text)
slashed_path texts text =
    after_slash text
    (λ after slashed. option_map (λ rest. record { after = after; slashed = slashed; joins = rest })
    (joined texts after))

-- a path after an authority
abbrev path_after : (profile : Profile) (texts : List (List ℕ)) (text : List ℕ)
    → Option (IsPathAfter profile texts text)
path_after Standard texts text = absolute texts text
path_after _ texts text = slashed_path texts text

-- such a path, or none
abbrev may_be_path : (profile : Profile) (texts : List (List ℕ)) (text : List ℕ)
    → Option (MayBePathAfter profile texts text)
may_be_path profile texts text =
    either (both (same_text text []) (same_texts texts [])) (path_after profile texts text)

-- only a path
abbrev path_alone : (profile : Profile) (texts : List (List ℕ)) (text : List ℕ)
    → Option (IsPathAlone profile texts text)
path_alone Parser texts text = may_be_path Parser texts text
path_alone Standard texts text = path_after Standard texts text
path_alone Wide texts text = path_after Wide texts text

-- no drive letter at the start
abbrev without_drive : (profile : Profile) (text : List ℕ) → Option (IsWithoutDrive profile text)
without_drive Parser text = Some tt
without_drive _ text = is_false (starts_with_drive_segment text)

-- an opaque path
abbrev opaque_path : (profile : Profile) (followed : Bool) (text : List ℕ) → Option (IsOpaquePath profile followed text)
opaque_path Parser followed text =
    and_then (all_three (is_true (is_spaced text)) (is_true (is_without question_mark text))
    (is_false (starts_with_slash text)))
    (λ are. option_map
    (λ end. record {
      spaced = record { units = are.0; no_question_mark = are.1; start = are.2 };
      end = λ followed. end;
    })
    (is_false (ends_with_space text)))
opaque_path _ followed text =
    option_map (λ are. (pieces text, path_relative text are.0 are.1 are.2))
    (all_three (is_true (is_faultless text)) (is_true (is_without question_mark text))
    (is_false (starts_with_slash text)))

-- ---- hosts and ports

-- a port text, or none
abbrev port_text : (text : Option (List ℕ)) → Option (MayBePortText text)
port_text None = Some tt
port_text (Some text) =
    and_then (is_true (list_all is_ascii_digit text))
    (λ digits. option_map (λ range. record { digits = digits; range = range })
    (at_most (digits_value 10 text) 65535))

-- the empty host
abbrev empty_host : (host : Option Host) → Option (host ≡ Some Empty)
empty_host (Some Empty) = Some refl
empty_host _ = None

-- the host of a file URL
abbrev file_host : (hosts : HostDecisions) (profile : Profile) (text : List ℕ) (value : Host)
    → Option (IsFileHostText profile text value)
file_host hosts profile text (Domain form) =
    both (hosts.host profile text (Domain form)) (other_text form (codes "localhost"))
file_host hosts profile text (V4 value) = hosts.host profile text (V4 value)
file_host hosts profile text (V6 pieces) = hosts.host profile text (V6 pieces)
file_host hosts profile text (Opaque host) = None
file_host hosts profile text Empty = hosts.host profile text (Domain (codes "localhost"))

-- an opaque host
abbrev opaque_host : (text : List ℕ) → Option (IsOpaqueHost text)
opaque_host [] = None
opaque_host (c ∷ rest) =
    and_then (units (c ∷ rest))
    (λ are. option_map (λ permitted. record { first = c; rest = rest; some = refl; units = are; permitted = permitted })
    (is_true (list_all (λ d. not (is_forbidden_host d)) (c ∷ rest))))

-- an opaque host, or an IPv6 text in brackets
abbrev opaque_host_text : (hosts : HostDecisions) (text : List ℕ) (value : Option Host)
    → Option (IsOpaqueHostText text value)
opaque_host_text hosts text (Some (V6 pieces)) = hosts.host Standard text (V6 pieces)
opaque_host_text hosts text (Some _) = None
opaque_host_text hosts text None = opaque_host text

-- what follows `//` in class SpecialNotFile
abbrev special_authority : (hosts : HostDecisions) (setting : Setting) (text : List ℕ) (parts : Parts)
    → Option (IsSpecialAuthority setting text parts)
special_authority hosts setting text parts =
    present parts.host
    (λ value valued. option_map
    (λ is. record {
      unstopped = is.0;
      value = value;
      host = is.1;
      valued = valued;
      port_text = is.2.0;
      port = is.2.1;
      path = is.3;
    })
    (all_four (is_false (is_stopped setting.profile SpecialNotFile (ends_at_host (texts_of parts)) text))
    (hosts.host setting.profile text value)
    (both (port_text parts.port_text)
    (same_option same_number parts.port (port_given setting.default_port parts.port_text)))
    (may_be_path setting.profile parts.segments parts.path_text)))

-- the host of a file URL and what follows it
abbrev file_host_path : (hosts : HostDecisions) (profile : Profile) (text : List ℕ) (parts : Parts)
    → Option (HasFileHost profile text parts)
file_host_path hosts profile text parts =
    present parts.host
    (λ value valued. option_map
    (λ is. record {
      unstopped = is.0;
      value = value;
      host = is.1;
      valued = valued;
      path = is.2;
      no_drive = is.3;
    })
    (all_four (is_false (is_stopped profile File (ends_at_host (texts_of parts)) text))
    (file_host hosts profile text value) (may_be_path profile parts.segments parts.path_text)
    (without_drive profile parts.path_text)))

-- what follows `//`, by the class
abbrev authority : (hosts : HostDecisions) (class : Class) (setting : Setting) (text : List ℕ) (parts : Parts)
    → Option (FitsAuthority class setting text parts)
authority hosts SpecialNotFile setting text parts = special_authority hosts setting text parts
authority hosts File setting text parts =
    all_three (is_absent parts.port_text) (is_absent parts.port)
    (either (file_host_path hosts setting.profile text parts)
    (all_three (same_text text []) (empty_host parts.host)
    (path_alone setting.profile parts.segments parts.path_text)))
authority hosts Other setting text parts =
    all_three
    (either (both (opaque_host_text hosts text parts.host) (port_text parts.port_text))
    (all_three (same_text text []) (empty_host parts.host) (is_absent parts.port_text)))
    (same_option same_number parts.port (port_given setting.default_port parts.port_text))
    (may_be_path setting.profile parts.segments parts.path_text)

-- ---- the forms

-- an authority
abbrev has_authority : (hosts : HostDecisions) (setting : Setting) (parts : Parts)
    → Option (HasAuthority setting parts)
has_authority hosts setting parts =
    elim parts.host_text as (λ o. Option (HasAuthority setting (record parts { host_text = o }))) [
      | None ↦ None
      | Some text ↦ authority hosts setting.class setting text (record parts { host_text = Some text })
    ]

-- no authority
abbrev no_authority : (parts : Parts) → Option (HasNoAuthority parts)
no_authority parts =
    option_map (λ are. record { host_text = are.0; host = are.1; port_text = are.2; port = are.3 })
    (all_four (is_absent parts.host_text) (is_absent parts.host) (is_absent parts.port_text) (is_absent parts.port))

-- no drive letter after the host of a base
abbrev fits_drive : (profile : Profile) (base : Option Url) (path : List ℕ) → Option (FitsDrive profile base path)
fits_drive profile None path = Some tt
fits_drive profile (Some base) path = option_map (λ none. λ file host. none) (without_drive profile path)

-- the form
abbrev fits_form : (hosts : HostDecisions) (setting : Setting) (form : Form) (parts : Parts)
    → Option (FitsForm setting form parts)
fits_form hosts setting SchemeAuthority parts = has_authority hosts setting parts
fits_form hosts setting SchemePath parts =
    all_three (no_authority parts) (is_other_class setting.class) (absolute parts.segments parts.path_text)
fits_form hosts setting SchemeOpaque parts =
    all_four (no_authority parts) (is_other_class setting.class)
    (opaque_path setting.profile (is_followed (texts_of parts)) parts.path_text) (same_texts parts.segments [])
fits_form hosts setting Authority parts = has_authority hosts setting parts
fits_form hosts setting PathAbsolute parts =
    all_three (no_authority parts) (absolute parts.segments parts.path_text)
    (fits_drive setting.profile setting.base parts.path_text)
fits_form hosts setting PathRelative parts =
    all_four (no_authority parts) (relative parts.segments parts.path_text) (other_text parts.path_text [])
    (is_false (starts_with_scheme parts.path_text))
fits_form hosts setting NoPath parts =
    all_three (no_authority parts) (same_text parts.path_text []) (same_texts parts.segments [])

-- the scheme
abbrev fits_scheme : (has : Bool) (scheme : Option (List ℕ)) → Option (FitsScheme has scheme)
fits_scheme true (Some scheme) = is_true (is_scheme scheme)
fits_scheme true None = None
fits_scheme false scheme = is_absent scheme

-- the form without a path
abbrev without_path : (form : Form) → Option (form ≡ NoPath)
without_path NoPath = Some refl
without_path _ = None

-- the base
abbrev fits_base : (base : Option Url) (parts : Parts) → Option (FitsBase base parts)
fits_base None parts = is_true (is_some parts.scheme)
fits_base (Some base) parts =
    either (is_true (is_some parts.scheme))
    (either (is_false (is_opaque base.path))
    (all_three (without_path parts.form) (is_absent parts.query) (is_true (is_some parts.fragment))))

-- cuts of the same texts are the same
pub same_cuts : (a b : Cut) → (a.scheme ≡ b.scheme) × (a.host_text ≡ b.host_text) × (a.port_text ≡ b.port_text)
    × ((a.path_text ≡ b.path_text) × (a.query ≡ b.query) × (a.fragment ≡ b.fragment)) → a ≡ b
same_cuts a b are = λ i. record {
  scheme = are.0 i;
  host_text = are.1 i;
  port_text = are.2 i;
  path_text = are.3.0 i;
  query = are.3.1 i;
  fragment = are.3.2 i;
}

-- two cuts that are the same
abbrev same_cut : (a b : Cut) → Option (a ≡ b)
same_cut a b =
    let same = same_option same_text in
    option_map (λ are. same_cuts a b are)
    (all_four (same a.scheme b.scheme) (same a.host_text b.host_text) (same a.port_text b.port_text)
    (all_three (same_text a.path_text b.path_text) (same a.query b.query) (same a.fragment b.fragment)))

-- a cut that is the same as the computed one is the text's
pub cut_fits : (base : Option Url) (text : List ℕ) (cut : Cut) → cut_of base text ≡ cut → IsCut base text cut
cut_fits base text cut same = subst (λ (other : Cut). IsCut base text other) same (computed_is_cut base text)

-- the cut
abbrev fits_cut : (profile : Profile) (base : Option Url) (text : List ℕ) (parts : Parts)
    → Option (FitsCut profile base text parts)
fits_cut Parser base text parts =
    option_map (λ same. cut_fits base text (texts_of parts) same)
    (same_cut (cut_of base text) (texts_of parts))
fits_cut _ base text parts = Some tt

-- the decision whether the text, against the base, is valid under the profile with these parts
abbrev pub valid_decision : (hosts : HostDecisions) (profile : Profile) (base : Option Url) (text : List ℕ)
    (parts : Parts) → Option (Valid profile base text parts)
valid_decision hosts profile base text parts =
    and_then (all_four (same_text text (written parts)) (fits_cut profile base text parts)
    (fits_scheme (has_scheme parts.form) parts.scheme) (fits_base base parts))
    (λ are. option_map
    (λ is. record {
      whole = are.0;
      cut = are.1;
      scheme = are.2;
      against = are.3;
      form = is.0;
      query = is.1;
      fragment = is.2;
    })
    (all_three (fits_form hosts (setting_of profile base parts.scheme) parts.form parts)
    (units_or_none parts.query) (units_or_none parts.fragment)))

-- a text that it takes is valid with these parts
pub is_valid : (hosts : HostDecisions) (profile : Profile) (base : Option Url) (text : List ℕ) (parts : Parts)
    → IsSome (valid_decision hosts profile base text parts) → Valid profile base text parts
is_valid hosts profile base text parts found = proof_of (valid_decision hosts profile base text parts) found
