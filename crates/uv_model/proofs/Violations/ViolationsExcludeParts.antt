-- A valid text has no violation.
use Rattle.std.proofs.Common.{◌≡◌, ◌≢◌, ℕ, Bool, true, false, List, [], ◌∷◌, Option, Some, None, refl, sym, ap, ◌∙◌}
use Rattle.std.proofs.Common.{inl}
use Rattle.std.proofs.Common.{inr, subst}
use Rattle.std.specs.Prelude.{IsSome, is_some, not, ◌&&◌, ◌||◌}
use Rattle.std.proofs.lemmas.Bool.{false≢true}
use Rattle.uv_model.specs.declared.profile.Profile.{Profile}
use Rattle.uv_model.specs.declared.profile.Profile.TheVariants.{Standard, Wide, Parser}
use Rattle.uv_model.specs.declared.scheme.Class.{Class}
use Rattle.uv_model.specs.declared.scheme.Class.TheVariants.{SpecialNotFile, File, Other}
use Rattle.uv_model.specs.declared.rule.Rule.{Rule}
use Rattle.uv_model.specs.declared.rule.Rule.TheVariants.{NoScheme, OpaqueBase, TwoSlashes, HostMissing}
use Rattle.uv_model.specs.declared.rule.Rule.TheVariants.{FirstSegmentEmpty, DriveAfterHost}
use Rattle.uv_model.specs.Ascii.{slash}
use Rattle.uv_model.specs.Path.{IsPathAbsolute, IsPathRelative, IsPathSlashed, IsTakenSpacedPath, starts_with_slash}
use Rattle.uv_model.specs.Path.{starts_with_drive_segment}
use Rattle.uv_model.specs.Units.{IsUnits, is_url_code_point}
use Rattle.uv_model.specs.Records.Url.{Url}
use Rattle.uv_model.specs.Parts.{Form, SchemeAuthority, SchemePath, SchemeOpaque, Authority, PathAbsolute}
use Rattle.uv_model.specs.Parts.{PathRelative, NoPath, Parts, has_scheme, written}
use Rattle.uv_model.specs.Setting.{Setting, setting_of}
use Rattle.uv_model.specs.Valid.{Valid, MayBePathAfter, MayBePortText, MayBeUnits, FitsAuthority, FitsHostText}
use Rattle.uv_model.specs.Valid.{FitsForm, FitsScheme, FitsBase, FitsDrive, HasNoAuthority, IsPathAlone}
use Rattle.uv_model.specs.Valid.{IsWithoutDrive}
use Rattle.uv_model.specs.Cut.{Cut, texts_of, class_in, starts_with_two_slashes, query_place, fragment_place}
use Rattle.uv_model.specs.Cut.{ends_at_host, is_followed}
use Rattle.uv_model.specs.Violations.OpaqueHostViolation.{OpaqueHostViolation}
use Rattle.uv_model.specs.Violations.Violation.{StartViolation, HostTextViolation, HostViolation, PathStartViolation}
use Rattle.uv_model.specs.Violations.Violation.{HasEmptyFirst, HostPartViolation, PortPartViolation}
use Rattle.uv_model.specs.Violations.Violation.{MayBeUnitViolation, HasHost, ViolationOf, Violation}
use Rattle.uv_model.specs.Violations.Violation.{starts_with_number_sign, HasDrive, HasOpaquePath, LacksFileHost}
use Rattle.uv_model.specs.Violations.Violation.{PathContentViolation, has_opaque_path}
use Rattle.uv_model.specs.Laws.Cuts.{TextsWithAViolationHaveNoParts}
use Rattle.uv_model.proofs.Texts.UnitsLemmas.{IsUnits-nil, IsUnits-unit}
use Rattle.uv_model.proofs.Violations.UnitViolationLemmas.{no_violation-units}
use Rattle.uv_model.proofs.Violations.SpacedPathLemmas.{path_violation-unit, taken_faultless}
use Rattle.uv_model.proofs.Paths.PathLemmas.{IsUnits-join}
use Rattle.uv_model.proofs.Paths.SlashedPaths.{slashed_absolute, slashed_after}
use Rattle.uv_model.proofs.Cuts.ValidCutLemmas.{absolute_without_two_slashes, without_slash_without_two, valid_texts}
use Rattle.uv_model.proofs.Violations.ViolationLemmas.{cut_with}
use Rattle.uv_model.proofs.Violations.RefusedLemmas.{none_of_host, none_of_port}
use Rattle.uv_model.proofs.Violations.FaultlessHosts.{host_not_empty, host_text_faultless, file_host_is_host}
use Rattle.uv_model.proofs.Violations.FaultlessHosts.{empty_host_faultless, opaque_host_faultless}
use Rattle.uv_model.proofs.Violations.FaultlessHosts.{empty_opaque_faultless, port_faultless}
use Rattle.uv_model.proofs.Hosts.HostUniqueness.{opaque_not_empty}

-- ---- the host, by the class

-- a host that is there and has no violation of what it holds, of class SpecialNotFile
pub special_host_faultless : (profile : Profile) (last : Bool) (text : List ℕ) (port_text : Option (List ℕ))
    (path_text : List ℕ) → text ≢ []
    → ((rule : Rule) → HostTextViolation profile SpecialNotFile last text rule → ⊥) → (place : ℕ) (rule : Rule)
    → HostViolation profile SpecialNotFile last text port_text path_text place rule → ⊥
special_host_faultless profile last text port_text path_text some none place HostMissing h = some h.0
special_host_faultless profile last text port_text path_text some none place rule h = none rule h.0

-- of class File
file_host_faultless : (profile : Profile) (last : Bool) (text : List ℕ) (port_text : Option (List ℕ))
    (path_text : List ℕ) → (LacksFileHost profile text path_text → ⊥)
    → ((rule : Rule) → HostTextViolation profile File last text rule → ⊥) → (place : ℕ) (rule : Rule)
    → HostViolation profile File last text port_text path_text place rule → ⊥
file_host_faultless profile last text port_text path_text there none place HostMissing (lacks, at) = there lacks
file_host_faultless profile last text port_text path_text there none place rule h = none rule h.0

-- of class Other
other_host_faultless : (profile : Profile) (last : Bool) (text : List ℕ) (port_text : Option (List ℕ))
    (path_text : List ℕ) → (text ≡ [] → port_text ≡ None)
    → ((place : ℕ) (rule : Rule) → OpaqueHostViolation text place rule → ⊥) → (place : ℕ) (rule : Rule)
    → HostViolation profile Other last text port_text path_text place rule → ⊥
other_host_faultless profile last text port_text path_text alone none place HostMissing ((nothing, some), at) =
    false≢true (subst (λ (o : Option (List ℕ)). IsSome o) (alone nothing) some)
other_host_faultless profile last text port_text path_text alone none place rule h = none place rule h

-- `/` and any segments begin with `/`
slashed_start : (segments : List (List ℕ)) (text : List ℕ) → IsPathSlashed segments text
    → starts_with_slash text ≡ true
slashed_start segments text is = rw is.slashed refl

-- a host that is there isn't missing
pub host_there : (profile : Profile) (text path_text : List ℕ) → text ≢ [] → LacksFileHost profile text path_text → ⊥
host_there Standard text path_text some (nothing, bare) = some nothing
host_there Wide text path_text some (nothing, bare) = some nothing
host_there Parser text path_text some lacks = lacks

-- nor is one that may be empty before the path
path_alone_there : (profile : Profile) (segments : List (List ℕ)) (text path_text : List ℕ)
    → IsPathAlone profile segments path_text → LacksFileHost profile text path_text → ⊥
path_alone_there Standard segments text path_text path (nothing, bare) =
    false≢true (sym bare ∙ slashed_start segments path_text (slashed_after Standard segments path_text path))
path_alone_there Wide segments text path_text path (nothing, bare) =
    false≢true (sym bare ∙ slashed_start segments path_text (slashed_after Wide segments path_text path))
path_alone_there Parser segments text path_text path lacks = lacks

-- what fits the class has no violation of the host
authority_host_faultless : (class : Class) (setting : Setting) (text : List ℕ) (parts : Parts)
    → FitsAuthority class setting text parts → (place : ℕ) (rule : Rule)
    → HostViolation setting.profile class (ends_at_host (texts_of parts)) text parts.port_text parts.path_text place
    rule → ⊥
authority_host_faultless SpecialNotFile setting text parts is =
    special_host_faultless setting.profile (ends_at_host (texts_of parts)) text parts.port_text parts.path_text
    (host_not_empty setting.profile text is.value is.host)
    (host_text_faultless setting.profile SpecialNotFile (ends_at_host (texts_of parts)) text is.value is.unstopped
    is.host)
authority_host_faultless File setting text parts (no_port, absent, inl named) =
    let (other, is) = file_host_is_host setting.profile text named.value named.host in
    file_host_faultless setting.profile (ends_at_host (texts_of parts)) text parts.port_text parts.path_text
    (host_there setting.profile text parts.path_text (host_not_empty setting.profile text other is))
    (host_text_faultless setting.profile File (ends_at_host (texts_of parts)) text other named.unstopped is)
authority_host_faultless File setting text parts (no_port, absent, inr (nothing, valued, path)) =
    let last = ends_at_host (texts_of parts) in
    let none : (rule : Rule) → HostTextViolation setting.profile File last text rule
    → ⊥ = rw nothing (empty_host_faultless setting.profile File last) in
    file_host_faultless setting.profile last text parts.port_text parts.path_text
    (path_alone_there setting.profile parts.segments text parts.path_text path) none
authority_host_faultless Other setting text parts (inl (host, port), given, path) =
    other_host_faultless setting.profile (ends_at_host (texts_of parts)) text parts.port_text parts.path_text
    (λ nothing. absurd (opaque_not_empty text parts.host host nothing))
    (opaque_host_faultless text parts.host host)
authority_host_faultless Other setting text parts (inr (nothing, valued, no_port), given, path) =
    let none : (place : ℕ) (rule : Rule) → OpaqueHostViolation text place rule → ⊥
    = rw nothing empty_opaque_faultless in
    other_host_faultless setting.profile (ends_at_host (texts_of parts)) text parts.port_text parts.path_text
    (λ same. no_port) none

-- the port is a valid one, if there is any
authority_port : (class : Class) (setting : Setting) (text : List ℕ) (parts : Parts)
    → FitsAuthority class setting text parts
    → MayBePortText parts.port_text
authority_port SpecialNotFile setting text parts is = is.port_text
authority_port File setting text parts is = rw is.0 tt
authority_port Other setting text parts (inl (host, port), given, path) = port
authority_port Other setting text parts (inr (nothing, valued, no_port), given, path) = rw no_port tt

-- a path without a host before it is one after an authority, where there is one
path_alone_after : (profile : Profile) (segments : List (List ℕ)) (text : List ℕ)
    → IsPathAlone profile segments text → MayBePathAfter profile segments text
path_alone_after Standard segments text path = inr path
path_alone_after Wide segments text path = inr path
path_alone_after Parser segments text path = path

-- the path is a valid one
authority_path : (class : Class) (setting : Setting) (text : List ℕ) (parts : Parts)
    → FitsAuthority class setting text parts
    → MayBePathAfter setting.profile parts.segments parts.path_text
authority_path SpecialNotFile setting text parts is = is.path
authority_path File setting text parts (no_port, absent, inl named) = named.path
authority_path File setting text parts (no_port, absent, inr (nothing, valued, path)) =
    path_alone_after setting.profile parts.segments parts.path_text path
authority_path Other setting text parts is = is.2

-- a path with a drive letter is after no host
authority_drive : (class : Class) (setting : Setting) (text : List ℕ) (parts : Parts)
    → FitsAuthority class setting text parts
    → class ≡ File → text ≢ [] → IsWithoutDrive setting.profile parts.path_text
authority_drive SpecialNotFile setting text parts is class some = absurd cc
authority_drive File setting text parts (no_port, absent, inl named) class some = named.no_drive
authority_drive File setting text parts (no_port, absent, inr (nothing, valued, path)) class some =
    absurd (some nothing)
authority_drive Other setting text parts is class some = absurd cc

-- ---- paths

-- a text that doesn't begin with `/` doesn't begin with a drive letter after one
slash_before_drive : (text : List ℕ) → starts_with_slash text ≡ false → starts_with_drive_segment text ≡ false
slash_before_drive [] none = refl
slash_before_drive (c ∷ []) none = refl
slash_before_drive (c ∷ d ∷ []) none = refl
slash_before_drive (c ∷ d ∷ e ∷ []) none = refl
slash_before_drive (c ∷ d ∷ e ∷ f ∷ rest) none = rw none refl

-- the texts of paths are units
slashed_units : (segments : List (List ℕ)) (text : List ℕ) → IsPathSlashed segments text → IsUnits text
unfolding is_url_code_point
slashed_units segments text is =
    let after : IsUnits is.after = rw is.joins.joined (IsUnits-join segments is.joins.each) in
    rw is.slashed (IsUnits-unit (slash ∷ []) is.after refl after)

absolute_units : (segments : List (List ℕ)) (text : List ℕ) → IsPathAbsolute segments text → IsUnits text
absolute_units segments text is = slashed_units segments text (slashed_absolute segments text is)

relative_units : (segments : List (List ℕ)) (text : List ℕ) → IsPathRelative segments text → IsUnits text
relative_units segments text is = rw is.joins.joined (IsUnits-join segments is.joins.each)

after_units : (profile : Profile) (segments : List (List ℕ)) (text : List ℕ)
    → MayBePathAfter profile segments text → IsUnits text
after_units profile segments text (inl (nothing, none)) = rw nothing IsUnits-nil
after_units profile segments text (inr is) = slashed_units segments text (slashed_after profile segments text is)

-- a path after an authority has no empty first segment that the profile forbids
after_start : (profile : Profile) (segments : List (List ℕ)) (text : List ℕ)
    → MayBePathAfter profile segments text → HasEmptyFirst profile text → ⊥
after_start Standard segments text (inl (nothing, none)) empty = false≢true (rw nothing at empty)
after_start Standard segments text (inr is) empty =
    false≢true (sym (absolute_without_two_slashes segments text is) ∙ empty)
after_start Wide segments text is empty = empty
after_start Parser segments text is empty = empty

-- nor has one that doesn't begin with `//`
pub one_slash_start : (profile : Profile) (text : List ℕ) → starts_with_two_slashes text ≡ false
    → HasEmptyFirst profile text → ⊥
one_slash_start Standard text start empty = false≢true (sym start ∙ empty)
one_slash_start Wide text start empty = empty
one_slash_start Parser text start empty = empty

-- a path without a drive letter that the profile forbids
no_drive : (profile : Profile) (text : List ℕ) → IsWithoutDrive profile text → HasDrive profile text → ⊥
no_drive Standard text bare drive = false≢true (sym bare ∙ drive)
no_drive Wide text bare drive = false≢true (sym bare ∙ drive)
no_drive Parser text bare drive = drive

-- a path without a drive letter
without_drive : (profile : Profile) (text : List ℕ) → starts_with_drive_segment text ≡ false
    → IsWithoutDrive profile text
without_drive Standard text bare = bare
without_drive Wide text bare = bare
without_drive Parser text bare = tt

-- ---- the parts checked if no rule of the start is violated

-- with an authority, whose host text is there
host_part_faultless : (setting : Setting) (parts : Parts) (host_text : Option (List ℕ))
    → FitsHostText setting parts host_text
    → (place : ℕ) (rule : Rule)
    → HostPartViolation setting
    (cut_with parts.scheme host_text parts.port_text parts.path_text parts.query parts.fragment) place rule
    → ⊥
host_part_faultless setting parts None is place rule h = is
host_part_faultless setting parts (Some text) is place rule h =
    authority_host_faultless setting.class setting text parts is h.inner rule h.holds

port_part_faultless : (cut : Cut) → MayBePortText cut.port_text → (place : ℕ) (rule : Rule)
    → PortPartViolation cut place rule → ⊥
port_part_faultless cut is = go cut.scheme cut.host_text cut.port_text cut.path_text cut.query cut.fragment is
  where
    go : (scheme host_text port_text : Option (List ℕ)) (path_text : List ℕ) (query fragment : Option (List ℕ))
        → MayBePortText port_text → (place : ℕ) (rule : Rule)
        → PortPartViolation (cut_with scheme host_text port_text path_text query fragment) place rule → ⊥
    go scheme None port_text path_text query fragment is place rule h = h
    go scheme (Some host_text) None path_text query fragment is place rule h = h
    go scheme (Some host_text) (Some port_text) path_text query fragment is place rule h =
        port_faultless port_text is h.inner rule h.holds

authority_port_fits : (setting : Setting) (parts : Parts) (host_text : Option (List ℕ))
    → FitsHostText setting parts host_text
    → MayBePortText parts.port_text
authority_port_fits setting parts None is = absurd is
authority_port_fits setting parts (Some text) is = authority_port setting.class setting text parts is

authority_path_fits : (setting : Setting) (parts : Parts) (host_text : Option (List ℕ))
    → FitsHostText setting parts host_text
    → MayBePathAfter setting.profile parts.segments parts.path_text
authority_path_fits setting parts None is = absurd is
authority_path_fits setting parts (Some text) is = authority_path setting.class setting text parts is

path_start_after : (setting : Setting) (parts : Parts) (host_text : Option (List ℕ))
    → FitsHostText setting parts host_text
    → (place : ℕ) (rule : Rule)
    → PathStartViolation setting
    (cut_with parts.scheme host_text parts.port_text parts.path_text parts.query parts.fragment) place rule
    → ⊥
path_start_after setting parts None is place rule h = is
path_start_after setting parts (Some text) is place FirstSegmentEmpty (empty, at) =
    after_start setting.profile parts.segments parts.path_text (authority_path_fits setting parts (Some text) is) empty
path_start_after setting parts (Some text) is place DriveAfterHost (class, some, drive, at) =
    no_drive setting.profile parts.path_text
    (authority_drive setting.class setting text parts is class some) drive
path_start_after setting parts (Some text) is place _ h = h

-- without an authority
path_start_alone : (setting : Setting) (cut : Cut) → cut.host_text ≡ None
    → starts_with_two_slashes cut.path_text ≡ false
    → (setting.class ≡ File → HasHost setting.base cut.scheme None → IsWithoutDrive setting.profile cut.path_text)
    → (place : ℕ) (rule : Rule) → PathStartViolation setting cut place rule → ⊥
path_start_alone setting cut none start bare place FirstSegmentEmpty (empty, at) =
    one_slash_start setting.profile cut.path_text start empty
path_start_alone setting cut none start bare place DriveAfterHost (class, some, drive, at) =
    let host : HasHost setting.base cut.scheme None =
    subst (λ (o : Option (List ℕ)). HasHost setting.base cut.scheme o) none some in
    no_drive setting.profile cut.path_text (bare class host) drive
path_start_alone setting cut none start bare place _ h = h

-- what is checked has no violation
pub record IsFaultless (setting : Setting) (parts : Parts) : Type 0 where
  pub host : (place : ℕ) (rule : Rule) → HostPartViolation setting (texts_of parts) place rule → ⊥
  pub port : (place : ℕ) (rule : Rule) → PortPartViolation (texts_of parts) place rule → ⊥
  pub start : (place : ℕ) (rule : Rule) → PathStartViolation setting (texts_of parts) place rule → ⊥
  pub path : (place : ℕ) (rule : Rule) → PathContentViolation setting (texts_of parts) place rule → ⊥

-- a path of units has no violation of what it holds
units_faultless : (setting : Setting) (cut : Cut) → IsUnits cut.path_text → (place : ℕ) (rule : Rule)
    → PathContentViolation setting cut place rule → ⊥
units_faultless setting cut units place rule h =
    no_violation-units cut.path_text units place rule
    (path_violation-unit setting.profile (has_opaque_path setting.class cut) (is_followed cut) cut.path_text place rule
    h)

faultless_with : (setting : Setting) (parts : Parts) → FitsHostText setting parts parts.host_text
    → IsFaultless setting parts
faultless_with setting parts is = record {
  host = host_part_faultless setting parts parts.host_text is;
  port = port_part_faultless (texts_of parts) (authority_port_fits setting parts parts.host_text is);
  start = path_start_after setting parts parts.host_text is;
  path =
      units_faultless setting (texts_of parts)
      (after_units setting.profile parts.segments parts.path_text
      (authority_path_fits setting parts parts.host_text is));
}

faultless_without : (setting : Setting) (parts : Parts) → HasNoAuthority parts
    → ((place : ℕ) (rule : Rule) → PathContentViolation setting (texts_of parts) place rule → ⊥)
    → starts_with_two_slashes parts.path_text ≡ false
    → (setting.class ≡ File → HasHost setting.base parts.scheme None → IsWithoutDrive setting.profile parts.path_text)
    → IsFaultless setting parts
faultless_without setting parts none path start bare = record {
  host = none_of_host setting (texts_of parts) none.host_text;
  port = none_of_port (texts_of parts) none.port_text;
  start = path_start_alone setting (texts_of parts) none.host_text start bare;
  path = path;
}

-- a class that isn't File
other_no_drive : (setting : Setting) (parts : Parts) → setting.class ≡ Other
    → setting.class ≡ File → HasHost setting.base parts.scheme None → IsWithoutDrive setting.profile parts.path_text
other_no_drive setting parts other class host = absurd cc

-- a path-absolute reference
reference_drive : (profile : Profile) (base : Option Url) (scheme : Option (List ℕ)) (path : List ℕ) → scheme ≡ None
    → FitsDrive profile base path → class_in base scheme ≡ File → HasHost base scheme None
    → IsWithoutDrive profile path
reference_drive profile None None path none is class host = absurd host
reference_drive profile None (Some scheme) path none is class host = absurd host
reference_drive profile (Some url) None path none is class host = is class host
reference_drive profile (Some url) (Some scheme) path none is class host = absurd host

-- an opaque path of the parser's profile
opaque_path_faultless : (base : Option Url) (parts : Parts) → FitsScheme true parts.scheme → HasNoAuthority parts
    → class_in base parts.scheme ≡ Other → IsTakenSpacedPath (is_followed (texts_of parts)) parts.path_text
    → (place : ℕ) (rule : Rule)
    → PathContentViolation (setting_of Parser base parts.scheme) (texts_of parts) place rule → ⊥
opaque_path_faultless base parts scheme none other is =
    let opaque : has_opaque_path (class_in base parts.scheme) (texts_of parts) ≡ true
    = rw other (is_opaque parts.scheme parts.host_text scheme none.host_text) in
    rw opaque (taken_faultless (is_followed (texts_of parts)) parts.path_text is)
  where
    is_opaque : (given host_text : Option (List ℕ)) → FitsScheme true given → host_text ≡ None
        → (is_some given && not (is_some host_text || starts_with_slash parts.path_text)) ≡ true
    is_opaque None host_text scheme absent = absurd scheme
    is_opaque (Some given) host_text scheme absent = rw (absent, is.spaced.start) refl

-- one of the written profiles
opaque_units : (profile : Profile) (base : Option Url) (parts : Parts) → HasNoAuthority parts
    → class_in base parts.scheme ≡ Other → (segments : List (List ℕ)) → IsPathRelative segments parts.path_text
    → IsFaultless (setting_of profile base parts.scheme) parts
opaque_units profile base parts none other segments path =
    let setting = setting_of profile base parts.scheme in
    faultless_without setting parts none
    (units_faultless setting (texts_of parts) (relative_units segments parts.path_text path))
    (without_slash_without_two parts.path_text path.start) (other_no_drive setting parts other)

-- an opaque path under the profile
opaque_faultless : (profile : Profile) (base : Option Url) (parts : Parts) → FitsScheme true parts.scheme
    → FitsForm (setting_of profile base parts.scheme) SchemeOpaque parts
    → IsFaultless (setting_of profile base parts.scheme) parts
opaque_faultless Standard base parts scheme (none, other, (segments, path), empty) =
    opaque_units Standard base parts none other segments path
opaque_faultless Wide base parts scheme (none, other, (segments, path), empty) =
    opaque_units Wide base parts none other segments path
opaque_faultless Parser base parts scheme (none, other, path, empty) =
    faultless_without (setting_of Parser base parts.scheme) parts none
    (opaque_path_faultless base parts scheme none other path)
    (without_slash_without_two parts.path_text path.spaced.start)
    (other_no_drive (setting_of Parser base parts.scheme) parts other)

-- in each form
pub faultless_form : (profile : Profile) (base : Option Url) (form : Form) (parts : Parts)
    → FitsForm (setting_of profile base parts.scheme) form parts
    → FitsScheme (has_scheme form) parts.scheme → IsFaultless (setting_of profile base parts.scheme) parts
faultless_form profile base SchemeAuthority parts is scheme =
    faultless_with (setting_of profile base parts.scheme) parts is
faultless_form profile base Authority parts is scheme = faultless_with (setting_of profile base parts.scheme) parts is
faultless_form profile base SchemePath parts (none, other, path) scheme =
    let setting = setting_of profile base parts.scheme in
    faultless_without setting parts none
    (units_faultless setting (texts_of parts) (absolute_units parts.segments parts.path_text path))
    (absolute_without_two_slashes parts.segments parts.path_text path) (other_no_drive setting parts other)
faultless_form profile base SchemeOpaque parts is scheme = opaque_faultless profile base parts scheme is
faultless_form profile base PathAbsolute parts (none, path, drive) scheme =
    let setting = setting_of profile base parts.scheme in
    faultless_without setting parts none
    (units_faultless setting (texts_of parts) (absolute_units parts.segments parts.path_text path))
    (absolute_without_two_slashes parts.segments parts.path_text path)
    (reference_drive profile base parts.scheme parts.path_text scheme drive)
faultless_form profile base PathRelative parts (none, path, some, free) scheme =
    let setting = setting_of profile base parts.scheme in
    faultless_without setting parts none
    (units_faultless setting (texts_of parts) (relative_units parts.segments parts.path_text path))
    (without_slash_without_two parts.path_text path.start)
    (λ class host. without_drive profile parts.path_text (slash_before_drive parts.path_text path.start))
faultless_form profile base NoPath parts (none, nothing, empty) scheme =
    let setting = setting_of profile base parts.scheme in
    faultless_without setting parts none (units_faultless setting (texts_of parts) (rw nothing IsUnits-nil))
    (ap starts_with_two_slashes nothing)
    (λ class host. without_drive profile parts.path_text (ap starts_with_drive_segment nothing))

-- ---- the start

-- a text against no base has a scheme
base_or_scheme : (base : Option Url) (parts : Parts) → FitsBase base parts → base ≡ None → parts.scheme ≡ None → ⊥
base_or_scheme None parts is none absent = false≢true (subst (λ (o : Option (List ℕ)). IsSome o) absent is)
base_or_scheme (Some url) parts is none absent = cc

-- a text that is only a fragment begins with `#`
fragment_alone : (text : List ℕ) (parts : Parts) → text ≡ written parts → parts.scheme ≡ None → HasNoAuthority parts
    → parts.path_text ≡ [] → parts.query ≡ None → (fragment : Option (List ℕ)) → parts.fragment ≡ fragment
    → IsSome fragment
    → starts_with_number_sign text ≡ true
unfolding written
fragment_alone text parts whole scheme none path query None same some = absurd (false≢true some)
fragment_alone text parts whole scheme none path query (Some fragment) same some =
    rw (whole, scheme, none.host_text, path, query, same) refl

-- in a text without a path
no_path : (setting : Setting) (form : Form) (parts : Parts) → FitsForm setting form parts → form ≡ NoPath
    → HasNoAuthority parts × (parts.path_text ≡ [])
no_path setting SchemeAuthority parts is same = absurd cc
no_path setting SchemePath parts is same = absurd cc
no_path setting SchemeOpaque parts is same = absurd cc
no_path setting Authority parts is same = absurd cc
no_path setting PathAbsolute parts is same = absurd cc
no_path setting PathRelative parts is same = absurd cc
no_path setting NoPath parts is same = (is.0, is.1)

-- a base with an opaque path lets only a fragment through
opaque_or_fragment : (profile : Profile) (base : Option Url) (text : List ℕ) (parts : Parts)
    → Valid profile base text parts → FitsBase base parts → parts.scheme ≡ None → HasOpaquePath base
    → starts_with_number_sign text ≡ true
opaque_or_fragment profile None text parts valid is none opaque = absurd opaque
opaque_or_fragment profile (Some url) text parts valid (inl some) none opaque =
    absurd (false≢true (subst (λ (o : Option (List ℕ)). IsSome o) none some))
opaque_or_fragment profile (Some url) text parts valid (inr (inl other)) none opaque =
    absurd (false≢true (sym other ∙ opaque))
opaque_or_fragment profile (Some url) text parts valid (inr (inr (form, query, some))) none opaque =
    let alone = no_path (setting_of profile (Some url) parts.scheme) parts.form parts valid.form form in
    fragment_alone text parts valid.whole none alone.0 alone.1 query parts.fragment refl some

-- with a scheme the base gives no class
pub class_with_scheme : (base : Option Url) (scheme : Option (List ℕ)) → IsSome scheme
    → class_in base scheme ≡ class_in None scheme
class_with_scheme base None some = absurd (false≢true some)
class_with_scheme base (Some scheme) some = refl

-- a scheme other than of class Other is before an authority
slashes_needed : (setting : Setting) (form : Form) (parts : Parts) → FitsForm setting form parts
    → FitsScheme (has_scheme form) parts.scheme → IsSome parts.scheme → setting.class ≢ Other
    → parts.host_text ≡ None → ⊥
slashes_needed setting SchemeAuthority parts is scheme some class none =
    subst (λ (o : Option (List ℕ)). FitsHostText setting parts o) none is
slashes_needed setting SchemePath parts (alone, other, path) scheme some class none =
    class other
slashes_needed setting SchemeOpaque parts (alone, other, path, empty) scheme some class none =
    class other
slashes_needed setting Authority parts is scheme some class none =
    false≢true (subst (λ (o : Option (List ℕ)). IsSome o) scheme some)
slashes_needed setting PathAbsolute parts is scheme some class none =
    false≢true (subst (λ (o : Option (List ℕ)). IsSome o) scheme some)
slashes_needed setting PathRelative parts is scheme some class none =
    false≢true (subst (λ (o : Option (List ℕ)). IsSome o) scheme some)
slashes_needed setting NoPath parts is scheme some class none =
    false≢true (subst (λ (o : Option (List ℕ)). IsSome o) scheme some)

-- a valid text violates no rule of the start
start_faultless : (profile : Profile) (base : Option Url) (text : List ℕ) (parts : Parts)
    → Valid profile base text parts
    → (place : ℕ) (rule : Rule)
    → StartViolation (setting_of profile base parts.scheme) text (texts_of parts) place rule → ⊥
start_faultless profile base text parts valid place NoScheme (none, no_base, at) =
    base_or_scheme base parts valid.against no_base none
start_faultless profile base text parts valid place OpaqueBase (none, opaque, more, at) =
    false≢true (sym more ∙ opaque_or_fragment profile base text parts valid valid.against none opaque)
start_faultless profile base text parts valid place TwoSlashes ((some, class, none), at) =
    slashes_needed (setting_of profile base parts.scheme) parts.form parts valid.form valid.scheme some class none
start_faultless profile base text parts valid place _ h = h

-- ---- the whole text

-- units have no violation, at whichever place they begin
may_be_faultless : (start : ℕ) (text : Option (List ℕ)) → MayBeUnits text → (place : ℕ) (rule : Rule)
    → MayBeUnitViolation start text place rule → ⊥
may_be_faultless start None is place rule h = h
may_be_faultless start (Some text) is place rule h = no_violation-units text is h.inner rule h.holds

-- a valid text with the cut of its parts has no violation
faultless_cut : (profile : Profile) (base : Option Url) (text : List ℕ) (parts : Parts)
    → Valid profile base text parts → (place : ℕ) (rule : Rule)
    → ViolationOf (setting_of profile base parts.scheme) text (texts_of parts) place rule → ⊥
faultless_cut profile base text parts valid place rule (inl start) =
    start_faultless profile base text parts valid place rule start
faultless_cut profile base text parts valid place rule (inr (inl (started, inl h))) =
    (faultless_form profile base parts.form parts valid.form valid.scheme).host place rule h
faultless_cut profile base text parts valid place rule (inr (inl (started, inr (inl h)))) =
    (faultless_form profile base parts.form parts valid.form valid.scheme).port place rule h
faultless_cut profile base text parts valid place rule (inr (inl (started, inr (inr h)))) =
    (faultless_form profile base parts.form parts valid.form valid.scheme).start h.inner rule h.holds
faultless_cut profile base text parts valid place rule (inr (inr (inl h))) =
    (faultless_form profile base parts.form parts valid.form valid.scheme).path h.inner rule h.holds
faultless_cut profile base text parts valid place rule (inr (inr (inr (inl h)))) =
    may_be_faultless (query_place (texts_of parts)) parts.query valid.query place rule h
faultless_cut profile base text parts valid place rule (inr (inr (inr (inr h)))) =
    may_be_faultless (fragment_place (texts_of parts)) parts.fragment valid.fragment place rule h

-- a text with a violation has no valid parts
pub faultless : TextsWithAViolationHaveNoParts
unfolding Violation
faultless profile base text place rule violation parts valid =
    faultless_cut profile base text parts valid place rule
    (subst (λ (cut : Cut). ViolationOf (setting_of profile base cut.scheme) text cut place rule)
    (sym (valid_texts profile base text parts valid)) violation)
