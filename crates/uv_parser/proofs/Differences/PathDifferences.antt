-- The paths of the parser's profile and of the standard one: where they differ, and that no path of the standard
-- profile has a space.
use Rattle.std.proofs.Common.{◌≡◌, ℕ, true, ◌⊎◌, List, [], ◌∷◌, Option, Some, None, refl, inl}
use Rattle.std.proofs.Common.{inr}
use Rattle.std.proofs.lemmas.Bool.{cases_Bool, false≢true}
use Rattle.uv_model.specs.declared.profile.Profile.TheVariants.{Standard}
use Rattle.uv_model.specs.declared.scheme.Class.{Class}
use Rattle.uv_model.specs.declared.scheme.Class.TheVariants.{SpecialNotFile, File, Other}
use Rattle.uv_model.specs.Ascii.{slash}
use Rattle.uv_model.specs.Cut.{class_in, starts_with_two_slashes}
use Rattle.uv_model.specs.Parts.{Form, SchemeAuthority, SchemePath, SchemeOpaque, Authority, PathAbsolute, PathRelative}
use Rattle.uv_model.specs.Parts.{NoPath, Parts}
use Rattle.uv_model.specs.Path.{MayBePathSlashed, starts_with_slash}
use Rattle.uv_model.specs.Setting.{setting_of}
use Rattle.uv_model.specs.Records.Url.{Url}
use Rattle.uv_model.specs.Valid.{FitsAuthority, FitsForm, FitsHostText}
use Rattle.uv_model.specs.Valid.{MayBePathAfter}
use Rattle.uv_model.specs.Ascii.{space}
use Rattle.uv_model.specs.Path.{IsPathAbsolute, IsTakenSpacedPath, is_without}
use Rattle.uv_model.specs.Setting.{Setting}
use Rattle.uv_model.specs.Units.{is_faultless, is_unit_at}
use Rattle.uv_model.specs.Valid.{IsOpaquePath}
use Rattle.std.proofs.Common.{Bool, false}
use Rattle.std.proofs.lemmas.Bool.{and_parts}
use Rattle.uv_model.proofs.Paths.JoinedSegments.{faultless_joined, faultless_path}
use Rattle.uv_model.proofs.Paths.OpaquePaths.{unit_not_space}
use Rattle.uv_model.proofs.Paths.PathPieces.{path_relative}
use Rattle.uv_model.specs.Path.{pieces}
use Rattle.uv_model.proofs.Paths.SlashedPaths.{alone_or_none, slashed_or_none}
use Rattle.uv_model.proofs.Paths.SpacedPaths.{units_without_space}
use Rattle.uv_model.proofs.Texts.MarkLemmas.{is_without-more}

-- a path that is `/` and any segments is a path-absolute string, or begins with `//`
pub slashed_cases : (segments : List (List ℕ)) (text : List ℕ) → MayBePathSlashed segments text
    → MayBePathAfter Standard segments text ⊎ (starts_with_two_slashes text ≡ true)
slashed_cases segments text (inl none) = inl (inl none)
slashed_cases segments text (inr is) =
    elim (cases_Bool (starts_with_slash is.after)) [
      | inl starts ↦ inr (rw is.slashed (two_slashes is.after starts))
      | inr start ↦
          inl (inr (record {
            after = is.after;
            slashed = is.slashed;
            relative = record { joins = is.joins; start = start };
          }))
    ]
  where
    two_slashes : (after : List ℕ) → starts_with_slash after ≡ true → starts_with_two_slashes (slash ∷ after) ≡ true
    two_slashes [] starts = absurd (false≢true starts)
    two_slashes (c ∷ rest) starts = starts

-- the path after `//`
pub path_after : (class : Class) (setting : Setting) (host_text : List ℕ) (parts : Parts)
    → FitsAuthority class setting host_text parts → MayBePathSlashed parts.segments parts.path_text
path_after SpecialNotFile setting host_text parts fits =
    slashed_or_none setting.profile parts.segments parts.path_text fits.path
path_after File setting host_text parts (no_text, none, inl fits) =
    slashed_or_none setting.profile parts.segments parts.path_text fits.path
path_after File setting host_text parts (no_text, none, inr (empty, valued, path)) =
    alone_or_none setting.profile parts.segments parts.path_text path
path_after Other setting host_text parts (host_and_port, port, path) =
    slashed_or_none setting.profile parts.segments parts.path_text path

-- an opaque path of the parser's profile is a valid text's, or it has a space
pub opaque_or_spaced : (followed : Bool) (text : List ℕ) → IsTakenSpacedPath followed text
    → IsOpaquePath Standard followed text ⊎ (is_without space text ≡ false)
opaque_or_spaced followed text is =
    elim (cases_Bool (is_without space text)) [
      | inl without ↦
          let units = units_without_space text is.spaced.units without in
          inl (pieces text, path_relative text units is.spaced.no_question_mark is.spaced.start)
      | inr spaced ↦ inr spaced
    ]

-- ---- no valid path of the standard profile has a space

-- a text without a fault of units has none
no_space_in : (text : List ℕ) → is_faultless text ≡ true → is_without space text ≡ true
no_space_in [] units = refl
no_space_in (c ∷ rest) units =
    let parts = and_parts (is_unit_at c rest) (is_faultless rest) units in
    is_without-more space c rest (unit_not_space c rest parts.0) (no_space_in rest parts.1)

-- after an authority
no_space_after : (segments : List (List ℕ)) (text : List ℕ) → MayBePathSlashed segments text
    → is_without space text ≡ true
no_space_after segments text (inl (nothing, none)) = rw nothing refl
no_space_after segments text (inr path) =
    rw path.slashed (no_space_in path.after (faultless_joined segments path.after path.joins))

-- in a path-absolute string
no_space_absolute : (segments : List (List ℕ)) (text : List ℕ) → IsPathAbsolute segments text
    → is_without space text ≡ true
no_space_absolute segments text path =
    rw path.slashed (no_space_in path.after (faultless_path segments path.after path.relative))

-- with an authority
no_space_host : (base : Option Url) (parts : Parts) (host_text : Option (List ℕ))
    → FitsHostText (setting_of Standard base parts.scheme) parts host_text → is_without space parts.path_text ≡ true
no_space_host base parts None fits = absurd fits
no_space_host base parts (Some host_text) fits =
    no_space_after parts.segments parts.path_text
    (path_after (class_in base parts.scheme) (setting_of Standard base parts.scheme) host_text parts fits)

-- by the form
pub no_space : (base : Option Url) (form : Form) (parts : Parts)
    → FitsForm (setting_of Standard base parts.scheme) form parts → is_without space parts.path_text ≡ true
no_space base SchemeAuthority parts fits = no_space_host base parts parts.host_text fits
no_space base Authority parts fits = no_space_host base parts parts.host_text fits
no_space base SchemePath parts (none, other, path) = no_space_absolute parts.segments parts.path_text path
no_space base SchemeOpaque parts (none, other, (segments, path), empty) =
    no_space_in parts.path_text (faultless_path segments parts.path_text path)
no_space base PathAbsolute parts (none, path, drive) = no_space_absolute parts.segments parts.path_text path
no_space base PathRelative parts (none, path, some, free) =
    no_space_in parts.path_text (faultless_path parts.segments parts.path_text path)
no_space base NoPath parts (none, nothing, empty) = rw nothing refl
