-- The run of a text with an opaque path on which the parser is silent.
use Rattle.std.proofs.Common.{◌≡◌, ℕ, Bool, false, List, [], ◌∷◌, ◌++◌, Option, refl, subst, ◌∙◌}
use Rattle.std.specs.Prelude.{◌||◌, is_some}
use Rattle.uv_model.specs.declared.scheme.Class.TheVariants.{Other}
use Rattle.uv_model.specs.declared.path.UrlPath.TheVariants.{Opaque}
use Rattle.uv_model.specs.Ascii.{colon}
use Rattle.uv_model.specs.Encoding.{encoded}
use Rattle.uv_parser.specs.Machine.{Variables, OpaquePathState, SchemeState, with_more, with_path, empty_variables}
use Rattle.uv_model.specs.Parts.{Form, Parts, SchemeOpaque, has_scheme}
use Rattle.uv_model.specs.Records.Denote.{end_escaped, has_tail}
use Rattle.uv_model.specs.Scheme.{lowercase, scheme_class}
use Rattle.uv_parser.specs.Laws.Silence.{RunsSilently}
use Rattle.uv_model.specs.Records.Url.{Url}
use Rattle.uv_model.specs.Valid.{FitsScheme, MayBeUnits, Valid, FitsForm}
use Rattle.uv_parser.proofs.Loops.Looping.{opaque_path_law}
use Rattle.uv_parser.proofs.Loops.SchemeStretch.{scheme_variables, colon_row, scheme_there}
use Rattle.uv_parser.proofs.Silence.SilentSchemes.{EndsAfterScheme, HoldsDenoted, denoted_from_variables, runs_kept}
use Rattle.uv_parser.proofs.Silence.SilentSchemes.{written_without_authority}
use Rattle.uv_parser.proofs.Silence.KeptParts.{parser_valid_is_kept}
use Rattle.uv_model.specs.Path.{IsSpacedPath}
use Rattle.uv_parser.proofs.Running.Steps.{Ends, ends_after, ends_step}
use Rattle.uv_parser.proofs.Loops.Tails.{tail, with_tail, TurnsToTail, tail_begins, tail_ends}
use Rattle.uv_parser.proofs.Loops.Tails.{no_slash_before_tail}
use Rattle.uv_model.specs.declared.profile.Profile.TheVariants.{Parser}
use Rattle.uv_model.specs.Setting.{setting_of}

-- the variables after the path, where the flag says that a query or a fragment follows
abbrev path_variables : Bool → List ℕ → List ℕ → Variables
path_variables followed scheme path =
    with_path (Opaque (encoded false (end_escaped followed path))) (scheme_variables scheme)

module _ (base : Option Url) where
  -- after the path the tail ends the run
  opaque_tail : (followed : Bool) (scheme path : List ℕ)
      → TurnsToTail base OpaquePathState (path_variables followed scheme path) (path_variables followed scheme path)
  opaque_tail followed scheme path =
      record { at_end = λ p. refl; at_query = λ p rest. refl; at_fragment = λ p rest. refl }

  -- from the scheme's `:` to the end
  opaque_ends : (scheme path : List ℕ) (query fragment : Option (List ℕ))
      → scheme_class scheme ≡ Other → IsSpacedPath path → MayBeUnits query → MayBeUnits fragment
      → Ends base SchemeState (with_more (lowercase scheme) empty_variables) (colon ∷ (path ++ tail query fragment))
      (with_tail query fragment (path_variables (is_some query || is_some fragment) scheme path))
  opaque_ends scheme path query fragment other spaced query_units fragment_units =
      let no_slash = no_slash_before_tail path query fragment spaced.start in
      let law = opaque_path_law base path (tail query fragment) [] (scheme_variables scheme)
      spaced.units spaced.no_question_mark in
      ends_step base (λ p. colon_row base scheme (path ++ tail query fragment) p ∙ rw (other, no_slash) refl)
      (ends_after base (rw (tail_begins query fragment) at law)
      (tail_ends base OpaquePathState _ _ query fragment
      (opaque_tail (is_some query || is_some fragment) scheme path) query_units fragment_units))

  -- the variables after the path are what is denoted
  opaque_denoted : (scheme : List ℕ) (parts : Parts)
      → HoldsDenoted base parts SchemeOpaque scheme (path_variables (has_tail parts) scheme parts.path_text)
  opaque_denoted scheme parts = record { scheme = refl; host = refl; port = refl; path = refl; query = refl }

-- the run of a text with an opaque path on which the parser is silent is done
pub opaque_done : (base : Option Url) (text : List ℕ) (parts : Parts) → Valid Parser base text parts
    → parts.form ≡ SchemeOpaque
    → RunsSilently base text parts
opaque_done base text parts silent form =
    let P : Form → Type 0 = λ f. FitsForm (setting_of Parser base parts.scheme) f parts in
    let Q : Form → Type 0 = λ f. FitsScheme (has_scheme f) parts.scheme in
    let fits : FitsForm (setting_of Parser base parts.scheme) SchemeOpaque parts = subst P form silent.form in
    let (scheme, named, is) = scheme_there parts.scheme (subst Q form silent.scheme) in
    let other : scheme_class scheme ≡ Other = rw named at fits.1 in
    let after : EndsAfterScheme base parts scheme parts.path_text
    = record {
      url = with_tail parts.query parts.fragment (path_variables (has_tail parts) scheme parts.path_text);
      named = is;
      ends =
          opaque_ends base scheme parts.path_text parts.query parts.fragment other fits.2.spaced silent.query
          silent.fragment;
      denoted =
          denoted_from_variables base parts SchemeOpaque scheme _ refl form named (opaque_denoted base scheme parts);
    } in
    runs_kept base text parts scheme parts.path_text after
    (parser_valid_is_kept base text parts silent)
    (silent.whole ∙ written_without_authority parts scheme named fits.0.host_text)
