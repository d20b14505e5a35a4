-- The run of a text with a scheme and a path of segments, without an authority, on which the parser is silent.
use Rattle.std.proofs.Common.{◌≡◌, ℕ, List, [], ◌∷◌, ◌++◌, Option, refl, ap, subst, ◌∙◌}
use Rattle.uv_model.specs.declared.scheme.Class.TheVariants.{Other}
use Rattle.uv_model.specs.declared.path.UrlPath.TheVariants.{Segments}
use Rattle.uv_model.specs.Ascii.{slash, colon}
use Rattle.uv_parser.specs.Machine.{Variables, PathOrAuthorityState, SchemeState, with_more, empty_variables}
use Rattle.uv_model.specs.Parts.{Form, Parts, SchemePath, has_scheme}
use Rattle.uv_model.specs.declared.profile.Profile.TheVariants.{Parser}
use Rattle.uv_model.specs.Path.{IsPathRelative, walk}
use Rattle.uv_model.specs.Scheme.{lowercase, scheme_class}
use Rattle.uv_model.specs.Setting.{setting_of}
use Rattle.uv_parser.specs.Laws.Silence.{RunsSilently}
use Rattle.uv_model.specs.Records.Url.{Url}
use Rattle.uv_model.specs.Valid.{FitsForm, FitsScheme, MayBeUnits, Valid}
use Rattle.uv_parser.proofs.Loops.PathLoops.{walking}
use Rattle.uv_parser.proofs.Loops.PathStarts.{relative_ends}
use Rattle.uv_model.proofs.SchemeLemmas.{scheme_class-lowercase}
use Rattle.uv_parser.proofs.Loops.SchemeStretch.{scheme_variables, colon_row, scheme_there}
use Rattle.uv_parser.proofs.Silence.SilentSchemes.{EndsAfterScheme, HoldsDenoted, denoted_from_variables, runs_kept}
use Rattle.uv_parser.proofs.Silence.SilentSchemes.{written_without_authority}
use Rattle.uv_parser.proofs.Silence.KeptParts.{parser_valid_is_kept}
use Rattle.uv_parser.proofs.Running.Steps.{Ends, ends_past_two, ends_again}
use Rattle.uv_parser.proofs.Loops.Tails.{tail, with_tail, no_slash_before_tail}

-- the variables after the path
abbrev path_variables : List ℕ → List (List ℕ) → Variables
path_variables scheme segments = walking (walk (scheme_class (lowercase scheme)) [] segments) (scheme_variables scheme)

module _ (base : Option Url) where
  -- from the scheme's `:` to the end
  path_ends : (scheme after : List ℕ) (segments : List (List ℕ)) (query fragment : Option (List ℕ))
      → scheme_class scheme ≡ Other → IsPathRelative segments after → MayBeUnits query → MayBeUnits fragment
      → Ends base SchemeState (with_more (lowercase scheme) empty_variables)
      (colon ∷ slash ∷ (after ++ tail query fragment))
      (with_tail query fragment (path_variables scheme segments))
  path_ends scheme after segments query fragment other relative query_units fragment_units =
      let no_slash = no_slash_before_tail after query fragment relative.start in
      ends_past_two base {s₁ = PathOrAuthorityState} {v₁ = scheme_variables scheme}
      (λ p. colon_row base scheme (slash ∷ (after ++ tail query fragment)) p ∙ rw other refl)
      (ends_again base (λ p. rw no_slash refl)
      (relative_ends base query fragment query_units fragment_units segments after (scheme_variables scheme) relative))

  -- the variables after the path are what is denoted
  path_denoted : (scheme : List ℕ) (parts : Parts)
      → HoldsDenoted base parts SchemePath scheme (path_variables scheme parts.segments)
  path_denoted scheme parts =
      record {
        scheme = refl;
        host = refl;
        port = refl;
        path = ap (λ k. Segments (walk k [] parts.segments)) (scheme_class-lowercase scheme);
        query = refl;
      }

-- the run of a text with a scheme and a path, without an authority, on which the parser is silent is done
pub path_done : (base : Option Url) (text : List ℕ) (parts : Parts) → Valid Parser base text parts
    → parts.form ≡ SchemePath
    → RunsSilently base text parts
path_done base text parts silent form =
    let P : Form → Type 0 = λ f. FitsForm (setting_of Parser base parts.scheme) f parts in
    let Q : Form → Type 0 = λ f. FitsScheme (has_scheme f) parts.scheme in
    let fits : FitsForm (setting_of Parser base parts.scheme) SchemePath parts = subst P form silent.form in
    let (scheme, named, is) = scheme_there parts.scheme (subst Q form silent.scheme) in
    let other : scheme_class scheme ≡ Other = rw named at fits.1 in
    let path = fits.2 in
    let slashed = path.slashed in
    let after : EndsAfterScheme base parts scheme (slash ∷ path.after)
    = record {
      url = with_tail parts.query parts.fragment (path_variables scheme parts.segments);
      named = is;
      ends =
          path_ends base scheme path.after parts.segments parts.query parts.fragment other path.relative
          silent.query silent.fragment;
      denoted = denoted_from_variables base parts SchemePath scheme _ refl form named (path_denoted base scheme parts);
    } in
    runs_kept base text parts scheme (slash ∷ path.after) after
    (parser_valid_is_kept base text parts silent)
    (silent.whole ∙ (written_without_authority parts scheme named fits.0.host_text
    ∙ ap (λ xs. scheme ++ colon ∷ (xs ++ tail parts.query parts.fragment)) slashed))
