-- A text with a scheme of class Other and an opaque path: it is valid under the parser's profile, or its run stops.
use Rattle.std.proofs.Common.{◌≡◌, ℕ, true, false, ◌⊎◌, List, [], ◌∷◌, ◌++◌, Option, Some, None, refl, ◌∙◌, inl, inr}
use Rattle.std.proofs.lemmas.Bool.{cases_Bool}
use Rattle.uv_model.specs.declared.scheme.Class.TheVariants.{Other}
use Rattle.uv_model.specs.declared.path.UrlPath.TheVariants.{Opaque}
use Rattle.uv_model.specs.Ascii.{colon}
use Rattle.uv_model.specs.Cut.{IsCut}
use Rattle.uv_model.specs.Encoding.{encoded}
use Rattle.uv_parser.specs.Machine.{Variables, OpaquePathState, SchemeState, begins_tail, with_more, with_path}
use Rattle.uv_parser.specs.Machine.{empty_variables}
use Rattle.uv_model.specs.Records.Denote.{end_escaped}
use Rattle.uv_model.specs.Parts.{Parts, SchemeOpaque}
use Rattle.uv_model.specs.Path.{starts_with_slash}
use Rattle.uv_model.specs.Removed.{first_removed}
use Rattle.uv_model.specs.Scheme.{lowercase, scheme_class}
use Rattle.uv_model.specs.Records.Url.{Url}
use Rattle.uv_model.specs.Valid.{FitsBase, MayBeUnits, Valid}
use Rattle.uv_model.specs.Path.{ends_with_space, is_spaced}
use Rattle.uv_model.specs.declared.profile.Profile.TheVariants.{Parser}
use Rattle.std.proofs.Common.{◌||◌, sym, subst, append_assoc, append-nil}
use Rattle.std.specs.Prelude.{is_some}
use Rattle.std.proofs.lemmas.Bool.{true≢false}
use Rattle.uv_model.proofs.Cuts.ValidCutLemmas.{written_as_cut}
use Rattle.uv_parser.proofs.Running.KeptTexts.{IsKept, ends_without_space, kept_after, text_is_kept}
use Rattle.uv_model.proofs.Violations.ViolationLemmas.{cut_with}
use Rattle.uv_parser.proofs.Decided.CutTexts.{HasMarks, marks, scheme_text}
use Rattle.uv_parser.proofs.Loops.Looping.{opaque_path_law}
use Rattle.uv_parser.proofs.Running.RunsStopped.{RunStops, place_cases, removed_stops, scheme_stops}
use Rattle.uv_parser.proofs.Loops.SchemeStretch.{scheme_variables, colon_row}
use Rattle.uv_parser.proofs.Running.Steps.{Stops, ends_after, ends_step}
use Rattle.uv_parser.proofs.Loops.StoppingLoops.{opaque_path_stops}
use Rattle.uv_parser.proofs.Loops.Tails.{tail, no_slash_before_tail}
use Rattle.uv_parser.proofs.Decided.TailsDecided.{PassesToTail, no_hex_tail, tail_decided}

-- the parts of such a text
abbrev pub opaque_parts : List ℕ → Option (List ℕ) → List ℕ → Option (List ℕ) → Option (List ℕ) → Parts
opaque_parts scheme port_text path query fragment = record {
  form = SchemeOpaque;
  scheme = Some scheme;
  host_text = None;
  host = None;
  port_text = port_text;
  port = None;
  path_text = path;
  segments = [];
  query = query;
  fragment = fragment;
}

-- the variables when the opaque path begins, and the variables after it
abbrev path_begun : List ℕ → Variables
path_begun scheme = with_path (Opaque []) (scheme_variables scheme)

-- the variables after the opaque path
abbrev path_variables : List ℕ → List ℕ → List ℕ → Variables
path_variables scheme path rest =
    with_path (Opaque (encoded false (end_escaped (begins_tail rest) path))) (scheme_variables scheme)

module _ (base : Option Url) (scheme path : List ℕ) (query fragment : Option (List ℕ))
    (other : scheme_class scheme ≡ Other) (start : starts_with_slash path ≡ false)
    (have : HasMarks [] path query) where
  abbrev after_path : Variables
  after_path = path_variables scheme path (tail query fragment)

  opaque_passes : PassesToTail base OpaquePathState after_path
  opaque_passes =
      record {
        query_variables = after_path;
        fragment_variables = after_path;
        at_query = λ p rest. refl;
        at_fragment = λ p rest. refl;
      }

  -- from the opaque path on
  path_decided : (is_spaced path ≡ true) × MayBeUnits query × MayBeUnits fragment
      ⊎ Stops base OpaquePathState (path_begun scheme) (path ++ tail query fragment)
  path_decided =
      elim (cases_Bool (is_spaced path)) [
        | inl units ↦ elim (tail_decided base OpaquePathState after_path query fragment opaque_passes have.query) [
          | inl both ↦ inl (units, both.0, both.1)
          | inr stops ↦ inr
              (ends_after base
              (opaque_path_law base path (tail query fragment) [] (scheme_variables scheme) units
              have.path_question_mark)
              stops)
        ]
        | inr fault ↦ inr
            (opaque_path_stops base path (tail query fragment) (path_begun scheme) fault have.path_question_mark
            have.path_number_sign (no_hex_tail query fragment))
      ]

  -- from the scheme's `:` on
  pub opaque_decided : (is_spaced path ≡ true) × MayBeUnits query × MayBeUnits fragment
      ⊎ Stops base SchemeState (with_more (lowercase scheme) empty_variables) (colon ∷ (path ++ tail query fragment))
  opaque_decided =
      let no_slash = no_slash_before_tail path query fragment start in
      elim path_decided [
        | inl fine ↦ inl fine
        | inr stops ↦ inr
            (ends_step base
            (λ p. colon_row base scheme (path ++ tail query fragment) p ∙ rw (other, no_slash) refl) stops)
      ]

-- if nothing follows the path, it ends as the text does
path_ends : (text scheme path : List ℕ) (query fragment : Option (List ℕ)) → IsKept text
    → text ≡ scheme ++ colon ∷ (path ++ tail query fragment)
    → (is_some query || is_some fragment) ≡ false → ends_with_space path ≡ false
path_ends text scheme path (Some query) fragment kept whole followed = absurd (true≢false followed)
path_ends text scheme path None (Some fragment) kept whole followed = absurd (true≢false followed)
path_ends text scheme path None None kept whole followed =
    let after : IsKept (scheme ++ colon ∷ (path ++ [])) = subst IsKept whole kept in
    let alone = kept_after (scheme ++ colon ∷ []) (path ++ [])
    (subst IsKept (sym (append_assoc scheme (colon ∷ []) (path ++ []))) after) in
    ends_without_space path (rw append-nil at alone.end)

-- the text is one on which the parser is silent, with these parts, or its run stops
pub opaque_silent_or_stops : (base : Option Url) (text scheme : List ℕ) (port_text : Option (List ℕ)) (path : List ℕ)
    (query fragment : Option (List ℕ))
    → IsCut base text (cut_with (Some scheme) None port_text path query fragment)
    → scheme_class scheme ≡ Other → starts_with_slash path ≡ false
    → Valid Parser base text (opaque_parts scheme port_text path query fragment) ⊎ RunStops base text
opaque_silent_or_stops base text scheme port_text path query fragment is other start =
    let have = marks base text (Some scheme) None port_text path query fragment is in
    let whole = scheme_text base text scheme None port_text path query fragment is in
    elim (place_cases (first_removed text)) [
      | inl kept ↦ elim (opaque_decided base scheme path query fragment other start have) [
        | inl (units, query_units, fragment_units) ↦ inl (record {
          whole = is.whole ∙ sym (written_as_cut (opaque_parts scheme port_text path query fragment));
          cut = is;
          scheme = is.scheme;
          against = against base;
          form = (
            record { host_text = refl; host = refl; port_text = is.authority.0; port = refl },
            other,
            record {
              spaced = record { units = units; no_question_mark = have.path_question_mark; start = start };
              end = path_ends text scheme path query fragment (text_is_kept text kept) whole;
            },
            refl,
          );
          query = query_units;
          fragment = fragment_units;
        })
        | inr stops ↦ inr (scheme_stops base text scheme (path ++ tail query fragment) kept is.scheme whole stops)
      ]
      | inr (p, removed) ↦ inr (removed_stops base text p removed)
    ]
  where
    against : (base : Option Url) → FitsBase base (opaque_parts scheme port_text path query fragment)
    against None = refl
    against (Some url) = inl refl
