-- A text with a scheme: it is valid under the parser's profile, or its run stops.
use Rattle.std.proofs.Common.{◌≡◌, ℕ, true, false, ◌==◌, ◌⊎◌, List, [], ◌∷◌, ◌++◌, Option, Some, None, refl, ap, ◌∙◌}
use Rattle.std.proofs.Common.{inl, inr, eqb-true, append_assoc}
use Rattle.std.proofs.lemmas.Bool.{and_right, cases_Bool}
use Rattle.uv_model.specs.declared.host.Host.{Host}
use Rattle.uv_model.specs.declared.scheme.Class.TheVariants.{SpecialNotFile, File, Other}
use Rattle.uv_model.specs.Ascii.{slash, colon, question_mark, number_sign}
use Rattle.uv_model.specs.Cut.{IsCut, starts_with_two_slashes}
use Rattle.uv_parser.specs.Machine.{begins, begins_two_slashes, has_same_scheme, PathOrAuthorityState, SchemeState}
use Rattle.uv_parser.specs.Machine.{SpecialAuthoritySlashesState, SpecialRelativeOrAuthorityState, empty_variables}
use Rattle.uv_parser.specs.Machine.{with_more}
use Rattle.uv_model.specs.Parts.{Parts, SchemeAuthority, SchemePath, written_after}
use Rattle.uv_model.specs.Path.{is_without, starts_with_slash}
use Rattle.uv_model.specs.Removed.{first_removed}
use Rattle.uv_model.specs.Scheme.{lowercase, scheme_class}
use Rattle.uv_model.specs.Records.Url.{Url}
use Rattle.uv_model.specs.Valid.{FitsBase, Valid}
use Rattle.uv_model.specs.declared.profile.Profile.TheVariants.{Parser}
use Rattle.std.proofs.Common.{sym, subst}
use Rattle.uv_model.proofs.Cuts.ValidCutLemmas.{written_as_cut}
use Rattle.uv_parser.proofs.Running.KeptTexts.{IsKept, kept_after, text_is_kept}
use Rattle.uv_model.proofs.Violations.ViolationLemmas.{cut_with}
use Rattle.uv_parser.proofs.Decided.CutTexts.{HasMarks, marks, scheme_text}
use Rattle.uv_parser.proofs.Decided.AuthorityTexts.{SilentOrStops, authority_parts, authority_silent_or_stops}
use Rattle.uv_parser.proofs.Decided.AuthorityTexts.{class_cases}
use Rattle.uv_model.proofs.SchemeLemmas.{scheme_class-lowercase}
use Rattle.uv_parser.proofs.Decided.DecidedOpaque.{opaque_parts, opaque_silent_or_stops}
use Rattle.uv_parser.proofs.Decided.DecidedPath.{AreFine, FreeOfMarks, path_decided}
use Rattle.uv_model.proofs.Texts.MarkLemmas.{is_without-cons}
use Rattle.uv_model.proofs.Paths.PathPieces.{path_relative}
use Rattle.uv_model.specs.Path.{pieces}
use Rattle.uv_parser.proofs.Running.RunsStopped.{RunStops, place_cases, removed_stops, scheme_stops}
use Rattle.uv_parser.proofs.Loops.AuthorityStarts.{scheme_starts}
use Rattle.uv_parser.proofs.Loops.SchemeStretch.{colon_row, scheme_variables}
use Rattle.uv_parser.proofs.Running.Steps.{Stops, ends_again, stops_here, ends_past_two, ends_step}
use Rattle.uv_parser.proofs.Loops.Tails.{no_slash_before_tail, tail}

-- ---- small facts of cuts

-- a tail begins with no slash
pub no_slash_in_tail : (query fragment : Option (List ℕ)) → begins slash (tail query fragment) ≡ false
no_slash_in_tail (Some text) fragment = refl
no_slash_in_tail None (Some text) = refl
no_slash_in_tail None None = refl

-- after `/`, if no `//` begins, no slash follows
pub one_slash : (after : List ℕ) → starts_with_two_slashes (slash ∷ after) ≡ false
    → starts_with_slash after ≡ false
one_slash [] none = refl
one_slash (c ∷ rest) none = none

-- without `//` at its start a path has none with a tail after it
pub no_two_before_tail : (path : List ℕ) (query fragment : Option (List ℕ)) → starts_with_two_slashes path ≡ false
    → begins_two_slashes (path ++ tail query fragment) ≡ false
no_two_before_tail [] (Some text) fragment none = refl
no_two_before_tail [] None (Some text) none = refl
no_two_before_tail [] None None none = refl
no_two_before_tail (c ∷ []) query fragment none = and_right (c == slash) _ (no_slash_in_tail query fragment)
no_two_before_tail (c ∷ d ∷ rest) query fragment none = none

-- ---- from the scheme's `:` on

module _ (base : Option Url) (scheme : List ℕ) where
  special_without : (rest : List ℕ) → scheme_class scheme ≡ SpecialNotFile → begins_two_slashes rest ≡ false
      → Stops base SchemeState (with_more (lowercase scheme) empty_variables) (colon ∷ rest)
  special_without rest special none =
      elim (cases_Bool (has_same_scheme base (lowercase scheme))) [
        | inl same ↦
            ends_step base {s₁ = SpecialRelativeOrAuthorityState} {v₁ = scheme_variables scheme}
            (λ p. colon_row base scheme rest p ∙ rw (special, same) refl)
            (stops_here base (λ p. rw none refl))
        | inr other ↦
            ends_step base {s₁ = SpecialAuthoritySlashesState} {v₁ = scheme_variables scheme}
            (λ p. colon_row base scheme rest p ∙ rw (special, other) refl)
            (stops_here base (λ p. rw none refl))
      ]

  file_without : (rest : List ℕ) → scheme_class scheme ≡ File → begins_two_slashes rest ≡ false
      → Stops base SchemeState (with_more (lowercase scheme) empty_variables) (colon ∷ rest)
  file_without rest file none =
      stops_here base (λ p. colon_row base scheme rest p ∙ rw (file, none) refl)

-- ---- with an authority

module _ (base : Option Url) (text scheme host_text : List ℕ) (port_text : Option (List ℕ)) (path : List ℕ)
    (query fragment : Option (List ℕ))
    (is : IsCut base text (cut_with (Some scheme) (Some host_text) port_text path query fragment))
    (kept : first_removed text ≡ None) where
  against : (base : Option Url) (value : Option Host) (port : Option ℕ)
      → FitsBase base (authority_parts SchemeAuthority (Some scheme) host_text port_text path query fragment value port)
  against None value port = refl
  against (Some url) value port = inl refl

  have : HasMarks (slash ∷ slash ∷ (host_text ++ written_after colon port_text)) path query
  have = marks base text (Some scheme) (Some host_text) port_text path query fragment is

  -- the whole text
  whole_text : text
      ≡ scheme ++ colon ∷ slash ∷ slash
      ∷ ((host_text ++ written_after colon port_text) ++ (path ++ tail query fragment))
  whole_text =
      scheme_text base text scheme (Some host_text) port_text path query fragment is
      ∙ ap (λ xs. scheme ++ colon ∷ slash ∷ slash ∷ xs)
      (append_assoc (host_text ++ written_after colon port_text) path (tail query fragment))

  -- where it stops from the scheme's `:` on, it stops
  authority_stops_text :
      Stops base SchemeState (with_more (lowercase scheme) empty_variables)
      (colon ∷ slash ∷ slash ∷ ((host_text ++ written_after colon port_text) ++ (path ++ tail query fragment)))
      → RunStops base text
  authority_stops_text stops =
      scheme_stops base text scheme
      (slash ∷ slash ∷ ((host_text ++ written_after colon port_text) ++ (path ++ tail query fragment))) kept is.scheme
      whole_text stops

  -- with an authority
  pub with_authority : SilentOrStops base text
  with_authority =
      authority_silent_or_stops base text SchemeAuthority (Some scheme) scheme (scheme_variables scheme)
      (scheme_class-lowercase scheme) host_text port_text path query fragment
      (record {
        no_slash = is.authority.0;
        no_question_mark = have.authority_question_mark;
        no_number_sign = have.authority_number_sign;
      })
      is.authority.2 is.authority.1
      (record { question_mark = have.path_question_mark; number_sign = have.path_number_sign; query = have.query })
      (kept_after (scheme ++ colon ∷ slash ∷ slash ∷ []) _
      (subst IsKept (whole_text ∙ sym (append_assoc scheme (colon ∷ slash ∷ slash ∷ []) _)) (text_is_kept text kept)))
      (λ class is_class stops. authority_stops_text (scheme_starts base scheme _ class is_class stops))
      (λ value port fits fine. record {
        whole = is.whole ∙ sym (written_as_cut
            (authority_parts SchemeAuthority (Some scheme) host_text port_text path query fragment value port));
        cut = is;
        scheme = is.scheme;
        against = against base value port;
        form = fits;
        query = fine.1;
        fragment = fine.2;
      })

-- ---- without an authority

-- the parts of a text with a path of segments
abbrev path_parts : List ℕ → Option (List ℕ) → List ℕ → List ℕ → Option (List ℕ) → Option (List ℕ) → Parts
path_parts scheme port_text path after query fragment = record {
  form = SchemePath;
  scheme = Some scheme;
  host_text = None;
  host = None;
  port_text = port_text;
  port = None;
  path_text = path;
  segments = pieces after;
  query = query;
  fragment = fragment;
}

module _ (base : Option Url) (text scheme : List ℕ) (port_text : Option (List ℕ)) (path : List ℕ)
    (query fragment : Option (List ℕ))
    (is : IsCut base text (cut_with (Some scheme) None port_text path query fragment))
    (kept : first_removed text ≡ None) where
  alone_text : text ≡ scheme ++ colon ∷ (path ++ tail query fragment)
  alone_text = scheme_text base text scheme None port_text path query fragment is

  have_alone : HasMarks [] path query
  have_alone = marks base text (Some scheme) None port_text path query fragment is

  -- a scheme that needs `//`
  needs_slashes : (scheme_class scheme ≡ SpecialNotFile) ⊎ (scheme_class scheme ≡ File) → SilentOrStops base text
  needs_slashes (inl special) =
      inr (scheme_stops base text scheme (path ++ tail query fragment) kept is.scheme alone_text
      (special_without base scheme (path ++ tail query fragment) special
      (no_two_before_tail path query fragment is.authority.1)))
  needs_slashes (inr file) =
      inr (scheme_stops base text scheme (path ++ tail query fragment) kept is.scheme alone_text
      (file_without base scheme (path ++ tail query fragment) file
      (no_two_before_tail path query fragment is.authority.1)))

  -- `/` and a path whose code points are fine is silent
  with_path_silent : (after : List ℕ) → path ≡ slash ∷ after → scheme_class scheme ≡ Other
      → starts_with_slash after ≡ false → is_without question_mark after ≡ true → AreFine after query fragment
      → Valid Parser base text (path_parts scheme port_text path after query fragment)
  with_path_silent after slashed other start none fine = record {
    whole = is.whole ∙ sym (written_as_cut (path_parts scheme port_text path after query fragment));
    cut = is;
    scheme = is.scheme;
    against = fits_base base after;
    form = (
      record { host_text = refl; host = refl; port_text = is.authority.0; port = refl },
      other,
      record { after = after; slashed = slashed; relative = path_relative after fine.0 none start },
    );
    query = fine.1;
    fragment = fine.2;
  }
    where
      fits_base : (base : Option Url) (after : List ℕ)
          → FitsBase base (path_parts scheme port_text path after query fragment)
      fits_base None after = refl
      fits_base (Some url) after = inl refl

  -- `/` and a path
  with_path : (after : List ℕ) → path ≡ slash ∷ after → scheme_class scheme ≡ Other → SilentOrStops base text
  with_path after slashed other =
      let start : starts_with_slash after ≡ false
      = one_slash after (rw slashed at is.authority.1) in
      let question = is_without-cons question_mark slash after (rw slashed at have_alone.path_question_mark) in
      let number = is_without-cons number_sign slash after (rw slashed at have_alone.path_number_sign) in
      let free : FreeOfMarks after query
      = record { question_mark = question.1; number_sign = number.1; query = have_alone.query } in
      let no_slash = no_slash_before_tail after query fragment start in
      elim (path_decided base after query fragment (scheme_variables scheme) free) [
        | inl fine ↦ inl (
          path_parts scheme port_text path after query fragment,
          with_path_silent after slashed other start question.1 fine,
        )
        | inr stops ↦ inr
            (scheme_stops base text scheme (slash ∷ (after ++ tail query fragment)) kept is.scheme
            (alone_text ∙ ap (λ xs. scheme ++ colon ∷ (xs ++ tail query fragment)) slashed)
            (ends_past_two base {s₁ = PathOrAuthorityState} {v₁ = scheme_variables scheme}
            (λ p. colon_row base scheme (slash ∷ (after ++ tail query fragment)) p ∙ rw other refl)
            (ends_again base (λ p. rw no_slash refl) stops)))
      ]

  -- a scheme of class Other
  other_alone : scheme_class scheme ≡ Other → SilentOrStops base text
  other_alone other = by_path path refl
    where
      by_path : (xs : List ℕ) → path ≡ xs → SilentOrStops base text
      by_path [] e = opaque (ap starts_with_slash e)
        where
          opaque : starts_with_slash path ≡ false → SilentOrStops base text
          opaque start = elim (opaque_silent_or_stops base text scheme port_text path query fragment is other start) [
            | inl found ↦ inl (opaque_parts scheme port_text path query fragment, found)
            | inr stops ↦ inr stops
          ]
      by_path (c ∷ after) e =
          elim (cases_Bool (c == slash)) [
            | inl same ↦ with_path after (e ∙ ap (λ x. x ∷ after) (eqb-true c slash same)) other
            | inr differs ↦
                elim (opaque_silent_or_stops base text scheme port_text path query fragment is other
                (ap starts_with_slash e ∙ differs)) [
                  | inl found ↦ inl (opaque_parts scheme port_text path query fragment, found)
                  | inr stops ↦ inr stops
                ]
          ]

  -- without an authority
  pub without_authority : SilentOrStops base text
  without_authority =
      elim (class_cases (scheme_class scheme)) [
        | inl special ↦ needs_slashes (inl special)
        | inr (inl file) ↦ needs_slashes (inr file)
        | inr (inr other) ↦ other_alone other
      ]

-- each text with a scheme is silent with parts, or stops
pub scheme_silent_or_stops : (base : Option Url) (text scheme : List ℕ) (host_text port_text : Option (List ℕ))
    (path : List ℕ) (query fragment : Option (List ℕ))
    → IsCut base text (cut_with (Some scheme) host_text port_text path query fragment) → SilentOrStops base text
scheme_silent_or_stops base text scheme host_text port_text path query fragment is =
    elim (place_cases (first_removed text)) [
      | inl kept ↦ by_host host_text is kept
      | inr (p, removed) ↦ inr (removed_stops base text p removed)
    ]
  where
    by_host : (host_text : Option (List ℕ))
        → IsCut base text (cut_with (Some scheme) host_text port_text path query fragment)
        → first_removed text ≡ None → SilentOrStops base text
    by_host None is kept = without_authority base text scheme port_text path query fragment is kept
    by_host (Some host) is kept = with_authority base text scheme host port_text path query fragment is kept
