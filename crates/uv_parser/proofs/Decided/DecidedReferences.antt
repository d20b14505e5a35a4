-- A text without a scheme, against a base: it is valid under the parser's profile, or its run stops.
use Rattle.std.proofs.Common.{◌≡◌, ℕ, true, false, ◌==◌, ◌⊎◌, List, [], ◌∷◌, ◌++◌, Option, Some, None, refl, sym, ap}
use Rattle.std.proofs.Common.{subst, ◌∙◌, inl, inr, eqb-true, append_assoc}
use Rattle.std.proofs.lemmas.Bool.{cases_Bool}
use Rattle.uv_model.specs.declared.host.Host.TheVariants as host
use Rattle.uv_model.specs.Ascii.{slash, colon, question_mark, number_sign}
use Rattle.uv_model.specs.Cut.{IsCut}
use Rattle.uv_parser.specs.Machine.{Variables, State, starts_with_drive_letter, turn, stop}
use Rattle.uv_parser.specs.Machine.{again, FileSlashState, FileState, NoSchemeState, PathState, RelativeSlashState}
use Rattle.uv_parser.specs.Machine.{RelativeState, empty_variables, is_file, with_base, with_base_host, with_file_base}
use Rattle.uv_parser.specs.Machine.{with_kept_drive, list_in, with_host, with_query, shortened}
use Rattle.uv_model.specs.Parts.{Authority, PathAbsolute, PathRelative, NoPath}
use Rattle.uv_model.specs.Parts.{written_after}
use Rattle.uv_model.specs.Path.{starts_with_slash}
use Rattle.uv_model.specs.Removed.{first_removed}
use Rattle.uv_model.specs.Records.Url.{Url, is_opaque}
use Rattle.uv_model.specs.Valid.{Valid}
use Rattle.uv_model.specs.declared.profile.Profile.TheVariants.{Parser}
use Rattle.uv_model.proofs.Cuts.ValidCutLemmas.{written_as_cut}
use Rattle.uv_parser.proofs.Running.KeptTexts.{IsKept, kept_after, text_is_kept}
use Rattle.uv_model.proofs.Violations.ViolationLemmas.{cut_with}
use Rattle.uv_parser.proofs.Decided.ReferenceTexts.{free, opaque_base, reference_parts, reference_stops, reference_text}
use Rattle.uv_parser.proofs.Decided.CutTexts.{HasMarks, marks}
use Rattle.uv_parser.proofs.Decided.DecidedPath.{AreFine, FreeOfMarks, path_decided}
use Rattle.uv_parser.proofs.Decided.AuthorityTexts.{SilentOrStops, authority_parts, authority_silent_or_stops}
use Rattle.uv_parser.proofs.Decided.DecidedSchemes.{one_slash}
use Rattle.uv_model.proofs.Texts.MarkLemmas.{is_without-cons}
use Rattle.uv_model.proofs.Paths.PathPieces.{path_relative}
use Rattle.uv_model.specs.Path.{pieces}
use Rattle.uv_parser.proofs.Running.RunsStopped.{RunStops, place_cases, removed_stops}
use Rattle.uv_parser.proofs.Running.Steps.{Stops, ends_again, stops_here, ends_step}
use Rattle.uv_parser.proofs.Loops.AuthorityStarts.{base_variables, base_starts, file_variables}
use Rattle.uv_parser.proofs.Loops.Tails.{no_slash_before_tail, tail}
use Rattle.uv_parser.proofs.Decided.TailsDecided.{PassesToTail, tail_decided}

-- ---- a base with a path of segments: texts without an authority

module _ (url : Url) (text : List ℕ) (port_text : Option (List ℕ)) (query fragment : Option (List ℕ))
    (not_opaque : is_opaque url.path ≡ false) (kept : first_removed text ≡ None) where
  -- no path
  no_path_silent : IsCut (Some url) text (cut_with None None port_text [] query fragment) → AreFine [] query fragment
      → Valid Parser (Some url) text (reference_parts NoPath None None port_text None [] [] query fragment)
  no_path_silent is fine = record {
    whole = is.whole ∙ sym (written_as_cut (reference_parts NoPath None None port_text None [] [] query fragment));
    cut = is;
    scheme = refl;
    against = inr (inl not_opaque);
    form = (record { host_text = refl; host = refl; port_text = is.authority.0; port = refl }, refl, refl);
    query = fine.1;
    fragment = fine.2;
  }

  -- `/` and a path
  absolute_silent : (after : List ℕ)
      → IsCut (Some url) text (cut_with None None port_text (slash ∷ after) query fragment)
      → starts_with_slash after ≡ false → AreFine after query fragment
      → Valid Parser (Some url) text
      (reference_parts PathAbsolute None None port_text None (slash ∷ after) (pieces after) query fragment)
  absolute_silent after is start fine =
      let have = marks (Some url) text None None port_text (slash ∷ after) query fragment is in
      let question = is_without-cons question_mark slash after have.path_question_mark in
      record {
        whole = is.whole
            ∙ sym (written_as_cut
            (reference_parts PathAbsolute None None port_text None (slash ∷ after) (pieces after) query fragment));
        cut = is;
        scheme = refl;
        against = inr (inl not_opaque);
        form = (
          record { host_text = refl; host = refl; port_text = is.authority.0; port = refl },
          record { after = after; slashed = refl; relative = path_relative after fine.0 question.1 start },
          λ file some. tt,
        );
        query = fine.1;
        fragment = fine.2;
      }

  -- another path
  relative_silent : (c : ℕ) (path : List ℕ)
      → IsCut (Some url) text (cut_with None None port_text (c ∷ path) query fragment)
      → (c == slash) ≡ false → AreFine (c ∷ path) query fragment
      → Valid Parser (Some url) text
      (reference_parts PathRelative None None port_text None (c ∷ path) (pieces (c ∷ path)) query fragment)
  relative_silent c path is start fine =
      let have = marks (Some url) text None None port_text (c ∷ path) query fragment is in
      record {
        whole = is.whole
            ∙ sym (written_as_cut
            (reference_parts PathRelative None None port_text None (c ∷ path) (pieces (c ∷ path)) query fragment));
        cut = is;
        scheme = refl;
        against = inr (inl not_opaque);
        form = (
          record { host_text = refl; host = refl; port_text = is.authority.0; port = refl },
          path_relative (c ∷ path) fine.0 have.path_question_mark start,
          (λ same. cc),
          is.scheme,
        );
        query = fine.1;
        fragment = fine.2;
      }

  -- the no scheme state goes on in this state
  abbrev GoesOn : State → Variables → Type 0
  GoesOn s v = (rest : List ℕ) (p : ℕ) → turn (Some url) NoSchemeState p empty_variables rest ≡ again s v

  -- from this state on `/` and a path are fine, or stop the run
  abbrev DecidesAbsolute : State → Variables → Type 0
  DecidesAbsolute s v = (after : List ℕ) → starts_with_slash after ≡ false → FreeOfMarks after query
      → AreFine after query fragment
      ⊎ Stops (Some url) s v (slash ∷ (after ++ tail query fragment))

  -- and so another path
  abbrev DecidesRelative : State → Variables → Type 0
  DecidesRelative s v = (c : ℕ) (rest : List ℕ) → (c == slash) ≡ false → (c == question_mark) ≡ false
      → (c == number_sign) ≡ false → FreeOfMarks (c ∷ rest) query
      → AreFine (c ∷ rest) query fragment
      ⊎ Stops (Some url) s v (c ∷ (rest ++ tail query fragment))

  -- a text without a path
  no_path_form : (s : State) (v : Variables) → GoesOn s v → PassesToTail (Some url) s v
      → IsCut (Some url) text (cut_with None None port_text [] query fragment) → SilentOrStops (Some url) text
  no_path_form s v row passes is =
      let have = marks (Some url) text None None port_text [] query fragment is in
      elim (tail_decided (Some url) s v query fragment passes have.query) [
        | inl fine ↦ inl (
          reference_parts NoPath None None port_text None [] [] query fragment,
          no_path_silent is (refl, fine.0, fine.1),
        )
        | inr stops ↦ inr
            (reference_stops url text None port_text [] query fragment is kept _
            (reference_text url text None port_text [] query fragment is kept)
            (ends_again (Some url) (λ p. row (tail query fragment) p) stops))
      ]

  -- a text with `/` and a path
  absolute_form : (s : State) (v : Variables) → GoesOn s v → DecidesAbsolute s v → (c : ℕ) (path : List ℕ) → c ≡ slash
      → IsCut (Some url) text (cut_with None None port_text (c ∷ path) query fragment) → SilentOrStops (Some url) text
  absolute_form s v row absolute c path e cut = here (subst
      (λ (d : ℕ). IsCut (Some url) text (cut_with None None port_text (d ∷ path) query fragment)) e cut)
    where
      here : IsCut (Some url) text (cut_with None None port_text (slash ∷ path) query fragment)
          → SilentOrStops (Some url) text
      here is =
          let have = marks (Some url) text None None port_text (slash ∷ path) query fragment is in
          let question = is_without-cons question_mark slash path have.path_question_mark in
          let number = is_without-cons number_sign slash path have.path_number_sign in
          let start = one_slash path is.authority.1 in
          elim (absolute path start
          (record { question_mark = question.1; number_sign = number.1; query = have.query })) [
            | inl fine ↦ inl (
              reference_parts PathAbsolute None None port_text None (slash ∷ path) (pieces path) query fragment,
              absolute_silent path is start fine,
            )
            | inr stops ↦ inr
                (reference_stops url text None port_text (slash ∷ path) query fragment is kept _
                (reference_text url text None port_text (slash ∷ path) query fragment is kept)
                (ends_again (Some url) (λ p. row (slash ∷ (path ++ tail query fragment)) p) stops))
          ]

  -- a text with another path
  relative_form : (s : State) (v : Variables) → GoesOn s v → DecidesRelative s v → (c : ℕ) (path : List ℕ)
      → (c == slash) ≡ false → IsCut (Some url) text (cut_with None None port_text (c ∷ path) query fragment)
      → SilentOrStops (Some url) text
  relative_form s v row relative c path other is =
      let have = marks (Some url) text None None port_text (c ∷ path) query fragment is in
      let question = is_without-cons question_mark c path have.path_question_mark in
      let number = is_without-cons number_sign c path have.path_number_sign in
      elim (relative c path other question.0 number.0 (record {
        question_mark = have.path_question_mark;
        number_sign = have.path_number_sign;
        query = have.query;
      })) [
        | inl fine ↦ inl (
          reference_parts PathRelative None None port_text None (c ∷ path) (pieces (c ∷ path)) query fragment,
          relative_silent c path is other fine,
        )
        | inr stops ↦ inr
            (reference_stops url text None port_text (c ∷ path) query fragment is kept _
            (reference_text url text None port_text (c ∷ path) query fragment is kept)
            (ends_again (Some url) (λ p. row ((c ∷ path) ++ tail query fragment) p) stops))
      ]

  -- the three forms, by how the run from after the no scheme state goes
  path_forms : (s : State) (v : Variables) → GoesOn s v → PassesToTail (Some url) s v → DecidesAbsolute s v
      → DecidesRelative s v
      → (path : List ℕ) → IsCut (Some url) text (cut_with None None port_text path query fragment)
      → SilentOrStops (Some url) text
  path_forms s v row passes absolute relative [] is = no_path_form s v row passes is
  path_forms s v row passes absolute relative (c ∷ path) is =
      elim (cases_Bool (c == slash)) [
        | inl same ↦ absolute_form s v row absolute c path (eqb-true c slash same) is
        | inr other ↦ relative_form s v row relative c path other is
      ]

  -- against a base of a class other than File
  relative_forms : is_file url.scheme ≡ false → (path : List ℕ)
      → IsCut (Some url) text (cut_with None None port_text path query fragment) → SilentOrStops (Some url) text
  relative_forms plain path is =
      path_forms RelativeState empty_variables (λ rest p. rw (not_opaque, plain) refl)
      (record {
        query_variables = with_base url (base_variables url);
        fragment_variables = with_base url (base_variables url);
        at_query = λ p rest. refl;
        at_fragment = λ p rest. refl;
      })
      (λ after start free. absolute after start free) (λ c rest a b d free. relative c rest a b d free) path is
    where
      absolute : (after : List ℕ) → starts_with_slash after ≡ false → FreeOfMarks after query
          → AreFine after query fragment
          ⊎ Stops (Some url) RelativeState empty_variables (slash ∷ (after ++ tail query fragment))
      absolute after start free =
          let no_slash = no_slash_before_tail after query fragment start in
          elim (path_decided (Some url) after query fragment (with_base_host url (base_variables url)) free) [
            | inl fine ↦ inl fine
            | inr stops ↦ inr
                (ends_step (Some url) {s₁ = RelativeSlashState} {v₁ = base_variables url} (λ p. refl)
                (ends_again (Some url) (λ p. rw no_slash refl) stops))
          ]

      relative : (c : ℕ) (rest : List ℕ) → (c == slash) ≡ false → (c == question_mark) ≡ false
          → (c == number_sign) ≡ false → FreeOfMarks (c ∷ rest) query → AreFine (c ∷ rest) query fragment
          ⊎ Stops (Some url) RelativeState empty_variables (c ∷ (rest ++ tail query fragment))
      relative c rest a b d free =
          elim (path_decided (Some url) (c ∷ rest) query fragment
          (shortened (with_query None (with_base url (base_variables url)))) free) [
            | inl fine ↦ inl fine
            | inr stops ↦ inr (ends_again (Some url) (λ p. simp (a, b, d) refl) stops)
          ]

  -- against a base of class File
  file_forms : is_file url.scheme ≡ true → (path : List ℕ)
      → IsCut (Some url) text (cut_with None None port_text path query fragment) → SilentOrStops (Some url) text
  file_forms file path is =
      path_forms FileState empty_variables (λ rest p. rw (not_opaque, file) refl)
      (record {
        query_variables = with_file_base url (file_variables host.Empty);
        fragment_variables = with_file_base url (file_variables host.Empty);
        at_query = λ p rest. rw file refl;
        at_fragment = λ p rest. rw file refl;
      })
      (λ after start free. absolute after start free) (λ c rest a b d free. relative c rest a b d free) path is
    where
      absolute : (after : List ℕ) → starts_with_slash after ≡ false → FreeOfMarks after query
          → AreFine after query fragment
          ⊎ Stops (Some url) FileState empty_variables (slash ∷ (after ++ tail query fragment))
      absolute after start free =
          let rest = after ++ tail query fragment in
          let no_slash = no_slash_before_tail after query fragment start in
          elim (path_decided (Some url) after query fragment
          (with_kept_drive (list_in url.path) rest (with_host url.host (file_variables host.Empty))) free) [
            | inl fine ↦ inl fine
            | inr stops ↦ inr
                (ends_step (Some url) {s₁ = FileSlashState} {v₁ = file_variables host.Empty} (λ p. refl)
                (ends_again (Some url) (λ p. rw (no_slash, file) refl) stops))
          ]

      relative : (c : ℕ) (rest : List ℕ) → (c == slash) ≡ false → (c == question_mark) ≡ false
          → (c == number_sign) ≡ false → FreeOfMarks (c ∷ rest) query → AreFine (c ∷ rest) query fragment
          ⊎ Stops (Some url) FileState empty_variables (c ∷ (rest ++ tail query fragment))
      relative c rest a b d free =
          elim (cases_Bool (starts_with_drive_letter (c ∷ (rest ++ tail query fragment)))) [
            | inl drive ↦
                let row : (p : ℕ)
                → turn (Some url) FileState p empty_variables (c ∷ (rest ++ tail query fragment)) ≡ stop
                = λ p. simp (file, a, b, d, drive) refl in
                inr (stops_here (Some url) row)
            | inr no_drive ↦
                let v = shortened (with_query None (with_file_base url (file_variables host.Empty))) in
                let row : (p : ℕ) → turn (Some url) FileState p empty_variables (c ∷ (rest ++ tail query fragment))
                ≡ again PathState v
                = λ p. simp (file, a, b, d, no_drive) refl in
                elim (path_decided (Some url) (c ∷ rest) query fragment v free) [
                  | inl fine ↦ inl fine
                  | inr stops ↦ inr (ends_again (Some url) row stops)
                ]
          ]

-- ---- a base with a path of segments: texts with an authority

module _ (url : Url) (text host_text : List ℕ) (port_text : Option (List ℕ)) (path : List ℕ)
    (query fragment : Option (List ℕ))
    (is : IsCut (Some url) text (cut_with None (Some host_text) port_text path query fragment))
    (kept : first_removed text ≡ None) (not_opaque : is_opaque url.path ≡ false) where
  have_after : HasMarks (slash ∷ slash ∷ (host_text ++ written_after colon port_text)) path query
  have_after = marks (Some url) text None (Some host_text) port_text path query fragment is

  -- the whole text
  reference_whole : text
      ≡ slash ∷ slash ∷ ((host_text ++ written_after colon port_text) ++ (path ++ tail query fragment))
  reference_whole =
      reference_text url text (Some host_text) port_text path query fragment is kept
      ∙ ap (λ xs. slash ∷ slash ∷ xs)
      (append_assoc (host_text ++ written_after colon port_text) path (tail query fragment))

  -- where it stops from the no scheme state on, it stops
  reference_authority_stops :
      Stops (Some url) NoSchemeState empty_variables
      (slash ∷ slash ∷ ((host_text ++ written_after colon port_text) ++ (path ++ tail query fragment)))
      → RunStops (Some url) text
  reference_authority_stops stops =
      reference_stops url text (Some host_text) port_text path query fragment is kept _ reference_whole stops

  -- with an authority
  with_authority : SilentOrStops (Some url) text
  with_authority =
      authority_silent_or_stops (Some url) text Authority None url.scheme (base_variables url) refl
      host_text port_text path query fragment
      (record {
        no_slash = is.authority.0;
        no_question_mark = have_after.authority_question_mark;
        no_number_sign = have_after.authority_number_sign;
      })
      is.authority.2 is.authority.1
      (free url text (Some host_text) port_text path query fragment is kept)
      (kept_after (slash ∷ slash ∷ []) _ (subst IsKept reference_whole (text_is_kept text kept)))
      (λ class is_class stops. reference_authority_stops (base_starts url _ class not_opaque is_class stops))
      (λ value port fits fine. record {
        whole = is.whole ∙ sym (written_as_cut
            (authority_parts Authority None host_text port_text path query fragment value port));
        cut = is;
        scheme = refl;
        against = inr (inl not_opaque);
        form = fits;
        query = fine.1;
        fragment = fine.2;
      })

-- ---- the whole

-- against a base each text without a scheme is silent with parts, or stops
pub reference_silent_or_stops : (url : Url) (text : List ℕ) (host_text port_text : Option (List ℕ)) (path : List ℕ)
    (query fragment : Option (List ℕ))
    → IsCut (Some url) text (cut_with None host_text port_text path query fragment)
    → SilentOrStops (Some url) text
reference_silent_or_stops url text host_text port_text path query fragment is =
    elim (place_cases (first_removed text)) [
      | inl kept ↦ elim (cases_Bool (is_opaque url.path)) [
        | inl opaque ↦ opaque_base url text host_text port_text path query fragment is kept opaque
        | inr segments ↦ by_host host_text is kept segments
      ]
      | inr (p, removed) ↦ inr (removed_stops (Some url) text p removed)
    ]
  where
    by_host : (host_text : Option (List ℕ))
        → IsCut (Some url) text (cut_with None host_text port_text path query fragment)
        → first_removed text ≡ None → is_opaque url.path ≡ false → SilentOrStops (Some url) text
    by_host None is kept segments =
        elim (cases_Bool (is_file url.scheme)) [
          | inl file ↦ file_forms url text port_text query fragment segments kept file path is
          | inr plain ↦ relative_forms url text port_text query fragment segments kept plain path is
        ]
    by_host (Some host) is kept segments = with_authority url text host port_text path query fragment is kept segments
