-- A text without a scheme, against a base: how its run stops; and where the base has an opaque path, that it is valid
-- under the parser's profile, or stops.
use Rattle.std.proofs.Common.{◌≡◌, ℕ, true, false, List, [], ◌∷◌, ◌++◌, Option, Some, None, refl, sym}
use Rattle.std.proofs.Common.{subst, ◌∙◌, inl, inr}
use Rattle.std.specs.Prelude.{IsSome}
use Rattle.std.proofs.lemmas.Bool.{cases_Bool, false≢true}
use Rattle.uv_model.specs.declared.host.Host.{Host}
use Rattle.uv_model.specs.Ascii.{number_sign}
use Rattle.uv_model.specs.Cut.{Cut, IsCut}
use Rattle.uv_parser.specs.Machine.{with_fragment}
use Rattle.uv_parser.specs.Machine.{NoSchemeState}
use Rattle.uv_parser.specs.Machine.{empty_variables}
use Rattle.uv_parser.specs.Machine.{with_opaque_base}
use Rattle.uv_model.specs.Parts.{Form, Parts, NoPath, written_authority}
use Rattle.uv_model.specs.Removed.{first_removed}
use Rattle.uv_model.specs.Records.Url.{Url, is_opaque}
use Rattle.uv_model.proofs.Cuts.ValidCutLemmas.{written_as_cut}
use Rattle.uv_model.specs.Scheme.{starts_with_scheme}
use Rattle.uv_model.proofs.Cuts.SchemesIgnoreBases.{cut_with_scheme}
use Rattle.uv_model.proofs.Violations.ViolationLemmas.{cut_with}
use Rattle.uv_model.proofs.Cuts.CutLemmas.{cut_is_computed}
use Rattle.uv_parser.proofs.Decided.CutTexts.{HasMarks, cut_text, marks}
use Rattle.uv_parser.proofs.Decided.DecidedPath.{FreeOfMarks}
use Rattle.uv_parser.proofs.Decided.AuthorityTexts.{SilentOrStops}
use Rattle.uv_model.proofs.Texts.MarkLemmas.{is_without-cons}
use Rattle.uv_parser.proofs.Running.RunsStopped.{RunStops}
use Rattle.uv_parser.proofs.Decided.SchemeAbsent.{absent_ended}
use Rattle.uv_parser.proofs.Running.Steps.{Stops, stopped, stops_here, ends_step}
use Rattle.uv_parser.proofs.Loops.Tails.{tail}
use Rattle.uv_parser.proofs.Decided.TailsDecided.{fragment_decided}

-- of a text whose cut has no scheme none is at the start
pub no_scheme_cut : (base : Option Url) (text : List ℕ) (cut : Cut) → IsCut base text cut → cut.scheme ≡ None
    → starts_with_scheme text ≡ false
no_scheme_cut base text cut is none =
    elim (cases_Bool (starts_with_scheme text)) [
      | inl starts ↦
          let some : IsSome cut.scheme
          = subst (λ (c : Cut). IsSome c.scheme) (sym (cut_is_computed base text cut is))
          (cut_with_scheme base text starts) in
          absurd (false≢true (subst (λ (o : Option (List ℕ)). IsSome o) none some))
      | inr other ↦ other
    ]

-- the parts of a reference, with the values of its host and its port and with its segments
abbrev pub reference_parts : Form → Option (List ℕ) → Option Host → Option (List ℕ) → Option ℕ → List ℕ
    → List (List ℕ) → Option (List ℕ) → Option (List ℕ) → Parts
reference_parts form host_text value port_text port path segments query fragment = record {
  form = form;
  scheme = None;
  host_text = host_text;
  host = value;
  port_text = port_text;
  port = port;
  path_text = path;
  segments = segments;
  query = query;
  fragment = fragment;
}

module _ (url : Url) (text : List ℕ) (host_text port_text : Option (List ℕ)) (path : List ℕ)
    (query fragment : Option (List ℕ))
    (is : IsCut (Some url) text (cut_with None host_text port_text path query fragment))
    (kept : first_removed text ≡ None) where
  -- the run stops where it stops from the no scheme state on
  pub reference_stops : (rest : List ℕ) → text ≡ rest
      → Stops (Some url) NoSchemeState empty_variables rest → RunStops (Some url) text
  reference_stops rest whole stops =
      absent_ended (Some url) text stopped kept
      (no_scheme_cut (Some url) text (cut_with None host_text port_text path query fragment) is refl)
      (rw whole stops)

  pub reference_text : text ≡ (written_authority host_text port_text ++ path) ++ tail query fragment
  reference_text = cut_text (Some url) text None host_text port_text path query fragment is

  have : HasMarks (written_authority host_text port_text) path query
  have = marks (Some url) text None host_text port_text path query fragment is

  pub free : FreeOfMarks path query
  free = record { question_mark = have.path_question_mark; number_sign = have.path_number_sign; query = have.query }

-- ---- a base with an opaque path

-- against a base with an opaque path, only `#` and a fragment are read
fragment_alone : (url : Url) (text : List ℕ) (port_text : Option (List ℕ)) (fragment : List ℕ)
    → IsCut (Some url) text (cut_with None None port_text [] None (Some fragment)) → first_removed text ≡ None
    → is_opaque url.path ≡ true → SilentOrStops (Some url) text
fragment_alone url text port_text fragment is kept opaque =
    elim (fragment_decided (Some url) fragment (with_fragment (Some []) (with_opaque_base url empty_variables))) [
      | inl units ↦ inl (
        reference_parts NoPath None None port_text None [] [] None (Some fragment),
        record {
          whole = is.whole
              ∙ sym (written_as_cut (reference_parts NoPath None None port_text None [] [] None (Some fragment)));
          cut = is;
          scheme = refl;
          against = inr (inr (refl, refl, refl));
          form = (record { host_text = refl; host = refl; port_text = is.authority.0; port = refl }, refl, refl);
          query = tt;
          fragment = units;
        },
      )
      | inr stops ↦ inr
          (reference_stops url text None port_text [] None (Some fragment) is kept _
          (reference_text url text None port_text [] None (Some fragment) is kept)
          (ends_step (Some url) (λ p. rw opaque refl) stops))
    ]

-- every other text is refused
pub opaque_base : (url : Url) (text : List ℕ) (host_text port_text : Option (List ℕ)) (path : List ℕ)
    (query fragment : Option (List ℕ))
    → IsCut (Some url) text (cut_with None host_text port_text path query fragment) → first_removed text ≡ None
    → is_opaque url.path ≡ true → SilentOrStops (Some url) text
opaque_base url text (Some host) port_text path query fragment is kept opaque =
    inr (reference_stops url text (Some host) port_text path query fragment is kept _
    (reference_text url text (Some host) port_text path query fragment is kept)
    (stops_here (Some url) (λ p. rw opaque refl)))
opaque_base url text None port_text (c ∷ path) query fragment is kept opaque =
    let have = marks (Some url) text None None port_text (c ∷ path) query fragment is in
    let mark = is_without-cons number_sign c path have.path_number_sign in
    inr (reference_stops url text None port_text (c ∷ path) query fragment is kept _
    (reference_text url text None port_text (c ∷ path) query fragment is kept)
    (stops_here (Some url) (λ p. rw (opaque, mark.0) refl)))
opaque_base url text None port_text [] (Some query) fragment is kept opaque =
    inr (reference_stops url text None port_text [] (Some query) fragment is kept _
    (reference_text url text None port_text [] (Some query) fragment is kept)
    (stops_here (Some url) (λ p. rw opaque refl)))
opaque_base url text None port_text [] None None is kept opaque =
    inr (reference_stops url text None port_text [] None None is kept _
    (reference_text url text None port_text [] None None is kept)
    (stops_here (Some url) (λ p. rw opaque refl)))
opaque_base url text None port_text [] None (Some fragment) is kept opaque =
    fragment_alone url text port_text fragment is kept opaque
