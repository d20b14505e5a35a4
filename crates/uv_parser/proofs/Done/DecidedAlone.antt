-- Without a base each text is decided: it is valid under the parser's profile, or its run stops.
use Rattle.std.proofs.Common.{◌≡◌, ℕ, true, false, List, [], ◌∷◌, ◌++◌, append_assoc, Option, Some, None, refl, sym, ap}
use Rattle.std.proofs.Common.{subst, ◌∙◌, inl, inr}
use Rattle.std.specs.Prelude.{IsSome}
use Rattle.std.proofs.lemmas.Bool.{cases_Bool, false≢true}
use Rattle.uv_model.specs.Cut.{IsSchemeCut, texts_of, written_middle}
use Rattle.uv_model.specs.Parts.{Parts, written_authority, written_scheme}
use Rattle.uv_model.specs.Ascii.{colon}
use Rattle.uv_model.specs.Scheme.{is_scheme}
use Rattle.uv_parser.specs.Laws.DecidedTexts.{IsDecided}
use Rattle.uv_model.specs.Removed.{first_removed}
use Rattle.uv_model.specs.Scheme.{starts_with_scheme}
use Rattle.uv_parser.proofs.Done.Decided.{is_decided}
use Rattle.uv_parser.proofs.Done.DecidedTexts.{scheme_texts_are_decided}
use Rattle.uv_parser.proofs.Running.RunsStopped.{RunStops, place_cases, removed_stops}
use Rattle.uv_parser.proofs.Decided.SchemeAbsent.{absent_ended}
use Rattle.uv_parser.proofs.Running.Steps.{stopped, stops_here}
use Rattle.uv_parser.proofs.Decided.CutTexts.{cut_text}
use Rattle.uv_model.proofs.Cuts.SchemeCutLemmas.{starts_with_written_scheme}
use Rattle.uv_parser.proofs.Loops.Tails.{tail}
use Rattle.uv_model.specs.Valid.{Valid}
use Rattle.uv_model.specs.declared.profile.Profile.TheVariants.{Parser}

-- without a base and a scheme the run stops
pub alone_stops : (text : List ℕ) → starts_with_scheme text ≡ false → RunStops None text
alone_stops text none =
    elim (place_cases (first_removed text)) [
      | inl kept ↦ absent_ended None text stopped kept none (stops_here None (λ p. refl))
      | inr (p, removed) ↦ removed_stops None text p removed
    ]

-- a text that is there
pub option_some : (o : Option (List ℕ)) → IsSome o → (text : List ℕ) × (o ≡ Some text)
option_some None some = absurd (false≢true some)
option_some (Some text) some = (text, refl)

-- a text that is silent without a base begins with a scheme
silent_starts : (text : List ℕ) (parts : Parts) → Valid Parser None text parts → starts_with_scheme text ≡ true
silent_starts text parts is =
    let (scheme, named) = option_some parts.scheme is.against in
    let spelled : is_scheme scheme ≡ true
    = subst (λ (o : Option (List ℕ)). IsSchemeCut o (written_middle (texts_of parts))) named is.cut.scheme in
    let text_is = cut_text None text parts.scheme parts.host_text parts.port_text parts.path_text parts.query
    parts.fragment is.cut in
    let rest = (written_authority parts.host_text parts.port_text ++ parts.path_text)
    ++ tail parts.query parts.fragment in
    let whole : text ≡ scheme ++ colon ∷ rest
    = text_is ∙ (ap (λ o. written_scheme o ++ rest) named ∙ append_assoc scheme (colon ∷ []) rest) in
    ap starts_with_scheme whole ∙ starts_with_written_scheme scheme rest spelled

-- each text is decided
pub texts_alone_are_decided : (text : List ℕ) → IsDecided None text
texts_alone_are_decided text =
    elim (cases_Bool (starts_with_scheme text)) [
      | inl starts ↦ scheme_texts_are_decided None text starts
      | inr none ↦
          is_decided None text
          (λ parts is. absurd (false≢true (sym none ∙ silent_starts text parts is))) (inr (alone_stops text none))
    ]
