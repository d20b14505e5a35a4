-- Against every base each text is one on which the parser is silent, or its run stops.
use Rattle.std.proofs.Common.{◌≡◌, ℕ, List, Option, Some, None, refl, subst, inr}
use Rattle.uv_model.specs.Cut.{Cut, IsCut, cut_of}
use Rattle.uv_model.specs.Records.Url.{Url}
use Rattle.uv_model.proofs.Cuts.CutLemmas.{computed_is_cut}
use Rattle.uv_parser.proofs.Done.DecidedAlone.{alone_stops}
use Rattle.uv_parser.proofs.Decided.ReferenceTexts.{no_scheme_cut}
use Rattle.uv_parser.proofs.Decided.DecidedReferences.{reference_silent_or_stops}
use Rattle.uv_parser.proofs.Decided.AuthorityTexts.{SilentOrStops}
use Rattle.uv_parser.proofs.Decided.DecidedSchemes.{scheme_silent_or_stops}

-- by the scheme of its cut
by_scheme : (base : Option Url) (text : List ℕ) (cut : Cut) (scheme : Option (List ℕ)) → IsCut base text cut
    → cut.scheme ≡ scheme → SilentOrStops base text
by_scheme base text cut (Some scheme) is named =
    let there : Cut = record cut { scheme = Some scheme } in
    let same : cut ≡ there = λ i. record cut { scheme = named i } in
    scheme_silent_or_stops base text scheme cut.host_text cut.port_text cut.path_text cut.query cut.fragment
    (subst (λ (c : Cut). IsCut base text c) same is)
by_scheme None text cut None is named = inr (alone_stops text (no_scheme_cut None text cut is named))
by_scheme (Some url) text cut None is named =
    let there : Cut = record cut { scheme = None } in
    let same : cut ≡ there = λ i. record cut { scheme = named i } in
    reference_silent_or_stops url text cut.host_text cut.port_text cut.path_text cut.query cut.fragment
    (subst (λ (c : Cut). IsCut (Some url) text c) same is)

-- each text
pub silent_or_stops : (base : Option Url) (text : List ℕ) → SilentOrStops base text
silent_or_stops base text =
    by_scheme base text (cut_of base text) (cut_of base text).scheme (computed_is_cut base text) refl
