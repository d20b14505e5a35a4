-- Each text with a scheme is decided: within the bound on its steps the parser machine is done exactly when the parser
-- is silent on the text, with the URL that the parts denote, and otherwise it stops.
use Rattle.std.proofs.Common.{◌≡◌, ℕ, true, List, Option, Some, None, refl, ap, subst, inl, inr}
use Rattle.std.specs.Prelude.{IsSome}
use Rattle.std.proofs.lemmas.Bool.{false≢true}
use Rattle.uv_model.specs.Cut.{Cut, IsCut, cut_of}
use Rattle.uv_model.specs.Parts.{Form, Parts, SchemeAuthority, SchemePath, SchemeOpaque, Authority, PathAbsolute}
use Rattle.uv_model.specs.Parts.{PathRelative, NoPath, has_scheme}
use Rattle.uv_parser.specs.Laws.DecidedTexts.{IsDecided}
use Rattle.uv_model.specs.Scheme.{scheme_class}
use Rattle.uv_parser.specs.Laws.Silence.{RunsSilently}
use Rattle.uv_model.specs.Records.Url.{Url}
use Rattle.uv_model.specs.Valid.{scheme_in, Valid}
use Rattle.uv_model.specs.Scheme.{starts_with_scheme}
use Rattle.uv_model.proofs.Cuts.SchemesIgnoreBases.{cut_with_scheme}
use Rattle.uv_model.proofs.Cuts.CutLemmas.{computed_is_cut}
use Rattle.uv_parser.proofs.Done.Decided.{is_decided, no_scheme, same_cut}
use Rattle.uv_parser.proofs.Decided.DecidedSchemes.{scheme_silent_or_stops}
use Rattle.uv_parser.proofs.Decided.AuthorityTexts.{class_cases}
use Rattle.uv_parser.proofs.Done.DoneAuthority.{file_done, other_done, special_done}
use Rattle.uv_parser.proofs.Silence.SilentOpaque.{opaque_done}
use Rattle.uv_parser.proofs.Silence.SilentPath.{path_done}
use Rattle.uv_model.specs.declared.profile.Profile.TheVariants.{Parser}

-- the run of a text with a scheme on which the parser is silent is done
pub scheme_done : (base : Option Url) (text scheme : List ℕ) (parts : Parts) (form : Form)
    → Valid Parser base text parts
    → parts.form ≡ form → parts.scheme ≡ Some scheme → RunsSilently base text parts
scheme_done base text scheme parts SchemeAuthority is e named =
    elim (class_cases (scheme_class (scheme_in base parts))) [
      | inl special ↦ special_done base text parts is e special
      | inr (inl file) ↦ file_done base text parts is e file
      | inr (inr other) ↦ other_done base text parts is e other
    ]
scheme_done base text scheme parts SchemePath is e named = path_done base text parts is e
scheme_done base text scheme parts SchemeOpaque is e named = opaque_done base text parts is e
scheme_done base text scheme parts Authority is e named = absurd (no_scheme base text scheme parts is named (ap
    has_scheme e))
scheme_done base text scheme parts PathAbsolute is e named = absurd (no_scheme base text scheme parts is named (ap
    has_scheme e))
scheme_done base text scheme parts PathRelative is e named = absurd (no_scheme base text scheme parts is named (ap
    has_scheme e))
scheme_done base text scheme parts NoPath is e named = absurd (no_scheme base text scheme parts is named (ap
    has_scheme e))

-- a text whose cut has a scheme
cut_decided : (base : Option Url) (text : List ℕ) (cut : Cut) (scheme : Option (List ℕ)) → IsCut base text cut
    → cut.scheme ≡ scheme → IsSome scheme → IsDecided base text
cut_decided base text cut None is named some = absurd (false≢true some)
cut_decided base text cut (Some scheme) is named some =
    let there : Cut = record cut { scheme = Some scheme } in
    let same : cut ≡ there = λ i. record cut { scheme = named i } in
    let is_there : IsCut base text there = subst (λ (c : Cut). IsCut base text c) same is in
    let silent : (parts : Parts) → Valid Parser base text parts → RunsSilently base text parts
    = λ parts silent.
    scheme_done base text scheme parts parts.form silent refl
    (ap (λ (c : Cut). c.scheme) (same_cut base text there parts is_there silent)) in
    is_decided base text silent
    (scheme_silent_or_stops base text scheme cut.host_text cut.port_text cut.path_text cut.query cut.fragment is_there)

-- each text with a scheme is decided
pub scheme_texts_are_decided : (base : Option Url) (text : List ℕ) → starts_with_scheme text ≡ true
    → IsDecided base text
scheme_texts_are_decided base text starts =
    cut_decided base text (cut_of base text) (cut_of base text).scheme (computed_is_cut base text) refl
    (cut_with_scheme base text starts)
