-- From the two directions to the law that a text is decided, and what a text on which the parser is silent says of its
-- form, its cut and its scheme.
use Rattle.std.proofs.Common.{◌≡◌, ℕ, Bool, false, ◌⊎◌, List, Option, Some, None, sym, subst, ◌∙◌, inl, inr}
use Rattle.uv_model.specs.Cut.{Cut, IsCut, texts_of}
use Rattle.uv_model.specs.Parts.{Form, Parts, has_scheme}
use Rattle.uv_parser.specs.Laws.DecidedTexts.{IsDecided}
use Rattle.uv_parser.specs.Run.{Done, Stopped}
use Rattle.uv_parser.specs.Laws.Silence.{RunsSilently}
use Rattle.uv_model.specs.Records.Url.{Url}
use Rattle.uv_model.specs.Valid.{FitsScheme, Valid, FitsForm}
use Rattle.uv_model.proofs.Cuts.CutLemmas.{cut_is_computed}
use Rattle.uv_parser.proofs.Running.RunsStopped.{RunStops}
use Rattle.uv_model.specs.declared.profile.Profile.TheVariants.{Parser}
use Rattle.uv_model.specs.Setting.{setting_of}

-- a run that has stopped is not done
stopped_not_done : (url : Url) (p : ℕ) → Stopped p ≡ Done url → ⊥
stopped_not_done url p e = cc

-- the run of a text on which the parser is silent is done, and the parser is silent on it or stops: it is decided
pub is_decided : (base : Option Url) (text : List ℕ)
    → ((parts : Parts) → Valid Parser base text parts → RunsSilently base text parts)
    → ((parts : Parts) × Valid Parser base text parts) ⊎ RunStops base text → IsDecided base text
is_decided base text silent (inl (parts, is)) = record {
  silent = silent;
  only = λ url done. (parts, is, done_once (sym done ∙ silent parts is));
  ended = inl (parts, is);
}
  where
    done_once : {url other : Url} → Done url ≡ Done other → url ≡ other
    done_once e = cc
is_decided base text silent (inr stops) = record {
  silent = silent;
  only = λ url done. absurd (stopped_not_done url stops.0 (sym stops.1 ∙ done));
  ended = inr stops;
}

-- ---- what a silent text says

-- the form's conditions, with the form named
pub fits_form : (base : Option Url) (text : List ℕ) (parts : Parts) (form : Form) → Valid Parser base text parts
    → parts.form ≡ form → FitsForm (setting_of Parser base parts.scheme) form parts
fits_form base text parts form is e =
    subst (λ (f : Form). FitsForm (setting_of Parser base parts.scheme) f parts) e is.form

-- the texts of parts belong to the text's one cut
pub same_cut : (base : Option Url) (text : List ℕ) (cut : Cut) (parts : Parts) → IsCut base text cut
    → Valid Parser base text parts → texts_of parts ≡ cut
same_cut base text cut parts is silent =
    cut_is_computed base text (texts_of parts) silent.cut ∙ sym (cut_is_computed base text cut is)

-- a form without a scheme has none
pub no_scheme : (base : Option Url) (text scheme : List ℕ) (parts : Parts) → Valid Parser base text parts
    → parts.scheme ≡ Some scheme → has_scheme parts.form ≡ false → ⊥
no_scheme base text scheme parts is named without =
    let none : parts.scheme ≡ None = subst (λ (b : Bool). FitsScheme b parts.scheme) without is.scheme in
    some_not_none scheme (sym named ∙ none)
  where
    some_not_none : (xs : List ℕ) → Some xs ≡ None → ⊥
    some_not_none xs e = cc
