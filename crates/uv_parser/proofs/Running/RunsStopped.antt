-- Runs of the parser machine that stop within the bound on their steps.
use Rattle.std.proofs.Common.{◌≡◌, ℕ, ◌⊎◌, List, ◌∷◌, ◌++◌, Option, Some, None, refl, ap, ◌∙◌, inl, inr, true}
use Rattle.uv_model.specs.Ascii.{colon}
use Rattle.uv_parser.specs.Machine.{SchemeState, empty_variables, with_more}
use Rattle.uv_parser.specs.Run.{first_outcome, run, run_from, step_bound}
use Rattle.uv_model.specs.Removed.{first_removed}
use Rattle.uv_model.specs.Scheme.{is_scheme, lowercase}
use Rattle.uv_model.specs.Records.Url.{Url}
use Rattle.uv_parser.proofs.Counting.RunsEnded.{starts_ended}
use Rattle.uv_parser.proofs.Loops.SchemeStretch.{scheme_stretch}
use Rattle.uv_parser.proofs.Running.Steps.{HasEnded, Stops, ends_after, leads_stopped, stopped}

-- within the bound on its steps the run of the text stops
abbrev pub RunStops : Option Url → List ℕ → Type 0
RunStops base text = HasEnded stopped (run base text (step_bound text))

-- a place, or none
pub place_cases : (o : Option ℕ) → (o ≡ None) ⊎ ((p : ℕ) × (o ≡ Some p))
place_cases None = inl refl
place_cases (Some p) = inr (p, refl)

-- a text of which a code point is removed stops before the first step
pub removed_stops : (base : Option Url) (text : List ℕ) (p : ℕ) → first_removed text ≡ Some p → RunStops base text
unfolding run
removed_stops base text p removed = (
  p,
  ap (λ o. run_from base text (first_outcome o) (step_bound text)) removed
      ∙ leads_stopped base text p (step_bound text),
)

-- a text with a scheme that stops from the scheme's `:` on
pub scheme_stops : (base : Option Url) (text scheme rest : List ℕ) → first_removed text ≡ None
    → is_scheme scheme ≡ true → text ≡ scheme ++ colon ∷ rest
    → Stops base SchemeState (with_more (lowercase scheme) empty_variables) (colon ∷ rest) → RunStops base text
scheme_stops base text scheme rest kept named whole stops =
    starts_ended base text stopped kept
    (rw whole (ends_after base (scheme_stretch base scheme (colon ∷ rest) named) stops))
