-- The parser machine over a text without a scheme: it comes to the no scheme state at the text's first place.
use Rattle.std.proofs.Common.{◌≡◌, ℕ, suc, ◌+◌, Bool, true, false, ◌||◌, ◌==◌, List, [], ◌∷◌, drop, Option, None, refl}
use Rattle.std.proofs.Common.{ap, subst, sym, ◌∙◌, inl, inr}
use Rattle.std.specs.Char.{is_ascii_alphabetic, to_ascii_lowercase}
use Rattle.std.proofs.lemmas.Bool.{cases_Bool, true≢false}
use Rattle.uv_model.specs.Ascii.{colon}
use Rattle.uv_parser.specs.Machine.{Variables, State, NoSchemeState, SchemeStartState, SchemeState, turn, again, onward}
use Rattle.uv_parser.specs.Machine.{from_place, emptied, empty_variables, put}
use Rattle.uv_parser.specs.Run.{run, run_from, settle, step, step_bound}
use Rattle.uv_model.specs.Removed.{first_removed}
use Rattle.uv_model.specs.Scheme.{is_scheme_code_point}
use Rattle.uv_model.specs.Records.Url.{Url}
use Rattle.uv_model.specs.Scheme.{goes_on_to_colon, starts_with_scheme}
use Rattle.uv_parser.proofs.Counting.RunsEnded.{ended_within_bound}
use Rattle.uv_parser.proofs.Running.Steps.{Ending, EndsAs, HasEnded, Leads, at, drop_one, leads_none, leads_step}
use Rattle.uv_parser.proofs.Running.Steps.{leads_then, step_at}
use Rattle.uv_parser.proofs.Loops.Looping.{scheme_row_on}

-- Some steps lead to the no scheme state at the first place, with this buffer emptied.
abbrev ComesBack : Option Url → List ℕ → State → ℕ → Variables → Type 0
ComesBack base text s p v = (n : ℕ) × Leads base text (at s p v) n (at NoSchemeState 0 (emptied v))

module _ (base : Option Url) (text : List ℕ) where
  scheme_row_back : (c : ℕ) (rest : List ℕ) (v : Variables) (p : ℕ) → is_scheme_code_point c ≡ false
      → (c == colon) ≡ false
      → turn base SchemeState p v (c ∷ rest) ≡ from_place 0 NoSchemeState (emptied v)
  scheme_row_back c rest v p ok other = rw (ok, other) refl

  -- a row that comes back at once
  back_at_once : (s : State) (p : ℕ) (v : Variables) (rest : List ℕ) → drop p text ≡ rest
      → settle p rest (turn base s p v rest) ≡ at NoSchemeState 0 (emptied v) → ComesBack base text s p v
  back_at_once s p v rest e row =
      (1, leads_step base text _ 0 _ _ (step_at base text s p v rest e ∙ row) (leads_none base text _))

  -- from the scheme state on
  scheme_back : (cs : List ℕ) (p : ℕ) (v : Variables) → drop p text ≡ cs → goes_on_to_colon cs ≡ false
      → ComesBack base text SchemeState p v
  scheme_back [] p v e none = back_at_once SchemeState p v [] e refl
  scheme_back (c ∷ cs) p v e none =
      let colon_not = or_false (c == colon) _ none in
      elim (cases_Bool (is_scheme_code_point c)) [
        | inl ok ↦
            let more : goes_on_to_colon cs ≡ false = rw ok at colon_not.1 in
            let (n, later) = scheme_back cs (p + 1) (put (to_ascii_lowercase c) v) (drop_one text p c cs e) more in
            let one : step base text (record { state = SchemeState; pointer = p; variables = v })
            ≡ at SchemeState (p + 1) (put (to_ascii_lowercase c) v)
            = step_at base text SchemeState p v (c ∷ cs) e ∙ ap (settle p (c ∷ cs)) (scheme_row_on base c cs v p ok) in
            (suc n, leads_step base text _ n _ _ one later)
        | inr other ↦
            back_at_once SchemeState p v (c ∷ cs) e
            (ap (settle p (c ∷ cs)) (scheme_row_back c cs v p other colon_not.0))
      ]
    where
      or_false : (a b : Bool) → (a || b) ≡ false → (a ≡ false) × (b ≡ false)
      or_false true b e = absurd (true≢false e)
      or_false false b e = (refl, e)

-- from the first state on
start_back : (base : Option Url) (text : List ℕ) → starts_with_scheme text ≡ false
    → ComesBack base text SchemeStartState 0 empty_variables
start_back base [] none = back_at_once base [] SchemeStartState 0 empty_variables [] refl refl
start_back base (c ∷ rest) none =
    let text = c ∷ rest in
    elim (cases_Bool (is_ascii_alphabetic c)) [
      | inl first ↦
          let more : goes_on_to_colon rest ≡ false = rw first at none in
          let row : turn base SchemeStartState 0 empty_variables text
          ≡ onward SchemeState (put (to_ascii_lowercase c) empty_variables)
          = rw first refl in
          let one : step base text (record { state = SchemeStartState; pointer = 0; variables = empty_variables })
          ≡ at SchemeState 1 (put (to_ascii_lowercase c) empty_variables)
          = step_at base text SchemeStartState 0 empty_variables text refl ∙ ap (settle 0 text) row in
          let (n, later) = scheme_back base text rest 1 (put (to_ascii_lowercase c) empty_variables) refl more in
          (suc n, leads_step base text _ n _ _ one later)
      | inr other ↦
          let row : turn base SchemeStartState 0 empty_variables text ≡ again NoSchemeState empty_variables
          = rw other refl in
          back_at_once base text SchemeStartState 0 empty_variables text refl (ap (settle 0 text) row)
    ]

-- a text without a scheme ends as from the no scheme state on
pub absent_ended : (base : Option Url) (text : List ℕ) (ending : Ending) → first_removed text ≡ None
    → starts_with_scheme text ≡ false → EndsAs base NoSchemeState empty_variables text ending
    → HasEnded ending (run base text (step_bound text))
unfolding run
absent_ended base text ending kept none ends =
    let (j, back) = start_back base text none in
    let (k, ended) = ends.goes text 0 refl in
    let last : HasEnded ending (run_from base text (at SchemeStartState 0 empty_variables) (j + k))
    = subst (HasEnded ending) (sym (leads_then base text _ _ _ j k back refl)) ended in
    ended_within_bound base text ending (j + k) (rw kept last)
