-- Each run of the parser machine ends within twice the length of the text and five steps, and more steps change
-- nothing: so a run that has ended after some steps has ended so within the bound.
use Rattle.std.proofs.Common.{◌≡◌, ℕ, zero, suc, ◌+◌, ◌-◌, ◌<◌, ◌≤◌, List, [], ◌∷◌, length, drop, Option, Some, None}
use Rattle.std.proofs.Common.{◌==◌, true, false, refl, sym, ap, subst, ◌∙◌, inl, inr, arith}
use Rattle.std.specs.Char.{is_ascii_alphabetic}
use Rattle.std.proofs.lemmas.Bool.{cases_Bool}
use Rattle.std.proofs.lemmas.Bool.Decides.{nat_tests}
use Rattle.uv_model.specs.Ascii.{slash}
use Rattle.uv_parser.specs.Machine.{Turn, onward, again, from_place, stop, turn, begins, SchemeStartState}
use Rattle.uv_parser.specs.Machine.{empty_variables}
use Rattle.uv_parser.specs.Run.{Machine, Outcome, Done, Stopped, Going, first_outcome, settle, step, run, run_from}
use Rattle.uv_parser.specs.Run.{step_bound}
use Rattle.uv_model.specs.Removed.{first_removed}
use Rattle.uv_parser.specs.Laws.StepCounts.{IsEnded, RunsEnd, RunsKeepTheirEnd, least_step_bound}
use Rattle.uv_model.specs.Records.Url.{Url}
use Rattle.uv_parser.proofs.Counting.StepCosts.{LeavesFewer, later, later_at_start, later_without_scheme}
use Rattle.uv_parser.proofs.Counting.StepsFewer.{turn_fewer}
use Rattle.uv_parser.proofs.Running.Steps.{EndsAs, Ending, HasEnded, drop_one, leads_done, leads_ended, leads_stopped}
use Rattle.uv_parser.proofs.Running.Steps.{run_in_parts}

-- after the step from the first place so many steps come at most
start_leaves : (text : List ℕ) → later_at_start text 0 text < least_step_bound text
start_leaves [] = omega arith
start_leaves (c ∷ rest) = elim (cases_Bool (is_ascii_alphabetic c)) [
  | inl letter ↦
      let other : (c == slash) ≡ false = no_slash c letter in
      rw (letter, other) (omega arith)
  | inr none ↦ rw none (without_scheme (c ∷ rest))
]
  where
    no_slash : (c : ℕ) → is_ascii_alphabetic c ≡ true → (c == slash) ≡ false
    no_slash c letter = grind (arith, nat_tests)

    without_scheme : (text : List ℕ) → later_without_scheme 0 text + 1 < least_step_bound text
    without_scheme text = elim (cases_Bool (begins slash text)) [
      | inl is ↦ rw is (omega arith)
      | inr not_slash ↦ rw not_slash (omega arith)
    ]

module _ (base : Option Url) (text : List ℕ) where
  -- after a row that leaves fewer steps the run ends, where it does from each machine with so few
  ends_after : (k p : ℕ) (rest : List ℕ) (most : ℕ) (t : Turn) → drop p text ≡ rest → most ≤ k
      → LeavesFewer text rest most t
      → ((m : Machine) → later text m.state (length m.variables.buffer) (drop m.pointer text) < k
      → IsEnded (run_from base text (Going m) k))
      → IsEnded (run_from base text (settle p rest t) k)
  ends_after k p rest most stop e few leaves ends = rw (leads_stopped base text p k) tt
  ends_after k p rest most (again s v) e few leaves ends =
      ends (record { state = s; pointer = p; variables = v }) (rw e (omega (arith, few, leaves)))
  ends_after k p rest most (from_place q s v) e few leaves ends =
      ends (record { state = s; pointer = q; variables = v }) (omega (arith, few, leaves))
  ends_after k p [] most (onward s v) e few leaves ends = rw (leads_done base text v.url k) tt
  ends_after k p (c ∷ rest) most (onward s v) e few leaves ends =
      ends (record { state = s; pointer = p + 1; variables = v })
      (rw (drop_one text p c rest e) (omega (arith, few, leaves)))

  -- a machine after whose next step fewer steps than these are to come has ended after so many
  ends_within : (k : ℕ) (m : Machine) → later text m.state (length m.variables.buffer) (drop m.pointer text) < k
      → IsEnded (run_from base text (Going m) k)
  unfolding run_from step
  ends_within zero m few = absurd (none few)
    where
      none : {n : ℕ} → n < 0 → ⊥
      none less = omega (arith, less)
  ends_within (suc k) m few =
      let rest = drop m.pointer text in
      ends_after k m.pointer rest (later text m.state (length m.variables.buffer) rest)
      (turn base m.state m.pointer m.variables rest) refl (omega (arith, few))
      (turn_fewer text base m.state m.pointer m.variables rest refl).fewer
      (λ next less. ends_within k next less)

-- each run has ended within the bound
pub runs_end : RunsEnd
unfolding run
runs_end base text = by_start (first_removed text)
  where
    by_start : (removed : Option ℕ) → IsEnded (run_from base text (first_outcome removed) (least_step_bound text))
    by_start (Some place) = rw (leads_stopped base text place (least_step_bound text)) tt
    by_start None =
        ends_within base text (least_step_bound text)
        (record { state = SchemeStartState; pointer = 0; variables = empty_variables }) (start_leaves text)

-- more steps change nothing if a run has ended
ended_stays : (base : Option Url) (text : List ℕ) (outcome : Outcome) (k : ℕ) → IsEnded outcome
    → run_from base text outcome k ≡ outcome
ended_stays base text (Done url) k is = leads_done base text url k
ended_stays base text (Stopped place) k is = leads_stopped base text place k
ended_stays base text (Going m) k is = absurd is

-- nor do steps beyond the bound
pub runs_keep_their_end : RunsKeepTheirEnd
unfolding run
runs_keep_their_end base text steps within =
    let bound = least_step_bound text in
    let first = first_outcome (first_removed text) in
    let count : steps ≡ bound + (steps - bound) = omega (arith, within) in
    ap (run_from base text first) count
    ∙ (run_in_parts base text first bound (steps - bound)
    ∙ ended_stays base text (run_from base text first bound) (steps - bound) (runs_end base text))

-- a run that has ended after some steps has ended so within the bound
pub ended_within_bound : (base : Option Url) (text : List ℕ) (ending : Ending) (k : ℕ)
    → HasEnded ending (run base text k) → HasEnded ending (run base text (step_bound text))
unfolding run
ended_within_bound base text ending k ended =
    let first = first_outcome (first_removed text) in
    let more = k + step_bound text in
    let same : run base text more ≡ run base text (step_bound text)
    = runs_keep_their_end base text more (omega arith)
    ∙ sym (runs_keep_their_end base text (step_bound text) (omega arith)) in
    subst (HasEnded ending) (sym (run_in_parts base text first k (step_bound text)) ∙ same)
    (leads_ended base text ending (run base text k) (step_bound text) ended)

-- a text of which no code point is removed ends as from the first state on
pub starts_ended : (base : Option Url) (text : List ℕ) (ending : Ending) → first_removed text ≡ None
    → EndsAs base SchemeStartState empty_variables text ending → HasEnded ending (run base text (step_bound text))
unfolding run
starts_ended base text ending kept ends =
    let (k, ended) = ends.goes text 0 refl in
    ended_within_bound base text ending k (rw kept ended)
