-- Runs of the machine, after the URL Standard, section 4.4: the test before the first step, one step, and many.
use Rattle.std.specs.Prelude.{ℕ, zero, suc, ◌+◌, ◌*◌, List, [], ◌∷◌, length, drop, Option, Some, None}
use Rattle.uv_model.specs.Records.Url.{Url}
use Rattle.uv_parser.specs.Machine.{State, SchemeStartState, Variables, Turn, onward, again, from_place, stop, turn}
use Rattle.uv_parser.specs.Machine.{empty_variables}
use Rattle.uv_model.specs.Removed.{first_removed}

-- a state, the pointer's place, and the variables
pub record Machine : Type 0 where
  pub state : State
  pub pointer : ℕ
  pub variables : Variables

-- the run has ended with a URL, or with a stop at a place, or it goes on
pub data Outcome : Type 0 where
  Done : Url → Outcome
  Stopped : ℕ → Outcome
  Going : Machine → Outcome

-- where the machine is after a row at a place
abbrev pub settle : ℕ → List ℕ → Turn → Outcome
settle p rest stop = Stopped p
settle p rest (again s v) = Going (record { state = s; pointer = p; variables = v })
settle p rest (from_place q s v) = Going (record { state = s; pointer = q; variables = v })
settle p [] (onward s v) = Done v.url
settle p (c ∷ rest) (onward s v) = Going (record { state = s; pointer = p + 1; variables = v })

-- one step
unfoldable pub step : Option Url → List ℕ → Machine → Outcome
step base text m =
    settle m.pointer (drop m.pointer text) (turn base m.state m.pointer m.variables (drop m.pointer text))

-- at most so many steps
unfoldable pub run_from : Option Url → List ℕ → Outcome → ℕ → Outcome
run_from base text outcome zero = outcome
run_from base text (Done url) (suc k) = Done url
run_from base text (Stopped p) (suc k) = Stopped p
run_from base text (Going m) (suc k) = run_from base text (step base text m) k

-- ---- before the first step

-- the run stops there, or begins
abbrev pub first_outcome : Option ℕ → Outcome
first_outcome (Some p) = Stopped p
first_outcome None = Going (record { state = SchemeStartState; pointer = 0; variables = empty_variables })

-- what at most k steps of the machine give
unfoldable pub run : Option Url → List ℕ → ℕ → Outcome
run base text k = run_from base text (first_outcome (first_removed text)) k

-- the bound on the steps of a run on a valid text
abbrev pub step_bound : List ℕ → ℕ
step_bound text = 3 * length text + 16
