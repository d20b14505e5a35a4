-- How many steps a run of the URL parser takes (URL Standard, section 4.4), on valid texts and on all others: twice as
-- many as the text has code points and five more at most, and on some text exactly so many.
use Rattle.std.specs.Prelude.{◌≡◌, ℕ, ◌+◌, ◌*◌, ◌≤◌, List, length, Option, Some}
use Rattle.uv_parser.specs.Laws.DecidedTexts.{IsDecidedWithin}
use Rattle.uv_parser.specs.Rows.References.{root_base}
use Rattle.uv_parser.specs.Run.{Outcome, Done, Stopped, Going, run}
use Rattle.uv_model.specs.declared.profile.Profile.TheVariants.{Parser}
use Rattle.uv_model.specs.Records.Url.{Url}
use Rattle.uv_model.specs.Records.WellFormed.{MayBeWellFormed}

-- the bound, which some runs take whole
abbrev pub least_step_bound : List ℕ → ℕ
least_step_bound text = 2 * length text + 5

-- the run is done or has stopped
abbrev pub IsEnded : Outcome → Type 0
IsEnded (Done url) = Unit {0}
IsEnded (Stopped place) = Unit {0}
IsEnded (Going machine) = ⊥

-- against each base, well formed or not, and without a base, the run of each text ends within the bound
abbrev pub RunsEnd : Type 0
RunsEnd = (base : Option Url) (text : List ℕ) → IsEnded (run base text (least_step_bound text))

-- from the bound on, more steps change nothing
abbrev pub RunsKeepTheirEnd : Type 0
RunsKeepTheirEnd = (base : Option Url) (text : List ℕ) (steps : ℕ) → least_step_bound text ≤ steps
    → run base text steps ≡ run base text (least_step_bound text)

-- Against each base that is well formed under the parser's profile, and without a base, each text is decided within any
-- number of steps from the bound on. So it is within the wider bound of specs/Run.
abbrev pub TextsAreDecidedSoon : Type 0
TextsAreDecidedSoon = (base : Option Url) (text : List ℕ) (steps : ℕ) → MayBeWellFormed Parser base
    → least_step_bound text ≤ steps → IsDecidedWithin steps base text

-- Against `http://h/` there is a text of each length from four on whose run hasn't ended one step before the bound.
abbrev pub BoundIsTaken : Type 0
BoundIsTaken = (more : ℕ) → (text : List ℕ) × (length text ≡ more + 4)
    × ¬ (IsEnded (run (Some root_base) text (2 * length text + 4)))
