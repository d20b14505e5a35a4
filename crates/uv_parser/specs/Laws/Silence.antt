-- Runs of the URL parser (URL Standard, section 4.4) that end with no validation error and no failure.
use Rattle.std.specs.Prelude.{◌≡◌, ℕ, List, Option}
use Rattle.uv_model.specs.Records.Url.{Url}
use Rattle.uv_model.specs.Parts.{Parts}
use Rattle.uv_model.specs.Records.Denote.{denote}
use Rattle.uv_parser.specs.Run.{Done, run, step_bound}

-- within the bound on its steps the run of the text ends with the URL that the parts denote
abbrev pub RunsSilently : Option Url → List ℕ → Parts → Type 0
RunsSilently base text parts = run base text (step_bound text) ≡ Done (denote base parts)
