-- What was written where rules are to be explained.
use Rattle.std.specs.Prelude.{◌≡◌, ℕ, false, List, Option, String, take}
use Rattle.std.specs.Io.KnownBytes.{Appends}
use Rattle.std.specs.declared.alloc.Global.{Global}
use Rattle.uv_arguments.specs.declared.jobs.Told.{Told}
use Rattle.uv_cli.specs.declared.explain.ExplainEnd.{ExplainEnd}
use Rattle.uv_cli.specs.declared.explain.ExplainEnd.TheVariants.{Explained, Unknown}
use Rattle.uv_messages.specs.Explanations.{IsExplained, are_explained}

-- the explanation of these names was written, or one of them belongs to no rule and to no violation
abbrev pub HasExplained : List (String Global) → Told → ExplainEnd → Option (List ℕ) → Option (List ℕ) → Type 0
HasExplained rules told Explained old new =
    (text : List ℕ) × IsExplained rules told text × Appends old new text
HasExplained rules told Unknown old new = are_explained rules ≡ false

-- a prefix of it was written
abbrev pub HasExplainedPrefix : List (String Global) → Told → Option (List ℕ) → Option (List ℕ) → Type 0
HasExplainedPrefix rules told old new =
    (text : List ℕ) × IsExplained rules told text × ((count : ℕ) × Appends old new (take count text))
