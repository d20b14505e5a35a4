-- What a filter writes of lines, one after the other.
use Rattle.std.specs.Prelude.{◌≡◌, ℕ, Bool, true, false, List, [], ◌∷◌, ◌++◌}
use Rattle.uv_filter.specs.declared.counts.FilterCounts.{FilterCounts}
use Rattle.uv_filter.specs.declared.fate.Fate.{Fate}
use Rattle.uv_filter.specs.Counts.{counted, none_counted}
use Rattle.uv_filter.specs.Fates.{IsFate, Mender, written_of}
use Rattle.uv_filter.specs.Lines.{Line}

-- a filter between two lines: by what it mends, whether the next line is the first, and the counts of those before
pub record Filtering : Type 0 where
  pub mender : Mender
  pub is_first : Bool
  pub counts : FilterCounts

-- before the first line
abbrev pub starting : Mender → Filtering
starting mender = record { mender = mender; is_first = true; counts = none_counted }

-- after a further line, of which this has become
abbrev pub with_fate : Filtering → Fate → Filtering
with_fate before fate =
    record { mender = before.mender; is_first = false; counts = counted before.counts fate }

-- of the next line this is written, and the filter is left so
pub record Filters (before : Filtering) (line : Line) (text : List ℕ) (after : Filtering) : Type 0 where
  pub fate : Fate
  pub is_fate : IsFate before.mender before.is_first line fate
  pub written : text ≡ written_of before.is_first line fate
  pub left : after ≡ with_fate before fate

-- of the next lines this is written, and the filter is left so
abbrev pub Filtered : Filtering → List Line → List ℕ → Filtering → Type 0
Filtered before [] text after = (text ≡ []) × (after ≡ before)
Filtered before (line ∷ lines) text after =
    (prefix : List ℕ) × (rest : List ℕ) × (next : Filtering) × Filters before line prefix next
    × Filtered next lines rest after × (text ≡ prefix ++ rest)
