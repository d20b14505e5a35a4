-- Texts that are one after the other in a buffer, by their offsets.
use Rattle.std.specs.Prelude.{ℕ, ◌+◌, ◌-◌, ◌≤◌, ◌<◌, List, length, slice_index, slice_range, Option, Some, None}

-- how many texts there are: each ends where the next one begins
abbrev pub row_count : List ℕ → ℕ
row_count offsets = length offsets - 1

-- the offsets of a text ascend, and lie in a buffer of so many bytes
abbrev pub IsRow : ℕ → List ℕ → ℕ → Type 0
IsRow bytes offsets row =
    (slice_index offsets row ≤ slice_index offsets (row + 1)) × (slice_index offsets (row + 1) ≤ bytes)

-- so do the offsets of the texts before this one
abbrev pub AreRows : ℕ → List ℕ → ℕ → Type 0
AreRows bytes offsets count = (row : ℕ) → row < count → IsRow bytes offsets row

-- this is the first text of which they don't, or there is none
abbrev pub IsFirstWrong : ℕ → List ℕ → Option ℕ → Type 0
IsFirstWrong bytes offsets None = AreRows bytes offsets (row_count offsets)
IsFirstWrong bytes offsets (Some row) =
    (row < row_count offsets) × AreRows bytes offsets row × ¬ (IsRow bytes offsets row)

-- the bytes of a text
abbrev pub row_text : List ℕ → List ℕ → ℕ → List ℕ
row_text texts offsets row = slice_range texts (slice_index offsets row) (slice_index offsets (row + 1))
