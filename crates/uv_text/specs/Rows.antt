-- Classes of ASCII bytes by the two halves of a byte, as sixteen rows of eight bits.
use Rattle.std.specs.Prelude.{◌≡◌, ℕ, ◌<◌, ◌/◌, ◌%◌, Bool, not, List, [], ◌∷◌, ◌==◌, length, slice_index, bit_and, map}
use Rattle.std.specs.Simd.Lanes.{mask_l}

-- the row of a byte's low half
abbrev pub row_at : List ℕ → ℕ → ℕ
row_at rows b = slice_index rows (bit_and b 15)

-- the bit of a byte's high half; a byte beyond ASCII has none
abbrev pub high_bit : ℕ → ℕ
high_bit b = slice_index (1 ∷ 2 ∷ 4 ∷ 8 ∷ 16 ∷ 32 ∷ 64 ∷ 128 ∷ 0 ∷ 0 ∷ 0 ∷ 0 ∷ 0 ∷ 0 ∷ 0 ∷ 0 ∷ []) (b / 16)

-- of the row of the low half the bit of the high half
abbrev pub row_bit : List ℕ → ℕ → ℕ
row_bit rows b = bit_and (row_at rows b) (high_bit b)

-- the row of the low half has the bit of the high half
abbrev pub is_in_rows : List ℕ → ℕ → Bool
is_in_rows rows b = not (row_bit rows b == 0)

-- the rows hold exactly the bytes of a class
abbrev pub HoldClass : List ℕ → (ℕ → Bool) → Type 0
HoldClass rows held = (b : ℕ) → b < 256 → is_in_rows rows b ≡ held b

-- a load of a table of sixteen, which is in it twice
pub record StandsTwice (table lanes : List ℕ) : Type 0 where
  pub long : length lanes ≡ 32
  pub each : (k : ℕ) → k < 32 → slice_index lanes k ≡ slice_index table (k % 16)

-- by any rows the load has the bits of the bytes
abbrev pub HasBitsOf : List ℕ → List ℕ → Type 0
HasBitsOf bytes load = (rows : List ℕ) → mask_l (map (is_in_rows rows) load) ≡ mask_l (map (is_in_rows rows) bytes)
