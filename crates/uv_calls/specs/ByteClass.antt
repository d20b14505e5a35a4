-- Sets of ASCII bytes, given by ranges.
use Rattle.std.specs.Prelude.{ℕ, List, Bool, ◌&&◌, ◌||◌, length, nat_le, nat_lt}
use Rattle.std.specs.List.{list_any}

-- the byte is in the range, from its first byte to its last
abbrev pub within : ℕ × ℕ → ℕ → Bool
within range byte = nat_le range.0 byte && nat_le byte range.1

-- the byte is in one of the ranges
abbrev pub in_class : List (ℕ × ℕ) → ℕ → Bool
in_class ranges byte = list_any (λ range. within range byte) ranges

-- a bound of the range is above 127
abbrev pub is_wide : ℕ × ℕ → Bool
is_wide range = nat_lt 127 range.0 || nat_lt 127 range.1

-- there are more than 12 ranges, or a bound of one is above 127
abbrev pub is_refused : List (ℕ × ℕ) → Bool
is_refused ranges = nat_lt 12 (length ranges) || list_any is_wide ranges
