-- Printable ASCII, which is on a terminal as it is.
use Rattle.std.specs.Prelude.{◌≡◌, ℕ, Bool, true, List}
use Rattle.std.specs.Int.{is_in_range}
use Rattle.std.specs.List.{list_all}

-- a printable ASCII byte: no control
abbrev pub is_printable : ℕ → Bool
is_printable byte = is_in_range 0x20 0x7E byte

-- a text of only such bytes: one line, which a terminal shows as it is
abbrev pub IsLine : List ℕ → Type 0
IsLine text = list_all is_printable text ≡ true
