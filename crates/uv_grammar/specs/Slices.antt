-- Slices of a text as the code points that the definitions see.
use Rattle.std.specs.Prelude.{ℕ, List, Option, option_map}
use Rattle.std.specs.Borrow.{Bor}
use Rattle.std.specs.Str.{chars}

-- the code points of a slice
abbrev pub chars_of : Bor (List ℕ) → List ℕ
chars_of text = chars text.now

-- the code points of a slice that may be absent
abbrev pub chars_of_option : Option (Bor (List ℕ)) → Option (List ℕ)
chars_of_option text = option_map chars_of text
