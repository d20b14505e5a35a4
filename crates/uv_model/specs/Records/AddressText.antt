-- The groups of IPv6 addresses as the host serializer writes them (URL Standard, section 3.6).
use Rattle.std.specs.Prelude.{ℕ, List, ◌++◌, codes, flat_map}
use Rattle.std.specs.Net.Text.{hex}

-- pieces in hex, with `:` before each
abbrev pub later_groups : List ℕ → List ℕ
later_groups pieces = flat_map (λ piece. codes ":" ++ hex piece) pieces
