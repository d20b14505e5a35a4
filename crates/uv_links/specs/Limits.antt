-- The limits of a run over a list of links: the longest line, and how many lines may come.
use Rattle.std.specs.Prelude.{ℕ, Bool, ◌&&◌, nat_le}

-- neither number is above the largest that a run takes
abbrev pub are_limits : ℕ → ℕ → Bool
are_limits line_bytes lines = nat_le line_bytes 65536 && nat_le lines 1000000000
