-- What is shown of a line: all of it, or of a long one a window around a place.
use Rattle.std.specs.Prelude.{ℕ, ◌-◌, Bool, true, false, List, [], ◌∷◌, ◌++◌, drop, encode_utf8, flat_map}
use Rattle.std.specs.Prelude.{if◌then◌else◌, length, min, nat_lt, take}
use Rattle.std.specs.Str.{chars}

-- a line has more code points than so many
abbrev pub is_longer : ℕ → List ℕ → Bool
is_longer most line = nat_lt most (length (chars line))

-- a line has more code points than so many after a start
abbrev pub has_more : ℕ → List ℕ → ℕ → Bool
has_more most line start = nat_lt most (length (drop start (chars line)))

-- `…` (U+2026), where a line is cut
abbrev pub cut_mark : Bool → List ℕ
cut_mark true = 0xE2 ∷ 0x80 ∷ 0xA6 ∷ []
cut_mark false = []

-- 198 code points of a line from a start on
unfoldable pub window_points : List ℕ → ℕ → List ℕ
window_points line start = flat_map encode_utf8 (take 198 (drop start (chars line)))

-- these, with `…` on each side where more of the line is
unfoldable pub cut_out : List ℕ → ℕ → List ℕ
cut_out line start =
    cut_mark (nat_lt 0 start) ++ (window_points line start ++ cut_mark (has_more 198 line start))

-- A line of at most 200 code points is shown whole. A longer one is shown by 198 code points from the 99th before the
-- place on, or from the line's start on where the place is nearer to it: with each `…` they are at most 200.
unfoldable pub window : List ℕ → ℕ → List ℕ
window line place = if is_longer 200 line then cut_out line (place - 99) else line

-- Where the place is in what is shown. Before a place that is further on, `…` and 99 code points are.
abbrev pub window_place : List ℕ → ℕ → ℕ
window_place line place = if is_longer 200 line then min place 100 else place

-- a link has more code points than a report carries whole
abbrev pub is_cut : List ℕ → Bool
is_cut line = is_longer 2000 line

-- what a report carries of a link: all of it, or of one with more than 2,000 code points what is shown of it
unfoldable pub carried : List ℕ → ℕ → List ℕ
carried line place = if is_cut line then window line place else line
