-- What a URL keeps of a text as it is (URL Standard, sections 4.4 and 4.5).
use Rattle.std.specs.Prelude.{ℕ, Bool, true, false, not, ◌&&◌, ◌||◌, ◌==◌, List, [], ◌∷◌}
use Rattle.std.specs.Char.{is_ascii}
use Rattle.uv_model.specs.Ascii.{apostrophe, full_stop, percent_sign, slash}
use Rattle.uv_model.specs.Path.{starts_with_slash}
use Rattle.uv_resolve.specs.Walk.{is_dots}

-- a code point that no part encodes: ASCII, and not `'`, which a query of a special URL encodes
abbrev pub is_never_encoded : ℕ → Bool
is_never_encoded c = is_ascii c && not (c == apostrophe)

-- the text begins with `/`, and no second one is after it
abbrev pub begins_with_one_slash : List ℕ → Bool
begins_with_one_slash [] = false
begins_with_one_slash (c ∷ rest) = (c == slash) && not (starts_with_slash rest)

-- a segment that a walk keeps: it isn't a dot segment
abbrev pub is_kept_segment : List ℕ → Bool
is_kept_segment segment = not (is_dots segment)

-- a code point with which a dot segment begins
abbrev pub is_dot_mark : ℕ → Bool
is_dot_mark c = (c == full_stop) || (c == percent_sign)

-- no `.` and no `%` is after a `/`, nor at the start where that begins a segment
abbrev pub has_no_dots : Bool → List ℕ → Bool
has_no_dots begins [] = true
has_no_dots begins (c ∷ rest) = not (begins && is_dot_mark c) && has_no_dots (c == slash) rest
