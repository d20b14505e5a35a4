-- Walks over segments, after the URL Standard, sections 4.3 and 4.4.
use Rattle.std.specs.Prelude.{◌≡◌, ℕ, Bool, ◌||◌, List, [], ◌∷◌, ◌++◌, Option, Some, None}
use Rattle.std.specs.Str.{IsAscii}
use Rattle.uv_model.specs.Parts.{Form}
use Rattle.uv_model.specs.Path.{is_single_dot, is_double_dot, segments_of}
use Rattle.uv_grammar.specs.Built.{segments_in}

-- a single-dot or a double-dot URL path segment
abbrev pub is_dots : List ℕ → Bool
is_dots segment = is_double_dot segment || is_single_dot segment

-- a form of which the path isn't opaque
abbrev pub IsSegmented : Form → Type 0
IsSegmented form = (text : List ℕ) → segments_in form text ≡ segments_of text

-- the first segment, where there is one, which is ASCII
abbrev pub StartsSegments : Option (List ℕ) → List (List ℕ) → Type 0
StartsSegments None segments = segments ≡ []
StartsSegments (Some first) segments = (rest : List (List ℕ)) × (segments ≡ first ∷ rest) × IsAscii first
