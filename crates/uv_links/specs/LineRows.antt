-- Lists that are written out, and their lines.
use Rattle.std.specs.Prelude.{◌≡◌, List, ℕ, [], ◌∷◌, ◌++◌, codes}
use Rattle.uv_lines.specs.Lines.{lines_of}

-- CR and LF
abbrev pub carriage_return_line_feed : List ℕ
carriage_return_line_feed = 13 ∷ 10 ∷ []

-- the lines of lists, with an empty line, with CR before LF and at the end, with a byte that isn't UTF-8, and with none
pub record LineRows : Type 0 where
  pub empty_line : lines_of (codes "a\n\nhttp://x_y/\n") ≡ codes "a" ∷ [] ∷ codes "http://x_y/" ∷ []
  pub open_end : lines_of (codes "a" ++ carriage_return_line_feed ++ (255 ∷ codes "\nb"))
      ≡ codes "a" ∷ (255 ∷ []) ∷ codes "b" ∷ []
  pub none : lines_of [] ≡ []
  pub closed_end : lines_of (codes "abcd\nabc" ++ carriage_return_line_feed) ≡ codes "abcd" ∷ codes "abc" ∷ []
  pub kept_return : lines_of (codes "a" ++ (13 ∷ [])) ≡ (codes "a" ++ (13 ∷ [])) ∷ []
