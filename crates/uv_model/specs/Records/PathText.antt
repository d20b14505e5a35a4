-- Texts of paths of segments (URL Standard, sections 4.1 and 4.5).
use Rattle.std.specs.Prelude.{◌≡◌, ◌≢◌, ℕ, true, List, [], Option, Some, None}
use Rattle.std.specs.Str.{IsAscii}
use Rattle.uv_model.specs.Path.{segments_after, starts_with_slash}

-- ASCII that is empty or begins with `/`: the text of a path of segments, each after a `/`
pub record IsPathText (text : List ℕ) : Type 0 where
  pub ascii : IsAscii text
  pub start : text ≢ [] → starts_with_slash text ≡ true

-- a path's text with these segments
pub record IsTextOf (segments : List (List ℕ)) (text : List ℕ) : Type 0 where
  pub path : IsPathText text
  pub after : segments_after text ≡ segments

-- an absent text, or an ASCII one
abbrev pub MayBeAsciiText : Option (List ℕ) → Type 0
MayBeAsciiText None = Unit {0}
MayBeAsciiText (Some text) = IsAscii text
