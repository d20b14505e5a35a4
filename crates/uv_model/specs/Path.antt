-- Paths and their segments, after the URL Standard, sections 4.1 to 4.4.
use Rattle.std.specs.Prelude.{◌≡◌, ◌⊎◌, ℕ, Bool, true, false, ◌&&◌, ◌||◌, ◌==◌, List, [], ◌∷◌, ◌++◌, codes, Option}
use Rattle.std.specs.Prelude.{Some, None, if◌then◌else◌}
use Rattle.std.specs.List.{list_all, join_with_byte, slice_split}
use Rattle.std.specs.Str.{bytes_eq}
use Rattle.std.specs.Char.{is_ascii_alphabetic}
use Rattle.uv_model.specs.declared.scheme.Class.{Class}
use Rattle.uv_model.specs.declared.scheme.Class.TheVariants.{File}
use Rattle.uv_model.specs.Ascii.{slash, colon, vertical_bar, question_mark, space}
use Rattle.uv_model.specs.Scheme.{lowercase}
use Rattle.uv_model.specs.Units.{IsUnits, is_unit_at}
use Rattle.uv_model.specs.Encoding.{encoded}

-- ---- drive letters and dot segments

-- a Windows drive letter: an ASCII letter, and `:` or `|`
abbrev pub is_drive_letter : List ℕ → Bool
is_drive_letter (c ∷ mark ∷ []) = is_ascii_alphabetic c && ((mark == colon) || (mark == vertical_bar))
is_drive_letter _ = false

-- a normalized Windows drive letter: its second code point is `:`
abbrev pub is_normalized_drive_letter : List ℕ → Bool
is_normalized_drive_letter (c ∷ mark ∷ []) = is_ascii_alphabetic c && (mark == colon)
is_normalized_drive_letter _ = false

-- a single-dot URL path segment, in any case
unfoldable pub is_single_dot : List ℕ → Bool
is_single_dot segment = bytes_eq (lowercase segment) (codes ".") || bytes_eq (lowercase segment) (codes "%2e")

-- a double-dot URL path segment, in any case
unfoldable pub is_double_dot : List ℕ → Bool
is_double_dot segment =
    bytes_eq (lowercase segment) (codes "..") || (bytes_eq (lowercase segment) (codes ".%2e")
    || (bytes_eq (lowercase segment) (codes "%2e.") || bytes_eq (lowercase segment) (codes "%2e%2e")))

-- ---- shorten and walk

-- the list without its last segment
abbrev pub without_last : List (List ℕ) → List (List ℕ)
without_last [] = []
without_last (segment ∷ []) = []
without_last (segment ∷ next ∷ rest) = segment ∷ without_last (next ∷ rest)

-- the list is one normalized Windows drive letter
abbrev pub is_lone_drive : List (List ℕ) → Bool
is_lone_drive (segment ∷ []) = is_normalized_drive_letter segment
is_lone_drive _ = false

-- shorten a URL's path (section 4.2)
abbrev pub shorten : Class → List (List ℕ) → List (List ℕ)
shorten File path = if is_lone_drive path then path else without_last path
shorten _ path = without_last path

-- one segment of a walk, which knows whether it is the last
abbrev pub walk_one : Class → Bool → List (List ℕ) → List ℕ → List (List ℕ)
walk_one class last path segment =
    if is_double_dot segment then (if last then shorten class path ++ ([] ∷ []) else shorten class path)
    else (if is_single_dot segment then (if last then path ++ ([] ∷ []) else path)
    else path ++ (encoded false segment ∷ []))

-- from a start list over the segments of a text in order
unfoldable pub walk : Class → List (List ℕ) → List (List ℕ) → List (List ℕ)
walk class path [] = path
walk class path (segment ∷ []) = walk_one class true path segment
walk class path (segment ∷ next ∷ rest) = walk class (walk_one class false path segment) (next ∷ rest)

-- ---- the texts of paths (section 4.3)

-- the texts between the slashes of a path
abbrev pub pieces : List ℕ → List (List ℕ)
pieces text = slice_split (λ c. c == slash) text

-- the segments of a path that isn't opaque: the texts between its slashes, but for a `/` at its start
abbrev pub segments_of : List ℕ → List (List ℕ)
segments_of [] = []
segments_of (c ∷ rest) = if c == slash then pieces rest else pieces (c ∷ rest)

-- the segments of a path that begins with `/`, or of no code point
abbrev pub segments_after : List ℕ → List (List ℕ)
segments_after [] = []
segments_after (c ∷ rest) = pieces rest

-- the segments that a text between slashes still holds, where there is one
abbrev pub left_segments : Option (List ℕ) → List (List ℕ)
left_segments None = []
left_segments (Some text) = pieces text

-- the code point isn't in the text
abbrev pub is_without : ℕ → List ℕ → Bool
is_without mark text = list_all (λ c. if c == mark then false else true) text

-- a URL-path-segment string: URL units without `/` and `?`
pub record IsSegment (text : List ℕ) : Type 0 where
  pub units : IsUnits text
  pub no_slash : is_without slash text ≡ true
  pub no_question_mark : is_without question_mark text ≡ true

-- the text begins with `/`
abbrev pub starts_with_slash : List ℕ → Bool
starts_with_slash [] = false
starts_with_slash (c ∷ rest) = c == slash

-- each is a URL-path-segment string
abbrev pub AreSegments : List (List ℕ) → Type 0
AreSegments [] = Unit {0}
AreSegments (segment ∷ rest) = IsSegment segment × AreSegments rest

-- one segment at least, with `/` between each two
pub record JoinsTo (segments : List (List ℕ)) (text : List ℕ) : Type 0 where
  pub first : List ℕ
  pub others : List (List ℕ)
  pub some : segments ≡ first ∷ others
  pub each : AreSegments segments
  pub joined : text ≡ join_with_byte slash segments

-- a path-relative string of these segments: it doesn't begin with `/`
pub record IsPathRelative (segments : List (List ℕ)) (text : List ℕ) : Type 0 where
  pub joins : JoinsTo segments text
  pub start : starts_with_slash text ≡ false

-- a path-absolute string of these segments: `/` and a path-relative string
pub record IsPathAbsolute (segments : List (List ℕ)) (text : List ℕ) : Type 0 where
  pub after : List ℕ
  pub slashed : text ≡ slash ∷ after
  pub relative : IsPathRelative segments after

-- `/` and any segments, of which the first may be empty too
pub record IsPathSlashed (segments : List (List ℕ)) (text : List ℕ) : Type 0 where
  pub after : List ℕ
  pub slashed : text ≡ slash ∷ after
  pub joins : JoinsTo segments after

-- from code point to code point a space or no fault of units
abbrev pub is_spaced : List ℕ → Bool
is_spaced [] = true
is_spaced (c ∷ rest) = ((c == space) || is_unit_at c rest) && is_spaced rest

-- URL units and spaces without `?` that don't begin with `/`
pub record IsSpacedPath (text : List ℕ) : Type 0 where
  pub units : is_spaced text ≡ true
  pub no_question_mark : is_without question_mark text ≡ true
  pub start : starts_with_slash text ≡ false

-- the text ends with a space
abbrev pub ends_with_space : List ℕ → Bool
ends_with_space [] = false
ends_with_space (c ∷ []) = c == space
ends_with_space (c ∷ next ∷ rest) = ends_with_space (next ∷ rest)

-- An opaque path on which the parser is silent (section 4.4, opaque path state): URL units and spaces, of which none
-- is at the end, where it would be removed, unless a query or a fragment follows.
pub record IsTakenSpacedPath (followed : Bool) (text : List ℕ) : Type 0 where
  pub spaced : IsSpacedPath text
  pub end : followed ≡ false → ends_with_space text ≡ false

-- no code point and no segment, or `/` and any segments
abbrev pub MayBePathSlashed : List (List ℕ) → List ℕ → Type 0
MayBePathSlashed segments text = ((text ≡ []) × (segments ≡ [])) ⊎ IsPathSlashed segments text

-- the text begins with `/`, a Windows drive letter, `/`
abbrev pub starts_with_drive_segment : List ℕ → Bool
starts_with_drive_segment (first ∷ c ∷ mark ∷ next ∷ rest) =
    (first == slash) && (is_drive_letter (c ∷ mark ∷ []) && (next == slash))
starts_with_drive_segment _ = false
