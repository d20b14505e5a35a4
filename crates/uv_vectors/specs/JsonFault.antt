-- Why bytes aren't JSON text, and where.
use Rattle.std.specs.Prelude.{◌≡◌, ◌≢◌, ℕ, ◌+◌, ◌<◌, ◌==◌, ◌⊎◌, Bool, IsUtf8, List, count_by, length, take}
use Rattle.std.specs.Fmt.{is_char_start}
use Rattle.std.specs.List.{after_last}
use Rattle.std.specs.Str.Lossy.{utf8_valid_len}
use Rattle.uv_vectors.specs.declared.json_fault.BytePlace.{BytePlace}
use Rattle.uv_vectors.specs.declared.json_fault.FilePlace.{FilePlace}
use Rattle.uv_vectors.specs.declared.json_fault.JsonFault.{JsonFault}
use Rattle.uv_vectors.specs.declared.json_fault.JsonFault.TheVariants.{NotUtf8, CutShort, Unreadable}

-- ---- lines and columns

-- the byte is a line feed, which ends a line
abbrev pub is_line_feed : ℕ → Bool
is_line_feed byte = byte == 10

-- how many lines end among these bytes
abbrev pub line_feeds : List ℕ → ℕ
line_feeds bytes = count_by is_line_feed bytes

-- what is after the last line feed of these bytes: all of them, where they have none
abbrev pub last_line : List ℕ → List ℕ
last_line bytes = after_last is_line_feed bytes

-- how many code points these bytes begin
abbrev pub code_points : List ℕ → ℕ
code_points bytes = count_by is_char_start bytes

-- the place after these bytes: its line is 1 and the line feeds among them, its column 1 and the code points after
-- the last of these
abbrev pub place_after : List ℕ → FilePlace
place_after bytes = record { line = 1 + line_feeds bytes; column = 1 + code_points (last_line bytes) }

-- the place after these bytes, where columns count bytes
abbrev pub byte_place_after : List ℕ → BytePlace
byte_place_after bytes = record { line = 1 + line_feeds bytes; column = 1 + length (last_line bytes) }

-- so many bytes are before the one at this place; or all of them, if none of them is there
abbrev pub IsOffsetOf : List ℕ → BytePlace → ℕ → Type 0
IsOffsetOf bytes place at =
    ((at < length bytes) × (byte_place_after (take at bytes) ≡ place))
    ⊎ ((at ≡ length bytes) × ((other : ℕ) → other < length bytes → byte_place_after (take other bytes) ≢ place))

-- ---- faults

-- If the bytes aren't UTF-8, this is the place of the first that goes wrong. Else they end before their JSON does,
-- which is at their end; or what is at a place of them can't be read as JSON.
abbrev pub IsFaultOf : List ℕ → JsonFault → Type 0
IsFaultOf bytes (NotUtf8 place) = ¬ IsUtf8 bytes × (place ≡ place_after (take (utf8_valid_len bytes) bytes))
IsFaultOf bytes (CutShort place) = IsUtf8 bytes × (place ≡ place_after bytes)
IsFaultOf bytes (Unreadable place) =
    IsUtf8 bytes × ((at : ℕ) × (at < length bytes) × (place ≡ place_after (take at bytes)))
