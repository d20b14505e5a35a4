-- The code points that the URL parser (URL Standard, section 4.4) removes before its first step, each with a validation
-- error: C0 controls and spaces at the text's borders, and tabs and newlines everywhere.
use Rattle.std.specs.Prelude.{ℕ, ◌+◌, Bool, true, ◌&&◌, ◌||◌, ◌==◌, nat_le, List, [], ◌∷◌, Option, Some, None}
use Rattle.std.specs.Prelude.{if◌then◌else◌}

-- a tab, LF or CR
abbrev pub is_tab_or_newline : ℕ → Bool
is_tab_or_newline c = (c == 0x09) || ((c == 0x0A) || (c == 0x0D))

-- only C0 controls and spaces
abbrev pub are_controls : List ℕ → Bool
are_controls [] = true
are_controls (c ∷ rest) = nat_le c 0x20 && are_controls rest

-- the least place of a tab or a newline, or of a C0 control or a space that only such follow
abbrev pub removed_after : ℕ → List ℕ → Option ℕ
removed_after p [] = None
removed_after p (c ∷ rest) =
    if is_tab_or_newline c || (nat_le c 0x20 && are_controls rest) then Some p else removed_after (p + 1) rest

-- the least place from which the standard removes something, and none exactly when it removes nothing
unfoldable pub first_removed : List ℕ → Option ℕ
first_removed [] = None
first_removed (c ∷ rest) = if is_tab_or_newline c || nat_le c 0x20 then Some 0 else removed_after 1 rest
