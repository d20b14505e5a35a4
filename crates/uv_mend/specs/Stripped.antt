-- What the URL parser takes off its input before all else (URL Standard, section 4.4, the basic URL parser's first
-- steps): C0 controls and spaces at both ends, and each tab, LF and CR.
use Rattle.std.specs.Prelude.{ℕ, Bool, ◌||◌, ◌==◌, nat_le, List, [], ◌∷◌, reverse, if◌then◌else◌}

-- a C0 control or a space
abbrev pub is_control_or_space : ℕ → Bool
is_control_or_space c = nat_le c 0x20

-- a tab, an LF or a CR
abbrev pub is_tab_or_newline : ℕ → Bool
is_tab_or_newline c = (c == 0x9) || ((c == 0xA) || (c == 0xD))

-- the text without those at its start
abbrev pub after_controls : List ℕ → List ℕ
after_controls [] = []
after_controls (c ∷ rest) = if is_control_or_space c then after_controls rest else c ∷ rest

-- the text without those at its end
unfoldable pub before_controls : List ℕ → List ℕ
before_controls text = reverse (after_controls (reverse text))

-- the text without tabs, LF and CR
abbrev pub on_one_line : List ℕ → List ℕ
on_one_line [] = []
on_one_line (c ∷ rest) = if is_tab_or_newline c then on_one_line rest else c ∷ on_one_line rest

-- the parser's input
abbrev pub stripped : List ℕ → List ℕ
stripped text = on_one_line (before_controls (after_controls text))
