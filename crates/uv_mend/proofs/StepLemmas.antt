-- One code point of a text further, function by function.
use Rattle.std.proofs.Common.{◌≡◌, ℕ, true, false, List, ◌∷◌}
use Rattle.std.proofs.lemmas.Bool.{cond-false, cond-true}
use Rattle.uv_mend.specs.Stripped.{after_controls, is_control_or_space, is_tab_or_newline, on_one_line}

-- a tab, an LF or a CR goes, and each other code point stays
pub line_out : (c : ℕ) (rest : List ℕ) → is_tab_or_newline c ≡ true → on_one_line (c ∷ rest) ≡ on_one_line rest
line_out c rest is = cond-true _ _ _ is

pub line_in : (c : ℕ) (rest : List ℕ) → is_tab_or_newline c ≡ false → on_one_line (c ∷ rest) ≡ c ∷ on_one_line rest
line_in c rest is = cond-false _ _ _ is

-- a control or a space at the start goes, and each other code point stays with the rest
pub control_out : (c : ℕ) (rest : List ℕ) → is_control_or_space c ≡ true
    → after_controls (c ∷ rest) ≡ after_controls rest
control_out c rest is = cond-true _ _ _ is

pub shown_in : (c : ℕ) (rest : List ℕ) → is_control_or_space c ≡ false → after_controls (c ∷ rest) ≡ c ∷ rest
shown_in c rest is = cond-false _ _ _ is
