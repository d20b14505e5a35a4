-- What the second parser takes off its input.
use Rattle.std.proofs.Common.{◌≡◌, ◌∙◌, ℕ, ◌-◌, Bool, true, false, not, ◌||◌, ◌==◌, List, [], ◌∷◌, ◌++◌, refl}
use Rattle.std.proofs.Common.{sym, ap, inl, inr}
use Rattle.std.proofs.Common.{drop, length, one-add, reverse, take, take-append-drop, take_at}
use Rattle.std.specs.List.{suffix_len}
use Rattle.std.proofs.lemmas.Bool.{cases_Bool, cond-false, cond-true}
use Rattle.std.proofs.lemmas.List.{length-drop, length-reverse, reverse-append, reverse-reverse}
use Rattle.url.specs.Input.{is_c0_control_or_space, is_tab_or_new_line, strip_tabs_and_new_lines}
use Rattle.url.specs.Input.{trim_c0_control_and_space}
use Rattle.url.specs.Input.{trim_end, trim_start}
use Rattle.uv_mend.specs.Stripped.{after_controls, before_controls, is_control_or_space, is_tab_or_newline}
use Rattle.uv_mend.specs.Stripped.{on_one_line, stripped}
use Rattle.uv_mend.proofs.StepLemmas.{line_in, line_out}

-- both name the same bytes
same_tab : (b : ℕ) → is_tab_or_new_line b ≡ is_tab_or_newline b
same_tab b = grouped (b == 9) (b == 10) (b == 13)
  where
    grouped : (x y z : Bool) → ((x || y) || z) ≡ (x || (y || z))
    grouped true y z = refl
    grouped false y z = refl

lines_stripped : (bytes : List ℕ) → strip_tabs_and_new_lines bytes ≡ on_one_line bytes
unfolding strip_tabs_and_new_lines
lines_stripped [] = refl
lines_stripped (b ∷ rest) = elim (cases_Bool (is_tab_or_newline b)) [
  | inl tab ↦ cond-false _ _ _ (ap not (same_tab b ∙ tab)) ∙ lines_stripped rest ∙ sym (line_out b rest tab)
  | inr other ↦
      cond-true _ _ _ (ap not (same_tab b ∙ other)) ∙ ap (λ t. b ∷ t) (lines_stripped rest) ∙ sym (line_in b rest other)
]

start_trimmed : (bytes : List ℕ) → trim_start is_c0_control_or_space bytes ≡ after_controls bytes
start_trimmed [] = refl
start_trimmed (b ∷ rest) = elim (cases_Bool (is_control_or_space b)) [
  | inl control ↦ rw (control, one-add) (start_trimmed rest)
  | inr shown ↦ rw shown refl
]

dropped_end : (bytes : List ℕ) (k : ℕ) → take (length bytes - k) bytes ≡ reverse (drop k (reverse bytes))
dropped_end bytes k =
    let turned = reverse bytes in
    let parts : bytes ≡ reverse (drop k turned) ++ reverse (take k turned) =
    sym (reverse-reverse bytes) ∙ ap reverse (sym (take-append-drop k turned))
    ∙ reverse-append (take k turned) (drop k turned) in
    let place : length (reverse (drop k turned)) ≡ length bytes - k =
    length-reverse (drop k turned) ∙ length-drop k turned ∙ ap (λ n. n - k) (length-reverse bytes) in
    ap (take (length bytes - k)) parts ∙ take_at (reverse (drop k turned)) (reverse (take k turned)) _ place

end_trimmed : (bytes : List ℕ) → trim_end is_c0_control_or_space bytes ≡ before_controls bytes
unfolding before_controls
end_trimmed bytes =
    dropped_end bytes (suffix_len is_c0_control_or_space bytes) ∙ ap reverse (start_trimmed (reverse bytes))

-- the second parser's input
pub input_stripped : (bytes : List ℕ) → strip_tabs_and_new_lines (trim_c0_control_and_space bytes) ≡ stripped bytes
unfolding trim_c0_control_and_space
input_stripped bytes =
    lines_stripped (trim_end is_c0_control_or_space (trim_start is_c0_control_or_space bytes))
    ∙ ap on_one_line (end_trimmed (trim_start is_c0_control_or_space bytes)
    ∙ ap before_controls (start_trimmed bytes))
