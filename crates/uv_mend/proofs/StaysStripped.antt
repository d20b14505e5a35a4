-- A text of which nothing is taken off.
use Rattle.std.proofs.Common.{◌≡◌, ◌∙◌, ℕ, Bool, true, false, not, List, [], ◌∷◌, ◌++◌, refl, sym, ap}
use Rattle.std.proofs.Common.{inl, inr, arith}
use Rattle.std.specs.List.{list_all}
use Rattle.std.proofs.lemmas.Bool.{and_from, and_parts, cases_Bool, not-true, true≢false}
use Rattle.std.proofs.lemmas.Bool.Decides.{nat_tests}
use Rattle.uv_mend.specs.Stripped.{after_controls, before_controls, is_control_or_space, is_tab_or_newline}
use Rattle.uv_mend.specs.Stripped.{on_one_line}
use Rattle.uv_mend.specs.Stripped.{stripped}
use Rattle.uv_mend.proofs.StrippedLemmas.{before_controls-none, before_controls-one, before_controls-other, from_ends}
use Rattle.uv_mend.proofs.StepLemmas.{control_out, line_in, line_out, shown_in}

-- the code point isn't a control and no space, and no tab, LF or CR
abbrev pub is_shown : ℕ → Bool
is_shown c = not (is_control_or_space c)

abbrev pub is_in_line : ℕ → Bool
is_in_line c = not (is_tab_or_newline c)

-- the first code point is shown, where there is one
abbrev pub starts_shown : List ℕ → Bool
starts_shown [] = true
starts_shown (c ∷ rest) = is_shown c

-- and so is the last one, or what is before the text is where it is empty
abbrev pub ends_shown : Bool → List ℕ → Bool
ends_shown before [] = before
ends_shown before (c ∷ rest) = ends_shown (is_shown c) rest

-- nothing is taken off
pub record StaysStripped (text : List ℕ) : Type 0 where
  pub start : starts_shown text ≡ true
  pub end : ends_shown true text ≡ true
  pub line : list_all is_in_line text ≡ true

not_false : (b : Bool) → b ≡ false → not b ≡ true
not_false true is = sym is
not_false false is = refl

-- ---- the end

ends_one : (before : Bool) (text : List ℕ) (c : ℕ) → ends_shown before (text ++ c ∷ []) ≡ is_shown c
ends_one before [] c = refl
ends_one before (d ∷ text) c = ends_one (is_shown d) text c

pub ends_append : (before : Bool) (xs ys : List ℕ) → ends_shown before (xs ++ ys) ≡ ends_shown (ends_shown before xs) ys
ends_append before [] ys = refl
ends_append before (x ∷ xs) ys = ends_append (is_shown x) xs ys

pub ends_more : (before : Bool) (text : List ℕ) → ends_shown before text ≡ true → ends_shown true text ≡ true
ends_more before [] ends = refl
ends_more before (c ∷ rest) ends = ends

end_stays : (text : List ℕ) → ends_shown true text ≡ true → before_controls text ≡ text
end_stays text =
    from_ends (λ t. ends_shown true t ≡ true → before_controls t ≡ t) (λ _. before_controls-none)
    (λ front c known ends. before_controls-other front c
    (not-true (is_control_or_space c) (sym (ends_one true front c) ∙ ends)))
    text

end_taken : (text : List ℕ) → ends_shown true (before_controls text) ≡ true
end_taken text =
    from_ends (λ t. ends_shown true (before_controls t) ≡ true) (ap (ends_shown true) before_controls-none) one text
  where
    one : (front : List ℕ) (c : ℕ) → ends_shown true (before_controls front) ≡ true
        → ends_shown true (before_controls (front ++ c ∷ [])) ≡ true
    one front c known = elim (cases_Bool (is_control_or_space c)) [
      | inl control ↦ ap (ends_shown true) (before_controls-one front c control) ∙ known
      | inr shown ↦
          ap (ends_shown true) (before_controls-other front c shown) ∙ ends_one true front c
          ∙ not_false (is_control_or_space c) shown
    ]

-- ---- the start

start_stays : (text : List ℕ) → starts_shown text ≡ true → after_controls text ≡ text
start_stays [] starts = refl
start_stays (c ∷ rest) starts = shown_in c rest (not-true (is_control_or_space c) starts)

start_taken : (text : List ℕ) → starts_shown (after_controls text) ≡ true
start_taken [] = refl
start_taken (c ∷ rest) = elim (cases_Bool (is_control_or_space c)) [
  | inl control ↦ ap starts_shown (control_out c rest control) ∙ start_taken rest
  | inr shown ↦ ap starts_shown (shown_in c rest shown) ∙ not_false (is_control_or_space c) shown
]

-- a text that starts shown keeps its first code point at the end
pub before_more : (c : ℕ) (rest : List ℕ) → is_shown c ≡ true → before_controls (c ∷ rest) ≡ c ∷ before_controls rest
before_more c rest shown =
    from_ends (λ t. before_controls (c ∷ t) ≡ c ∷ before_controls t)
    (before_controls-other [] c (not-true (is_control_or_space c) shown) ∙ ap (λ t. c ∷ t) (sym before_controls-none))
    one rest
  where
    one : (front : List ℕ) (d : ℕ) → before_controls (c ∷ front) ≡ c ∷ before_controls front
        → before_controls (c ∷ (front ++ d ∷ [])) ≡ c ∷ before_controls (front ++ d ∷ [])
    one front d known = elim (cases_Bool (is_control_or_space d)) [
      | inl control ↦ before_controls-one (c ∷ front) d control ∙ known
          ∙ ap (λ t. c ∷ t) (sym (before_controls-one front d control))
      | inr other ↦ before_controls-other (c ∷ front) d other
          ∙ ap (λ t. c ∷ t) (sym (before_controls-other front d other))
    ]

start_kept : (text : List ℕ) → starts_shown text ≡ true → starts_shown (before_controls text) ≡ true
start_kept [] starts = ap starts_shown before_controls-none
start_kept (c ∷ rest) starts = ap starts_shown (before_more c rest starts) ∙ starts

-- ---- within

pub shown_in_line : (c : ℕ) → is_shown c ≡ true → is_tab_or_newline c ≡ false
shown_in_line c shown = grind (arith, nat_tests)

line_stays : (text : List ℕ) → list_all is_in_line text ≡ true → on_one_line text ≡ text
line_stays [] all = refl
line_stays (c ∷ rest) all =
    let parts = and_parts (is_in_line c) (list_all is_in_line rest) all in
    line_in c rest (not-true (is_tab_or_newline c) parts.0) ∙ ap (λ t. c ∷ t) (line_stays rest parts.1)

line_taken : (text : List ℕ) → list_all is_in_line (on_one_line text) ≡ true
line_taken [] = refl
line_taken (c ∷ rest) = elim (cases_Bool (is_tab_or_newline c)) [
  | inl tab ↦ ap (list_all is_in_line) (line_out c rest tab) ∙ line_taken rest
  | inr other ↦
      ap (list_all is_in_line) (line_in c rest other)
      ∙ and_from _ _ (not_false (is_tab_or_newline c) other) (line_taken rest)
]

start_in_line : (text : List ℕ) → starts_shown text ≡ true → starts_shown (on_one_line text) ≡ true
start_in_line [] starts = refl
start_in_line (c ∷ rest) starts = ap starts_shown (line_in c rest (shown_in_line c starts)) ∙ starts

tab_is_control : (c : ℕ) → is_tab_or_newline c ≡ true → is_shown c ≡ false
tab_is_control c tab = grind (arith, nat_tests)

-- a last code point that is shown isn't a tab, LF or CR
end_in_line : (known other : Bool) (text : List ℕ) → ends_shown known text ≡ true → (known ≡ true → other ≡ true)
    → ends_shown other (on_one_line text) ≡ true
end_in_line known other [] ends more = more ends
end_in_line known other (c ∷ rest) ends more = elim (cases_Bool (is_tab_or_newline c)) [
  | inl tab ↦
      ap (ends_shown other) (line_out c rest tab)
      ∙ end_in_line false other rest (ap (λ b. ends_shown b rest) (sym (tab_is_control c tab)) ∙ ends)
      (λ is. absurd (true≢false (sym is)))
  | inr line ↦ ap (ends_shown other) (line_in c rest line) ∙ end_in_line (is_shown c) (is_shown c) rest ends (λ is. is)
]

-- ---- both

pub whole : (text : List ℕ) → StaysStripped text → stripped text ≡ text
whole text stays =
    ap (λ t. on_one_line (before_controls t)) (start_stays text stays.start)
    ∙ ap on_one_line (end_stays text stays.end) ∙ line_stays text stays.line

pub stripped_stays : (text : List ℕ) → StaysStripped (stripped text)
stripped_stays text =
    let start = after_controls text in
    let both = before_controls start in
    record {
      start = start_in_line both (start_kept start (start_taken text));
      end = end_in_line true true both (end_taken start) (λ is. is);
      line = line_taken both;
    }
