-- The columns of a text, one code point after the other.
use Rattle.std.proofs.Common.{◌≡◌, ◌≤◌, ◌+◌, ◌-◌, ◌^◌, ℕ, List, [], ◌∷◌, ◌++◌, flat_map, length, min, take, drop}
use Rattle.std.proofs.Common.{sym, ap, ◌∙◌, add-zero, arith, append-nil, encode_utf8, inl, inr, sum_by, zero-add}
use Rattle.std.specs.Str.{chars}
use Rattle.std.proofs.Math.Nat.{add_assoc, min-eq_left, min-eq_right}
use Rattle.std.proofs.Math.Seq.{take-add, take-nil}
use Rattle.std.proofs.lemmas.Bool.{cases_lt}
use Rattle.std.proofs.lemmas.Grind.{flat_map-append}
use Rattle.std.proofs.lemmas.List.{drop-drop, length-append}
use Rattle.std.proofs.lemmas.List.Sums.{sum_by-append}
use Rattle.uv_report.specs.declared.places.column.Columns.{Columns}
use Rattle.uv_report.specs.declared.places.column.Columns.TheVariants.{CodePoints, Bytes, Utf16, Screen}
use Rattle.uv_report.specs.declared.places.column_counter.Mark.{Mark}
use Rattle.uv_report.specs.Places.Column.{column_after, point_width, screen_width, text_screen_width, utf16_units}
use Rattle.uv_report.specs.Places.Column.{width}
use Rattle.uv_report.specs.Places.ColumnCounter.{IsMark, Tells}

-- ---- the width of a text and a code point more

screen_more : (column : ℕ) (text : List ℕ) (c : ℕ)
    → text_screen_width column (text ++ c ∷ [])
    ≡ text_screen_width column text + screen_width (column + text_screen_width column text) c
screen_more column [] c =
    add-zero (screen_width column c)
    ∙ (ap (λ at. screen_width at c) (sym (add-zero column)) ∙ sym (zero-add (screen_width (column + 0) c)))
screen_more column (d ∷ text) c =
    let one = screen_width column d in
    let rest = text_screen_width (column + one) text in
    ap (λ n. one + n) (screen_more (column + one) text c)
    ∙ (sym (add_assoc one rest _) ∙ ap (λ at. one + rest + screen_width at c) (add_assoc column one rest))

-- a code point takes so many columns after a text
pub width_more : (columns : Columns) (column : ℕ) (text : List ℕ) (c : ℕ)
    → width columns column (text ++ c ∷ [])
    ≡ width columns column text + point_width columns (column + width columns column text) c
width_more CodePoints column text c = length-append text (c ∷ [])
width_more Bytes column text c =
    ap length (flat_map-append encode_utf8 text (c ∷ []))
    ∙ (length-append (flat_map encode_utf8 text) (encode_utf8 c ++ [])
    ∙ ap (λ bytes. length (flat_map encode_utf8 text) + length bytes) (append-nil (encode_utf8 c)))
width_more Utf16 column text c =
    sum_by-append utf16_units text (c ∷ []) ∙ ap (λ n. sum_by utf16_units text + n) (zero-add (utf16_units c))
width_more Screen column text c = screen_more column text c

-- ---- the column of a place

-- the greatest column that is told
abbrev most : ℕ
most = 2 ^ 64 - 1

-- so many more columns after one
told_more : (told : ℕ) (next : ℕ → ℕ) → min (min told most + next (min told most)) most
    ≡ min (told + next told) most
told_more told next = elim (cases_lt told (2 ^ 64)) [
  | inl within ↦ ap (λ n. min (n + next n) most) (min-eq_left (omega (arith, within)))
  | inr beyond ↦
      let before : min told most ≡ most = min-eq_right (omega (arith, beyond)) in
      rw before (min-eq_right (omega arith)) ∙ sym (min-eq_right (omega (arith, beyond)))
]

-- the code points before the next place
take_next : (place : ℕ) (text rest : List ℕ) (c : ℕ) → c ∷ rest ≡ drop place text
    → take (place + 1) text ≡ take place text ++ c ∷ []
take_next place text rest c is =
    take-add place 1 text ∙ ap (λ left. take place text ++ take 1 left) (sym is)

-- there are no more at the text's end
take_end : (place further : ℕ) (text : List ℕ) → place ≤ further → [] ≡ drop place text
    → take further text ≡ take place text
take_end place further text within is =
    let split : further ≡ place + (further - place) = omega (arith, within) in
    ap (λ n. take n text) split ∙ (take-add place (further - place) text
    ∙ (ap (λ left. take place text ++ take (further - place) left) (sym is)
    ∙ (ap (λ none. take place text ++ none) (take-nil (further - place)) ∙ append-nil (take place text))))

-- the mark after a code point
pub next_is_mark : (columns : Columns) (start : ℕ) (text rest : List ℕ) (c : ℕ) (mark next : Mark)
    → IsMark columns start text mark → chars mark.rest.now ≡ c ∷ rest
    → next.place ≡ mark.place + 1 → next.column ≡ column_after columns mark.column c → chars next.rest.now ≡ rest
    → IsMark columns start text next
next_is_mark columns start text rest c mark next is first place column after =
    let before = take mark.place (chars text) in
    let told = start + width columns start before in
    let here : c ∷ rest ≡ drop mark.place (chars text) = sym first ∙ is.rest in
    record {
      column =
          column ∙ (ap (λ at. column_after columns at c) is.column
          ∙ (told_more told (λ at. point_width columns at c)
          ∙ (ap (λ n. min n most) (add_assoc start _ _ ∙ ap (λ n. start + n) (sym (width_more columns start before c)))
          ∙ ap (λ t. min (start + width columns start t) most)
          (sym (take_next mark.place (chars text) rest c here) ∙ ap (λ n. take n (chars text)) (sym place)))));
      rest =
          after ∙ (ap (drop 1) here ∙ (drop-drop 1 mark.place (chars text)
          ∙ ap (λ n. drop n (chars text)) (sym place)));
    }

-- each place after the text's end has the mark of the end
pub end_tells : (columns : Columns) (start : ℕ) (text : List ℕ) (place : ℕ) (mark : Mark)
    → IsMark columns start text mark → chars mark.rest.now ≡ [] → mark.place ≤ place
    → Tells columns start text place mark
end_tells columns start text place mark is none within = record {
  is_mark = is;
  column =
      is.column ∙ ap (λ t. min (start + width columns start t) most)
      (sym (take_end mark.place place (chars text) within (sym none ∙ is.rest)));
}

-- the mark after so many code points, where code points are counted
pub further_is_mark : (start count : ℕ) (text : List ℕ) (mark next : Mark) → IsMark CodePoints start text mark
    → length (take count (chars mark.rest.now)) ≡ count → chars next.rest.now ≡ drop count (chars mark.rest.now)
    → next.place ≡ mark.place + count → next.column ≡ min (mark.column + count) most
    → IsMark CodePoints start text next
further_is_mark start count text mark next is long after place column =
    let points = chars text in
    let before = length (take mark.place points) in
    let split : take (mark.place + count) points ≡ take mark.place points ++ take count (chars mark.rest.now) =
    take-add mark.place count points ∙ ap (λ left. take mark.place points ++ take count left) (sym is.rest) in
    let taken : length (take (mark.place + count) points) ≡ before + count =
    ap length split ∙ (length-append (take mark.place points) (take count (chars mark.rest.now))
    ∙ ap (λ n. before + n) long) in
    record {
      column =
          column ∙ (ap (λ at. min (at + count) most) is.column
          ∙ (told_more (start + before) (λ _. count)
          ∙ (ap (λ n. min n most) (add_assoc start before count)
          ∙ ap (λ n. min (start + n) most) (sym taken ∙ ap (λ n. length (take n points)) (sym place)))));
      rest =
          after ∙ (ap (drop count) is.rest ∙ (drop-drop count mark.place points
          ∙ ap (λ n. drop n points) (sym place)));
    }
