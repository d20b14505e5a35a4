-- Printable ASCII takes a column of a screen for each byte.
use Rattle.std.proofs.Common.{◌≡◌, ◌∙◌, ◌==◌, ℕ, zero, suc, true, false, List, [], ◌∷◌, ◌++◌, Some, ap, arith, codes}
use Rattle.std.proofs.Common.{drop, if◌then◌else◌, length, refl, replicate, take, take_at, unwrap_or}
use Rattle.std.specs.List.{list_all}
use Rattle.std.specs.Str.{chars}
use Rattle.std.proofs.lemmas.Bool.{and_parts}
use Rattle.std.proofs.lemmas.Bool.Decides.{nat_tests}
use Rattle.unicode_width.specs.Width.{char_width}
use Rattle.uv_report.specs.Formats.Caret.{below, padding}
use Rattle.uv_report.specs.Places.Column.{shown_width}
use Rattle.uv_shown.specs.Escaping.Printable.{is_printable}
use Rattle.uv_shown.proofs.PlaceLemmas.{chars_of_ascii}
use Rattle.uv_shown.proofs.PrintableLemmas.{ascii, seen}

-- ---- a byte

narrow : (c : ℕ) → is_printable c ≡ true → char_width false c ≡ Some 1
unfolding char_width
narrow c is = grind (arith, nat_tests)

-- a space is below it
space_below : (c : ℕ) → is_printable c ≡ true → below c ≡ 32 ∷ []
space_below c is =
    let no_tab : (c == 9) ≡ false = grind (arith, nat_tests) in
    let tab : List ℕ = codes "\t" in
    ap (λ is_tab. if is_tab then tab else replicate (shown_width c) 32) no_tab
    ∙ ap (λ hidden. replicate (unwrap_or (char_width false (if hidden then 0xFFFD else c)) 0) 32) (seen c is)
    ∙ ap (λ width. replicate (unwrap_or width 0) 32) (narrow c is)

-- ---- a text

spaces_below : (text : List ℕ) → list_all is_printable text ≡ true → padding text ≡ replicate (length text) 32
spaces_below [] are = refl
spaces_below (b ∷ rest) are =
    let parts = and_parts (is_printable b) (list_all is_printable rest) are in
    λ i. space_below b parts.0 i ++ spaces_below rest parts.1 i

-- as many spaces are below its front
pub front_padding : (line : List ℕ) (place : ℕ) → length (take place line) ≡ place
    → list_all is_printable (take place line) ≡ true → padding (take place (chars line)) ≡ replicate place 32
front_padding line place long are =
    let front = take place line in
    ap (λ t. padding (take place t)) (chars_of_ascii line place (ascii front are))
    ∙ ap padding (take_at front (chars (drop place line)) place long)
    ∙ spaces_below front are ∙ ap (λ n. replicate n 32) long

-- so many spaces
abbrev spaces : ℕ → List ℕ
spaces count = replicate count 32

-- the front of spaces
pub front_of_spaces : (count all : ℕ) → length (take count (spaces all)) ≡ count
    → take count (spaces all) ≡ spaces count
front_of_spaces zero all long = refl
front_of_spaces (suc n) zero long =
    let none : 0 ≡ suc n = long in
    absurd (omega (arith, none))
front_of_spaces (suc n) (suc m) long =
    let next : suc (length (take n (spaces m))) ≡ suc n = long in
    ap (λ t. 32 ∷ t) (front_of_spaces n m (omega (arith, next)))
