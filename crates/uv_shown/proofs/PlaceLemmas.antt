-- The code point at a place of a line, and what is from there on.
use Rattle.std.proofs.Common.{◌≡◌, ◌∙◌, ℕ, zero, suc, List, [], ◌∷◌, ◌++◌, refl, sym, ap, length, nat_lt}
use Rattle.std.proofs.Common.{drop, drop_at, take, take_at, slice_get, le-ltb, ◌≤◌, subst, arith}
use Rattle.std.specs.Str.{IsAscii, IsUtf8, chars}
use Rattle.std.proofs.lemmas.List.{take-append-drop}
use Rattle.std.proofs.lemmas.Str.{IsUtf8-from_ascii, chars-IsAscii, chars-append, encodes-chars, length-le-encodes}

-- a line of no more bytes isn't longer
pub few_bytes : (line : List ℕ) (most : ℕ) → IsUtf8 line → length line ≤ most
    → nat_lt most (length line) ≡ nat_lt most (length (chars line))
few_bytes line most utf8 short =
    let few : length (chars line) ≤ length line = subst (λ bytes. length (chars line) ≤ length bytes)
    (encodes-chars line utf8) (length-le-encodes (chars line)) in
    le-ltb most (length line) short ∙ sym (le-ltb most (length (chars line)) (omega (arith, few, short)))

-- the first code point from a place on is the one at that place
pub slice_get_first : (points : List ℕ) (place : ℕ) → slice_get (drop place points) 0 ≡ slice_get points place
slice_get_first [] zero = refl
slice_get_first [] (suc n) = refl
slice_get_first (c ∷ points) zero = refl
slice_get_first (c ∷ points) (suc n) = slice_get_first points n

-- ASCII bytes are code points
pub chars_of_ascii : (line : List ℕ) (place : ℕ) → IsAscii (take place line)
    → chars line ≡ take place line ++ chars (drop place line)
chars_of_ascii line place ascii =
    let front = take place line in
    let rest = drop place line in
    ap chars (sym (take-append-drop place line)) ∙ chars-append front rest (IsUtf8-from_ascii front ascii)
    ∙ ap (λ t. t ++ chars rest) (chars-IsAscii front ascii)

-- so many code points
pub ascii_points : (line : List ℕ) (place : ℕ) → length (take place line) ≡ place → IsAscii (take place line)
    → length (take place (chars line)) ≡ place
ascii_points line place long ascii =
    ap (λ t. length (take place t)) (chars_of_ascii line place ascii)
    ∙ ap length (take_at (take place line) (chars (drop place line)) place long) ∙ long

-- after ASCII bytes are the code points after as many code points
pub chars_after_ascii : (line : List ℕ) (place : ℕ) → length (take place line) ≡ place → IsAscii (take place line)
    → chars (drop place line) ≡ drop place (chars line)
chars_after_ascii line place long ascii =
    sym (ap (drop place) (chars_of_ascii line place ascii)
    ∙ drop_at (take place line) (chars (drop place line)) place long)
