-- The place after one more byte.
use Rattle.std.proofs.Common.{◌≡◌, ◌∙◌, ℕ, ◌+◌, ◌-◌, ◌≤◌, true, false, List, [], ◌∷◌, ◌++◌, ap, refl, sym, arith}
use Rattle.std.proofs.Common.{◌≢◌, cond, drop, length, ne_eqb, not, reverse}
use Rattle.std.specs.Fmt.{is_char_start}
use Rattle.std.specs.List.{prefix_len}
use Rattle.std.proofs.lemmas.List.{drop-append-le, drop_all, length-append, reverse-append}
use Rattle.std.proofs.lemmas.List.Sums.{sum_by_push}
use Rattle.uv_vectors.specs.declared.json_fault.FilePlace.{FilePlace}
use Rattle.uv_vectors.specs.JsonFault.{code_points, is_line_feed, last_line, line_feeds, place_after}

-- ---- the last line

-- how many bytes are after the last line feed
abbrev tail_length : List ℕ → ℕ
tail_length bytes = prefix_len (λ byte. not (is_line_feed byte)) (reverse bytes)

tail_length-push : (bytes : List ℕ) (byte : ℕ)
    → tail_length (bytes ++ byte ∷ []) ≡ cond (not (is_line_feed byte)) (1 + tail_length bytes) 0
tail_length-push bytes byte = ap (prefix_len (λ b. not (is_line_feed b))) (reverse-append bytes (byte ∷ []))

-- after a line feed the last line is empty
last_line-feed : (bytes : List ℕ) (byte : ℕ) → is_line_feed byte ≡ true → last_line (bytes ++ byte ∷ []) ≡ []
last_line-feed bytes byte feed =
    let none : tail_length (bytes ++ byte ∷ []) ≡ 0 = tail_length-push bytes byte ∙ rw feed refl in
    drop_all (length (bytes ++ byte ∷ []) - tail_length (bytes ++ byte ∷ [])) (bytes ++ byte ∷ []) (omega (arith, none))

-- and any other byte comes to it
last_line-more : (bytes : List ℕ) (byte : ℕ) → is_line_feed byte ≡ false
    → last_line (bytes ++ byte ∷ []) ≡ last_line bytes ++ byte ∷ []
last_line-more bytes byte other =
    let more : tail_length (bytes ++ byte ∷ []) ≡ 1 + tail_length bytes = tail_length-push bytes byte ∙ rw other refl in
    let long : length (bytes ++ byte ∷ []) ≡ length bytes + 1 = length-append bytes (byte ∷ []) in
    let start : length (bytes ++ byte ∷ []) - tail_length (bytes ++ byte ∷ []) ≡ length bytes - tail_length bytes =
    omega (arith, more, long) in
    ap (λ n. drop n (bytes ++ byte ∷ [])) start
    ∙ drop-append-le (length bytes - tail_length bytes) bytes (byte ∷ []) (omega arith)

-- ---- what is counted

line_feeds-push : (bytes : List ℕ) (byte : ℕ)
    → line_feeds (bytes ++ byte ∷ []) ≡ line_feeds bytes + cond (is_line_feed byte) 1 0
line_feeds-push bytes byte = sum_by_push (λ b. cond (is_line_feed b) 1 0) bytes byte

code_points-push : (bytes : List ℕ) (byte : ℕ)
    → code_points (bytes ++ byte ∷ []) ≡ code_points bytes + cond (is_char_start byte) 1 0
code_points-push bytes byte = sum_by_push (λ b. cond (is_char_start b) 1 0) bytes byte

-- ---- places

abbrev pub at : ℕ → ℕ → FilePlace
at line column = record { line = line; column = column }

same : (line other column another : ℕ) → line ≡ other → column ≡ another → at line column ≡ at other another
same line other column another lines columns = rw (lines, columns) refl

-- after a line feed
pub place-feed : (place : FilePlace) (bytes : List ℕ) (byte : ℕ) → byte ≡ 10
    → place ≡ place_after bytes → at (place.line + 1) 1 ≡ place_after (bytes ++ byte ∷ [])
place-feed place bytes byte feeds_line is =
    let feed : is_line_feed byte ≡ true = rw feeds_line refl in
    let feeds : line_feeds (bytes ++ byte ∷ []) ≡ line_feeds bytes + 1 = line_feeds-push bytes byte ∙ rw feed refl in
    let line = ap (λ p. p.line) is in
    let points = ap code_points (last_line-feed bytes byte feed) in
    same (place.line + 1) (1 + line_feeds (bytes ++ byte ∷ [])) 1 (1 + code_points (last_line (bytes ++ byte ∷ [])))
    (omega (arith, feeds, line)) (ap (λ n. 1 + n) (sym points))

-- after another byte
pub place-more : (place : FilePlace) (bytes : List ℕ) (byte : ℕ) → byte ≢ 10
    → place ≡ place_after bytes
    → at place.line (place.column + cond (is_char_start byte) 1 0) ≡ place_after (bytes ++ byte ∷ [])
place-more place bytes byte another is =
    let other : is_line_feed byte ≡ false = ne_eqb byte 10 another in
    let feeds : line_feeds (bytes ++ byte ∷ []) ≡ line_feeds bytes + 0 = line_feeds-push bytes byte ∙ rw other refl in
    let line = ap (λ p. p.line) is in
    let column = ap (λ p. p.column) is in
    let points = ap code_points (last_line-more bytes byte other) ∙ code_points-push (last_line bytes) byte in
    same place.line (1 + line_feeds (bytes ++ byte ∷ [])) (place.column + cond (is_char_start byte) 1 0)
    (1 + code_points (last_line (bytes ++ byte ∷ []))) (omega (arith, feeds, line)) (omega (arith, points, column))
