-- What the parser's readers make of a group, and of an IPv4 address.
use Rattle.std.proofs.Common.{◌≡◌, ◌≢◌, ℕ, zero, suc, ◌+◌, ◌-◌, ◌*◌, ◌<◌, ◌≤◌, false, ◌==◌, List, [], ◌∷◌, ◌++◌, length}
use Rattle.std.proofs.Common.{get_or, Some, None, decimal, refl, sym, ap, ◌∙◌, inl, inr, arith, lt-ltb, le-ltb, le-leb}
use Rattle.std.proofs.Common.{ne_eqb, zero-add, le_refl, le_trans}
use Rattle.std.specs.Prelude.{replicate, slice_index, slice_set}
use Rattle.std.specs.Char.{digit_value}
use Rattle.std.specs.Str.Parse.{AllDigits, IsNumeral, digits_value, digits_value_after}
use Rattle.std.proofs.lemmas.Bool.{cases_lt}
use Rattle.std.proofs.lemmas.Bool.Decides.{nat_tests}
use Rattle.std.proofs.lemmas.Fmt.{decimal_is_IsNumeral, decimal_digit, first_decimal}
use Rattle.uv_parser.specs.Ipv6Parser.{read_hex, read_digits}
use Rattle.uv_model.specs.Ascii.{colon}

-- ---- pieces, with zeros after those that are written

-- so many pieces: those that are written, then zeros
abbrev pub pad : ℕ → List ℕ → List ℕ
pad n [] = replicate n 0
pad zero (x ∷ xs) = []
pad (suc n) (x ∷ xs) = x ∷ pad n xs

-- writing the next piece
pub set_pad : (n : ℕ) (done : List ℕ) (v : ℕ) → length done < n
    → slice_set (pad n done) (length done) v ≡ pad n (done ++ v ∷ [])
set_pad zero done v h = absurd (omega arith)
set_pad (suc n) [] v h = refl
set_pad (suc n) (x ∷ done) v h = ap (λ xs. x ∷ xs) (set_pad n done v (omega arith))

-- the next piece is zero
pub get_pad : (n : ℕ) (done : List ℕ) → length done < n → slice_index (pad n done) (length done) ≡ 0
get_pad zero done h = absurd (omega arith)
get_pad (suc n) [] h = refl
get_pad (suc n) (x ∷ done) h = get_pad n done (omega arith)

-- writing the last piece again
pub set_again : (n : ℕ) (done : List ℕ) (v w : ℕ) → length done < n
    → slice_set (pad n (done ++ v ∷ [])) (length done) w ≡ pad n (done ++ w ∷ [])
set_again zero done v w h = absurd (omega arith)
set_again (suc n) [] v w h = refl
set_again (suc n) (x ∷ done) v w h = ap (λ xs. x ∷ xs) (set_again n done v w (omega arith))

-- the last piece
pub get_again : (n : ℕ) (done : List ℕ) (v : ℕ) → length done < n
    → slice_index (pad n (done ++ v ∷ [])) (length done) ≡ v
get_again zero done v h = absurd (omega arith)
get_again (suc n) [] v h = refl
get_again (suc n) (x ∷ done) v h = get_again n done v (omega arith)

-- pieces that are all written
pub pad_full : (n : ℕ) (xs : List ℕ) → length xs ≡ n → pad n xs ≡ xs
pad_full zero [] e = refl
pad_full zero (x ∷ xs) e = absurd (omega arith)
pad_full (suc n) [] e = absurd (omega arith)
pad_full (suc n) (x ∷ xs) e = ap (λ ys. x ∷ ys) (pad_full n xs (omega arith))

-- the zeros are after the written pieces
pub pad_append : (n : ℕ) (xs : List ℕ) → length xs ≤ n → pad n xs ≡ xs ++ replicate (n - length xs) 0
pad_append zero [] h = refl
pad_append zero (x ∷ xs) h = absurd (omega arith)
pad_append (suc n) [] h = let e : suc n ≡ suc n - 0 = omega arith in ap (λ m. replicate m 0) e
pad_append (suc n) (x ∷ xs) h =
    let e : n - length xs ≡ suc n - suc (length xs) = omega arith in
    ap (λ ys. x ∷ ys) (pad_append n xs (omega arith) ∙ ap (λ m. xs ++ replicate m 0) e)

-- one zero more is one of those zeros
pub pad_zero : (n : ℕ) (done : List ℕ) → length done < n → pad n done ≡ pad n (done ++ 0 ∷ [])
pad_zero zero done h = absurd (omega arith)
pad_zero (suc n) [] h = refl
pad_zero (suc n) (x ∷ done) h = ap (λ ys. x ∷ ys) (pad_zero n done (omega arith))

-- ---- a group

-- the text doesn't begin with a digit of this radix
abbrev pub NoDigit : ℕ → List ℕ → Type 0
NoDigit radix text = radix ≤ digit_value (get_or text 0 0)

-- the reader of hex digits on a group
pub read_hex_group : (most value count : ℕ) (group rest : List ℕ) → AllDigits 16 group → length group ≤ most
    → NoDigit 16 rest
    → read_hex most value count (group ++ rest) ≡ (digits_value_after 16 value group, count + length group, rest)
unfolding read_hex
read_hex_group zero value count [] rest all fits stop = ap (λ n. (value, n, rest)) (omega arith)
read_hex_group zero value count (c ∷ group) rest all fits stop = absurd (omega arith)
read_hex_group (suc most) value count [] [] all fits stop = ap (λ n. (value, n, [])) (omega arith)
read_hex_group (suc most) value count [] (c ∷ rest) all fits stop =
    rw (le-ltb (digit_value c) 16 stop) (ap (λ n. (value, n, c ∷ rest)) (omega arith))
read_hex_group (suc most) value count (c ∷ group) rest all fits stop =
    rw (lt-ltb (digit_value c) 16 all.0)
    (read_hex_group most (value * 16 + digit_value c) (count + 1) group rest all.1 (omega arith) stop
    ∙ ap (λ n. (digits_value_after 16 (value * 16 + digit_value c) group, n, rest)) (omega arith))

-- a hex digit is neither a colon nor a full stop
pub not_colon : (c : ℕ) → digit_value c < 16 → (c == colon) ≡ false
not_colon c h = grind (arith, nat_tests)

-- ---- a number of an IPv4 address

-- more digits make no smaller number
most_after : (n : ℕ) (ds : List ℕ) → n ≤ digits_value_after 10 n ds
most_after n [] = le_refl n
most_after n (d ∷ ds) =
    let step : n ≤ n * 10 + digit_value d = omega arith in
    le_trans step (most_after (n * 10 + digit_value d) ds)

-- the reader of decimal digits after a first digit
read_more : (m : ℕ) (ds rest : List ℕ) → AllDigits 10 ds → digits_value_after 10 m ds ≤ 255 → (0 < length ds → 0 < m)
    → NoDigit 10 rest → read_digits (Some m) (ds ++ rest) ≡ Some (digits_value_after 10 m ds, rest)
unfolding read_digits
read_more m [] [] all fits some stop = refl
read_more m [] (c ∷ rest) all fits some stop = rw (le-ltb (digit_value c) 10 stop)
read_more m (d ∷ ds) rest all fits some stop =
    let next = m * 10 + digit_value d in
    let positive : 0 < m = some (omega arith) in
    let small : next ≤ 255 = le_trans (most_after next ds) fits in
    let differ : m ≢ 0 = omega arith in
    rw (lt-ltb (digit_value d) 10 all.0, ne_eqb m 0 differ, le-leb next 255 small)
    (read_more next ds rest all.1 fits (λ _. omega arith) stop)

-- a digit other than `0` isn't 0
leading : (d : ℕ) → digit_value d < 10 → 48 < d → 0 < digit_value d
leading d h more = grind (arith, nat_tests)

-- the reader of decimal digits on a whole number without a leading zero
read_whole : (n : ℕ) (ds rest : List ℕ) → IsNumeral 10 ds → digits_value 10 ds ≡ n → n ≤ 255
    → (1 < length ds → 48 < get_or ds 0 0) → NoDigit 10 rest → read_digits None (ds ++ rest) ≡ Some (n, rest)
unfolding read_digits
read_whole n [] rest numeral value fits alone stop = absurd (omega (arith, numeral.0))
read_whole n (d ∷ ds) rest numeral value fits alone stop =
    let one : digits_value_after 10 (digit_value d) ds ≡ n =
    ap (λ m. digits_value_after 10 m ds) (sym (zero-add (digit_value d))) ∙ value in
    let small : digits_value_after 10 (digit_value d) ds ≤ 255 = omega arith in
    rw (lt-ltb (digit_value d) 10 numeral.1.0)
    (read_more (digit_value d) ds rest numeral.1.1 small (λ more. leading d numeral.1.0 (alone (omega arith))) stop
    ∙ ap (λ m. Some (m, rest)) one)

-- the reader of decimal digits on the shortest decimal number
pub read_number : (n : ℕ) (rest : List ℕ) → n < 256 → NoDigit 10 rest
    → read_digits None (decimal n ++ rest) ≡ Some (n, rest)
read_number n rest fits stop =
    let (numeral, value) = decimal_is_IsNumeral n (omega arith) in
    let first : 1 < length (decimal n) → 48 < get_or (decimal n) 0 0 = λ more.
    elim (cases_lt 0 n) [
      | inl positive ↦ first_decimal n positive (omega arith)
      | inr none ↦ let zero_is : n < 10 = omega arith in absurd (omega (arith, ap length (decimal_digit n zero_is)))
    ] in
    read_whole n (decimal n) rest numeral value (omega arith) first stop

-- decimal digits are hex digits
pub hexadecimal : (ds : List ℕ) → AllDigits 10 ds → AllDigits 16 ds
hexadecimal [] h = h
hexadecimal (d ∷ ds) h = (omega (arith, h.0), hexadecimal ds h.1)
