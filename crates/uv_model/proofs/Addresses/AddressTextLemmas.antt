-- The hex digits of a piece, without leading zeros, and the decimal digits of an octet.
use Rattle.std.proofs.Common.{◌≡◌, ℕ, zero, suc, ◌+◌, ◌/◌, ◌%◌, ◌<◌, ◌≤◌, List, [], ◌∷◌, ◌++◌, All}
use Rattle.std.proofs.Common.{codes, decimal, get_or, refl, ap, ◌∙◌, arith, le-leb}
use Rattle.std.proofs.lemmas.Bool.{lt-leb}
use Rattle.std.proofs.lemmas.Fmt.{decimal_digit, decimal_step}
use Rattle.std.proofs.lemmas.Str.{IsUtf8-from_ascii}
use Rattle.std.proofs.lemmas.Str.Ascii.{IsAscii-from_all}
use Rattle.std.specs.Char.{digit_char}
use Rattle.std.specs.Net.Text.{hex}
use Rattle.std.specs.Str.{IsUtf8}

-- bytes below 128 are a text
pub utf8_from_all : (bytes : List ℕ) → All (λ b. b < 128) bytes → IsUtf8 bytes
utf8_from_all bytes all = IsUtf8-from_ascii bytes (IsAscii-from_all bytes all)

-- two digits of an octet
pub two_decimals : (n : ℕ) → n < 100 → 10 ≤ n → decimal n ≡ (48 + n / 10) ∷ (48 + n % 10) ∷ []
two_decimals n below least =
    decimal_step n least (omega arith)
    ∙ ap (λ front. front ++ ((48 + n % 10) ∷ [])) (decimal_digit (n / 10) (omega arith))

-- three
pub three_decimals : (n : ℕ) → n < 256 → 100 ≤ n
    → decimal n ≡ (48 + n / 100) ∷ (48 + n % 100 / 10) ∷ (48 + n % 100 % 10) ∷ []
three_decimals n below least =
    let first : n / 10 / 10 ≡ n / 100 = omega arith in
    let second : n / 10 % 10 ≡ n % 100 / 10 = omega arith in
    let third : n % 10 ≡ n % 100 % 10 = omega arith in
    let front = two_decimals (n / 10) (omega arith) (omega arith) in
    rw (decimal_step n (omega arith) (omega arith), front, first, second, third) refl

-- the digits that an octet is written by
pub ruleset octet_digits = (three_decimals, two_decimals, decimal_digit)

-- four digits
pub four_digits : (n : ℕ) → n < 0x10000 → 0x1000 ≤ n → hex n ≡ digit_char (n / 0x1000 % 16)
    ∷ digit_char (n / 0x100 % 16) ∷ digit_char (n / 0x10 % 16) ∷ digit_char (n % 16) ∷ []
unfolding hex
four_digits n below least =
    let first : n / 0x1000 % 16 ≡ n / 0x1000 = omega arith in
    rw (le-leb _ n least, first) refl

-- three
pub three_digits : (n : ℕ) → n < 0x1000 → 0x100 ≤ n → hex n
    ≡ digit_char (n / 0x100 % 16) ∷ digit_char (n / 0x10 % 16) ∷ digit_char (n % 16) ∷ []
unfolding hex
three_digits n below least = rw (lt-leb _ n below, le-leb _ n least) refl

-- two
pub two_digits : (n : ℕ) → n < 0x100 → 0x10 ≤ n → hex n ≡ digit_char (n / 0x10 % 16) ∷ digit_char (n % 16) ∷ []
unfolding hex
two_digits n below least =
    let shorter : n < 0x1000 = omega arith in
    rw (lt-leb _ n shorter, lt-leb _ n below, le-leb _ n least) refl

-- one
pub one_digit : (n : ℕ) → n < 0x10 → hex n ≡ digit_char (n % 16) ∷ []
unfolding hex
one_digit n below =
    let three : n < 0x1000 = omega arith in
    let two : n < 0x100 = omega arith in
    rw (lt-leb _ n three, lt-leb _ n two, lt-leb _ n below) refl

-- the digits that a piece is written by
pub ruleset shown_digits = (four_digits, three_digits, two_digits, one_digit)

-- the table of hex digits
pub hex_digits : (d : ℕ) → d < 16 → get_or (codes "0123456789abcdef") d 0 ≡ digit_char d
hex_digits zero h = refl
hex_digits (suc zero) h = refl
hex_digits (suc (suc zero)) h = refl
hex_digits (suc (suc (suc zero))) h = refl
hex_digits (suc (suc (suc (suc zero)))) h = refl
hex_digits (suc (suc (suc (suc (suc zero))))) h = refl
hex_digits (suc (suc (suc (suc (suc (suc zero)))))) h = refl
hex_digits (suc (suc (suc (suc (suc (suc (suc zero))))))) h = refl
hex_digits (suc (suc (suc (suc (suc (suc (suc (suc zero)))))))) h = refl
hex_digits (suc (suc (suc (suc (suc (suc (suc (suc (suc zero))))))))) h = refl
hex_digits (suc (suc (suc (suc (suc (suc (suc (suc (suc (suc zero)))))))))) h = refl
hex_digits (suc (suc (suc (suc (suc (suc (suc (suc (suc (suc (suc zero))))))))))) h = refl
hex_digits (suc (suc (suc (suc (suc (suc (suc (suc (suc (suc (suc (suc zero)))))))))))) h = refl
hex_digits (suc (suc (suc (suc (suc (suc (suc (suc (suc (suc (suc (suc (suc zero))))))))))))) h = refl
hex_digits (suc (suc (suc (suc (suc (suc (suc (suc (suc (suc (suc (suc (suc (suc zero)))))))))))))) h = refl
hex_digits (suc (suc (suc (suc (suc (suc (suc (suc (suc (suc (suc (suc (suc (suc (suc zero))))))))))))))) h = refl
hex_digits (suc (suc (suc (suc (suc (suc (suc (suc (suc (suc (suc (suc (suc (suc (suc (suc n)))))))))))))))) h =
    absurd (omega arith)
