-- Lemmas on lines that say where their links are.
use Rattle.std.proofs.Common.{◌≡◌, ℕ, suc, ◌+◌, ◌<◌, ◌≤◌, ◌^◌, List, [], ◌∷◌, true, false, drop, get_or, length, take}
use Rattle.std.proofs.Common.{Option, Some, None, Ok, Err, is_some, option_map, refl, sym, ap, arith, inl, inr}
use Rattle.std.proofs.Common.{add-one, drop-cons, le-ltb}
use Rattle.std.specs.Prelude.{◌==◌}
use Rattle.std.specs.Char.{is_ascii_digit}
use Rattle.std.specs.List.{list_all, prefix_len}
use Rattle.std.specs.Str.{IsUtf8, is_utf8}
use Rattle.std.specs.Str.Parse.{ParsesUnsigned, digits_value}
use Rattle.std.proofs.lemmas.Bool.{cases_Bool, cases_lt, false≢true}
use Rattle.std.proofs.lemmas.Fmt.{IsAscii-from_digits}
use Rattle.std.proofs.lemmas.Str.{IsUtf8-from_ascii, IsUtf8-from_is_utf8, is_utf8-from_IsUtf8}
use Rattle.std.proofs.lemmas.Str.Parse.{parse_digits}
use Rattle.uv_lint.specs.Located.{file_length, in_range, name_of, run_of}
use Rattle.uv_model.proofs.Texts.DigitLemmas.{decimal_numerals}

-- ---- the name of a file

-- a name that is UTF-8
pub named : (file name : List ℕ) → (length file == 0) ≡ false → name ≡ file → IsUtf8 file → Some name ≡ name_of file
named [] name some same utf8 = absurd (false≢true (sym some))
named (b ∷ rest) name some same utf8 = rw (is_utf8-from_IsUtf8 (b ∷ rest) utf8) (ap (λ n. Some n) same)

-- and none that isn't
pub unnamed : (file : List ℕ) → ¬ (IsUtf8 file) → None ≡ name_of file
unnamed [] other = refl
unnamed (b ∷ rest) other = elim (cases_Bool (is_utf8 (b ∷ rest))) [
  | inl utf8 ↦ absurd (other (IsUtf8-from_is_utf8 (b ∷ rest) utf8))
  | inr foreign ↦ rw foreign refl
]

-- ---- a number

one_more : (n : ℕ) → 1 + n ≡ suc n
one_more n = omega arith

-- the digits that a text begins with are digits
pub leading_digits : (text : List ℕ) → list_all is_ascii_digit (take (prefix_len is_ascii_digit text) text) ≡ true
leading_digits [] = refl
leading_digits (b ∷ rest) = elim (cases_Bool (is_ascii_digit b)) [
  | inl digit ↦ rw (digit, one_more (prefix_len is_ascii_digit rest)) (rw digit (leading_digits rest))
  | inr other ↦ rw other refl
]

-- digits are UTF-8
pub digits_utf8 : (digits : List ℕ) → list_all is_ascii_digit digits ≡ true → IsUtf8 digits
digits_utf8 digits are = IsUtf8-from_ascii digits (IsAscii-from_digits digits (decimal_numerals.to digits are))

-- digits that are read as a number of 32 bits write it
pub read_number : (digits : List ℕ) (number : ℕ) → list_all is_ascii_digit digits ≡ true
    → ParsesUnsigned {E = ℕ} 32 10 digits (Ok number) → number ≡ digits_value 10 digits
read_number digits number are parses = (parse_digits decimal_numerals {E = ℕ} 32 digits (Ok number) parses are).1

-- digits that aren't read write a number that is out of range
pub unread_number : (digits : List ℕ) → list_all is_ascii_digit digits ≡ true
    → ParsesUnsigned {E = ℕ} 32 10 digits (Err 0) → None ≡ in_range (digits_value 10 digits)
unread_number [] are parses = refl
unread_number (d ∷ rest) are parses =
    let not = parse_digits decimal_numerals {E = ℕ} 32 (d ∷ rest) (Err 0) parses are in
    let some : 0 < length (d ∷ rest) = omega arith in
    elim (cases_lt (digits_value 10 (d ∷ rest)) (2 ^ 32)) [
      | inl small ↦ absurd (not (some, small))
      | inr large ↦ rw (le-ltb (digits_value 10 (d ∷ rest)) (2 ^ 32) large) refl
    ]

-- ---- the first run

-- there is one where there is one of what it denotes
pub is_some-view : {A B : Type 0} (view : A → B) (r : Option A) → is_some (option_map view r) ≡ is_some r
is_some-view view None = refl
is_some-view view (Some x) = refl

-- a text that begins with a run
pub begins_run : (text : List ℕ) → is_some (run_of text) ≡ true → file_length text ≡ 0
begins_run [] is = refl
begins_run (b ∷ rest) is = rw is refl

-- a text that doesn't, by its first byte and the rest
begins_none : (b : ℕ) (rest : List ℕ) → is_some (run_of (b ∷ rest)) ≡ false
    → file_length (b ∷ rest) ≡ file_length rest + 1
begins_none b rest none = rw none refl

-- the run is after a place at which none is
pub after_none : (text : List ℕ) (place : ℕ) → place < length text → is_some (run_of (drop place text)) ≡ false
    → file_length (drop place text) ≡ file_length (drop (place + 1) text) + 1
after_none text place within none =
    let cut : drop place text ≡ get_or text place 0 ∷ drop (place + 1) text =
    rw add-one (drop-cons text place 0 within) in
    rw cut (begins_none (get_or text place 0) (drop (place + 1) text) (rw cut at none))

-- and no more bytes than there are come before it
pub file_length-le : (text : List ℕ) → file_length text ≤ length text
file_length-le [] = omega arith
file_length-le (b ∷ rest) =
    let less = file_length-le rest in
    elim (cases_Bool (is_some (run_of (b ∷ rest)))) [
      | inl run ↦ rw run (omega arith)
      | inr none ↦ rw none (omega (arith, less))
    ]
