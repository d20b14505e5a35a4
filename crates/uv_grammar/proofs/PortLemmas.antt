-- Lemmas on the digits and the number of a port.
use Rattle.std.proofs.Common.{◌≡◌, ℕ, zero, suc, ◌+◌, ◌<◌, ◌≤◌, ◌^◌, List, [], ◌∷◌, true, false, length, refl, sym, ap}
use Rattle.std.proofs.Common.{◌∙◌, subst, arith, inl, inr, Some, None, Ok, Err}
use Rattle.std.specs.Prelude.{◌==◌}
use Rattle.std.specs.Char.{is_ascii, is_ascii_digit}
use Rattle.std.specs.List.{list_all, prefix_len}
use Rattle.std.specs.Str.{chars, IsUtf8}
use Rattle.std.specs.Str.Parse.{ParsesUnsigned, digits_value}
use Rattle.std.proofs.lemmas.Bool.{and_parts, cases_Bool, cases_lt, false≢true}
use Rattle.std.proofs.lemmas.Bool.Decides.{nat_tests}
use Rattle.std.proofs.lemmas.Str.Parse.{parse_digits}
use Rattle.std.proofs.Math.Nat.{le_refl}
use Rattle.uv_model.specs.declared.rule.Refusal.{Refusal}
use Rattle.uv_model.specs.declared.rule.Rule.{Rule}
use Rattle.uv_model.specs.declared.rule.Rule.TheVariants.{PortDigit, PortRange}
use Rattle.uv_model.specs.Violations.Violation.{HasForeignDigit, IsTooLarge, PortViolation}
use Rattle.uv_model.specs.Violations.Refusal.{IsLeast}
use Rattle.uv_model.specs.Violations.Rule.{rule_number}
use Rattle.uv_model.specs.Valid.{IsPortText}
use Rattle.uv_model.proofs.Violations.RefusalLemmas.{IsLeast-like}
use Rattle.uv_model.proofs.Texts.AsciiLemmas.{IsAscii-from_test, chars-from_IsAscii}
use Rattle.uv_grammar.specs.PartValues.{port_number}
use Rattle.uv_grammar.specs.Scan.{DigitViolation}
use Rattle.uv_model.proofs.Cuts.HostCutLemmas.{passes-weaker}
use Rattle.uv_model.proofs.Texts.DigitLemmas.{decimal_numerals}

-- the first code point that isn't a digit
foreign_here : (text : List ℕ) → list_all is_ascii_digit text ≡ false
    → HasForeignDigit text (prefix_len is_ascii_digit text)
foreign_here [] other = absurd (false≢true (sym other))
foreign_here (c ∷ rest) some = elim (cases_Bool (is_ascii_digit c)) [
  | inl digit ↦
      let h = foreign_here rest (rw digit at some) in
      let more : suc (prefix_len is_ascii_digit rest) ≡ 1 + prefix_len is_ascii_digit rest = omega arith in
      rw digit (subst (λ (n : ℕ). HasForeignDigit (c ∷ rest) n) more
      (record { code_point = h.code_point; rest = h.rest; here = h.here; foreign = h.foreign }))
  | inr other ↦ rw other (record { code_point = c; rest = rest; here = refl; foreign = other })
]

-- no other is before it
foreign_first : (text : List ℕ) (place : ℕ) → HasForeignDigit text place → prefix_len is_ascii_digit text ≤ place
foreign_first [] place h = omega arith
foreign_first (c ∷ rest) zero h =
    let same : h.code_point ≡ c = cc (h.here) in
    let other : is_ascii_digit c ≡ false = rw same at h.foreign in
    rw other (le_refl 0)
foreign_first (c ∷ rest) (suc place) h = elim (cases_Bool (is_ascii_digit c)) [
  | inl digit ↦
      let later
      =
      foreign_first rest place
      (record { code_point = h.code_point; rest = h.rest; here = h.here; foreign = h.foreign }) in
      rw digit (omega arith)
  | inr other ↦ rw other (omega arith)
]

-- digits alone
pub digits_only : (text : List ℕ) (place : ℕ) → list_all is_ascii_digit text ≡ true → HasForeignDigit text place → ⊥
digits_only [] zero digits h = let e : [] ≡ h.code_point ∷ h.rest = h.here in cc
digits_only [] (suc place) digits h = let e : [] ≡ h.code_point ∷ h.rest = h.here in cc
digits_only (c ∷ rest) zero digits h =
    let same : h.code_point ≡ c = cc (h.here) in
    false≢true (sym (rw same at h.foreign) ∙ (and_parts (is_ascii_digit c) (list_all is_ascii_digit rest) digits).0)
digits_only (c ∷ rest) (suc place) digits h =
    digits_only rest place (and_parts (is_ascii_digit c) (list_all is_ascii_digit rest) digits).1
    (record { code_point = h.code_point; rest = h.rest; here = h.here; foreign = h.foreign })

-- the least code point that isn't a digit
pub foreign_least : (text : List ℕ) → list_all is_ascii_digit text ≡ false
    → IsLeast (DigitViolation text) (Some (record { place = prefix_len is_ascii_digit text; rule = PortDigit }))
foreign_least text other = record { stands = foreign_here text other; first = first; lowest = lowest }
  where
    first : (place : ℕ) (rule : Rule) → DigitViolation text place rule → prefix_len is_ascii_digit text ≤ place
    first place PortDigit h = foreign_first text place h
    first place _ h = absurd h

    lowest : (rule : Rule) → DigitViolation text (prefix_len is_ascii_digit text) rule → 9 ≤ rule_number rule
    lowest PortDigit h = le_refl 9
    lowest _ h = absurd h

-- a text of only digits has no such violation
pub digits_silent : (text : List ℕ) → list_all is_ascii_digit text ≡ true → IsLeast (DigitViolation text) None
digits_silent text digits place PortDigit h = digits_only text place digits h
digits_silent text digits place _ h = absurd h

-- such a code point is the least violation of a port
pub port_least : (text : List ℕ) (refusal : Refusal) → IsLeast (DigitViolation text) (Some refusal)
    → IsLeast (PortViolation text) (Some refusal)
port_least text refusal least =
    IsLeast-like (DigitViolation text) (PortViolation text) to from (Some refusal) least
  where
    to : (place : ℕ) (rule : Rule) → DigitViolation text place rule → PortViolation text place rule
    to place PortDigit h = h
    to place _ h = absurd h

    from : (place : ℕ) (rule : Rule) → PortViolation text place rule → DigitViolation text place rule
    from place PortDigit h = h
    from place PortRange h = absurd (digits_silent text h.0.digits refusal.place refusal.rule least.stands)
    from place _ h = absurd h

-- the least violation of digits that denote too much
pub large_least : (text : List ℕ) → IsTooLarge text
    → IsLeast (PortViolation text) (Some (record { place = 0; rule = PortRange }))
large_least text large = record { stands = (large, refl); first = λ place rule h. omega arith; lowest = lowest }
  where
    lowest : (rule : Rule) → PortViolation text 0 rule → 10 ≤ rule_number rule
    lowest PortDigit h = absurd (digits_only text 0 large.digits h)
    lowest PortRange h = le_refl 10
    lowest _ h = absurd h

-- a valid port has no violation
pub port_silent : (text : List ℕ) → IsPortText text → IsLeast (PortViolation text) None
port_silent text is place PortDigit h = digits_only text place is.digits h
port_silent text is place PortRange h = let large = h.0.large in let small = is.range in absurd (omega arith)
port_silent text is place _ h = absurd h

-- ---- the number

is_digit_ascii : (c : ℕ) → is_ascii_digit c ≡ true → is_ascii c ≡ true
is_digit_ascii c is = grind (arith, nat_tests)

-- digits are their bytes
digit_bytes : (bytes : List ℕ) → IsUtf8 bytes → list_all is_ascii_digit (chars bytes) ≡ true → chars bytes ≡ bytes
digit_bytes bytes utf8 digits =
    chars-from_IsAscii bytes utf8
    (IsAscii-from_test (chars bytes) (passes-weaker is_ascii_digit is_ascii is_digit_ascii (chars bytes) digits))

-- an empty port
pub empty_port : (text : List ℕ) → text ≡ [] → IsPortText text × (None ≡ port_number text)
empty_port text none = rw none (record { digits = refl; range = omega arith }, refl)

-- digits that denote a number of 16 bits
read_port : (bytes : List ℕ) (number : ℕ) → list_all is_ascii_digit bytes ≡ true → (length bytes == 0) ≡ false
    → digits_value 10 bytes < 2 ^ 16 → number ≡ digits_value 10 bytes
    → IsPortText bytes × (Some number ≡ port_number bytes)
read_port [] number digits some small same = absurd (false≢true (sym some))
read_port (d ∷ rest) number digits some small same =
    (record { digits = digits; range = omega arith }, ap (λ n. Some n) same)

-- digits that are read as a number of 16 bits are a valid port
pub parsed_port : (bytes : List ℕ) (number : ℕ) → IsUtf8 bytes → list_all is_ascii_digit (chars bytes) ≡ true
    → (length bytes == 0) ≡ false → ParsesUnsigned {E = ℕ} 16 10 bytes (Ok number)
    → IsPortText (chars bytes) × (Some number ≡ port_number (chars bytes))
parsed_port bytes number utf8 digits some parses =
    let same = digit_bytes bytes utf8 digits in
    let plain : list_all is_ascii_digit bytes ≡ true = rw same at digits in
    let is = parse_digits decimal_numerals {E = ℕ} 16 bytes (Ok number) parses plain in
    rw same (read_port bytes number plain some is.0.1 is.1)

-- digits that aren't read
pub unparsed_port : (bytes : List ℕ) → IsUtf8 bytes → list_all is_ascii_digit (chars bytes) ≡ true
    → (length bytes == 0) ≡ false → ParsesUnsigned {E = ℕ} 16 10 bytes (Err 0) → IsTooLarge (chars bytes)
unparsed_port bytes utf8 digits some parses =
    let same = digit_bytes bytes utf8 digits in
    let plain : list_all is_ascii_digit bytes ≡ true = rw same at digits in
    let not = parse_digits decimal_numerals {E = ℕ} 16 bytes (Err 0) parses plain in
    let long : 0 < length bytes = grind (arith, nat_tests) in
    rw same (record {
      digits = plain;
      large = elim (cases_lt 65535 (digits_value 10 bytes)) [
        | inl large ↦ large
        | inr small ↦ absurd (not (long, omega arith))
      ];
    })
