-- Texts of one to four numbers, read number by number.
use Rattle.std.proofs.Common.{◌≡◌, ◌≢◌, ℕ, zero, suc, ◌+◌, ◌*◌, ◌/◌, ◌^◌, ◌<◌, ◌≤◌, true, false, not, ◌==◌, List}
use Rattle.std.proofs.Common.{[], ◌∷◌, ◌++◌, All, Option, Some, None, Ok, Err, length, get_or, map, decimal, chars}
use Rattle.std.proofs.Common.{IsUtf8, refl, sym, ap, subst, ◌∙◌, inl, inr, arith, eqb-true, lit<}
use Rattle.std.specs.Char.{is_ascii_digit}
use Rattle.std.specs.List.{join_with_byte, list_all}
use Rattle.std.specs.Fmt.{digits}
use Rattle.std.specs.Int.Digits.{digits_of}
use Rattle.std.specs.Str.Parse.{ParsesUnsigned, digits_value}
use Rattle.std.proofs.Math.Nat.{mul-le-mul_right}
use Rattle.std.proofs.lemmas.Bool.{and_from, and_parts, cases_Bool, false≢true}
use Rattle.std.proofs.lemmas.Fmt.{decimal-digits_of, decimal-digits_value, decimal_is_IsNumeral, parse-decimal}
use Rattle.std.proofs.lemmas.Int.Digits.{first_digits_of}
use Rattle.std.proofs.lemmas.List.Elements.{All-from_get_or, All-head, All-tail, All-weaker}
use Rattle.std.proofs.lemmas.Str.{chars-IsAscii}
use Rattle.std.proofs.lemmas.Str.Ascii.{IsAscii-from_all}
use Rattle.std.proofs.lemmas.Str.Parse.{digit_at, parse_digits}
use Rattle.std.proofs.NetLemmas.Alphabet.{IsDigitOrDot}
use Rattle.uv_model.specs.Ascii.{full_stop}
use Rattle.uv_model.specs.Hosts.Address.{Reads}
use Rattle.uv_model.specs.Hosts.Numbers.{AreBytes, AreNumbers, IsNumbersText, value_from}
use Rattle.uv_model.proofs.Hosts.Ipv4Domains.{ascii_byte, digits_list}
use Rattle.uv_model.proofs.Hosts.NumberLemmas.{simple_numbers}
use Rattle.uv_model.proofs.Texts.AsciiLemmas.{chars-from_IsAscii}
use Rattle.uv_host.specs.ParserHosts.{IsByteText, IsWeighedText, is_shortest, weight_of}
use Rattle.uv_model.proofs.Texts.DigitLemmas.{decimal_numerals}

-- ---- one number

-- what is asked of the first digit
first_asked : (ds : List ℕ) → is_shortest ds ≡ true → get_or ds 0 0 ≡ 48 → length ds ≡ 1
first_asked [] shortest zeros = absurd (false≢true shortest)
first_asked (only ∷ []) shortest zeros = refl
first_asked (first ∷ next ∷ rest) shortest zeros =
    let other = (and_parts (not (first == 48)) (list_all is_ascii_digit (first ∷ next ∷ rest)) shortest).0 in
    absurd (false≢true (rw zeros at other))

-- the text is digits
digits_asked : (ds : List ℕ) → is_shortest ds ≡ true → list_all is_ascii_digit ds ≡ true
digits_asked [] shortest = refl
digits_asked (only ∷ []) shortest = and_from _ _ shortest refl
digits_asked (first ∷ next ∷ rest) shortest =
    (and_parts (not (first == 48)) (list_all is_ascii_digit (first ∷ next ∷ rest)) shortest).1

-- at least one
some_asked : (ds : List ℕ) → is_shortest ds ≡ true → 0 < length ds
some_asked [] shortest = absurd (false≢true shortest)
some_asked (d ∷ rest) shortest = omega arith

-- a number that is read is the one written
pub parsed_byte : (bytes : List ℕ) (number : ℕ) → is_shortest bytes ≡ true
    → ParsesUnsigned {E = ℕ} 8 10 bytes (Ok number) → IsByteText bytes number
parsed_byte bytes number shortest parses =
    let digits = digits_asked bytes shortest in
    let is = parse_digits decimal_numerals {E = ℕ} 8 bytes (Ok number) parses digits in
    let small : digits_value 10 bytes < 2 ^ 64 = omega (arith, is.0.1) in
    let same = decimal-digits_value decimal_numerals bytes digits (some_asked bytes shortest)
    (first_asked bytes shortest) small in
    (omega (arith, is.0.1, is.1), sym (ap decimal is.1 ∙ same))

-- what isn't read isn't a number
pub unparsed_byte : (bytes : List ℕ) → ParsesUnsigned {E = ℕ} 8 10 bytes (Err 0) → (n : ℕ) → ¬ (IsByteText bytes n)
unparsed_byte bytes parses n (small, spelled) =
    let read = parse-decimal {E = ℕ} 8 n bytes (Err 0) (omega arith) (omega arith) spelled parses in
    absurd cc

-- a shortest form has digits of which the first isn't `0`
shortest_from : (ds : List ℕ) → 0 < length ds → list_all is_ascii_digit ds ≡ true
    → (get_or ds 0 0 ≡ 48 → length ds ≡ 1) → is_shortest ds ≡ true
shortest_from [] some digits first = absurd (omega (arith, some))
shortest_from (only ∷ []) some digits first = (and_parts (is_ascii_digit only) true digits).0
shortest_from (d ∷ next ∷ rest) some digits first =
    elim (cases_Bool (d == 48)) [
      | inl same ↦ absurd (omega (arith, first (eqb-true d 48 same)))
      | inr other ↦ rw other digits
    ]

-- the first digit of a number above 0 isn't `0`
first_above : (n : ℕ) → 0 < n → n < 256 → get_or (decimal n) 0 0 ≢ 48
first_above n some small same =
    let shown = decimal-digits_of n some (omega arith) in
    let first = first_digits_of 10 n (omega arith) some in
    above (digits_of 10 n) first (ap (λ ds. get_or ds 0 0) (sym shown) ∙ same)
  where
    above : (ds : List ℕ) → 0 < get_or ds 0 0 → get_or (map (λ d. 48 + d) ds) 0 0 ≢ 48
    above [] some same = absurd (omega (arith, some))
    above (d ∷ ds) some same = omega (arith, some, same)

-- what a number is written with is a shortest form
shortest_decimal : (n : ℕ) → n < 256 → is_shortest (decimal n) ≡ true
unfolding digits
shortest_decimal zero small = refl
shortest_decimal (suc n) small =
    let (numeral, value) = decimal_is_IsNumeral (suc n) (omega arith) in
    shortest_from (decimal (suc n)) numeral.0 (digits_list (decimal (suc n)) numeral.1)
    (λ same. absurd (first_above (suc n) (omega arith) small same))

-- so another text isn't a number
pub not_shortest : (bytes : List ℕ) → is_shortest bytes ≡ false → (n : ℕ) → ¬ (IsByteText bytes n)
not_shortest bytes other n (small, spelled) =
    false≢true (sym other ∙ ap is_shortest spelled ∙ shortest_decimal n small)

-- ---- full stops

-- the code points of the text aren't full stops
abbrev pub HasNoStop : List ℕ → Type 0
HasNoStop text = All (λ c. c ≢ full_stop) text

-- by its places
pub no_stop_from : (text : List ℕ) → ((i : ℕ) → i < length text → get_or text i 0 ≢ full_stop) → HasNoStop text
no_stop_from text each = All-from_get_or (λ c. c ≢ full_stop) text 0 each

-- a number holds none
no_stop_decimal : (n : ℕ) → n < 256 → HasNoStop (decimal n)
no_stop_decimal n small =
    let (numeral, value) = decimal_is_IsNumeral n (omega arith) in
    no_stop_from (decimal n) (λ k within same.
    let digit = digit_at (decimal n) k numeral.1 within in omega (arith, digit.0, same))

-- what is on both sides of the first full stop
split_unique : (xs ys r s : List ℕ) → HasNoStop xs → HasNoStop ys → xs ++ full_stop ∷ r ≡ ys ++ full_stop ∷ s
    → (xs ≡ ys) × (r ≡ s)
split_unique [] [] r s none none' same = (refl, cc)
split_unique [] (y ∷ ys) r s none none' same =
    absurd (All-head (λ c. c ≢ full_stop) y ys none' (let e : y ≡ full_stop = cc in e))
split_unique (x ∷ xs) [] r s none none' same =
    absurd (All-head (λ c. c ≢ full_stop) x xs none (let e : x ≡ full_stop = cc in e))
split_unique (x ∷ xs) (y ∷ ys) r s none none' same =
    let first : x ≡ y = cc in
    let after : xs ++ full_stop ∷ r ≡ ys ++ full_stop ∷ s = cc in
    let (others, rest) =
    split_unique xs ys r s (All-tail (λ c. c ≢ full_stop) x xs none) (All-tail (λ c. c ≢ full_stop) y ys none')
    after in
    (cc, rest)

-- a text with a full stop isn't one without
stop_within : (xs r : List ℕ) → HasNoStop (xs ++ full_stop ∷ r) → ⊥
stop_within [] r none = All-head (λ c. c ≢ full_stop) full_stop r none refl
stop_within (x ∷ xs) r none = stop_within xs r (All-tail (λ c. c ≢ full_stop) x (xs ++ full_stop ∷ r) none)

-- ---- one number or more

-- without a full stop a text of numbers is one number
pub alone_to : (more : ℕ) (text : List ℕ) (value : ℕ) → IsByteText text value → IsWeighedText more text value
alone_to more text value (small, spelled) = record {
  numbers = value ∷ [];
  some = lit< tt;
  few = omega arith;
  fit = (small, tt);
  spelled = spelled;
  valued = refl;
}

pub alone_from : (more : ℕ) (text : List ℕ) (value : ℕ) → HasNoStop text → IsWeighedText more text value
    → IsByteText text value
alone_from more text value none is = by_numbers is.numbers is.some is.fit is.spelled is.valued
  where
    by_numbers : (numbers : List ℕ) → 0 < length numbers → AreBytes numbers
        → text ≡ join_with_byte full_stop (map decimal numbers) → value ≡ value_from (weight_of more) numbers
        → IsByteText text value
    by_numbers [] some fit spelled valued = absurd (omega (arith, some))
    by_numbers (n ∷ []) some fit spelled valued =
        (omega (arith, fit.0, valued), spelled ∙ ap decimal (sym valued))
    by_numbers (n ∷ next ∷ rest) some fit spelled valued =
        absurd (stop_within (decimal n) (join_with_byte full_stop (map decimal (next ∷ rest)))
        (subst HasNoStop spelled none))

-- the weight of the next number
next_weight : (more : ℕ) → weight_of (suc more) / 256 ≡ weight_of more
next_weight more = omega arith

-- a number before a full stop and others
pub after_to : (more : ℕ) (text first rest : List ℕ) (n value : ℕ) → text ≡ first ++ full_stop ∷ rest
    → IsByteText first n → IsWeighedText more rest value
    → IsWeighedText (suc more) text (n * weight_of (suc more) + value)
after_to more text first rest n value split (small, written) is =
    by_numbers is.numbers is.some is.few is.fit is.spelled is.valued
  where
    by_numbers : (numbers : List ℕ) → 0 < length numbers → length numbers ≤ suc more → AreBytes numbers
        → rest ≡ join_with_byte full_stop (map decimal numbers) → value ≡ value_from (weight_of more) numbers
        → IsWeighedText (suc more) text (n * weight_of (suc more) + value)
    by_numbers [] some few fit spelled valued = absurd (omega (arith, some))
    by_numbers (next ∷ others) some few fit spelled valued = record {
      numbers = n ∷ next ∷ others;
      some = omega arith;
      few = omega (arith, few);
      fit = (small, fit);
      spelled = split ∙ (rw (written, spelled) refl);
      valued = ap (λ v. n * weight_of (suc more) + v)
          (valued ∙ ap (λ w. value_from w (next ∷ others)) (sym (next_weight more)));
    }

-- a text of numbers with a full stop is a number before the first one, and others after it
pub record HasNumberBefore (more : ℕ) (first rest : List ℕ) : Type 0 where
  pub fewer : ℕ
  pub is_more : more ≡ suc fewer
  pub number : ℕ
  pub before : IsByteText first number
  pub value : ℕ
  pub after : IsWeighedText fewer rest value

pub after_from : (more : ℕ) (text first rest : List ℕ) (value : ℕ) → text ≡ first ++ full_stop ∷ rest
    → HasNoStop first → IsWeighedText more text value → HasNumberBefore more first rest
after_from more text first rest value split none is =
    by_numbers more is.numbers is.some is.few is.fit is.spelled
  where
    by_numbers : (more : ℕ) (numbers : List ℕ) → 0 < length numbers → length numbers ≤ suc more → AreBytes numbers
        → text ≡ join_with_byte full_stop (map decimal numbers) → HasNumberBefore more first rest
    by_numbers more [] some few fit spelled = absurd (omega (arith, some))
    by_numbers more (n ∷ []) some few fit spelled =
        absurd (stop_within first rest (subst HasNoStop (sym spelled ∙ split) (no_stop_decimal n fit.0)))
    by_numbers zero (n ∷ next ∷ others) some few fit spelled = absurd (omega (arith, few))
    by_numbers (suc fewer) (n ∷ next ∷ others) some few fit spelled =
        let (before, after) =
        split_unique first (decimal n) rest (join_with_byte full_stop (map decimal (next ∷ others))) none
        (no_stop_decimal n fit.0) (sym split ∙ spelled) in
        record {
          fewer = fewer;
          is_more = refl;
          number = n;
          before = (fit.0, before);
          value = value_from (weight_of fewer) (next ∷ others);
          after = record {
            numbers = next ∷ others;
            some = omega arith;
            few = omega (arith, few);
            fit = fit.1;
            spelled = after;
            valued = refl;
          };
        }

-- ---- sizes

some_weight : (more : ℕ) → 0 < weight_of more
some_weight zero = omega arith
some_weight (suc more) = let w = some_weight more in omega (arith, w)

-- the value of so many numbers and one more
value_small : (more : ℕ) (numbers : List ℕ) → length numbers ≤ suc more → AreBytes numbers
    → value_from (weight_of more) numbers < 256 * weight_of more
value_small more [] few fit = let w = some_weight more in omega (arith, w)
value_small more (n ∷ []) few fit = let w = some_weight more in omega (arith, w, fit.0)
value_small zero (n ∷ next ∷ others) few fit = absurd (omega (arith, few))
value_small (suc more) (n ∷ next ∷ others) few fit =
    let after = value_small more (next ∷ others) (omega (arith, few)) fit.1 in
    let same : value_from (weight_of (suc more) / 256) (next ∷ others) ≡ value_from (weight_of more) (next ∷ others)
    = ap (λ w. value_from w (next ∷ others)) (next_weight more) in
    let most : n * weight_of (suc more) ≤ 255 * weight_of (suc more)
    = mul-le-mul_right (weight_of (suc more)) (omega (arith, fit.0)) in
    omega (arith, after, same, most)

-- a count that isn't 0 is one more than another
pub fewer_than : (more : ℕ) → more ≢ 0 → (fewer : ℕ) × (more ≡ suc fewer)
fewer_than zero some = absurd (some refl)
fewer_than (suc fewer) some = (fewer, refl)

-- the weight of the first of four numbers is the largest
pub weight_small : (more : ℕ) → more ≤ 3 → weight_of more ≤ 16777216
weight_small zero few = omega arith
weight_small (suc zero) few = omega arith
weight_small (suc (suc zero)) few = omega arith
weight_small (suc (suc (suc zero))) few = omega arith
weight_small (suc (suc (suc (suc more)))) few = absurd (omega (arith, few))

-- the form of a text
pub weighed_small : (more : ℕ) (text : List ℕ) (value : ℕ) → IsWeighedText more text value
    → value < 256 * weight_of more
weighed_small more text value is =
    let small = value_small more is.numbers is.few is.fit in
    omega (arith, small, is.valued)

-- ---- the whole text

-- at most three numbers and one more are one to four numbers
weighed_numbers : (text : List ℕ) (value : ℕ) → IsWeighedText 3 text value → IsNumbersText text value
weighed_numbers text value is =
    let are : AreNumbers is.numbers text
    = record { some = is.some; few = is.few; fit = is.fit; spelled = is.spelled } in
    (is.numbers, are, is.valued)

numbers_weighed : (text : List ℕ) (value : ℕ) → IsNumbersText text value → IsWeighedText 3 text value
numbers_weighed text value (numbers, are, valued) = record {
  numbers = numbers;
  some = are.some;
  few = are.few;
  fit = are.fit;
  spelled = are.spelled;
  valued = valued;
}

-- one to four numbers are ASCII
numbers_ascii : (text : List ℕ) (value : ℕ) → IsNumbersText text value → All (λ c. c < 128) text
numbers_ascii text value (numbers, are, valued) =
    All-weaker IsDigitOrDot (λ c. c < 128) ascii_byte text (simple_numbers numbers text are)

-- read from bytes, they are so in code points
pub whole_to : (bytes : List ℕ) (value : ℕ) → IsWeighedText 3 bytes value → IsNumbersText (chars bytes) value
whole_to bytes value is =
    let numbers = weighed_numbers bytes value is in
    let same = chars-IsAscii bytes (IsAscii-from_all bytes (numbers_ascii bytes value numbers)) in
    subst (λ (t : List ℕ). IsNumbersText t value) (sym same) numbers

-- and from code points in bytes
pub whole_from : (bytes : List ℕ) (value : ℕ) → IsUtf8 bytes → IsNumbersText (chars bytes) value
    → IsWeighedText 3 bytes value
whole_from bytes value utf8 numbers =
    let ascii = IsAscii-from_all (chars bytes) (numbers_ascii (chars bytes) value numbers) in
    let same : chars bytes ≡ bytes = chars-from_IsAscii bytes utf8 ascii in
    numbers_weighed bytes value (subst (λ (t : List ℕ). IsNumbersText t value) same numbers)

-- the answer of what is read
pub whole_answer : (bytes : List ℕ) (answer : Option ℕ) → IsUtf8 bytes → Reads (IsWeighedText 3) bytes answer
    → Reads IsNumbersText (chars bytes) answer
whole_answer bytes None utf8 none = λ value is. none value (whole_from bytes value utf8 is)
whole_answer bytes (Some value) utf8 is = whole_to bytes value is
