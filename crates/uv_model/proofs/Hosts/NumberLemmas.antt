-- IPv4 addresses under the profiles: what one to four numbers are written with, that a text has one value, and that it
-- has 32 bits.
use Rattle.std.proofs.Common.{◌≡◌, ◌≢◌, ℕ, ◌^◌, ◌<◌, ◌≤◌, true, false, List, [], ◌∷◌, ◌++◌, length, get_or}
use Rattle.std.proofs.Common.{map, decimal, All, refl, sym, ap, ◌∙◌, inl, inr, lit≤, lit<, append_assoc}
use Rattle.std.proofs.Common.{append-nil, length-append, arith}
use Rattle.std.specs.Char.{digit_value, is_ascii_digit}
use Rattle.std.specs.List.{join_with_byte, list_all}
use Rattle.std.specs.Str.Parse.{AllDigits, digits_value}
use Rattle.std.proofs.lemmas.Bool.{and_parts}
use Rattle.std.proofs.lemmas.Bool.Decides.{nat_tests}
use Rattle.std.proofs.lemmas.Fmt.{decimal_is_IsNumeral}
use Rattle.std.proofs.lemmas.List.Elements.{All-append, All-cons, All-from_get_or, All-nil}
use Rattle.std.proofs.lemmas.Option.{same_Some}
use Rattle.std.proofs.lemmas.Str.Parse.{digit_at}
use Rattle.std.proofs.NetLemmas.Alphabet.{IsDigitOrDot}
use Rattle.idna.specs.Labels.{is_full_stop}
use Rattle.uv_model.specs.declared.profile.Profile.{Profile}
use Rattle.uv_model.specs.declared.profile.Profile.TheVariants.{Standard, Wide, Parser}
use Rattle.uv_model.specs.Ascii.{full_stop}
use Rattle.uv_model.specs.Hosts.Address.{IsIpv4}
use Rattle.uv_model.specs.Hosts.Domain.{IsParserForm, ends_in_number, parser_form}
use Rattle.uv_model.specs.Hosts.Numbers.{AreBytes, AreNumbers, IsIpv4Text, IsNumbersText, numbers_value}
use Rattle.uv_model.specs.Hosts.OpaqueHost.{starts_with_bracket}
use Rattle.uv_model.proofs.Addresses.AddressSizes.{ipv4_small}
use Rattle.uv_model.proofs.Addresses.AddressUniqueness.{ipv4_no_bracket, ipv4_unique}
use Rattle.uv_model.proofs.Hosts.DomainLemmas.{nothing_formed}
use Rattle.uv_model.proofs.Hosts.Ipv4Domains.{ends_in_number-decimal}
use Rattle.uv_model.proofs.Hosts.LastLabelLemmas.{HasNoStop}

-- ---- the text of numbers

-- the text of the numbers after the first, each after a full stop
abbrev pub after_text : List ℕ → List ℕ
after_text [] = []
after_text (n ∷ rest) = full_stop ∷ (decimal n ++ after_text rest)

-- numbers with a full stop between each two
pub numbers_joined : (n : ℕ) (rest : List ℕ)
    → join_with_byte full_stop (map decimal (n ∷ rest)) ≡ decimal n ++ after_text rest
numbers_joined n [] = sym (append-nil (decimal n))
numbers_joined n (next ∷ rest) = ap (λ xs. decimal n ++ (full_stop ∷ xs)) (numbers_joined next rest)

-- the first number of a text of numbers, and the others
pub record HasFirstNumber (numbers text : List ℕ) : Type 0 where
  pub first : ℕ
  pub rest : List ℕ
  pub split : numbers ≡ first ∷ rest
  pub spelled : text ≡ decimal first ++ after_text rest
  pub small : first < 256
  pub fit : AreBytes rest

-- there is one
pub first_number : (numbers text : List ℕ) → AreNumbers numbers text → HasFirstNumber numbers text
first_number [] text is = absurd (let some = is.some in omega (arith, some))
first_number (n ∷ rest) text is =
    let fit = is.fit in
    record {
      first = n;
      rest = rest;
      split = refl;
      spelled = is.spelled ∙ numbers_joined n rest;
      small = fit.0;
      fit = fit.1;
    }

-- an IPv4 text is four numbers of its value
pub four_numbers : (text : List ℕ) (value : ℕ) → IsIpv4 text value
    → (a b c d : ℕ) × AreNumbers (a ∷ b ∷ c ∷ d ∷ []) text × (value ≡ numbers_value (a ∷ b ∷ c ∷ d ∷ []))
four_numbers text value (a, b, c, d, is, e) =
    let spelled : text ≡ join_with_byte full_stop (map decimal (a ∷ b ∷ c ∷ d ∷ []))
    = is.spelled ∙ simp append_assoc in
    let are : AreNumbers (a ∷ b ∷ c ∷ d ∷ []) text
    = record {
      some = lit< tt;
      few = lit≤ tt;
      fit = (is.fit.0, (is.fit.1, (is.fit.2, (is.fit.3, tt))));
      spelled = spelled;
    } in
    (a, b, c, d, are, omega (arith, e))

-- so it is a text of numbers
pub ipv4_numbers : (text : List ℕ) (value : ℕ) → IsIpv4 text value → IsNumbersText text value
ipv4_numbers text value is =
    let (a, b, c, d, are, valued) = four_numbers text value is in
    (a ∷ b ∷ c ∷ d ∷ [], are, valued)

-- ---- its code points

-- a number is written with digits
simple_decimal : (n : ℕ) → n < 256 → All IsDigitOrDot (decimal n)
simple_decimal n small =
    let (numeral, value) = decimal_is_IsNumeral n (omega arith) in
    All-from_get_or IsDigitOrDot (decimal n) 0 (λ k within. inl (digit_at (decimal n) k numeral.1 within))

-- and those after it with full stops too
simple_after : (rest : List ℕ) → AreBytes rest → All IsDigitOrDot (after_text rest)
simple_after [] fit = All-nil IsDigitOrDot
simple_after (n ∷ rest) fit =
    All-cons IsDigitOrDot full_stop (decimal n ++ after_text rest) (inr refl)
    (All-append IsDigitOrDot (decimal n) (after_text rest) (simple_decimal n fit.0) (simple_after rest fit.1))

-- a text of numbers is digits and full stops
pub simple_numbers : (numbers text : List ℕ) → AreNumbers numbers text → All IsDigitOrDot text
simple_numbers numbers text are =
    let is = first_number numbers text are in
    rw is.spelled
    (All-append IsDigitOrDot (decimal is.first) (after_text is.rest) (simple_decimal is.first is.small)
    (simple_after is.rest is.fit))

-- it isn't empty
pub numbers_not_empty : (numbers text : List ℕ) → AreNumbers numbers text → text ≢ []
numbers_not_empty numbers text are nothing =
    let is = first_number numbers text are in
    let (numeral, value) = decimal_is_IsNumeral is.first (let small = is.small in omega (arith, small)) in
    let lengths = length-append (decimal is.first) (after_text is.rest) in
    omega (arith, ap length (sym nothing ∙ is.spelled), lengths, numeral.0)

-- ---- its last label

-- a digit isn't a full stop
not_stop : (c : ℕ) → is_ascii_digit c ≡ true → is_full_stop c ≡ false
not_stop c digit = grind (arith, nat_tests)

-- digits have no full stop
digits_no_stop : (digits : List ℕ) → list_all is_ascii_digit digits ≡ true → HasNoStop digits
digits_no_stop [] each = All-nil (λ c. is_full_stop c ≡ false)
digits_no_stop (c ∷ rest) each =
    let parts = and_parts (is_ascii_digit c) (list_all is_ascii_digit rest) each in
    All-cons (λ b. is_full_stop b ≡ false) c rest (not_stop c parts.0) (digits_no_stop rest parts.1)

-- a text after which numbers follow ends in a number
ends_in_number-more : (prefix : List ℕ) (n : ℕ) (rest : List ℕ) → n < 256 → AreBytes rest
    → ends_in_number (prefix ++ full_stop ∷ (decimal n ++ after_text rest)) ≡ true
ends_in_number-more prefix n [] small fit =
    ap (λ xs. ends_in_number (prefix ++ full_stop ∷ xs)) (append-nil (decimal n))
    ∙ ends_in_number-decimal prefix n small
ends_in_number-more prefix n (next ∷ rest) small fit =
    let after = full_stop ∷ (decimal next ++ after_text rest) in
    ap ends_in_number (sym (append_assoc prefix (full_stop ∷ decimal n) after))
    ∙ ends_in_number-more (prefix ++ full_stop ∷ decimal n) next rest fit.0 fit.1

-- ---- one value

-- no digit is at the text's start
abbrev HasNoDigitFirst : List ℕ → Type 0
HasNoDigitFirst text = 10 ≤ digit_value (get_or text 0 0)

-- what follows a number begins with no digit
no_digit : (rest : List ℕ) → HasNoDigitFirst (after_text rest)
no_digit [] = lit≤ tt
no_digit (n ∷ rest) = lit≤ tt

-- digits end if no digit follows
digits_end : (xs ys r s : List ℕ) → AllDigits 10 xs → AllDigits 10 ys → HasNoDigitFirst r → HasNoDigitFirst s
    → xs ++ r ≡ ys ++ s → (xs ≡ ys) × (r ≡ s)
digits_end [] [] r s digits digits' none none' same = (refl, same)
digits_end [] (y ∷ ys) r s digits digits' none none' same = absurd (omega (arith, rw same at none, digits'.0))
digits_end (x ∷ xs) [] r s digits digits' none none' same = absurd (omega (arith, rw (← same) at none', digits.0))
digits_end (x ∷ xs) (y ∷ ys) r s digits digits' none none' same =
    let first : x ≡ y = cc in
    let after : xs ++ r ≡ ys ++ s = cc in
    let (others, rest) = digits_end xs ys r s digits.1 digits'.1 none none' after in
    (cc, rest)

-- a number has one value
decimal_unique : (a b : ℕ) → a < 256 → b < 256 → decimal a ≡ decimal b → a ≡ b
decimal_unique a b small small' same =
    let (numeral, value) = decimal_is_IsNumeral a (omega arith) in
    let (numeral', value') = decimal_is_IsNumeral b (omega arith) in
    sym value ∙ ap (digits_value 10) same ∙ value'

-- a number ends where the next begins
first_unique : (a b : ℕ) (xs ys : List ℕ) → a < 256 → b < 256
    → decimal a ++ after_text xs ≡ decimal b ++ after_text ys → (a ≡ b) × (after_text xs ≡ after_text ys)
first_unique a b xs ys small small' same =
    let (numeral, value) = decimal_is_IsNumeral a (omega arith) in
    let (numeral', value') = decimal_is_IsNumeral b (omega arith) in
    let (digits, rest) =
    digits_end (decimal a) (decimal b) (after_text xs) (after_text ys) numeral.1 numeral'.1 (no_digit xs)
    (no_digit ys) same in
    (decimal_unique a b small small' digits, rest)

-- the numbers after the first are unique
after_unique : (xs ys : List ℕ) → AreBytes xs → AreBytes ys → after_text xs ≡ after_text ys → xs ≡ ys
after_unique [] [] fit fit' same = refl
after_unique [] (y ∷ ys) fit fit' same = absurd cc
after_unique (x ∷ xs) [] fit fit' same = absurd cc
after_unique (x ∷ xs) (y ∷ ys) fit fit' same =
    let after : decimal x ++ after_text xs ≡ decimal y ++ after_text ys = cc in
    let (first, rest) = first_unique x y xs ys fit.0 fit'.0 after in
    let others = after_unique xs ys fit.1 fit'.1 rest in
    cc

-- the numbers of a text are unique
pub numbers_unique : (text xs ys : List ℕ) → AreNumbers xs text → AreNumbers ys text → xs ≡ ys
numbers_unique text xs ys are are' =
    let is = first_number xs text are in
    let is' = first_number ys text are' in
    let (first, rest) =
    first_unique is.first is'.first is.rest is'.rest is.small is'.small (sym is.spelled ∙ is'.spelled) in
    let others = after_unique is.rest is'.rest is.fit is'.fit rest in
    is.split ∙ (ap (λ n. n ∷ is.rest) first ∙ ap (λ ns. is'.first ∷ ns) others) ∙ sym is'.split

-- so the text has one value
pub numbers_text_unique : (text : List ℕ) (value other : ℕ) → IsNumbersText text value → IsNumbersText text other
    → value ≡ other
numbers_text_unique text value other (xs, are, valued) (ys, are', valued') =
    valued ∙ ap numbers_value (numbers_unique text xs ys are are') ∙ sym valued'

-- ---- its size

-- the value of one to four numbers has 32 bits
pub numbers_small : (numbers : List ℕ) → AreBytes numbers → length numbers ≤ 4 → numbers_value numbers < 2 ^ 32
numbers_small [] fit few = omega arith
numbers_small (a ∷ []) (first, none) few = omega (arith, first)
numbers_small (a ∷ b ∷ []) (first, (second, none)) few = omega (arith, first, second)
numbers_small (a ∷ b ∷ c ∷ []) (first, (second, (third, none))) few = omega (arith, first, second, third)
numbers_small (a ∷ b ∷ c ∷ d ∷ []) (first, (second, (third, (fourth, none)))) few =
    omega (arith, first, second, third, fourth)
numbers_small (a ∷ b ∷ c ∷ d ∷ e ∷ rest) fit few = absurd (omega (arith, few))

-- and so has the value of their text
pub numbers_text_small : (text : List ℕ) (value : ℕ) → IsNumbersText text value → value < 2 ^ 32
numbers_text_small text value (numbers, are, valued) = rw valued (numbers_small numbers are.fit are.few)

-- ---- under the profile

-- a text has one form of the parser's profile
pub parser_form_unique : (text a b : List ℕ) → IsParserForm text a → IsParserForm text b → a ≡ b
parser_form_unique text a b is is' =
    let decoded : is.decoded ≡ is'.decoded = is.decodes.spelled ∙ sym is'.decodes.spelled in
    same_Some a b (sym is.formed ∙ ap parser_form decoded ∙ is'.formed)

-- the text of an IPv4 address isn't empty
pub ipv4_text_not_empty : (profile : Profile) (value : ℕ) → IsIpv4Text profile [] value → ⊥
ipv4_text_not_empty Standard value is =
    let (numbers, are, valued) = ipv4_numbers [] value is in
    numbers_not_empty numbers [] are refl
ipv4_text_not_empty Wide value is =
    let (numbers, are, valued) = ipv4_numbers [] value is in
    numbers_not_empty numbers [] are refl
ipv4_text_not_empty Parser value (form, (plain, is), number, numbers) = nothing_formed form is

-- it doesn't begin with `[`
pub ipv4_text_no_bracket : (profile : Profile) (text : List ℕ) (value : ℕ) → IsIpv4Text profile text value
    → starts_with_bracket text ≡ false
ipv4_text_no_bracket Standard text value is = ipv4_no_bracket text value is
ipv4_text_no_bracket Wide text value is = ipv4_no_bracket text value is
ipv4_text_no_bracket Parser text value (form, (plain, is), number, numbers) = plain

-- it has one value
pub ipv4_text_unique : (profile : Profile) (text : List ℕ) (value other : ℕ) → IsIpv4Text profile text value
    → IsIpv4Text profile text other → value ≡ other
ipv4_text_unique Standard text value other is is' = ipv4_unique text value other is is'
ipv4_text_unique Wide text value other is is' = ipv4_unique text value other is is'
ipv4_text_unique Parser text value other (a, (plain, is), number, numbers) (b, (plain', is'), number', numbers') =
    let same : a ≡ b = parser_form_unique text a b is is' in
    numbers_text_unique b value other (rw same at numbers) numbers'

-- its value has 32 bits
pub ipv4_text_small : (profile : Profile) (text : List ℕ) (value : ℕ) → IsIpv4Text profile text value
    → value < 2 ^ 32
ipv4_text_small Standard text value is = ipv4_small text value is
ipv4_text_small Wide text value is = ipv4_small text value is
ipv4_text_small Parser text value (form, (plain, is), number, numbers) = numbers_text_small form value numbers
