-- No IPv4 text is a domain: it ends in a number, and is its own form.
use Rattle.std.proofs.Common.{◌≡◌, ◌≢◌, ℕ, zero, suc, ◌^◌, ◌<◌, true, false, ◌||◌, List, [], ◌∷◌, ◌++◌, length}
use Rattle.std.proofs.Common.{get_or, All, Some, decimal, codes, refl, sym, ap, ◌∙◌, inl, inr, arith, append_assoc}
use Rattle.std.proofs.Common.{lt-ltb}
use Rattle.std.specs.Char.{digit_value, is_ascii_lowercase, is_ascii_digit}
use Rattle.std.specs.List.{list_all}
use Rattle.std.specs.Str.Parse.{AllDigits}
use Rattle.std.proofs.lemmas.Bool.{false≢true}
use Rattle.std.proofs.lemmas.Bool.Decides.{nat_tests}
use Rattle.std.proofs.lemmas.Fmt.{decimal_is_IsNumeral}
use Rattle.std.proofs.lemmas.List.Elements.{All-weaker, All-nil, All-cons}
use Rattle.std.proofs.lemmas.Option.{same_Some}
use Rattle.std.proofs.lemmas.Str.{encodes-IsAscii}
use Rattle.std.proofs.lemmas.Str.Ascii.{IsAscii-from_all}
use Rattle.std.proofs.NetLemmas.Alphabet.{IsDigitOrDot, All-ipv4_text}
use Rattle.idna.specs.declared.deny_list.TheConstants.AsciiDenyList.{EMPTY}
use Rattle.idna.specs.Labels.{is_full_stop}
use Rattle.idna.specs.Uts46.{domain_to_ascii}
use Rattle.idna.proofs.Uts46Lemmas.{domain_to_ascii-alphanumeric}
use Rattle.uv_model.specs.declared.profile.Profile.{Profile}
use Rattle.uv_model.specs.declared.profile.Profile.TheVariants.{Standard, Wide, Parser}
use Rattle.uv_model.specs.Hosts.Address.{IsFourNumbers, IsIpv4}
use Rattle.uv_model.specs.Ascii.{percent_sign, full_stop}
use Rattle.uv_model.specs.Hosts.Domain.{is_form_code_point, is_digits, parser_form, ends_in_number, IsDomain}
use Rattle.uv_model.specs.Hosts.Domain.{IsWrittenForm}
use Rattle.uv_model.specs.Hosts.Numbers.{IsIpv4Text}
use Rattle.uv_model.proofs.Hosts.DomainLemmas.{form_unique, parser_form-is}
use Rattle.uv_model.proofs.Hosts.LastLabelLemmas.{HasNoStop, last_label-after}

-- a digit or a full stop stays as it is in ToASCII
simple_byte : (b : ℕ) → IsDigitOrDot b → (is_ascii_lowercase b || is_ascii_digit b || is_full_stop b) ≡ true
simple_byte b (inl digit) = let low = digit.0 in let high = digit.1 in grind (arith, nat_tests)
simple_byte b (inr dot) = rw dot refl

-- a digit or a full stop is a code point of a form
pub form_byte : (b : ℕ) → IsDigitOrDot b → is_form_code_point Standard b ≡ true
form_byte b (inl digit) = let low = digit.0 in let high = digit.1 in grind (arith, nat_tests)
form_byte b (inr dot) = rw dot refl

-- a digit or a full stop isn't `%`
pub no_percent : (b : ℕ) → IsDigitOrDot b → b ≢ percent_sign
no_percent b (inl digit) e = omega arith
no_percent b (inr dot) e = omega arith

-- a digit or a full stop is ASCII
pub ascii_byte : (b : ℕ) → IsDigitOrDot b → b < 128
ascii_byte b (inl digit) = omega arith
ascii_byte b (inr dot) = omega arith

-- four numbers with full stops between them are digits and full stops
pub all_simple : (a b c d : ℕ) (text : List ℕ) → IsFourNumbers a b c d text → All IsDigitOrDot text
all_simple a b c d text is = rw is.spelled (All-ipv4_text (a ∷ b ∷ c ∷ d ∷ []) small)
  where
    small : (k : ℕ) → get_or (a ∷ b ∷ c ∷ d ∷ []) k 0 < 2 ^ 8
    small zero = omega (arith, is.fit.0)
    small (suc zero) = omega (arith, is.fit.1)
    small (suc (suc zero)) = omega (arith, is.fit.2)
    small (suc (suc (suc zero))) = omega (arith, is.fit.3)
    small (suc (suc (suc (suc k)))) = omega arith

-- a code point with a value below ten is a digit
digit_byte : (d : ℕ) → digit_value d < 10 → is_ascii_digit d ≡ true
digit_byte d h = grind (arith, nat_tests)

-- a code point with a value below ten isn't a full stop
not_stop : (d : ℕ) → digit_value d < 10 → is_full_stop d ≡ false
not_stop d h = grind (arith, nat_tests)

-- a list of digits
pub digits_list : (ds : List ℕ) → AllDigits 10 ds → list_all is_ascii_digit ds ≡ true
digits_list [] h = refl
digits_list (d ∷ ds) h = rw (digit_byte d h.0) (digits_list ds h.1)

-- a list of digits has no full stop
stops_list : (ds : List ℕ) → AllDigits 10 ds → HasNoStop ds
stops_list [] h = All-nil (λ b. is_full_stop b ≡ false)
stops_list (d ∷ ds) h = All-cons (λ b. is_full_stop b ≡ false) d ds (not_stop d h.0) (stops_list ds h.1)

-- a decimal number is a label of digits
pub digits_alone : (n : ℕ) → n < 256 → is_digits (decimal n) ≡ true
digits_alone n fits =
    let (numeral, value) = decimal_is_IsNumeral n (omega arith) in
    rw (lt-ltb 0 (length (decimal n)) numeral.0) (digits_list (decimal n) numeral.1)

-- and holds no full stop
no_stop-decimal : (n : ℕ) → n < 256 → HasNoStop (decimal n)
no_stop-decimal n fits = stops_list (decimal n) (decimal_is_IsNumeral n (omega arith)).0.1

-- a decimal number after a full stop ends a text in a number
pub ends_in_number-decimal : (prefix : List ℕ) (n : ℕ) → n < 256
    → ends_in_number (prefix ++ full_stop ∷ decimal n) ≡ true
unfolding ends_in_number
ends_in_number-decimal prefix n fits =
    let (numeral, value) = decimal_is_IsNumeral n (omega arith) in
    rw (last_label-after prefix (decimal n) (no_stop-decimal n fits) numeral.0, digits_alone n fits) refl

-- an IPv4 text ends in a number
pub ends_in_number-ipv4 : (text : List ℕ) (value : ℕ) → IsIpv4 text value → ends_in_number text ≡ true
ends_in_number-ipv4 text value (a, b, c, d, is, e) =
    let prefix = decimal a ++ codes "." ++ decimal b ++ codes "." ++ decimal c in
    let shown : text ≡ prefix ++ full_stop ∷ decimal d = is.spelled ∙ append_assoc prefix (codes ".") (decimal d) in
    ap ends_in_number shown ∙ ends_in_number-decimal prefix d is.fit.3

-- the parser's form of an IPv4 text is the text
pub parser_form-ipv4 : (text : List ℕ) (value : ℕ) → IsIpv4 text value → parser_form text ≡ Some text
parser_form-ipv4 text value (a, b, c, d, is, e) =
    let simple = all_simple a b c d text is in
    let ascii = IsAscii-from_all text (All-weaker IsDigitOrDot (λ x. x < 128) ascii_byte text simple) in
    let IsPlain : ℕ → Type 0 = λ x. (is_ascii_lowercase x || is_ascii_digit x || is_full_stop x) ≡ true in
    parser_form-is text ∙ ap (domain_to_ascii EMPTY) (encodes-IsAscii text ascii)
    ∙ domain_to_ascii-alphanumeric EMPTY text (All-weaker IsDigitOrDot IsPlain simple_byte text simple)

-- a form of an IPv4 text that is written is the text
written_ipv4 : (profile : Profile) (text form : List ℕ) (value : ℕ) → IsIpv4 text value
    → IsWrittenForm profile text form → ends_in_number form ≡ true
written_ipv4 profile text form value is has =
    let same : text ≡ form = same_Some text form (sym (parser_form-ipv4 text value is) ∙ has.parsed) in
    ap ends_in_number (sym same) ∙ ends_in_number-ipv4 text value is

-- an IPv4 text isn't a valid domain
pub ipv4_no_domain : (profile : Profile) (text form : List ℕ) (value : ℕ) → IsIpv4Text profile text value →
    ¬ (IsDomain profile text form)
ipv4_no_domain Standard text form value is (has, other) =
    false≢true (sym other ∙ written_ipv4 Standard text form value is has)
ipv4_no_domain Wide text form value is (has, other) =
    false≢true (sym other ∙ written_ipv4 Wide text form value is has)
ipv4_no_domain Parser text form value (own, formed, number, numbers) (has, other) =
    false≢true (sym other ∙ ap ends_in_number (form_unique Parser text form own has formed) ∙ number)
