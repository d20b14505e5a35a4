-- The IPv4 parser on one to four numbers gives them, and so on an IPv4 text its value.
use Rattle.std.proofs.Common.{◌≡◌, ℕ, zero, suc, ◌≤◌, List, [], ◌∷◌, ◌++◌, length, Some}
use Rattle.std.proofs.Common.{decimal, refl, sym, ap, ◌∙◌, lit≤, arith}
use Rattle.uv_model.specs.Hosts.Address.{IsIpv4}
use Rattle.uv_model.specs.Hosts.Numbers.{AreBytes, AreNumbers, IsNumbersText}
use Rattle.uv_parser.specs.Ipv4Parser.{parse_ipv4, read_after, read_numbers}
use Rattle.uv_parser.proofs.HostParsing.Ipv6ReadersLemmas.{NoDigit, read_number}
use Rattle.uv_model.proofs.Hosts.NumberLemmas.{after_text, ipv4_numbers, numbers_joined}

-- what follows a number begins with no digit
no_digit : (rest : List ℕ) → NoDigit 10 (after_text rest)
no_digit [] = lit≤ tt
no_digit (n ∷ rest) = lit≤ tt

-- the numbers after the first are read
after_read : (left : ℕ) (rest : List ℕ) → length rest ≤ left → AreBytes rest
    → read_after left (after_text rest) ≡ Some rest
unfolding read_after
after_read zero [] few fit = refl
after_read (suc left) [] few fit = refl
after_read zero (n ∷ rest) few fit = absurd (omega (arith, few))
after_read (suc left) (n ∷ rest) few fit =
    let number = read_number n (after_text rest) fit.0 (no_digit rest) in
    let others = after_read left rest (omega (arith, few)) fit.1 in
    rw (number, others) refl

-- one to four numbers are read
pub numbers_read : (numbers text : List ℕ) → AreNumbers numbers text → read_numbers text ≡ Some numbers
unfolding read_numbers
numbers_read [] text is = absurd (let some = is.some in omega (arith, some))
numbers_read (n ∷ rest) text is =
    let shown : text ≡ decimal n ++ after_text rest = is.spelled ∙ numbers_joined n rest in
    let few : length rest ≤ 3 = let all = is.few in omega (arith, all) in
    let fit = is.fit in
    rw (shown, read_number n (after_text rest) fit.0 (no_digit rest), after_read 3 rest few fit.1) refl

-- so the parser gives their value
pub numbers_parsed : (text : List ℕ) (value : ℕ) → IsNumbersText text value → parse_ipv4 text ≡ Some value
unfolding parse_ipv4
numbers_parsed text value (numbers, are, valued) = rw (numbers_read numbers text are) (ap Some (sym valued))

-- so the parser gives exactly its value
pub ipv4_parsed : (text : List ℕ) (value : ℕ) → IsIpv4 text value → parse_ipv4 text ≡ Some value
ipv4_parsed text value is = numbers_parsed text value (ipv4_numbers text value is)
