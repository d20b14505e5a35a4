-- The IPv4 parser (URL Standard, section 3.5), ended at its first validation error: one to four shortest decimal
-- numbers.
use Rattle.std.specs.Prelude.{◌≡◌, ◌↔◌, ℕ, zero, suc, ◌==◌, List, [], ◌∷◌, Option, Some, None}
use Rattle.std.specs.Prelude.{option_map, option_and_then, if◌then◌else◌}
use Rattle.uv_model.specs.Hosts.Address.{IsIpv4}
use Rattle.uv_model.specs.Hosts.Numbers.{IsNumbersText, numbers_value}
use Rattle.uv_model.specs.Ascii.{full_stop}
use Rattle.uv_parser.specs.Ipv6Parser.{read_digits}

-- ---- the parser

-- the numbers after the first, of which so many may come, each after a full stop
unfoldable pub read_after : ℕ → List ℕ → Option (List ℕ)
read_after left [] = Some []
read_after zero (c ∷ text) = None
read_after (suc left) (c ∷ text) =
    let further =
    option_and_then (λ (n, rest). option_map (λ numbers. n ∷ numbers) (read_after left rest))
    (read_digits None text) in
    if c == full_stop then further else None

-- the numbers of the text, or none if the parser stops
unfoldable pub read_numbers : List ℕ → Option (List ℕ)
read_numbers text =
    option_and_then (λ (n, rest). option_map (λ numbers. n ∷ numbers) (read_after 3 rest)) (read_digits None text)

-- the value of the text, or none if the parser stops
unfoldable pub parse_ipv4 : List ℕ → Option ℕ
parse_ipv4 text = option_map numbers_value (read_numbers text)

-- ---- laws

-- on an IPv4 text, which is four numbers, the parser gives exactly its value
abbrev pub Ipv4TextsAreParsed : Type 0
Ipv4TextsAreParsed = (text : List ℕ) (value : ℕ) → IsIpv4 text value → parse_ipv4 text ≡ Some value

-- the parser gives a value only on texts of one to four numbers, and exactly theirs
abbrev pub Ipv4ParserTakesNumbers : Type 0
Ipv4ParserTakesNumbers = (text : List ℕ) (value : ℕ) → (parse_ipv4 text ≡ Some value) ↔ IsNumbersText text value
