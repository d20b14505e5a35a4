-- The IPv6 parser (URL Standard, section 3.5): pieces, a piece index and a compress index, and swaps at the end.
use Rattle.std.specs.Prelude.{◌≡◌, ◌↔◌, ℕ, zero, suc, ◌+◌, ◌-◌, ◌*◌, not, ◌&&◌, ◌||◌, ◌==◌, nat_lt, nat_le, List, []}
use Rattle.std.specs.Prelude.{◌∷◌, length, drop, replicate, slice_index, slice_set, Option, Some, None, is_some}
use Rattle.std.specs.Prelude.{option_map, option_and_then, if◌then◌else◌}
use Rattle.std.specs.Char.{digit_value, is_digit}
use Rattle.uv_model.specs.Ascii.{colon, full_stop}
use Rattle.uv_model.specs.Hosts.Address.{IsIpv6}

-- ---- one hexadecimal piece

-- hex digits, as many as are allowed: the value, how many they are, and the rest
unfoldable pub read_hex : ℕ → ℕ → ℕ → List ℕ → ℕ × ℕ × List ℕ
read_hex zero value count text = (value, count, text)
read_hex (suc most) value count [] = (value, count, [])
read_hex (suc most) value count (c ∷ text) =
    let more = read_hex most (value * 16 + digit_value c) (count + 1) text in
    if is_digit c 16 then more else (value, count, c ∷ text)

-- ---- an IPv4 address at the end

-- the number after one more digit; a digit after the number 0, or a number above 255, fails
abbrev pub add_digit : Option ℕ → ℕ → Option ℕ
add_digit None digit = Some digit
add_digit (Some n) digit =
    if n == 0 then None else (if nat_le (n * 10 + digit) 255 then Some (n * 10 + digit) else None)

-- the number and the rest; with no digit it fails
abbrev pub finished : Option ℕ → List ℕ → Option (ℕ × List ℕ)
finished None text = None
finished (Some n) text = Some (n, text)

-- digits one by one into the number, up to a code point that isn't a digit
unfoldable pub read_digits : Option ℕ → List ℕ → Option (ℕ × List ℕ)
read_digits number [] = finished number []
read_digits number (c ∷ text) =
    let more = option_and_then (λ n. read_digits (Some n) text) (add_digit number (digit_value c)) in
    if is_digit c 10 then more else finished number (c ∷ text)

-- a full stop before each number but the first
abbrev pub after_dot : ℕ → ℕ → List ℕ → Option (List ℕ)
after_dot seen c text = if seen == 0 then Some (c ∷ text) else (if c == full_stop then Some text else None)

-- the piece at the index takes another number as its low byte
abbrev pub add_number : List ℕ → ℕ → ℕ → List ℕ
add_number pieces i n = slice_set pieces i (slice_index pieces i * 256 + n)

-- the numbers of an IPv4 address into the pieces, two each; the first argument is how many may come
unfoldable pub read_dotted : ℕ → ℕ → List ℕ → ℕ → List ℕ → Option (List ℕ × ℕ)
read_dotted turns seen pieces i [] = if seen == 4 then Some (pieces, i) else None
read_dotted zero seen pieces i (c ∷ text) = None
read_dotted (suc turns) seen pieces i (c ∷ text) =
    let after = if seen == 1 || seen == 3 then i + 1 else i in
    option_and_then
    (λ prefix. option_and_then
    (λ (n, rest). read_dotted turns (seen + 1) (add_number pieces i n) after rest)
    (read_digits None prefix))
    (after_dot seen c text)

-- ---- the main loop

-- pieces, piece index and compress, or a failure
abbrev pub Parsed : Type 0
Parsed = Option (List ℕ × ℕ × Option ℕ)

-- the main loop, of which each turn takes a code point at least; the first argument bounds the turns
unfoldable pub main_loop : ℕ → List ℕ → ℕ → Option ℕ → List ℕ → Parsed
main_loop turns pieces i compress [] = Some (pieces, i, compress)
main_loop zero pieces i compress (c ∷ text) = None
main_loop (suc turns) pieces i compress (c ∷ text) =
    let hex = read_hex 4 0 0 (c ∷ text) in
    let rest = hex.2 in
    let marked = main_loop turns pieces (i + 1) (Some (i + 1)) text in
    let dotted = option_map (λ r. (r.0, r.1, compress)) (read_dotted 4 0 pieces i (c ∷ text)) in
    let further = main_loop turns (slice_set pieces i hex.0) (i + 1) compress (drop 1 rest) in
    if i == 8 then None
    else (if c == colon then (if is_some compress then None else marked)
    else (if slice_index rest 0 == full_stop then (if hex.1 == 0 || nat_lt 6 i then None else dotted)
    else (if length rest == 0 then further
    else (if slice_index rest 0 == colon && not (length (drop 1 rest) == 0) then further else None))))

-- ---- swaps, and the whole

-- the pieces at the two places change places
abbrev pub swap : ℕ → ℕ → List ℕ → List ℕ
swap i j pieces = slice_set (slice_set pieces i (slice_index pieces j)) j (slice_index pieces i)

-- the pieces after `compress` go to the end, one swap each
unfoldable pub move : ℕ → ℕ → ℕ → List ℕ → List ℕ
move zero i compress pieces = pieces
move (suc swaps) i compress pieces =
    if i == 0 then pieces else move swaps (i - 1) compress (swap i (compress + swaps) pieces)

-- after the loop: swaps where compress is set, and otherwise eight pieces or a failure
abbrev pub finish : List ℕ × ℕ × Option ℕ → Option (List ℕ)
finish (pieces, i, None) = if i == 8 then Some pieces else None
finish (pieces, i, Some compress) = Some (move (i - compress) 7 compress pieces)

-- the eight pieces of the text, or none if the parser fails; `:` at its start has to be `::`
unfoldable pub parse_ipv6 : List ℕ → Option (List ℕ)
parse_ipv6 text =
    let zeros = replicate 8 0 in
    let parsed =
    if slice_index text 0 == colon
    then (if slice_index text 1 == colon then main_loop (length text) zeros 1 (Some 1) (drop 2 text) else None)
    else main_loop (length text) zeros 0 None text in
    option_and_then finish parsed

-- the law: on an IPv6 text the parser gives exactly its pieces
abbrev pub Ipv6TextsAreParsed : Type 0
Ipv6TextsAreParsed = (text pieces : List ℕ) → IsIpv6 text pieces → parse_ipv6 text ≡ Some pieces

-- the law: the parser gives pieces only on the IPv6 texts, and exactly theirs
abbrev pub Ipv6ParserTakesIpv6Texts : Type 0
Ipv6ParserTakesIpv6Texts = (text pieces : List ℕ) → (parse_ipv6 text ≡ Some pieces) ↔ IsIpv6 text pieces
