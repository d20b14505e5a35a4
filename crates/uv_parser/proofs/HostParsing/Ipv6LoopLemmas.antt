-- The parser's main loop over groups.
use Rattle.std.proofs.Common.{◌≡◌, ◌≢◌, ℕ, suc, ◌+◌, ◌*◌, ◌<◌, ◌≤◌, false, ◌||◌, ◌==◌, List, [], ◌∷◌, ◌++◌, length}
use Rattle.std.proofs.Common.{Option, Some, None, decimal, refl, ap, ◌∙◌, arith, le-ltb, ne_eqb, lit≤, append_assoc}
use Rattle.std.proofs.Common.{append-nil, length-append}
use Rattle.std.specs.Prelude.{slice_index, slice_set, if◌then◌else◌}
use Rattle.std.specs.Str.Parse.{AllDigits}
use Rattle.std.specs.Net.Addr.{segments_of}
use Rattle.std.specs.Net.Grammar.{IsDotted, IsGroup}
use Rattle.uv_parser.specs.Ipv6Parser.{read_digits, read_dotted, main_loop}
use Rattle.std.proofs.lemmas.Fmt.{decimal_is_IsNumeral, length-decimal-le}
use Rattle.uv_parser.proofs.HostParsing.Ipv6ReadersLemmas.{hexadecimal, pad, set_pad, get_pad, set_again, get_again}
use Rattle.uv_parser.proofs.HostParsing.Ipv6ReadersLemmas.{read_hex_group, not_colon, read_number}
use Rattle.uv_model.specs.Ascii.{colon, full_stop}

-- a group at the end
pub turn_end : (turns : ℕ) (pieces : List ℕ) (i : ℕ) (compress : Option ℕ) (group : List ℕ) (s : ℕ) → IsGroup group s
    → i < 8 → main_loop (suc turns) pieces i compress group ≡ Some (slice_set pieces i s, i + 1, compress)
unfolding main_loop
turn_end turns pieces i compress [] s h room = absurd (omega (arith, h.0.0.0))
turn_end turns pieces i compress (c ∷ group) s h room =
    let hex = rw append-nil at (read_hex_group 4 0 0 (c ∷ group) [] h.0.0.1 h.1 (lit≤ tt)) in
    let small : i ≢ 8 = omega arith in
    rw (ne_eqb i 8 small, not_colon c h.0.0.1.0, hex, h.0.1)

-- a group, a colon and something after it
pub turn_more : (turns : ℕ) (pieces : List ℕ) (i : ℕ) (compress : Option ℕ) (group rest : List ℕ) (s : ℕ)
    → IsGroup group s → i < 8 → 0 < length rest
    → main_loop (suc turns) pieces i compress (group ++ (colon ∷ rest))
    ≡ main_loop turns (slice_set pieces i s) (i + 1) compress rest
unfolding main_loop
turn_more turns pieces i compress [] rest s h room some = absurd (omega (arith, h.0.0.0))
turn_more turns pieces i compress (c ∷ group) rest s h room some =
    let hex = read_hex_group 4 0 0 (c ∷ group) (colon ∷ rest) h.0.0.1 h.1 (lit≤ tt) in
    let small : i ≢ 8 = omega arith in
    let nonempty : length rest ≢ 0 = omega arith in
    let more : suc (length rest) ≢ 0 = omega arith in
    rw (
      ne_eqb i 8 small,
      not_colon c h.0.0.1.0,
      hex,
      h.0.1,
      ne_eqb (suc (length rest)) 0 more,
      ne_eqb
          (length rest) 0 nonempty,
    )

-- ---- an IPv4 address

-- the first number has no full stop before it
first_number : (turns : ℕ) (pieces : List ℕ) (i : ℕ) (text rest : List ℕ) (n : ℕ) → 0 < length text
    → read_digits None text ≡ Some (n, rest)
    → read_dotted (suc turns) 0 pieces i text
    ≡ read_dotted turns 1 (slice_set pieces i (slice_index pieces i * 256 + n)) i rest
unfolding read_dotted
first_number turns pieces i [] rest n some read = absurd (omega arith)
first_number turns pieces i (c ∷ text) rest n some read = rw read

-- each other number has one
next_number : (turns seen : ℕ) (pieces : List ℕ) (i : ℕ) (prefix rest : List ℕ) (n : ℕ) → (seen == 0) ≡ false
    → read_digits None prefix ≡ Some (n, rest)
    → read_dotted (suc turns) seen pieces i (full_stop ∷ prefix)
    ≡ read_dotted turns (seen + 1) (slice_set pieces i (slice_index pieces i * 256 + n))
    (if seen == 1 || seen == 3 then i + 1 else i) rest
unfolding read_dotted
next_number turns seen pieces i prefix rest n later read = rw (later, read)

-- a number into a fresh piece
high_byte : (done : List ℕ) (i v : ℕ) → i ≡ length done → i < 8
    → slice_set (pad 8 done) i (slice_index (pad 8 done) i * 256 + v) ≡ pad 8 (done ++ v ∷ [])
high_byte done i v at room =
    let small : length done < 8 = omega arith in
    let e : 0 * 256 + v ≡ v = omega arith in
    rw (at, get_pad 8 done small, e) (set_pad 8 done v small)

-- and the next into the low byte of that piece
low_byte : (done : List ℕ) (i u v : ℕ) → i ≡ length done → i < 8
    → slice_set (pad 8 (done ++ u ∷ [])) i (slice_index (pad 8 (done ++ u ∷ [])) i * 256 + v)
    ≡ pad 8 (done ++ (u * 256 + v) ∷ [])
low_byte done i u v at room =
    let small : length done < 8 = omega arith in
    rw (at, get_again 8 done u small) (set_again 8 done u (u * 256 + v) small)

-- the last three numbers, each after a full stop
abbrev dotted_rest : ℕ → ℕ → ℕ → List ℕ
dotted_rest b c d = full_stop ∷ (decimal b ++ (full_stop ∷ (decimal c ++ (full_stop ∷ decimal d))))

-- after four numbers the text ends
four_read : (pieces : List ℕ) (i : ℕ) → read_dotted 0 4 pieces i [] ≡ Some (pieces, i)
unfolding read_dotted
four_read pieces i = refl

-- four numbers fill two pieces
read_four : (done : List ℕ) (i a b c d : ℕ) → i ≡ length done → i ≤ 6 → (a < 256) × (b < 256) × (c < 256) × (d < 256)
    → 0 < length (decimal a)
    → read_dotted 4 0 (pad 8 done) i (decimal a ++ dotted_rest b c d)
    ≡ Some (pad 8 (done ++ (a * 256 + b) ∷ (c * 256 + d) ∷ []), i + 2)
read_four done i a b c d at room fit some =
    let nonempty : 0 < length (decimal a ++ dotted_rest b c d) =
    omega (arith, length-append (decimal a) (dotted_rest b c d)) in
    let second = done ++ (a * 256 + b) ∷ [] in
    let at_second : i + 1 ≡ length second = omega (arith, length-append done ((a * 256 + b) ∷ [])) in
    let last = rw append-nil at (read_number d [] fit.3 (lit≤ tt)) in
    let one = first_number 3 (pad 8 done) i _ _ a nonempty (read_number a (dotted_rest b c d) fit.0 (lit≤ tt)) in
    let two =
    next_number 2 1 (pad 8 (done ++ a ∷ [])) i _ _ b refl
    (read_number b (full_stop ∷ (decimal c ++ (full_stop ∷ decimal d))) fit.1 (lit≤ tt)) in
    let three =
    next_number 1 2 (pad 8 second) (i + 1) _ _ c refl (read_number c (full_stop ∷ decimal d) fit.2 (lit≤ tt)) in
    let four = next_number 0 3 (pad 8 (second ++ c ∷ [])) (i + 1) _ _ d refl last in
    let sum : i + 1 + 1 ≡ i + 2 = omega arith in
    one ∙ ap (λ p. read_dotted 3 1 p i (dotted_rest b c d)) (high_byte done i a at (omega arith))
    ∙ two ∙ ap (λ p. read_dotted 2 2 p (i + 1) (full_stop ∷ (decimal c ++ (full_stop ∷ decimal d))))
    (low_byte done i a b at (omega arith))
    ∙ three
    ∙ ap (λ p. read_dotted 1 3 p (i + 1) (full_stop ∷ decimal d))
    (high_byte second (i + 1) c at_second (omega arith))
    ∙ four ∙ ap (λ p. read_dotted 0 4 p (i + 1 + 1) []) (low_byte second (i + 1) c d at_second (omega arith))
    ∙ four_read _ _ ∙ ap (λ p. Some (pad 8 p, i + 1 + 1)) (append_assoc done ((a * 256 + b) ∷ []) ((c * 256 + d) ∷ []))
    ∙ ap (λ n. Some (pad 8 (done ++ (a * 256 + b) ∷ (c * 256 + d) ∷ []), n)) sum

-- digits and a full stop
at_dot : (turns : ℕ) (pieces : List ℕ) (i : ℕ) (compress : Option ℕ) (digits rest : List ℕ) (r : List ℕ × ℕ)
    → AllDigits 16 digits → 0 < length digits → length digits ≤ 4 → i ≤ 6
    → read_dotted 4 0 pieces i (digits ++ (full_stop ∷ rest)) ≡ Some r
    → main_loop (suc turns) pieces i compress (digits ++ (full_stop ∷ rest)) ≡ Some (r.0, r.1, compress)
unfolding main_loop
at_dot turns pieces i compress [] rest r all some few room read = absurd (omega arith)
at_dot turns pieces i compress (c ∷ digits) rest r all some few room read =
    let hex = read_hex_group 4 0 0 (c ∷ digits) (full_stop ∷ rest) all few (lit≤ tt) in
    let small : i ≢ 8 = omega arith in
    let counted : 0 + suc (length digits) ≢ 0 = omega arith in
    rw (
      ne_eqb i 8 small,
      not_colon c all.0,
      hex,
      ne_eqb
          (0 + suc (length digits)) 0 counted,
      le-ltb 6 i room,
      read,
    ) refl

-- an IPv4 address ends the loop
pub turn_dotted : (turns : ℕ) (done : List ℕ) (i : ℕ) (compress : Option ℕ) (text octets : List ℕ)
    → IsDotted text octets → i ≡ length done → i ≤ 6
    → main_loop (suc turns) (pad 8 done) i compress text ≡ Some (pad 8 (done ++ segments_of octets), i + 2, compress)
turn_dotted turns done i compress text octets h at room =
    let (numeral, value) = decimal_is_IsNumeral h.a (omega (arith, h.fit.0)) in
    let few = length-decimal-le 3 h.a (omega arith) (omega (arith, h.fit.0)) (omega (arith, h.fit.0)) in
    let shown : text ≡ decimal h.a ++ dotted_rest h.b h.c h.d = h.spelled ∙ simp append_assoc in
    let read = read_four done i h.a h.b h.c h.d at room h.fit numeral.0 in
    rw (shown, h.value)
    (at_dot turns (pad 8 done) i compress (decimal h.a) _ _ (hexadecimal _ numeral.1) numeral.0
    (omega arith) room read)
