-- The parser on lists of groups, and on a whole IPv6 text.
use Rattle.std.proofs.Common.{◌≡◌, ◌≢◌, ℕ, zero, suc, ◌+◌, ◌-◌, ◌<◌, ◌≤◌, Bool, true, false, ◌==◌, List, [], ◌∷◌, ◌++◌}
use Rattle.std.proofs.Common.{length, Option, Some, None, decimal, codes, refl, ap, ◌∙◌, inl, inr, arith, ne_eqb}
use Rattle.std.proofs.Common.{append_assoc, append-nil, length-append}
use Rattle.std.specs.Prelude.{replicate, slice_index, slice_set}
use Rattle.std.specs.Str.Parse.{AllDigits}
use Rattle.std.specs.Net.Addr.{segments_of}
use Rattle.std.specs.Net.Grammar.{IsDotted, IsGroupsAfter, IsGroups, IsColonHex}
use Rattle.std.proofs.lemmas.Bool.{false≢true}
use Rattle.std.proofs.lemmas.Fmt.{decimal_is_IsNumeral}
use Rattle.uv_model.specs.Hosts.Address.{IsIpv6}
use Rattle.uv_parser.specs.Ipv6Parser.{Parsed, main_loop, finish, parse_ipv6}
use Rattle.uv_model.proofs.Addresses.AddressLemmas.{colon_hex_from_ipv6}
use Rattle.uv_parser.proofs.HostParsing.Ipv6MovesLemmas.{moved}
use Rattle.uv_parser.proofs.HostParsing.Ipv6ReadersLemmas.{hexadecimal, pad, set_pad, pad_full, pad_append, pad_zero}
use Rattle.uv_parser.proofs.HostParsing.Ipv6ReadersLemmas.{not_colon}
use Rattle.uv_parser.proofs.HostParsing.Ipv6LoopLemmas.{turn_end, turn_more, turn_dotted}
use Rattle.uv_model.specs.Ascii.{colon, full_stop}

-- an IPv4 address has a code point
nonempty_dotted : (text octets : List ℕ) → IsDotted text octets → 0 < length text
nonempty_dotted text octets h =
    let (numeral, value) = decimal_is_IsNumeral h.a (omega (arith, h.fit.0)) in
    let shown : text
    ≡ decimal h.a ++ (full_stop ∷ (decimal h.b ++ (full_stop ∷ (decimal h.c ++ (full_stop ∷ decimal h.d))))) =
    h.spelled ∙ simp append_assoc in
    omega (
      arith,
      numeral.0,
      ap length shown,
      length-append (decimal h.a)
          (full_stop ∷ (decimal h.b ++ (full_stop ∷ (decimal h.c ++ (full_stop ∷ decimal h.d))))),
    )

-- so have groups
nonempty_groups : (ipv4 : Bool) (text : List ℕ) (x : ℕ) (xs : List ℕ) → IsGroups ipv4 text (x ∷ xs) → 0 < length text
nonempty_groups ipv4 text x xs (inl (group, rest, split, is, more)) =
    omega (arith, is.0.0.0, ap length split, length-append group rest)
nonempty_groups ipv4 text x xs (inr (last, octets, allowed, split, is, value)) =
    rw split (nonempty_dotted last octets is)

-- more groups are a colon and groups
peeled : (ipv4 : Bool) (text : List ℕ) (x : ℕ) (xs : List ℕ) → IsGroupsAfter ipv4 (codes ":") text (x ∷ xs)
    → (rest : List ℕ) × (text ≡ colon ∷ rest) × IsGroups ipv4 rest (x ∷ xs)
peeled ipv4 text x xs (inl (group, rest, split, is, more)) = (group ++ rest, split, inl (group, rest, refl, is, more))
peeled ipv4 text x xs (inr (last, octets, allowed, split, is, value)) =
    (last, split, inr (last, octets, allowed, refl, is, value))

-- an IPv4 address at the end
end_dotted : (turns : ℕ) (done : List ℕ) (i : ℕ) (compress : Option ℕ) (text octets segments : List ℕ)
    → IsDotted text octets → segments ≡ segments_of octets → i ≡ length done → i + length segments ≤ 8
    → main_loop (suc turns) (pad 8 done) i compress text
    ≡ Some (pad 8 (done ++ segments), i + length segments, compress)
end_dotted turns done i compress text octets segments h value at room =
    let two : length segments ≡ 2 = ap length value ∙ ap (λ o. length (segments_of o)) h.value in
    rw (two, value) (turn_dotted turns done i compress text octets h at (omega arith))

-- groups up to the end
pub groups_end : (ipv4 : Bool) (xs : List ℕ) (x : ℕ) (text done : List ℕ) (i : ℕ) (compress : Option ℕ) (turns : ℕ)
    → IsGroups ipv4 text (x ∷ xs) → i ≡ length done → i + length (x ∷ xs) ≤ 8 → length text ≤ turns
    → main_loop turns (pad 8 done) i compress text ≡ Some (pad 8 (done ++ x ∷ xs), i + length (x ∷ xs), compress)
groups_end ipv4 xs x text done i compress zero h at room fits = absurd (omega (arith, nonempty_groups ipv4 text x xs h))
groups_end ipv4 xs x text done i compress (suc turns) (inr (last, octets, allowed, split, is, value)) at room fits =
    rw split (end_dotted turns done i compress last octets (x ∷ xs) is value at room)
groups_end ipv4 [] x text done i compress (suc turns) (inl (group, rest, split, is, none)) at room fits =
    let shown : text ≡ group = split ∙ ap (λ r. group ++ r) none ∙ append-nil group in
    let set : slice_set (pad 8 done) i x ≡ pad 8 (done ++ x ∷ []) = rw at (set_pad 8 done x (omega arith)) in
    rw shown (turn_end turns (pad 8 done) i compress group x is (omega arith) ∙ ap (λ p. Some (p, i + 1, compress)) set)
groups_end ipv4 (y ∷ ys) x text done i compress (suc turns) (inl (group, rest, split, is, more)) at room fits =
    let (text', colon_is, groups) = peeled ipv4 rest y ys more in
    let shown : text ≡ group ++ (colon ∷ text') = split ∙ ap (λ r. group ++ r) colon_is in
    let some = nonempty_groups ipv4 text' y ys groups in
    let set : slice_set (pad 8 done) i x ≡ pad 8 (done ++ x ∷ []) = rw at (set_pad 8 done x (omega arith)) in
    let next =
    groups_end ipv4 ys y text' (done ++ x ∷ []) (i + 1) compress turns groups
    (omega (arith, length-append done (x ∷ []))) (omega arith)
    (omega (arith, ap length shown, length-append group (colon ∷ text'))) in
    let sum : i + 1 + length (y ∷ ys) ≡ i + length (x ∷ y ∷ ys) = omega arith in
    rw shown
    (turn_more turns (pad 8 done) i compress group text' x is (omega arith) some
    ∙ ap (λ p. main_loop turns p (i + 1) compress text') set
    ∙ next
    ∙ ap (λ p. Some (pad 8 p, i + 1 + length (y ∷ ys), compress)) (append_assoc done (x ∷ []) (y ∷ ys))
    ∙ ap (λ n. Some (pad 8 (done ++ x ∷ y ∷ ys), n, compress)) sum)

-- groups, a colon and something after it, where the loop gives this result from there
pub groups_then : (xs : List ℕ) (x : ℕ) (text done : List ℕ) (i : ℕ) (compress : Option ℕ) (d : ℕ) (tail : List ℕ)
    (result : Parsed) (turns : ℕ) → IsGroups false text (x ∷ xs) → i ≡ length done → i + length (x ∷ xs) ≤ 8
    → length text + length (d ∷ tail) ≤ turns
    → ((t : ℕ) → length (d ∷ tail) ≤ t
    → main_loop t (pad 8 (done ++ x ∷ xs)) (i + length (x ∷ xs)) compress (d ∷ tail) ≡ result)
    → main_loop turns (pad 8 done) i compress (text ++ (colon ∷ d ∷ tail)) ≡ result
groups_then xs x text done i compress d tail result zero h at room fits then_gives =
    absurd (omega (arith, nonempty_groups false text x xs h))
groups_then xs x text done i compress d tail result (suc turns)
    (inr (last, octets, allowed, split, is, value)) at room fits then_gives = absurd (false≢true allowed)
groups_then [] x text done i compress d tail result (suc turns)
    (inl (group, rest, split, is, none)) at room fits then_gives =
    let shown : text ≡ group = split ∙ ap (λ r. group ++ r) none ∙ append-nil group in
    let set : slice_set (pad 8 done) i x ≡ pad 8 (done ++ x ∷ []) = rw at (set_pad 8 done x (omega arith)) in
    rw shown
    (turn_more turns (pad 8 done) i compress group (d ∷ tail) x is (omega arith) (omega arith)
    ∙ ap (λ p. main_loop turns p (i + 1) compress (d ∷ tail)) set
    ∙ then_gives turns (omega (arith, ap length shown, is.0.0.0)))
groups_then (y ∷ ys) x text done i compress d tail result (suc turns)
    (inl (group, rest, split, is, more)) at room fits then_gives =
    let (text', colon_is, groups) = peeled false rest y ys more in
    let shown : text ≡ group ++ (colon ∷ text') = split ∙ ap (λ r. group ++ r) colon_is in
    let some = nonempty_groups false text' y ys groups in
    let set : slice_set (pad 8 done) i x ≡ pad 8 (done ++ x ∷ []) = rw at (set_pad 8 done x (omega arith)) in
    let sum : i + 1 + length (y ∷ ys) ≡ i + length (x ∷ y ∷ ys) = omega arith in
    let further = text' ++ (colon ∷ d ∷ tail) in
    let longer : 0 < length further = omega (arith, length-append text' (colon ∷ d ∷ tail)) in
    let next =
    groups_then ys y text' (done ++ x ∷ []) (i + 1) compress d tail result turns groups
    (omega (arith, length-append done (x ∷ []))) (omega arith)
    (omega (arith, ap length shown, length-append group (colon ∷ text')))
    (λ t enough. rw (append_assoc, sum) (then_gives t enough)) in
    rw (shown, append_assoc)
    (turn_more turns (pad 8 done) i compress group further x is (omega arith) longer
    ∙ ap (λ p. main_loop turns p (i + 1) compress further) set
    ∙ next)

-- ---- the whole text

-- digits don't begin with a colon
digits_first : (ds rest : List ℕ) → AllDigits 16 ds → 0 < length ds → (slice_index (ds ++ rest) 0 == colon) ≡ false
digits_first [] rest all some = absurd (omega arith)
digits_first (d ∷ ds) rest all some = not_colon d all.0

-- nor do groups
no_colon_first : (ipv4 : Bool) (text : List ℕ) (x : ℕ) (xs : List ℕ) (after : List ℕ) → IsGroups ipv4 text (x ∷ xs)
    → (slice_index (text ++ after) 0 == colon) ≡ false
no_colon_first ipv4 text x xs after (inl (group, rest, split, is, more)) =
    let shown : text ++ after ≡ group ++ (rest ++ after) = ap (λ t. t ++ after) split ∙ append_assoc group rest after in
    rw shown (digits_first group (rest ++ after) is.0.0.1 is.0.0.0)
no_colon_first ipv4 text x xs after (inr (last, octets, allowed, split, is, value)) =
    let (numeral, number) = decimal_is_IsNumeral is.a (omega (arith, is.fit.0)) in
    let others = full_stop ∷ (decimal is.b ++ (full_stop ∷ (decimal is.c ++ (full_stop ∷ decimal is.d)))) in
    let spelled : last ≡ decimal is.a ++ others = is.spelled ∙ simp append_assoc in
    let shown : text ++ after ≡ decimal is.a ++ (others ++ after) = ap (λ t. t ++ after) (split ∙ spelled)
    ∙ append_assoc (decimal is.a) others after in
    rw shown (digits_first (decimal is.a) (others ++ after) (hexadecimal _ numeral.1) numeral.0)

-- the loop ends at the end of the text
at_end : (turns : ℕ) (pieces : List ℕ) (i : ℕ) (compress : Option ℕ)
    → main_loop turns pieces i compress [] ≡ Some (pieces, i, compress)
unfolding main_loop
at_end zero pieces i compress = refl
at_end (suc turns) pieces i compress = refl

-- the second colon of `::` after groups
mark : (turns : ℕ) (pieces : List ℕ) (i : ℕ) (text : List ℕ) → i < 8
    → main_loop (suc turns) pieces i None (colon ∷ text) ≡ main_loop turns pieces (i + 1) (Some (i + 1)) text
unfolding main_loop
mark turns pieces i text room = let small : i ≢ 8 = omega arith in rw (ne_eqb i 8 small)

-- what follows `::`, up to the end
after_mark : (turns : ℕ) (head tail text : List ℕ) → IsGroups true text tail → length head + length tail < 8
    → length text ≤ turns
    → main_loop turns (pad 8 (head ++ 0 ∷ [])) (length head + 1) (Some (length head + 1)) text
    ≡ Some (pad 8 (head ++ 0 ∷ tail), length head + 1 + length tail, Some (length head + 1))
after_mark turns head [] text none room fits =
    let sum : length head + 1 ≡ length head + 1 + 0 = omega arith in
    rw none (at_end turns _ _ _ ∙ ap (λ n. Some (pad 8 (head ++ 0 ∷ []), n, Some (length head + 1))) sum)
after_mark turns head (y ∷ ys) text groups room fits =
    groups_end true ys y text (head ++ 0 ∷ []) (length head + 1) (Some (length head + 1)) turns groups
    (omega (arith, length-append head (0 ∷ []))) (omega arith) fits
    ∙ ap (λ p. Some (pad 8 p, length head + 1 + length (y ∷ ys), Some (length head + 1)))
    (append_assoc head (0 ∷ []) (y ∷ ys))

-- eight pieces without `::` are the result
finish_eight : (xs : List ℕ) → length xs ≡ 8 → finish (pad 8 xs, 0 + length xs, None) ≡ Some xs
finish_eight xs eight =
    let sum : 0 + length xs ≡ 8 = omega arith in
    rw (sum, pad_full 8 xs eight)

-- the swaps put the zeros of `::` in their place
finish_moved : (head tail : List ℕ) → length head + length tail < 8
    → finish (pad 8 (head ++ 0 ∷ tail), length head + 1 + length tail, Some (length head + 1))
    ≡ Some (head ++ replicate (8 - length head - length tail) 0 ++ tail)
finish_moved head tail room =
    let swaps : length head + 1 + length tail - (length head + 1) ≡ length tail = omega arith in
    let zeros : 8 - length (head ++ 0 ∷ tail) ≡ 7 - length head - length tail =
    omega (arith, length-append head (0 ∷ tail)) in
    let padded : pad 8 (head ++ 0 ∷ tail) ≡ head ++ (0 ∷ tail) ++ replicate (7 - length head - length tail) 0 =
    pad_append 8 (head ++ 0 ∷ tail) (omega (arith, length-append head (0 ∷ tail)))
    ∙ ap (λ n. head ++ (0 ∷ tail) ++ replicate n 0) zeros in
    rw (swaps, padded, moved head tail room)

-- the parser on two sides of `::`
parsed_elided : (head tail head_text tail_text : List ℕ) → IsGroups false head_text head
    → IsGroups true tail_text tail → length head + length tail < 8
    → parse_ipv6 (head_text ++ (colon ∷ colon ∷ tail_text))
    ≡ Some (head ++ replicate (8 - length head - length tail) 0 ++ tail)
unfolding parse_ipv6
parsed_elided [] tail head_text tail_text none groups room =
    rw (none, after_mark (suc (suc (length tail_text))) [] tail tail_text groups room (omega arith))
    (finish_moved [] tail room)
parsed_elided (x ∷ xs) tail head_text tail_text head_groups tail_groups room =
    let text = head_text ++ (colon ∷ colon ∷ tail_text) in
    let head = x ∷ xs in
    let result : Parsed = Some (pad 8 (head ++ 0 ∷ tail), length head + 1 + length tail, Some (length head + 1)) in
    let from : (t : ℕ) → length (colon ∷ tail_text) ≤ t
    → main_loop t (pad 8 head) (0 + length head) None (colon ∷ tail_text) ≡ result =
    λ t enough. from_mark t enough in
    let looped =
    groups_then xs x head_text [] 0 None colon tail_text result (length text) head_groups refl (omega arith)
    (omega (arith, length-append head_text (colon ∷ colon ∷ tail_text))) from in
    rw (no_colon_first false head_text x xs (colon ∷ colon ∷ tail_text) head_groups, looped)
    (finish_moved head tail room)
  where
    from_mark : (t : ℕ) → length (colon ∷ tail_text) ≤ t
        → main_loop t (pad 8 (x ∷ xs)) (0 + length (x ∷ xs)) None (colon ∷ tail_text)
        ≡ Some (pad 8 ((x ∷ xs) ++ 0 ∷ tail), length (x ∷ xs) + 1 + length tail, Some (length (x ∷ xs) + 1))
    from_mark zero enough = absurd (omega arith)
    from_mark (suc t) enough =
        let zero_less : 0 + length (x ∷ xs) ≡ length (x ∷ xs) = omega arith in
        rw (zero_less, pad_zero 8 (x ∷ xs) (omega arith))
        (mark t (pad 8 ((x ∷ xs) ++ 0 ∷ [])) (length (x ∷ xs)) tail_text (omega arith)
        ∙ after_mark t (x ∷ xs) tail tail_text tail_groups room (omega arith))

-- the parser on eight pieces
parsed_whole : (x : ℕ) (xs text : List ℕ) → IsGroups true text (x ∷ xs) → length (x ∷ xs) ≡ 8
    → parse_ipv6 text ≡ Some (x ∷ xs)
unfolding parse_ipv6
parsed_whole x xs text groups eight =
    let first = rw append-nil at (no_colon_first true text x xs [] groups) in
    let looped = groups_end true xs x text [] 0 None (length text) groups refl (omega arith) (omega arith) in
    rw (first, looped) (finish_eight (x ∷ xs) eight)

-- the parser on a text of the library's grammar
colon_hex_parsed : (text pieces : List ℕ) → IsColonHex text pieces → parse_ipv6 text ≡ Some pieces
colon_hex_parsed text [] (inl (groups, eight)) = absurd (omega arith)
colon_hex_parsed text (x ∷ xs) (inl (groups, eight)) = parsed_whole x xs text groups eight
colon_hex_parsed text pieces (inr is) =
    let spelled : text ≡ is.head_text ++ (colon ∷ colon ∷ is.tail_text) = is.spelled
    ∙ append_assoc is.head_text (colon ∷ colon ∷ []) is.tail_text in
    rw (spelled, is.value)
    (parsed_elided is.head is.tail is.head_text is.tail_text is.head_groups is.tail_groups is.room)

-- an IPv6 text makes the parser give exactly its pieces
pub ipv6_parsed : (text pieces : List ℕ) → IsIpv6 text pieces → parse_ipv6 text ≡ Some pieces
ipv6_parsed text pieces is = colon_hex_parsed text pieces (colon_hex_from_ipv6 text pieces is)
