-- The texts of addresses and the grammar of addresses of the standard library are one.
use Rattle.std.proofs.Common.{◌≡◌, ℕ, ◌+◌, ◌*◌, ◌<◌, Bool, true, false, List, [], ◌∷◌, ◌++◌, length, codes, decimal}
use Rattle.std.proofs.Common.{lit<, refl, sym, ap, ◌∙◌, inl, inr, arith, append_assoc, append-nil}
use Rattle.std.specs.List.{list_all}
use Rattle.std.specs.Char.{is_ascii, is_ascii_hexdigit, digit_value}
use Rattle.std.specs.Str.{IsAscii}
use Rattle.std.specs.Str.Parse.{AllDigits}
use Rattle.std.specs.Net.Addr.{segments_of}
use Rattle.std.specs.Net.Grammar
use Rattle.std.specs.Net.Grammar.{IsDotted, IsGroupsAfter, IsGroups, IsElided, IsColonHex}
use Rattle.std.proofs.lemmas.Bool.{and_parts, ltb-true}
use Rattle.std.proofs.lemmas.Fmt.{IsAscii-decimal}
use Rattle.std.proofs.lemmas.Str.{IsAscii-append}
use Rattle.std.proofs.lemmas.Str.Ascii.{IsAscii-nil, IsAscii-cons}
use Rattle.uv_model.proofs.Texts.AsciiLemmas.{IsAscii-from_test}
use Rattle.std.proofs.lemmas.Bool.Decides.{nat_tests}
use Rattle.uv_model.specs.Ascii.{colon}
use Rattle.uv_model.specs.Hosts.Address.{IsFourNumbers, IsGroup, IsGroupList, IsSide, IsCompressed, IsIpv6}
use Rattle.uv_model.specs.Hosts.Address.{AreLibraryTexts}

-- ---- IPv4

-- four numbers are a dotted text
pub dotted_from_numbers : (a b c d : ℕ) (text : List ℕ) → IsFourNumbers a b c d text
    → IsDotted text (a ∷ b ∷ c ∷ d ∷ [])
dotted_from_numbers a b c d text is =
    record { a = a; b = b; c = c; d = d; fit = is.fit; value = refl; spelled = is.spelled }

-- a dotted text is four numbers
pub numbers_from_dotted : (text octets : List ℕ) (is : IsDotted text octets) → IsFourNumbers is.a is.b is.c is.d text
numbers_from_dotted text octets is = record { fit = is.fit; spelled = is.spelled }

-- a dotted text of these octets is these four numbers
numbers_again : (a b c d : ℕ) (text : List ℕ) → IsDotted text (a ∷ b ∷ c ∷ d ∷ []) → IsFourNumbers a b c d text
numbers_again a b c d text is =
    let value = is.value in
    let first : is.a ≡ a = cc in
    let second : is.b ≡ b = cc in
    let third : is.c ≡ c = cc in
    let fourth : is.d ≡ d = cc in
    rw (first, second, third, fourth) at (numbers_from_dotted text _ is)

-- ---- groups

-- a hex digit has a value below 16
digit_below : (c : ℕ) → is_ascii_hexdigit c ≡ true → digit_value c < 16
digit_below c h = grind (arith, nat_tests)

-- a code point of a value below 16 is a hex digit
pub hex_digit : (c : ℕ) → digit_value c < 16 → is_ascii_hexdigit c ≡ true
hex_digit c h = grind (arith, nat_tests)

-- hex digits are digits of radix 16
digits_below : (text : List ℕ) → list_all is_ascii_hexdigit text ≡ true → AllDigits 16 text
digits_below [] h = tt
digits_below (c ∷ text) h = let both =
    and_parts (is_ascii_hexdigit c) (list_all is_ascii_hexdigit text) h in
    (digit_below c both.0, digits_below text both.1)

-- digits of radix 16 are hex digits
hex_digits : (text : List ℕ) → AllDigits 16 text → list_all is_ascii_hexdigit text ≡ true
hex_digits [] h = refl
hex_digits (c ∷ text) h = rw (hex_digit c h.0, hex_digits text h.1) refl

-- a group is a group of the library
pub group_to : (text : List ℕ) (piece : ℕ) → IsGroup text piece → Grammar.IsGroup text piece
group_to text piece is = (((is.some, digits_below text is.digits), sym is.value), is.few)

-- and a group of the library is one
group_from : (text : List ℕ) (piece : ℕ) → Grammar.IsGroup text piece → IsGroup text piece
group_from text piece is =
    record { digits = hex_digits text is.0.0.1; some = is.0.0.0; few = is.1; value = sym is.0.1 }

-- ---- lists of groups

-- a list of groups, after any lead
groups_to : (dotted : Bool) (lead text pieces : List ℕ) → IsGroupList dotted text pieces
    → IsGroupsAfter dotted lead (lead ++ text) pieces
groups_to dotted lead text [] h = absurd h
groups_to dotted lead text (p ∷ []) h = inl (text, [], sym (append-nil (lead ++ text)), group_to text p h, refl)
groups_to dotted lead text (p ∷ q ∷ rest) (inl (group, others, split, is, more)) =
    inl (
      group,
      colon ∷ others,
      ap (λ t. lead ++ t) split
          ∙ sym (append_assoc lead group (colon ∷ others)),
      group_to group p is,
      groups_to dotted (codes ":") others
          (q ∷ rest) more,
    )
groups_to dotted lead text (p ∷ q ∷ rest) (inr (allowed, none, (a, b, c, d, is, first, second))) =
    inr (text, a ∷ b ∷ c ∷ d ∷ [], allowed, refl, dotted_from_numbers a b c d text is, rw (first, second, none) refl)

-- what the library reads after a lead is a list of groups
groups_from : (dotted : Bool) (lead text : List ℕ) (p : ℕ) (rest : List ℕ) → IsGroupsAfter dotted lead text (p ∷ rest)
    → (inner : List ℕ) × (text ≡ lead ++ inner) × IsGroupList dotted inner (p ∷ rest)
groups_from dotted lead text p [] (inl (group, others, split, is, none)) =
    (group, split ∙ ap (λ t. lead ++ group ++ t) none ∙ append-nil (lead ++ group), group_from group p is)
groups_from dotted lead text p (q ∷ rest) (inl (group, others, split, is, more)) =
    let (inner, after, list) = groups_from dotted (codes ":") others q rest more in (
      group ++ colon ∷ inner,
      split ∙ ap (λ t. lead ++ group ++ t) after
          ∙ append_assoc lead group (colon ∷ inner),
      inl (group, inner, refl, group_from group p is, list),
    )
groups_from dotted lead text p [] (inr (last, octets, allowed, split, is, value)) =
    absurd (omega (arith, ap length (value ∙ ap segments_of is.value)))
groups_from dotted lead text p (q ∷ rest) (inr (last, octets, allowed, split, is, value)) =
    let same : p ∷ q ∷ rest ≡ (is.a * 256 + is.b) ∷ (is.c * 256 + is.d) ∷ [] = value ∙ ap segments_of is.value in
    (last, split, inr (allowed, cc, (is.a, is.b, is.c, is.d, numbers_from_dotted last octets is, cc, cc)))

-- a side of `::`
side_to : (dotted : Bool) (text pieces : List ℕ) → IsSide dotted text pieces → IsGroups dotted text pieces
side_to dotted text pieces (inl (nothing, none)) = rw none nothing
side_to dotted text pieces (inr list) = groups_to dotted [] text pieces list

-- and back
side_from : (dotted : Bool) (text pieces : List ℕ) → IsGroups dotted text pieces → IsSide dotted text pieces
side_from dotted text [] nothing = inl (nothing, refl)
side_from dotted text (p ∷ rest) groups = let (inner, same, list) =
    groups_from dotted [] text p rest groups in inr (rw same list)

-- ---- the whole text

-- a text around `::` is one of the library
compressed_to : (text pieces : List ℕ) → IsCompressed text pieces → IsElided text pieces
compressed_to text pieces is = record {
  head_text = is.left_text;
  tail_text = is.right_text;
  head = is.left;
  tail = is.right;
  spelled = is.spelled;
  head_groups = side_to false is.left_text is.left is.left_groups;
  tail_groups = side_to true is.right_text is.right is.right_groups;
  room = is.room;
  value = is.value;
}

-- and back
compressed_from : (text pieces : List ℕ) → IsElided text pieces → IsCompressed text pieces
compressed_from text pieces is = record {
  left_text = is.head_text;
  right_text = is.tail_text;
  left = is.head;
  right = is.tail;
  spelled = is.spelled;
  left_groups = side_from false is.head_text is.head is.head_groups;
  right_groups = side_from true is.tail_text is.tail is.tail_groups;
  room = is.room;
  value = is.value;
}

-- an IPv6 text is one of the library
pub colon_hex_from_ipv6 : (text pieces : List ℕ) → IsIpv6 text pieces → IsColonHex text pieces
colon_hex_from_ipv6 text pieces (inl (list, eight)) = inl (groups_to true [] text pieces list, eight)
colon_hex_from_ipv6 text pieces (inr is) = inr (compressed_to text pieces is)

-- and one of the library is an IPv6 text
pub ipv6_from_colon_hex : (text pieces : List ℕ) → IsColonHex text pieces → IsIpv6 text pieces
ipv6_from_colon_hex text [] (inl (groups, eight)) = absurd (omega arith)
ipv6_from_colon_hex text (p ∷ rest) (inl (groups, eight)) =
    let (inner, same, list) = groups_from true [] text p rest groups in inl (rw same list, eight)
ipv6_from_colon_hex text pieces (inr is) = inr (compressed_from text pieces is)

-- the tie in both directions
pub library_texts : AreLibraryTexts
library_texts = record {
  numbers = λ a b c d text. (dotted_from_numbers a b c d text, numbers_again a b c d text);
  pieces = λ text pieces. (colon_hex_from_ipv6 text pieces, ipv6_from_colon_hex text pieces);
}

-- ---- their code points are ASCII

-- a number of an IPv4 text is ASCII
ascii_decimal : (n : ℕ) → n < 256 → IsAscii (decimal n)
ascii_decimal n small = IsAscii-decimal n (omega arith)

-- so is the full stop
dot : IsAscii (codes ".")
dot = IsAscii-from_test (codes ".") refl

-- four numbers and full stops are ASCII
pub numbers_ascii : (a b c d : ℕ) (text : List ℕ) → IsFourNumbers a b c d text → IsAscii text
numbers_ascii a b c d text is =
    let one = ascii_decimal a is.fit.0 in
    let two = IsAscii-append _ _ (IsAscii-append _ _ one dot) (ascii_decimal b is.fit.1) in
    let three = IsAscii-append _ _ (IsAscii-append _ _ two dot) (ascii_decimal c is.fit.2) in
    rw is.spelled (IsAscii-append _ _ (IsAscii-append _ _ three dot) (ascii_decimal d is.fit.3))

-- a hex digit is ASCII
hex_ascii : (c : ℕ) → is_ascii_hexdigit c ≡ true → is_ascii c ≡ true
hex_ascii c h = grind (arith, nat_tests)

-- hex digits are ASCII
digits_ascii : (text : List ℕ) → list_all is_ascii_hexdigit text ≡ true → IsAscii text
digits_ascii [] h = IsAscii-nil
digits_ascii (c ∷ text) h =
    let both = and_parts (is_ascii_hexdigit c) (list_all is_ascii_hexdigit text) h in
    IsAscii-cons c text (ltb-true c 128 (hex_ascii c both.0)) (digits_ascii text both.1)

-- a list of groups is ASCII
groups_ascii : (dotted : Bool) (text pieces : List ℕ) → IsGroupList dotted text pieces → IsAscii text
groups_ascii dotted text [] h = absurd h
groups_ascii dotted text (p ∷ []) h = digits_ascii text h.digits
groups_ascii dotted text (p ∷ q ∷ rest) (inl (group, others, split, is, more)) =
    rw split
    (IsAscii-append _ _ (digits_ascii group is.digits)
    (IsAscii-cons colon others (lit< tt) (groups_ascii dotted others (q ∷ rest) more)))
groups_ascii dotted text (p ∷ q ∷ rest) (inr (allowed, none, (a, b, c, d, is, first, second))) =
    numbers_ascii a b c d text is

-- so is a side of `::`
side_ascii : (dotted : Bool) (text pieces : List ℕ) → IsSide dotted text pieces → IsAscii text
side_ascii dotted text pieces (inl (nothing, none)) = rw nothing IsAscii-nil
side_ascii dotted text pieces (inr list) = groups_ascii dotted text pieces list

-- an IPv6 text is ASCII
pub ipv6_ascii : (text pieces : List ℕ) → IsIpv6 text pieces → IsAscii text
ipv6_ascii text pieces (inl (list, eight)) = groups_ascii true text pieces list
ipv6_ascii text pieces (inr is) =
    rw is.spelled
    (IsAscii-append _ _
    (IsAscii-append _ _ (side_ascii false is.left_text is.left is.left_groups) (IsAscii-from_test (codes "::") refl))
    (side_ascii true is.right_text is.right is.right_groups))
