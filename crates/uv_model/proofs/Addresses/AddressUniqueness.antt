-- A text denotes one address at most.
use Rattle.std.proofs.Common.{◌≡◌, ℕ, ◌<◌, true, false, ◌==◌, List, [], ◌∷◌, ◌++◌, length, codes, decimal, refl, sym}
use Rattle.std.proofs.Common.{ap, ◌∙◌, arith, lit≤, append_assoc}
use Rattle.std.specs.Char.{digit_value}
use Rattle.std.specs.Str.Parse.{AllDigits}
use Rattle.std.proofs.lemmas.Bool.Decides.{nat_tests}
use Rattle.std.proofs.lemmas.Fmt.{decimal_is_IsNumeral}
use Rattle.std.proofs.lemmas.List.{append_cancel_right}
use Rattle.std.proofs.NetLemmas.Ipv4.{read_ipv4_complete}
use Rattle.std.proofs.NetLemmas.Ipv6.{read_ipv6_complete, EndsGroups-nil}
use Rattle.std.proofs.NetLemmas.Options.{same_parts}
use Rattle.uv_model.specs.Ascii.{left_bracket, right_bracket}
use Rattle.uv_model.specs.Hosts.Address.{address_of, IsIpv4, IsIpv6, IsBracketedIpv6}
use Rattle.uv_model.specs.Hosts.OpaqueHost.{starts_with_bracket}
use Rattle.uv_model.proofs.Addresses.AddressLemmas.{dotted_from_numbers, colon_hex_from_ipv6}

-- an IPv4 text has one value, which the library's reader gives
pub ipv4_unique : (text : List ℕ) (value other : ℕ) → IsIpv4 text value → IsIpv4 text other → value ≡ other
ipv4_unique text value other (a, b, c, d, is, e) (a', b', c', d', is', e') =
    let first = read_ipv4_complete text _ [] (dotted_from_numbers a b c d text is) (lit≤ tt) in
    let second = read_ipv4_complete text _ [] (dotted_from_numbers a' b' c' d' text is') (lit≤ tt) in
    let same = (same_parts _ _ _ _ (sym first ∙ second)).0 in
    e ∙ ap value_of same ∙ sym e'
  where
    value_of : List ℕ → ℕ
    value_of (p ∷ q ∷ r ∷ s ∷ []) = address_of p q r s
    value_of _ = 0

-- an IPv6 text has one list of pieces, which the library's reader gives
pub ipv6_unique : (text pieces other : List ℕ) → IsIpv6 text pieces → IsIpv6 text other → pieces ≡ other
ipv6_unique text pieces other is is' =
    let first = read_ipv6_complete text pieces [] (colon_hex_from_ipv6 text pieces is) EndsGroups-nil in
    let second = read_ipv6_complete text other [] (colon_hex_from_ipv6 text other is') EndsGroups-nil in
    (same_parts _ _ _ _ (sym first ∙ second)).0

-- so has one in brackets
pub bracketed_unique : (text pieces other : List ℕ) → IsBracketedIpv6 text pieces → IsBracketedIpv6 text other
    → pieces ≡ other
bracketed_unique text pieces other (inner, spelled, is) (inner', spelled', is') =
    let after : inner ++ right_bracket ∷ [] ≡ inner' ++ right_bracket ∷ [] = cc in
    let same : inner ≡ inner' = append_cancel_right inner inner' (right_bracket ∷ []) after in
    ipv6_unique inner' pieces other (rw same at is) is'

-- digits don't begin with a bracket
digits_no_bracket : (digits rest : List ℕ) → AllDigits 10 digits → 0 < length digits
    → starts_with_bracket (digits ++ rest) ≡ false
digits_no_bracket [] rest all some = absurd (omega arith)
digits_no_bracket (d ∷ digits) rest all some = no_bracket d all.0
  where
    no_bracket : (d : ℕ) → digit_value d < 10 → (d == left_bracket) ≡ false
    no_bracket d h = grind (arith, nat_tests)

-- an IPv4 text doesn't begin with a bracket
pub ipv4_no_bracket : (text : List ℕ) (value : ℕ) → IsIpv4 text value → starts_with_bracket text ≡ false
ipv4_no_bracket text value (a, b, c, d, is, e) =
    let (numeral, number) = decimal_is_IsNumeral a (omega (arith, is.fit.0)) in
    let after = codes "." ++ (decimal b ++ (codes "." ++ (decimal c ++ (codes "." ++ decimal d)))) in
    let shown : text ≡ decimal a ++ after = is.spelled ∙ simp append_assoc in
    rw shown (digits_no_bracket (decimal a) after numeral.1 numeral.0)

-- a bracketed text does
pub bracketed_bracket : (text pieces : List ℕ) → IsBracketedIpv6 text pieces → starts_with_bracket text ≡ true
bracketed_bracket text pieces (inner, spelled, is) = rw spelled refl
