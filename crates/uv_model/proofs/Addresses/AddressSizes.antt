-- The address of an IPv4 text has 32 bits, and the address of an IPv6 text eight pieces of 16 bits.
use Rattle.std.proofs.Common.{ℕ, zero, suc, ◌-◌, ◌^◌, ◌<◌, ◌≤◌, Bool, true, false, List, [], ◌∷◌, ◌++◌, length}
use Rattle.std.proofs.Common.{replicate, inl, inr, arith, length-append}
use Rattle.std.specs.Prelude.{slice_index}
use Rattle.std.proofs.lemmas.Int.Digits.{digits_value-lt}
use Rattle.std.proofs.lemmas.List.{length-replicate}
use Rattle.uv_model.specs.declared.host.Host.TheVariants as host
use Rattle.uv_model.specs.Hosts.Address.{IsAddress, IsBracketedIpv6, IsGroup, IsGroupList, IsIpv4, IsIpv6, IsSide}
use Rattle.uv_model.proofs.Addresses.AddressLemmas.{group_to}

-- an IPv4 text has a value of 32 bits
pub ipv4_small : (text : List ℕ) (value : ℕ) → IsIpv4 text value → value < 2 ^ 32
ipv4_small text value (a, b, c, d, is, e) = omega (arith, is.fit.0, is.fit.1, is.fit.2, is.fit.3, e)

-- each piece has 16 bits
record AreSmall (pieces : List ℕ) : Type 0 where
  each : (k : ℕ) → slice_index pieces k < 2 ^ 16

-- no piece
small_nil : AreSmall []
small_nil = record { each = λ k. omega arith }

-- one piece more
small_cons : (p : ℕ) (pieces : List ℕ) → p < 2 ^ 16 → AreSmall pieces → AreSmall (p ∷ pieces)
small_cons p pieces first rest = record { each = at }
  where
    at : (k : ℕ) → slice_index (p ∷ pieces) k < 2 ^ 16
    at zero = first
    at (suc k) = rest.each k

-- two lists in a row
small_append : (xs ys : List ℕ) → AreSmall xs → AreSmall ys → AreSmall (xs ++ ys)
small_append [] ys first second = second
small_append (x ∷ xs) ys first second =
    small_cons x (xs ++ ys) (first.each 0) (small_append xs ys (record { each = λ k. first.each (suc k) }) second)

-- zeros
small_zeros : (n : ℕ) → AreSmall (replicate n 0)
small_zeros zero = small_nil
small_zeros (suc n) = small_cons 0 (replicate n 0) (omega arith) (small_zeros n)

-- four hex digits at most write 16 bits
sixteen_to : (n : ℕ) → n ≤ 4 → 16 ^ n ≤ 2 ^ 16
sixteen_to zero few = omega arith
sixteen_to (suc zero) few = omega arith
sixteen_to (suc (suc zero)) few = omega arith
sixteen_to (suc (suc (suc zero))) few = omega arith
sixteen_to (suc (suc (suc (suc zero)))) few = omega arith
sixteen_to (suc (suc (suc (suc (suc n))))) few = absurd (omega (arith, few))

-- a group writes a number of 16 bits
group_small : (text : List ℕ) (piece : ℕ) → IsGroup text piece → piece < 2 ^ 16
group_small text piece is =
    let below = digits_value-lt 16 text (group_to text piece is).0.0.1 in
    omega (arith, below, sixteen_to (length text) is.few, is.value)

-- the pieces of a list of groups
groups_small : (dotted : Bool) (text pieces : List ℕ) → IsGroupList dotted text pieces → AreSmall pieces
groups_small dotted text [] is = absurd is
groups_small dotted text (p ∷ []) is = small_cons p [] (group_small text p is) small_nil
groups_small dotted text (p ∷ q ∷ rest) (inl (group, others, split, is, more)) =
    small_cons p (q ∷ rest) (group_small group p is) (groups_small dotted others (q ∷ rest) more)
groups_small dotted text (p ∷ q ∷ rest) (inr (allowed, none, (a, b, c, d, is, first, second))) =
    rw none
    (small_cons p (q ∷ []) (omega (arith, is.fit.0, is.fit.1, first))
    (small_cons q [] (omega (arith, is.fit.2, is.fit.3, second)) small_nil))

-- and of a side of `::`
side_small : (dotted : Bool) (text pieces : List ℕ) → IsSide dotted text pieces → AreSmall pieces
side_small dotted text pieces (inl (nothing, none)) = rw none small_nil
side_small dotted text pieces (inr list) = groups_small dotted text pieces list

-- an IPv6 text has eight pieces of 16 bits
pub ipv6_small : (text pieces : List ℕ) → IsIpv6 text pieces → IsAddress (host.V6 pieces)
ipv6_small text pieces (inl (list, eight)) = (eight, (groups_small true text pieces list).each)
ipv6_small text pieces (inr is) =
    let left = side_small false is.left_text is.left is.left_groups in
    let right = side_small true is.right_text is.right is.right_groups in
    let zeros = small_zeros (8 - length is.left - length is.right) in
    rw is.value (
      simp (length-append, length-replicate) (omega (arith, is.room)),
      (small_append (is.left ++ replicate (8 - length is.left - length is.right) 0) is.right
          (small_append is.left (replicate (8 - length is.left - length is.right) 0) left zeros) right).each,
    )

-- and so has one in brackets
pub bracketed_small : (text pieces : List ℕ) → IsBracketedIpv6 text pieces → IsAddress (host.V6 pieces)
bracketed_small text pieces (inner, spelled, is) = ipv6_small inner pieces is
