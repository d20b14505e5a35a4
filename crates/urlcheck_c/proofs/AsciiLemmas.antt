-- Bytes that are ASCII, lane by lane and load by load.
use Rattle.std.proofs.Common.{◌≡◌, ℕ, zero, suc, ◌+◌, ◌-◌, ◌^◌, ◌%◌, ◌<◌, ◌≤◌, ◌↔◌, Bool, true, false, cond, leb}
use Rattle.std.proofs.Common.{List, [], ◌∷◌, map, length, take, drop, replicate, refl, sym, ap, subst, ◌∙◌}
use Rattle.std.proofs.Common.{arith, leb-true, leb-false, take-append-drop, take_all}
use Rattle.std.proofs.lemmas.List.{drop-drop, length-drop, length-map, length-replicate}
use Rattle.std.proofs.lemmas.Simd.{length-zip2, mask_l-mod}
use Rattle.std.proofs.lemmas.Str.{IsAscii-append, IsAscii-drop}
use Rattle.std.specs.Str.{IsAscii}
use lib.Lanes.{mask_l, top, zip2}

-- ---- lanes

abbrev at_least : ℕ → ℕ → ℕ
at_least a b = cond (leb a b) 255 0

-- the bit of a byte is set where it is beyond ASCII
bit_of : (x : ℕ) → (◌≡◌ {A = ℕ} (cond (top 7 (at_least 128 x)) 1 0) 0) ↔ (x < 128)
bit_of x = go (leb 128 x) refl
  where
    go : (t : Bool) → leb 128 x ≡ t → (◌≡◌ {A = ℕ} (cond (top 7 (cond t 255 0)) 1 0) 0) ↔ (x < 128)
    go true e = (λ q. absurd (omega arith), λ low. absurd (omega (arith, leb-true _ _ e)))
    go false e = (λ q. leb-false _ _ e, λ low. refl)

bits_of : (xs : List ℕ) → (mask_l (map (top 7) (zip2 at_least (replicate (length xs) 128) xs)) ≡ 0) ↔ IsAscii xs
bits_of [] = (λ none i. omega arith, λ ascii. refl)
bits_of (x ∷ xs) =
    let first = bit_of x in
    let others = bits_of xs in (
      λ none. elim [ zero ↦ first.0 (omega arith) | suc i ↦ others.0 (omega arith) i ],
      λ ascii. omega (arith, first.1 (ascii 0), others.1 (λ i. ascii (suc i))),
    )

-- no bit of a load is set where its bytes are ASCII
pub bits_of_load : (n : ℕ) (xs : List ℕ) → length xs ≡ n → n ≤ 64
    → (mask_l (map (top 7) (zip2 at_least (replicate n 128) xs)) % 2 ^ 64 ≡ 0) ↔ IsAscii xs
bits_of_load n xs long few =
    let bits = bits_of xs in
    let same = ap (λ k. mask_l (map (top 7) (zip2 at_least (replicate k 128) xs))) long in
    let ms = map (top 7) (zip2 at_least (replicate n 128) xs) in
    let whole = mask_l-mod ms 64 (omega (
      arith,
      length-map (zip2 at_least (replicate n 128) xs) (top 7),
      length-zip2 at_least (replicate n 128) xs (length-replicate {A = ℕ} n 128 ∙ sym long),
      length-replicate {A = ℕ} n 128,
      few,
    )) in
    (λ none. bits.0 (same ∙ (sym whole ∙ none)), λ ascii. whole ∙ (sym same ∙ bits.1 ascii))

-- ---- loads

-- bytes are ASCII where the first of them are, and the last from a place among these on
pub ascii_joined : (n m : ℕ) (bytes : List ℕ) → m ≤ n → IsAscii (take n bytes) → IsAscii (drop m bytes)
    → IsAscii bytes
ascii_joined n m bytes within first last =
    let there : m + (n - m) ≡ n = omega arith in
    let after : IsAscii (drop n bytes) = subst (λ (l : List ℕ). IsAscii l)
    (drop-drop (n - m) m bytes ∙ ap (λ k. drop k bytes) there) (IsAscii-drop (drop m bytes) (n - m) last) in
    subst (λ (l : List ℕ). IsAscii l) (take-append-drop n bytes)
    (IsAscii-append (take n bytes) (drop n bytes) first after)

-- so are bytes of which the first and the last so many are, which are all
pub ascii_by_two : (n : ℕ) (bytes : List ℕ) → n ≤ length bytes → length bytes ≤ n + n → IsAscii (take n bytes)
    → IsAscii (take n (drop (length bytes - n) bytes)) → IsAscii bytes
ascii_by_two n bytes enough few first last =
    let start = length bytes - n in
    let long = length-drop start bytes in
    let whole : take n (drop start bytes) ≡ drop start bytes = take_all n (drop start bytes) (omega arith) in
    ascii_joined n start bytes (omega arith) first (subst (λ (l : List ℕ). IsAscii l) whole last)
