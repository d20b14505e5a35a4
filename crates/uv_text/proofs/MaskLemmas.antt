-- Bits of bytes that pass a test, the first byte's the lowest.
use Rattle.std.proofs.Common.{◌≡◌, ◌≢◌, ℕ, zero, suc, ◌+◌, ◌*◌, ◌/◌, ◌^◌, ◌<◌, ◌≤◌, Bool, true, false, List, [], ◌∷◌}
use Rattle.std.proofs.Common.{◌++◌, length, map, get_or, take, take_all, drop, replicate, cond, add-zero, refl}
use Rattle.std.proofs.Common.{sym, ap, ◌∙◌, inl, inr, arith}
use Rattle.std.proofs.Math.Nat.{div-div-eq-div-mul, zero-div}
use Rattle.std.proofs.Math.ListN.{get_or-eq_default}
use Rattle.std.specs.Simd.Lanes.{mask_l}
use Rattle.std.proofs.lemmas.Bool.{cases_eq, cases_lt, false≢true}
use Rattle.std.proofs.lemmas.List.{drop-drop, get_or-map, length-drop, length-map}
use Rattle.std.proofs.lemmas.Simd.{bit_mask_l, mask_l-mod}
use Rattle.std.specs.Int.{bit_at}

-- no byte of what fills a load up passes
mask-none : (p : ℕ → Bool) (x n k : ℕ) → p x ≡ false → mask_l (map p (drop k (replicate n x))) ≡ 0
mask-none p x zero zero refused = refl
mask-none p x zero (suc k) refused = refl
mask-none p x (suc n) zero refused = rw refused (omega (arith, mask-none p x n zero refused))
mask-none p x (suc n) (suc k) refused = mask-none p x n k refused

-- what fills a load up adds no bit
pub mask-filled : (p : ℕ → Bool) (x n k : ℕ) (bytes : List ℕ) → p x ≡ false
    → mask_l (map p (bytes ++ drop k (replicate n x))) ≡ mask_l (map p bytes)
mask-filled p x n k [] refused = mask-none p x n k refused
mask-filled p x n k (b ∷ bytes) refused = ap (λ m. cond (p b) 1 0 + 2 * m) (mask-filled p x n k bytes refused)

-- ---- a shift

-- a bit less is a half less
half : (m : Bool) (x : ℕ) → (cond m 1 0 + 2 * x) / 2 ≡ x
half true x = omega arith
half false x = omega arith

-- the bits after the first so many, which a shift brings to the prefix
pub mask-drop : (k : ℕ) (ms : List Bool) → mask_l (drop k ms) ≡ mask_l ms / 2 ^ k
mask-drop zero ms = omega arith
mask-drop (suc k) [] = sym (zero-div (2 ^ suc k))
mask-drop (suc k) (m ∷ ms) =
    let two : 2 * 2 ^ k ≡ 2 ^ suc k = omega arith in
    mask-drop k ms ∙ ap (λ n. n / 2 ^ k) (sym (half m (mask_l ms)))
    ∙ (div-div-eq-div-mul (cond m 1 0 + 2 * mask_l ms) 2 (2 ^ k) ∙ ap (λ n. (cond m 1 0 + 2 * mask_l ms) / n) two)

-- what 32 bytes have after their first so many, if no more than these 32 are left or none is passed over
pub taken-after : (start k : ℕ) (xs : List ℕ) → (k ≢ 0 → length xs ≤ start + 32)
    → drop k (take 32 (drop start xs)) ≡ take 32 (drop (start + k) xs)
taken-after start k xs last = elim (cases_eq k 0) [
  | inl none ↦ rw none (ap (λ n. take 32 (drop n xs)) (sym (add-zero start)))
  | inr some ↦
      let all = last some in
      let here = length-drop start xs in
      let there = length-drop (start + k) xs in
      ap (drop k) (take_all 32 (drop start xs) (omega arith))
      ∙ (drop-drop k start xs ∙ sym (take_all 32 (drop (start + k) xs) (omega arith)))
]

-- ---- the first bit that isn't set

-- a bit is set where its byte is there and passes
pub bit-set : (p : ℕ → Bool) (xs : List ℕ) (i : ℕ) → bit_at (mask_l (map p xs)) i ≡ 1
    → (i < length xs) × (p (get_or xs i 0) ≡ true)
bit-set p xs i set =
    let bit = sym (bit_mask_l (map p xs) i) ∙ set in
    let passes : get_or (map p xs) i false ≡ true = is_true (get_or (map p xs) i false) bit in
    elim (cases_lt i (length xs)) [
      | inl here ↦ (here, sym (get_or-map p xs i 0 false here) ∙ passes)
      | inr after ↦
          let long = length-map xs p in
          absurd (false≢true (sym (get_or-eq_default (map p xs) false (omega arith)) ∙ passes))
    ]
  where
    is_true : (m : Bool) → cond {A = ℕ} m 1 0 ≡ 1 → m ≡ true
    is_true true one = refl
    is_true false one = absurd (omega (arith, one))

-- bits of at most 32 bytes
pub mask-small : (p : ℕ → Bool) (xs : List ℕ) → length xs ≤ 32 → mask_l (map p xs) < 2 ^ 32
mask-small p xs few =
    let long = length-map xs p in
    let same = mask_l-mod (map p xs) 32 (omega arith) in
    omega arith
