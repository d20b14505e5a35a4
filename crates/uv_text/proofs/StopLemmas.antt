-- The first of bytes that fails a test, by bits of those that fail and one after the last of them.
use Rattle.std.proofs.Common.{◌≡◌, ℕ, zero, suc, ◌+◌, ◌-◌, ◌*◌, ◌/◌, ◌^◌, ◌<◌, ◌≤◌, Bool, true, false, List, [], ◌∷◌}
use Rattle.std.proofs.Common.{◌++◌, length, map, drop, cond, not, bit_or, w64, refl, sym, ap, ◌∙◌, arith}
use Rattle.std.specs.Int.{trailing_zeros}
use Rattle.std.specs.List.{prefix_len, drop-map}
use Rattle.std.specs.Simd.Lanes.{mask_l}
use Rattle.std.proofs.lemmas.Grind.{or_numeral}
use Rattle.std.proofs.lemmas.List.{length-append, length-drop, length-map}
use Rattle.std.proofs.lemmas.Nat.{pow_pos}
use Rattle.std.proofs.lemmas.Simd.{trailing_mask_l}
use Rattle.uv_text.proofs.MaskLemmas.{mask-drop, mask-small}

-- the bits with one after the last
abbrev ended : List Bool → List Bool
ended ms = ms ++ true ∷ []

-- what it adds
ended-adds : (ms : List Bool) → mask_l (ended ms) ≡ mask_l ms + 2 ^ length ms
ended-adds [] = omega arith
ended-adds (m ∷ ms) =
    let twice : 2 * 2 ^ length ms ≡ 2 ^ suc (length ms) = omega arith in
    let rest = ended-adds ms in
    omega arith

-- it stays after what is dropped
ended-drop : (k : ℕ) (ms : List Bool) → k ≤ length ms → drop k (ended ms) ≡ ended (drop k ms)
ended-drop zero ms within = refl
ended-drop (suc k) [] within = absurd (omega arith)
ended-drop (suc k) (m ∷ ms) within = ended-drop k ms (omega arith)

-- a list of its own elements
same : (ms : List Bool) → map (λ m. m) ms ≡ ms
same [] = refl
same (m ∷ ms) = ap (λ l. m ∷ l) (same ms)

-- the lowest bit that is set
lowest : (ms : List Bool) → length ms < 64 → trailing_zeros w64 (mask_l (ended ms)) ≡ prefix_len not (ended ms)
lowest ms few =
    let long = length-append ms (true ∷ []) in
    let some = ended-adds ms in
    let above = pow_pos (length ms) in
    let bits = ap mask_l (same (ended ms)) in
    ap (trailing_zeros w64) (sym bits) ∙ trailing_mask_l (λ m. m) 64 (ended ms) (omega arith) (omega arith)

-- is the bit of the first that fails, or the end
stop-length : (p : ℕ → Bool) (xs : List ℕ) → prefix_len not (ended (map (λ x. not (p x)) xs)) ≡ prefix_len p xs
stop-length p [] = refl
stop-length p (x ∷ xs) = passed (p x) (stop-length p xs)
  where
    passed : {m n : ℕ} (b : Bool) → m ≡ n → cond (not (not b)) (1 + m) 0 ≡ cond b (1 + n) 0
    passed true even = ap (λ n. 1 + n) even
    passed false even = refl

-- the lowest bit among the bits of 32 bytes that fail and of the end, after the first so many, is the longest prefix
-- there
pub first-stop : (p : ℕ → Bool) (k : ℕ) (xs : List ℕ) → length xs ≡ 32 → k ≤ 32
    → trailing_zeros w64 (bit_or (mask_l (map (λ x. not (p x)) xs)) (2 ^ 32) / 2 ^ k) ≡ prefix_len p (drop k xs)
first-stop p k xs long within =
    let fails : ℕ → Bool = λ x. not (p x) in
    let ms = map fails xs in
    let all : length ms ≡ 32 = length-map xs fails ∙ long in
    let small = mask-small fails xs (omega arith) in
    let joined : bit_or (mask_l ms) (2 ^ 32) ≡ 2 ^ 32 + mask_l ms = or_numeral (mask_l ms) (2 ^ 32 - 1) refl small in
    let end : mask_l (ended ms) ≡ mask_l ms + 2 ^ 32 = rw all at (ended-adds ms) in
    let whole : bit_or (mask_l ms) (2 ^ 32) ≡ mask_l (ended ms) = omega arith in
    let after : mask_l (ended ms) / 2 ^ k ≡ mask_l (ended (map fails (drop k xs))) =
    sym (mask-drop k (ended ms)) ∙ ap mask_l (ended-drop k ms (omega arith) ∙ ap ended (drop-map fails k xs)) in
    let few : length (map fails (drop k xs)) < 64 =
    omega (arith, length-map (drop k xs) fails, length-drop k xs) in
    ap (λ n. trailing_zeros w64 (n / 2 ^ k)) whole
    ∙ ap (trailing_zeros w64) after
    ∙ lowest (map fails (drop k xs)) few
    ∙ stop-length p (drop k xs)

-- a byte more of two prefixes
further : (a b : Bool) (m n k l : ℕ) → cond a 1 0 + 2 * m ≡ cond b 1 0 + 2 * n → (m ≡ n → k ≡ l)
    → cond a (1 + k) 0 ≡ cond b (1 + l) 0
further true true m n k l even rest = ap (λ j. 1 + j) (rest (omega (arith, even)))
further true false m n k l even rest = absurd (omega (arith, even))
further false true m n k l even rest = absurd (omega (arith, even))
further false false m n k l even rest = refl

-- bytes of the same bits have the same longest prefix
pub same-prefix : (p : ℕ → Bool) (xs ys : List ℕ) → mask_l (map p xs) ≡ mask_l (map p ys)
    → prefix_len p xs ≡ prefix_len p ys
same-prefix p [] [] even = refl
same-prefix p [] (y ∷ ys) even =
    further false (p y) 0 (mask_l (map p ys)) 0 (prefix_len p ys) even (same-prefix p [] ys)
same-prefix p (x ∷ xs) [] even =
    further (p x) false (mask_l (map p xs)) 0 (prefix_len p xs) 0 even (same-prefix p xs [])
same-prefix p (x ∷ xs) (y ∷ ys) even =
    further (p x) (p y) (mask_l (map p xs)) (mask_l (map p ys)) (prefix_len p xs) (prefix_len p ys) even
    (same-prefix p xs ys)

-- a byte more without a stop
clear_on : (b : Bool) (m n k : ℕ) → (m ≡ 0 → n ≡ k) → cond (not b) 1 0 + 2 * m ≡ 0 → cond b (1 + n) 0 ≡ suc k
clear_on true m n k rest clear = omega (arith, rest (omega (arith, clear)))
clear_on false m n k rest clear = absurd (omega (arith, clear))

-- bytes without a stop all pass
pub no_stop : (p : ℕ → Bool) (xs : List ℕ) → mask_l (map (λ x. not (p x)) xs) ≡ 0 → prefix_len p xs ≡ length xs
no_stop p [] clear = refl
no_stop p (x ∷ xs) clear =
    clear_on (p x) (mask_l (map (λ y. not (p y)) xs)) (prefix_len p xs) (length xs) (no_stop p xs) clear

-- a byte more that passes
passing_on : (b : Bool) (m n k : ℕ) → (n ≡ k → m ≡ 0) → cond b (1 + n) 0 ≡ suc k → cond (not b) 1 0 + 2 * m ≡ 0
passing_on true m n k rest whole = omega (arith, rest (omega (arith, whole)))
passing_on false m n k rest whole = absurd (omega (arith, whole))

-- and bytes that all pass have none
pub all_pass : (p : ℕ → Bool) (xs : List ℕ) → prefix_len p xs ≡ length xs → mask_l (map (λ x. not (p x)) xs) ≡ 0
all_pass p [] whole = refl
all_pass p (x ∷ xs) whole =
    passing_on (p x) (mask_l (map (λ y. not (p y)) xs)) (prefix_len p xs) (length xs) (all_pass p xs) whole
