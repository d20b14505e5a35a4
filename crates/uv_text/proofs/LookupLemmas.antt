-- Look-ups by the halves of bytes, lane by lane.
use Rattle.std.proofs.Common.{◌≡◌, ◌≢◌, ℕ, zero, suc, Bool, inl, inr, ◌+◌, ◌*◌, ◌/◌, ◌^◌, ◌%◌, ◌<◌, ◌≤◌, cond}
use Rattle.std.proofs.Common.{[], ◌∷◌, List, length, map, get_or, take, take_all, drop, ◌++◌, replicate, bit_and, refl}
use Rattle.std.proofs.Common.{sym, ap, ◌∙◌, arith, w8, Fits}
use Rattle.std.proofs.lemmas.List.{drop-take, get_or-map, length-map, length-take, ext_get_or, take-take}
use Rattle.std.proofs.lemmas.List.Sums.{prefix_len-le-length}
use Rattle.std.proofs.lemmas.Nat.{and_le_r}
use Rattle.std.proofs.lemmas.Simd.{Each1-all, Each1-weaker, Each1-zip2, Each2-splat, Each1-get_or, below_from_Fits}
use Rattle.std.proofs.lemmas.Simd.{length-zip2, swz_l, SwzOk, SwzOk-from_below, length-swz_l, get_or-swz_l_below}
use Rattle.std.proofs.lemmas.Simd.{bitmask_splat, map-map}
use Rattle.std.specs.List.{prefix_len}
use Rattle.std.proofs.lemmas.Bool.{cases_Bool, cases_lt}
use lib.Lanes.{zip2, Each1, mask_l, top}
use Rattle.std.specs.Prelude.{slice_index}
use Rattle.uv_text.specs.Rows.{StandsTwice}

-- 32 bytes
abbrev pub IsBlock : List ℕ → Type 0
IsBlock v = (length v ≡ 32) × Each1 (Fits w8) v

-- a shift to the right
abbrev pub down : ℕ → ℕ → ℕ
down a b = a / 2 ^ b

-- a lane is a byte
lane_fits : (v : List ℕ) (i : ℕ) → i < length v → Each1 (Fits w8) v → get_or v i 0 < 256
lane_fits v i lt fits = Each1-get_or (λ a. a < 256) v i 0 lt (below_from_Fits w8 v fits)

-- the high halves are places in a table of sixteen
pub high_ok : (v : List ℕ) → IsBlock v → SwzOk w8 16 32 0 (zip2 down v (replicate 32 4))
high_ok v fits =
    let small = Each1-weaker (λ a. a < 256) (λ a. a / 16 < 16) (λ a h. omega arith) v (below_from_Fits w8 v fits.1) in
    SwzOk-from_below w8 16 2 32 0 (zip2 down v (replicate 32 4)) refl
    (omega (arith, length-zip2 down v (replicate 32 4) fits.0))
    (Each1-zip2 down (λ j. j < 16) v (replicate 32 4) (Each2-splat (λ a b. down a b < 16) v 32 4 small))

-- and so are the low halves
pub low_ok : (v : List ℕ) → IsBlock v → SwzOk w8 16 32 0 (zip2 bit_and v (replicate 32 15))
low_ok v fits =
    let small = Each1-all (λ a. bit_and a 15 < 16) (λ a. omega (arith, and_le_r a 15)) v in
    SwzOk-from_below w8 16 2 32 0 (zip2 bit_and v (replicate 32 15)) refl
    (omega (arith, length-zip2 bit_and v (replicate 32 15) fits.0))
    (Each1-zip2 bit_and (λ j. j < 16) v (replicate 32 15) (Each2-splat (λ a b. bit_and a b < 16) v 32 15 small))

-- a table of sixteen that is twice, read at places below 16
pub looked_up : (table lanes : List ℕ) (g : ℕ → ℕ) (v js : List ℕ) → StandsTwice table lanes → IsBlock v → js ≡ map g v
    → ((x : ℕ) → x < 256 → g x < 16) → swz_l w8 16 lanes 0 js ≡ map (λ x. slice_index table (g x)) v
looked_up table lanes g v js stands fits e small =
    let long : length js ≡ 32 = ap length e ∙ length-map v g ∙ fits.0 in
    ext_get_or 0 _ _ (length-swz_l w8 16 lanes 0 js ∙ long ∙ sym (length-map v (λ x. slice_index table (g x)) ∙ fits.0))
    (λ i h.
    let lt : i < 32 = omega (arith, length-swz_l w8 16 lanes 0 js) in
    let within : i < length v = omega (arith, fits.0) in
    let is : get_or js i 0 ≡ g (get_or v i 0) = ap (λ l. get_or l i 0) e ∙ get_or-map g v i 0 0 within in
    let below : get_or js i 0 < 16 = omega (arith, small (get_or v i 0) (lane_fits v i within fits.1)) in
    let place = 16 * ((0 + i) / 16) + get_or js i 0 in
    let row : place % 16 ≡ get_or js i 0 = omega arith in
    get_or-swz_l_below w8 16 lanes 0 js i (omega arith) below
    ∙ stands.each place (omega arith) ∙ ap (λ k. slice_index table k) (row ∙ is)
    ∙ sym (get_or-map (λ x. slice_index table (g x)) v i 0 0 within))

-- the lanes of which a value is to 0 as a test asks
pub tested_is : (t : ℕ → ℕ → Bool) (f : ℕ → ℕ) (v values : List ℕ) → length v ≡ 32 → values ≡ map f v
    → mask_l (map (top 7) (zip2 (λ a b. cond (t a b) 255 0) values (replicate 32 0))) % 2 ^ 64
    ≡ mask_l (map (λ b. t (f b) 0) v)
tested_is t f v values long value =
    bitmask_splat w8 t values 32 0 (ap length value ∙ length-map v f ∙ long) (omega arith)
    ∙ ap (λ l. mask_l (map (λ x. t x 0) l)) value
    ∙ ap mask_l (map-map (λ x. t x 0) f v)

-- ---- the longest prefix, a piece at a time

module _ (p : ℕ → Bool) where
  -- a whole piece passes, and the prefix goes on after it
  pub prefix_past : (n : ℕ) (xs : List ℕ) → n ≤ length xs → prefix_len p (take n xs) ≡ n
      → prefix_len p xs ≡ n + prefix_len p (drop n xs)
  prefix_past zero xs room all = omega arith
  prefix_past (suc n) [] room all = absurd (omega arith)
  prefix_past (suc n) (x ∷ xs) room all =
      elim (cases_Bool (p x)) [
        | inl passes ↦
            let whole : 1 + prefix_len p (take n xs) ≡ suc n = rw passes at all in
            rw passes (omega (arith, prefix_past n xs (omega arith) (omega (arith, whole))))
        | inr fails ↦
            let none : 0 ≡ suc n = rw fails at all in
            absurd (omega (arith, none))
      ]

  -- a piece that doesn't pass whole has the prefix
  pub prefix_in : (n : ℕ) (xs : List ℕ) → n ≤ length xs → prefix_len p (take n xs) < n
      → prefix_len p xs ≡ prefix_len p (take n xs)
  prefix_in zero xs room some = absurd (omega arith)
  prefix_in (suc n) [] room some = absurd (omega arith)
  prefix_in (suc n) (x ∷ xs) room some =
      elim (cases_Bool (p x)) [
        | inl passes ↦
            let less : 1 + prefix_len p (take n xs) < suc n = rw passes at some in
            rw passes (ap (λ k. 1 + k) (prefix_in n xs (omega arith) (omega (arith, less))))
        | inr fails ↦ rw fails refl
      ]

  -- what is after the prefix adds nothing
  pub prefix_before : (xs ys : List ℕ) → prefix_len p ys ≡ 0 → prefix_len p (xs ++ ys) ≡ prefix_len p xs
  prefix_before [] ys none = none
  prefix_before (x ∷ xs) ys none = ap (λ k. cond (p x) (1 + k) 0) (prefix_before xs ys none)

-- a prefix of so many of the next bytes
module _ (p : ℕ → Bool) (n : ℕ) (rest : List ℕ) (ahead : ℕ) (is : ahead ≡ prefix_len p (take n rest)) where
  -- no more than are left
  pub ahead_inside : (ahead ≤ n) × (ahead ≤ length rest)
  ahead_inside =
      let bound = prefix_len-le-length p (take n rest) in
      let long = length-take n rest in
      (omega arith, omega arith)

  -- all of them
  pub ahead_past : ahead ≡ n → prefix_len p rest ≡ ahead + prefix_len p (drop ahead rest)
  ahead_past all =
      let room = ahead_inside.1 in
      rw all (prefix_past p n rest (omega arith) (sym is ∙ all))

  -- fewer
  pub ahead_ends : ahead ≢ n → prefix_len p rest ≡ ahead
  ahead_ends fewer =
      let fits = ahead_inside.0 in
      elim (cases_lt (length rest) n) [
        | inl short ↦ ap (prefix_len p) (sym (take_all n rest (omega arith))) ∙ sym is
        | inr room ↦ prefix_in p n rest room (omega arith) ∙ sym is
      ]

-- the prefix of 64 bytes by the prefixes of the two halves
module _ (p : ℕ → Bool) (rest : List ℕ) (ahead : ℕ) (is : ahead ≡ prefix_len p (take 32 rest)) where
  -- the first half has it
  half : ahead ≡ prefix_len p (take 32 (take 64 rest))
  half = is ∙ ap (prefix_len p) (sym (take-take 32 64 rest (omega arith)))

  -- in the first
  pub near_ends : ahead ≢ 32 → prefix_len p (take 64 rest) ≡ ahead
  near_ends fewer = ahead_ends p 32 (take 64 rest) ahead half fewer

  -- in the second
  pub near_past : ahead ≡ 32
      → prefix_len p (take 64 rest) ≡ ahead + prefix_len p (take 32 (drop ahead rest))
  near_past all =
      let past = ahead_past p 32 (take 64 rest) ahead half all in
      let second : drop ahead (take 64 rest) ≡ take 32 (drop ahead rest) = rw all (drop-take 32 32 rest) in
      past ∙ ap (λ xs. ahead + prefix_len p xs) second
