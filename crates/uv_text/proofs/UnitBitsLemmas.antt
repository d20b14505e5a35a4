-- The longest prefix of bytes of a class and of percent-encoded bytes: by bits, and a piece at a time.
use Rattle.std.proofs.Common.{◌≡◌, ℕ, zero, suc, ◌+◌, ◌/◌, ◌^◌, ◌<◌, ◌≤◌, Bool, true, false, ◌&&◌, ◌||◌, ◌==◌, cond}
use Rattle.std.proofs.Common.{List, [], ◌∷◌, length, map, take, drop, get_or, max, min, bit_and, bit_or, Fits, w8, w64}
use Rattle.std.proofs.Common.{refl, sym, ap, ◌∙◌, subst, inl, inr, arith}
use Rattle.std.specs.Char.{is_ascii_hexdigit}
use Rattle.std.specs.Int.{bit_at, trailing_ones}
use Rattle.std.specs.List.{drop-map}
use Rattle.std.specs.Simd.Lanes.{mask_l}
use Rattle.std.proofs.Math.ListN.{get_or-eq_default}
use Rattle.std.proofs.lemmas.Bool.{agree_below_at, and_parts, cases_Bool, cases_lt, false≢true}
use Rattle.std.proofs.lemmas.List.{drop-drop, get_or-drop, get_or-take, length-take}
use Rattle.std.proofs.lemmas.Nat.{and_le_l, or_lt}
use Rattle.std.proofs.lemmas.Nat.Bits.{bit_at-trailing_ones, bit_at_and, bit_at_or}
use Rattle.std.proofs.lemmas.Simd.{bit_mask_l}
use Rattle.uv_model.specs.Ascii.{percent_sign}
use Rattle.uv_model.specs.Units.{starts_with_two_hex}
use Rattle.uv_text.specs.declared.lanes.TheConstants.{HEX_ROWS, PERCENT_ROWS}
use Rattle.uv_text.specs.Rows.{HoldClass, is_in_rows}
use Rattle.uv_text.specs.Splits.{ascii_unit_length, begins_ascii_unit, starts_in}
use Rattle.uv_text.proofs.MaskLemmas.{mask-drop, mask-small}

-- ---- the prefix, a piece at a time

module _ (held : ℕ → Bool) where
  -- it has no more bytes than there are
  pub ascii_unit_length-le : (bytes : List ℕ) → ascii_unit_length held bytes ≤ length bytes
  ascii_unit_length-le [] = omega arith
  ascii_unit_length-le (b ∷ rest) =
      elim (cases_Bool (begins_ascii_unit held b rest)) [
        | inl begins ↦ rw begins (omega (arith, ascii_unit_length-le rest))
        | inr stops ↦ rw stops (omega arith)
      ]

  -- after a part of it the others of its bytes follow
  pub ascii_unit_length-past : (n : ℕ) (bytes : List ℕ) → n ≤ ascii_unit_length held bytes
      → ascii_unit_length held bytes ≡ n + ascii_unit_length held (drop n bytes)
  ascii_unit_length-past zero bytes part = omega arith
  ascii_unit_length-past (suc n) [] part = absurd (omega (arith, part))
  ascii_unit_length-past (suc n) (b ∷ rest) part =
      elim (cases_Bool (begins_ascii_unit held b rest)) [
        | inl begins ↦
            let more : suc n ≤ suc (ascii_unit_length held rest) = rw begins at part in
            rw begins (omega (arith, ascii_unit_length-past n rest (omega (arith, more))))
        | inr stops ↦
            let none : suc n ≤ 0 = rw stops at part in
            absurd (omega (arith, none))
      ]

  -- two hex digits of a piece are there in the whole
  two_hex_taken : (m : ℕ) (rest : List ℕ) → starts_with_two_hex (take m rest) ≡ true → starts_with_two_hex rest ≡ true
  two_hex_taken zero rest hex = absurd (false≢true hex)
  two_hex_taken (suc m) [] hex = absurd (false≢true hex)
  two_hex_taken (suc zero) (high ∷ rest) hex = absurd (false≢true hex)
  two_hex_taken (suc (suc m)) (high ∷ []) hex = absurd (false≢true hex)
  two_hex_taken (suc (suc m)) (high ∷ low ∷ rest) hex = hex

  -- what begins a unit in a piece does so in the whole
  begins_taken : (b m : ℕ) (rest : List ℕ) → begins_ascii_unit held b (take m rest) ≡ true
      → begins_ascii_unit held b rest ≡ true
  begins_taken b m rest begins =
      elim (cases_Bool (held b)) [
        | inl here ↦ rw here refl
        | inr other ↦
            let both : ((b == percent_sign) && starts_with_two_hex (take m rest)) ≡ true = rw other at begins in
            let parts = and_parts (b == percent_sign) (starts_with_two_hex (take m rest)) both in
            rw (other, parts.0, two_hex_taken m rest parts.1) refl
      ]

  -- the prefix of a piece is a part of the prefix of the whole
  pub ascii_unit_length-taken : (m : ℕ) (bytes : List ℕ)
      → ascii_unit_length held (take m bytes) ≤ ascii_unit_length held bytes
  ascii_unit_length-taken zero bytes = omega arith
  ascii_unit_length-taken (suc m) [] = omega arith
  ascii_unit_length-taken (suc m) (b ∷ rest) =
      elim (cases_Bool (begins_ascii_unit held b (take m rest))) [
        | inl begins ↦
            rw (begins, begins_taken b m rest begins) (omega (arith, ascii_unit_length-taken m rest))
        | inr stops ↦ rw stops (omega arith)
      ]

  -- where two bytes more of a piece are there, a byte that begins no unit in it begins none in the whole
  stops_taken : (b m : ℕ) (rest : List ℕ) → 2 ≤ m
      → begins_ascii_unit held b (take m rest) ≡ begins_ascii_unit held b rest
  stops_taken b zero rest two = absurd (omega (arith, two))
  stops_taken b (suc zero) rest two = absurd (omega (arith, two))
  stops_taken b (suc (suc m)) [] two = refl
  stops_taken b (suc (suc m)) (high ∷ []) two = refl
  stops_taken b (suc (suc m)) (high ∷ low ∷ rest) two = refl

  -- a prefix that ends before the last two bytes of a piece is the prefix of the whole
  pub ascii_unit_length-ends : (m : ℕ) (bytes : List ℕ) → ascii_unit_length held (take m bytes) + 2 < m
      → ascii_unit_length held bytes ≡ ascii_unit_length held (take m bytes)
  ascii_unit_length-ends zero bytes room = absurd (omega (arith, room))
  ascii_unit_length-ends (suc m) [] room = refl
  ascii_unit_length-ends (suc m) (b ∷ rest) room =
      elim (cases_Bool (begins_ascii_unit held b (take m rest))) [
        | inl begins ↦
            let less : suc (ascii_unit_length held (take m rest)) + 2 < suc m = rw begins at room in
            rw (begins, begins_taken b m rest begins)
            (ap suc (ascii_unit_length-ends m rest (omega (arith, less))))
        | inr stops ↦
            let less : 0 + 2 < suc m = rw stops at room in
            let whole = sym (stops_taken b m rest (omega (arith, less))) ∙ stops in
            rw (stops, whole) refl
      ]

-- ---- the bits of a piece

-- the byte at the start, with what follows it, is of the class or begins a percent-encoded byte
abbrev starts_unit : (ℕ → Bool) → List ℕ → Bool
starts_unit held [] = false
starts_unit held (b ∷ rest) = begins_ascii_unit held b rest

-- a byte that passes a test, as a bit
head_at : (p : ℕ → Bool) (xs : List ℕ) (i : ℕ) → get_or (map p xs) i false ≡ starts_in p (drop i xs)
head_at p [] zero = refl
head_at p [] (suc i) = refl
head_at p (x ∷ xs) zero = refl
head_at p (x ∷ xs) (suc i) = head_at p xs i

bit_is : (p : ℕ → Bool) (xs : List ℕ) (i : ℕ) → bit_at (mask_l (map p xs)) i ≡ cond (starts_in p (drop i xs)) 1 0
bit_is p xs i = bit_mask_l (map p xs) i ∙ ap (λ m. cond m 1 0) (head_at p xs i)

-- the bit of a byte further on, by a shift
bit_after : (p : ℕ → Bool) (k : ℕ) (xs : List ℕ) (i : ℕ)
    → bit_at (mask_l (map p xs) / 2 ^ k) i ≡ cond (starts_in p (drop k (drop i xs))) 1 0
bit_after p k xs i =
    ap (λ n. bit_at n i) (sym (mask-drop k (map p xs)) ∙ ap mask_l (drop-map p k xs))
    ∙ bit_is p (drop k xs) i
    ∙ ap (λ s. cond (starts_in p s) 1 0)
    (drop-drop i k xs ∙ ap (λ n. drop n xs) (omega arith) ∙ sym (drop-drop k i xs))

-- bits joined
joined : (a b c d : Bool)
    → max (cond a 1 0) (min (min (cond b 1 0) (cond c 1 0)) (cond d 1 0)) ≡ cond {A = ℕ} (a || (b && (c && d))) 1 0
joined true true true true = refl
joined true true true false = refl
joined true true false true = refl
joined true true false false = refl
joined true false true true = refl
joined true false true false = refl
joined true false false true = refl
joined true false false false = refl
joined false true true true = refl
joined false true true false = refl
joined false true false true = refl
joined false true false false = refl
joined false false true true = refl
joined false false true false = refl
joined false false false true = refl
joined false false false false = refl

-- what the joined bits of a place say is whether its byte begins a unit
joined_is : (held : ℕ → Bool) (s : List ℕ)
    → (starts_in held s
    || (starts_in (λ b. b == percent_sign) s
    && (starts_in is_ascii_hexdigit (drop 1 s) && starts_in is_ascii_hexdigit (drop 2 s))))
    ≡ starts_unit held s
joined_is held [] = refl
joined_is held (b ∷ []) = refl
joined_is held (b ∷ high ∷ []) = ap (λ m. held b || ((b == percent_sign) && m)) (never (is_ascii_hexdigit high))
  where
    never : (m : Bool) → (m && false) ≡ false
    never true = refl
    never false = refl
joined_is held (b ∷ high ∷ low ∷ rest) = refl

-- at each of these bytes a bit, which is set where the byte is of the class or begins a percent-encoded byte
abbrev pub unit_bits : (ℕ → Bool) → List ℕ → ℕ
unit_bits held xs =
    bit_or (mask_l (map held xs))
    (bit_and (bit_and (mask_l (map (λ b. b == percent_sign) xs)) (mask_l (map is_ascii_hexdigit xs) / 2 ^ 1))
    (mask_l (map is_ascii_hexdigit xs) / 2 ^ 2))

module _ (held : ℕ → Bool) where
  -- as many bytes as begin units before one that begins none
  length_is : (n : ℕ) (xs : List ℕ) → ((k : ℕ) → k < n → starts_unit held (drop k xs) ≡ true)
      → starts_unit held (drop n xs) ≡ false → ascii_unit_length held xs ≡ n
  length_is zero [] begin stops = refl
  length_is zero (b ∷ rest) begin stops = rw stops refl
  length_is (suc n) [] begin stops = absurd (false≢true (begin 0 (omega arith)))
  length_is (suc n) (b ∷ rest) begin stops =
      rw (begin 0 (omega arith))
      (ap suc (length_is n rest (λ k below. begin (suc k) (omega (arith, below))) stops))

  module _ (xs : List ℕ) where
    abbrev percents : ℕ
    percents = mask_l (map (λ b. b == percent_sign) xs)

    abbrev digits : ℕ
    digits = mask_l (map is_ascii_hexdigit xs)

    -- each bit
    unit_bit : (i : ℕ) → bit_at (unit_bits held xs) i ≡ cond (starts_unit held (drop i xs)) 1 0
    unit_bit i =
        let s = drop i xs in
        bit_at_or (mask_l (map held xs)) (bit_and (bit_and percents (digits / 2 ^ 1)) (digits / 2 ^ 2)) i
        ∙ ap (λ n. max (bit_at (mask_l (map held xs)) i) n)
        (bit_at_and (bit_and percents (digits / 2 ^ 1)) (digits / 2 ^ 2) i
        ∙ ap (λ n. min n (bit_at (digits / 2 ^ 2) i)) (bit_at_and percents (digits / 2 ^ 1) i))
        ∙ rw (
          bit_is held xs i,
          bit_is (λ b. b == percent_sign) xs i,
          bit_after is_ascii_hexdigit 1 xs i,
          bit_after is_ascii_hexdigit 2 xs i,
        ) refl
        ∙ joined (starts_in held s) (starts_in (λ b. b == percent_sign) s) (starts_in is_ascii_hexdigit (drop 1 s))
        (starts_in is_ascii_hexdigit (drop 2 s))
        ∙ ap (λ m. cond m 1 0) (joined_is held s)

    -- the set bits below the first that isn't are the longest prefix
    pub unit_bits-run : length xs ≤ 32 → trailing_ones w64 (unit_bits held xs) ≡ ascii_unit_length held xs
    unit_bits-run few =
        let n = trailing_ones w64 (unit_bits held xs) in
        let less = and_le_l (bit_and percents (digits / 2 ^ 1)) (digits / 2 ^ 2) in
        let less_still = and_le_l percents (digits / 2 ^ 1) in
        let small = mask-small (λ b. b == percent_sign) xs few in
        let fits : unit_bits held xs < 2 ^ 32 =
        or_lt 32 (mask_l (map held xs)) (bit_and (bit_and percents (digits / 2 ^ 1)) (digits / 2 ^ 2))
        (mask-small held xs few) (omega arith) in
        let ones = bit_at-trailing_ones w64 (unit_bits held xs) (omega arith) in
        sym (length_is n xs (λ k below. is_true (starts_unit held (drop k xs)) (sym (unit_bit k) ∙ ones.2 k below))
        (is_false (starts_unit held (drop n xs)) (sym (unit_bit n) ∙ ones.1)))
      where
        is_true : (m : Bool) → cond {A = ℕ} m 1 0 ≡ 1 → m ≡ true
        is_true true one = refl
        is_true false one = absurd (omega (arith, one))

        is_false : (m : Bool) → cond {A = ℕ} m 1 0 ≡ 0 → m ≡ false
        is_false true none = absurd (omega (arith, none))
        is_false false none = refl

-- ---- the rows of the two tests

-- the rows of `%`
percent_rows : HoldClass PERCENT_ROWS (λ b. b == percent_sign)
percent_rows = λ b small. agree_below_at (is_in_rows PERCENT_ROWS) (λ b. b == percent_sign) 256 b refl small

-- the rows of the hex digits
hex_rows : HoldClass HEX_ROWS is_ascii_hexdigit
hex_rows = λ b small. agree_below_at (is_in_rows HEX_ROWS) is_ascii_hexdigit 256 b refl small

-- bytes by rows that hold a class
map_held : (held : ℕ → Bool) (rows bytes : List ℕ) → HoldClass rows held → ((k : ℕ) → Fits w8 (get_or bytes k 0))
    → map (is_in_rows rows) bytes ≡ map held bytes
map_held held rows [] hold fits = refl
map_held held rows (b ∷ bytes) hold fits =
    rw (hold b (fits 0).fits, map_held held rows bytes hold (λ k. fits (suc k))) refl

-- a piece of bytes is of bytes
pub taken_fits : (n place : ℕ) (bytes : List ℕ) → ((k : ℕ) → Fits w8 (get_or bytes k 0)) → (k : ℕ)
    → Fits w8 (get_or (take n (drop place bytes)) k 0)
taken_fits n place bytes fits k =
    let long = length-take n (drop place bytes) in
    elim (cases_lt k n) [
      | inl below ↦
          subst (Fits w8) (sym (get_or-take n (drop place bytes) k 0 below ∙ get_or-drop place bytes k 0))
          (fits (place + k))
      | inr past ↦
          subst (Fits w8)
          (get_or-eq_default bytes 0 {n = length bytes} (omega arith)
          ∙ sym (get_or-eq_default (take n (drop place bytes)) 0 {n = k} (omega arith))) (fits (length bytes))
    ]

-- the longest prefix of 32 bytes, from the bits by rows
pub unit_bits-rows : (rows xs : List ℕ) → length xs ≤ 32 → ((k : ℕ) → Fits w8 (get_or xs k 0))
    → trailing_ones w64 (bit_or (mask_l (map (is_in_rows rows) xs))
    (bit_and (bit_and (mask_l (map (is_in_rows PERCENT_ROWS) xs)) (mask_l (map (is_in_rows HEX_ROWS) xs) / 2 ^ 1))
    (mask_l (map (is_in_rows HEX_ROWS) xs) / 2 ^ 2)))
    ≡ ascii_unit_length (is_in_rows rows) xs
unit_bits-rows rows xs few fits =
    rw (
      map_held (λ b. b == percent_sign) PERCENT_ROWS xs percent_rows fits,
      map_held is_ascii_hexdigit HEX_ROWS xs hex_rows fits,
    ) (unit_bits-run (is_in_rows rows) xs few)

-- the prefix by rows that hold a class is the prefix by the class
pub units_held : (held : ℕ → Bool) (rows bytes : List ℕ) → HoldClass rows held
    → ((k : ℕ) → Fits w8 (get_or bytes k 0)) → ascii_unit_length (is_in_rows rows) bytes ≡ ascii_unit_length held bytes
units_held held rows [] hold fits = refl
units_held held rows (b ∷ bytes) hold fits =
    rw (hold b (fits 0).fits, units_held held rows bytes hold (λ k. fits (suc k))) refl
