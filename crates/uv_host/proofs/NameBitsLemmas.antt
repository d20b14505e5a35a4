-- Bits of the bytes that go on as a name does.
use Rattle.std.proofs.Common.{◌≡◌, ◌⊎◌, ℕ, zero, suc, ◌+◌, ◌-◌, ◌*◌, ◌/◌, ◌%◌, ◌^◌, ◌<◌, ◌≤◌, Bool, true, false, ◌==◌}
use Rattle.std.proofs.Common.{cond, List, [], ◌∷◌, length, map, take, get_or, get_or-take, bit_and, bit_or, w64, refl}
use Rattle.std.proofs.Common.{sym, ap, ◌∙◌, inl, inr, arith}
use Rattle.std.specs.Prelude.{slice_index}
use Rattle.std.specs.Int.{bit_at, trailing_ones}
use Rattle.std.specs.Simd.Lanes.{mask_l}
use Rattle.std.proofs.lemmas.Bool.{agree_below_at, cases_Bool, cases_eq, cases_lt}
use Rattle.std.proofs.lemmas.Bool.Decides.{nat_tests}
use Rattle.std.proofs.lemmas.List.{get_or-map, length-take}
use Rattle.std.proofs.lemmas.Nat.{and_le_l, or_lt}
use Rattle.std.proofs.lemmas.Simd.{bit_mask_l}
use Rattle.std.proofs.lemmas.Nat.Bits.{bit_at-lt, bit_at-trailing_ones, bit_at_above, bit_at_and, bit_at_cat_high}
use Rattle.std.proofs.lemmas.Nat.Bits.{bit_at_cat_low, bit_at_or}
use Rattle.uv_text.specs.Rows.{is_in_rows}
use Rattle.uv_text.proofs.MaskLemmas.{bit-set, mask-small}
use Rattle.uv_text.proofs.RowsLemmas.{beyond}
use Rattle.uv_host.specs.declared.plain_names.TheConstants.{JOINT_ROWS, SIGN_ROWS}
use Rattle.uv_host.specs.PlainNames.{IsJoined, goes_on, is_joint, is_sign, signed_before}

-- the rows hold the letters and digits
sign_rows : (b : ℕ) → is_in_rows SIGN_ROWS b ≡ is_sign b
sign_rows b = elim (cases_lt b 256) [
  | inl small ↦ agree_below_at (is_in_rows SIGN_ROWS) is_sign 256 b refl small
  | inr large ↦
      let none : is_sign b ≡ false = grind (arith, nat_tests, large) in
      beyond SIGN_ROWS b large ∙ sym none
]

same_map : (p q : ℕ → Bool) (xs : List ℕ) → ((b : ℕ) → p b ≡ q b) → map p xs ≡ map q xs
same_map p q [] h = refl
same_map p q (x ∷ xs) h = rw (h x, same_map p q xs h) refl

-- so they have the bits of letters and digits
pub sign_bits : (xs : List ℕ) → mask_l (map (is_in_rows SIGN_ROWS) xs) ≡ mask_l (map is_sign xs)
sign_bits xs = ap mask_l (same_map (is_in_rows SIGN_ROWS) is_sign xs sign_rows)

-- and the marks
joint_rows : (b : ℕ) → is_in_rows JOINT_ROWS b ≡ is_joint b
joint_rows b = elim (cases_lt b 256) [
  | inl small ↦ agree_below_at (is_in_rows JOINT_ROWS) is_joint 256 b refl small
  | inr large ↦
      let none : is_joint b ≡ false = grind (arith, nat_tests, large) in
      beyond JOINT_ROWS b large ∙ sym none
]

-- a bit of one number or of both others is set
either : (a b c k : ℕ) → bit_at (bit_or a (bit_and b c)) k ≡ 1
    → (bit_at a k ≡ 1) ⊎ ((bit_at b k ≡ 1) × (bit_at c k ≡ 1))
either a b c k set =
    let or = bit_at_or a (bit_and b c) k in
    let and = bit_at_and b c k in
    let sa = bit_at-lt a k in
    let sb = bit_at-lt b k in
    let sc = bit_at-lt c k in
    elim (cases_eq (bit_at a k) 1) [
      | inl one ↦ inl one
      | inr other ↦ inr (omega arith, omega arith)
    ]

-- a bit of a number that was shifted by one, with a bit put in at the lowest place
shifted : (a bit k : ℕ) → a < 2 ^ 32 → bit < 2 → bit_at (bit_or (a * 2 ^ 1 % 2 ^ 64) bit) (suc k) ≡ 1 → bit_at a k ≡ 1
shifted a bit k small low set =
    let same : a * 2 ^ 1 % 2 ^ 64 ≡ a * 2 ^ 1 + 0 = omega arith in
    let moved = bit_at_cat_high a 1 0 (suc k) (omega arith) (omega arith) in
    let at : suc k - 1 ≡ k = omega arith in
    let none = bit_at_above bit 1 (suc k) (omega arith) (omega arith) in
    let or = bit_at_or (a * 2 ^ 1 % 2 ^ 64) bit (suc k) in
    let here : bit_at (a * 2 ^ 1 % 2 ^ 64) (suc k) ≡ bit_at a k
    = ap (λ n. bit_at n (suc k)) same ∙ moved ∙ ap (bit_at a) at in
    omega (arith, set, or, none, here)

put_in : (a bit : ℕ) → a < 2 ^ 32 → bit_at (bit_or (a * 2 ^ 1 % 2 ^ 64) bit) 0 ≡ 1 → bit_at bit 0 ≡ 1
put_in a bit small set =
    let same : a * 2 ^ 1 % 2 ^ 64 ≡ a * 2 ^ 1 + 0 = omega arith in
    let none = bit_at_cat_low a 1 0 0 (omega arith) in
    let here : bit_at (a * 2 ^ 1 % 2 ^ 64) 0 ≡ bit_at 0 0 = ap (λ n. bit_at n 0) same ∙ none in
    let or = bit_at_or (a * 2 ^ 1 % 2 ^ 64) bit 0 in
    omega (arith, set, or, here)

-- at each place a bit, which is set where the byte goes on
abbrev pub joined_bits : Bool → List ℕ → ℕ
joined_bits signed xs =
    bit_or (mask_l (map is_sign xs)) (bit_and (mask_l (map (is_in_rows JOINT_ROWS) xs))
    (bit_or (mask_l (map is_sign xs) * 2 ^ 1 % 2 ^ 64) (cond signed 1 0)))

module _ (signed : Bool) (xs : List ℕ) (few : length xs ≤ 32) where
  abbrev signs : ℕ
  signs = mask_l (map is_sign xs)

  abbrev joints : ℕ
  joints = mask_l (map (is_in_rows JOINT_ROWS) xs)

  abbrev joined : ℕ
  joined = joined_bits signed xs

  joined-small : joined < 2 ^ 32
  joined-small =
      let after = bit_or (signs * 2 ^ 1 % 2 ^ 64) (cond signed 1 0) in
      let small = mask-small (is_in_rows JOINT_ROWS) xs few in
      let less = and_le_l joints after in
      or_lt 32 signs (bit_and joints after) (mask-small is_sign xs few) (omega arith)

  -- one of their bits is the bit of a byte that goes on
  goes : (k : ℕ) → bit_at joined k ≡ 1
      → (k < length xs) × (goes_on (signed_before signed xs k) (get_or xs k 0) ≡ true)
  goes k set = elim (either signs joints (bit_or (signs * 2 ^ 1 % 2 ^ 64) (cond signed 1 0)) k set) [
    | inl sign ↦
        let here = bit-set is_sign xs k sign in
        (here.0, rw here.1 refl)
    | inr joint ↦
        let here = bit-set (is_in_rows JOINT_ROWS) xs k joint.0 in
        let is : is_joint (get_or xs k 0) ≡ true = sym (joint_rows (get_or xs k 0)) ∙ here.1 in
        (here.0, on (get_or xs k 0) is (before k joint.1))
  ]
    where
      on : (c : ℕ) → is_joint c ≡ true → signed_before signed xs k ≡ true
          → goes_on (signed_before signed xs k) c ≡ true
      on c joint sign = rw sign (elim (cases_Bool (is_sign c)) [
        | inl is ↦ rw is refl
        | inr other ↦ rw (other, joint) refl
      ])

      lowest : (s : Bool) → bit_at (cond s 1 0) 0 ≡ 1 → s ≡ true
      lowest true one = refl
      lowest false one = absurd (omega (arith, one))

      at_most_one : (s : Bool) → cond {A = ℕ} s 1 0 < 2
      at_most_one true = omega arith
      at_most_one false = omega arith

      before : (k : ℕ) → bit_at (bit_or (signs * 2 ^ 1 % 2 ^ 64) (cond signed 1 0)) k ≡ 1
          → signed_before signed xs k ≡ true
      before zero set = lowest signed (put_in signs (cond signed 1 0) (mask-small is_sign xs few) set)
      before (suc k) set =
          let sign = shifted signs (cond signed 1 0) k (mask-small is_sign xs few) (at_most_one signed) set in
          (bit-set is_sign xs k sign).1

  -- the set bits below the first that isn't are bytes that go on
  pub joined_run : (trailing_ones w64 joined ≤ 32) × IsJoined signed xs (trailing_ones w64 joined)
  joined_run =
      let n = trailing_ones w64 joined in
      let small = joined-small in
      let ones = bit_at-trailing_ones w64 joined (omega arith) in
      let above = bit_at_above joined 32 32 small (omega arith) in
      let few : n ≤ 32 = elim (cases_lt 32 n) [
        | inl long ↦
            let set = ones.2 32 long in
            absurd (omega (arith, set, above))
        | inr short ↦ short
      ] in (
        few,
        record {
          inside = elim (cases_lt (length xs) n) [
            | inl long ↦
                let no = (goes (length xs) (ones.2 (length xs) long)).0 in
                absurd (omega (arith, no))
            | inr fits ↦ fits
          ];
          each = λ k below. (goes k (ones.2 k below)).1;
        },
      )

-- the set bits of the first 32 bytes of a text below the first that isn't set are bytes that go on
pub joined_prefix : (signed : Bool) (rest : List ℕ) (n : ℕ)
    → n ≡ trailing_ones w64 (joined_bits signed (take 32 rest))
    → (n ≤ 32) × IsJoined signed rest n
joined_prefix signed rest n is =
    let long = length-take 32 rest in
    let run = joined_run signed (take 32 rest) (omega arith) in
    let few = run.0 in
    let inside = run.1.inside in (
      omega (arith, is),
      record {
        inside = omega (arith, is);
        each = λ k below.
            let here : k < 32 = omega (arith, is) in
            moved k here (run.1.each k (omega (arith, is)));
      },
    )
  where
    moved : (k : ℕ) → k < 32
        → goes_on (signed_before signed (take 32 rest) k) (slice_index (take 32 rest) k) ≡ true
        → goes_on (signed_before signed rest k) (slice_index rest k) ≡ true
    moved zero small goes = rw (get_or-take 32 rest 0 0 small) at goes
    moved (suc k) small goes =
        rw (get_or-take 32 rest (suc k) 0 small, get_or-take 32 rest k 0 (omega arith)) at goes

-- the last of 32 bits
pub last_bit : (rest : List ℕ) → 32 ≤ length rest
    → (mask_l (map is_sign (take 32 rest)) / 2 ^ 31 == 1) ≡ is_sign (slice_index rest 31)
last_bit rest room =
    let xs = take 32 rest in
    let long = length-take 32 rest in
    let small = mask-small is_sign xs (omega arith) in
    let bit = bit_mask_l (map is_sign xs) 31 in
    let one : mask_l (map is_sign xs) / 2 ^ 31
    ≡ mask_l (map is_sign xs) / 2 ^ 31 % 2 = omega arith in
    let here : get_or (map is_sign xs) 31 false ≡ is_sign (slice_index rest 31)
    = get_or-map is_sign xs 31 0 false (omega arith)
    ∙ ap is_sign (get_or-take 32 rest 31 0 (omega arith)) in
    ap (λ n. n == 1) (one ∙ bit) ∙ whether (get_or (map is_sign xs) 31 false) ∙ here
  where
    whether : (b : Bool) → (cond {A = ℕ} b 1 0 == 1) ≡ b
    whether true = refl
    whether false = refl
