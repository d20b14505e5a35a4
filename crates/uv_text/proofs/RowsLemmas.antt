-- Classes by rows: what is beyond ASCII is in none, and the prefix by rows that hold a class is the prefix by the
-- class.
use Rattle.std.proofs.Common.{◌≡◌, ◌∙◌, ℕ, suc, ◌/◌, ◌≤◌, Bool, true, false, List, [], ◌∷◌, get_or, refl, sym, inl, inr}
use Rattle.std.proofs.Common.{arith, Fits, w8}
use Rattle.std.proofs.lemmas.Bool.{cases_lt, true≢false}
use Rattle.std.specs.Int.Bits.{and_zero_r}
use Rattle.std.specs.List.{prefix_len}
use Rattle.std.proofs.Math.ListN.{get_or-eq_default}
use Rattle.uv_text.specs.Rows.{HoldClass, high_bit, is_in_rows, row_at}

-- the first byte beyond ASCII is in no rows
pub no_row : (rows : List ℕ) → is_in_rows rows 128 ≡ false
no_row rows = rw (and_zero_r (row_at rows 128)) refl

-- no rows have a number beyond the bytes
pub beyond : (rows : List ℕ) (b : ℕ) → 256 ≤ b → is_in_rows rows b ≡ false
beyond rows b large =
    let after : 16 ≤ b / 16 = omega arith in
    let none : high_bit b ≡ 0
    = get_or-eq_default (1 ∷ 2 ∷ 4 ∷ 8 ∷ 16 ∷ 32 ∷ 64 ∷ 128 ∷ 0 ∷ 0 ∷ 0 ∷ 0 ∷ 0 ∷ 0 ∷ 0 ∷ 0 ∷ []) 0 {n = b / 16}
    after in
    rw (none, and_zero_r (row_at rows b)) refl

-- a number in rows that hold a class is of the class
pub of_rows : (held : ℕ → Bool) (rows : List ℕ) → HoldClass rows held → (b : ℕ) → is_in_rows rows b ≡ true
    → held b ≡ true
of_rows held rows hold b in_rows = elim (cases_lt b 256) [
  | inl small ↦ sym (hold b small) ∙ in_rows
  | inr large ↦ absurd (true≢false (sym in_rows ∙ beyond rows b large))
]

-- the prefix by rows that hold a class is the prefix by the class
pub run_held : (held : ℕ → Bool) (rows bytes : List ℕ) → HoldClass rows held
    → ((k : ℕ) → Fits w8 (get_or bytes k 0)) → prefix_len (is_in_rows rows) bytes ≡ prefix_len held bytes
run_held held rows [] hold fits = refl
run_held held rows (b ∷ bytes) hold fits =
    rw (hold b (fits 0).fits, run_held held rows bytes hold (λ k. fits (suc k))) refl
