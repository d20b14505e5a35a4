-- Units where more text follows them, as the parser machine's states look ahead: what isn't a fault in a text isn't one
-- with more after it, and `#` is a fault wherever it is.
use Rattle.std.proofs.Common.{◌≡◌, ℕ, true, false, inl, inr, ◌==◌, List, [], ◌∷◌, ◌++◌}
use Rattle.std.proofs.lemmas.Bool.{false≢true, cases_Bool, eqb-true}
use Rattle.uv_model.specs.Ascii.{number_sign, percent_sign}
use Rattle.uv_model.specs.Units.{is_url_code_point, starts_with_two_hex, is_unit_at}

-- two hex digits stay with more text after them
two_hex_ahead : (xs ys : List ℕ) → starts_with_two_hex xs ≡ true → starts_with_two_hex (xs ++ ys) ≡ true
two_hex_ahead [] ys ok = absurd (false≢true ok)
two_hex_ahead (high ∷ []) ys ok = absurd (false≢true ok)
two_hex_ahead (high ∷ low ∷ rest) ys ok = ok

-- what isn't a fault in a text isn't one with more text after it
pub is_unit_at-ahead : (c : ℕ) (xs ys : List ℕ) → is_unit_at c xs ≡ true → is_unit_at c (xs ++ ys) ≡ true
unfolding is_unit_at
is_unit_at-ahead c xs ys ok =
    elim (cases_Bool (c == percent_sign)) [
      | inl same ↦ rw same (two_hex_ahead xs ys (rw same at ok))
      | inr other ↦ rw other (rw other at ok)
    ]

-- `#` is always a fault
pub unit_not_number_sign : (c : ℕ) (rest : List ℕ) → is_unit_at c rest ≡ true → (c == number_sign) ≡ false
unfolding is_unit_at is_url_code_point
unit_not_number_sign c rest ok =
    elim (cases_Bool (c == number_sign)) [
      | inl same ↦ absurd (false≢true (rw (eqb-true c number_sign same) at ok))
      | inr other ↦ other
    ]
