-- The bits of two bytes together.
use Rattle.std.proofs.Common.{◌≡◌, ◌≢◌, ℕ, ◌==◌, ◌&&◌, ap, arith, bit_or, inl, inr, ne_eqb, refl, subst, sym}
use Rattle.std.specs.Int.Bits.{or_zero_l}
use Rattle.std.proofs.lemmas.Bool.{cases_eq}
use Rattle.std.proofs.lemmas.Nat.{le_or_l}

-- two numbers have no bit where neither of them has one
pub none_of_both : (a b : ℕ) → (bit_or a b == 0) ≡ ((a == 0) && (b == 0))
none_of_both a b =
    elim (cases_eq a 0) [
      | inl none ↦
          subst (λ n. (bit_or n b == 0) ≡ ((n == 0) && (b == 0))) (sym none) (ap (λ n. n == 0) (or_zero_l b))
      | inr some ↦
          let further : bit_or a b ≢ 0 = λ e. some (omega (arith, le_or_l a b, e)) in
          rw (ne_eqb a 0 some, ne_eqb (bit_or a b) 0 further) refl
    ]
