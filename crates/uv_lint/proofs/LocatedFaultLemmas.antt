-- The first whole number of a line.
use Rattle.std.proofs.Common.{◌≡◌, ℕ, ◌+◌, ◌<◌, List, [], ◌∷◌, true, false, add-one, drop, drop-cons, get_or, is_some}
use Rattle.std.proofs.Common.{length, refl}
use Rattle.std.proofs.lemmas.Bool.{false≢true}
use Rattle.uv_lint.specs.LocatedFault.{first_number, whole_number}

-- a text that begins with one
pub begins_number : (text : List ℕ) → is_some (whole_number text) ≡ true → first_number text ≡ whole_number text
begins_number [] is = absurd (false≢true is)
begins_number (b ∷ rest) is = rw is refl

-- a text that doesn't, by its first byte and the rest
begins_other : (b : ℕ) (rest : List ℕ) → is_some (whole_number (b ∷ rest)) ≡ false
    → first_number (b ∷ rest) ≡ first_number rest
begins_other b rest other = rw other refl

-- the first one is after a place at which none is
pub after_other : (text : List ℕ) (place : ℕ) → place < length text
    → is_some (whole_number (drop place text)) ≡ false
    → first_number (drop place text) ≡ first_number (drop (place + 1) text)
after_other text place within other =
    let cut : drop place text ≡ get_or text place 0 ∷ drop (place + 1) text =
    rw add-one (drop-cons text place 0 within) in
    rw cut (begins_other (get_or text place 0) (drop (place + 1) text) (rw cut at other))
