-- What is after a place of a text.
use Rattle.std.specs.Prelude.{◌≡◌, ℕ, ◌-◌, ◌≤◌, List, length, drop}

-- the text ends with the rest
pub record EndsWith (text rest : List ℕ) : Type 0 where
  pub shorter : length rest ≤ length text
  pub is_rest : drop (length text - length rest) text ≡ rest
