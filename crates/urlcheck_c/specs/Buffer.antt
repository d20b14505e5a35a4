-- What is in a caller's buffer after a call.
use Rattle.std.specs.Prelude.{◌≡◌, ℕ, ◌≤◌, ◌<◌, List, ◌++◌, length, drop}

-- the bytes are at the start of the buffer where they fit, and their length is given; otherwise the buffer is as it was
pub record IsWritten (bytes old new : List ℕ) (given : ℕ) : Type 0 where
  pub given_is : given ≡ length bytes
  pub fits : length bytes ≤ length old → new ≡ bytes ++ drop (length bytes) old
  pub short : length old < length bytes → new ≡ old
