-- A stream, read or written, as contracts see it.
use Rattle.std.specs.Prelude.{ℕ, List, Option}

-- the bytes that a source has still to give or that a sink holds, where they are known, and how many of its calls have
-- failed
pub record Stream : Type 0 where
  pub bytes : Option (List ℕ)
  pub failed : ℕ

-- the stream with these bytes, of which so many calls have failed
abbrev pub stream : Option (List ℕ) → ℕ → Stream
stream bytes failed = record { bytes = bytes; failed = failed }
