-- Readers and writers that play a list of answers: how they answer a call, and what is left of their list.
use Rattle.std.specs.Prelude.{◌≡◌, ℕ, Bool, false, List, [], ◌∷◌, ◌++◌, ◌==◌, drop, length, min, Result, Ok, Err}
use Rattle.std.specs.Prelude.{IsErr, Option, Some, None}
use Rattle.std.specs.Borrow.{Bor}

-- A source that plays answers: a piece of bytes each, or none for a failure.
pub record SourceScript : Type 0 where
  pub answers : List (Option (List ℕ))
  pub failures : ℕ

-- A sink that plays answers: how many bytes it takes, or none for a failure.
pub record SinkScript : Type 0 where
  pub bytes : List ℕ
  -- how many more it has room for
  pub room : ℕ
  pub answers : List (Option ℕ)
  pub failures : ℕ

-- these answers to reads
abbrev pub read_answers : {E : Type 0} → List (Result (Bor (List ℕ)) E) → List (Option (List ℕ))
read_answers [] = []
read_answers (Ok piece ∷ answers) = Some piece.now ∷ read_answers answers
read_answers (Err fault ∷ answers) = None ∷ read_answers answers

-- these answers to writes
abbrev pub write_answers : {E : Type 0} → List (Result ℕ E) → List (Option ℕ)
write_answers [] = []
write_answers (Ok count ∷ answers) = Some count ∷ write_answers answers
write_answers (Err fault ∷ answers) = None ∷ write_answers answers

-- the bytes that these answers give: their pieces, in order
abbrev pub given : List (Option (List ℕ)) → List ℕ
given [] = []
given (None ∷ answers) = given answers
given (Some piece ∷ answers) = piece ++ given answers

-- an answer of a piece that has no bytes, which would be the end
abbrev pub is_empty_piece : {E : Type 0} → Result (Bor (List ℕ)) E → Bool
is_empty_piece (Ok piece) = length piece.now == 0
is_empty_piece (Err fault) = false

-- these answers after what is left of a piece, if anything is
abbrev pub after : List ℕ → List (Option (List ℕ)) → List (Option (List ℕ))
after [] answers = answers
after (byte ∷ piece) answers = Some (byte ∷ piece) ∷ answers

-- A read with room for so many bytes has the first answer: a piece as far as there is room for it, or a failure. After
-- the last answer it is at the end.
abbrev pub PlaysRead : {E : Type 0} → List (Option (List ℕ)) → ℕ → Result ℕ E → List (Option (List ℕ)) → Type 0
PlaysRead [] room result left = (result ≡ Ok 0) × (left ≡ [])
PlaysRead (None ∷ answers) room result left = IsErr result × (left ≡ answers)
PlaysRead (Some piece ∷ answers) room result left =
    (result ≡ Ok (min (length piece) room))
    × (left ≡ after (drop (min (length piece) room) piece) answers)

-- A write of so many bytes has the first answer: a count of bytes to take, as far as there are so many and there is
-- room for them, or a failure. After the last answer it fails.
abbrev pub PlaysWrite : {E : Type 0} → List (Option ℕ) → ℕ → ℕ → Result ℕ E → List (Option ℕ) → Type 0
PlaysWrite [] room bytes result left = IsErr result × (left ≡ [])
PlaysWrite (None ∷ answers) room bytes result left = IsErr result × (left ≡ answers)
PlaysWrite (Some count ∷ answers) room bytes result left =
    (result ≡ Ok (min count (min bytes room))) × (left ≡ answers)
