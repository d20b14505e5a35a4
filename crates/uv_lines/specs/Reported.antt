-- What a reporter says of lines, one after the other. It goes from state to state: what it says of a line may depend on
-- the lines before it, as a number does.
use Rattle.std.specs.Prelude.{◌≡◌, ℕ, ◌⊎◌, List, [], ◌∷◌, ◌++◌, Option, take}
use Rattle.std.specs.Io.KnownBytes.{Appends}
use Rattle.uv_lines.specs.Lines.{short_line}

-- from one state to another the lines were reported on, by this text
abbrev pub Reported : {S : Type 0} → (S → Option (List ℕ) → List ℕ → S → Type 0) → ℕ → S → List (List ℕ) → List ℕ → S
    → Type 0
Reported reports line_bytes start [] text now = (text ≡ []) × (now ≡ start)
Reported {S} reports line_bytes start (line ∷ lines) text now =
    (prefix : List ℕ) × (rest : List ℕ) × (next : S) × reports start (short_line line_bytes line) prefix next
    × Reported reports line_bytes next lines rest now × (text ≡ prefix ++ rest)

-- The lines before the last one were reported on, and of that only the first parts were said: the reporter is as it was
-- before that line.
pub record ReportedBegun {S : Type 0} (reports : S → Option (List ℕ) → List ℕ → S → Type 0)
    (begins : S → Option (List ℕ) → List ℕ → Type 0) (line_bytes : ℕ) (start : S) (lines : List (List ℕ))
    (text : List ℕ) (now : S) : Type 0 where
  pub before : List (List ℕ)
  pub line : List ℕ
  pub are : lines ≡ before ++ line ∷ []
  pub said : List ℕ
  pub parts : List ℕ
  pub reported : Reported reports line_bytes start before said now
  pub begun : begins now (short_line line_bytes line) parts
  pub whole : text ≡ said ++ parts

-- the lines were reported on, or the last of them was begun
abbrev pub ReportedPart : {S : Type 0} → (S → Option (List ℕ) → List ℕ → S → Type 0)
    → (S → Option (List ℕ) → List ℕ → Type 0) → ℕ → S → List (List ℕ) → List ℕ → S → Type 0
ReportedPart reports begins line_bytes start lines text now =
    Reported reports line_bytes start lines text now ⊎ ReportedBegun reports begins line_bytes start lines text now

-- ---- reports that are written. A report is given by what it is: of these lines this text, which leaves the reporter
-- in this state.

-- the report on the lines was written
pub record Wrote {S : Type 0} (IsReport : List (List ℕ) → List ℕ → S → Type 0) (lines : List (List ℕ))
    (old new : Option (List ℕ)) (now : S) : Type 0 where
  pub text : List ℕ
  pub reported : IsReport lines text now
  pub wrote : Appends old new text

-- a prefix of it was
pub record Cut {S : Type 0} (IsReport : List (List ℕ) → List ℕ → S → Type 0) (lines : List (List ℕ))
    (old new : Option (List ℕ)) (now : S) : Type 0 where
  pub text : List ℕ
  pub reported : IsReport lines text now
  pub prefix : ℕ
  pub wrote : Appends old new (take prefix text)
