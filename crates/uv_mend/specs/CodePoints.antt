-- Texts as lists of code points, and parts of them.
use Rattle.std.specs.Prelude.{◌≡◌, ℕ, List, [], ◌∷◌, ◌++◌}

-- the text ends with the rest
abbrev pub IsRestOf : List ℕ → List ℕ → Type 0
IsRestOf text rest = (before : List ℕ) × (text ≡ before ++ rest)

-- the text without its first code point
abbrev pub after_one : List ℕ → List ℕ
after_one [] = []
after_one (c ∷ rest) = rest

-- only the first code point, where there is one
abbrev pub first_alone : List ℕ → List ℕ
first_alone [] = []
first_alone (c ∷ rest) = c ∷ []

-- the last code point, and what is before it
abbrev pub IsLastOf : List ℕ → List ℕ → ℕ → Type 0
IsLastOf text before last = text ≡ before ++ last ∷ []
