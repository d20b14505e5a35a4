-- The places to which the IPv6 parser moves the pieces after `::`, for each of the 36 pairs of lengths.
use Rattle.std.proofs.Common.{◌≡◌, ℕ, ◌+◌, ◌-◌, ◌<◌, List, [], ◌∷◌, ◌++◌, length, refl, arith}
use Rattle.std.specs.Prelude.{replicate}
use Rattle.uv_parser.specs.Ipv6Parser.{move}

-- the pieces after `::` go to the end, and the zeros before them
abbrev pub Moved : List ℕ → List ℕ → Type 0
Moved head tail =
    move (length tail) 7 (length head + 1) (head ++ (0 ∷ tail) ++ replicate (7 - length head - length tail) 0)
    ≡ head ++ replicate (8 - length head - length tail) 0 ++ tail

-- no piece before `::`
moved_none : (tail : List ℕ) → length tail < 8 → Moved [] tail
unfolding move
moved_none [] room = refl
moved_none (x0 ∷ []) room = refl
moved_none (x0 ∷ x1 ∷ []) room = refl
moved_none (x0 ∷ x1 ∷ x2 ∷ []) room = refl
moved_none (x0 ∷ x1 ∷ x2 ∷ x3 ∷ []) room = refl
moved_none (x0 ∷ x1 ∷ x2 ∷ x3 ∷ x4 ∷ []) room = refl
moved_none (x0 ∷ x1 ∷ x2 ∷ x3 ∷ x4 ∷ x5 ∷ []) room = refl
moved_none (x0 ∷ x1 ∷ x2 ∷ x3 ∷ x4 ∷ x5 ∷ x6 ∷ []) room = refl
moved_none (x0 ∷ x1 ∷ x2 ∷ x3 ∷ x4 ∷ x5 ∷ x6 ∷ x7 ∷ rest) room = absurd (omega arith)

-- one piece before `::`
moved_one : (a : ℕ) (tail : List ℕ) → length tail < 7 → Moved (a ∷ []) tail
unfolding move
moved_one a [] room = refl
moved_one a (x0 ∷ []) room = refl
moved_one a (x0 ∷ x1 ∷ []) room = refl
moved_one a (x0 ∷ x1 ∷ x2 ∷ []) room = refl
moved_one a (x0 ∷ x1 ∷ x2 ∷ x3 ∷ []) room = refl
moved_one a (x0 ∷ x1 ∷ x2 ∷ x3 ∷ x4 ∷ []) room = refl
moved_one a (x0 ∷ x1 ∷ x2 ∷ x3 ∷ x4 ∷ x5 ∷ []) room = refl
moved_one a (x0 ∷ x1 ∷ x2 ∷ x3 ∷ x4 ∷ x5 ∷ x6 ∷ rest) room = absurd (omega arith)

-- two pieces before `::`
moved_two : (a b : ℕ) (tail : List ℕ) → length tail < 6 → Moved (a ∷ b ∷ []) tail
unfolding move
moved_two a b [] room = refl
moved_two a b (x0 ∷ []) room = refl
moved_two a b (x0 ∷ x1 ∷ []) room = refl
moved_two a b (x0 ∷ x1 ∷ x2 ∷ []) room = refl
moved_two a b (x0 ∷ x1 ∷ x2 ∷ x3 ∷ []) room = refl
moved_two a b (x0 ∷ x1 ∷ x2 ∷ x3 ∷ x4 ∷ []) room = refl
moved_two a b (x0 ∷ x1 ∷ x2 ∷ x3 ∷ x4 ∷ x5 ∷ rest) room = absurd (omega arith)

-- three pieces before `::`
moved_three : (a b c : ℕ) (tail : List ℕ) → length tail < 5 → Moved (a ∷ b ∷ c ∷ []) tail
unfolding move
moved_three a b c [] room = refl
moved_three a b c (x0 ∷ []) room = refl
moved_three a b c (x0 ∷ x1 ∷ []) room = refl
moved_three a b c (x0 ∷ x1 ∷ x2 ∷ []) room = refl
moved_three a b c (x0 ∷ x1 ∷ x2 ∷ x3 ∷ []) room = refl
moved_three a b c (x0 ∷ x1 ∷ x2 ∷ x3 ∷ x4 ∷ rest) room = absurd (omega arith)

-- four pieces before `::`
moved_four : (a b c d : ℕ) (tail : List ℕ) → length tail < 4 → Moved (a ∷ b ∷ c ∷ d ∷ []) tail
unfolding move
moved_four a b c d [] room = refl
moved_four a b c d (x0 ∷ []) room = refl
moved_four a b c d (x0 ∷ x1 ∷ []) room = refl
moved_four a b c d (x0 ∷ x1 ∷ x2 ∷ []) room = refl
moved_four a b c d (x0 ∷ x1 ∷ x2 ∷ x3 ∷ rest) room = absurd (omega arith)

-- five pieces before `::`
moved_five : (a b c d e : ℕ) (tail : List ℕ) → length tail < 3 → Moved (a ∷ b ∷ c ∷ d ∷ e ∷ []) tail
unfolding move
moved_five a b c d e [] room = refl
moved_five a b c d e (x0 ∷ []) room = refl
moved_five a b c d e (x0 ∷ x1 ∷ []) room = refl
moved_five a b c d e (x0 ∷ x1 ∷ x2 ∷ rest) room = absurd (omega arith)

-- six pieces before `::`
moved_six : (a b c d e f : ℕ) (tail : List ℕ) → length tail < 2 → Moved (a ∷ b ∷ c ∷ d ∷ e ∷ f ∷ []) tail
unfolding move
moved_six a b c d e f [] room = refl
moved_six a b c d e f (x0 ∷ []) room = refl
moved_six a b c d e f (x0 ∷ x1 ∷ rest) room = absurd (omega arith)

-- seven pieces before `::`
moved_seven : (a b c d e f g : ℕ) (tail : List ℕ) → length tail < 1 → Moved (a ∷ b ∷ c ∷ d ∷ e ∷ f ∷ g ∷ []) tail
unfolding move
moved_seven a b c d e f g [] room = refl
moved_seven a b c d e f g (x0 ∷ rest) room = absurd (omega arith)

-- every pair
pub moved : (head tail : List ℕ) → length head + length tail < 8 → Moved head tail
moved [] tail room = moved_none tail (omega arith)
moved (a ∷ []) tail room = moved_one a tail (omega arith)
moved (a ∷ b ∷ []) tail room = moved_two a b tail (omega arith)
moved (a ∷ b ∷ c ∷ []) tail room = moved_three a b c tail (omega arith)
moved (a ∷ b ∷ c ∷ d ∷ []) tail room = moved_four a b c d tail (omega arith)
moved (a ∷ b ∷ c ∷ d ∷ e ∷ []) tail room = moved_five a b c d e tail (omega arith)
moved (a ∷ b ∷ c ∷ d ∷ e ∷ f ∷ []) tail room = moved_six a b c d e f tail (omega arith)
moved (a ∷ b ∷ c ∷ d ∷ e ∷ f ∷ g ∷ []) tail room = moved_seven a b c d e f g tail (omega arith)
moved (a ∷ b ∷ c ∷ d ∷ e ∷ f ∷ g ∷ h ∷ rest) tail room = absurd (omega arith)
