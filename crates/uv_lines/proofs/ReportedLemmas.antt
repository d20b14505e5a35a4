-- The report on a list to which a line is added, and on a line of which a prefix is kept.
use Rattle.std.proofs.Common.{◌≡◌, ℕ, ◌+◌, ◌<◌, List, [], ◌∷◌, ◌++◌, Option, None, false, nat_le, length, take, refl}
use Rattle.std.proofs.Common.{sym, ap, ◌∙◌, subst, arith, append_assoc, append-nil, inl, inr, take_all}
use Rattle.std.proofs.lemmas.Grind.{common_steps}
use Rattle.std.proofs.lemmas.Bool.{cases_lt}
use Rattle.std.proofs.lemmas.List.{length-take}
use Rattle.std.specs.Str.Lines.{strip_carriage_return}
use Rattle.uv_lines.specs.Lines.{short_line}
use Rattle.uv_lines.specs.Reported.{Reported}
use Rattle.uv_lines.proofs.LineLemmas.{strip_at_most}

-- the report on one line more
pub Reported-snoc : {S : Type 0} (reports : S → Option (List ℕ) → List ℕ → S → Type 0) (n : ℕ) (p : S)
    (lines : List (List ℕ)) (line text said : List ℕ) (q r : S) → Reported reports n p lines text q
    → reports q (short_line n line) said r → Reported reports n p (lines ++ line ∷ []) (text ++ said) r
Reported-snoc reports n p [] line text said q r all one = (
  said,
  [],
  r,
  subst (λ s. reports s (short_line n line) said r) all.1 one,
  (refl, refl),
  ap (λ t. t ++ said) all.0 ∙ sym (append-nil said),
)
Reported-snoc reports n p (l ∷ ls) line text said q r all one =
    let rest = all.1 in
    let next = all.2 in (
      all.0,
      rest ++ said,
      next,
      all.3,
      Reported-snoc reports n next ls line rest said q r all.4 one,
      ap (λ t. t ++ said) all.5 ∙ append_assoc all.0 rest said,
    )

-- a line that is too long isn't a short line
short_line-long : (n : ℕ) (line : List ℕ) → n < length line → short_line n line ≡ None
short_line-long n line long =
    let over : nat_le (length line) n ≡ false = grind (arith, common_steps, long) in
    rw over refl

-- a line of which a prefix is kept, two bytes longer than a line may be, is reported on as the whole: without the CR at
-- its end
pub kept_short_line : (n : ℕ) (line : List ℕ)
    → short_line n (strip_carriage_return (take (n + 2) line)) ≡ short_line n (strip_carriage_return line)
kept_short_line n line =
    elim (cases_lt (n + 2) (length line)) [
      | inl h ↦ (
          let kept = strip_at_most (take (n + 2) line) in
          let whole = strip_at_most line in
          let size : length (take (n + 2) line) ≡ n + 2 = length-take (n + 2) line ∙ omega arith in
          short_line-long n (strip_carriage_return (take (n + 2) line)) (omega (arith, kept, size))
          ∙ sym (short_line-long n (strip_carriage_return line) (omega (arith, whole, h))))
      | inr h ↦ ap (λ l. short_line n (strip_carriage_return l)) (take_all (n + 2) line h)
    ]

-- and with it
pub kept_short_line_open : (n : ℕ) (line : List ℕ) → short_line n (take (n + 2) line) ≡ short_line n line
kept_short_line_open n line =
    elim (cases_lt (n + 2) (length line)) [
      | inl h ↦ (
          let size : length (take (n + 2) line) ≡ n + 2 = length-take (n + 2) line ∙ omega arith in
          short_line-long n (take (n + 2) line) (omega (arith, size)) ∙ sym (short_line-long n line (omega (arith, h))))
      | inr h ↦ ap (λ l. short_line n l) (take_all (n + 2) line h)
    ]
