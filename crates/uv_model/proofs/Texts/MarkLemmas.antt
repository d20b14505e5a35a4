-- Texts cut at a mark: what is before the first one and what follows it.
use Rattle.std.proofs.Common.{◌≡◌, ℕ, ◌+◌, suc, true, false, not, ◌==◌, List, [], ◌∷◌, ◌++◌, Option, Some, None, refl}
use Rattle.std.proofs.Common.{sym, ap, ◌∙◌, inl, inr, arith, append-nil}
use Rattle.std.specs.Prelude.{if◌then◌else◌}
use Rattle.std.specs.List.{after_first, position_or_len}
use Rattle.std.proofs.lemmas.Bool.{false≢true, cases_Bool, and_parts, and_from, and_right, eqb-true, eq-eqb}
use Rattle.std.proofs.lemmas.List.Folds.{list_all-append}
use Rattle.std.proofs.lemmas.List.Sums.{take_while-cons}
use Rattle.uv_model.specs.Parts.{written_after}
use Rattle.uv_model.specs.Path.{is_without}
use Rattle.uv_model.specs.Cut.{text_after, text_before}

-- a text without a mark, at its first code point
pub is_without-cons : (mark c : ℕ) (rest : List ℕ) → is_without mark (c ∷ rest) ≡ true
    → ((c == mark) ≡ false) × (is_without mark rest ≡ true)
is_without-cons mark c rest none =
    let parts = and_parts (if c == mark then false else true) (is_without mark rest) none in
    elim (cases_Bool (c == mark)) [
      | inl same ↦ absurd (false≢true (rw same at parts.0))
      | inr other ↦ (other, parts.1)
    ]

-- a code point that isn't the mark before a text without it
pub is_without-more : (mark c : ℕ) (rest : List ℕ) → (c == mark) ≡ false → is_without mark rest ≡ true
    → is_without mark (c ∷ rest) ≡ true
is_without-more mark c rest other none = rw other none

-- two texts without a mark make one
pub is_without-append : (mark : ℕ) (xs ys : List ℕ) → is_without mark xs ≡ true → is_without mark ys ≡ true
    → is_without mark (xs ++ ys) ≡ true
is_without-append mark xs ys first second =
    list_all-append (λ c. if c == mark then false else true) xs ys ∙ and_from _ _ first second

-- both sides of a text without a mark are without it
pub is_without-parts : (mark : ℕ) (xs ys : List ℕ) → is_without mark (xs ++ ys) ≡ true
    → (is_without mark xs ≡ true) × (is_without mark ys ≡ true)
is_without-parts mark xs ys none =
    and_parts (is_without mark xs) (is_without mark ys)
    (sym (list_all-append (λ c. if c == mark then false else true) xs ys) ∙ none)

-- ---- what is before the first mark

text_before-same : (mark c : ℕ) (rest : List ℕ) → (c == mark) ≡ true → text_before mark (c ∷ rest) ≡ []
text_before-same mark c rest same = take_while-cons (λ x. not (x == mark)) c rest ∙ rw same refl

-- another code point than the mark is before it, with what follows
pub text_before-other : (mark c : ℕ) (rest : List ℕ) → (c == mark) ≡ false
    → text_before mark (c ∷ rest) ≡ c ∷ text_before mark rest
text_before-other mark c rest other = take_while-cons (λ x. not (x == mark)) c rest ∙ rw other refl

after_first-same : (mark c : ℕ) (rest : List ℕ) → (c == mark) ≡ true → after_first (λ x. x == mark) (c ∷ rest) ≡ rest
after_first-same mark c rest same = rw same refl

after_first-other : (mark c : ℕ) (rest : List ℕ) → (c == mark) ≡ false
    → after_first (λ x. x == mark) (c ∷ rest) ≡ after_first (λ x. x == mark) rest
after_first-other mark c rest other =
    let n = position_or_len (λ x. x == mark) rest in
    let moved : (1 + n) + 1 ≡ suc (n + 1) = omega arith in
    rw (other, moved) refl

-- what is before the first mark is without it
pub is_without-before : (mark : ℕ) (text : List ℕ) → is_without mark (text_before mark text) ≡ true
is_without-before mark [] = refl
is_without-before mark (c ∷ rest) = elim (cases_Bool (c == mark)) [
  | inl same ↦ rw (text_before-same mark c rest same) refl
  | inr other ↦ rw (text_before-other mark c rest other) (is_without-more mark c _ other (is_without-before mark rest))
]

-- a text without the mark is before it whole
pub text_before-none : (mark : ℕ) (text : List ℕ) → is_without mark text ≡ true → text_before mark text ≡ text
text_before-none mark [] none = refl
text_before-none mark (c ∷ rest) none =
    let parts = is_without-cons mark c rest none in
    text_before-other mark c rest parts.0 ∙ ap (λ xs. c ∷ xs) (text_before-none mark rest parts.1)

-- a text before a mark is before the first one, if it is without it
pub text_before-mark : (mark : ℕ) (xs ys : List ℕ) → is_without mark xs ≡ true → text_before mark (xs ++ mark ∷ ys) ≡ xs
text_before-mark mark [] ys none = text_before-same mark mark ys (eq-eqb mark mark refl)
text_before-mark mark (c ∷ xs) ys none =
    let parts = is_without-cons mark c xs none in
    text_before-other mark c (xs ++ mark ∷ ys) parts.0 ∙ ap (λ zs. c ∷ zs) (text_before-mark mark xs ys parts.1)

-- ---- what follows the first mark

-- a text after the first mark
pub after_first-mark : (mark : ℕ) (xs ys : List ℕ) → is_without mark xs ≡ true
    → after_first (λ x. x == mark) (xs ++ mark ∷ ys) ≡ ys
after_first-mark mark [] ys none = after_first-same mark mark ys (eq-eqb mark mark refl)
after_first-mark mark (c ∷ xs) ys none =
    let parts = is_without-cons mark c xs none in
    after_first-other mark c (xs ++ mark ∷ ys) parts.0 ∙ after_first-mark mark xs ys parts.1

-- a text with a mark isn't without it
pub has_mark : (mark : ℕ) (xs ys : List ℕ) → is_without mark (xs ++ mark ∷ ys) ≡ false
has_mark mark [] ys = rw (eq-eqb mark mark refl) refl
has_mark mark (c ∷ xs) ys = and_right _ _ (has_mark mark xs ys)

-- a text around its first mark
pub at_first_mark : (mark : ℕ) (text : List ℕ) → is_without mark text ≡ false
    → text ≡ text_before mark text ++ mark ∷ after_first (λ x. x == mark) text
at_first_mark mark [] some = absurd cc
at_first_mark mark (c ∷ rest) some = elim (cases_Bool (c == mark)) [
  | inl same ↦
      let is : c ≡ mark = eqb-true c mark same in
      rw (text_before-same mark c rest same, after_first-same mark c rest same) (ap (λ x. x ∷ rest) is)
  | inr other ↦
      let later : is_without mark rest ≡ false = rw other at some in
      rw (text_before-other mark c rest other, after_first-other mark c rest other)
      (ap (λ xs. c ∷ xs) (at_first_mark mark rest later))
]

-- ---- a text that may follow the first mark

-- the text before a mark that may be there
pub before_written : (mark : ℕ) (xs : List ℕ) (rest : Option (List ℕ)) → is_without mark xs ≡ true
    → text_before mark (xs ++ written_after mark rest) ≡ xs
before_written mark xs None none = rw (append-nil xs) (text_before-none mark xs none)
before_written mark xs (Some ys) none = text_before-mark mark xs ys none

-- the text after a mark that may be there
pub after_written : (mark : ℕ) (xs : List ℕ) (rest : Option (List ℕ)) → is_without mark xs ≡ true
    → text_after mark (xs ++ written_after mark rest) ≡ rest
after_written mark xs None none = rw (append-nil xs, none) refl
after_written mark xs (Some ys) none = rw (has_mark mark xs ys) (ap Some (after_first-mark mark xs ys none))

-- a text is what is before the first mark and what may follow it
pub written_mark : (mark : ℕ) (text : List ℕ)
    → text ≡ text_before mark text ++ written_after mark (text_after mark text)
written_mark mark text = elim (cases_Bool (is_without mark text)) [
  | inl none ↦ rw (none, text_before-none mark text none) (sym (append-nil text))
  | inr some ↦ rw some (at_first_mark mark text some)
]

-- of two texts that are empty together each is
pub append_none : (xs ys : List ℕ) → xs ++ ys ≡ [] → (xs ≡ []) × (ys ≡ [])
append_none [] ys none = (refl, none)
append_none (x ∷ xs) ys none = absurd cc
