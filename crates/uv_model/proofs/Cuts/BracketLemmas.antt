-- A place is within brackets exactly when the nearest bracket before it is `[`.
use Rattle.std.proofs.Common.{◌≡◌, ℕ, Bool, true, false, ◌==◌, ◌⊎◌, List, [], ◌∷◌, ◌++◌, refl, ap, ◌∙◌, inl, inr}
use Rattle.std.proofs.lemmas.Bool.{false≢true, cases_Bool, eqb-true}
use Rattle.uv_model.specs.Ascii.{left_bracket, right_bracket}
use Rattle.uv_model.specs.Cut.{is_within, is_within_at_end, ends_within}
use Rattle.uv_model.specs.Laws.Cuts.{EndsAfterOpenBracket, NearestBracketsDecide}
use Rattle.uv_model.specs.Path.{is_without}
use Rattle.uv_model.proofs.Texts.MarkLemmas.{is_without-cons, is_without-more}

-- a text holds no bracket
pub record HasNoBracket (text : List ℕ) : Type 0 where
  pub none_opens : is_without left_bracket text ≡ true
  pub none_closes : is_without right_bracket text ≡ true

-- a code point that isn't a bracket, before a text without brackets
no_bracket-cons : (c : ℕ) (rest : List ℕ) → (c == left_bracket) ≡ false → (c == right_bracket) ≡ false
    → HasNoBracket rest → HasNoBracket (c ∷ rest)
no_bracket-cons c rest left right none = record {
  none_opens = is_without-more left_bracket c rest left none.none_opens;
  none_closes = is_without-more right_bracket c rest right none.none_closes;
}

-- a code point before a text that ends after an open bracket
after-cons : (c : ℕ) (rest : List ℕ) → EndsAfterOpenBracket rest → EndsAfterOpenBracket (c ∷ rest)
after-cons c rest is = record {
  before = c ∷ is.before;
  inner = is.inner;
  spelled = ap (λ xs. c ∷ xs) is.spelled;
  none_opens = is.none_opens;
  none_closes = is.none_closes;
}

-- a `[` before a text without brackets
opened : (c : ℕ) (rest : List ℕ) → (c == left_bracket) ≡ true → HasNoBracket rest → EndsAfterOpenBracket (c ∷ rest)
opened c rest same none = record {
  before = [];
  inner = rest;
  spelled = ap (λ x. x ∷ rest) (eqb-true c left_bracket same);
  none_opens = none.none_opens;
  none_closes = none.none_closes;
}

-- within brackets at its end, a text was so from its start and holds no bracket, or it has an open one
nearest_opens : (within : Bool) (text : List ℕ) → is_within_at_end within text ≡ true
    → ((within ≡ true) × HasNoBracket text) ⊎ EndsAfterOpenBracket text
nearest_opens within [] ends = inl (ends, record { none_opens = refl; none_closes = refl })
nearest_opens within (c ∷ rest) ends =
    elim (nearest_opens (is_within within c) rest ends) [
      | inr after ↦ inr (after-cons c rest after)
      | inl (start, none) ↦
          elim (cases_Bool (c == left_bracket)) [
            | inl left ↦ inr (opened c rest left none)
            | inr left ↦
                elim (cases_Bool (c == right_bracket)) [
                  | inl right ↦ absurd (false≢true (rw (left, right) at start))
                  | inr right ↦ inl (rw (left, right) at start, no_bracket-cons c rest left right none)
                ]
          ]
    ]

-- no bracket changes nothing
stays : (within : Bool) (text : List ℕ) → HasNoBracket text → is_within_at_end within text ≡ within
stays within [] none = refl
stays within (c ∷ rest) none =
    let left = is_without-cons left_bracket c rest none.none_opens in
    let right = is_without-cons right_bracket c rest none.none_closes in
    rw (left.0, right.0) (stays within rest (record { none_opens = left.1; none_closes = right.1 }))

-- an open bracket after any text
after_opened : (within : Bool) (before inner : List ℕ) → HasNoBracket inner
    → is_within_at_end within (before ++ left_bracket ∷ inner) ≡ true
after_opened within [] inner none = stays true inner none
after_opened within (c ∷ before) inner none = after_opened (is_within within c) before inner none

-- the law
pub nearest_brackets_decide : NearestBracketsDecide
nearest_brackets_decide text = (forth, back)
  where
    forth : ends_within text ≡ true → EndsAfterOpenBracket text
    forth ends =
        elim (nearest_opens false text ends) [
          | inl (start, none) ↦ absurd (false≢true start)
          | inr after ↦ after
        ]

    back : EndsAfterOpenBracket text → ends_within text ≡ true
    back is =
        ap (is_within_at_end false) is.spelled
        ∙ after_opened false is.before is.inner
        (record { none_opens = is.none_opens; none_closes = is.none_closes })
