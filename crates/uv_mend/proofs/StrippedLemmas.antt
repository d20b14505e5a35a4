-- Texts without the controls and spaces at their end.
use Rattle.std.proofs.Common.{◌≡◌, ℕ, true, false, List, [], ◌∷◌, ◌++◌, reverse, refl, subst, sym, ap, ◌∙◌}
use Rattle.std.proofs.lemmas.List.{reverse-append, reverse-reverse}
use Rattle.uv_mend.specs.Stripped.{after_controls, before_controls, is_control_or_space}

-- of an empty text nothing is taken
pub before_controls-none : before_controls [] ≡ []
unfolding before_controls
before_controls-none = refl

-- one after the text is taken off
pub before_controls-one : (text : List ℕ) (c : ℕ) → is_control_or_space c ≡ true
    → before_controls (text ++ c ∷ []) ≡ before_controls text
unfolding before_controls
before_controls-one text c is =
    let reversed = reverse-append text (c ∷ []) in
    ap (λ t. reverse (after_controls t)) reversed ∙ ap reverse (after c (reverse text) is)
  where
    after : (c : ℕ) (rest : List ℕ) → is_control_or_space c ≡ true → after_controls (c ∷ rest) ≡ after_controls rest
    after c rest is = rw is refl

-- another code point ends the text
pub before_controls-other : (text : List ℕ) (c : ℕ) → is_control_or_space c ≡ false
    → before_controls (text ++ c ∷ []) ≡ text ++ c ∷ []
unfolding before_controls
before_controls-other text c isnt =
    let reversed = reverse-append text (c ∷ []) in
    ap (λ t. reverse (after_controls t)) reversed ∙ ap reverse (after c (reverse text) isnt)
    ∙ ap reverse (sym reversed) ∙ reverse-reverse (text ++ c ∷ [])
  where
    after : (c : ℕ) (rest : List ℕ) → is_control_or_space c ≡ false → after_controls (c ∷ rest) ≡ c ∷ rest
    after c rest isnt = rw isnt refl

-- what holds of no code points, and of more by one at the end, holds of each text
pub from_ends : (P : List ℕ → Type 0) → P [] → ((front : List ℕ) (c : ℕ) → P front → P (front ++ c ∷ []))
    → (text : List ℕ) → P text
from_ends P none more text = subst P (reverse-reverse text) (turned (reverse text))
  where
    turned : (list : List ℕ) → P (reverse list)
    turned [] = none
    turned (c ∷ rest) = subst P (sym (reverse-append (c ∷ []) rest)) (more (reverse rest) c (turned rest))
