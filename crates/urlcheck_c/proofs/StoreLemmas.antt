-- A list written to the start of another, element by element.
use Rattle.std.proofs.Common.{◌≡◌, ℕ, ◌+◌, ◌≤◌, ◌<◌, List, [], ◌∷◌, ◌++◌, length, get_or, set, take, drop, map, refl}
use Rattle.std.proofs.Common.{sym, ap, ◌∙◌, arith}
use Rattle.std.proofs.lemmas.List.{drop-drop, drop_all, get_or-map, length-map, length-take-le, set-get_or, take-map}
use Rattle.std.proofs.lemmas.Grind.{drop-set_at, take-set_at}

-- a prefix with one element more
prefix_more : {X : Type 0} (ys : List X) (i : ℕ) (d : X) → i < length ys
    → take (i + 1) ys ≡ take i ys ++ (get_or ys i d ∷ [])
prefix_more ys i d below =
    ap (take (i + 1)) (sym (set-get_or ys i d)) ∙ take-set_at ys i (i + 1) (get_or ys i d) refl below

-- the next element is written
pub written_more : {X Y : Type 0} (f : X → Y) (xs : List X) (now : List Y) (i : ℕ) (d : X) (e : Y) → i < length xs
    → i < length now → take i now ≡ take i (map f xs) → e ≡ f (get_or xs i d)
    → take (i + 1) (set now i e) ≡ take (i + 1) (map f xs)
written_more f xs now i d e below room prefix is =
    take-set_at now i (i + 1) e refl room
    ∙ ap (λ t. t ++ (e ∷ [])) prefix
    ∙ ap (λ y. take i (map f xs) ++ (y ∷ [])) (is ∙ sym (get_or-map f xs i d e below))
    ∙ sym (prefix_more (map f xs) i e (rw (length-map xs f) below))

-- what is after it stays
pub kept_more : {Y : Type 0} (old now : List Y) (i : ℕ) (e : Y) → i < length now → drop i now ≡ drop i old
    → drop (i + 1) (set now i e) ≡ drop (i + 1) old
kept_more old now i e room rest =
    sym (drop-drop 1 i (set now i e)) ∙ ap (drop 1) (drop-set_at now i i e refl room)
    ∙ sym (drop-drop 1 i now) ∙ ap (drop 1) rest ∙ drop-drop 1 i old

-- a list that is longer is cut off
pub prefix_cut : {X Y : Type 0} (f : X → Y) (xs : List X) (old : List Y) → length old ≤ length xs
    → map f (take (length old) xs) ++ drop (length (take (length old) xs)) old
    ≡ take (length old) (map f xs) ++ drop (length xs) old
prefix_cut f xs old longer =
    let long : length (take (length old) xs) ≡ length old = length-take-le (length old) xs longer in
    ap (λ t. map f (take (length old) xs) ++ t) (drop_all (length (take (length old) xs)) old (omega (arith, long)))
    ∙ ap (λ t. t ++ []) (sym (take-map f (length old) xs))
    ∙ ap (λ t. take (length old) (map f xs) ++ t) (sym (drop_all (length xs) old longer))
