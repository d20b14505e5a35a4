-- Texts that are put one after the other.
use Rattle.std.proofs.Common.{◌≡◌, ℕ, List, [], ◌∷◌, ◌++◌, refl, ◌∙◌, ap, append_assoc, flat_map, map}

-- three pieces after a start
pub three_pieces : (start a b c : List ℕ) {t1 t2 t3 : List ℕ}
    → t1 ≡ start ++ a → t2 ≡ t1 ++ b → t3 ≡ t2 ++ c → t3 ≡ start ++ (a ++ (b ++ c))
three_pieces start a b c {t1} {t2} {t3} e1 e2 e3 =
    let whole : t3 ≡ ((start ++ a) ++ b) ++ c = rw (e3, e2, e1) refl in
    whole ∙ simp append_assoc

-- five pieces after a start
pub five_pieces : (start a b c d e : List ℕ) {t1 t2 t3 t4 t5 : List ℕ}
    → t1 ≡ start ++ a → t2 ≡ t1 ++ b → t3 ≡ t2 ++ c → t4 ≡ t3 ++ d → t5 ≡ t4 ++ e
    → t5 ≡ start ++ (a ++ (b ++ (c ++ (d ++ e))))
five_pieces start a b c d e {t1} {t2} {t3} {t4} {t5} e1 e2 e3 e4 e5 =
    let whole : t5 ≡ ((((start ++ a) ++ b) ++ c) ++ d) ++ e = rw (e5, e4, e3, e2, e1) refl in
    whole ∙ simp append_assoc

-- six pieces after a start
pub six_pieces : (start a b c d e f : List ℕ) {t1 t2 t3 t4 t5 t6 : List ℕ}
    → t1 ≡ start ++ a → t2 ≡ t1 ++ b → t3 ≡ t2 ++ c → t4 ≡ t3 ++ d → t5 ≡ t4 ++ e → t6 ≡ t5 ++ f
    → t6 ≡ start ++ (a ++ (b ++ (c ++ (d ++ (e ++ f)))))
six_pieces start a b c d e f {t1} {t2} {t3} {t4} {t5} {t6} e1 e2 e3 e4 e5 e6 =
    let whole : t6 ≡ (((((start ++ a) ++ b) ++ c) ++ d) ++ e) ++ f = rw (e6, e5, e4, e3, e2, e1) refl in
    whole ∙ simp append_assoc

-- the pieces of what other elements stand for
pub flat_map_mapped : {X Y : Type 0} (f : Y → List ℕ) (g : X → Y) (xs : List X)
    → flat_map (λ x. f (g x)) xs ≡ flat_map f (map g xs)
flat_map_mapped f g [] = refl
flat_map_mapped f g (x ∷ xs) = ap (λ t. f (g x) ++ t) (flat_map_mapped f g xs)
