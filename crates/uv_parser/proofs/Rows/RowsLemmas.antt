-- Tables are proved by one computation.
use Rattle.std.proofs.Common.{◌≡◌, List, [], ◌∷◌, map, ap}
use Rattle.uv_parser.specs.Rows.{Row, Agree, AllHold, computed}

-- two functions agree on each item of a table where they give the same column
pub agree : {R A : Type 0} → (f g : R → A) (rows : List R) → map f rows ≡ map g rows → Agree f g rows
agree f g [] e = tt
agree {R} {A} f g (row ∷ rows) e = (ap (λ xs. first xs) e, agree f g rows (ap rest e))
  where
    first : List A → A
    first [] = f row
    first (x ∷ xs) = x

    rest : List A → List A
    rest [] = []
    rest (x ∷ xs) = xs

-- a table of runs holds where its column of answers is what the machine gives
pub all_hold : (rows : List Row) → map computed rows ≡ map (λ row. row.answer) rows → AllHold rows
all_hold rows e = agree computed (λ row. row.answer) rows e
