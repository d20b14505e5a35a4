-- An opaque path of URL units has no space, so that nothing of it is escaped at its end.
use Rattle.std.proofs.Common.{◌≡◌, ℕ, Bool, true, false, ◌==◌, List, [], ◌∷◌, refl, ap, inl, inr, eqb-true}
use Rattle.std.proofs.lemmas.Bool.{cases_Bool, and_parts, false≢true}
use Rattle.uv_model.specs.Ascii.{space}
use Rattle.uv_model.specs.Path.{IsPathRelative}
use Rattle.uv_model.specs.Records.Denote.{end_escaped}
use Rattle.uv_model.specs.Units.{is_faultless, is_unit_at, is_url_code_point}
use Rattle.uv_model.proofs.Paths.JoinedSegments.{faultless_path}

-- a space is always a fault of units
pub unit_not_space : (c : ℕ) (rest : List ℕ) → is_unit_at c rest ≡ true → (c == space) ≡ false
unfolding is_unit_at is_url_code_point
unit_not_space c rest ok =
    elim (cases_Bool (c == space)) [
      | inl same ↦ absurd (false≢true (rw (eqb-true c space same) at ok))
      | inr other ↦ other
    ]

-- a text without a fault of units stays
pub end_escaped-units : (followed : Bool) (text : List ℕ) → is_faultless text ≡ true
    → end_escaped followed text ≡ text
end_escaped-units followed [] units = refl
end_escaped-units followed (c ∷ []) units =
    rw (unit_not_space c [] (and_parts (is_unit_at c []) true units).0) refl
end_escaped-units followed (c ∷ next ∷ rest) units =
    ap (λ cs. c ∷ cs)
    (end_escaped-units followed (next ∷ rest) (and_parts (is_unit_at c (next ∷ rest)) _ units).1)

-- and so does a path-relative string
pub end_escaped-opaque : (followed : Bool) (segments : List (List ℕ)) (text : List ℕ) → IsPathRelative segments text
    → end_escaped followed text ≡ text
end_escaped-opaque followed segments text path =
    end_escaped-units followed text (faultless_path segments text path)
