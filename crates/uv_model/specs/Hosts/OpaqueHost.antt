-- Opaque hosts, after the URL Standard, sections 3.2 and 3.4.
use Rattle.std.specs.Prelude.{◌≡◌, ℕ, Bool, true, false, not, ◌==◌, List, [], ◌∷◌, codes}
use Rattle.std.specs.List.{list_all, list_any}
use Rattle.uv_model.specs.Ascii.{left_bracket}
use Rattle.uv_model.specs.Units.{IsUnits}

-- a forbidden host code point: U+0000, tab, LF, CR, space and `# / : < > ? @ [ \ ] ^ |`
abbrev pub is_forbidden_host : ℕ → Bool
is_forbidden_host c = list_any (λ b. b == c) (0 ∷ 9 ∷ 10 ∷ 13 ∷ codes " #/:<>?@[\\]^|")

-- an opaque-host string without brackets: one URL unit or more, and no forbidden host code point
pub record IsOpaqueHost (text : List ℕ) : Type 0 where
  pub first : ℕ
  pub rest : List ℕ
  pub some : text ≡ first ∷ rest
  pub units : IsUnits text
  pub permitted : list_all (λ c. not (is_forbidden_host c)) text ≡ true

-- the text begins with `[`
abbrev pub starts_with_bracket : List ℕ → Bool
starts_with_bracket [] = false
starts_with_bracket (c ∷ rest) = c == left_bracket
