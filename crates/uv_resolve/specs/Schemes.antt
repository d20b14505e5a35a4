-- Schemes by their names, which they have in lower case (URL Standard, section 4.4).
use Rattle.std.specs.Prelude.{◌≡◌, ℕ, List}
use Rattle.uv_model.specs.declared.scheme.Class.{Class}
use Rattle.uv_model.specs.Scheme.{lowercase, scheme_class}

-- a scheme of this class, written as its name
pub record IsKnownScheme (scheme : List ℕ) (class : Class) (name : List ℕ) : Type 0 where
  pub classed : scheme_class scheme ≡ class
  pub lower : lowercase scheme ≡ name
  pub own : scheme ≡ name
