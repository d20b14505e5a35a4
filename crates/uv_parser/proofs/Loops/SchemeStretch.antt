-- The parser machine over a text's scheme: it leads to the scheme's `:` with the scheme in lower case in the buffer.
use Rattle.std.proofs.Common.{◌≡◌, ℕ, true, List, [], ◌∷◌, ◌++◌, Option, Some, None, refl, ap}
use Rattle.std.specs.List.{list_all}
use Rattle.std.specs.Char.{is_ascii_alphabetic, to_ascii_lowercase}
use Rattle.std.proofs.lemmas.Bool.{false≢true, and_parts}
use Rattle.uv_model.specs.Ascii.{colon}
use Rattle.uv_model.specs.Scheme.{is_scheme, is_scheme_code_point, lowercase, scheme_class}
use Rattle.uv_model.specs.Records.Url.{Url}
use Rattle.uv_model.specs.Valid.{FitsScheme}
use Rattle.uv_parser.specs.Machine.{Variables, turn, SchemeStartState, SchemeState, put, with_more, with_scheme}
use Rattle.uv_parser.specs.Machine.{after_scheme, empty_variables}
use Rattle.uv_model.proofs.SchemeLemmas.{scheme_class-lowercase}
use Rattle.uv_parser.proofs.Running.Steps.{Reaches, onward_then}
use Rattle.uv_parser.proofs.Loops.Looping.{scheme_law}

-- where a form has a scheme the parts have one
pub scheme_there : (scheme : Option (List ℕ)) → FitsScheme true scheme
    → (name : List ℕ) × (scheme ≡ Some name) × (is_scheme name ≡ true)
scheme_there (Some name) fits = (name, refl, fits)
scheme_there None fits = absurd fits

-- the variables after the `:` of a scheme
abbrev pub scheme_variables : List ℕ → Variables
scheme_variables scheme = with_scheme (lowercase scheme) empty_variables

module _ (base : Option Url) where
  -- from the first place the steps lead to the `:`
  pub scheme_stretch : (scheme rest : List ℕ) → is_scheme scheme ≡ true
      → Reaches base SchemeStartState empty_variables (scheme ++ rest)
      SchemeState (with_more (lowercase scheme) empty_variables) rest
  scheme_stretch [] rest ok = absurd (false≢true ok)
  scheme_stretch (c ∷ cs) rest ok =
      let parts = and_parts (is_ascii_alphabetic c) (list_all is_scheme_code_point cs) ok in
      onward_then base (λ p. rw parts.0 refl)
      (scheme_law base cs rest (put (to_ascii_lowercase c) empty_variables) parts.1)

  -- the row of the `:` goes by the scheme's class
  pub colon_row : (scheme rest : List ℕ) (p : ℕ)
      → turn base SchemeState p (with_more (lowercase scheme) empty_variables) (colon ∷ rest)
      ≡ after_scheme base (scheme_class scheme) p (scheme_variables scheme) rest
  colon_row scheme rest p =
      ap (λ class. after_scheme base class p (scheme_variables scheme) rest) (scheme_class-lowercase scheme)
