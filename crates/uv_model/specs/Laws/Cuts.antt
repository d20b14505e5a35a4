-- The laws of cuts and of violations, each over every base and every text.
use Rattle.std.specs.Prelude.{◌≡◌, ◌↔◌, ℕ, true, List, ◌∷◌, ◌++◌, Option}
use Rattle.uv_model.specs.declared.profile.Profile.{Profile}
use Rattle.uv_model.specs.Records.Url.{Url}
use Rattle.uv_model.specs.Parts.{Parts}
use Rattle.uv_model.specs.Valid.{Valid}
use Rattle.uv_model.specs.Scheme.{starts_with_scheme}
use Rattle.uv_model.specs.declared.rule.Rule.{Rule}
use Rattle.uv_model.specs.Violations.Violation.{Violation}
use Rattle.uv_model.specs.Ascii.{left_bracket, right_bracket}
use Rattle.uv_model.specs.Cut.{Cut, IsCut, cut_of, ends_within, texts_of}
use Rattle.uv_model.specs.Path.{is_without}

-- the computed cut is a cut of the text, and each cut of the text is the computed one
pub record HasOneCut (base : Option Url) (text : List ℕ) : Type 0 where
  pub is : IsCut base text (cut_of base text)
  pub only : (other : Cut) → IsCut base text other → other ≡ cut_of base text

-- every text has exactly one cut
abbrev pub EveryTextHasOneCut : Type 0
EveryTextHasOneCut = (base : Option Url) (text : List ℕ) → HasOneCut base text

-- the cut of a valid text has the texts of its parts
abbrev pub ValidTextsAreCutIntoTheirParts : Type 0
ValidTextsAreCutIntoTheirParts =
    (profile : Profile) (base : Option Url) (text : List ℕ) (parts : Parts) → Valid profile base text parts
    → IsCut base text (texts_of parts)

-- the text has the same cut, the same valid parts and the same violations against every base
pub record IgnoresTheBase (text : List ℕ) : Type 0 where
  pub cut : (base other : Option Url) → cut_of base text ≡ cut_of other text
  pub valid :
      (profile : Profile) (base other : Option Url) (parts : Parts)
      → Valid profile base text parts → Valid profile other text parts
  pub violation :
      (profile : Profile) (base other : Option Url) (place : ℕ) (rule : Rule)
      → Violation profile base text place rule → Violation profile other text place rule

-- a text with a scheme is checked without looking at the base
abbrev pub TextsWithASchemeIgnoreTheBase : Type 0
TextsWithASchemeIgnoreTheBase = (text : List ℕ) → starts_with_scheme text ≡ true → IgnoresTheBase text

-- a text with a violation has no valid parts
abbrev pub TextsWithAViolationHaveNoParts : Type 0
TextsWithAViolationHaveNoParts =
    (profile : Profile) (base : Option Url) (text : List ℕ) (place : ℕ) (rule : Rule)
    → Violation profile base text place rule → (parts : Parts) → ¬ (Valid profile base text parts)

-- the parts of a valid text are unique
abbrev pub PartsAreUnique : Type 0
PartsAreUnique =
    (profile : Profile) (base : Option Url) (text : List ℕ) (p q : Parts)
    → Valid profile base text p → Valid profile base text q → p ≡ q

-- the text has a `[` after which no bracket follows
pub record EndsAfterOpenBracket (text : List ℕ) : Type 0 where
  pub before : List ℕ
  pub inner : List ℕ
  pub spelled : text ≡ before ++ left_bracket ∷ inner
  pub none_opens : is_without left_bracket inner ≡ true
  pub none_closes : is_without right_bracket inner ≡ true

-- a place is within brackets exactly when the nearest bracket before it is `[`, so that the port of an authority is
-- after its first `:` of which that isn't so
abbrev pub NearestBracketsDecide : Type 0
NearestBracketsDecide = (text : List ℕ) → (ends_within text ≡ true) ↔ EndsAfterOpenBracket text
