-- The faults of a text that should be URL units, after the URL Standard, section 4.3.
use Rattle.std.specs.Prelude.{◌≡◌, ◌≢◌, ℕ, Bool, true, false, List, [], ◌∷◌, drop, ◌==◌, ◌&&◌, if◌then◌else◌}
use Rattle.uv_model.specs.declared.profile.Profile.{Profile}
use Rattle.uv_model.specs.declared.profile.Profile.TheVariants.{Parser}
use Rattle.uv_model.specs.declared.rule.Rule.{Rule}
use Rattle.uv_model.specs.declared.rule.Rule.TheVariants.{CodePoint, Percent}
use Rattle.uv_model.specs.Ascii.{percent_sign, space}
use Rattle.uv_model.specs.Units.{is_url_code_point, starts_with_two_hex}

-- at the place is `%`, and two hex digits don't follow it
pub record HasBarePercent (text : List ℕ) (place : ℕ) : Type 0 where
  pub rest : List ℕ
  pub here : drop place text ≡ percent_sign ∷ rest
  pub bare : starts_with_two_hex rest ≡ false

-- at the place is neither a URL code point nor `%`
pub record HasForeignCodePoint (text : List ℕ) (place : ℕ) : Type 0 where
  pub code_point : ℕ
  pub rest : List ℕ
  pub here : drop place text ≡ code_point ∷ rest
  pub foreign : is_url_code_point code_point ≡ false
  pub no_escape : code_point ≢ percent_sign

-- the rules that a path, a query or a fragment can violate by what it holds
abbrev pub UnitViolation : List ℕ → ℕ → Rule → Type 0
UnitViolation text place CodePoint = HasForeignCodePoint text place
UnitViolation text place Percent = HasBarePercent text place
UnitViolation text place _ = ⊥

-- the text has only spaces
abbrev pub only_spaces : List ℕ → Bool
only_spaces [] = true
only_spaces (c ∷ rest) = (c == space) && only_spaces rest

-- A space at the place of an opaque path that the parser takes: another code point than a space follows it somewhere,
-- or a query or a fragment. The parser removes the spaces at a text's end (section 4.4, basic URL parser), so each of
-- them is a violation.
pub record IsTakenSpace (followed : Bool) (text : List ℕ) (place : ℕ) : Type 0 where
  pub rest : List ℕ
  pub here : drop place text ≡ space ∷ rest
  pub after : followed ≡ false → only_spaces rest ≡ false

-- the rules that a path can violate by what it holds: under the parser's profile an opaque one may hold spaces
abbrev pub PathUnitViolation : Profile → Bool → Bool → List ℕ → ℕ → Rule → Type 0
PathUnitViolation Parser true followed text place rule =
    UnitViolation text place rule × ¬ (IsTakenSpace followed text place)
PathUnitViolation _ _ followed text place rule = UnitViolation text place rule

-- the rule that a code point violates where it and what follows it aren't unit
abbrev pub unit_rule : ℕ → Rule
unit_rule c = if c == percent_sign then Percent else CodePoint
