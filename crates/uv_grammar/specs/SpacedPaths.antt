-- The opaque paths that may hold spaces, after the URL Standard, section 4.4, opaque path state.
use Rattle.std.specs.Prelude.{◌≡◌, ℕ, ◌<◌, ◌≤◌, Bool, true, false, ◌==◌, List, length}
use Rattle.uv_model.specs.declared.profile.Profile.{Profile}
use Rattle.uv_model.specs.declared.profile.Profile.TheVariants.{Parser}
use Rattle.uv_model.specs.Ascii.{space}
use Rattle.uv_model.specs.Cut.{Cut, is_followed}
use Rattle.uv_model.specs.Setting.{Setting}
use Rattle.uv_model.specs.Violations.UnitViolation.{IsTakenSpace}
use Rattle.uv_model.specs.Violations.Violation.{has_opaque_path}
use Rattle.uv_grammar.specs.declared.scan.Scan.{Scan}
use Rattle.uv_grammar.specs.declared.scan.Scan.TheVariants.{Units, SpacedUnits}

-- an opaque path may hold spaces under the parser's profile
abbrev pub may_be_spaced : Profile → Bool → Bool
may_be_spaced Parser opaque = opaque
may_be_spaced _ opaque = false

-- the path of the cut may hold spaces
abbrev pub takes_spaces : Setting → Cut → Bool
takes_spaces setting cut = may_be_spaced setting.profile (has_opaque_path setting.class cut)

-- what a path should consist of, where it may hold spaces or may not
abbrev pub units_or_spaced : Bool → Bool → Scan
units_or_spaced true followed = SpacedUnits followed
units_or_spaced false followed = Units

-- what the path of the cut should consist of
abbrev pub path_scan : Setting → Cut → Scan
path_scan setting cut = units_or_spaced (takes_spaces setting cut) (is_followed cut)

-- the code point is a space
abbrev pub is_space : ℕ → Bool
is_space c = c == space

-- so many spaces at the text's start are taken, and no space at its start is if there are none
pub record IsTakenRun (followed : Bool) (text : List ℕ) (count : ℕ) : Type 0 where
  pub fits : count ≤ length text
  pub taken : (i : ℕ) → i < count → IsTakenSpace followed text i
  pub none : count ≡ 0 → ¬ (IsTakenSpace followed text 0)
