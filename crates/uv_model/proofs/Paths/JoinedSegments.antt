-- A path-relative string is units, and has no `?`.
use Rattle.std.proofs.Common.{◌≡◌, ℕ, true, List}
use Rattle.uv_model.specs.Ascii.{question_mark}
use Rattle.uv_model.specs.Path.{IsPathRelative, JoinsTo, is_without}
use Rattle.uv_model.specs.Units.{is_faultless}
use Rattle.uv_model.proofs.Paths.PathLemmas.{IsUnits-join, no_question_mark-join}
use Rattle.uv_model.proofs.Texts.UnitsLemmas.{is_faultless-units}

-- joined segments have no fault of units
pub faultless_joined : (segments : List (List ℕ)) (text : List ℕ) → JoinsTo segments text → is_faultless text ≡ true
faultless_joined segments text joins = is_faultless-units text (rw joins.joined (IsUnits-join segments joins.each))

-- a path-relative string has none either
pub faultless_path : (segments : List (List ℕ)) (text : List ℕ) → IsPathRelative segments text
    → is_faultless text ≡ true
faultless_path segments text path = faultless_joined segments text path.joins

-- a path-relative string has no `?`
pub without_path : (segments : List (List ℕ)) (text : List ℕ) → IsPathRelative segments text
    → is_without question_mark text ≡ true
without_path segments text path = rw path.joins.joined (no_question_mark-join segments path.joins.each)
