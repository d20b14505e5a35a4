-- Paths: the text of joined segments.
use Rattle.std.proofs.Common.{◌≡◌, ℕ, true, false, List, [], ◌∷◌, refl, ◌∙◌, ◌==◌}
use Rattle.std.specs.Prelude.{if◌then◌else◌}
use Rattle.std.specs.List.{join_with_byte}
use Rattle.std.proofs.lemmas.Bool.{and_from}
use Rattle.std.proofs.lemmas.List.Folds.{list_all-append}
use Rattle.uv_model.specs.Ascii.{slash, question_mark}
use Rattle.uv_model.specs.Path.{AreSegments, is_without}
use Rattle.uv_model.specs.Units.{IsUnits, is_url_code_point}
use Rattle.uv_model.proofs.Texts.UnitsLemmas.{IsUnits-joined, IsUnits-nil}

-- `/` is a URL code point
pub slash_is_url : is_url_code_point slash ≡ true
unfolding is_url_code_point
slash_is_url = refl

-- segments with `/` between each two are units
pub IsUnits-join : (segments : List (List ℕ)) → AreSegments segments → IsUnits (join_with_byte slash segments)
IsUnits-join [] each = IsUnits-nil
IsUnits-join (segment ∷ []) each = each.0.units
IsUnits-join (segment ∷ next ∷ rest) each =
    IsUnits-joined slash segment (join_with_byte slash (next ∷ rest)) slash_is_url each.0.units
    (IsUnits-join (next ∷ rest) each.1)

-- no `?` is in segments with `/` between each two
pub no_question_mark-join : (segments : List (List ℕ)) → AreSegments segments
    → is_without question_mark (join_with_byte slash segments) ≡ true
no_question_mark-join [] each = refl
no_question_mark-join (segment ∷ []) each = each.0.no_question_mark
no_question_mark-join (segment ∷ next ∷ rest) each =
    list_all-append (λ c. if c == question_mark then false else true) segment
    (slash ∷ join_with_byte slash (next ∷ rest))
    ∙ and_from _ _ each.0.no_question_mark (no_question_mark-join (next ∷ rest) each.1)
