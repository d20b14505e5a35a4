-- The segments of a path are without `/`.
use Rattle.std.proofs.Common.{◌≡◌, ◌∙◌, sym, subst, true, List, ℕ}
use Rattle.std.specs.List.{list_all}
use Rattle.uv_model.specs.Ascii.{slash}
use Rattle.uv_model.specs.Path.{is_without}
use Rattle.uv_resolve.proofs.PathTextLemmas.{unslashed_by_form}
use Rattle.uv_resolve.proofs.paths.walked.Goals as goal

pub walk-requires : goal.walk-requires
walk-requires c =
    subst (λ (segments : List (List ℕ)). list_all (is_without slash) segments ≡ true)
    (sym (c.segments-segments.ensures.segments ∙ c.segments-segments.ensures.text))
    (unslashed_by_form c.args.parts.now.form c.args.parts.now.path_text)
