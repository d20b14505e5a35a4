-- The first code point from the place on.
use Rattle.std.proofs.Common.{◌∙◌, ap, sym, slice_get}
use Rattle.std.specs.Str.{chars}
use Rattle.uv_shown.proofs.PlaceLemmas.{slice_get_first}
use Rattle.uv_shown.proofs.places.seen_text.SeenText.point_at.Goals as goal

pub returns-in-Some : goal.returns-in-Some
returns-in-Some c =
    ap (λ cs. slice_get cs 0) (sym c.in-Some.ensures ∙ c.rest_at.ensures)
    ∙ slice_get_first (chars c.args.self.now) c.args.place

pub returns-in-None : goal.returns-in-None
returns-in-None c =
    ap (λ cs. slice_get cs 0) (sym c.in-None.ensures ∙ c.rest_at.ensures)
    ∙ slice_get_first (chars c.args.self.now) c.args.place
