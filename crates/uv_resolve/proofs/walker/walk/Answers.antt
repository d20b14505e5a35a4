-- If no segment is left, the walk ends with an empty segment after a dot segment.
use Rattle.std.proofs.Common.{◌≡◌, sym, ap, ◌∙◌}
use Rattle.uv_model.specs.Path.{walk}
use Rattle.uv_resolve.proofs.WalkLemmas.{after_dots, continued, walk-continued}
use Rattle.uv_resolve.proofs.walker.walk.Goals as goal
use Rattle.uv_resolve.proofs.walker.walk.Goals.{then-ends_in_dots+in_ok-push, else-ends_in_dots}

pub returns : goal.returns
returns c =
    let path = c.loop-segment.path in
    let whole : after_dots c.loop-segment.ends_in_dots path
    ≡ walk c.args.class c.args.start c.args.segments
    = ap (continued c.args.class path c.loop-segment.ends_in_dots) (sym c.in-None.ensures.steps.0)
    ∙ c.loop-segment.invariant.walked ∙ sym (walk-continued c.args.class c.args.start c.args.segments) in
    elim c.if-ends_in_dots.branch [
      | then-ends_in_dots+in_ok-push w ↦ w.path-is ∙ w.in_ok-push.ensures ∙ (rw w.if-ends_in_dots.true at whole)
      | else-ends_in_dots w ↦ w.path-is ∙ (rw w.if-ends_in_dots.false at whole)
    ]
