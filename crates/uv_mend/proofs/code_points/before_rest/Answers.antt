-- The slice before the rest.
use Rattle.std.proofs.Common.{◌-◌, ◌∙◌, ap, chars, length}
use Rattle.uv_text.proofs.SplitsLemmas.{prefix_slice}
use Rattle.uv_mend.proofs.TextLemmas.{cut_before}
use Rattle.uv_mend.proofs.code_points.before_rest.Goals as goal

pub overflow_sub-text : goal.overflow_sub-text
overflow_sub-text c =
    (cut_before c.args.text.now c.args.rest.now c.requires.0 c.utf8.text c.utf8.rest c.requires.1).inside

pub range-requires-clause-end_boundary : goal.range-requires-clause-end_boundary
range-requires-clause-end_boundary c =
    (cut_before c.args.text.now c.args.rest.now c.requires.0 c.utf8.text c.utf8.rest c.requires.1).boundary

pub returns : goal.returns
returns c = λ before is.
    let text = c.args.text.now in
    let rest = c.args.rest.now in
    ap chars (c.range.ensures.value ∙ prefix_slice text (length text - length rest))
    ∙ (cut_before text rest before c.utf8.text c.utf8.rest is).prefix
