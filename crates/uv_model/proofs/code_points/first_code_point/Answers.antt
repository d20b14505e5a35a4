-- The first code point of a text, by the iterator of its code points.
use Rattle.std.proofs.Common.{ap, ◌∙◌}
use Rattle.std.specs.Str.{chars}
use Rattle.std.proofs.lemmas.List.{nil_from_length}
use Rattle.std.proofs.lemmas.Str.{chars-nil, chars_past_char}
use Rattle.uv_model.proofs.code_points.first_code_point.Goals as goal

pub returns-in-Some : goal.returns-in-Some
returns-in-Some c =
    let steps = rw c.chars-left.ensures.rest at c.in-Some.ensures.steps in
    rw c.as_str.ensures (chars_past_char c.args.text.now _ c.in-Some.c c.utf8.text steps.0)

pub returns-in-None : goal.returns-in-None
returns-in-None c =
    let steps = rw c.chars-left.ensures.rest at c.in-None.ensures.steps in
    ap chars (nil_from_length c.args.text.now steps.0.0) ∙ chars-nil
