-- The last code point of a text, by the iterator of its code points.
use Rattle.std.proofs.Common.{ap, encode_utf8, sym, ◌∙◌, ◌++◌}
use Rattle.std.specs.Str.{chars}
use Rattle.std.proofs.lemmas.List.{nil_from_length}
use Rattle.std.proofs.lemmas.Str.{chars-nil}
use Rattle.uv_mend.proofs.TextLemmas.{last_point}
use Rattle.uv_mend.proofs.code_points.last_code_point.Goals as goal

pub returns-in-Some : goal.returns-in-Some
returns-in-Some c =
    let steps = rw c.chars-left.ensures.rest at c.in-Some.ensures.steps in
    last_point c.args.text.now c.as_str.result.now c.in-Some.c c.utf8.text c.as_str.utf8
    (steps ∙ ap (λ t. t ++ encode_utf8 c.in-Some.c) (sym c.as_str.ensures))

pub returns-in-None : goal.returns-in-None
returns-in-None c =
    let steps = rw c.chars-left.ensures.rest at c.in-None.ensures.steps in
    ap chars (nil_from_length c.args.text.now steps.0) ∙ chars-nil
