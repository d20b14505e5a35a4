-- At the end of the loop the padding is below the code points before the place.
use Rattle.std.proofs.Common.{◌++◌, flat_map, string_bytes, sym, ap, ◌∙◌, map-id}
use Rattle.std.proofs.lemmas.Iterator.{YieldsList-from_chars, YieldsList-from_take}
use Rattle.std.proofs.lemmas.Iterator.Consumers.{YieldsList-end}
use Rattle.uv_report.specs.Formats.Caret.{below}
use Rattle.uv_report.proofs.formats.caret.push_each_below.Goals as goal

pub returns : goal.returns
returns c =
    let end = YieldsList-end
    (YieldsList-from_take c.args.place (YieldsList-from_chars c.args.line.now c.utf8.line cc) cc) c.loop-c.yielded _
    c.loop-c.yielded_by _ _ c.in-None.is c.next.ensures.steps in
    c.loop-c.invariant
    ∙ ap (λ cs. string_bytes c.args.text.now ++ flat_map below cs) (sym (map-id c.loop-c.yielded) ∙ end.0)
