-- At the end of the loop the code points were pushed.
use Rattle.std.proofs.Common.{◌++◌, flat_map, string_bytes, encode_utf8, sym, ap, ◌∙◌, map-id}
use Rattle.std.proofs.lemmas.Iterator.{YieldsList-from_chars, YieldsList-from_take}
use Rattle.std.proofs.lemmas.Iterator.Consumers.{YieldsList-end}
use Rattle.uv_shown.proofs.places.window.push_points.Goals as goal

pub returns : goal.returns
returns c =
    let end = YieldsList-end
    (YieldsList-from_take 198 (YieldsList-from_chars c.args.from.now c.utf8.from cc) cc) c.loop-c.yielded _
    c.loop-c.yielded_by _ _ c.in-None.is c.next.ensures.steps in
    c.loop-c.invariant
    ∙ ap (λ cs. string_bytes c.args.text.now ++ flat_map encode_utf8 cs) (sym (map-id c.loop-c.yielded) ∙ end.0)
