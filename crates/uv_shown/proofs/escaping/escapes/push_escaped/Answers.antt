-- At the end of the loop each code point of the source is with its escape.
use Rattle.std.proofs.Common.{◌++◌, flat_map, string_bytes, sym, ap, ◌∙◌, map-id}
use Rattle.std.proofs.lemmas.Iterator.{YieldsList-from_chars}
use Rattle.std.proofs.lemmas.Iterator.Consumers.{YieldsList-end}
use Rattle.uv_shown.specs.Escaping.Escapes.{escape, escaped}
use Rattle.uv_shown.proofs.escaping.escapes.push_escaped.Goals as goal

pub returns : goal.returns
unfolding escaped
returns c =
    let end = YieldsList-end (YieldsList-from_chars c.args.source.now c.utf8.source cc) c.loop-c.yielded _
    c.loop-c.yielded_by _ _ c.in-None.is c.next.ensures.steps in
    c.loop-c.invariant
    ∙ ap (λ cs. string_bytes c.args.text.now ++ flat_map (escape c.args.escapes) cs)
    (sym (map-id c.loop-c.yielded) ∙ end.0)
