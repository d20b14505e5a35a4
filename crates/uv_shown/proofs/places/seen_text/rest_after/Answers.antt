-- So many code points further on.
use Rattle.std.proofs.Common.{◌≡◌, ◌∙◌, ◌+◌, ◌-◌, ap, arith, drop}
use Rattle.std.specs.Str.{chars}
use Rattle.std.proofs.lemmas.List.{drop-drop}
use Rattle.uv_shown.proofs.places.seen_text.rest_after.Goals as goal

pub returns : goal.returns
returns c = λ text is.
    let from = c.args.spot.place in
    let count = c.args.place - from in
    let place : from + count ≡ c.args.place = omega (arith, c.requires) in
    c.rest_in.ensures ∙ (ap (drop count) is.rest ∙ (drop-drop count from (chars text)
    ∙ ap (λ n. drop n (chars text)) place))
