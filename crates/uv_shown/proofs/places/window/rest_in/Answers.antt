-- Before the place is only ASCII.
use Rattle.std.proofs.Common.{◌∙◌, ap, sym, length, subst}
use Rattle.std.specs.Str.{IsAscii, chars}
use Rattle.uv_shown.proofs.PlaceLemmas.{chars_after_ascii}
use Rattle.uv_shown.proofs.places.window.rest_in.Goals as goal

pub returns-in-Some : goal.returns-in-Some
returns-in-Some c =
    let line = c.args.line.now in
    let place = c.args.place in
    let front = c.in-Some.ensures.front in
    ap chars c.in-Some.ensures.back
    ∙ chars_after_ascii line place (ap length (sym front) ∙ c.in-Some.ensures.front_len)
    (subst IsAscii front c.if-is_ascii.ensures.cases)
