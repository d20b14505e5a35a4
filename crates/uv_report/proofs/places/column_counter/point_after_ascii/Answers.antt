-- There are as many columns as ASCII bytes.
use Rattle.std.proofs.Common.{◌≡◌, ◌∙◌, ◌+◌, ◌-◌, ap, arith, length, subst, sym, take}
use Rattle.std.specs.Str.{IsAscii, chars}
use Rattle.uv_report.proofs.ColumnLemmas.{further_is_mark}
use Rattle.uv_shown.proofs.PlaceLemmas.{ascii_points, chars_after_ascii}
use Rattle.uv_report.proofs.places.column_counter.point_after_ascii.Goals as goal

pub returns-in-Some : goal.returns-in-Some
returns-in-Some c = λ start text is.
    let line = c.args.from.rest.now in
    let count = c.args.place - c.args.from.place in
    let long : length (take count line) ≡ count =
    ap length (sym c.in-Some.ensures.front) ∙ c.in-Some.ensures.front_len in
    let ascii : IsAscii (take count line) = subst IsAscii c.in-Some.ensures.front c.if-is_ascii.ensures.cases in
    let place : c.args.place ≡ c.args.from.place + count = omega (arith, c.requires) in
    let mark =
    further_is_mark start count text c.args.from
    (record { place = c.args.place; column = c.saturating_add.result; rest = c.in-Some.rest }) is
    (ascii_points line count long ascii) (ap chars c.in-Some.ensures.back ∙ chars_after_ascii line count long ascii)
    place c.saturating_add.ensures in
    record { is_mark = mark; column = mark.column }
